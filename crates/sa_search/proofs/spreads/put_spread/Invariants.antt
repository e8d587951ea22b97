use Rattle.std.proofs.Common.{◌≡◌, ◌≤◌, ◌++◌, IsUtf8}
use Rattle.std.specs.Str.{chars}
use Rattle.sa_text.specs.Texts.{text_size}
use Rattle.sa_search.specs.Replaces.{spread}
use Rattle.sa_search.proofs.spreads.put_spread.Given as goal

abbrev pub invariant-places : goal.invariant-places
invariant-places l = record {
  utf8 : IsUtf8 l.rest;
  fits : text_size (spread (chars l.new) l.left (chars l.rest)) ≤ l.text.room;
  so_far : l.text.text ++ spread (chars l.new) l.left (chars l.rest) ≡ l.fn.text.text ++ spread (chars l.new) l.times (chars l.bytes);
}

abbrev pub decreases-places : goal.decreases-places
decreases-places l = l.left
