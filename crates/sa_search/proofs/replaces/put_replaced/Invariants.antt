use Rattle.std.proofs.Common.{◌≡◌, ◌≤◌, ◌++◌, IsUtf8}
use Rattle.std.specs.Str.{chars}
use Rattle.sa_text.specs.Texts.{text_size}
use Rattle.sa_search.specs.Counts.{count_of}
use Rattle.sa_search.specs.Replaces.{replaced}
use Rattle.sa_search.proofs.replaces.put_replaced.Given as goal

abbrev pub invariant-places : goal.invariant-places
invariant-places l = record {
  utf8 : IsUtf8 l.rest;
  counted : l.left ≤ count_of (chars l.part) 0 (chars l.rest);
  fits : text_size (replaced (chars l.part) (chars l.new) l.left 0 (chars l.rest)) ≤ l.text.room;
  so_far : l.text.text ++ replaced (chars l.part) (chars l.new) l.left 0 (chars l.rest) ≡ l.fn.text.text ++ replaced (chars l.part) (chars l.new) l.times 0 (chars l.bytes);
}

abbrev pub decreases-places : goal.decreases-places
decreases-places l = l.left
