use Rattle.std.proofs.Common.{◌≡◌, ◌≤◌, ◌+◌, IsUtf8, length}
use Rattle.std.specs.Str.{chars}
use Rattle.sa_search.specs.Counts.{count_of}
use Rattle.sa_search.proofs.counts.count_in.Given as goal

abbrev pub invariant-found : goal.invariant-found
invariant-found l = record {
  utf8 : IsUtf8 l.rest;
  most : l.count ≤ l.most;
  so_far : l.count + count_of (chars l.part) 0 (chars l.rest) ≡ count_of (chars l.part) 0 (chars l.bytes);
}

abbrev pub decreases-found : goal.decreases-found
decreases-found l = length l.rest
