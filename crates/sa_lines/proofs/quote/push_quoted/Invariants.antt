use Rattle.std.proofs.Common.{◌≡◌, ◌∷◌, ◌++◌, length}
use Rattle.std.specs.Io.{StartsWith}
use Rattle.std.specs.List.{flat_map}
use Rattle.sa_lines.proofs.QuoteLemmas.{byte_piece}
use Rattle.sa_lines.proofs.quote.push_quoted.Given as goal

abbrev pub invariant-pieces : goal.invariant-pieces
invariant-pieces l = record {
  written : l.out.items ++ flat_map byte_piece l.rest ≡ l.fn.out.items ++ (34 ∷ flat_map byte_piece l.text);
  begins : StartsWith l.out.items l.fn.out.items;
}

abbrev pub decreases-pieces : goal.decreases-pieces
decreases-pieces l = length l.rest
