use Rattle.std.proofs.Common.{◌≡◌, ◌++◌, take, ◌∷◌}
use Rattle.std.specs.List.{flat_map}
use Rattle.std.proofs.Common.{codes}
use Rattle.sa_plain.specs.Written.{hex_bytes}
use Rattle.sa_report.proofs.picture.push_picture.Given as goal

abbrev pub invariant-loop-entry : goal.invariant-loop-entry
invariant-loop-entry l = l.out.items ≡ (l.fn.out.items ++ codes "picture") ++ flat_map (λ e. 32 ∷ hex_bytes e) (take l.entry-index l.fn.picture.entries)
