use Rattle.std.proofs.Common.{length}
use Rattle.sa_lines.specs.Quotes.{quoted_at}
use Rattle.sa_lines.proofs.QuoteLemmas.{Still}
use Rattle.sa_lines.proofs.quote.quoted_at.Given as goal

abbrev pub invariant-pieces : goal.invariant-pieces
invariant-pieces l = Still l.out.items l.rest (quoted_at l.bytes)

abbrev pub decreases-pieces : goal.decreases-pieces
decreases-pieces l = length l.rest
