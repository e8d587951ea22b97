use Rattle.std.proofs.Common.{◌≡◌, All, length}
use Rattle.sa_journal.specs.Journals.{IsFresh}
use Rattle.sa_work.proofs.tasks.new_ties.Given as goal

abbrev pub invariant-loop : goal.invariant-loop
invariant-loop l = record { fresh : All IsFresh l.ties; count : length l.ties ≡ l.counter }
