use Rattle.std.proofs.Common.{◌≡◌, ◌<◌, ◌++◌}
use Rattle.std.specs.List.{AllByRecursion}
use Rattle.sa_journal.specs.Chains.{chain_of}
use Rattle.sa_journal.specs.Journals.{IsOf}
use Rattle.sa_journal.specs.declared.party.Party.TheVariants.{Task}
use Rattle.sa_hall.specs.Passes.{PassValue}
use Rattle.sa_work.proofs.gather.compared.Given as goal

abbrev pub invariant-loop-pass : goal.invariant-loop-pass
invariant-loop-pass g l = record {
  split : l.yielded ++ l.pass-iterator.rest.items ≡ l.fn.passes.items;
  all : l.all.items ≡ l.yielded;
  ended : l.ended ≡ l.fn.ended;
  of : AllByRecursion (λ (p : PassValue g.row.D.Denot). IsOf l.fn.ended.roll l.fn.ended.ties l.fn.ended.descrs p.it.chain × (p.it.task < l.fn.ended.tasks)) l.pass-iterator.rest.items;
  whole : AllByRecursion (λ (p : PassValue g.row.D.Denot). p.it.chain.lines ≡ chain_of g.D.Deed.said (Task p.it.task) l.fn.ended.lines) l.yielded;
}
