use Rattle.std.proofs.Common.{◌≤◌, is_some, ap, arith}
use Rattle.std.proofs.lemmas.List.Elements.{All-from_recursion}
use Rattle.sa_call.specs.Calls.{operand_count}
use Rattle.sa_call.proofs.CountLemmas.{operands-few}
use Rattle.sa_call.proofs.OpLemmas.{few-operands, on-group}
use Rattle.sa_call.proofs.evaluating.made.Goals as goal

pub elements_in-requires-clause-short : goal.elements_in-requires-clause-short
elements_in-requires-clause-short c =
    let r = c.requires in
    All-from_recursion (λ o. operand_count o ≤ 8192) c.args.call.now.operands (operands-few c.args.decls.now c.args.call.now.operands r.declared r.call.views r.call.literals)

pub elements_in-requires-clause-few : goal.elements_in-requires-clause-few
elements_in-requires-clause-few c =
    let call = c.args.call.now in
    let few = few-operands call.op call.operands (on-group call.op (ap is_some c.requires.group)) c.requires.call.sorts in
    omega arith
