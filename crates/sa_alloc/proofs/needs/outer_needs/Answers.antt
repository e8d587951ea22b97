use Rattle.std.proofs.Common.{arith, rules}
use Rattle.sa_arena.proofs.ExtentLemmas.{prefix_size-most}
use Rattle.sa_alloc.proofs.needs.outer_needs.Goals as goal

pub overflow_add-result : goal.overflow_add-result
overflow_add-result c =
    let most = prefix_size-most c.args.size in
    let prefix = c.prefix_len.ensures in
    search rules

pub returns-in-Fresh-clause-most : goal.returns-in-Fresh-clause-most
returns-in-Fresh-clause-most c =
    let most = prefix_size-most c.args.size in
    let prefix = c.prefix_len.ensures in
    omega arith
