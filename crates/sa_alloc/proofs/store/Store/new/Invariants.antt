use Rattle.std.proofs.Common.{◌≡◌, ◌<◌, ℕ, sum, take, get_or, vec_len}
use Rattle.sa_alloc.proofs.store.Store.new.Given as goal

abbrev pub invariant-loop-length : goal.invariant-loop-length
invariant-loop-length l = record {
  total : l.total ≡ sum (take l.length-index l.lengths);
  count : vec_len l.starts ≡ l.length-index;
  starts : (k : ℕ) → k < l.length-index → get_or l.starts.items k 0 ≡ sum (take k l.lengths);
}
