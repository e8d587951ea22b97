-- Zeros behind the buffer, and places for the extents that fit into it.
use Rattle.std.proofs.Common.{◌≡◌, ◌∙◌, ◌-◌, ◌++◌, ℕ, List, length, replicate, vec_capacity, ap, arith, length-append}
use Rattle.std.proofs.lemmas.List.{length-replicate}
use Rattle.sa_arena.specs.Members.{Holds}
use Rattle.sa_arena.proofs.HoldsLemmas.{opened, closed, same_extents, table_least, grown}
use Rattle.sa_arena.proofs.arena.Arena.reserve.Goals as goal

pub overflow_sub-places : goal.overflow_sub-places
overflow_sub-places c =
    let h = opened c.self.invariant c.self.view_is in
    let least = table_least h in
    let n = c.self.inside.table.ok.0 in
    omega arith

-- the longer buffer and the table hold the extents
held : (c : goal.After-fill) → Holds (record { extents = c.args.self.now.extents; size = length c.fill.new.bytes.items }) c.reserve_exact-2.new.self.items c.fill.new.bytes.items c.self.inside.cursor c.self.inside.live (vec_capacity c.reserve_exact-2.new.self)
held c =
    let h = opened c.self.invariant c.self.view_is in
    let zeros : List ℕ = replicate (c.max-grown.result - c.reserve_exact.new.self.len) 0 in
    let bytes : c.fill.new.bytes.items ≡ c.self.inside.bytes.items ++ zeros = c.fill.ensures ∙ ap (λ (x : List ℕ). x ++ zeros) c.reserve_exact.ensures.items in
    let long = ap length bytes ∙ length-append c.self.inside.bytes.items zeros in
    let behind : length zeros ≡ c.max-grown.result - c.reserve_exact.new.self.len = length-replicate (c.max-grown.result - c.reserve_exact.new.self.len) 0 in
    let n = c.self.inside.bytes.ok.0 in
    let same = c.reserve_exact.ensures.len in
    let all : length c.fill.new.bytes.items ≡ c.max-grown.result = omega arith in
    let before = h.most_places in
    let exact = c.in_ok-reserve_exact-2.ensures.capacity_exact in
    let m = c.self.inside.table.ok.0 in
    let least = table_least h in
    grown h zeros c.fill.new.bytes.items _ _ bytes c.reserve_exact-2.ensures.items (omega arith) (omega arith)

pub invariant_of-self-2 : goal.invariant_of-self-2
invariant_of-self-2 c = closed (held c)

pub returns-clause-extents : goal.returns-clause-extents
returns-clause-extents c = same_extents (held c)
