-- One more descriptor: the call is on it or not.
use Rattle.std.proofs.Common.{ℕ, ◌<◌, ◌≤◌, List, length, sym, ap, ◌∙◌, subst, arith}
use Rattle.std.specs.List.{All}
use Rattle.sa_call.specs.Told.{is_named}
use Rattle.sa_loop.proofs.HomeLemmas.{home-above, home-more, home-other, home-room}
use Rattle.sa_loop.proofs.call_homes.homes.Goals as goal
use Rattle.sa_loop.proofs.call_homes.homes.Goals.{then-is_named, else-is_named}

pub add-requires-clause-room : goal.add-requires-clause-room
add-requires-clause-room c =
    let n = c.loop-number.number in
    let named = sym c.is_named.ensures ∙ c.if-is_named.true in
    subst (λ (ds : List ℕ). length ds < 5) (sym c.loop-number.invariant) (home-room c.args.decls.now c.args.call.now n c.requires (omega (arith, c.loop-number-test.true, ap length c.descrs-count.ensures)) named)

pub add-requires-clause-above : goal.add-requires-clause-above
add-requires-clause-above c =
    let n = c.loop-number.number in
    subst (λ (ds : List ℕ). All (λ m. m < n) ds) (sym c.loop-number.invariant) (home-above (is_named c.args.decls.now c.args.call.now) n)

pub loop-number-preserved : goal.loop-number-preserved
loop-number-preserved c =
    let l = c.loop-number in
    let p = is_named c.args.decls.now c.args.call.now in
    elim c.if-is_named.branch [
      | then-is_named w ↦ home-more p l.number l.homes c.if-is_named.homes l.invariant (sym c.is_named.ensures ∙ w.if-is_named.true) (w.homes-is ∙ w.add.ensures)
      | else-is_named w ↦ home-other p l.number l.homes c.if-is_named.homes l.invariant (sym c.is_named.ensures ∙ w.if-is_named.false) w.homes-is
    ]
