use Rattle.std.proofs.Common.{◌≡◌, ◌<◌, ℕ, length, ap, sym, ◌∙◌, subst, [], ◌∷◌, Result, Ok, Err, Option, Some}
use Rattle.std.specs.Result.{OnOk, OnErr}
use Rattle.sa_hall.specs.Contents.{Contents, after_writes}
use Rattle.sa_view.specs.declared.view.View.{View}
use Rattle.sa_plain.specs.declared.items.Items.{Items}
use Rattle.sa_call.specs.Decls.{Declared}
use Rattle.sa_loop.specs.Performs.{CanPut}
use Rattle.sa_loop.specs.Runs.{holds_in}
use Rattle.sa_base.specs.Deeds.{writes_at}
use Rattle.sa_loop.specs.Writes.{puts_told, writes_told}
use Rattle.sa_loop.proofs.HeldLemmas.{lent-holds, put-home, kept-all}
use Rattle.sa_loop.proofs.performing.put_outcome.Goals as goal

on_ok : {T E : Type 0} {P Q : Type 0} (r : Result T E) → (P → Q) → OnOk r P → OnOk r Q
on_ok (Ok x) f p = f p
on_ok (Err e) f p = tt

on_err : {T E : Type 0} {P Q : Type 0} (r : Result T E) → (P → Q) → OnErr r P → OnErr r Q
on_err (Ok x) f p = tt
on_err (Err e) f p = f p

put-known : (decls : Declared) (holds : ℕ → Contents) (n : ℕ) (out : Option View) (results : Option Items) (v : View) (items : Items) → out ≡ Some v → results ≡ Some items → CanPut decls holds n out results → CanPut decls holds n (Some v) (Some items)
put-known decls holds n out results v items at_out at_results can =
    subst (λ (r : Option Items). CanPut decls holds n (Some v) r) at_results (subst (λ (o : Option View). CanPut decls holds n o results) at_out can)

pub returns-in-Some-Some-clause-written : goal.returns-in-Some-Some-clause-written
returns-in-Some-Some-clause-written c =
    let decls = c.args.decls.now in
    let rooms = c.args.rooms.now.items in
    let out = c.in-Some-Some.out in
    let results = c.in-Some-Some.results in
    let home = c.home_of-home.result in
    let can = put-known decls (holds_in rooms) (length rooms) c.args.out.now c.args.results.now out results c.in-Some-Some.is-0 c.in-Some-Some.is-1 c.requires in
    let told : writes_told decls c.args.out.now c.args.results.now ≡ (home, puts_told decls out results) ∷ [] =
    ap (λ o. writes_told decls o c.args.results.now) c.in-Some-Some.is-0 ∙ (ap (λ r. writes_told decls (Some out) r) c.in-Some-Some.is-1
    ∙ ap (λ h. (h, puts_told decls out results) ∷ []) (sym c.home_of-home.ensures)) in
    let below : home < length rooms = subst (λ (h : ℕ). h < length rooms) (sym c.home_of-home.ensures) can.0 in
    let lent = lent-holds rooms home c.index_mut.result.now below c.index_mut.ensures.value in
    on_ok c.put_results.result
    (λ after d.
    put-home rooms home d c.put_results.new.room (puts_told decls out results) below (after ∙ ap (λ (x : Contents). after_writes x (puts_told decls out results)) lent)
    ∙ ap (λ ws. after_writes (holds_in rooms d) (writes_at ws d)) (sym told))
    c.put_results.ensures.written

pub returns-in-Some-Some-clause-kept : goal.returns-in-Some-Some-clause-kept
returns-in-Some-Some-clause-kept c =
    on_err c.put_results.result (λ same. kept-all c.args.rooms.now.items c.home_of-home.result c.put_results.new.room c.index_mut.result.now c.index_mut.ensures.value same) c.put_results.ensures.kept
