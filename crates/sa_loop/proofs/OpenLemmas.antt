-- What a run begins with, part by part.
use Rattle.std.proofs.Common.{◌≡◌, ◌≤◌, ◌<◌, ◌+◌, ◌-◌, ℕ, zero, suc, eqb, Bool, true, false, ◌&&◌, not, cond, nat_lt, List, [], ◌∷◌, ◌++◌, length, map, take, drop, replicate, get_or, Some, None, refl, sym, ap, ◌∙◌, subst, arith, add-one}
use Rattle.std.specs.List.{AllByRecursion, drop-map, filter, slice_get, take-map}
use Rattle.std.proofs.lemmas.Bool.{le-ltb, lt-ltb, ltb-false, ltb-true, ne_eqb}
use Rattle.std.proofs.lemmas.List.{get_or_past, length-append}
use Rattle.std.proofs.lemmas.List.FromFn.{get_or-map-range_with_len, length-map-range_with_len}
use Rattle.sa_tie.specs.Seated.{TableId}
use Rattle.sa_call.specs.declared.decls.ArrayDecl.{ArrayDecl}
use Rattle.sa_call.specs.Decls.{Declared, IsDeclared, is_strings}
use Rattle.sa_call.specs.Told.{is_among}
use Rattle.sa_journal.specs.declared.party.Party.TheVariants.{Descr, Task}
use Rattle.sa_journal.specs.Chains.{Roomy, Strand}
use Rattle.sa_journal.specs.Journals.{IsNew, IsOf}
use Rattle.sa_journal.specs.Parties.{party_at}
use Rattle.sa_journal.specs.Shapes.{Shape}
use Rattle.sa_journal.specs.Table.{Shelves}
use Rattle.sa_hall.specs.Contents.{no_shape, shape_of}
use Rattle.sa_hall.specs.Domains.{HasEntries, IsPlaced, Kept, descr_in, is_descr, plains_said}
use Rattle.sa_hall.specs.Halls.{ArePlaced, HaveEntries}
use Rattle.sa_hall.specs.Passes.{Passed, is_task, task_in}
use Rattle.sa_loop.specs.Locked.{shape_in}
use Rattle.sa_loop.specs.Openings.{AreNewFrom, AreOpeningPasses, IsOpeningPass, shapes_of}
use Rattle.sa_loop.specs.States.{lengths_of, plain_shape, plains_of}

-- the shape at a number, also where there is no such descriptor

none-at : (b : Bool) (d n : ℕ) (arrays : List ArrayDecl) → AllByRecursion (λ (a : ArrayDecl). a.home < n) arrays → n ≤ d → filter (is_among b d) arrays ≡ []
none-at b d n [] all above = refl
none-at b d n (a ∷ arrays) all above =
    let other : eqb a.home d ≡ false = ne_eqb a.home d (λ same. let below = all.0 in omega arith) in
    let not_one : is_among b d a ≡ false = ap (λ (c : Bool). c && cond b (is_strings a.kind) (not (is_strings a.kind))) other in
    ap (λ (c : Bool). cond c (a ∷ filter (is_among b d) arrays) (filter (is_among b d) arrays)) not_one ∙ none-at b d n arrays all.1 above

pub shape-at : (decls : Declared) (shapes : List Shape) → IsDeclared decls → shapes ≡ shapes_of decls → (d : ℕ) → get_or shapes d no_shape ≡ shape_in decls d
shape-at decls shapes declared are d = ap (λ (ss : List Shape). get_or ss d no_shape) are ∙ go (nat_lt d n) refl
  where
    n : ℕ
    n = length decls.descrs

    go : (b : Bool) → nat_lt d (length decls.descrs) ≡ b → get_or (shapes_of decls) d no_shape ≡ shape_in decls d
    go true e = get_or-map-range_with_len (shape_in decls) 0 (length decls.descrs) d d no_shape (ltb-true d (length decls.descrs) e) (let same : 0 + d ≡ d = omega arith in same)
    go false e =
        let above = ltb-false d (length decls.descrs) e in
        let many = length-map-range_with_len (shape_in decls) 0 (length decls.descrs) in
        let none : lengths_of decls d ≡ [] = ap (map (λ (a : ArrayDecl). a.len)) (none-at true d (length decls.descrs) decls.arrays declared.homes above) in
        let no_plains : plains_said (plains_of decls d) ≡ [] = ap (λ (left : List ArrayDecl). plains_said (map plain_shape left)) (none-at false d (length decls.descrs) decls.arrays declared.homes above) in
        get_or_past (shapes_of decls) d no_shape (omega arith) ∙ (λ i. let s : Shape = record { strings = sym none i; plains = sym no_plains i } in s)

pub many-shapes : (decls : Declared) (shapes : List Shape) → shapes ≡ shapes_of decls → length shapes ≡ length decls.descrs
many-shapes decls shapes are = ap length are ∙ length-map-range_with_len (shape_in decls) 0 (length decls.descrs)

-- the chains of a new journal from a place on

module _ {D : Type 0} (roll : Shelves) (ties : List TableId) (descrs : ℕ) where
  pub are-new : (k : ℕ) (cs : List (Roomy D)) → ((j : ℕ) (c : Roomy D) → slice_get cs j ≡ Some c → IsNew roll ties descrs (k + j) c.it) → AreNewFrom roll ties descrs k (map (λ (c : Roomy D). c.it) cs)
  are-new k [] each = tt
  are-new k (c ∷ cs) each =
      let here : k + 0 ≡ k = omega arith in (
        subst (λ (m : ℕ). IsNew roll ties descrs m c.it) here (each 0 c refl),
        are-new (k + 1) cs (λ j d at. let there : k + suc j ≡ k + 1 + j = omega arith in subst (λ (m : ℕ). IsNew roll ties descrs m d.it) there (each (suc j) d at)),
      )

  pub new-front : (k n : ℕ) (cs : List (Strand D)) → AreNewFrom roll ties descrs k cs → AreNewFrom roll ties descrs k (take n cs)
  new-front k zero [] all = tt
  new-front k (suc n) [] all = tt
  new-front k zero (c ∷ cs) all = tt
  new-front k (suc n) (c ∷ cs) all = (all.0, new-front (k + 1) n cs all.1)

  pub new-back : (k n : ℕ) (cs : List (Strand D)) → AreNewFrom roll ties descrs k cs → AreNewFrom roll ties descrs (k + n) (drop n cs)
  new-back k zero [] all = tt
  new-back k (suc n) [] all = tt
  new-back k zero (c ∷ cs) all = let here : k ≡ k + 0 = omega arith in subst (λ (m : ℕ). AreNewFrom roll ties descrs m (c ∷ cs)) here all
  new-back k (suc n) (c ∷ cs) all = let here : k + 1 + n ≡ k + suc n = omega arith in subst (λ (m : ℕ). AreNewFrom roll ties descrs m (drop n cs)) here (new-back (k + 1) n cs all.1)

  -- a chain below the number of descriptors is a descriptor's, and one above it is a task's

  pub new-descr : (k : ℕ) (c : Strand D) → IsNew roll ties descrs k c → k < descrs → (is_descr c.party ≡ true) × (descr_in c.party ≡ k)
  new-descr k c new below =
      let at : c.party ≡ Descr k = new.1 ∙ ap (λ (b : Bool). cond b (Descr k) (Task (k - descrs))) (lt-ltb k descrs below) in
      (ap is_descr at, ap descr_in at)

  pub new-task : (t : ℕ) (c : Strand D) → IsNew roll ties descrs (descrs + t) c → (is_task c.party ≡ true) × (task_in c.party ≡ t)
  new-task t c new =
      let at : c.party ≡ Task (descrs + t - descrs) = new.1 ∙ ap (λ (b : Bool). cond b (Descr (descrs + t)) (Task (descrs + t - descrs))) (le-ltb (descrs + t) descrs (omega arith)) in
      (ap is_task at, ap task_in at ∙ (let same : descrs + t - descrs ≡ t = omega arith in same))

-- descriptors, one after another

module _ {D : Type 0} (roll : Shelves) (ties : List TableId) (shapes : List Shape) where
  abbrev pub AreOpened : ℕ → List (Kept D) → Type 0
  AreOpened k [] = Unit {0}
  AreOpened k (d ∷ ds) = (IsPlaced roll ties shapes k d × HasEntries d.contents.layout) × AreOpened (k + 1) ds

  pub opened-more : (k : ℕ) (ds : List (Kept D)) (d : Kept D) → AreOpened k ds → IsPlaced roll ties shapes (k + length ds) d → HasEntries d.contents.layout → AreOpened k (ds ++ d ∷ [])
  opened-more k [] d all placed entries = ((let here : k + 0 ≡ k = omega arith in subst (λ (m : ℕ). IsPlaced roll ties shapes m d) here placed, entries), tt)
  opened-more k (e ∷ ds) d all placed entries =
      let here : k + suc (length ds) ≡ k + 1 + length ds = omega arith in
      (all.0, opened-more (k + 1) ds d all.1 (subst (λ (m : ℕ). IsPlaced roll ties shapes m d) here placed) entries)

  opened-at : (k : ℕ) (ds : List (Kept D)) (j : ℕ) (d : Kept D) → AreOpened k ds → slice_get ds j ≡ Some d → IsPlaced roll ties shapes (k + j) d × HasEntries d.contents.layout
  opened-at k [] j d all at = cc
  opened-at k (e ∷ ds) zero d all at =
      let here : k ≡ k + 0 = omega arith in
      let same : e ≡ d = cc in
      (subst (λ (m : ℕ). IsPlaced roll ties shapes m d) here (subst (λ (x : Kept D). IsPlaced roll ties shapes k x) same all.0.0), subst (λ (x : Kept D). HasEntries x.contents.layout) same all.0.1)
  opened-at k (e ∷ ds) (suc j) d all at =
      let here : k + 1 + j ≡ k + suc j = omega arith in
      let rest = opened-at (k + 1) ds j d all.1 at in
      (subst (λ (m : ℕ). IsPlaced roll ties shapes m d) here rest.0, rest.1)

  pub opened-placed : (ds : List (Kept D)) → AreOpened 0 ds → ArePlaced roll ties shapes ds
  opened-placed ds all j d at = let here : 0 + j ≡ j = omega arith in subst (λ (m : ℕ). IsPlaced roll ties shapes m d) here (opened-at 0 ds j d all at).0

  pub opened-entries : (ds : List (Kept D)) → AreOpened 0 ds → HaveEntries ds
  opened-entries ds all j d at = (opened-at 0 ds j d all at).1

  -- the chains that are left, and the descriptors so far
  pub record AreOpening (rest : List (Strand D)) (ds : List (Kept D)) : Type 0 where
    pub left : AreNewFrom roll ties (length shapes) (length ds) rest
    pub many : length ds + length rest ≡ length shapes
    pub made : AreOpened 0 ds

  pub opening-next : (rest more : List (Strand D)) (ds : List (Kept D)) (c : Strand D) → AreOpening rest ds → rest ≡ c ∷ more → (length ds < length shapes) × IsNew roll ties (length shapes) (length ds) c
  opening-next rest more ds c is next =
      let long = ap length next in
      let many = is.many in
      let left = subst (AreNewFrom roll ties (length shapes) (length ds)) next is.left in
      (omega arith, left.0)

  pub opening-takes : (decls : Declared) (rest more : List (Strand D)) (ds : List (Kept D)) (c : Strand D) (d : Kept D) → IsDeclared decls → shapes ≡ shapes_of decls → AreOpening rest ds → rest ≡ c ∷ more
      → d.number ≡ descr_in c.party → d.chain ≡ c → shape_of d.contents ≡ shape_in decls (descr_in c.party) → HasEntries d.contents.layout → AreOpening more (ds ++ d ∷ [])
  opening-takes decls rest more ds c d declared are is next number chain shape entries =
      let one = opening-next rest more ds c is next in
      let at = (new-descr roll ties (length shapes) (length ds) c one.1 one.0).1 in
      let long : length (ds ++ d ∷ []) ≡ length ds + 1 = length-append ds (d ∷ []) in
      let left = subst (AreNewFrom roll ties (length shapes) (length ds)) next is.left in
      let tail = ap length next in
      let many = is.many in
      let here : 0 + length ds ≡ length ds = omega arith in
      let placed : IsPlaced roll ties shapes (length ds) d = record {
        number = number ∙ at;
        of = subst (IsOf roll ties (length shapes)) (sym chain) one.1.0;
        shape = shape ∙ (ap (shape_in decls) at ∙ sym (shape-at decls shapes declared are (length ds)));
      } in
      record {
        left = subst (λ (m : ℕ). AreNewFrom roll ties (length shapes) m more) (sym long) left.1;
        many = omega arith;
        made = opened-more 0 ds d is.made (subst (λ (m : ℕ). IsPlaced roll ties shapes m d) (sym here) placed) entries;
      }

-- passes, one after another

module _ {D : Type 0} (roll : Shelves) (ties : List TableId) (descrs : ℕ) where
  pub passes-more : (task : ℕ) (counts : List ℕ) (ps : List (Passed D)) (p : Passed D) → length ps < length counts → AreOpeningPasses roll ties descrs task (take (length ps) counts) ps
      → IsOpeningPass roll ties descrs (task + length ps) (get_or counts (length ps) 0) p → AreOpeningPasses roll ties descrs task (take (suc (length ps)) counts) (ps ++ p ∷ [])
  passes-more task [] ps p within all one = absurd (omega arith)
  passes-more task (n ∷ ns) [] p within all one = (let here : task + 0 ≡ task = omega arith in subst (λ (t : ℕ). IsOpeningPass roll ties descrs t n p) here one, tt)
  passes-more task (n ∷ ns) (q ∷ ps) p within all one =
      let here : task + suc (length ps) ≡ task + 1 + length ps = omega arith in
      (all.0, passes-more (task + 1) ns ps p (omega arith) all.1 (subst (λ (t : ℕ). IsOpeningPass roll ties descrs t (get_or ns (length ps) 0) p) here one))

  -- the chains that are left, and the passes so far
  pub record ArePassing (counts : List ℕ) (rest : List (Strand D)) (ps : List (Passed D)) : Type 0 where
    pub left : AreNewFrom roll ties descrs (descrs + length ps) rest
    pub many : length ps + length rest ≡ length counts
    pub made : AreOpeningPasses roll ties descrs 0 (take (length ps) counts) ps

  pub passing-next : (counts : List ℕ) (rest more : List (Strand D)) (ps : List (Passed D)) (c : Strand D) → ArePassing counts rest ps → rest ≡ c ∷ more → (length ps < length counts) × IsNew roll ties descrs (descrs + length ps) c
  passing-next counts rest more ps c is next =
      let long = ap length next in
      let many = is.many in
      let left = subst (AreNewFrom roll ties descrs (descrs + length ps)) next is.left in
      (omega arith, left.0)

  pub passing-takes : (counts : List ℕ) (rest more : List (Strand D)) (ps : List (Passed D)) (c : Strand D) (count : ℕ) (p : Passed D) → ArePassing counts rest ps → rest ≡ c ∷ more → count ≡ get_or counts (length ps) 0
      → p ≡ record { task = task_in c.party; chain = c; marks = replicate count false } → ArePassing counts more (ps ++ p ∷ [])
  passing-takes counts rest more ps c count p is next at made =
      let one = passing-next counts rest more ps c is next in
      let task = (new-task roll ties descrs (length ps) c one.1).1 in
      let long : length (ps ++ p ∷ []) ≡ suc (length ps) = length-append ps (p ∷ []) ∙ add-one (length ps) in
      let left = subst (AreNewFrom roll ties descrs (descrs + length ps)) next is.left in
      let tail = ap length next in
      let many = is.many in
      let here : 0 + length ps ≡ length ps = omega arith in
      let further : descrs + length ps + 1 ≡ descrs + suc (length ps) = omega arith in
      let pass : IsOpeningPass roll ties descrs (length ps) (get_or counts (length ps) 0) p = record {
        task_is = ap (λ (q : Passed D). q.task) made ∙ task;
        lines = ap (λ (q : Passed D). q.chain.lines) made ∙ one.1.2;
        marks = ap (λ (q : Passed D). q.marks) made ∙ ap (λ n. replicate n false) at;
        of = subst (λ (q : Passed D). IsOf roll ties descrs q.chain) (sym made) one.1.0;
      } in
      record {
        left = subst (λ (m : ℕ). AreNewFrom roll ties descrs (descrs + m) more) (sym long) (subst (λ (m : ℕ). AreNewFrom roll ties descrs m more) further left.1);
        many = omega arith;
        made = subst (λ (m : ℕ). AreOpeningPasses roll ties descrs 0 (take m counts) (ps ++ p ∷ [])) (sym long)
            (passes-more 0 counts ps p one.0 is.made (subst (λ (t : ℕ). IsOpeningPass roll ties descrs t (get_or counts (length ps) 0) p) (sym here) pass));
      }

-- an element that is there, whatever stands in for one that is not
same-default : (xs : List ℕ) (i d e : ℕ) → i < length xs → get_or xs i d ≡ get_or xs i e
same-default [] i d e within = absurd (omega arith)
same-default (x ∷ xs) zero d e within = refl
same-default (x ∷ xs) (suc i) d e within = same-default xs i d e (omega arith)

pub read-same : (xs : List ℕ) (i j d e : ℕ) → j < length xs → i ≡ j → get_or xs i d ≡ get_or xs j e
read-same xs i j d e within same = ap (λ k. get_or xs k d) same ∙ same-default xs j d e within

pub new-taken : {D : Type 0} (roll : Shelves) (ties : List TableId) (descrs n : ℕ) (cs cs' : List (Roomy D)) → AreNewFrom roll ties descrs 0 (map (λ (c : Roomy D). c.it) cs) → cs' ≡ take n cs → AreNewFrom roll ties descrs 0 (map (λ (c : Roomy D). c.it) cs')
new-taken {D} roll ties descrs n cs cs' new taken =
    subst (AreNewFrom roll ties descrs 0) (take-map (λ (c : Roomy D). c.it) n cs ∙ ap (map (λ (c : Roomy D). c.it)) (sym taken)) (new-front roll ties descrs 0 n (map (λ (c : Roomy D). c.it) cs) new)

pub new-dropped : {D : Type 0} (roll : Shelves) (ties : List TableId) (descrs n : ℕ) (cs cs' : List (Roomy D)) → AreNewFrom roll ties descrs 0 (map (λ (c : Roomy D). c.it) cs) → cs' ≡ drop n cs → AreNewFrom roll ties descrs n (map (λ (c : Roomy D). c.it) cs')
new-dropped {D} roll ties descrs n cs cs' new dropped =
    let here : 0 + n ≡ n = omega arith in
    subst (AreNewFrom roll ties descrs n) (drop-map (λ (c : Roomy D). c.it) n cs ∙ ap (map (λ (c : Roomy D). c.it)) (sym dropped))
    (subst (λ (m : ℕ). AreNewFrom roll ties descrs m (drop n (map (λ (c : Roomy D). c.it) cs))) here (new-back roll ties descrs 0 n (map (λ (c : Roomy D). c.it) cs) new))

pub new-places : {D : Type 0} (roll : Shelves) (ties : List TableId) (descrs : ℕ) (cs : List (Roomy D)) → ((k : ℕ) (c : Roomy D) → slice_get cs k ≡ Some c → IsNew roll ties descrs k c.it) → (j : ℕ) (c : Roomy D) → slice_get cs j ≡ Some c → IsNew roll ties descrs (0 + j) c.it
new-places roll ties descrs cs each j c at = let here : j ≡ 0 + j = omega arith in subst (λ (m : ℕ). IsNew roll ties descrs m c.it) here (each j c at)
