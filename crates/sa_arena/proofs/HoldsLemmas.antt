-- What a table and a buffer that hold a region tell, and that a change of them holds the changed region.
use Rattle.std.proofs.Common.{◌≡◌, ◌≤◌, ◌<◌, ◌+◌, ◌*◌, ℕ, zero, suc, true, false, List, [], ◌∷◌, ◌++◌, length, take, drop, map, replicate, get_or, set, cond, Option, Some, None, refl, sym, ap, ap₂, ◌∙◌, subst, inl, inr, arith, zero-add, length-append}
use Rattle.std.proofs.lemmas.List.{take-append-drop, take-append-le, take-take, take_more, get_or-map, length-replicate}
use Rattle.std.proofs.lemmas.Bool.Decides.{eqb_tells}
use Rattle.sa_arena.specs.declared.arena.Member.{Member}
use Rattle.sa_arena.specs.Buffers.{written}
use Rattle.sa_arena.specs.Extents.{Extent, Region, prefix_size, extent_size, cursor_of, has_text, live_size, extent_at, is_live, start_of, offset_of, number_at, with_text, extent_for, front_of, trimmed, IsTextSize, text_bytes}
use Rattle.sa_arena.specs.Images.{padded, extent_image, image_of}
use Rattle.sa_arena.specs.Members.{extent_in, region_in, member_of, table_from, least_extent, IsSized, AllSized, Holds}
use Rattle.sa_arena.proofs.ExtentLemmas.{cursor-cons, cursor-append, number_at-offset, offset-number_at, number_at-above, number_at-below, offset-within, cursor-with_text, live-below, live-append, live-with_text, live-trimmed, trimmed-push, trimmed-with_text, trimmed-twice}
use Rattle.sa_arena.proofs.BufferLemmas.{length_written, take-written, take-written_end}
use Rattle.sa_arena.proofs.ImageLemmas.{length-padded, image-reused, length-extent_image, image-push, image-take, image-with_text}
use Rattle.sa_arena.proofs.SizedLemmas.{sized-at, sized-push, sized-take, sized-with_text, cursor-least}
use Rattle.sa_arena.proofs.TableLemmas.{length-table, table-at, table-push, table-with_text, table-take, read_all}

-- what a table and a buffer hold is what is read from them
pub same_extents : {r : Region} {t : List Member} {b : List ℕ} {c l p : ℕ} → Holds r t b c l p → map (extent_in b) t ≡ r.extents
same_extents {r} {t} {b} {c} h =
    let front : b ≡ image_of r.extents ++ drop c b = sym (take-append-drop c b) ∙ ap (λ (x : List ℕ). x ++ drop c b) h.image_is in
    ap₂ (λ (x : List ℕ) (y : List Member). map (extent_in x) y) front h.table_is ∙ read_all [] (drop c b) r.extents h.sized

pub same_region : {r : Region} {t : List Member} {b : List ℕ} {c l p : ℕ} → Holds r t b c l p → region_in t b ≡ r
same_region h = ap₂ (λ (es : List Extent) (n : ℕ). let v : Region = record { extents = es; size = n } in v) (same_extents h) h.size_is

pub opened : {r v : Region} {t : List Member} {b : List ℕ} {c l p : ℕ} → Holds r t b c l p → r ≡ v → Holds v t b c l p
opened {r} {v} {t} {b} {c} {l} {p} h e = subst (λ x. Holds x t b c l p) e h

pub closed : {r : Region} {t : List Member} {b : List ℕ} {c l p : ℕ} → Holds r t b c l p → Holds (region_in t b) t b c l p
closed h = opened h (sym (same_region h))

-- what the table says of the extent of a number
pub member_is : {r : Region} {t : List Member} {b : List ℕ} {c l p : ℕ} → Holds r t b c l p → (k : ℕ) (m : Member) → k < length r.extents → m ≡ get_or t k m → m ≡ member_of (start_of r.extents k) (extent_at r.extents k)
member_is {r} {t} h k m below e =
    e ∙ ap (λ (x : List Member). get_or x k m) h.table_is ∙ table-at 0 r.extents k m below
    ∙ ap (λ n. member_of n (extent_at r.extents k)) (zero-add (start_of r.extents k))

pub length_is : {r : Region} {t : List Member} {b : List ℕ} {c l p : ℕ} → Holds r t b c l p → length t ≡ length r.extents
length_is {r} h = ap length h.table_is ∙ length-table 0 r.extents

-- a search by halves: the number of an offset stands on the side that the member between tells
pub halves-low : {r : Region} {t : List Member} {b : List ℕ} {c l p : ℕ} → Holds r t b c l p → (k at : ℕ) (m : Member) → k < length r.extents → m ≡ get_or t k m → m.at ≤ at → k ≤ number_at r.extents at
halves-low {r} h k at m below e le =
    let o : m.at ≡ offset_of r.extents k = ap (λ (x : Member). x.at) (member_is h k m below e) in
    elim (eqb_tells (offset_of r.extents k) at) [
      | inl w ↦ let n = number_at-offset r.extents k below in let q = ap (number_at r.extents) w.1 in omega arith
      | inr w ↦ let ne = w.1 in let n = number_at-above r.extents k at below (omega arith) in omega arith
    ]

pub halves-high : {r : Region} {t : List Member} {b : List ℕ} {c l p : ℕ} → Holds r t b c l p → (k at : ℕ) (m : Member) → k < length r.extents → m ≡ get_or t k m → at < m.at → number_at r.extents at < length r.extents → number_at r.extents at < k
halves-high {r} h k at m below e lt found =
    let o : m.at ≡ offset_of r.extents k = ap (λ (x : Member). x.at) (member_is h k m below e) in
    number_at-below r.extents k at below (omega arith) found

-- the extent of a number, where it is live and its text has an offset
pub record Found (r : Region) (b : List ℕ) (c l at k : ℕ) : Type 0 where
  pub number : number_at r.extents at ≡ k
  pub alive : is_live r.extents k ≡ true
  pub below : k < length r.extents
  pub at_is : at ≡ start_of r.extents k + prefix_size (extent_at r.extents k).capacity
  pub sized : IsSized (extent_at r.extents k)
  pub within : at + (extent_at r.extents k).capacity ≤ c
  pub buffer : c ≤ length b
  pub living : extent_size (extent_at r.extents k) ≤ l

pub found : {r : Region} {t : List Member} {b : List ℕ} {c l p : ℕ} → Holds r t b c l p → (at k : ℕ) → is_live r.extents (number_at r.extents at) ≡ true → k ≡ number_at r.extents at → Found r b c l at k
found {r} h at k live e =
    let alive : is_live r.extents k ≡ true = ap (is_live r.extents) e ∙ live in
    let below = live-below r.extents k alive in
    let at_is = offset-number_at r.extents at (live-below r.extents (number_at r.extents at) live) in
    let o = ap (offset_of r.extents) e in
    let within = offset-within r.extents k below in
    let c_is = h.cursor_is in
    let l_is = h.live_is in
    let ls = live-with_text r.extents k None below in
    let size : live_size (extent_at r.extents k) ≡ extent_size (extent_at r.extents k) = ap (λ v. cond v (extent_size (extent_at r.extents k)) 0) alive in
    record { number = sym e; alive = alive; below = below; at_is = omega arith; sized = sized-at r.extents k h.sized below; within = omega arith; buffer = h.within; living = omega arith }

-- the text of a live extent, by its member
pub text_is : {r : Region} {t : List Member} {b : List ℕ} {c l p : ℕ} → Holds r t b c l p → (k : ℕ) (m : Member) → is_live r.extents k ≡ true → m ≡ get_or t k m → (extent_at r.extents k).text ≡ Some (take m.size (drop m.at b))
text_is {r} {t} {b} h k m live e =
    let below = live-below r.extents k live in
    let n = length_is h in
    let is_m = member_is h k m below e in
    let alive : m.live ≡ true = ap (λ (x : Member). x.live) is_m ∙ live in
    let read : extent_at r.extents k ≡ extent_in b m =
    ap (λ (es : List Extent). extent_at es k) (sym (same_extents h))
    ∙ get_or-map (extent_in b) t k m _ (omega arith) ∙ ap (extent_in b) (sym e) in
    ap (λ (x : Extent). x.text) read ∙ ap (λ v. cond v (Some (take m.size (drop m.at b))) None) alive

-- one more extent
pub appended : {r : Region} {t : List Member} {b : List ℕ} {c l p : ℕ} → Holds r t b c l p →
    (u b' : List ℕ) (t' : List Member) (c' l' : ℕ) → IsTextSize (length u) → cursor_of r.extents + (prefix_size (length u) + length u) ≤ r.size →
    b' ≡ written b c (extent_image (extent_for (length u) u)) → t' ≡ t ++ (record { at = c + prefix_size (length u); capacity = length u; size = length u; live = true }) ∷ [] →
    c' ≡ c + (prefix_size (length u) + length u) → l' ≡ l + (prefix_size (length u) + length u) →
    Holds (record { extents = r.extents ++ extent_for (length u) u ∷ []; size = r.size }) t' b' c' l' p
appended {r} {t} {b} {c} {l} {p} h u b' t' c' l' size_of room bytes table cursor live =
    let e : Extent = extent_for (length u) u in
    let one : IsSized e = record { least = size_of.0; most = size_of.1; fits = omega arith } in
    let size = length-extent_image e one in
    let cs = cursor-append r.extents (e ∷ []) in
    let ls = live-append r.extents (e ∷ []) in
    let c_is = h.cursor_is in
    let l_is = h.live_is in
    let s_is = h.size_is in
    let same : length b' ≡ length b = ap length bytes ∙ length_written b c (extent_image e) (omega arith) in
    let room_is = h.room in
    let most_is = h.most_places in
    record {
      table_is = table ∙ ap₂ (λ (x : List Member) (n : ℕ). x ++ member_of n e ∷ []) h.table_is (c_is ∙ sym (zero-add (cursor_of r.extents))) ∙ sym (table-push 0 r.extents e);
      sized = sized-push r.extents e h.sized one;
      trim = trimmed-push r.extents e refl;
      cursor_is = omega arith;
      live_is = omega arith;
      size_is = same ∙ s_is;
      within = omega arith;
      image_is = ap (take c') bytes ∙ take-written_end b c c' (extent_image e) (omega arith) (omega arith) ∙ ap (λ (i : List ℕ). i ++ extent_image e) h.image_is ∙ sym (image-push r.extents e);
      room = omega arith;
      most_places = omega arith;
    }

-- another text in the place of a live extent's
pub reused : {r : Region} {t : List Member} {b : List ℕ} {c l p : ℕ} → Holds r t b c l p →
    (k : ℕ) (u b' : List ℕ) (t' : List Member) → is_live r.extents k ≡ true → length u ≤ (extent_at r.extents k).capacity →
    b' ≡ written b (offset_of r.extents k) (padded (extent_at r.extents k).capacity u) →
    t' ≡ set t k (record { at = offset_of r.extents k; capacity = (extent_at r.extents k).capacity; size = length u; live = true }) →
    Holds (record { extents = with_text r.extents k (Some u); size = r.size }) t' b' c l p
reused {r} {t} {b} {c} {l} {p} h k u b' t' live fits bytes table =
    let es = r.extents in
    let e : Extent = extent_at es k in
    let new : Extent = record { capacity = e.capacity; text = Some u } in
    let below = live-below es k live in
    let was = sized-at es k h.sized below in
    let one : IsSized new = record { least = was.least; most = was.most; fits = fits } in
    let within = offset-within es k below in
    let c_is = h.cursor_is in
    let in_buffer = h.within in
    let padded_is = length-padded e.capacity u fits in
    let same : length b' ≡ length b = ap length bytes ∙ length_written b (offset_of es k) (padded e.capacity u) (omega arith) in
    let ls = live-with_text es k (Some u) below in
    let size : live_size e ≡ extent_size e = ap (λ v. cond v (extent_size e) 0) live in
    let l_is = h.live_is in
    let room_is = h.room in
    let most_is = h.most_places in
    record {
      table_is = table ∙ ap₂ (λ (x : List Member) (n : ℕ). set x k (member_of n new)) h.table_is (sym (zero-add (start_of es k))) ∙ sym (table-with_text 0 es k (Some u) below);
      sized = sized-with_text es k (Some u) h.sized one;
      trim = trimmed-with_text es k u h.trim below;
      cursor_is = c_is ∙ sym (cursor-with_text es k (Some u));
      live_is = omega arith;
      size_is = same ∙ h.size_is;
      within = omega arith;
      image_is = ap (take c) bytes ∙ take-written b c (offset_of es k) (padded e.capacity u) (omega arith) in_buffer
          ∙ ap (λ (i : List ℕ). written i (offset_of es k) (padded e.capacity u)) h.image_is ∙ sym (image-reused es k u h.sized below live was fits);
      room = omega arith;
      most_places = omega arith;
    }

start-with_text : (es : List Extent) (k : ℕ) (t : Option (List ℕ)) (n : ℕ) → start_of (with_text es k t) n ≡ start_of es n
start-with_text es k t zero = refl
start-with_text [] k t (suc n) = refl
start-with_text (e ∷ es) zero t (suc n) = cursor-cons (record { capacity = e.capacity; text = t }) (take n es) ∙ sym (cursor-cons e (take n es))
start-with_text (e ∷ es) (suc k) t (suc n) =
    cursor-cons e (take n (with_text es k t)) ∙ ap (λ m. extent_size e + m) (start-with_text es k t n) ∙ sym (cursor-cons e (take n es))

start-most : (es : List Extent) (n : ℕ) → start_of es n ≤ cursor_of es
start-most es n =
    let whole = ap cursor_of (take-append-drop n es) in
    let parts = cursor-append (take n es) (drop n es) in
    omega arith

-- a live extent dies, and the dead ones at the end go
pub killed : {r : Region} {t : List Member} {b : List ℕ} {c l p : ℕ} → Holds r t b c l p →
    (k n : ℕ) (b' : List ℕ) (t' : List Member) (c' l' : ℕ) → is_live r.extents k ≡ true → n ≤ length r.extents →
    take n (with_text r.extents k None) ≡ trimmed (with_text r.extents k None) →
    b' ≡ written b (start_of r.extents k) (replicate (extent_size (extent_at r.extents k)) 0) →
    t' ≡ take n (set t k (record { at = offset_of r.extents k; capacity = (extent_at r.extents k).capacity; size = 0; live = false })) →
    c' ≡ start_of r.extents n → l' + extent_size (extent_at r.extents k) ≡ l →
    Holds (record { extents = trimmed (with_text r.extents k None); size = r.size }) t' b' c' l' p
killed {r} {t} {b} {c} {l} {p} h k n b' t' c' l' live count left bytes table cursor gone =
    let es = r.extents in
    let e : Extent = extent_at es k in
    let new : Extent = record { capacity = e.capacity; text = None } in
    let dead = with_text es k None in
    let zeros : List ℕ = replicate (extent_size e) 0 in
    let below = live-below es k live in
    let was = sized-at es k h.sized below in
    let one : IsSized new = record { least = was.least; most = was.most; fits = omega arith } in
    let within = offset-within es k below in
    let c_is = h.cursor_is in
    let in_buffer = h.within in
    let zeros_are : length zeros ≡ extent_size e = length-replicate (extent_size e) 0 in
    let same : length b' ≡ length b = ap length bytes ∙ length_written b (start_of es k) zeros (omega arith) in
    let ls = live-with_text es k None below in
    let lt = live-trimmed dead in
    let size : live_size e ≡ extent_size e = ap (λ v. cond v (extent_size e) 0) live in
    let l_is = h.live_is in
    let room_is = h.room in
    let most_is = h.most_places in
    let starts = start-with_text es k None n in
    let back = start-most es n in
    let sized = sized-with_text es k None h.sized one in
    let image : take c b' ≡ image_of dead =
    ap (take c) bytes ∙ take-written b c (start_of es k) zeros (omega arith) in_buffer
    ∙ ap (λ (i : List ℕ). written i (start_of es k) zeros) h.image_is ∙ sym (image-with_text es k None h.sized below one) in
    record {
      table_is = table ∙ ap (take n) (ap₂ (λ (x : List Member) (n : ℕ). set x k (member_of n new)) h.table_is (sym (zero-add (start_of es k))) ∙ sym (table-with_text 0 es k None below))
          ∙ sym (table-take 0 dead n) ∙ ap (table_from 0) left;
      sized = subst AllSized left (sized-take n dead sized);
      trim = trimmed-twice dead;
      cursor_is = cursor ∙ sym starts ∙ ap cursor_of left;
      live_is = omega arith;
      size_is = same ∙ h.size_is;
      within = omega arith;
      image_is = sym (take-take c' c b' (omega arith)) ∙ ap (take c') image ∙ ap (λ m. take m (image_of dead)) (cursor ∙ sym starts) ∙ sym (image-take dead n sized) ∙ ap image_of left;
      room = omega arith;
      most_places = omega arith;
    }

-- more bytes behind the extents
pub grown : {r : Region} {t : List Member} {b : List ℕ} {c l p : ℕ} → Holds r t b c l p →
    (more b' : List ℕ) (t' : List Member) (p' : ℕ) → b' ≡ b ++ more → t' ≡ t → length b' ≤ least_extent * p' → least_extent * p' ≤ length b' + least_extent → Holds (record { extents = r.extents; size = length b' }) t' b' c l p'
grown {r} {t} {b} {c} h more b' t' p' bytes table room most =
    let n = ap length bytes ∙ length-append b more in
    let in_buffer = h.within in
    record {
      table_is = table ∙ h.table_is;
      sized = h.sized;
      trim = h.trim;
      cursor_is = h.cursor_is;
      live_is = h.live_is;
      size_is = refl;
      within = omega arith;
      image_is = ap (take c) bytes ∙ take-append-le c b more in_buffer ∙ h.image_is;
      room = room;
      most_places = most;
    }

-- the extents have their least bytes each, so the table has a place where the buffer has room for one more
pub table_least : {r : Region} {t : List Member} {b : List ℕ} {c l p : ℕ} → Holds r t b c l p → least_extent * length t ≤ c
table_least {r} h =
    let least = cursor-least r.extents h.sized in
    let n = length_is h in
    let c_is = h.cursor_is in
    omega arith

pub free_place : {r : Region} {t : List Member} {b : List ℕ} {c l p : ℕ} → Holds r t b c l p → c + least_extent ≤ length b → length t < p
free_place {r} h room =
    let least = table_least h in
    let places = h.room in
    omega arith

-- how many extents are left: one fewer where the last is dead, and these where it is live
trimmed-dead : (es : List Extent) (e : Extent) → has_text e ≡ false → trimmed (es ++ e ∷ []) ≡ trimmed es
trimmed-dead [] e f = ap (λ v. cond v (e ∷ []) []) f
trimmed-dead (x ∷ es) e f = ap (front_of x) (trimmed-dead es e f)

pub count-dead : (es : List Extent) (n : ℕ) → n < length es → is_live es n ≡ false → trimmed (take n es) ≡ trimmed (take (n + 1) es)
count-dead es n below dead = sym (ap trimmed (take_more es n _ below) ∙ trimmed-dead (take n es) (extent_at es n) dead)

pub count-live : (es : List Extent) (n : ℕ) → n < length es → is_live es n ≡ true → trimmed (take (n + 1) es) ≡ take (n + 1) es
count-live es n below live =
    let e = take_more es n _ below in
    ap trimmed e ∙ trimmed-push (take n es) (extent_at es n) live ∙ sym e

-- where an extent begins, by its member
pub start_is : {r : Region} {t : List Member} {b : List ℕ} {c l p : ℕ} → Holds r t b c l p → (k : ℕ) (m : Member) → k < length r.extents → m ≡ get_or t k m → m.at ≡ start_of r.extents k + prefix_size (extent_at r.extents k).capacity
start_is h k m below e = ap (λ (x : Member). x.at) (member_is h k m below e)

-- the text of a live extent is a part of the buffer, from its offset on
pub text_sliced : {r : Region} {t : List Member} {b : List ℕ} {c l p at k : ℕ} → Holds r t b c l p → Found r b c l at k → (size : ℕ) → length (text_bytes (extent_at r.extents k)) ≡ size → (extent_at r.extents k).text ≡ Some (take size (drop at b))
text_sliced {r} {t} {b} {k = k} h f size same =
    let start = start_of r.extents k in
    let m : Member = member_of start (extent_at r.extents k) in
    let is_m : m ≡ get_or t k m =
    sym (ap (λ (x : List Member). get_or x k m) h.table_is ∙ table-at 0 r.extents k m f.below ∙ ap (λ n. member_of n (extent_at r.extents k)) (zero-add start)) in
    text_is h k m f.alive is_m ∙ ap₂ (λ n a. Some (take n (drop a b))) same (sym f.at_is)
