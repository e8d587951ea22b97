-- The bytes of one code point, and places in a text by its code points and by its bytes. No number need be a scalar value here.
use Rattle.std.proofs.Common.{◌≡◌, ◌≤◌, ◌<◌, ◌+◌, ◌-◌, ◌%◌, ◌/◌, ℕ, zero, suc, Bool, true, false, cond, eqb, ltb, leb, List, [], ◌∷◌, ◌++◌, length, get_or, take, drop, count_by, Some, None, refl, sym, ap, ap₂, subst, ◌∙◌, inl, inr, arith, IsUtf8, append-nil, length-append, take_at, drop_at}
use Rattle.std.specs.Str.{chars}
use Rattle.std.proofs.Math.Utf8.{encode, encodes, scalar, scalars}
use Rattle.std.proofs.Math.Seq.{take-nil}
use Rattle.std.proofs.lemmas.Bool.{false≢true, cases_lt, le-leb, le-ltb, lt-leb, eqb-true, eq-eqb, ne_eqb, or_left, or_right, or_from, and_parts, and_from, cond-true, cond-false, leb-true, leb-false, cases_Bool}
use Rattle.std.proofs.lemmas.Bool.Decides.{same_from_decides}
use Rattle.std.proofs.lemmas.List.{take-append-drop, get_or_append_left, get_or-append_right, get_or-drop, take_all}
use Rattle.std.proofs.lemmas.List.Sums.{sum_by-append, sum_by-cons}
use Rattle.std.proofs.lemmas.Str.{encodes-append, encodes-chars, encodes_same, scalars-chars, chars-encodes}
use Rattle.sa_text.specs.Points.{is_lead, byte_of, points_before, is_cut}
use Rattle.sa_text.specs.Texts.{text_size}

-- the bytes of one code point: one that begins it, and others that do not
abbrev pub NoneLeads : List ℕ → Type 0
NoneLeads [] = Unit {0}
NoneLeads (b ∷ bs) = (is_lead b ≡ false) × NoneLeads bs

pub record IsOne (bytes : List ℕ) : Type 0 where
  pub head : ℕ
  pub tail : List ℕ
  pub is : bytes ≡ head ∷ tail
  pub leads : is_lead head ≡ true
  pub rest : NoneLeads tail

lead-above : (b : ℕ) → 192 ≤ b → is_lead b ≡ true
lead-above b h = or_right (ltb b 128) (leb 192 b) (le-leb 192 b h)

next-not : (b : ℕ) → is_lead (128 + b % 64) ≡ false
next-not b = or_from (ltb (128 + b % 64) 128) (leb 192 (128 + b % 64)) (le-ltb (128 + b % 64) 128 (omega arith)) (lt-leb 192 (128 + b % 64) (omega arith))

pub one : (c : ℕ) → IsOne (encode c)
unfolding encode
one c = go (ltb c 128) (ltb c 2048) (ltb c 65536) refl
  where
    go : (x y z : Bool) → ltb c 128 ≡ x → IsOne (cond x (c ∷ []) (cond y ((192 + c / 64) ∷ (128 + c % 64) ∷ []) (cond z ((224 + c / 4096) ∷ (128 + (c / 64) % 64) ∷ (128 + c % 64) ∷ []) ((240 + c / 262144) ∷ (128 + (c / 4096) % 64) ∷ (128 + (c / 64) % 64) ∷ (128 + c % 64) ∷ []))))
    go true y z e = record { head = c; tail = []; is = refl; leads = or_left (ltb c 128) (leb 192 c) e; rest = tt }
    go false true z e = record { head = 192 + c / 64; tail = (128 + c % 64) ∷ []; is = refl; leads = lead-above (192 + c / 64) (omega arith); rest = (next-not c, tt) }
    go false false true e = record { head = 224 + c / 4096; tail = (128 + (c / 64) % 64) ∷ (128 + c % 64) ∷ []; is = refl; leads = lead-above (224 + c / 4096) (omega arith); rest = (next-not (c / 64), (next-not c, tt)) }
    go false false false e = record { head = 240 + c / 262144; tail = (128 + (c / 4096) % 64) ∷ (128 + (c / 64) % 64) ∷ (128 + c % 64) ∷ []; is = refl; leads = lead-above (240 + c / 262144) (omega arith); rest = (next-not (c / 4096), (next-not (c / 64), (next-not c, tt))) }

none-counts : (bs : List ℕ) (n : ℕ) → NoneLeads bs → count_by is_lead (take n bs) ≡ 0
none-counts [] n h = ap (count_by is_lead) (take-nil n)
none-counts (b ∷ bs) zero h = refl
none-counts (b ∷ bs) (suc n) h = sum_by-cons (λ x. cond (is_lead x) 1 0) b (take n bs) ∙ ap₂ ◌+◌ (ap (λ t. cond t 1 0) h.0) (none-counts bs n h.1)

none-at : (bs : List ℕ) (i : ℕ) → NoneLeads bs → i < length bs → is_lead (get_or bs i 0) ≡ false
none-at [] i h l = absurd (omega arith)
none-at (b ∷ bs) zero h l = h.0
none-at (b ∷ bs) (suc i) h l = none-at bs i h.1 (omega arith)

one-more : (h : ℕ) (bs : List ℕ) → is_lead h ≡ true → count_by is_lead (h ∷ bs) ≡ 1 + count_by is_lead bs
one-more h bs e = sum_by-cons (λ x. cond (is_lead x) 1 0) h bs ∙ ap (λ t. cond t 1 0 + count_by is_lead bs) e

pub count-front : (n c : ℕ) → count_by is_lead (take (suc n) (encode c)) ≡ 1
count-front n c =
    let o = one c in
    ap (λ bs. count_by is_lead (take (suc n) bs)) o.is ∙ one-more o.head (take n o.tail) o.leads ∙ ap (λ k. 1 + k) (none-counts o.tail n o.rest)

pub inside-one : (a c : ℕ) → suc a < length (encode c) → is_lead (get_or (encode c) (suc a) 0) ≡ false
inside-one a c l =
    let o = one c in
    let e = ap length o.is in
    ap (λ bs. is_lead (get_or bs (suc a) 0)) o.is ∙ none-at o.tail a o.rest (omega arith)

pub one-some : (c : ℕ) → 0 < length (encode c)
one-some c = let o = one c in let e = ap length o.is in omega arith

-- sizes
pub text_size-cons : (c : ℕ) (cs : List ℕ) → text_size (c ∷ cs) ≡ length (encode c) + text_size cs
text_size-cons c cs = length-append (encode c) (encodes cs)

pub text_size-append : (xs ys : List ℕ) → text_size (xs ++ ys) ≡ text_size xs + text_size ys
text_size-append xs ys = ap length (encodes-append xs ys) ∙ length-append (encodes xs) (encodes ys)

-- the places before a byte
pub points_before-zero : (cs : List ℕ) → points_before cs 0 ≡ 0
points_before-zero [] = refl
points_before-zero (c ∷ cs) = refl

pub points_before-cons : (c : ℕ) (cs : List ℕ) (at : ℕ) → 0 < at → points_before (c ∷ cs) at ≡ suc (points_before cs (at - length (encode c)))
points_before-cons c cs at h = cond-false (eqb at 0) 0 (suc (points_before cs (at - length (encode c)))) (ne_eqb at 0 (λ e. absurd (omega arith)))

pub points_before-within : (cs : List ℕ) (at : ℕ) → points_before cs at ≤ length cs
points_before-within [] at = omega arith
points_before-within (c ∷ cs) zero = let e = points_before-zero (c ∷ cs) in omega arith
points_before-within (c ∷ cs) (suc a) =
    let e = points_before-cons c cs (suc a) (omega arith) in
    let h = points_before-within cs (suc a - length (encode c)) in
    omega arith

take-split : (n : ℕ) (xs ys : List ℕ) → take n (xs ++ ys) ≡ take n xs ++ take (n - length xs) ys
take-split n [] ys = let e : n - 0 ≡ n = omega arith in sym (ap (λ k. take k ys) e) ∙ sym (ap (λ bs. bs ++ take (n - 0) ys) (take-nil n))
take-split zero (x ∷ xs) ys = let e : 0 - suc (length xs) ≡ 0 = omega arith in sym (ap (λ k. take k ys) e)
take-split (suc n) (x ∷ xs) ys =
    let e : suc n - suc (length xs) ≡ n - length xs = omega arith in
    ap (λ bs. x ∷ bs) (take-split n xs ys) ∙ sym (ap (λ k. x ∷ (take n xs ++ take k ys)) e)

pub count-before : (cs : List ℕ) (at : ℕ) → at ≤ text_size cs → count_by is_lead (take at (encodes cs)) ≡ points_before cs at
count-before [] at h = ap (count_by is_lead) (take-nil at)
count-before (c ∷ cs) zero h = refl
count-before (c ∷ cs) (suc a) h =
    let n = length (encode c) in
    let size = text_size-cons c cs in
    ap (count_by is_lead) (take-split (suc a) (encode c) (encodes cs))
    ∙ sum_by-append (λ x. cond (is_lead x) 1 0) (take (suc a) (encode c)) (take (suc a - n) (encodes cs))
    ∙ ap₂ ◌+◌ (count-front a c) (count-before cs (suc a - n) (omega arith))
    ∙ (let e : 1 + points_before cs (suc a - n) ≡ suc (points_before cs (suc a - n)) = omega arith in e)
    ∙ sym (points_before-cons c cs (suc a) (omega arith))

pub count-all : (cs : List ℕ) → count_by is_lead (encodes cs) ≡ length cs
count-all [] = refl
count-all (c ∷ cs) =
    let o = one c in
    let whole : count_by is_lead (encode c) ≡ 1 = ap (count_by is_lead) o.is ∙ one-more o.head o.tail o.leads ∙ ap (λ k. 1 + k) (ap (count_by is_lead) (sym (take_all (length o.tail) o.tail (omega arith))) ∙ none-counts o.tail (length o.tail) o.rest) in
    sum_by-append (λ x. cond (is_lead x) 1 0) (encode c) (encodes cs) ∙ ap₂ ◌+◌ whole (count-all cs) ∙ (let e : 1 + length cs ≡ suc (length cs) = omega arith in e)

-- a front of a text, by its code points and by its bytes
pub record IsFront (cs : List ℕ) (at p : ℕ) : Type 0 where
  pub within : p ≤ length cs
  pub size : text_size (take p cs) ≡ at

pub front_at : (cs : List ℕ) (at : ℕ) → is_cut cs at ≡ true → IsFront cs at (points_before cs at)
front_at cs at e = record { within = points_before-within cs at; size = eqb-true (text_size (take (points_before cs at) cs)) at e }

size-past : (c : ℕ) (cs : List ℕ) (p at n : ℕ) → p ≡ suc n → length (encode c) + text_size (take n cs) ≡ at → text_size (take p (c ∷ cs)) ≡ at
size-past c cs p at n e f = ap (λ k. text_size (take k (c ∷ cs))) e ∙ text_size-cons c (take n cs) ∙ f

pub lead-cut : (cs : List ℕ) (at : ℕ) → at < text_size cs → is_lead (get_or (encodes cs) at 0) ≡ true → text_size (take (points_before cs at) cs) ≡ at
lead-cut [] at h lead = absurd (omega arith)
lead-cut (c ∷ cs) zero h lead = refl
lead-cut (c ∷ cs) (suc a) h lead = elim (cases_lt (suc a) (length (encode c))) [
  | inl l ↦ absurd (false≢true (sym (inside-one a c l) ∙ ap is_lead (sym (get_or_append_left (encode c) (encodes cs) 0 (suc a) l)) ∙ lead))
  | inr l ↦
      let n = length (encode c) in
      let size = text_size-cons c cs in
      let at = suc a - n in
      let e = get_or-append_right (encode c) (encodes cs) n (suc a) 0 refl l in
      let more = lead-cut cs at (omega arith) (ap is_lead (sym e) ∙ lead) in
      size-past c cs (points_before (c ∷ cs) (suc a)) (suc a) (points_before cs at) (points_before-cons c cs (suc a) (omega arith)) (omega arith)
]

pub points_before-size : (cs : List ℕ) (p : ℕ) → p ≤ length cs → points_before cs (text_size (take p cs)) ≡ p
points_before-size cs zero h = points_before-zero cs
points_before-size [] (suc p) h = absurd (omega arith)
points_before-size (c ∷ cs) (suc p) h =
    let n = length (encode c) in
    let some = one-some c in
    let size = text_size-cons c (take p cs) in
    let rest : text_size (c ∷ take p cs) - n ≡ text_size (take p cs) = omega arith in
    points_before-cons c cs (text_size (c ∷ take p cs)) (omega arith)
    ∙ ap suc (ap (points_before cs) rest ∙ points_before-size cs p (omega arith))

-- a text is cut at its front
scalars-take : (n : ℕ) (cs : List ℕ) → scalars cs ≡ true → scalars (take n cs) ≡ true
scalars-take zero cs e = refl
scalars-take (suc n) [] e = refl
scalars-take (suc n) (c ∷ cs) e = let parts = and_parts (scalar c) (scalars cs) e in and_from (scalar c) (scalars (take n cs)) parts.0 (scalars-take n cs parts.1)

scalars-drop : (n : ℕ) (cs : List ℕ) → scalars cs ≡ true → scalars (drop n cs) ≡ true
scalars-drop zero cs e = e
scalars-drop (suc n) [] e = refl
scalars-drop (suc n) (c ∷ cs) e = scalars-drop n cs (and_parts (scalar c) (scalars cs) e).1

pub record IsParted (bs : List ℕ) (at p : ℕ) : Type 0 where
  pub within : at ≤ length bs
  pub front : chars (take at bs) ≡ take p (chars bs)
  pub front_utf8 : IsUtf8 (take at bs)
  pub back : chars (drop at bs) ≡ drop p (chars bs)
  pub back_utf8 : IsUtf8 (drop at bs)

pub parted : (bs : List ℕ) (at p : ℕ) → IsUtf8 bs → IsFront (chars bs) at p → IsParted bs at p
parted bs at p u h =
    let cs = chars bs in
    let f = take p cs in
    let g = drop p cs in
    let good = scalars-chars bs u in
    let whole : encodes f ++ encodes g ≡ bs = sym (encodes-append f g) ∙ ap encodes (take-append-drop p cs) ∙ encodes-chars bs u in
    let front : take at bs ≡ encodes f = ap (take at) (sym whole) ∙ take_at (encodes f) (encodes g) at h.size in
    let back : drop at bs ≡ encodes g = ap (drop at) (sym whole) ∙ drop_at (encodes f) (encodes g) at h.size in
    let sum = length-append (encodes f) (encodes g) in
    let all = ap length whole in
    let size = h.size in
    record {
      within = omega arith;
      front = ap chars front ∙ chars-encodes f (scalars-take p cs good);
      front_utf8 = (f, (scalars-take p cs good, sym front));
      back = ap chars back ∙ chars-encodes g (scalars-drop p cs good);
      back_utf8 = (g, (scalars-drop p cs good, sym back));
    }

-- the byte of a place
byte-within : (cs : List ℕ) (k at : ℕ) → k ≤ length cs → text_size (take k cs) ≡ at → byte_of cs k ≡ Some at
byte-within cs k at h e = cond-true (leb k (length cs)) (Some (text_size (take k cs))) None (le-leb k (length cs) h) ∙ ap Some e

pub byte_of-lead : (bs : List ℕ) (at k : ℕ) → IsUtf8 bs → at < length bs → is_lead (get_or bs at 0) ≡ true → count_by is_lead (take at bs) ≡ k → byte_of (chars bs) k ≡ Some at
byte_of-lead bs at k u l lead counted =
    let cs = chars bs in
    let same = encodes-chars bs u in
    let size : text_size cs ≡ length bs = ap length same in
    let before : points_before cs at ≡ k = sym (count-before cs at (omega arith)) ∙ ap (λ b. count_by is_lead (take at b)) same ∙ counted in
    let within = points_before-within cs at in
    byte-within cs k at (omega arith) (ap (λ n. text_size (take n cs)) (sym before) ∙ lead-cut cs at (omega arith) (ap (λ b. is_lead (get_or b at 0)) same ∙ lead))

pub count-utf8 : (bs : List ℕ) → IsUtf8 bs → count_by is_lead bs ≡ length (chars bs)
count-utf8 bs u = ap (count_by is_lead) (sym (encodes-chars bs u)) ∙ count-all (chars bs)

pub byte_of-end : (bs : List ℕ) (k : ℕ) → IsUtf8 bs → count_by is_lead bs ≡ k → byte_of (chars bs) k ≡ Some (length bs)
byte_of-end bs k u counted =
    let cs = chars bs in
    let e = count-utf8 bs u in
    let all : take k cs ≡ cs = take_all k cs (omega arith) in
    byte-within cs k (length bs) (omega arith) (ap text_size all ∙ ap length (encodes-chars bs u))

pub byte_of-past : (bs : List ℕ) (k : ℕ) → IsUtf8 bs → count_by is_lead bs < k → byte_of (chars bs) k ≡ None
byte_of-past bs k u counted =
    let cs = chars bs in
    let e = count-utf8 bs u in
    cond-false (leb k (length cs)) (Some (text_size (take k cs))) None (lt-leb k (length cs) (omega arith))

-- what a place that has a byte says
pub byte_of-some : (cs : List ℕ) (k at : ℕ) → byte_of cs k ≡ Some at → IsFront cs at k
byte_of-some cs k at e = elim (cases_Bool (leb k (length cs))) [
  | inl t ↦ let f = sym (cond-true (leb k (length cs)) (Some (text_size (take k cs))) None t) ∙ e in record { within = leb-true k (length cs) t; size = cc }
  | inr t ↦ let f = sym (cond-false (leb k (length cs)) (Some (text_size (take k cs))) None t) ∙ e in cc
]

pub byte_of-none : (cs : List ℕ) (k : ℕ) → byte_of cs k ≡ None → length cs < k
byte_of-none cs k e = elim (cases_Bool (leb k (length cs))) [
  | inl t ↦ let f = sym (cond-true (leb k (length cs)) (Some (text_size (take k cs))) None t) ∙ e in cc
  | inr t ↦ leb-false k (length cs) t
]

-- bytes that end with a code point
pub chars-push : (bs front : List ℕ) (c : ℕ) → IsUtf8 bs → IsUtf8 front → bs ≡ front ++ encode c → chars bs ≡ chars front ++ c ∷ []
chars-push bs front c u v e =
    encodes_same (chars bs) (chars front ++ c ∷ [])
    (encodes-chars bs u ∙ e ∙ sym (encodes-append (chars front) (c ∷ []) ∙ ap₂ ◌++◌ (encodes-chars front v) (append-nil (encode c))))

pub parted-text : (bs cs : List ℕ) (at : ℕ) → IsUtf8 bs → chars bs ≡ cs → is_cut cs at ≡ true → IsParted bs at (points_before cs at)
parted-text bs cs at u e h = parted bs at (points_before cs at) u (subst (λ t. IsFront t at (points_before cs at)) (sym e) (front_at cs at h))

pub head-of-drop : (xs : List ℕ) (p x : ℕ) (rest : List ℕ) → drop p xs ≡ x ∷ rest → get_or xs p 0 ≡ x
head-of-drop xs p x rest e =
    let f : p ≡ p + 0 = omega arith in
    ap (λ k. get_or xs k 0) f ∙ sym (get_or-drop p xs 0 0) ∙ ap (λ ys. get_or ys 0 0) e

pub no-chars : (bs : List ℕ) → IsUtf8 bs → chars bs ≡ [] → length bs ≡ 0
no-chars bs u e = ap length (sym (encodes-chars bs u) ∙ ap encodes e)

-- where a code point begins, and at the end, a text may be cut, and nowhere else
head-leads : (cs : List ℕ) → 0 < text_size cs → is_lead (get_or (encodes cs) 0 0) ≡ true
head-leads [] h = absurd (omega arith)
head-leads (c ∷ cs) h = let o = one c in ap (λ bs. is_lead (get_or (bs ++ encodes cs) 0 0)) o.is ∙ o.leads

pub cut-lead : (cs : List ℕ) (at : ℕ) → at < text_size cs → is_cut cs at ≡ is_lead (get_or (encodes cs) at 0)
cut-lead cs at h =
    let p = points_before cs at in
    same_from_decides {P = is_cut cs at ≡ true} (is_cut cs at) (is_lead (get_or (encodes cs) at 0)) (λ e. e, λ e. e) (
      λ lead. eq-eqb (text_size (take p cs)) at (lead-cut cs at h lead),
      λ cut.
          let size : text_size (take p cs) ≡ at = eqb-true (text_size (take p cs)) at cut in
          let whole : encodes cs ≡ encodes (take p cs) ++ encodes (drop p cs) = ap encodes (sym (take-append-drop p cs)) ∙ encodes-append (take p cs) (drop p cs) in
          let sum = ap length whole ∙ length-append (encodes (take p cs)) (encodes (drop p cs)) in
          let zero-left : at - at ≡ 0 = omega arith in
          ap (λ bs. is_lead (get_or bs at 0)) whole
          ∙ ap is_lead (get_or-append_right (encodes (take p cs)) (encodes (drop p cs)) at at 0 size (omega arith) ∙ ap (λ k. get_or (encodes (drop p cs)) k 0) zero-left)
          ∙ head-leads (drop p cs) (omega arith),
    )

pub cut-end : (cs : List ℕ) (at : ℕ) → at ≡ text_size cs → is_cut cs at ≡ true
cut-end cs at e =
    let n = length cs in
    let all : take n cs ≡ cs = take_all n cs (omega arith) in
    let before : points_before cs at ≡ n = ap (points_before cs) (e ∙ ap text_size (sym all)) ∙ points_before-size cs n (omega arith) in
    eq-eqb (text_size (take (points_before cs at) cs)) at (ap (λ k. text_size (take k cs)) before ∙ ap text_size all ∙ sym e)
