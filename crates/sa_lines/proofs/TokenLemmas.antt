-- Where the first token of a line ends.
use Rattle.std.proofs.Common.{◌≡◌, ℕ, ◌<◌, ◌==◌, true, false, List, [], ◌∷◌, ◌++◌, length, Some, None, refl, sym, ap, ◌∙◌, inl, inr, arith, ne_eqb}
use Rattle.std.proofs.lemmas.Bool.{cases_Bool, false≢true}
use Rattle.std.proofs.lemmas.Option.{none-some, same_Some}
use Rattle.std.specs.List.{onto_first, list_all, prefix_len}
use Rattle.sa_runs.specs.Runs.{is_plain}
use Rattle.sa_lines.specs.Lines.{is_blank}
use Rattle.sa_lines.specs.Tokens.{TokenState, Between, Inside, Quoted, Escaped, ends, after, ended, tokens_at, tokens_of, leads}
use Rattle.sa_lines.proofs.PlainLemmas.{plain_first, plain_later, plain_no_mark, plain_no_backslash}

-- bytes go onto the first of the lists that follow them
abbrev pub onto_all : List ℕ → List (List ℕ) → List (List ℕ)
onto_all [] ls = ls
onto_all (b ∷ bs) ls = onto_first b (onto_all bs ls)

-- bytes go onto a list that was begun
pub onto_all-begun : (t : List ℕ) (ts : List (List ℕ)) → onto_all t ([] ∷ ts) ≡ t ∷ ts
onto_all-begun [] ts = refl
onto_all-begun (b ∷ bs) ts = ap (onto_first b) (onto_all-begun bs ts)

-- a byte that ends no token, and one that does
pub tokens_at-inside : (p : TokenState) (b : ℕ) (bs : List ℕ) → ends p b ≡ false → tokens_at p (b ∷ bs) ≡ onto_first b (tokens_at (after p b) bs)
tokens_at-inside p b bs f = rw f refl

pub tokens_at-ended : (p : TokenState) (b : ℕ) (bs : List ℕ) → ends p b ≡ true → tokens_at p (b ∷ bs) ≡ ended p (tokens_of bs)
tokens_at-ended p b bs t = rw t refl

pub leads-inside : (p : TokenState) (b : ℕ) (bs : List ℕ) → ends p b ≡ false → leads p (b ∷ bs) ≡ leads (after p b) bs
leads-inside p b bs f = rw f refl

leads-ended : (p : TokenState) (b : ℕ) (bs : List ℕ) → ends p b ≡ true → leads p (b ∷ bs) ≡ None
leads-ended p b bs t = rw t refl

-- the first of bytes that lead somewhere ends no token
pub leads-first : (p q : TokenState) (b : ℕ) (bs : List ℕ) → leads p (b ∷ bs) ≡ Some q → ends p b ≡ false
leads-first p q b bs e = elim (cases_Bool (ends p b)) [ inl t ↦ absurd (none-some q (sym (leads-ended p b bs t) ∙ e)) | inr f ↦ f ]

-- one byte more that ends no token
pub leads-push : (p q : TokenState) (t : List ℕ) (b : ℕ) → leads p t ≡ Some q → ends q b ≡ false → leads p (t ++ b ∷ []) ≡ Some (after q b)
leads-push p q [] b e f = let same = same_Some p q e in rw (same, f) refl
leads-push p q (c ∷ cs) b e f =
    let inside = leads-first p q c cs e in
    leads-inside p c (cs ++ b ∷ []) inside ∙ leads-push (after p c) q cs b (sym (leads-inside p c cs inside) ∙ e) f

-- bytes that lead on from where others led
pub leads-append : (p q r : TokenState) (t u : List ℕ) → leads p t ≡ Some q → leads q u ≡ Some r → leads p (t ++ u) ≡ Some r
leads-append p q r [] u e f = ap (λ s. leads s u) (same_Some p q e) ∙ f
leads-append p q r (b ∷ bs) u e f =
    let inside = leads-first p q b bs e in
    leads-inside p b (bs ++ u) inside ∙ leads-append (after p b) q r bs u (sym (leads-inside p b bs inside) ∙ e) f

-- plain bytes lead on inside a quoted text
after-plain : (b : ℕ) → is_plain b ≡ true → after Quoted b ≡ Quoted
after-plain b h =
    let mark = ne_eqb b 34 (plain_no_mark b h) in
    let backslash = ne_eqb b 92 (plain_no_backslash b h) in
    rw (mark, backslash) refl

pub leads-plain : (run : List ℕ) → list_all is_plain run ≡ true → leads Quoted run ≡ Some Quoted
leads-plain [] h = refl
leads-plain (b ∷ bs) h = ap (λ s. leads s bs) (after-plain b (plain_first b bs h)) ∙ leads-plain bs (plain_later b bs h)

-- bytes that lead from one state to another go onto the first token behind them
pub leads-tokens : (p q : TokenState) (t rest : List ℕ) → leads p t ≡ Some q → tokens_at p (t ++ rest) ≡ onto_all t (tokens_at q rest)
leads-tokens p q [] rest e = ap (λ r. tokens_at r rest) (same_Some p q e)
leads-tokens p q (b ∷ bs) rest e =
    let inside = leads-first p q b bs e in
    tokens_at-inside p b (bs ++ rest) inside ∙ ap (onto_first b) (leads-tokens (after p b) q bs rest (sym (leads-inside p b bs inside) ∙ e))

-- a token was begun here
abbrev pub IsBegun : TokenState → Type 0
IsBegun p = (ts : List (List ℕ)) → ended p ts ≡ [] ∷ ts

not_between : (p : TokenState) → (p ≡ Between → ⊥) → IsBegun p
not_between Between h = absurd (h refl)
not_between Inside h = λ ts. refl
not_between Quoted h = λ ts. refl
not_between Escaped h = λ ts. refl

after-begun : (p : TokenState) (b : ℕ) → IsBegun (after p b)
after-begun Between b = elim (cases_Bool (b == 34)) [ inl t ↦ λ ts. rw t refl | inr f ↦ λ ts. rw f refl ]
after-begun Inside b = elim (cases_Bool (b == 34)) [ inl t ↦ λ ts. rw t refl | inr f ↦ λ ts. rw f refl ]
after-begun Quoted b = elim (cases_Bool (b == 34)) [ inl t ↦ λ ts. rw t refl | inr f ↦ elim (cases_Bool (b == 92)) [ inl t ↦ λ ts. rw (f, t) refl | inr g ↦ λ ts. rw (f, g) refl ] ]
after-begun Escaped b = λ ts. refl

-- one byte or more that ends no token begins one
pub leads-begun : (p q : TokenState) (t : List ℕ) → leads p t ≡ Some q → 0 < length t → IsBegun q
leads-begun p q [] e some = absurd (omega arith)
leads-begun p q (b ∷ []) e some = λ ts. ap (λ r. ended r ts) (sym (same_Some (after p b) q (sym (leads-inside p b [] (leads-first p q b [] e)) ∙ e))) ∙ after-begun p b ts
leads-begun p q (b ∷ c ∷ cs) e some = leads-begun (after p b) q (c ∷ cs) (sym (leads-inside p b (c ∷ cs) (leads-first p q b (c ∷ cs) e)) ∙ e) (omega arith)

-- what ends a token is a blank
ends-blank : (p : TokenState) (b : ℕ) → ends p b ≡ true → is_blank b ≡ true
ends-blank Between b e = e
ends-blank Inside b e = e
ends-blank Quoted b e = absurd (false≢true e)
ends-blank Escaped b e = absurd (false≢true e)

-- a blank in front leaves the tokens
pub tokens_of-blank : (b : ℕ) (bs : List ℕ) → is_blank b ≡ true → tokens_of (b ∷ bs) ≡ tokens_of bs
tokens_of-blank b bs t = tokens_at-ended Between b bs t

-- a token that ends at a byte, and one that ends with the line
pub tokens_of-ended : (q : TokenState) (t : List ℕ) (b : ℕ) (bs : List ℕ) → leads Between t ≡ Some q → 0 < length t → ends q b ≡ true → tokens_of (t ++ b ∷ bs) ≡ t ∷ tokens_of (b ∷ bs)
tokens_of-ended q t b bs e some stop =
    let behind = tokens_at-ended q b bs stop ∙ (leads-begun Between q t e some (tokens_of bs) ∙ ap (λ ts. [] ∷ ts) (sym (tokens_of-blank b bs (ends-blank q b stop)))) in
    leads-tokens Between q t (b ∷ bs) e ∙ (ap (onto_all t) behind ∙ onto_all-begun t (tokens_of (b ∷ bs)))

pub tokens_of-last : (q : TokenState) (t : List ℕ) → leads Between t ≡ Some q → 0 < length t → tokens_of (t ++ []) ≡ t ∷ []
tokens_of-last q t e some =
    leads-tokens Between q t [] e ∙ (ap (onto_all t) (leads-begun Between q t e some []) ∙ onto_all-begun t [])

-- bytes that begin with no blank, and at whose first byte no token was begun, do not stop there
blank_run : (b : ℕ) (bs : List ℕ) → is_blank b ≡ true → 0 < prefix_len is_blank (b ∷ bs)
blank_run b bs t = rw t (omega arith)

pub some_before : (q : TokenState) (t : List ℕ) (b : ℕ) (bs : List ℕ) → leads Between t ≡ Some q → ends q b ≡ true → prefix_len is_blank (t ++ b ∷ bs) ≡ 0 → 0 < length t
some_before q [] b bs e stop none =
    let blank : is_blank b ≡ true = ap (λ p. ends p b) (same_Some Between q e) ∙ stop in
    absurd (omega (arith, blank_run b bs blank))
some_before q (c ∷ cs) b bs e stop none = omega arith
