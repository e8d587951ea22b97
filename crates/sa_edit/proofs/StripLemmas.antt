-- A text that is stripped: one code point less at an end, and where what is left stands.
use Rattle.std.proofs.Common.{◌≡◌, ◌≤◌, ◌+◌, ◌-◌, ℕ, Bool, true, List, [], ◌∷◌, ◌++◌, length, take, drop, reverse, refl, sym, ap, ◌∙◌, arith, length-append, take_at, drop_at}
use Rattle.std.proofs.lemmas.Bool.{cond-true}
use Rattle.std.proofs.lemmas.List.{drop-drop, take-take, reverse-append}
use Rattle.sa_edit.specs.Strips.{without_front, without_back}

pub front-less : (test : ℕ → Bool) (c : ℕ) (cs all : List ℕ) → test c ≡ true → all ≡ c ∷ cs → without_front test cs ≡ without_front test all
front-less test c cs all e same = sym (ap (without_front test) same ∙ cond-true (test c) (without_front test cs) (c ∷ cs) e)

pub back-less : (test : ℕ → Bool) (c : ℕ) (cs all : List ℕ) → test c ≡ true → all ≡ cs ++ c ∷ [] → without_back test cs ≡ without_back test all
back-less test c cs all e same = ap reverse (front-less test c (reverse cs) (reverse all) e (ap reverse same ∙ reverse-append cs (c ∷ [])))

pub front-place : (bytes rest point behind : List ℕ) → length rest ≤ length bytes → rest ≡ drop (length bytes - length rest) bytes → rest ≡ point ++ behind
    → behind ≡ drop (length bytes - length behind) bytes
front-place bytes rest point behind most place e =
    let n = length point in
    let s = length bytes - length rest in
    let size = ap length e ∙ length-append point behind in
    let sum : s + n ≡ length bytes - length behind = omega arith in
    sym (ap (drop n) (sym place ∙ e) ∙ drop_at point behind n refl) ∙ drop-drop n s bytes ∙ ap (λ k. drop k bytes) sum

pub back-place : (bytes rest before point : List ℕ) → rest ≡ take (length rest) bytes → rest ≡ before ++ point → before ≡ take (length before) bytes
back-place bytes rest before point place e =
    let n = length before in
    let size = ap length e ∙ length-append before point in
    sym (ap (take n) (sym place ∙ e) ∙ take_at before point n refl) ∙ take-take n (length rest) bytes (omega arith)
