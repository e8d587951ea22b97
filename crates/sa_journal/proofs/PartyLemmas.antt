-- Parties of a deed and of a journal, and their places.
use Rattle.std.proofs.Common.{◌≡◌, ◌≢◌, ◌<◌, ◌≤◌, ◌+◌, ◌-◌, ◌==◌, nat_lt, ◌&&◌, ◌||◌, not, cond, ℕ, zero, suc, Bool, true, false, List, [], ◌∷◌, set, All, refl, sym, ap, ◌∙◌, subst, arith}
use Rattle.std.proofs.lemmas.Bool.Decides.{nat_tests}
use Rattle.std.proofs.lemmas.List.Elements.{All-head, All-tail}
use Rattle.std.specs.Prelude.{slice_index_or}
use Rattle.sa_journal.specs.declared.party.Party.{Party}
use Rattle.sa_journal.specs.declared.party.Party.TheVariants.{Descr, Task}
use Rattle.sa_journal.specs.Said.{Said}
use Rattle.sa_journal.specs.Parties.{most_descrs, among, names, IsParty, NamesParties, seat_of, party_at, debt_of, owed_by, owed_to_none}

same_number : (m n : ℕ) → (m == n) ≡ true → m ≡ n
same_number m n e = grind (arith, nat_tests)

other_number : (m n : ℕ) → m ≢ n → (m == n) ≡ false
other_number m n e = grind (arith, nat_tests)

-- a number among some that all meet a condition meets it
among_all : (P : ℕ → Type 0) (d : ℕ) (ds : List ℕ) → All P ds → among d ds ≡ true → P d
among_all P d [] a e = absurd (cc e)
among_all P d (x ∷ xs) a e = go (x == d) refl (λ r. among_all P d xs (All-tail P x xs a) r) where
  go : (b : Bool) → (x == d) ≡ b → (among d xs ≡ true → P d) → P d
  go true same rest = subst P (same_number x d same) (All-head P x xs a)
  go false apart rest = rest (sym (ap (λ b. b || among d xs) apart) ∙ e)

-- whom a deed names is a party of the journal, where all that it names are
pub named_party : (descrs tasks : ℕ) (s : Said) (p : Party) → NamesParties descrs tasks s → names s p ≡ true → IsParty descrs tasks p
named_party descrs tasks s (Descr d) all e = among_all (λ n. IsParty descrs tasks (Descr n)) d s.locks all.0 e
named_party descrs tasks s (Task t) all e = subst (λ (n : ℕ). n < tasks) (same_number s.task t e) all.1

-- a party has a place
pub seat_below : (descrs tasks : ℕ) (p : Party) → IsParty descrs tasks p → seat_of descrs p < descrs + tasks
seat_below descrs tasks (Descr d) is = let below : d < descrs = is.0 in omega arith
seat_below descrs tasks (Task t) is = omega arith

-- two parties of one place are one
pub one_seat : (descrs tasks : ℕ) (p q : Party) → IsParty descrs tasks p → IsParty descrs tasks q → seat_of descrs p ≡ seat_of descrs q → p ≡ q
one_seat descrs tasks (Descr d) (Descr e) p q same = ap (λ n. Descr n) same
one_seat descrs tasks (Descr d) (Task t) p q same = let below : d < descrs = p.0 in absurd (omega arith)
one_seat descrs tasks (Task t) (Descr e) p q same = let below : e < descrs = q.0 in absurd (omega arith)
one_seat descrs tasks (Task t) (Task u) p q same = let e : t ≡ u = omega arith in ap (λ n. Task n) e

-- the party at a place has this place
pub seat_at : (descrs seat : ℕ) → seat_of descrs (party_at descrs seat) ≡ seat
seat_at descrs seat = go (nat_lt seat descrs) refl where
  go : (b : Bool) → nat_lt seat descrs ≡ b → seat_of descrs (cond b (Descr seat) (Task (seat - descrs))) ≡ seat
  go true e = refl
  go false e = let past : descrs ≤ seat = grind (arith, nat_tests) in omega (arith, past)

-- before a line is linked it is owed to whom its deed names
pub owed_first : (descrs tasks : ℕ) (s : Said) (p : Party) → IsParty descrs tasks p → names s p ≡ true → slice_index_or (owed_by s) (debt_of p) false ≡ true
owed_first descrs tasks s (Task t) is e = refl
owed_first descrs tasks s (Descr d) is e = at d is.1 e where
  at : (n : ℕ) → n < most_descrs → among n s.locks ≡ true → slice_index_or (owed_by s) n false ≡ true
  at zero _ e = e
  at (suc zero) _ e = e
  at (suc (suc zero)) _ e = e
  at (suc (suc (suc zero))) _ e = e
  at (suc (suc (suc (suc zero)))) _ e = e
  at (suc (suc (suc (suc (suc zero))))) _ e = e
  at (suc (suc (suc (suc (suc (suc zero)))))) _ e = e
  at (suc (suc (suc (suc (suc (suc (suc zero))))))) _ e = e
  at (suc (suc (suc (suc (suc (suc (suc (suc n)))))))) below e = absurd (omega arith)

-- a line that is owed to nobody is not owed to any party
pub owed_last : (n : ℕ) → slice_index_or owed_to_none n false ≡ false
owed_last zero = refl
owed_last (suc zero) = refl
owed_last (suc (suc zero)) = refl
owed_last (suc (suc (suc zero))) = refl
owed_last (suc (suc (suc (suc zero)))) = refl
owed_last (suc (suc (suc (suc (suc zero))))) = refl
owed_last (suc (suc (suc (suc (suc (suc zero)))))) = refl
owed_last (suc (suc (suc (suc (suc (suc (suc zero))))))) = refl
owed_last (suc (suc (suc (suc (suc (suc (suc (suc zero)))))))) = refl
owed_last (suc (suc (suc (suc (suc (suc (suc (suc (suc n))))))))) = refl

-- a flag that is put in the place of another, and the other flags
pub put_flag : (flags : List Bool) (k : ℕ) → slice_index_or (set flags k false) k false ≡ false
put_flag [] k = refl
put_flag (b ∷ bs) zero = refl
put_flag (b ∷ bs) (suc k) = put_flag bs k

other_flag : (flags : List Bool) (k j : ℕ) → j ≢ k → slice_index_or (set flags k false) j false ≡ slice_index_or flags j false
other_flag [] k j apart = refl
other_flag (b ∷ bs) zero zero apart = absurd (apart refl)
other_flag (b ∷ bs) zero (suc j) apart = refl
other_flag (b ∷ bs) (suc k) zero apart = refl
other_flag (b ∷ bs) (suc k) (suc j) apart = other_flag bs k j (λ e. apart (ap suc e))

-- where a deed names a party and its line is linked to it, what is linked to the other parties stays
pub linked_else : (descrs tasks : ℕ) (s : Said) (flags : List Bool) (p q : Party) → IsParty descrs tasks p → IsParty descrs tasks q
    → names s q ≡ true → seat_of descrs p ≢ seat_of descrs q
    → (names s p && not (slice_index_or (set flags (debt_of q) false) (debt_of p) false)) ≡ (names s p && not (slice_index_or flags (debt_of p) false))
linked_else descrs tasks s flags (Descr d) (Descr e) p q named apart = ap (λ b. among d s.locks && not b) (other_flag flags e d apart)
linked_else descrs tasks s flags (Descr d) (Task u) p q named apart =
    let below : d < most_descrs = p.1 in
    ap (λ b. among d s.locks && not b) (other_flag flags most_descrs d (λ e. omega arith))
linked_else descrs tasks s flags (Task t) (Descr e) p q named apart =
    let below : e < most_descrs = q.1 in
    ap (λ b. (s.task == t) && not b) (other_flag flags e most_descrs (λ e. omega arith))
linked_else descrs tasks s flags (Task t) (Task u) p q named apart =
    let task : s.task ≡ u = same_number s.task u named in
    let other : (s.task == t) ≡ false = other_number s.task t (λ e. apart (ap (λ n. descrs + n) (sym e ∙ task))) in
    ap (λ b. b && not (slice_index_or (set flags most_descrs false) most_descrs false)) other ∙ sym (ap (λ b. b && not (slice_index_or flags most_descrs false)) other)
