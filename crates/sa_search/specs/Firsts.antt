-- What is counted and replaced is what is found, from the left: the first place, and then what is behind it.
use Rattle.std.specs.Prelude.{◌≡◌, ◌<◌, ◌+◌, ◌++◌, ℕ, suc, List, length, take, drop, MatchOption}
use Rattle.sa_search.specs.Counts.{count_of}
use Rattle.sa_search.specs.Finds.{first_place}
use Rattle.sa_search.specs.Replaces.{replaced}

-- of a part that is not empty: the first place counts as one, and the next is sought behind the part that stands there; none where there is none
abbrev pub CountsFirst : Type 0
CountsFirst = (part text : List ℕ) → 0 < length part →
    MatchOption (first_place text part 0 (length text))
    (count_of part 0 text ≡ 0)
    (λ p. count_of part 0 text ≡ suc (count_of part 0 (drop (p + length part) text)))

-- one more place than n is replaced: the first, with what is before it as it is, and n of those behind the part that stands there
abbrev pub ReplacesFirst : Type 0
ReplacesFirst = (old new text : List ℕ) (n : ℕ) → 0 < length old →
    MatchOption (first_place text old 0 (length text))
    (replaced old new (suc n) 0 text ≡ text)
    (λ p. replaced old new (suc n) 0 text ≡ take p text ++ (new ++ replaced old new n 0 (drop (p + length old) text)))
