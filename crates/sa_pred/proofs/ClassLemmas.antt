-- The classes of ASCII code points, and texts of code points of one class.
use Rattle.std.proofs.Common.{◌≡◌, ◌<◌, ◌||◌, ℕ, Bool, false, List, [], ◌∷◌, refl, arith}
use Rattle.std.specs.Bool.{beq}
use Rattle.std.specs.Char.{is_ascii_alphabetic, is_ascii_digit, is_ascii_alphanumeric}
use Rattle.std.specs.List.{list_all}
use Rattle.std.proofs.lemmas.Str.{length-le-encodes}
use Rattle.ucd_table.proofs.Facts.{Stepped-below, same_from_beq}
use Rattle.ucd_category.specs.GeneralCategory.{general_category}
use Rattle.ucd_category.proofs.GeneralCategoryLemmas.{general_category_stepped}
use Rattle.ucd_category.proofs.Computing.{ucd_category}
use Rattle.sa_text.specs.Texts.{text_size}
use Rattle.sa_pred.specs.Classes.{is_letter, is_decimal_number, is_letter_or_number, letter_category, decimal_category, number_category}
use Rattle.sa_pred.specs.Predicates.{all_of}

-- by the table of categories, read at each of the 128
pub letter-ascii : (c : ℕ) → c < 128 → is_ascii_alphabetic c ≡ is_letter c
unfolding ucd_category
letter-ascii c h = same_from_beq _ _ (Stepped-below general_category general_category_stepped (λ x g. beq (is_ascii_alphabetic x) (letter_category g)) 128 refl c h)

pub decimal-ascii : (c : ℕ) → c < 128 → is_ascii_digit c ≡ is_decimal_number c
unfolding ucd_category
decimal-ascii c h = same_from_beq _ _ (Stepped-below general_category general_category_stepped (λ x g. beq (is_ascii_digit x) (decimal_category g)) 128 refl c h)

pub letter_or_number-ascii : (c : ℕ) → c < 128 → is_ascii_alphanumeric c ≡ is_letter_or_number c
unfolding ucd_category
letter_or_number-ascii c h =
    same_from_beq _ _ (Stepped-below general_category general_category_stepped (λ x g. beq (is_ascii_alphanumeric x) (letter_category g || number_category g)) 128 refl c h)

-- a text is empty where it has no byte
pub all-some : (test : ℕ → Bool) (cs : List ℕ) → 0 < text_size cs → list_all test cs ≡ all_of test cs
all-some test [] h = absurd (omega arith)
all-some test (c ∷ cs) h = refl

pub all-none : (test : ℕ → Bool) (cs : List ℕ) → text_size cs ≡ 0 → false ≡ all_of test cs
all-none test [] e = refl
all-none test (c ∷ cs) e = let h = length-le-encodes (c ∷ cs) in absurd (omega arith)
