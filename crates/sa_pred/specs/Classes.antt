-- Which code points are letters and numbers, by their general category (the Unicode standard, the property General_Category).
use Rattle.std.specs.Prelude.{ℕ, Bool, true, false, ◌||◌}
use Rattle.ucd_category.specs.GeneralCategory.{general_category}
use Rattle.ucd_category.specs.declared.GeneralCategory.{GeneralCategory}
use Rattle.ucd_category.specs.declared.GeneralCategory.TheVariants.{UppercaseLetter, LowercaseLetter, TitlecaseLetter, ModifierLetter, OtherLetter, DecimalNumber, LetterNumber, OtherNumber}

-- a category of letters: Lu, Ll, Lt, Lm or Lo
abbrev pub letter_category : GeneralCategory → Bool
letter_category UppercaseLetter = true
letter_category LowercaseLetter = true
letter_category TitlecaseLetter = true
letter_category ModifierLetter = true
letter_category OtherLetter = true
letter_category _ = false

-- the category of decimal digits: Nd
abbrev pub decimal_category : GeneralCategory → Bool
decimal_category DecimalNumber = true
decimal_category _ = false

-- a category of numbers: Nd, Nl or No
abbrev pub number_category : GeneralCategory → Bool
number_category DecimalNumber = true
number_category LetterNumber = true
number_category OtherNumber = true
number_category _ = false

-- the code point is a letter
abbrev pub is_letter : ℕ → Bool
is_letter point = letter_category (general_category point)

-- the code point is a decimal digit
abbrev pub is_decimal_number : ℕ → Bool
is_decimal_number point = decimal_category (general_category point)

-- the code point is a letter or a number
abbrev pub is_letter_or_number : ℕ → Bool
is_letter_or_number point = letter_category (general_category point) || number_category (general_category point)
