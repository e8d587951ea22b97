-- What a text consists of: NumPy's numpy.strings.isalpha, isdecimal, isalnum and isspace, which are those of Python's str. The empty text is none of these.
use Rattle.std.specs.Prelude.{ℕ, Bool, false, List, [], ◌∷◌}
use Rattle.std.specs.List.{list_all}
use Rattle.sa_pred.specs.Classes.{is_letter, is_decimal_number, is_letter_or_number}
use Rattle.sa_text.specs.Spaces as spaces

-- there is a code point, and each passes
abbrev pub all_of : (ℕ → Bool) → List ℕ → Bool
all_of test [] = false
all_of test (c ∷ cs) = list_all test (c ∷ cs)

-- a text of letters
abbrev pub is_alpha : List ℕ → Bool
is_alpha text = all_of is_letter text

-- a text of decimal digits
abbrev pub is_decimal : List ℕ → Bool
is_decimal text = all_of is_decimal_number text

-- a text of letters and numbers; Python's str.isalnum reads the property Numeric_Type in place of the categories Nd, Nl and No, which bench/categories.py compares
abbrev pub is_alnum : List ℕ → Bool
is_alnum text = all_of is_letter_or_number text

-- a text of spaces, which are the 29 of Python's str.isspace
abbrev pub is_space : List ℕ → Bool
is_space text = all_of spaces.is_space text
