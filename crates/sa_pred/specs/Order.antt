-- The order of texts (Python's str; NumPy's numpy.strings.less and those beside it), and that of their UTF-8 (the Unicode standard: in UTF-8 the order of bytes is that of code points).
use Rattle.std.specs.Prelude.{◌≡◌, ℕ, List, encode_utf8_all}
use Rattle.std.specs.Ordering.{nat_cmp}
use Rattle.std.specs.declared.cmp.Ordering.{Ordering}
use Rattle.std.specs.Cmp.Lexicographic.{slice_cmp}

-- texts are ordered by their code points: the first two at one place that differ decide, and where none do the shorter is less
abbrev pub text_order : List ℕ → List ℕ → Ordering
text_order a b = slice_cmp nat_cmp a b

-- the UTF-8 of two texts, byte by byte, is ordered as their code points are
abbrev pub BytesOrderTexts : Type 0
BytesOrderTexts = (a b : List ℕ) → slice_cmp nat_cmp (encode_utf8_all a) (encode_utf8_all b) ≡ text_order a b
