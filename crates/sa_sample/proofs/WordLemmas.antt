-- The words of a sample as they are written and read.
use Rattle.std.proofs.Common.{◌≡◌, ℕ, zero, suc, true, List, [], ◌∷◌, ◌++◌, Some, refl, codes}
use Rattle.std.specs.Str.{chars, is_utf8}
use Rattle.std.proofs.Math.Utf8.{encode, encodes, scalars}
use Rattle.sa_lines.specs.Laws.{IsToken, IsWithoutControls}
use Rattle.sa_lines.specs.Quotes.{quoted}
use Rattle.sa_text.specs.declared.value.Value.TheVariants.{Of}
use Rattle.sa_plain.specs.declared.items.Items.TheVariants.{Values}
use Rattle.sa_script.specs.Items.{list_of}
use Rattle.sa_sample.specs.Samples.{word_of}
use Rattle.sa_sample.proofs.TokenLemmas.{IsGood}

-- a token that is one text
pub record IsWord (token : List ℕ) : Type 0 where
  pub good : IsGood token
  pub text : List ℕ
  pub listed : list_of token ≡ Some (Some (Values (Of text ∷ [])))

-- a quoted text of plain code points
quoted-word : (text : List ℕ) → IsToken (quoted text) → IsWithoutControls (quoted text) → scalars (34 ∷ (text ++ 34 ∷ [])) ≡ true → encodes (34 ∷ (text ++ 34 ∷ [])) ≡ quoted text
    → list_of (quoted text) ≡ Some (Some (Values (Of text ∷ []))) → IsWord (quoted text)
quoted-word text whole plain scalar same listed = record {
  good = record { whole = whole; plain = plain; utf8 = (34 ∷ (text ++ 34 ∷ []), (scalar, same)) };
  text = text;
  listed = listed;
}

-- what is sought and what is put in its place
pub word-a : IsWord (quoted (codes "a"))
unfolding is_utf8 chars encode
word-a = quoted-word (codes "a") refl refl refl refl refl

pub word-double : IsWord (quoted (codes "éé"))
unfolding is_utf8 chars encode
word-double = quoted-word (codes "éé") refl refl refl refl refl

-- each word is read again
pub word-is : (k : ℕ) → IsWord (word_of k)
unfolding is_utf8 chars encode
word-is zero = word-a
word-is (suc zero) = quoted-word (codes "naïve") refl refl refl refl refl
word-is (suc (suc zero)) = quoted-word (codes "banana") refl refl refl refl refl
word-is (suc (suc (suc zero))) = quoted-word (codes " padded ") refl refl refl refl refl
word-is (suc (suc (suc (suc zero)))) = quoted-word (codes "データベース") refl refl refl refl refl
word-is (suc (suc (suc (suc (suc zero))))) = quoted-word (codes "a much longer text than sixteen bytes") refl refl refl refl refl
word-is (suc (suc (suc (suc (suc (suc zero)))))) = quoted-word [] refl refl refl refl refl
word-is (suc (suc (suc (suc (suc (suc (suc zero))))))) = quoted-word (codes "x") refl refl refl refl refl
word-is (suc (suc (suc (suc (suc (suc (suc (suc k)))))))) = quoted-word [] refl refl refl refl refl
