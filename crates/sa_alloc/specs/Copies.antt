-- Copies of values that share a block: which bytes stand in it. Source: this project.
use Rattle.std.specs.Prelude.{ℕ, ◌≤◌, nat_lt, if◌then◌else◌, List, [], length, IsUtf8, encode_utf8_all}
use Rattle.std.specs.Str.{chars}
use Rattle.sa_text.specs.Texts.{text_size, most_bytes}
use Rattle.sa_text.specs.declared.value.Value.{Value}
use Rattle.sa_text.specs.declared.value.Value.TheVariants as value
use Rattle.sa_alloc.specs.declared.seen.Seen.{Seen}
use Rattle.sa_alloc.specs.declared.seen.Seen.TheVariants as seen

-- the most bytes of a text that is copied by itself
abbrev pub alone_most : ℕ
alone_most = 14

-- the UTF-8 of a longer text
abbrev pub long_text : Value → List ℕ
long_text value.Missing = []
long_text (value.Of text) = if nat_lt alone_most (text_size text) then encode_utf8_all text else []

-- the value that a load answers, and the bytes of its text where it is long
abbrev pub value_seen : Seen → Value
value_seen seen.Missing = value.Missing
value_seen (seen.Bytes bytes) = value.Of (chars bytes.now)

abbrev pub long_seen : Seen → List ℕ
long_seen seen.Missing = []
long_seen (seen.Bytes bytes) = if nat_lt alone_most (length bytes.now) then bytes.now else []

abbrev pub IsSeenText : Seen → Type 0
IsSeenText seen.Missing = Unit {0}
IsSeenText (seen.Bytes bytes) = IsUtf8 bytes.now × (length bytes.now ≤ most_bytes)
