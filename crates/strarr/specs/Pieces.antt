-- What reading one piece of the input does, by its answer.
use Rattle.std.specs.Prelude.{◌≡◌, ℕ, ◌≤◌, List, ◌++◌, length, Result, MatchResult}
use Rattle.std.specs.Io.KnownBytes.{IsAtEnd}
use Rattle.sa_base.specs.Streams.{Stream, StreamTakes}
use Rattle.strarr.specs.Outputs.{most_script_bytes}
use Rattle.strarr.specs.Endings.{StopsBehind}
use Rattle.strarr.specs.declared.status.Status.{Status}

-- a piece of this many bytes is appended to the text; none is left where it has none
pub record GrowsBy (source source' : Stream) (text text' : List ℕ) (count : ℕ) : Type 0 where
  pub part : List ℕ
  pub taken : StreamTakes source source' part
  pub grown : text' ≡ text ++ part
  pub counted : length part ≡ count
  pub room : length text' ≤ most_script_bytes
  pub ended : count ≡ 0 → IsAtEnd source'.bytes

-- the reading of one piece behind a text, by its answer
abbrev pub PieceRead : Stream → Stream → List ℕ → List ℕ → Result ℕ Status → Type 0
PieceRead source source' text text' read = MatchResult read (GrowsBy source source' text text') (StopsBehind (length text) source source')
