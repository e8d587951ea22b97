-- The source and the sink in memory: what contracts see of them, and what they answer.
use Rattle.std.specs.Prelude.{ℕ, ◌+◌, ◌-◌, ◌==◌, min, List, ◌++◌, length, take, drop, Some, if◌then◌else◌}
use Rattle.std.specs.List.{list_any}
use Rattle.sa_base.specs.Streams.{Stream, last_count, faults_after_read, faults_after_write}
use Rattle.sa_base.specs.declared.source.Got.{Got}
use Rattle.sa_base.specs.declared.source.Got.TheVariants as got
use Rattle.sa_base.specs.declared.sink.Took.{Took}
use Rattle.sa_base.specs.declared.sink.Took.TheVariants as took

-- the bytes left, the most that one read gives, the calls that fail, the number of the next call, and the faults so far
pub record MemSourceValue : Type 0 where
  pub left : List ℕ
  pub piece : ℕ
  pub fails : List ℕ
  pub calls : ℕ
  pub faults : ℕ

-- it tells the bytes that are left
abbrev pub told_by_source : MemSourceValue → Stream
told_by_source s = record { bytes = Some s.left; faults = s.faults }

-- what a read into a buffer of this length answers
abbrev pub mem_got : MemSourceValue → ℕ → Got
mem_got s room =
    if list_any (λ call. call == s.calls) s.fails then got.Failed
    else if length s.left == 0 then got.End
    else got.Bytes (min s.piece (min room (length s.left)))

abbrev pub got_count : Got → ℕ
got_count (got.Bytes n) = n
got_count got.End = 0
got_count got.Failed = 0

-- the source after a read with this answer
abbrev pub mem_source_after : MemSourceValue → Got → MemSourceValue
mem_source_after s g = record { left = drop (got_count g) s.left; piece = s.piece; fails = s.fails; calls = min (s.calls + 1) last_count; faults = faults_after_read g s.faults }

-- the bytes written, the room left, the most that one write takes, the calls that fail, the number of the next call, and the faults so far
pub record MemSinkValue : Type 0 where
  pub written : List ℕ
  pub room : ℕ
  pub piece : ℕ
  pub fails : List ℕ
  pub calls : ℕ
  pub faults : ℕ

-- it tells the bytes that were written
abbrev pub told_by_sink : MemSinkValue → Stream
told_by_sink s = record { bytes = Some s.written; faults = s.faults }

-- what a write of this many bytes answers
abbrev pub mem_took : MemSinkValue → ℕ → Took
mem_took s count =
    if list_any (λ call. call == s.calls) s.fails then took.Failed
    else if s.room == 0 then took.Failed
    else took.Bytes (min s.piece (min s.room count))

abbrev pub took_count : Took → ℕ
took_count (took.Bytes n) = n
took_count took.Failed = 0

-- the sink after a write of these bytes with this answer
abbrev pub mem_sink_after : MemSinkValue → List ℕ → Took → MemSinkValue
mem_sink_after s bytes t = record { written = s.written ++ take (took_count t) bytes; room = s.room - took_count t; piece = s.piece; fails = s.fails; calls = min (s.calls + 1) last_count; faults = faults_after_write t s.faults }
