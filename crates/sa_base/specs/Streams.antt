-- Sources and sinks: their bytes, where they tell them, and their faults, with what a read and a write do. Source: this project, in the words of std's readers and writers.
use Rattle.std.specs.Prelude.{◌≡◌, ℕ, ◌+◌, ◌-◌, ◌^◌, ◌≤◌, min, List, length, take, Option}
use Rattle.std.specs.Io.KnownBytes.{Keeps, Appends, Consumes, IsAtEnd}
use Rattle.sa_base.specs.declared.source.Got.{Got}
use Rattle.sa_base.specs.declared.source.Got.TheVariants as got
use Rattle.sa_base.specs.declared.sink.Took.{Took}
use Rattle.sa_base.specs.declared.sink.Took.TheVariants as took

-- A stream: the bytes that are left of a source, or those that were written to a sink, where it tells them; and how many reads or writes have failed. The count never falls, and at its last value it stands still.
pub record Stream : Type 0 where
  pub bytes : Option (List ℕ)
  pub faults : ℕ

-- the last value of a count of faults
abbrev pub last_count : ℕ
last_count = 2 ^ 64 - 1

-- the count rose, or stands at its last value
abbrev pub Rose : ℕ → ℕ → Type 0
Rose before now = min (before + 1) last_count ≤ now

-- these bytes were the next ones left, and are taken, without a fault
pub record StreamTakes (old new : Stream) (bytes : List ℕ) : Type 0 where
  pub taken : Consumes old.bytes new.bytes bytes
  pub faults : new.faults ≡ old.faults

-- these bytes are behind those that were written before, without a fault
pub record StreamGains (old new : Stream) (bytes : List ℕ) : Type 0 where
  pub written : Appends old.bytes new.bytes bytes
  pub faults : new.faults ≡ old.faults

-- a fault, which changed no byte
pub record StreamFails (old new : Stream) : Type 0 where
  pub bytes : Keeps old.bytes new.bytes
  pub faults : Rose old.faults new.faults

-- nothing is left, and no byte was taken, without a fault
pub record StreamEnds (old new : Stream) : Type 0 where
  pub left : IsAtEnd new.bytes
  pub bytes : Keeps old.bytes new.bytes
  pub faults : new.faults ≡ old.faults

-- a number of bytes at the front of these, at least one
pub record IsPiece (bytes : List ℕ) (n : ℕ) : Type 0 where
  pub some : 1 ≤ n
  pub room : n ≤ length bytes

-- a read into a buffer, which is seen after it, by its answer
abbrev pub Reads : Stream → Stream → List ℕ → Got → Type 0
Reads old new buffer (got.Bytes n) = IsPiece buffer n × StreamTakes old new (take n buffer)
Reads old new buffer got.End = StreamEnds old new
Reads old new buffer got.Failed = StreamFails old new

-- a write of these bytes, by its answer
abbrev pub Writes : Stream → Stream → List ℕ → Took → Type 0
Writes old new bytes (took.Bytes n) = IsPiece bytes n × StreamGains old new (take n bytes)
Writes old new bytes took.Failed = StreamFails old new

-- the count of faults after a read with this answer, where each fault is counted once
abbrev pub faults_after_read : Got → ℕ → ℕ
faults_after_read (got.Bytes n) faults = faults
faults_after_read got.End faults = faults
faults_after_read got.Failed faults = min (faults + 1) last_count

-- the count of faults after a write with this answer
abbrev pub faults_after_write : Took → ℕ → ℕ
faults_after_write (took.Bytes n) faults = faults
faults_after_write took.Failed faults = min (faults + 1) last_count
