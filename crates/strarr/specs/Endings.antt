-- What a run has read and written, by the status that it returns: the causes of each status.
use Rattle.std.specs.Prelude.{◌≡◌, ◌⊎◌, ℕ, ◌+◌, ◌≤◌, Bool, true, false, List, [], length, take, IfSome, Result, MatchResult}
use Rattle.std.specs.Io.KnownBytes.{Appends, Consumes, IsAtEnd}
use Rattle.sa_base.specs.Streams.{Stream, Rose, StreamTakes, StreamGains}
use Rattle.strarr.specs.Outputs.{most_script_bytes}
use Rattle.strarr.specs.declared.status.Status.{Status}
use Rattle.strarr.specs.declared.status.Status.TheVariants as status

-- the whole input was read, which is no longer than a script may be, and no read failed
pub record ReadsWhole (source source' : Stream) (input : List ℕ) : Type 0 where
  pub taken : StreamTakes source source' input
  pub ended : IsAtEnd source'.bytes
  pub limit : length input ≤ most_script_bytes

-- Why reading stopped before the end, behind this many bytes: a read failed, or there was no memory, and fewer bytes were taken than a script may have and one more; or as many were.
abbrev pub StopsBehind : ℕ → Stream → Stream → Status → Type 0
StopsBehind n source source' status.ReadFault = (part : List ℕ) × Consumes source.bytes source'.bytes part × (n + length part ≤ most_script_bytes) × Rose source.faults source'.faults
StopsBehind n source source' status.NoMemory = (part : List ℕ) × StreamTakes source source' part × (n + length part ≤ most_script_bytes)
StopsBehind n source source' status.LongScript = (part : List ℕ) × StreamTakes source source' part × (n + length part ≡ most_script_bytes + 1)
StopsBehind n source source' status.Done = ⊥
StopsBehind n source source' status.Words = ⊥
StopsBehind n source source' status.Script = ⊥
StopsBehind n source source' status.WriteFault = ⊥

-- a write failed behind a front of these bytes
abbrev pub BreaksOff : Stream → Stream → List ℕ → Type 0
BreaksOff sink sink' bytes = (count : ℕ) × Appends sink.bytes sink'.bytes (take count bytes) × Rose sink.faults sink'.faults

-- the input was taken: the whole of it, or nothing where the command reads none
abbrev pub Takes : Bool → Stream → Stream → List ℕ → Type 0
Takes true source source' input = ReadsWhole source source' input
Takes false source source' input = (source' ≡ source) × (input ≡ [])

-- why there is no answer to the input; a command that reads none may find no memory alone
abbrev pub Stops : Bool → Stream → Stream → Status → Type 0
Stops true source source' stat = StopsBehind 0 source source' stat
Stops false source source' stat = (stat ≡ status.NoMemory) × (source' ≡ source)

-- the input was taken, and bytes that may be its output with this status were written
abbrev pub Answers : Bool → (List ℕ → Status → List ℕ → Type 0) → Status → Stream → Stream → Stream → Stream → Type 0
Answers reads gives stat source source' sink sink' = (input : List ℕ) × (bytes : List ℕ) × Takes reads source source' input × gives input stat bytes × StreamGains sink sink' bytes

-- What was read and written, by the status, for a program of which it is told whether it reads its input, and which statuses and bytes it may give for that.
abbrev pub Ends : Bool → (List ℕ → Status → List ℕ → Type 0) → Stream → Stream → Stream → Stream → Status → Type 0
Ends reads gives source source' sink sink' status.Done = Answers reads gives status.Done source source' sink sink'
Ends reads gives source source' sink sink' status.Words = (source' ≡ source) × (sink' ≡ sink)
Ends reads gives source source' sink sink' status.Script = Answers reads gives status.Script source source' sink sink'
Ends reads gives source source' sink sink' status.ReadFault = Stops reads source source' status.ReadFault × (sink' ≡ sink)
Ends reads gives source source' sink sink' status.WriteFault = (input : List ℕ) × (stat : Status) × (bytes : List ℕ) × Takes reads source source' input × gives input stat bytes × BreaksOff sink sink' bytes
Ends reads gives source source' sink sink' status.NoMemory = Stops reads source source' status.NoMemory × (sink' ≡ sink)
Ends reads gives source source' sink sink' status.LongScript = Stops reads source source' status.LongScript × (sink' ≡ sink)

-- what is told of the input, where the source tells it; of no byte where none is read
abbrev pub OfInput : Bool → Stream → (List ℕ → Type 0) → Type 0
OfInput true source told = IfSome source.bytes told
OfInput false source told = told []

-- Where no count of faults rose, the status is one that the program may give for the input, or there was no memory.
abbrev pub Completes : Bool → (List ℕ → Status → List ℕ → Type 0) → Stream → Stream → Stream → Stream → Status → Type 0
Completes reads gives source source' sink sink' stat =
    (Rose source.faults source'.faults → ⊥) → (Rose sink.faults sink'.faults → ⊥)
    → OfInput reads source (λ input. ((bytes : List ℕ) × gives input stat bytes) ⊎ (stat ≡ status.NoMemory))

-- what writing bytes gives: they were written, or a write failed
abbrev pub OutputWritten : Stream → Stream → List ℕ → Result (Unit {0}) Status → Type 0
OutputWritten sink sink' bytes written = MatchResult written (λ _. StreamGains sink sink' bytes) (λ stat. (stat ≡ status.WriteFault) × BreaksOff sink sink' bytes)

-- what writing an answer gives: its status, or what a failed write left
abbrev pub Responds : Status × List ℕ → Stream → Stream → Result Status Status → Type 0
Responds answer sink sink' response = MatchResult response (λ stat. (stat ≡ answer.0) × StreamGains sink sink' answer.1) (λ stat. (stat ≡ status.WriteFault) × BreaksOff sink sink' answer.1)
