-- The output of the program: a status and bytes, for the words of the command line and the bytes of the input.
use Rattle.std.specs.Prelude.{◌≡◌, ◌⊎◌, ◌<◌, ◌≤◌, ℕ, nat_le, nat_lt, ◌&&◌, Bool, List, [], ◌∷◌, length, map, true, false, Option, Some, None, option_map, Ok, Err, if◌then◌else◌, codes}
use Rattle.sa_lines.specs.Numbers.{digits_of}
use Rattle.sa_lines.specs.Options.{◌>>=◌}
use Rattle.sa_lines.specs.Tokens.{is_word}
use Rattle.sa_script.specs.Scripts.{ScriptValue, meaning, either}
use Rattle.sa_script.specs.declared.fault.ScriptFault.{ScriptFault}
use Rattle.sa_script.specs.declared.fault.ScriptFault.TheVariants as errors
use Rattle.sa_report.specs.Reports.{fault_line, marks_in}
use Rattle.sa_report.specs.Naming.{history_named, marks_named}
use Rattle.sa_loop.specs.Histories.{IsHistory, serial}
use Rattle.sa_report.specs.Plays.{report_of_play}
use Rattle.sa_report.specs.Summaries.{summary_of_play}
use Rattle.sa_sample.specs.Samples.{sample_of}
use Rattle.strarr.specs.declared.words.Command.{Command}
use Rattle.strarr.specs.declared.words.Command.TheVariants as command
use Rattle.strarr.specs.declared.status.Status.{Status}
use Rattle.strarr.specs.declared.status.Status.TheVariants as status

-- a number between two bounds that a word spells: one to five digits, where leading zeros are allowed
abbrev pub number_within : ℕ → ℕ → List ℕ → Option ℕ
number_within least most w = if nat_le (length w) 5 then (digits_of w >>= λ n. if nat_le least n && nat_le n most then Some n else None) else None

-- a command of two words: how many workers there are, or the number of a sample
abbrev pub command_with : List ℕ → List ℕ → Option Command
command_with w v =
    if is_word (codes "run") w then option_map command.Run (number_within 1 16 v)
    else (if is_word (codes "sample") w then option_map command.Sample (number_within 0 65535 v) else None)

-- the command that the words are
abbrev pub command_of : List (List ℕ) → Option Command
command_of [] = None
command_of (w ∷ []) = if is_word (codes "serial") w then Some command.Serial else None
command_of (w ∷ v ∷ []) = command_with w v
command_of (w ∷ v ∷ u ∷ ws) = None

-- whether a command performs a script on the one thread that called
abbrev pub is_still : Option Command → Bool
is_still None = false
is_still (Some command.Serial) = true
is_still (Some (command.Run n)) = false
is_still (Some (command.Sample n)) = true

-- how many workers a command asks for
abbrev pub workers_in : Option Command → Option ℕ
workers_in None = None
workers_in (Some command.Serial) = None
workers_in (Some (command.Run n)) = Some n
workers_in (Some (command.Sample n)) = None

-- whether it reads a script
abbrev pub reads_script : Option Command → Bool
reads_script None = true
reads_script (Some command.Serial) = true
reads_script (Some (command.Run n)) = true
reads_script (Some (command.Sample n)) = false

-- the most bytes that a script has: a limit of this project
abbrev pub most_script_bytes : ℕ
most_script_bytes = 4194304

-- for an input that is not too long: the report of the script's serial history, or the fault of what is no script
abbrev pub answer_of : List ℕ → Status × List ℕ
answer_of input = either (meaning input) (λ script. (status.Done, report_of_play script (serial script.tasks) (λ task call. false))) (λ fault. (status.Script, fault_line fault.0 fault.1))

-- the summary of the serial history of a number's sample, which is a script: that is the law `samples_are_scripts`
abbrev pub summary_for : ℕ → List ℕ
summary_for number =
    either (meaning (sample_of number)) (λ script. summary_of_play number (length (sample_of number)) script (serial script.tasks) (λ task call. false)) (λ fault. [])

-- the output of the call that waits for nobody
abbrev pub output_for : Option Command → List ℕ → Status × List ℕ
output_for None input = (status.Words, [])
output_for (Some command.Serial) input = if nat_lt most_script_bytes (length input) then (status.LongScript, []) else answer_of input
output_for (Some (command.Run n)) input = (status.Words, [])
output_for (Some (command.Sample n)) input = (status.Done, summary_for n)

abbrev pub output_of : List (List ℕ) → List ℕ → Status × List ℕ
output_of words input = output_for (command_of words) input

-- a status and bytes that a function gives for an input
abbrev pub GivenBy : (List ℕ → Status × List ℕ) → List ℕ → Status → List ℕ → Type 0
GivenBy output input stat bytes = (stat, bytes) ≡ output input

-- Bytes are the report of the history and the marks that their own second and third lines name. These are a history with marks of the script, which holds each task's calls once and in order, the marked ones apart; and each reply, the final arrays and the statistics are those of the list machine that performs the history's calls one after another.
pub record IsReport (script : ScriptValue) (bytes : List ℕ) : Type 0 where
  pub history : List (ℕ × ℕ)
  pub marks : ℕ → ℕ → Bool
  pub order : IsHistory (map length script.tasks) history marks
  pub play : bytes ≡ report_of_play script history marks
  pub history_is_named : history_named bytes ≡ map Some history
  pub marks_are_named : marks_named bytes ≡ map Some (marks_in script marks)

-- what a run in threads may answer to an input that is not too long: the report of a history of the script, or the fault of what is no script
abbrev pub MayAnswer : List ℕ → Status → List ℕ → Type 0
MayAnswer input status.Done bytes = (script : ScriptValue) × (meaning input ≡ Ok script) × IsReport script bytes
MayAnswer input status.Script bytes = (fault : ℕ × ℕ) × (meaning input ≡ Err fault) × (bytes ≡ fault_line fault.0 fault.1)
MayAnswer input status.Words bytes = ⊥
MayAnswer input status.ReadFault bytes = ⊥
MayAnswer input status.WriteFault bytes = ⊥
MayAnswer input status.NoMemory bytes = ⊥
MayAnswer input status.LongScript bytes = ⊥

-- what answers a fault that was read
abbrev pub AnswersFault : ScriptFault → Status → List ℕ → Type 0
AnswersFault (errors.Fault code number) stat bytes = (stat ≡ status.Script) × (bytes ≡ fault_line code number)
AnswersFault errors.Memory stat bytes = ⊥

-- a script that is too long has its own status, and nothing is written
pub record IsTooLong (input : List ℕ) (stat : Status) (bytes : List ℕ) : Type 0 where
  pub long : most_script_bytes < length input
  pub status_is : stat ≡ status.LongScript
  pub nothing : bytes ≡ []

-- the outputs that a command may have for an input: one alone where it performs a script on one thread
abbrev pub MayGive : Option Command → List ℕ → Status → List ℕ → Type 0
MayGive None input stat bytes = GivenBy (output_for None) input stat bytes
MayGive (Some command.Serial) input stat bytes = GivenBy (output_for (Some command.Serial)) input stat bytes
MayGive (Some (command.Sample n)) input stat bytes = GivenBy (output_for (Some (command.Sample n))) input stat bytes
MayGive (Some (command.Run n)) input stat bytes = IsTooLong input stat bytes ⊎ ((length input ≤ most_script_bytes) × MayAnswer input stat bytes)

-- the number that the program exits with: this project's own
abbrev pub number_of_status : Status → ℕ
number_of_status status.Done = 0
number_of_status status.Words = 2
number_of_status status.Script = 3
number_of_status status.ReadFault = 4
number_of_status status.WriteFault = 5
number_of_status status.NoMemory = 6
number_of_status status.LongScript = 7
