-- The meaning of a script's bytes: what it declares and its calls, or its least faulty line with the first fault of that line.
use Rattle.std.specs.Prelude.{◌≡◌, ℕ, ◌+◌, List, [], ◌∷◌, true, Option, Some, None, unwrap_or, Result, Ok, Err, if◌then◌else◌}
use Rattle.std.specs.Str.{is_utf8}
use Rattle.sa_lines.specs.Lines.{lines_of, is_skipped}
use Rattle.sa_lines.specs.Tokens.{tokens_of}
use Rattle.sa_call.specs.declared.call.Call.{Call}
use Rattle.sa_call.specs.Decls.{Declared}
use Rattle.sa_descr.specs.declared.descr.NaRule.TheVariants.{Absent}
use Rattle.sa_script.specs.declared.cause.Cause.{Cause}
use Rattle.sa_script.specs.declared.cause.Cause.TheVariants as cause
use Rattle.sa_script.specs.declared.context.Context.{Context}
use Rattle.sa_script.specs.declared.statement.Statement.{Statement}
use Rattle.sa_script.specs.declared.fault.ScriptFault.{ScriptFault}
use Rattle.sa_script.specs.declared.fault.ScriptFault.TheVariants as errors
use Rattle.sa_script.specs.declared.statement.Statement.TheVariants as statement
use Rattle.sa_script.specs.Contexts.{nothing, with_begun, with_descr, with_array, with_task, with_last, home_number, kind_in, length_allowed}
use Rattle.sa_script.specs.Names.{Known}
use Rattle.sa_script.specs.Terms.{call_in}
use Rattle.sa_script.specs.Faults.{fault_of, code_of}
use Rattle.sa_script.specs.Statements.{statement_of}

-- what a statement without a fault adds
abbrev pub statement_adds : Context → Statement → Context
statement_adds c statement.Version = record c { version = 2 }
statement_adds c (statement.Descr name rule coerce) = with_descr c name (unwrap_or rule Absent) coerce
statement_adds c (statement.Array name home kind len) = with_array c name (home_number c home) (kind_in kind) (length_allowed len)
statement_adds c statement.Task = with_task c
statement_adds c (statement.Call l) = with_last c (call_in c l)
statement_adds c statement.End = record c { ended = true }

-- what is declared after a statement without a fault
abbrev pub context_after : Context → Statement → Context
context_after c s = with_begun (statement_adds c s)

-- what is declared after a statement with this fault, if any
abbrev pub unless_fault : Context → Option Cause → Result Context Cause
unless_fault c None = Ok c
unless_fault c (Some fault) = Err fault

-- a line's statement, if its tokens spell one
abbrev pub statement_after : Context → Option Statement → Result Context Cause
statement_after c None = Err cause.Syntax
statement_after c (Some s) = unless_fault (context_after c s) (fault_of c s)

-- what is declared after a line, or the line's first fault
abbrev pub line_after : Context → List ℕ → Result Context Cause
line_after c bytes = if is_utf8 bytes then (if is_skipped bytes then Ok c else statement_after c (statement_of (tokens_of bytes))) else Err cause.Utf8

abbrev pub either : {A B C : Type 0} → Result A B → (A → C) → (B → C) → C
either (Ok a) f g = f a
either (Err b) f g = g b

-- what is declared after these lines, or the first faulty one's number and fault; a script without its end is cut at its last line
abbrev pub lines_after : Context → ℕ → List (List ℕ) → Result Context (Cause × ℕ)
lines_after c number [] = if c.ended then Ok c else Err (cause.Cut, number)
lines_after c number (l ∷ ls) = either (line_after c l) (λ d. lines_after d (number + 1) ls) (λ fault. Err (fault, number + 1))

-- what a script is: its version, its declarations, their names, and its tasks' calls
pub record ScriptValue : Type 0 where
  pub version : ℕ
  pub decls : Declared
  pub names : Known
  pub tasks : List (List Call)

abbrev pub script_value : Context → ScriptValue
script_value c = record { version = c.version; decls = record { descrs = c.descrs; arrays = c.arrays }; names = c.names; tasks = c.tasks }

-- the script that the bytes are, or a fault's number and line
abbrev pub meaning : List ℕ → Result ScriptValue (ℕ × ℕ)
meaning bytes = either (lines_after nothing 0 (lines_of bytes)) (λ c. Ok (script_value c)) (λ fault. Err (code_of fault.0, fault.1))

-- want of memory may come in place of each answer, and a fault is the definition's
abbrev pub GivesFault : ScriptFault → Result ScriptValue (ℕ × ℕ) → Type 0
GivesFault (errors.Fault code number) defined = defined ≡ Err (code, number)
GivesFault errors.Memory defined = Unit {0}

-- a call gives what the definition says, unless there is no memory for it
abbrev pub GivesScript : Result ScriptValue ScriptFault → Result ScriptValue (ℕ × ℕ) → Type 0
GivesScript (Ok script) defined = defined ≡ Ok script
GivesScript (Err error) defined = GivesFault error defined
