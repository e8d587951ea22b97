-- The summary of a run of a script that was made from a number: this project's own format.
use Rattle.std.specs.Prelude.{ℕ, Bool, true, false, List, ◌++◌, length, codes, decimal}
use Rattle.std.specs.List.{count_by}
use Rattle.sa_lines.specs.Lines.{line}
use Rattle.sa_call.specs.declared.reply.Reply.{Reply}
use Rattle.sa_call.specs.declared.reply.Reply.TheVariants.{Done, Shown, Sized, Pictured, Refused}
use Rattle.sa_loop.specs.Histories.{bodies_of}
use Rattle.sa_loop.specs.Plays.{play_replies, play_world}
use Rattle.sa_script.specs.Scripts.{ScriptValue}
use Rattle.sa_report.specs.Plays.{report_of_play, stats_in}
use Rattle.sa_report.specs.Reports.{stats_lines}

abbrev pub is_done : Reply → Bool
is_done Done = true
is_done (Shown items) = false
is_done (Sized stats) = false
is_done (Pictured picture) = false
is_done (Refused code at) = false

abbrev pub is_refused : Reply → Bool
is_refused Done = false
is_refused (Shown items) = false
is_refused (Sized stats) = false
is_refused (Pictured picture) = false
is_refused (Refused code at) = true

-- a word and a number
abbrev pub figure_line : List ℕ → ℕ → List ℕ
figure_line word n = line (word ++ decimal n)

-- how many calls were done, and how many were refused
abbrev pub counts_line : List Reply → List ℕ
counts_line replies = line (codes "done " ++ (decimal (count_by is_done replies) ++ (codes " refused " ++ decimal (count_by is_refused replies))))

-- a number, the bytes of the script, the replies, the bytes of the report, and the lines of statistics
abbrev pub summary_of : ℕ → ℕ → List Reply → ℕ → List ℕ → List ℕ
summary_of number size replies report stats =
    figure_line (codes "sample ") number ++ (figure_line (codes "script ") size ++ (counts_line replies ++ (figure_line (codes "report ") report ++ stats)))

-- the summary of a history's play: its replies, its report and its statistics
abbrev pub summary_of_play : ℕ → ℕ → ScriptValue → List (ℕ × ℕ) → (ℕ → ℕ → Bool) → List ℕ
summary_of_play number size script history marks =
    summary_of number size (play_replies script.decls (bodies_of script.tasks history)) (length (report_of_play script history marks))
    (stats_lines script.names.descrs (stats_in script.decls (play_world script.decls (bodies_of script.tasks history))))
