-- The bytes of a report: this project's own format.
use Rattle.std.specs.Prelude.{ℕ, zero, suc, ◌+◌, ◌==◌, Bool, List, [], ◌∷◌, ◌++◌, length, map, if◌then◌else◌, codes, decimal}
use Rattle.std.specs.List.{flat_map}
use Rattle.sa_base.specs.declared.stats.Stats.{Stats}
use Rattle.sa_lines.specs.Lines.{line}
use Rattle.sa_plain.specs.declared.items.Items.{Items}
use Rattle.sa_plain.specs.Written.{hex_bytes, list_bytes}
use Rattle.sa_call.specs.declared.call.Call.{Call}
use Rattle.sa_call.specs.declared.operands.Picture.{Picture}
use Rattle.sa_call.specs.declared.reply.Reply.{Reply}
use Rattle.sa_call.specs.declared.reply.Reply.TheVariants.{Done, Shown, Sized, Pictured, Refused}
use Rattle.sa_loop.specs.Histories.{marked_from}
use Rattle.sa_script.specs.Scripts.{ScriptValue}

-- the bytes of an arena; a dash where it has none
abbrev pub arena_bytes : List ℕ → List ℕ
arena_bytes [] = codes "-"
arena_bytes (b ∷ bs) = hex_bytes (b ∷ bs)

abbrev pub picture_bytes : Picture → List ℕ
picture_bytes p = codes "picture" ++ (flat_map (λ e. 32 ∷ hex_bytes e) p.entries ++ (codes " arena " ++ arena_bytes p.arena))

-- the statistics of a reply: cursor, live, dead and outside
abbrev pub sized_bytes : Stats → List ℕ
sized_bytes s = codes "sized " ++ (decimal s.cursor ++ 32 ∷ (decimal s.live ++ 32 ∷ (decimal s.dead ++ 32 ∷ decimal s.outside)))

-- a reply
abbrev pub reply_bytes : Reply → List ℕ
reply_bytes Done = codes "done"
reply_bytes (Shown items) = codes "shown " ++ list_bytes items
reply_bytes (Sized stats) = sized_bytes stats
reply_bytes (Pictured picture) = picture_bytes picture
reply_bytes (Refused code at) = codes "refused " ++ (decimal code ++ 32 ∷ decimal at)

-- a task and a call
abbrev pub pair : ℕ × ℕ → List ℕ
pair p = decimal p.0 ++ 58 ∷ decimal p.1

abbrev pub spaced_pair : ℕ × ℕ → List ℕ
spaced_pair p = 32 ∷ pair p

abbrev pub history_line : List (ℕ × ℕ) → List ℕ
history_line history = line (codes "history" ++ flat_map spaced_pair history)

abbrev pub marked_line : List (ℕ × ℕ) → List ℕ
marked_line marks = line (codes "marked" ++ flat_map spaced_pair marks)

-- a call's number and its reply
abbrev pub call_line : ℕ → Reply → List ℕ
call_line number reply = line (decimal number ++ 32 ∷ reply_bytes reply)

abbrev pub memory_line : ℕ → List ℕ
memory_line number = line (decimal number ++ codes " memory")

-- the replies to the calls of a task, in the order of the history
abbrev pub replies_of : ℕ → List (ℕ × ℕ) → List Reply → List Reply
replies_of task [] replies = []
replies_of task (p ∷ ps) [] = []
replies_of task (p ∷ ps) (r ∷ rs) = if p.0 == task then r ∷ replies_of task ps rs else replies_of task ps rs

-- The lines of a task's calls, this many from a number on: a marked call found no memory, and each other one has the next of the task's replies.
abbrev pub call_lines : (ℕ → Bool) → ℕ → ℕ → List Reply → List ℕ
call_lines marked k zero replies = []
call_lines marked k (suc n) [] = if marked k then memory_line k ++ call_lines marked (k + 1) n [] else []
call_lines marked k (suc n) (r ∷ rs) = if marked k then memory_line k ++ call_lines marked (k + 1) n (r ∷ rs) else call_line k r ++ call_lines marked (k + 1) n rs

abbrev pub task_line : ℕ → List ℕ
task_line task = line (codes "task " ++ decimal task)

-- a task and the lines of its calls
abbrev pub task_block : List (ℕ × ℕ) → (ℕ → ℕ → Bool) → List Reply → ℕ → List Call → List ℕ
task_block history marks replies task calls = task_line task ++ call_lines (marks task) 0 (length calls) (replies_of task history replies)

-- the tasks from a number on, each with the lines of its calls
abbrev pub task_lines : List (ℕ × ℕ) → (ℕ → ℕ → Bool) → List Reply → ℕ → List (List Call) → List ℕ
task_lines history marks replies task [] = []
task_lines history marks replies task (calls ∷ others) = task_block history marks replies task calls ++ task_lines history marks replies (task + 1) others

-- an array's name and its final contents
abbrev pub array_line : List ℕ → Items → List ℕ
array_line name items = line (codes "array " ++ (name ++ 32 ∷ list_bytes items))

abbrev pub array_lines : List (List ℕ) → List Items → List ℕ
array_lines [] contents = []
array_lines (n ∷ ns) [] = []
array_lines (n ∷ ns) (c ∷ cs) = array_line n c ++ array_lines ns cs

-- a descriptor's name and the statistics of its allocator
abbrev pub stats_line : List ℕ → Stats → List ℕ
stats_line name stats =
    line (codes "stats " ++ (name ++ (codes " cursor " ++ (decimal stats.cursor ++ (codes " live " ++ (decimal stats.live ++ (codes " dead " ++ (decimal stats.dead ++ (codes " outside " ++ decimal stats.outside)))))))))

abbrev pub stats_lines : List (List ℕ) → List Stats → List ℕ
stats_lines [] stats = []
stats_lines (n ∷ ns) [] = []
stats_lines (n ∷ ns) (s ∷ ss) = stats_line n s ++ stats_lines ns ss

-- what stands behind the line of marks
abbrev pub report_rest : ScriptValue → List (ℕ × ℕ) → (ℕ → ℕ → Bool) → List Reply → List Items → List Stats → List ℕ
report_rest script history marks replies contents stats = task_lines history marks replies 0 script.tasks ++ (array_lines script.names.arrays contents ++ (stats_lines script.names.descrs stats ++ line (codes "end")))

-- the marked calls of a script
abbrev pub marks_in : ScriptValue → (ℕ → ℕ → Bool) → List (ℕ × ℕ)
marks_in script marks = marked_from marks 0 (map length script.tasks)

-- The report of a script with a history and marks, the replies in the order of the history, the final contents of the arrays and the statistics of the descriptors' allocators, both in order of declaration.
abbrev pub report_of : ScriptValue → List (ℕ × ℕ) → (ℕ → ℕ → Bool) → List Reply → List Items → List Stats → List ℕ
report_of script history marks replies contents stats = line (codes "report 1") ++ (history_line history ++ (marked_line (marks_in script marks) ++ report_rest script history marks replies contents stats))

-- the line for a faulty script
abbrev pub fault_line : ℕ → ℕ → List ℕ
fault_line code number = line (codes "fault " ++ (decimal code ++ (codes " line " ++ decimal number)))
