-- The report of a history's play.
use Rattle.std.specs.Prelude.{ℕ, Bool, List, length, map, if◌then◌else◌}
use Rattle.std.specs.List.{range_with_len}
use Rattle.sa_base.specs.declared.stats.Stats.{Stats}
use Rattle.sa_alloc.specs.Layouts.{stats_of}
use Rattle.sa_plain.specs.Plains.{PlainValue}
use Rattle.sa_plain.specs.declared.items.Items.{Items}
use Rattle.sa_plain.specs.declared.items.Items.TheVariants.{Values}
use Rattle.sa_call.specs.Decls.{Declared, is_strings_array}
use Rattle.sa_call.specs.Kinds.{items_as, plain_items}
use Rattle.sa_loop.specs.Histories.{bodies_of}
use Rattle.sa_loop.specs.Plays.{play_replies, play_world}
use Rattle.sa_loop.specs.States.{World, plain_of, values_at}
use Rattle.sa_script.specs.Scripts.{ScriptValue}
use Rattle.sa_report.specs.Reports.{report_of}

-- the items of a plain array as a list
abbrev pub plain_list : PlainValue → Items
plain_list p = items_as (plain_items p.kind) p.items

-- the contents of an array in a world
abbrev pub contents_at : Declared → World → ℕ → Items
contents_at decls w array = if is_strings_array decls array then Values (values_at decls w array) else plain_list (plain_of decls w array)

-- the contents of the arrays in a world, in order of declaration
abbrev pub contents_of : Declared → World → List Items
contents_of decls w = map (contents_at decls w) (range_with_len 0 (length decls.arrays))

-- the statistics of the descriptors' layouts in a world, in order of declaration
abbrev pub stats_in : Declared → World → List Stats
stats_in decls w = map (λ d. stats_of (w d).layout) (range_with_len 0 (length decls.descrs))

-- the report of a history with marks: its replies, the final contents and the statistics are those of its play
abbrev pub report_of_play : ScriptValue → List (ℕ × ℕ) → (ℕ → ℕ → Bool) → List ℕ
report_of_play script history marks =
    report_of script history marks (play_replies script.decls (bodies_of script.tasks history)) (contents_of script.decls (play_world script.decls (bodies_of script.tasks history))) (stats_in script.decls (play_world script.decls (bodies_of script.tasks history)))
