-- A report from its parts, and as that of a play.
use Rattle.std.proofs.Common.{◌≡◌, ℕ, Bool, List, [], ◌∷◌, ◌++◌, codes, sym, ap, ◌∙◌, subst, append_assoc}
use Rattle.std.specs.List.{flat_map}
use Rattle.sa_base.specs.declared.stats.Stats.{Stats}
use Rattle.sa_hall.specs.Contents.{Contents}
use Rattle.sa_lines.specs.Lines.{line}
use Rattle.sa_plain.specs.declared.items.Items.{Items}
use Rattle.sa_call.specs.declared.call.Call.{Call}
use Rattle.sa_call.specs.declared.reply.Reply.{Reply}
use Rattle.sa_call.specs.Decls.{Declared, IsDeclared}
use Rattle.sa_loop.specs.Held.{IsPlay}
use Rattle.sa_loop.specs.Histories.{bodies_of}
use Rattle.sa_loop.specs.Plays.{play_replies, play_world}
use Rattle.sa_loop.specs.Runs.{world_of}
use Rattle.sa_script.specs.Scripts.{ScriptValue}
use Rattle.sa_report.specs.Plays.{contents_of, stats_in, report_of_play}
use Rattle.sa_report.specs.Reports.{spaced_pair, marks_in, task_lines, array_lines, stats_lines, report_rest, report_of}
use Rattle.sa_report.proofs.ContentLemmas.{contents-alike, stats-alike}

-- the bytes of a report, part by part
report-parts : (script : ScriptValue) (history : List (ℕ × ℕ)) (marks : ℕ → ℕ → Bool) (replies : List Reply) (contents : List Items) (stats : List Stats)
    → report_of script history marks replies contents stats
    ≡ (line (codes "report 1") ++ codes "history") ++ (flat_map spaced_pair history ++ ((10 ∷ codes "marked") ++ (flat_map spaced_pair (marks_in script marks) ++ ((10 ∷ []) ++ (task_lines history marks replies 0 script.tasks ++ (array_lines script.names.arrays contents ++ (stats_lines script.names.descrs stats ++ line (codes "end"))))))))
report-parts script history marks replies contents stats =
    let marked : List ℕ = flat_map spaced_pair (marks_in script marks) in
    let rest : List ℕ = report_rest script history marks replies contents stats in
    let second : List ℕ = line (codes "marked" ++ marked) ++ rest in
    ap (λ bytes. (line (codes "report 1") ++ codes "history") ++ bytes) (append_assoc (flat_map spaced_pair history) (10 ∷ []) second ∙ ap (λ bytes. flat_map spaced_pair history ++ 10 ∷ (codes "marked" ++ bytes)) (append_assoc marked (10 ∷ []) rest))

-- parts that are written one after another
nine-parts : (o a b c d e f g h i : List ℕ) (p q r s t u v w x : List ℕ)
    → o ≡ [] → a ≡ o ++ p → b ≡ a ++ q → c ≡ b ++ r → d ≡ c ++ s → e ≡ d ++ t → f ≡ e ++ u → g ≡ f ++ v → h ≡ g ++ w → i ≡ h ++ x
    → i ≡ p ++ (q ++ (r ++ (s ++ (t ++ (u ++ (v ++ (w ++ x)))))))
nine-parts o a b c d e f g h i p q r s t u v w x e0 e1 e2 e3 e4 e5 e6 e7 e8 e9 = rw (e9, e8, e7, e6, e5, e4, e3, e2, e1, e0) (simp append_assoc)

pub report-written : (script : ScriptValue) (history : List (ℕ × ℕ)) (marks : ℕ → ℕ → Bool) (replies : List Reply) (contents : List Items) (stats : List Stats) (o a b c d e f g h i : List ℕ)
    → o ≡ [] → a ≡ o ++ (line (codes "report 1") ++ codes "history") → b ≡ a ++ flat_map spaced_pair history → c ≡ b ++ 10 ∷ codes "marked" → d ≡ c ++ flat_map spaced_pair (marks_in script marks) → e ≡ d ++ 10 ∷ []
    → f ≡ e ++ task_lines history marks replies 0 script.tasks → g ≡ f ++ array_lines script.names.arrays contents → h ≡ g ++ stats_lines script.names.descrs stats → i ≡ h ++ line (codes "end")
    → i ≡ report_of script history marks replies contents stats
report-written script history marks replies contents stats o a b c d e f g h i e0 e1 e2 e3 e4 e5 e6 e7 e8 e9 =
    nine-parts o a b c d e f g h i (line (codes "report 1") ++ codes "history") (flat_map spaced_pair history) (10 ∷ codes "marked") (flat_map spaced_pair (marks_in script marks)) (10 ∷ []) (task_lines history marks replies 0 script.tasks) (array_lines script.names.arrays contents) (stats_lines script.names.descrs stats) (line (codes "end"))
    e0 e1 e2 e3 e4 e5 e6 e7 e8 e9
    ∙ sym (report-parts script history marks replies contents stats)

-- the report of what was gathered is that of the play
pub report-alike : (script : ScriptValue) (decls : Declared) (pairs : List (ℕ × ℕ)) (marks : ℕ → ℕ → Bool) (holds : ℕ → Contents) (bodies : List Call) (replies : List Reply)
    → decls ≡ script.decls → bodies ≡ bodies_of script.tasks pairs → IsPlay decls holds bodies replies → IsDeclared script.decls
    → report_of script pairs marks replies (contents_of script.decls (world_of holds)) (stats_in script.decls (world_of holds)) ≡ report_of_play script pairs marks
report-alike script decls pairs marks holds bodies replies same calls played declared =
    let world = play_world script.decls (bodies_of script.tasks pairs) in
    let play : IsPlay script.decls holds (bodies_of script.tasks pairs) replies =
    subst (λ (cs : List Call). IsPlay script.decls holds cs replies) calls (subst (λ (d : Declared). IsPlay d holds bodies replies) same played) in
    let answers : List Reply = play_replies script.decls (bodies_of script.tasks pairs) in
    ap (λ (rs : List Reply). report_of script pairs marks rs (contents_of script.decls (world_of holds)) (stats_in script.decls (world_of holds))) play.answers
    ∙ (ap (λ (cs : List Items). report_of script pairs marks answers cs (stats_in script.decls (world_of holds))) (contents-alike script.decls holds world declared play.states)
    ∙ ap (λ (ss : List Stats). report_of script pairs marks answers (contents_of script.decls world) ss) (stats-alike script.decls holds world play.states))
