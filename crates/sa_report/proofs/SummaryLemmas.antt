-- A summary from its parts, and as that of a play.
use Rattle.std.proofs.Common.{◌≡◌, ℕ, ◌+◌, ◌≤◌, Bool, true, false, List, ◌++◌, length, take, get_or, cond, Some, refl, ap, ◌∙◌, subst, arith, append_assoc}
use Rattle.std.specs.List.{count_by, slice_get}
use Rattle.std.proofs.lemmas.List.Sums.{count_by_more_no, count_by_more_yes}
use Rattle.std.proofs.lemmas.Option.{get_or_from_slice_get, slice_get_within}
use Rattle.sa_hall.specs.Contents.{Contents}
use Rattle.sa_call.specs.declared.call.Call.{Call}
use Rattle.sa_call.specs.declared.reply.Reply.{Reply}
use Rattle.sa_call.specs.Decls.{Declared}
use Rattle.sa_loop.specs.Held.{IsPlay}
use Rattle.sa_loop.specs.Histories.{bodies_of}
use Rattle.sa_loop.specs.Plays.{play_replies, play_world}
use Rattle.sa_loop.specs.Runs.{world_of}
use Rattle.sa_base.specs.declared.stats.Stats.{Stats}
use Rattle.sa_script.specs.Scripts.{ScriptValue}
use Rattle.sa_report.specs.Plays.{report_of_play, stats_in}
use Rattle.sa_report.specs.Reports.{stats_lines}
use Rattle.sa_report.specs.Summaries.{summary_of, summary_of_play}
use Rattle.sa_report.proofs.ContentLemmas.{stats-alike}

-- one reply more is counted where it passes
pub counted : (p : Reply → Bool) (replies : List Reply) (k : ℕ) (r : Reply) (old new : ℕ) → slice_get replies k ≡ Some r → old ≡ count_by p (take k replies) → new ≡ old + cond (p r) 1 0
    → new ≡ count_by p (take (k + 1) replies)
counted p replies k r old new got before step = go (p r) refl step
  where
    at : get_or replies k r ≡ r
    at = get_or_from_slice_get replies k r r got

    go : (b : Bool) → p r ≡ b → new ≡ old + cond b 1 0 → new ≡ count_by p (take (k + 1) replies)
    go true is more = let one = count_by_more_yes p replies k r (slice_get_within replies k r got) (ap p at ∙ is) in omega (arith, more, before, one)
    go false is more = let none = count_by_more_no p replies k r (slice_get_within replies k r got) (ap p at ∙ is) in omega (arith, more, before, none)

pub at-most-one : (b : Bool) → cond b 1 0 ≤ 1
at-most-one true = omega arith
at-most-one false = omega arith

-- bytes that are written behind others, part by part
pub five-parts : (a b d e f : List ℕ) (p q r s t : List ℕ) → a ≡ p → b ≡ a ++ q → d ≡ b ++ r → e ≡ d ++ s → f ≡ e ++ t → f ≡ p ++ (q ++ (r ++ (s ++ t)))
five-parts a b d e f p q r s t e1 e2 e3 e4 e5 = rw (e5, e4, e3, e2, e1) (simp append_assoc)

-- the summary of what was gathered is that of the play
pub summary-alike : (number size : ℕ) (script : ScriptValue) (decls : Declared) (pairs : List (ℕ × ℕ)) (marks : ℕ → ℕ → Bool) (holds : ℕ → Contents) (bodies : List Call) (replies : List Reply) (report : List ℕ)
    → decls ≡ script.decls → bodies ≡ bodies_of script.tasks pairs → IsPlay decls holds bodies replies → report ≡ report_of_play script pairs marks
    → summary_of number size replies (length report) (stats_lines script.names.descrs (stats_in script.decls (world_of holds))) ≡ summary_of_play number size script pairs marks
summary-alike number size script decls pairs marks holds bodies replies report same calls played written =
    let world = play_world script.decls (bodies_of script.tasks pairs) in
    let play : IsPlay script.decls holds (bodies_of script.tasks pairs) replies =
    subst (λ (cs : List Call). IsPlay script.decls holds cs replies) calls (subst (λ (d : Declared). IsPlay d holds bodies replies) same played) in
    let answers : List Reply = play_replies script.decls (bodies_of script.tasks pairs) in
    ap (λ (rs : List Reply). summary_of number size rs (length report) (stats_lines script.names.descrs (stats_in script.decls (world_of holds)))) play.answers
    ∙ (ap (λ bytes. summary_of number size answers (length bytes) (stats_lines script.names.descrs (stats_in script.decls (world_of holds)))) written
    ∙ ap (λ (ss : List Stats). summary_of number size answers (length (report_of_play script pairs marks)) (stats_lines script.names.descrs ss)) (stats-alike script.decls holds world play.states))
