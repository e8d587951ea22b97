-- Lines that have no fault, one after another.
use Rattle.std.proofs.Common.{◌≡◌, ℕ, ◌+◌, true, List, [], ◌∷◌, ◌++◌, Result, Ok, Err, refl, sym, ap, subst, ◌∙◌}
use Rattle.std.specs.Prelude.{if◌then◌else◌}
use Rattle.std.specs.List.{AllByRecursion, flat_map}
use Rattle.sa_lines.specs.Laws.{IsWithoutControls}
use Rattle.sa_lines.specs.Lines.{line, lines_of}
use Rattle.sa_lines.proofs.LawLemmas.{lines_again}
use Rattle.sa_script.specs.declared.cause.Cause.{Cause}
use Rattle.sa_script.specs.declared.cause.Cause.TheVariants as cause
use Rattle.sa_script.specs.declared.context.Context.{Context}
use Rattle.sa_script.specs.Scripts.{either, line_after, lines_after}

-- what is declared after these lines, or the fault of the first faulty one
abbrev pub run : Context → List (List ℕ) → Result Context Cause
run c [] = Ok c
run c (l ∷ ls) = either (line_after c l) (λ d. run d ls) (λ fault. Err fault)

-- the same of equal lines
pub run-as : (c b : Context) (ls ms : List (List ℕ)) → ls ≡ ms → run c ms ≡ Ok b → run c ls ≡ Ok b
run-as c b ls ms e f = ap (run c) e ∙ f

-- a line that has no fault, and those behind it
pub run-first : (c d b : Context) (l : List ℕ) (ls : List (List ℕ)) → line_after c l ≡ Ok d → run d ls ≡ Ok b → run c (l ∷ ls) ≡ Ok b
run-first c d b l ls e f = ap (λ (r : Result Context Cause). either r (λ a. run a ls) (λ fault. Err fault)) e ∙ f

-- after no line there is what there was
run-none : (c d : Context) → run c [] ≡ Ok d → c ≡ d
run-none c d e = cc

-- the lines behind a first one, where the first has no fault
append-step : (d b : Context) (ls ms : List (List ℕ)) (r : Result Context Cause) → ((a : Context) → run a ls ≡ Ok d → run a (ls ++ ms) ≡ Ok b)
    → either r (λ a. run a ls) (λ fault. Err fault) ≡ Ok d → either r (λ a. run a (ls ++ ms)) (λ fault. Err fault) ≡ Ok b
append-step d b ls ms (Ok a) later e = later a e
append-step d b ls ms (Err fault) later e = absurd cc

-- lines that have no fault, and those behind them
pub run-append : (c d b : Context) (ls ms : List (List ℕ)) → run c ls ≡ Ok d → run d ms ≡ Ok b → run c (ls ++ ms) ≡ Ok b
run-append c d b [] ms e f = ap (λ a. run a ms) (run-none c d e) ∙ f
run-append c d b (l ∷ ls) ms e f = append-step d b ls ms (line_after c l) (λ a g. run-append a d b ls ms g f) e

-- the same, with the number of each line
lines-step : (d : Context) (number : ℕ) (ls : List (List ℕ)) (r : Result Context Cause) → ((b : Context) → run b ls ≡ Ok d → lines_after b (number + 1) ls ≡ Ok d)
    → either r (λ b. run b ls) (λ fault. Err fault) ≡ Ok d → either r (λ b. lines_after b (number + 1) ls) (λ fault. Err (fault, number + 1)) ≡ Ok d
lines-step d number ls (Ok b) later e = later b e
lines-step d number ls (Err fault) later e = absurd cc

-- no line, where the script has ended
no-line : (c : Context) (number : ℕ) → c.ended ≡ true → lines_after c number [] ≡ Ok c
no-line c number e = ap (λ t. if t then Ok c else Err (cause.Cut, number)) e

-- lines of which the last ended the script
pub lines_after-run : (c d : Context) (number : ℕ) (ls : List (List ℕ)) → run c ls ≡ Ok d → d.ended ≡ true → lines_after c number ls ≡ Ok d
lines_after-run c d number [] e ended = subst (λ b. lines_after b number [] ≡ Ok d) (sym (run-none c d e)) (no-line d number ended)
lines_after-run c d number (l ∷ ls) e ended = lines-step d number ls (line_after c l) (λ b f. lines_after-run b d (number + 1) ls f ended) e

-- lines that were written are read as they were
pub lines_of-lines : (ls : List (List ℕ)) → AllByRecursion IsWithoutControls ls → lines_of (flat_map line ls) ≡ ls
lines_of-lines [] h = refl
lines_of-lines (l ∷ ls) h = lines_again l (flat_map line ls) h.0 ∙ ap (λ ms. l ∷ ms) (lines_of-lines ls h.1)
