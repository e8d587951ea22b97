-- What a run begins with: the shapes of the declared descriptors, and the passes of its tasks.
use Rattle.std.specs.Prelude.{◌≡◌, ℕ, ◌+◌, false, List, [], ◌∷◌, length, map, replicate}
use Rattle.std.specs.List.{range_with_len}
use Rattle.sa_tie.specs.Seated.{TableId}
use Rattle.sa_call.specs.Decls.{Declared}
use Rattle.sa_journal.specs.Chains.{Strand}
use Rattle.sa_journal.specs.Journals.{IsNew, IsOf}
use Rattle.sa_journal.specs.Shapes.{Shape}
use Rattle.sa_journal.specs.Table.{Shelves}
use Rattle.sa_hall.specs.Passes.{Passed}
use Rattle.sa_loop.specs.Locked.{shape_in}

-- the shapes of all descriptors, by number
abbrev pub shapes_of : Declared → List Shape
shapes_of decls = map (shape_in decls) (range_with_len 0 (length decls.descrs))

-- chains are those of a new journal's parties, from a place on
abbrev pub AreNewFrom : {D : Type 0} → Shelves → List TableId → ℕ → ℕ → List (Strand D) → Type 0
AreNewFrom roll ties descrs seat [] = Unit {0}
AreNewFrom roll ties descrs seat (c ∷ cs) = IsNew roll ties descrs seat c × AreNewFrom roll ties descrs (seat + 1) cs

-- the pass of a task with so many calls before the first of them: none is marked, and it has no lines
pub record IsOpeningPass {D : Type 0} (roll : Shelves) (ties : List TableId) (descrs task count : ℕ) (p : Passed D) : Type 0 where
  pub task_is : p.task ≡ task
  pub lines : p.chain.lines ≡ []
  pub marks : p.marks ≡ replicate count false
  pub of : IsOf roll ties descrs p.chain

-- the passes of the tasks from a number on, with so many calls each
abbrev pub AreOpeningPasses : {D : Type 0} → Shelves → List TableId → ℕ → ℕ → List ℕ → List (Passed D) → Type 0
AreOpeningPasses roll ties descrs task [] [] = Unit {0}
AreOpeningPasses roll ties descrs task [] (p ∷ ps) = ⊥
AreOpeningPasses roll ties descrs task (n ∷ ns) [] = ⊥
AreOpeningPasses roll ties descrs task (n ∷ ns) (p ∷ ps) = IsOpeningPass roll ties descrs task n p × AreOpeningPasses roll ties descrs (task + 1) ns ps
