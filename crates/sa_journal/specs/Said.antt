-- What a deed says, as plain data. Source: this project.
use Rattle.std.specs.Prelude.{ℕ, List}
use Rattle.sa_base.specs.Items.{Item}
use Rattle.sa_base.specs.Deeds.{Part, Write}
use Rattle.sa_base.specs.declared.stats.Stats.{Stats}

-- The reply of a call: its results were put; its results, where it has no output; the statistics; the picture, its entries and its arena; or a refusal, by its number and the place of its element.
pub data ReplySaid : Type 0 where
  DoneSaid : ReplySaid
  ShownSaid : List Item → ReplySaid
  SizedSaid : Stats → ReplySaid
  PicturedSaid : List (List ℕ) → List ℕ → ReplySaid
  RefusedSaid : ℕ → ℕ → ReplySaid

-- What a deed says: its task, the number of its call, the descriptors whose locks it has, what it read of descriptors and what it writes to them, by their numbers, and its reply.
pub record Said : Type 0 where
  pub task : ℕ
  pub call : ℕ
  pub locks : List ℕ
  pub parts : List (ℕ × Part)
  pub writes : List (ℕ × List Write)
  pub reply : ReplySaid
