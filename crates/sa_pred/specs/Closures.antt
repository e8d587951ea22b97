-- Closures that are tests of code points: this project's own.
use Rattle.std.specs.Prelude.{◌≡◌, ℕ, Bool}

-- each call of a closure answers as the test does, and leaves the closure as it is
abbrev pub Computes : {F : Type 0} → (ℕ → Bool → F → Type 0) → F → (ℕ → Bool) → Type 0
Computes step closure test = (point : ℕ) (answer : Bool) (after : _) → step point answer after → (after ≡ closure) × (answer ≡ test point)
