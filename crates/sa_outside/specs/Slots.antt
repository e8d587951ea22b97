-- The room that a slab has left: this project's word for a value of the crate slab.
use Rattle.std.specs.Prelude.{ℕ, ◌-◌, List}
use Rattle.slab.specs.Slab.{Slab, slab_len}

-- how many more texts can be put with no memory
abbrev pub spare_in : Slab (List ℕ) → ℕ
spare_in s = s.capacity - slab_len s
