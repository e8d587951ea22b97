-- Items that are stretched, and items with zeros behind their texts.
use Rattle.std.specs.Prelude.{ℕ, ◌-◌, ◌++◌, List, [], ◌∷◌, length, map, replicate}
use Rattle.sa_text.specs.Values.{stretched}
use Rattle.sa_plain.specs.declared.items.Items.{Items}
use Rattle.sa_plain.specs.declared.items.Items.TheVariants.{Values, Ints, Flags, Bytes, Units}

-- a list of one item is stretched to this length
abbrev pub spread_list : {T : Type 0} → ℕ → List T → List T
spread_list count [] = []
spread_list count (x ∷ []) = replicate count x
spread_list count (x ∷ y ∷ xs) = x ∷ y ∷ xs

-- one item is stretched to this length
abbrev pub spread : ℕ → Items → Items
spread count (Values values) = Values (stretched count values)
spread count (Ints numbers) = Ints (spread_list count numbers)
spread count (Flags flags) = Flags (spread_list count flags)
spread count (Bytes rows) = Bytes (spread_list count rows)
spread count (Units rows) = Units (spread_list count rows)

-- a list with this behind it, up to the width
abbrev pub filled : {T : Type 0} → ℕ → T → List T → List T
filled width x xs = xs ++ replicate (width - length xs) x

-- texts of a fixed width with zeros behind them, up to the width; other items are as they are
abbrev pub widened : ℕ → Items → Items
widened width (Values values) = Values values
widened width (Ints numbers) = Ints numbers
widened width (Flags flags) = Flags flags
widened width (Bytes rows) = Bytes (map (filled width 0) rows)
widened width (Units rows) = Units (map (filled width 0) rows)
