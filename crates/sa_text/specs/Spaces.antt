-- The 29 code points that count as spaces: those of Python's str.isspace and str.strip.
use Rattle.std.specs.Prelude.{ℕ, Bool, ◌||◌, ◌==◌}
use Rattle.std.specs.Int.{is_in_range}

-- U+0009 to 000D, 001C to 0020, 0085, 00A0, 1680, 2000 to 200A, 2028, 2029, 202F, 205F and 3000
abbrev pub is_space : ℕ → Bool
is_space point =
    is_in_range 0x9 0xd point || is_in_range 0x1c 0x20 point || point == 0x85 || point == 0xa0 || point == 0x1680
    || is_in_range 0x2000 0x200a point || is_in_range 0x2028 0x2029 point || point == 0x202f || point == 0x205f || point == 0x3000
