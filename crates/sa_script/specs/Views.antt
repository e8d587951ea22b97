-- Views as they are spelled in a script: an array's name alone, with a start, a count and a step, or with a slice as Python writes it.
use Rattle.std.specs.Prelude.{ℕ, ◌+◌, ◌-◌, ◌==◌, ℤ, List, [], ◌∷◌, length, take, drop, position, slice_index_or, Option, Some, None, option_map, if◌then◌else◌}
use Rattle.std.specs.List.{list_any}
use Rattle.sa_lines.specs.Options.{◌>>=◌}
use Rattle.sa_lines.specs.Numbers.{number_of}
use Rattle.sa_script.specs.Names.{name_of}
use Rattle.sa_script.specs.declared.statement.Span.{Span}
use Rattle.sa_script.specs.declared.statement.Span.TheVariants.{Whole, Strided, Slice}
use Rattle.sa_script.specs.declared.statement.ViewTerm.{ViewTerm}

-- the bytes before the place of a mark, and what follows it
abbrev pub parted : List ℕ → Option ℕ → List ℕ × Option (List ℕ)
parted bytes None = (bytes, None)
parted bytes (Some k) = (take k bytes, Some (drop (k + 1) bytes))

-- the bytes before the first mark, and what follows it, if it is there
abbrev pub cut_at : ℕ → List ℕ → List ℕ × Option (List ℕ)
cut_at mark bytes = parted bytes (position (λ b. b == mark) bytes)

-- three numbers with a comma between two of them: start, count and step; none inside in place of one that is no i64
abbrev pub strided_of : List ℕ → Option Span
strided_of bytes =
    number_of (cut_at 44 bytes).0 >>= λ start. (cut_at 44 bytes).1 >>= λ rest.
    number_of (cut_at 44 rest).0 >>= λ count. (cut_at 44 rest).1 >>= λ last.
    number_of last >>= λ step. Some (Strided start count step)

-- a bound of a slice: a number, or nothing
abbrev pub bound_of : List ℕ → Option (Option (Option ℤ))
bound_of [] = Some None
bound_of (b ∷ bs) = option_map (λ n. Some n) (number_of (b ∷ bs))

-- what follows the second bound: nothing, or a step, which may be left out too
abbrev pub step_of : Option (List ℕ) → Option (Option (Option ℤ))
step_of None = Some None
step_of (Some bytes) = bound_of bytes

-- a bound, a colon and a bound, and then nothing or a colon and a step
abbrev pub slice_of : List ℕ → Option Span
slice_of bytes =
    bound_of (cut_at 58 bytes).0 >>= λ from. (cut_at 58 bytes).1 >>= λ rest.
    bound_of (cut_at 58 rest).0 >>= λ to. step_of (cut_at 58 rest).1 >>= λ step. Some (Slice from to step)

-- what stands in front of a closing bracket at the end
abbrev pub inside_of : List ℕ → Option (List ℕ)
inside_of bytes = if slice_index_or bytes (length bytes - 1) 0 == 93 then Some (take (length bytes - 1) bytes) else None

-- what stands between the brackets: a slice where it has a colon
abbrev pub span_of : List ℕ → Option Span
span_of bytes = if list_any (λ b. b == 58) bytes then slice_of bytes else strided_of bytes

abbrev pub span_behind : Option (List ℕ) → Option Span
span_behind None = Some Whole
span_behind (Some rest) = inside_of rest >>= λ inner. span_of inner

-- a token that is a view: a name, and then nothing or what stands in brackets
abbrev pub view_of : List ℕ → Option ViewTerm
view_of token = name_of (cut_at 91 token).0 >>= λ name. span_behind (cut_at 91 token).1 >>= λ span. Some (record { name = name; span = span })
