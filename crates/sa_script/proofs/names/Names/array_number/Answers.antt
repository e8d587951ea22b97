use Rattle.std.proofs.Common.{List, ℕ, ap, ap₂, ◌∙◌, string_bytes, String, Global}
use Rattle.std.specs.List.{position}
use Rattle.std.specs.Str.{bytes_eq}
use Rattle.sa_script.specs.Contexts.{number_in}
use Rattle.sa_script.specs.Names.{Known}
use Rattle.sa_script.proofs.NameLemmas.{position_strings}
use Rattle.sa_script.proofs.names.Names.array_number.Goals as goal

pub returns : goal.returns
returns c =
    c.number_in.ensures
    ∙ ap₂ (λ (m : List ℕ) (names : List (String Global)). position (λ n. bytes_eq (string_bytes n) m) names) c.as_str.ensures c.as_slice.ensures.value
    ∙ position_strings c.self.inside.arrays.items c.args.name.now
    ∙ ap (λ (k : Known). number_in k.arrays c.args.name.now) c.self.view_is
