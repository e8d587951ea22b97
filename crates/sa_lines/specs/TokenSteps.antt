-- The states of src/token.rt as those of Tokens. Only clauses of private functions cite this, and no rule stands here.
use Rattle.sa_lines.specs.Tokens as spec
use Rattle.sa_lines.specs.declared.token.TokenState as code
use Rattle.sa_lines.specs.declared.token.TokenState.TheVariants as variant

-- the same state
abbrev pub state_of : code.TokenState → spec.TokenState
state_of variant.Between = spec.Between
state_of variant.Inside = spec.Inside
state_of variant.Quoted = spec.Quoted
state_of variant.Escaped = spec.Escaped
