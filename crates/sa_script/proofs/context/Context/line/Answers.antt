use Rattle.std.proofs.Common.{sym, ◌∙◌}
use Rattle.sa_lines.specs.Tokens.{tokens_of}
use Rattle.sa_script.proofs.LineLemmas.{taken-sound}
use Rattle.sa_script.proofs.SpelledLemmas.{statement_spelled}
use Rattle.sa_script.proofs.context.Context.line.Goals as goal

pub take-requires-clause-spelled : goal.take-requires-clause-spelled
take-requires-clause-spelled c = statement_spelled (tokens_of c.args.line.now) c.in-Some.statement (sym c.in_ok-statement.ensures ∙ c.in-Some.is)

pub returns-in-Some-clause-sound : goal.returns-in-Some-clause-sound
returns-in-Some-clause-sound c =
    taken-sound c.args.self.now c.take.new.self c.in-Some.statement c.take.result c.requires
    (statement_spelled (tokens_of c.args.line.now) c.in-Some.statement (sym c.in_ok-statement.ensures ∙ c.in-Some.is)) c.take.ensures
