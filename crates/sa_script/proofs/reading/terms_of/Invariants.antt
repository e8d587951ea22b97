use Rattle.std.proofs.Common.{◌≡◌, drop}
use Rattle.sa_lines.specs.Tokens.{tokens_of}
use Rattle.sa_script.specs.Statements.{behind_terms, terms_of}
use Rattle.sa_script.proofs.reading.terms_of.Given as goal

abbrev pub invariant-sorts : goal.invariant-sorts
invariant-sorts l = behind_terms l.terms (terms_of (drop l.sort-index l.needs) (tokens_of l.rest)) ≡ behind_terms l.fn.terms (terms_of l.needs (tokens_of l.line))
