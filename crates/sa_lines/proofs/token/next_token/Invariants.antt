use Rattle.std.proofs.Common.{◌≡◌, ℕ, List, ◌++◌, length, Some}
use Rattle.sa_lines.specs.Tokens.{Between, leads}
use Rattle.sa_lines.specs.TokenSteps.{state_of}
use Rattle.sa_lines.proofs.token.next_token.Given as goal

abbrev pub invariant-bytes : goal.invariant-bytes
invariant-bytes l = record {
  token : List ℕ;
  cut : l.begun ≡ token ++ l.rest;
  long : length token ≡ l.end;
  leads_here : leads Between token ≡ Some (state_of l.state);
}

abbrev pub decreases-bytes : goal.decreases-bytes
decreases-bytes l = length l.rest
