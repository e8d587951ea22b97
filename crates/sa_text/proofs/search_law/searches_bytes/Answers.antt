use Rattle.sa_text.proofs.SearchLemmas.{searches}
use Rattle.sa_text.proofs.search_law.searches_bytes.Goals as goal

pub returns : goal.returns
returns c = searches
