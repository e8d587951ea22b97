use Rattle.sa_text.proofs.TextLemmas.{text_of-text}
use Rattle.sa_loop.proofs.tests.value.Goals as goal

pub returns-in_ok-from_bytes-in-Some : goal.returns-in_ok-from_bytes-in-Some
returns-in_ok-from_bytes-in-Some c = text_of-text c.as_bytes.result.now c.in_ok-from_bytes-in-Some.field-0 c.in_ok-from_bytes-in-Some.ensures
