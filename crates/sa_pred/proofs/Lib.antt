mod ClassLemmas
mod OrderLemmas
