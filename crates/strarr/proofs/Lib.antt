pub mod EndingLemmas
pub mod NamedLemmas
pub mod SampleLemmas
pub mod StreamLemmas
