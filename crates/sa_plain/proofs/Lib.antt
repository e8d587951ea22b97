pub mod GridLemmas
pub mod PlainLemmas
pub mod WeightLemmas
