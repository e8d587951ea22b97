pub mod FitLemmas
pub mod PrefixLemmas
pub mod StepLemmas
