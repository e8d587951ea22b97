pub mod TextLemmas
pub mod PointLemmas
pub mod SearchLemmas
pub mod MakingLemmas
