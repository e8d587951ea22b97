pub mod ListLemmas
pub mod PartLemmas
pub mod PartyLemmas
pub mod TieLemmas
pub mod WalkLemmas
