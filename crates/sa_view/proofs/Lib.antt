pub mod PutLemmas
pub mod RangeLemmas
pub mod SliceLemmas
pub mod ViewLemmas
