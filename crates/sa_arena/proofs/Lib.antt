pub mod BufferLemmas
pub mod ChangeLemmas
pub mod ExtentLemmas
pub mod HoldsLemmas
pub mod ImageLemmas
pub mod SizedLemmas
pub mod TableLemmas
