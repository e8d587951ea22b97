pub mod CountLemmas
pub mod CutLemmas
pub mod EndLemmas
pub mod FirstLemmas
pub mod PlaceLemmas
pub mod ReplaceLemmas
pub mod SpreadLemmas
pub mod WindowLemmas
