pub mod LawLemmas
pub mod LineLemmas
pub mod NumberLemmas
pub mod NumberLaws
pub mod PlainLemmas
pub mod QuotedLemmas
pub mod QuoteLemmas
pub mod TokenLemmas
