pub use Rattle.sa_text.specs.Spaces
pub use Rattle.sa_text.specs.Texts
pub use Rattle.ucd_category.specs.GeneralCategory
pub mod Classes
pub mod Closures
pub mod Order
pub mod Predicates
