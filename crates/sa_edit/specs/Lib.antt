pub use Rattle.sa_text.specs.Making
pub use Rattle.sa_text.specs.Spaces
pub use Rattle.sa_text.specs.Texts
pub mod Joins
pub mod Justifies
pub mod Strips
