pub use Rattle.sa_text.specs.Making
pub use Rattle.sa_text.specs.Points
pub use Rattle.sa_text.specs.Texts
pub mod Counts
pub mod Cuts
pub mod Finds
pub mod Firsts
pub mod Replaces
