pub use Rattle.sa_loop.specs.Histories
pub mod Naming
pub mod Plays
pub mod Reports
pub mod Summaries
