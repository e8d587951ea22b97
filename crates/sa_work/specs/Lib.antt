pub use Rattle.sa_loop.specs.Histories
pub mod Crews
pub mod Threads
