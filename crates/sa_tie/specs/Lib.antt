pub use Rattle.atomic_table.specs.Seated
pub mod Ends
pub mod Rule
pub mod Views
