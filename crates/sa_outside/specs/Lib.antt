pub mod Keyed
pub mod Slots
