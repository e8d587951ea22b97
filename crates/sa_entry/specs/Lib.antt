pub mod Slots
pub mod Readings
pub mod Inside
