pub mod Adapters
pub mod Deeds
pub mod Fakes
pub mod Items
pub mod Streams
