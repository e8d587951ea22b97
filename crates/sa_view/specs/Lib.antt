pub mod Broadcasts
pub mod Laws
pub mod Slices
pub mod Views
