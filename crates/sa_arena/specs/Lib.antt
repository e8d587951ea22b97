pub mod Buffers
pub mod Extents
pub mod Images
pub mod Laws
pub mod Members
