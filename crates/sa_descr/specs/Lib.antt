pub mod Missing
pub mod Rules
