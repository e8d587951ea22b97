pub mod Laws
pub mod Lines
pub mod Numbers
pub mod Options
pub mod Quotes
pub mod Tokens
pub mod TokenSteps
