pub mod SerialLemmas
pub mod ThreadLemmas
