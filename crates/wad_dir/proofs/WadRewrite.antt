pub mod LumpsLemmas
pub mod Reading
