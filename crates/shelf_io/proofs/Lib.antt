pub mod FilesLemmas
pub mod FetchLemmas
pub mod FakesLemmas
pub mod BegunLemmas
pub mod CountLemmas
