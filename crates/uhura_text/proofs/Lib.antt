pub mod Growing
pub mod LineLemmas
pub mod NumberLemmas
pub mod PlaceLemmas
pub mod SpellingLemmas
pub mod WordsLemmas
