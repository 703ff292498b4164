pub mod OrderLemmas
pub mod OutcomeLemmas
pub mod PlaceLemmas
pub mod ShownLemmas
pub mod TableLemmas
pub mod TakenLemmas
pub mod TakenMoments
