pub mod DateLemmas
pub mod DayLemmas
pub mod DigitLemmas
pub mod LocalDateLemmas
pub mod ScaleLemmas
pub mod TickLemmas
pub mod WrittenLemmas
