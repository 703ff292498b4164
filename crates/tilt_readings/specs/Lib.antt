pub mod Date
pub mod DateText
pub mod Decimal
pub mod Epoch
pub mod LocalDate
pub mod Tick
pub mod Written
