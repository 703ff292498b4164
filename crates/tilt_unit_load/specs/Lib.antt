pub mod UnitFile
pub mod UnitReport
