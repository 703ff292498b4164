pub mod ZoneFile
