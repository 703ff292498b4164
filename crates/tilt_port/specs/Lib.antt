pub mod BufferPort
pub mod MemPort
pub mod StdPort
pub mod Transcript
