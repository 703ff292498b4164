mod Bounding
mod Unknown
