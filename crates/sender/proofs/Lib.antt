pub mod Sounding
pub mod Events
