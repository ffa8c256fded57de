-- What the contracts of this crate cite.
pub mod Whole
pub mod Lots
