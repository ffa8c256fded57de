-- The laws of the rules.
pub mod Literals
pub mod Unquoted
pub mod LotOne
