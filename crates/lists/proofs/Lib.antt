-- The laws of specs/Lists.antt.
pub mod Over
pub mod Keep
pub mod Without
pub mod Places
pub mod Each
pub mod Spans
