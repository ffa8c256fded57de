-- Corrected quotes: the rule and its numbers, the request's sentences, and the places of the program's loop.
pub mod Corrections
pub mod Claims
pub mod Places
