-- Laws that the proofs of this crate share.
pub mod Calls
pub mod Examples
pub mod Forms
pub mod Lists
pub mod Verbs
