-- The laws of quote lines, and the theorems about them.
pub mod Cuts
pub mod Examples
pub mod Fields
pub mod Forms
pub mod Lines
pub mod Loading
pub mod Putting
pub mod Tables
pub mod Texts
pub mod Theorems
