-- The rules of costs, and how a program keeps a list of them.
pub mod Costs
pub mod Kept
