-- Orders in the plain ledger, and the claim about what becomes of them over a list of calls.
pub mod Orders
pub mod Claim
