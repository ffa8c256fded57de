-- Demand 3: what the rules read of the program's state moves as the ledger's does; the program meets the ledger, call by call; the ledger has the claim. The examples compute.
pub mod Views
pub mod Fetching
pub mod Standing
pub mod Checking
pub mod Kept
pub mod Calls
pub mod Demand
pub mod Consequences
pub mod Refuted
pub mod Examples
