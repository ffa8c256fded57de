-- The plain ledger of document 01, section 6; the program's calls; demand 3; and the table of examples.
pub mod Calls
pub mod Ledger
pub mod Program
pub mod Demand
pub mod Consequences
pub mod Examples
