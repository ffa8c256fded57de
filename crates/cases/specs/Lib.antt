-- Worked cases for the rules that the program's contracts, the plain ledger and the table of examples share: a rule that is wrong in its one place fails here.
pub mod Made
pub mod Figures
pub mod Tables
pub mod Trading
pub mod Sending
pub mod Booking
pub mod Liquidating
pub mod Checking
pub mod Weighing
pub mod Lots
pub mod Turnovers
pub mod Corrected
pub mod Cases
