-- A portfolio: document 01, sections 4 and 5, on the program's state.
pub mod State
pub mod Lists
pub mod Liquidate
pub mod Weigh
pub mod Booking
pub mod Basis
