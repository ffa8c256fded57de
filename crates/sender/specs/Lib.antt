-- The sender's numbers by what an order's tests read, and the lender's 16 by a broker's counts and lot.
pub mod Sender
pub mod Sound
