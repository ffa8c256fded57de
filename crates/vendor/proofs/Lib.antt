-- Answering.antt leads from what the crate `lines` answers by value to what is stated of lent tables, and of arrays whose first rows are lent; Correcting.antt
-- does so from what the crate `corrections` answers. Taken.antt has what is proved of the table that `correct_quotes` leaves.
pub mod Answering
pub mod Correcting
pub mod Taken
