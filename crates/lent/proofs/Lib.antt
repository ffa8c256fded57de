-- Laws from what the broker's functions by value ensure to what is stated of lent lists: Faults.antt has what a log that draws nothing says of its length, Storing.antt laws of rows that are
-- stored; Checked.antt, Sends.antt, Plans.antt and Updated.antt are of the calls.
pub mod Faults
pub mod Storing
pub mod Checked
pub mod Sends
pub mod Plans
pub mod Updated
