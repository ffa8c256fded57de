-- What the reads of a broker's lists state: the rows of each list, and what a read to a lent list answers; and what 16 comes to at every call.
pub mod Rows
pub mod Answers
pub mod Broken
