-- What the program states: the bytes that it writes for those that it reads.
pub mod Printed
