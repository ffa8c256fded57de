-- Correcting.antt says what the correction of lent rows leaves in the array that they are written to.
pub mod Correcting
