-- Cash in an account, and the events of moving it.
pub mod Account
