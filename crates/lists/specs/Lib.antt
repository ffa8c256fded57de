-- The definitions over lists that the contracts cite.
pub mod Lists
