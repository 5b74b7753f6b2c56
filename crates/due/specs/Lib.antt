pub mod Dues
pub mod Items
pub mod Lists
