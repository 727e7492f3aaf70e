pub mod State
pub mod Words
pub mod Calls
pub mod Questions
pub mod Ledger
pub mod Life
pub mod Claims
pub mod Laws
