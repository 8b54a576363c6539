pub mod Log
pub mod Order
pub mod Record
