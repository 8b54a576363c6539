pub mod History
pub mod Record
pub mod Order
pub mod Play
pub mod Law
pub mod Answers
pub mod Worked
