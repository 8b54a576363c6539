pub mod Law
pub mod Searching
pub mod Walking
pub mod Walks
