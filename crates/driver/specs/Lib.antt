pub mod Asked
pub mod Playing
