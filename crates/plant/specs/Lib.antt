pub mod Meaning
pub mod RefusalList
pub mod EntryTable
pub mod ByteTable
