pub mod Values
pub mod SlotValues
