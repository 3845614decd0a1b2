pub mod SlotOwnership
