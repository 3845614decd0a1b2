pub mod StoredOutbox
pub mod ReadRows
pub mod PreparedRows
pub mod RecordedMessages
pub mod Awakeables
pub mod PreparedDeliveries
