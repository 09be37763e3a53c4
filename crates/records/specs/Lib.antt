pub mod Keys
pub mod Sites
pub mod Spans
pub mod Parameters
pub mod Copies
pub mod KeyOrders
