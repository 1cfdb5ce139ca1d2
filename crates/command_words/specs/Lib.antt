-- Read in this order.
pub mod Table
pub mod Number
pub mod MapWords
pub mod LinkWords
pub mod Command
pub mod PlainForm
