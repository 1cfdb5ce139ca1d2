-- Read in this order.
pub mod SharedPlain
pub mod SharesCells
