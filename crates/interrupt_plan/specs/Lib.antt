pub mod Plan
pub mod SharedPlan
pub mod Order
pub mod Text
pub mod Fault
pub mod Made
