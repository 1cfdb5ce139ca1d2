pub mod CursorLaws
pub mod StepLaws
pub mod EventLaws
pub mod PageLaws
pub mod MemoryLaws
mod NumberLaws
mod FillLaws
mod DeviceLaws
pub mod StateLaws
pub mod FrameLaws
pub mod PushPopLaws
pub mod RunLaws
pub mod WordLaws
pub mod SpanLaws
pub mod StackLaws
pub mod WrittenLaws
mod Examples
