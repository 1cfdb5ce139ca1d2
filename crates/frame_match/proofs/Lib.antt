mod AccessLaws
mod FoundLaws
pub mod BeginLaws
mod FrameLaws
pub mod GroupLaws
mod ListLaws
mod MarkLaws
mod MemberLaws
mod Ops
mod PopLaws
mod PushLaws
mod ReadLaws
mod ReachLaws
mod RoleLaws
mod RunLaws
mod Seen
mod TailLaws
mod SectionLaws
