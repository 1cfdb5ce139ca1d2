pub mod StubLaws
pub mod BaseLaws
