pub mod ListLaws
pub mod OrderlyLaws
pub mod MarkLaws
pub mod ReadBack
pub mod SizeLaws
pub mod RoomLaws
pub mod FileLaws
pub mod FitPass
pub mod SoundLaws
pub mod WritableLaws
pub mod WordRooms
pub mod OversizedLaws
mod SizeSamples
