-- What the code keeps of lines.
pub mod Kept
