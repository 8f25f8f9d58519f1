pub mod Workshop
pub mod Streams
