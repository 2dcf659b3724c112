pub mod FileRow
