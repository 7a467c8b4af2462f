-- What the bytes of pages say.
pub mod Pages
