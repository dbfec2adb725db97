-- What the contracts cite beside rules' texts.
pub mod Texts
pub mod Formats
