-- What the contracts cite of bytes that are written.
pub mod Known
