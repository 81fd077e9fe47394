pub mod ReflectLaws
pub mod SearchLaws
pub mod ScanLaws
pub mod WriteLaws
pub mod NonzeroLaws
