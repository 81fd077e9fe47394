pub mod DigitLaws
pub mod MemberLaws
