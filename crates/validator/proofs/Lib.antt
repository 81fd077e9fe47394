pub mod FaultLaws
pub mod BadLaws
pub mod LiftLaws
pub mod FollowLaws
pub mod ValidateLaws
