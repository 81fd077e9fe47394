pub mod FillLaws
pub mod CountLaws
pub mod ClimbLaws
pub mod MoveLaws
pub mod SurveyLaws
pub mod CheckLaws
