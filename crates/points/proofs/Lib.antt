pub mod PointLaws
pub mod AnswerLaws
pub mod NumberLaws
