pub mod WordLaws
pub mod ReadingLaws
pub mod AnswerLaws
pub mod RoundTrips
pub mod DemandThree
pub mod CallLaws
