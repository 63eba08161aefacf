pub mod SlotLaws
pub mod ReadingLaws
pub mod CallLaws
pub mod RoundTrips
pub mod PositionLaws
pub mod DemandThree
pub mod AreaLaws
