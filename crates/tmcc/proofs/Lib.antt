pub mod BlockLaws
pub mod CallLaws
pub mod RoundTrips
pub mod DemandThree
