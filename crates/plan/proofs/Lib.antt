pub mod RateLaws
pub mod PlanLaws
pub mod PlaceLaws
pub mod StateLaws
