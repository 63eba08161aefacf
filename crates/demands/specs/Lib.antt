pub mod Statements
pub mod Requests
pub mod CardRequests
pub mod StuffRequests
pub mod PointRequests
pub mod PositionRequests
pub mod CallStatements
