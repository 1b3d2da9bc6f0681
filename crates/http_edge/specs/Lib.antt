pub mod Answers
pub mod Demands
pub mod Fields
pub mod Paths
pub mod Refusals
pub mod Requests
pub mod RouteSteps
pub mod Wishes
