pub mod DeskChecks
pub mod RoundTrip
