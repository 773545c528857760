pub mod TheGatewaysRules
pub mod Vendors
pub mod TheServerReads
