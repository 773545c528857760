pub mod TheGatewaysRules
