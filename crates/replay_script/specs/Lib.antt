pub mod TheScript
