pub mod TheChangeOver
