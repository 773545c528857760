pub mod IsolationWithBursts
