pub mod ChangeOver
