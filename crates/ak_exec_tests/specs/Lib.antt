pub mod FourPages
