pub mod QueueBytes
