-- What is asked of a well-behaved kernel, what a kernel can count, and the honest one.
pub mod Counted
pub mod KernelRules
pub mod Evictions
pub mod Repeats
pub mod HonestKernel
pub use Counted.*
pub use KernelRules.*
pub use Evictions.*
pub use Repeats.*
pub use HonestKernel.*
