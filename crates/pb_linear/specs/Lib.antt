pub mod Limits
pub mod Sizes
pub mod Numbers
pub mod Form
pub mod VForm
pub mod Most
pub mod RuleBox
pub mod Held
