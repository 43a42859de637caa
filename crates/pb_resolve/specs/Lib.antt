pub mod Working
pub mod SumValue
pub mod Locals
pub mod RuleWords
pub mod Programs
pub mod Handed
