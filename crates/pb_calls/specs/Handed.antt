-- Definitions of `pb_check`, handed on: who stands on calls need not name it.
pub use Rattle.pb_check.specs.Orders.{AnalysisValue, IsAnalysis}
pub use Rattle.pb_check.specs.Phases.{IsBounded, IsSound}
