-- What contracts see of an unrolled run.
use Rattle.std.specs.Prelude.{List}
use Rattle.pb_steps.specs.Values.{InstanceValue}
use Rattle.pb_steps.specs.declared.met.Met.{Met}
use Rattle.pb_steps.specs.declared.step.Step.{Step}

pub record UnrolledValue : Type 0 where
  pub instances : List InstanceValue
  pub steps : List Step
  pub met : Met
