use Rattle.std.proofs.Common.{◌≡◌, ◌++◌, drop}
use Rattle.pb_tuner.proofs.candidates.copy_configs.Given as goal

abbrev pub invariant-loop-config : goal.invariant-loop-config
invariant-loop-config l = l.copy.items ++ drop l.config-index l.configs ≡ l.fn.configs
