use Rattle.std.proofs.Common.{refl}
use Rattle.pb_linear.proofs.SameForms.{Form-same}
use Rattle.pb_grid.specs.Cuts.{zero}
use Rattle.pb_grid.proofs.forms.zero.Goals as goal

pub returns-clause-zero : goal.returns-clause-zero
returns-clause-zero c = Form-same _ zero (record { constant = refl; whole = refl; half = refl; third = refl; quarter = refl })
