use Rattle.std.proofs.Common.{refl}
use Rattle.pb_syntax.proofs.SignLemmas.{short_listed, long_listed}
use Rattle.pb_syntax.proofs.laws.signs_are_those_listed.Goals as goal

pub returns : goal.returns
returns c = record { listed = refl; short = short_listed; long = long_listed }
