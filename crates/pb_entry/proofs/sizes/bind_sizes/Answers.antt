use Rattle.std.proofs.Common.{◌≡◌, Some, length, slice_get, subst}
use Rattle.pb_program.specs.Trees.{bare_prog, bare_transform}
use Rattle.pb_program.specs.WellFormed.{IsTransform}
use Rattle.pb_region.proofs.SmallLemmas.{at_place}
use Rattle.pb_check.specs.Phases.{IsBounded}
use Rattle.pb_check.proofs.FirstLemmas.{all_at}
use Rattle.pb_entry.proofs.sizes.bind_sizes.Goals as goal

pub bind-requires-clause-transform : goal.bind-requires-clause-transform
bind-requires-clause-transform c =
    let p = bare_prog c.args.a.now.program in
    let t = bare_transform c.transform_at.result.now in
    let at = subst (λ q. slice_get (bare_prog q) c.args.t ≡ Some t) c.prog.ensures.program c.transform_at.ensures in
    let accepted = c.prog.ensures.accepted in
    record {
      transforms = length p;
      well_formed = at_place (IsTransform (length p)) p c.args.t t accepted.well_formed.transforms at;
      sides = (all_at IsBounded p c.args.t t accepted.sound.bounded at).sides;
    }
