use Rattle.std.proofs.Common.{arith, ◌≡◌, ◌∙◌, ap, length, sym}
use Rattle.std.specs.Prelude.{slice_get}
use Rattle.pb_program.specs.Trees.{bare_prog}
use Rattle.pb_check.specs.Accepting.{AcceptedValue}
use Rattle.pb_check.proofs.OrderLemmas.{at_item, found_length}
use Rattle.pb_check.proofs.accepted.Accepted.found.Goals as goal

pub index-requires : goal.index-requires
index-requires c =
    let same = found_length (bare_prog c.self.inside.program) c.self.inside.found.items c.self.invariant.found in
    let program : length (bare_prog c.self.inside.program) ≡ length (bare_prog c.args.self.now.program) = ap (λ (v : AcceptedValue). length (bare_prog v.program)) c.self.view_is in
    omega (arith, c.requires, same, program, c.self.inside.found.ok)

pub returns-clause-there : goal.returns-clause-there
returns-clause-there c =
    let items = c.self.inside.found.items in
    let same = found_length (bare_prog c.self.inside.program) items c.self.invariant.found in
    let program : length (bare_prog c.self.inside.program) ≡ length (bare_prog c.args.self.now.program) = ap (λ (v : AcceptedValue). length (bare_prog v.program)) c.self.view_is in
    ap (λ (v : AcceptedValue). slice_get v.found c.args.t) (sym c.self.view_is) ∙ at_item items c.args.t c.index.result.now (omega (arith, c.requires, same, program)) c.index.ensures
