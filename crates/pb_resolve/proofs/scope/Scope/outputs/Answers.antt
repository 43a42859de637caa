use Rattle.std.proofs.Common.{rules}
use Rattle.pb_names.specs.Views.{Place, after_out, out_at, out_faults_at, start}
use Rattle.pb_resolve.proofs.TurnLemmas.{turn_fails}
use Rattle.pb_resolve.proofs.scope.Scope.outputs.Goals as goal

pub returns-in_err-next_output-clause-refused : goal.returns-in_err-next_output-clause-refused
returns-in_err-next_output-clause-refused c =
    let ms = c.args.matrices.now in
    let now : Place = record { visible = c.loop-k.self; number = c.loop-k.k } in
    let h = turn_fails after_out (out_at ms) (out_faults_at ms c.args.single) (start c.args.self.now) now c.loop-k.found.items c.args.uses.now c.loop-k.k c.loop-k.invariant.0
    c.index-uses-k.result c.loop-k-test.true c.index-uses-k.is c.in_err-next_output.field-0.0 c.in_err-next_output.ensures.refused in search (rules, h)
