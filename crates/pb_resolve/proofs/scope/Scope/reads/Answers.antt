use Rattle.std.proofs.Common.{rules}
use Rattle.pb_names.specs.Views.{Place, after_read, read_at, read_faults_at, start}
use Rattle.pb_resolve.proofs.TurnLemmas.{turn_fails}
use Rattle.pb_resolve.proofs.scope.Scope.reads.Goals as goal

pub returns-in_err-next_read-clause-refused : goal.returns-in_err-next_read-clause-refused
returns-in_err-next_read-clause-refused c =
    let ms = c.args.matrices.now in
    let now : Place = record { visible = c.loop-k.self; number = c.loop-k.k } in
    let h = turn_fails after_read (read_at ms) (read_faults_at ms) (start c.args.self.now) now c.loop-k.found.items c.args.uses.now c.loop-k.k c.loop-k.invariant.0
    c.index-uses-k.result c.loop-k-test.true c.index-uses-k.is c.in_err-next_read.field-0.0 c.in_err-next_read.ensures.refused in search (rules, h)
