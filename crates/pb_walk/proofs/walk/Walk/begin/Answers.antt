use Rattle.std.proofs.Common.{ap}
use Rattle.pb_walk.specs.Walks.{WalkValue}
use Rattle.pb_walk.proofs.NextLemmas.{begun_walk}
use Rattle.pb_walk.proofs.walk.Walk.begin.Goals as goal

pub returns : goal.returns
returns c =
    begun_walk c.of-self-inside.result c.begin_all.new.cursors.items c.self.inside.room c.args.steps.now c.args.pieces.now c.args.self.now c.of-self-inside.ensures c.begin_all.ensures.spots c.begin_all.ensures.begun
    (ap (λ (w : WalkValue). w.room) c.self.view_is)
