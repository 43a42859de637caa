use Rattle.std.proofs.Common.{◌+◌, arith, slice_set, sym, subst}
use Rattle.pb_locked.specs.Jobs.{IsJob}
use Rattle.pb_locked.proofs.JobLemmas.{put-below, put-inside, put-job, put-room, put-turn}
use Rattle.pb_locked.proofs.job.Job.put.Goals as goal

pub place-place-requires : goal.place-place-requires
place-place-requires g c = put-below g.N.NamesWork.plan _ _ _ _ c.self.invariant c.args.self.now c.self.view_is c.args.cell c.args.v c.requires

pub index_mut-requires : goal.index_mut-requires
index_mut-requires g c =
    let inside = put-inside g.N.NamesWork.plan _ _ _ _ c.self.invariant c.args.self.now c.self.view_is c.args.cell c.args.v c.requires in
    omega (arith, inside, c.place-place.ensures, c.self.inside.values.ok.0)

pub overflow_add-self : goal.overflow_add-self
overflow_add-self g c =
    let room = put-room g.N.NamesWork.plan _ _ _ _ c.self.invariant c.args.self.now c.self.view_is c.args.cell c.args.v c.requires in
    omega (arith, room)

pub invariant_of-self : goal.invariant_of-self
invariant_of-self g c =
    let p = g.N.NamesWork.plan in
    subst (λ i. IsJob p c.self.inside.places.now c.self.inside.task (c.self.inside.written + 1) (slice_set c.self.inside.values.items i c.args.v)) (sym c.place-place.ensures)
    (put-job p _ _ _ _ c.self.invariant c.args.self.now c.self.view_is c.args.cell c.args.v c.requires)

pub returns-clause-turn : goal.returns-clause-turn
returns-clause-turn g c = put-turn g.N.NamesWork.plan _ _ _ _ c.self.invariant c.args.self.now c.self.view_is c.args.cell c.args.v c.requires
