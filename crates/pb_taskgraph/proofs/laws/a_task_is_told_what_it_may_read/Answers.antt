use Rattle.std.proofs.Common.{refl}
use Rattle.std.proofs.lemmas.Option.{get_or_from_slice_get, slice_get_within}
use Rattle.pb_taskgraph.specs.Turns.{after_some}
use Rattle.pb_taskgraph.specs.Plans.{outcome_at}
use Rattle.pb_taskgraph.proofs.TurnLemmas.{may-read, may-write}
use Rattle.pb_taskgraph.proofs.laws.a_task_is_told_what_it_may_read.Goals as goal

pub returns-clause-reads : goal.returns-clause-reads
returns-clause-reads c = λ p t k cell start begins may. may-read p t start begins k (after_some k start) refl cell may

pub returns-clause-writes : goal.returns-clause-writes
returns-clause-writes c = λ p t k cell start begins at. may-write p t start begins k (after_some k start) refl cell (outcome_at p.solution cell) (slice_get_within (p.order t) k cell at) (get_or_from_slice_get (p.order t) k cell 0 at) refl
