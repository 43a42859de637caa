-- What a worker does next.
use Rattle.std.specs.Prelude.{◌<◌, length}
use Rattle.pb_taskgraph.specs.Plans.{Plan}
use Rattle.pb_locked.specs.declared.pool.Turn.{Turn}
use Rattle.pb_locked.specs.declared.pool.Turn.TheVariants.{End, Run, Wait}

-- what it runs is a task
abbrev pub IsNext : Plan → Turn → Type 0
IsNext p (Run t) = t < length p.graph.tasks
IsNext p Wait = Unit {0}
IsNext p End = Unit {0}
