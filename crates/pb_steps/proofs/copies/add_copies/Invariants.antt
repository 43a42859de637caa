use Rattle.std.proofs.Common.{◌≡◌, List, map, take}
use Rattle.pb_check.specs.Orders.{AnalysisValue}
use Rattle.pb_frame.specs.Frames.{JobValue}
use Rattle.pb_plan.specs.Boxes.{whole_box}
use Rattle.pb_program.specs.Trees.{ProgTransform}
use Rattle.pb_program.specs.declared.view.Read.{Read}
use Rattle.pb_counts.specs.Handed.{Instance}
use Rattle.pb_counts.specs.Handed.{copies_of}
use Rattle.pb_steps.specs.Stands.{Appends, IsJobAt}
use Rattle.pb_steps.specs.Values.{InstanceValue}
use Rattle.pb_steps.proofs.copies.add_copies.Given as goal

abbrev pub invariant-loop-k : goal.invariant-loop-k
invariant-loop-k l = (p : List ProgTransform) (found : List AnalysisValue) (instances : List InstanceValue) (i : Instance) (j : JobValue) (views : List Read) → IsJobAt p found instances l.instance l.job i j
    → i.found.nodes ≡ l.nodes → j.parts ≡ l.parts → l.outs ≡ map (whole_box i.transform.matrices i.sizes) views
    → Appends p found instances l.initial.steps.items l.steps.items (copies_of i j l.names 0 (take l.k views))
