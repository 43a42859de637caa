-- What is asked of a job, by its rule.
use Rattle.std.proofs.Common.{◌≡◌, sym, subst, ℕ, ◌≤◌, List, [], Some, None, length, arith}
use Rattle.std.specs.List.{All}
use Rattle.pb_values.specs.Cells.{Turn}
use Rattle.pb_program.specs.Trees.{ProgTransform}
use Rattle.pb_walk.specs.Walks.{walk_of}
use Rattle.pb_jobs.specs.Instances.{InstanceValue}
use Rattle.pb_jobs.specs.Jobs.{CanBeMade, IsBlock, IsMadeBy, IsWhole, JobValue}
use Rattle.pb_jobs.specs.Rooms.{HasRoomFor, HasRoomForJob, rules_by}
use Rattle.pb_jobs.specs.declared.room.Rooms.{Rooms}

-- of one that is the same
module _ (job held : JobValue) (same : held ≡ job) where
  module _ (v : InstanceValue) (start : Turn) (can : CanBeMade v job start) where
    made : IsMadeBy v held.rule held start
    made = subst (λ j. CanBeMade v j start) (sym same) can

    pub as_block : held.rule ≡ None → IsBlock v held.rules (walk_of held.steps held.parts) start
    as_block e = subst (λ r. IsMadeBy v r held start) e made

    pub as_whole : (k : ℕ) → held.rule ≡ Some k → IsWhole v k (walk_of [] held.parts) start
    as_whole k e = subst (λ r. IsMadeBy v r held start) e made

  module _ (p : List ProgTransform) (t : ℕ) (sizes : List ℕ) (rooms : Rooms) (room : HasRoomForJob p t sizes rooms job) where
    pub pieces_fit : length held.parts ≤ rooms.pieces
    pieces_fit = (subst (HasRoomForJob p t sizes rooms) (sym same) room).pieces

    rules : All (HasRoomFor p t sizes rooms) (rules_by held.rule held.rules)
    rules = (subst (HasRoomForJob p t sizes rooms) (sym same) room).rules

    pub rules_fit : held.rule ≡ None → All (HasRoomFor p t sizes rooms) held.rules
    rules_fit e = subst (λ r. All (HasRoomFor p t sizes rooms) (rules_by r held.rules)) e rules

    pub rule_fits : (k : ℕ) → held.rule ≡ Some k → HasRoomFor p t sizes rooms k
    rule_fits k e = subst (λ r. All (HasRoomFor p t sizes rooms) (rules_by r held.rules)) e rules 0 0 (omega arith)
