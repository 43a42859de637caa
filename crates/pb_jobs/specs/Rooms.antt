-- How much room jobs need.
use Rattle.std.specs.Prelude.{◌≡◌, ℕ, ◌^◌, ◌<◌, ◌≤◌, List, [], ◌∷◌, Option, Some, None, length}
use Rattle.std.specs.List.{All}
use Rattle.pb_program.specs.Trees.{ProgTransform, bare_prog}
use Rattle.pb_eval.specs.CanRun.{IsRunnable, OfRule, at_variables, locals_needed, outs_needed}
use Rattle.pb_statements.specs.Stored.{locals_of, outs_of}
use Rattle.pb_statements.specs.declared.scratch.Scratch.{Scratch}
use Rattle.pb_jobs.specs.Instances.{InstanceValue, of_sizes}
use Rattle.pb_jobs.specs.Jobs.{JobValue}
use Rattle.pb_jobs.specs.declared.room.Rooms.{Rooms}
use Rattle.pb_jobs.specs.declared.scratch.RunScratch.{RunScratch}

-- the rules of a job: the one, or those of its rectangles
abbrev pub rules_by : Option ℕ → List ℕ → List ℕ
rules_by None rules = rules
rules_by (Some k) rules = k ∷ []

module _ (p : List ProgTransform) (t : ℕ) (sizes : List ℕ) where
  -- how much room the rule with this number needs can be told
  abbrev pub HasNeed : ℕ → Type 0
  HasNeed k = OfRule p t k (λ transform rule. IsRunnable transform.matrices rule × ((x y : ℕ) → outs_needed transform.matrices sizes (at_variables x y) rule < 2 ^ 63))

  abbrev pub HaveNeeds : JobValue → Type 0
  HaveNeeds job = All HasNeed (rules_by job.rule job.rules)

  -- so much is enough for its locals, and for the numbers of its outputs
  abbrev pub IsEnough : ℕ → ℕ → ℕ → Type 0
  IsEnough locals outs k = OfRule p t k (λ transform rule. (locals_needed rule ≤ locals) × ((x y : ℕ) → outs_needed transform.matrices sizes (at_variables x y) rule ≤ outs))

  abbrev pub HasRoomFor : Rooms → ℕ → Type 0
  HasRoomFor rooms k = IsEnough rooms.locals rooms.outs k

  -- for each rule of a job, and for its rectangles
  pub record HasRoomForJob (rooms : Rooms) (job : JobValue) : Type 0 where
    pub rules : All (HasRoomFor rooms) (rules_by job.rule job.rules)
    pub pieces : length job.parts ≤ rooms.pieces

-- there is at least as much of each
pub record Grows (old new : Rooms) : Type 0 where
  pub locals : old.locals ≤ new.locals
  pub outs : old.outs ≤ new.outs
  pub pieces : old.pieces ≤ new.pieces

-- ---- the room of a scratch
abbrev pub rooms_of : RunScratch → Rooms
rooms_of s = record { locals = locals_of s.rule.body; outs = outs_of s.rule.body; pieces = s.walk.room }

-- what rules are run in has room for a rule of an instance
abbrev pub HasRoomIn : InstanceValue → ℕ → Scratch → Type 0
HasRoomIn v k s = IsEnough (bare_prog v.program) v.number (of_sizes v) (locals_of s) (outs_of s) k

pub record SameRoom (old new : Scratch) : Type 0 where
  pub locals : locals_of new ≡ locals_of old
  pub outs : outs_of new ≡ outs_of old
