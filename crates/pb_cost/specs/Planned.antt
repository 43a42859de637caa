-- The calls of an instance as they are found: by its parts.
use Rattle.std.specs.Prelude.{ℕ, ◌==◌, ◌&&◌, Bool, if◌then◌else◌, IfSome, List, [], Option}
use Rattle.std.specs.List.{list_any}
use Rattle.pb_program.specs.Trees.{ProgRule, ProgTransform}
use Rattle.pb_frame.specs.declared.part.FramePart.{FramePart}
use Rattle.pb_counts.specs.Gathered.{CanCome}
use Rattle.pb_recursion.specs.Counts.{is_plan_kind}
use Rattle.pb_cost.specs.Calls.{Entered, entered_in}

-- some part has the rule with this number
abbrev pub some_has : List FramePart → ℕ → Bool
some_has parts k = list_any (λ (part : FramePart). part.rule == k) parts

-- the calls of a rule that is a plan, where some part has it
abbrev pub rule_calls : List ProgTransform → ProgTransform → List ℕ → List FramePart → ℕ × ProgRule → List (Option Entered)
rule_calls p t sizes parts r = if is_plan_kind r.1.kind && some_has parts r.0 then entered_in p t sizes r else []

-- a call that is made can be entered: there is such a transform, and the sizes are in its range
abbrev pub CanBeEntered : List ProgTransform → Option Entered → Type 0
CanBeEntered p e = IfSome e (CanCome p)
