-- What a judge answers, and what stays of it.
use Rattle.std.specs.Prelude.{◌≡◌, ℕ, ◌+◌, ◌-◌, ◌^◌, ◌≤◌, min, List, Option, Some, None, IfSome, Result, Ok, Err}
use Rattle.std.specs.declared.alloc.AllocError.{AllocError}
use Rattle.pb_program.specs.Configs.{ConfigValue}
use Rattle.pb_program.specs.Trees.{ProgTransform}
use Rattle.pb_tuner.specs.declared.judge.Cost.{Cost}
use Rattle.pb_tuner.specs.declared.judge.Cost.TheVariants.{Fit, Unfit, Failed}

-- the cost of each configuration at each size, none where it is unfit
abbrev pub Costs : Type 0
Costs = ConfigValue → ℕ → Option ℕ

-- where costs are told, an answer is the told one; a failure is no answer
abbrev pub IsTold : Option Costs → ConfigValue → ℕ → Cost → Type 0
IsTold told c size (Fit cost) = IfSome told (λ costs. costs c size ≡ Some cost)
IsTold told c size Unfit = IfSome told (λ costs. costs c size ≡ None)
IsTold told c size Failed = Unit {0}

-- a count rose, or stands at its type's end
pub record Rose (before now : ℕ) : Type 0 where
  pub kept : before ≤ now
  pub rose : min (before + 1) (2 ^ 64 - 1) ≤ now

-- the count of faults never falls, and rises where the judge failed
abbrev pub CountsFault : Result Cost AllocError → ℕ → ℕ → Type 0
CountsFault (Ok (Fit cost)) before now = before ≤ now
CountsFault (Ok Unfit) before now = before ≤ now
CountsFault (Ok Failed) before now = Rose before now
CountsFault (Err e) before now = before ≤ now

-- a judge after some questions: its program and its costs are the same, and its faults never fall
pub record Stays {J : Type 0} (program : J → List ProgTransform) (told : J → Option Costs) (faults : J → ℕ) (old new : J) : Type 0 where
  pub same_program : program new ≡ program old
  pub same_costs : told new ≡ told old
  pub counted : faults old ≤ faults new
