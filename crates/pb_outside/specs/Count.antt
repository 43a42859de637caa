use Rattle.std.specs.Prelude.{ℕ, ◌+◌, ◌-◌, ◌^◌, ◌≤◌, min}

-- a count that is raised by n, and stands still at the end of its type
abbrev pub count_after : ℕ → ℕ → ℕ
count_after n before = min (before + n) (2 ^ 64 - 1)

-- a count that never falls rose by at least n, or stands at its type's end
pub record RoseBy (n before now : ℕ) : Type 0 where
  pub kept : before ≤ now
  pub rose : count_after n before ≤ now

-- how often a device has failed, and how many bytes it gave
pub record Counts : Type 0 where
  pub faults : ℕ
  pub taken : ℕ
