-- What an instance counts, with the calls that it makes still to be counted.
use Rattle.std.specs.Prelude.{◌≡◌, ℕ, zero, suc, Bool, List, map, IsSomeAnd, Option, slice_get}
use Rattle.pb_linear.specs.Sizes.{InRange, leasts_of}
use Rattle.pb_program.specs.Configs.{ConfigValue}
use Rattle.pb_program.specs.Trees.{ProgTransform}
use Rattle.pb_recursion.specs.Counts.{Counted, Counter, all_of, both}
use Rattle.pb_counts.specs.Tallies.{capped}
use Rattle.pb_counts.specs.Sized.{Sized, counter_of, sized_count}

-- a call to come: its transform, and the sizes at which it is entered
abbrev pub Entered : Type 0
Entered = ℕ × List ℕ

pub record GatheredValue : Type 0 where
  pub tally : Counted
  pub next : List Entered

abbrev pub all_next : Sized → List Entered → Counted
all_next f next = all_of (map (λ n. f n.0 n.1) next)

-- all of it, where the calls to come count so
abbrev pub whole : Sized → GatheredValue → Counted
whole f g = both g.tally (all_next f g.next)

-- what is gathered by an instance whose plans may call so many deeper, with the calls to come
abbrev pub rest_count : List ProgTransform → ConfigValue → ℕ → Counted → List Entered → Counted
rest_count p config zero own next = own
rest_count p config (suc d) own next = both own (all_next (sized_count p config d) next)

-- so much more is gathered, whatever calls count, up to the top
abbrev pub IsMore : List ProgTransform → Bool → GatheredValue → GatheredValue → (Option Counter → Counted) → Type 0
IsMore p deep old new more = (f : Sized) → capped (whole f new) ≡ capped (both (whole f old) (more (counter_of p deep f)))

-- a call to come can be entered: there is such a transform, and the sizes are in its range
abbrev pub CanCome : List ProgTransform → Entered → Type 0
CanCome p n = IsSomeAnd (slice_get p n.0) (λ transform. InRange (leasts_of transform.ranges) n.1)
