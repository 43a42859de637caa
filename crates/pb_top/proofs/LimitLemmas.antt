-- A run is within its limits, or passes exactly one of them first.
use Rattle.std.proofs.Common.{◌≡◌, ◌∙◌, refl, sym, ap, subst, ℕ, ◌<◌, ◌≤◌, List, length, map, ◌⊎◌, inl, inr, arith}
use Rattle.std.proofs.lemmas.Bool.{cases_lt}
use Rattle.pb_values.specs.declared.shape.TheConstants.{MOST_SIDE}
use Rattle.pb_entry.specs.declared.refusal.Count.{Count}
use Rattle.pb_entry.specs.declared.refusal.Count.TheVariants.{Calls, Cells, Links, Side, Tasks}
use Rattle.pb_entry.specs.declared.refusal.RunRefusal.{RunRefusal}
use Rattle.pb_entry.specs.declared.refusal.RunRefusal.TheVariants.{BadShape, Memory, SizeOutOfRange, TooLarge, UnknownTransform, WrongCount}
use Rattle.pb_links.specs.Links.{link_count}
use Rattle.pb_taskgraph.specs.declared.limits.TheConstants.{MOST_CELLS, MOST_LINKS, MOST_TASKS}
use Rattle.pb_recursion.specs.Counts.{Counted}
use Rattle.pb_unroll.specs.Handed.{AreFew, AreMany}
use Rattle.pb_unroll.specs.Handed.{MOST_CALLS}
use Rattle.pb_unroll.specs.Handed.{Step, places_of}
use Rattle.pb_unroll.specs.Handed.{IsTooMany}

-- the counts of a run, and its steps
module _ (c : Counted) (steps : List Step) where
  abbrev links : ℕ
  links = link_count (map places_of steps)

  -- a limit is passed, and none before it
  abbrev pub Passes : RunRefusal → Type 0
  Passes e = AreMany c e ⊎ (AreFew c × IsTooMany steps e)

  pub passed : (e : RunRefusal) → Passes e → (what : Count) × (e ≡ TooLarge what)
  passed UnknownTransform (inl p) = absurd p
  passed UnknownTransform (inr p) = absurd p.1
  passed (WrongCount wanted given) (inl p) = absurd p
  passed (WrongCount wanted given) (inr p) = absurd p.1
  passed (BadShape matrix axis wanted found) (inl p) = absurd p
  passed (BadShape matrix axis wanted found) (inr p) = absurd p.1
  passed (SizeOutOfRange size value) (inl p) = absurd p
  passed (SizeOutOfRange size value) (inr p) = absurd p.1
  passed (TooLarge what) p = (what, refl)
  passed Memory (inl p) = absurd p
  passed Memory (inr p) = absurd p.1

  -- ---- one at most
  many_one : (a b : Count) → AreMany c (TooLarge a) → AreMany c (TooLarge b) → a ≡ b
  many_one Calls Calls p q = refl
  many_one Calls Side p q = absurd (omega (arith, p, q.0))
  many_one Calls Cells p q = absurd (omega (arith, p, q.0))
  many_one Side Calls p q = absurd (omega (arith, q, p.0))
  many_one Side Side p q = refl
  many_one Side Cells p q = absurd (omega (arith, p.1, q.1))
  many_one Cells Calls p q = absurd (omega (arith, q, p.0))
  many_one Cells Side p q = absurd (omega (arith, q.1, p.1))
  many_one Cells Cells p q = refl
  many_one Tasks b p q = absurd p
  many_one Links b p q = absurd p
  many_one a Tasks p q = absurd q
  many_one a Links p q = absurd q

  not_few : (a : Count) → AreMany c (TooLarge a) → AreFew c → ⊥
  not_few Calls p few = omega (arith, p, few.calls)
  not_few Side p few = omega (arith, p.1, few.side)
  not_few Cells p few = omega (arith, p.2, few.cells)
  not_few Tasks p few = p
  not_few Links p few = p

  too_many_one : (a b : Count) → IsTooMany steps (TooLarge a) → IsTooMany steps (TooLarge b) → a ≡ b
  too_many_one Tasks Tasks p q = refl
  too_many_one Tasks Links p q = absurd (omega (arith, p, q.0))
  too_many_one Links Tasks p q = absurd (omega (arith, q, p.0))
  too_many_one Links Links p q = refl
  too_many_one Calls b p q = absurd p
  too_many_one Side b p q = absurd p
  too_many_one Cells b p q = absurd p
  too_many_one a Calls p q = absurd q
  too_many_one a Side p q = absurd q
  too_many_one a Cells p q = absurd q

  first_one : (a b : Count) → Passes (TooLarge a) → Passes (TooLarge b) → a ≡ b
  first_one a b (inl p) (inl q) = many_one a b p q
  first_one a b (inl p) (inr q) = absurd (not_few a p q.0)
  first_one a b (inr p) (inl q) = absurd (not_few b q p.0)
  first_one a b (inr p) (inr q) = too_many_one a b p.1 q.1

  pub passes_one : (e f : RunRefusal) → Passes e → Passes f → e ≡ f
  passes_one e f p q =
      let a = passed e p in
      let b = passed f q in
      a.1 ∙ ap TooLarge (first_one a.0 b.0 (subst Passes a.1 p) (subst Passes b.1 q)) ∙ sym b.1

  -- ---- none where all are within their limits
  module _ (few : AreFew c) (tasks : length steps ≤ MOST_TASKS) (linked : links ≤ MOST_LINKS) where
    fits_tasks : (a : Count) → IsTooMany steps (TooLarge a) → ⊥
    fits_tasks Calls p = p
    fits_tasks Side p = p
    fits_tasks Cells p = p
    fits_tasks Tasks p = omega (arith, p, tasks)
    fits_tasks Links p = omega (arith, p.1, linked)

    none_passes : (a : Count) → Passes (TooLarge a) → ⊥
    none_passes a (inl p) = not_few a p few
    none_passes a (inr p) = fits_tasks a p.1

    pub none_within : (e : RunRefusal) → Passes e → ⊥
    none_within e p = let a = passed e p in none_passes a.0 (subst Passes a.1 p)

  -- ---- and one where some isn't
  abbrev Within : Type 0
  Within = AreFew c × (length steps ≤ MOST_TASKS) × (links ≤ MOST_LINKS)

  abbrev Answered : Type 0
  Answered = Within ⊎ ((what : Count) × Passes (TooLarge what))

  by_links : AreFew c → length steps ≤ MOST_TASKS → (MOST_LINKS < links) ⊎ (links ≤ MOST_LINKS) → Answered
  by_links few tasks (inl long) = inr (Links, inr (few, (tasks, long)))
  by_links few tasks (inr short) = inl (few, tasks, short)

  by_tasks : AreFew c → (MOST_TASKS < length steps) ⊎ (length steps ≤ MOST_TASKS) → Answered
  by_tasks few (inl many) = inr (Tasks, inr (few, many))
  by_tasks few (inr tasks) = by_links few tasks (cases_lt MOST_LINKS links)

  by_cells : c.calls ≤ MOST_CALLS → c.side ≤ MOST_SIDE → (MOST_CELLS < c.cells) ⊎ (c.cells ≤ MOST_CELLS) → Answered
  by_cells calls side (inl many) = inr (Cells, inl (calls, side, many))
  by_cells calls side (inr cells) = by_tasks (record { calls = calls; side = side; cells = cells }) (cases_lt MOST_TASKS (length steps))

  by_side : c.calls ≤ MOST_CALLS → (MOST_SIDE < c.side) ⊎ (c.side ≤ MOST_SIDE) → Answered
  by_side calls (inl long) = inr (Side, inl (calls, long))
  by_side calls (inr side) = by_cells calls side (cases_lt MOST_CELLS c.cells)

  by_calls : (MOST_CALLS < c.calls) ⊎ (c.calls ≤ MOST_CALLS) → Answered
  by_calls (inl many) = inr (Calls, inl many)
  by_calls (inr calls) = by_side calls (cases_lt MOST_SIDE c.side)

  pub within_or_not : Answered
  within_or_not = by_calls (cases_lt MOST_CALLS c.calls)
