-- What a plan makes: matrices by their names, call by call. The cells may be anything: outcomes, or the places where they stand.
use Rattle.std.specs.Prelude.{ℕ, pos, Bool, false, ◌==◌, if◌then◌else◌, List, [], ◌∷◌, ◌++◌, map, slice_get}
use Rattle.std.specs.List.{enumerate_from, zip}
use Rattle.std.specs.Option.{option_map_or}
use Rattle.pb_program.specs.declared.plan.Slot.{Slot}
use Rattle.pb_program.specs.declared.plan.Slot.TheVariants as slot
use Rattle.pb_program.specs.declared.view.Read.{Read}
use Rattle.pb_program.specs.Forms.{DeclValue}
use Rattle.pb_program.specs.Plans.{PlanCallValue, PlanValue}
use Rattle.pb_program.specs.Trees.{ProgRule, ProgTransform}
use Rattle.pb_model.specs.Cells.{Cell}
use Rattle.pb_model.specs.Equations.{shown_area}
use Rattle.pb_recursion.specs.Shapes.{Sides, fits, sides_of_area, sides_of_decl}

-- ---- names
abbrev pub same_slot : Slot → Slot → Bool
same_slot (slot.Out i) (slot.Out j) = i == j
same_slot (slot.Read i) (slot.Read j) = i == j
same_slot (slot.Local i) (slot.Local j) = i == j
same_slot _ _ = false

-- matrices with their names, the latest first
abbrev pub Names : Type 0 → Type 0
Names M = List (Slot × M)

-- what has a name, if something has
abbrev pub named : {M : Type 0} → M → Names M → Slot → M
named none [] s = none
named none (n ∷ rest) s = if same_slot n.0 s then n.1 else named none rest s

-- the declared reads, in their order
abbrev pub names_of_reads : {M : Type 0} → List M → Names M
names_of_reads ms = map (λ m. (slot.Read m.0, m.1)) (enumerate_from 0 ms)

-- ---- calls
-- what stands for a name that nothing has, and what is made of a call and of its arguments: a matrix for each target
module _ {M : Type 0} (none : M) (make : PlanCallValue → List M → List M) where
  -- the names after a call
  abbrev pub after_call : PlanCallValue → Names M → Names M
  after_call c names = zip c.targets (make c (map (named none names) c.arguments)) ++ names

  -- one call after another
  abbrev pub after_calls : List PlanCallValue → Names M → Names M
  after_calls [] names = names
  after_calls (c ∷ rest) names = after_calls rest (after_call c names)

-- the calls of a rule; a rule that computes has none
abbrev pub calls_of_rule : ProgRule → List PlanCallValue
calls_of_rule r = option_map_or (λ (p : PlanValue). p.calls) r.plan []

abbrev pub locals_of_rule : ProgRule → List DeclValue
locals_of_rule r = option_map_or (λ (p : PlanValue). p.locals) r.plan []

-- ---- sides
abbrev pub no_sides : Sides
no_sides = (pos 0, pos 0)

-- no rule variable plays a part in a plan
abbrev pub no_cell : Cell
no_cell = record { matrix = 0; x = 0; y = 0 }

module _ (matrices : List DeclValue) (sizes : List ℕ) where
  abbrev pub sides_of_view : Read → Sides
  sides_of_view r = sides_of_area r.view (shown_area matrices sizes no_cell r)

  -- the sides of the matrix that a name of a plan names
  abbrev pub sides_of_slot : ProgRule → Slot → Sides
  sides_of_slot r (slot.Out k) = option_map_or sides_of_view (slice_get r.outs k) no_sides
  sides_of_slot r (slot.Read k) = option_map_or sides_of_view (slice_get r.reads k) no_sides
  sides_of_slot r (slot.Local k) = option_map_or (sides_of_decl sizes) (slice_get (locals_of_rule r) k) no_sides

  abbrev pub target_sides : ProgRule → PlanCallValue → List Sides
  target_sides r c = map (sides_of_slot r) c.targets

  abbrev pub argument_sides : ProgRule → PlanCallValue → List Sides
  argument_sides r c = map (sides_of_slot r) c.arguments

  -- what is given fits the called transform, and so does what is wanted
  abbrev pub fits_call : List ProgTransform → ProgRule → PlanCallValue → Bool
  fits_call p r c = option_map_or (λ t. fits t (argument_sides r c) (target_sides r c)) (slice_get p c.transform) false
