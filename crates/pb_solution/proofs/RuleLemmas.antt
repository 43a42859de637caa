-- What a rule gives is small, where what it reads is.
use Rattle.std.proofs.Common.{◌≡◌, ◌∙◌, refl, sym, subst, ℕ, zero, suc, ◌+◌, ◌-◌, ◌*◌, ◌≤◌, ◌<◌, ◌^◌, ℤ, pos, negsuc, ◌-ℤ◌, ◌≤ℤ◌, Bool, true, false, List, [], ◌∷◌, length, map, drop, slice_get, Option, Some, None, arith}
use Rattle.std.specs.Prelude.{FitsSigned, IfOk, Result, Ok, Err, slice_index_or}
use Rattle.std.specs.Int.{w64}
use Rattle.std.specs.List.{All, AllByRecursion, Contains}
use Rattle.std.specs.Option.{option_map_or}
use Rattle.std.proofs.Math.Bool.{cond}
use Rattle.std.proofs.lemmas.Bool.Decides.{nat_tests}
use Rattle.std.proofs.lemmas.Int.{ints}
use Rattle.std.proofs.lemmas.Option.{slice_get_within}
use Rattle.pb_linear.specs.Numbers.{exact_value}
use Rattle.pb_linear.specs.Sizes.{InRange, leasts_of}
use Rattle.pb_values.specs.declared.outcome.Kind.{Kind}
use Rattle.pb_values.specs.declared.outcome.Outcome.{Outcome}
use Rattle.pb_values.specs.declared.outcome.Outcome.TheVariants.{Value, Trapped}
use Rattle.pb_values.specs.declared.outcome.Trap.{Trap}
use Rattle.pb_values.specs.declared.shape.TheConstants.{MOST_SIDE}
use Rattle.pb_base.specs.Systems.{made}
use Rattle.pb_base.proofs.ListLemmas.{at_in, in_head, in_tail}
use Rattle.pb_program.specs.Areas.{Area, Span, area_of, from_start}
use Rattle.pb_program.specs.Conditions.{Applies}
use Rattle.pb_program.specs.Configs.{ConfigValue, IsValid}
use Rattle.pb_program.specs.Forms.{DeclValue}
use Rattle.pb_program.specs.Stmts.{stmts}
use Rattle.pb_program.specs.Trees.{ProgRule, ProgTransform}
use Rattle.pb_program.specs.WellFormed.{IsTransform}
use Rattle.pb_program.specs.declared.rule.RuleKind.{RuleKind}
use Rattle.pb_program.specs.declared.rule.RuleKind.TheVariants as kind
use Rattle.pb_program.specs.declared.view.Read.{Read}
use Rattle.pb_program.specs.declared.view.ReadView.{ReadView}
use Rattle.pb_program.specs.declared.view.ReadView.TheVariants as view
use Rattle.pb_region.specs.Within.{IsWithin}
use Rattle.pb_region.proofs.SmallLemmas.{at_place}
use Rattle.pb_model.specs.Bodies.{Store, left_by, outputs_from}
use Rattle.pb_model.specs.Calls.{Plans, cell_equation, made_by, no_outcome, rule_of}
use Rattle.pb_model.specs.Cells.{Cell, natural}
use Rattle.pb_model.specs.Chosen.{chosen_rule}
use Rattle.pb_model.specs.Equations.{after_body, bindings, corner, extent, first_trap, in_outputs, number_in, own_number, own_outcome, rule_gives, shown_area, sides_by, trap_of, trap_place, unless_trapped, view_sides}
use Rattle.pb_model.specs.Lawful.{IsLawful, output_holds}
use Rattle.pb_model.proofs.FitLemmas.{Fits, HasNumber, IsSmallSide, gives_fit}
use Rattle.pb_frame.proofs.Handed.{output_within, view_within}
use Rattle.pb_check.specs.Orders.{AnalysisValue}
use Rattle.pb_check.specs.Ranked.{IsMadeCell}
use Rattle.pb_check.proofs.FirstLemmas.{all_at, some_same}
use Rattle.pb_frame.specs.Choices.{IsInstance}
use Rattle.pb_taskgraph.specs.Plans.{IsSmall}
use Rattle.pb_plan.proofs.MadeLemmas.{chosen}
use Rattle.pb_views.specs.Layouts.{HasShortSides}

-- ---- numbers
fits_small : (z : ℤ) → Fits z → FitsSigned w64 z
fits_small (pos n) e = grind (arith, nat_tests)
fits_small (negsuc n) e = grind (arith, nat_tests)

small_fits : (o : Outcome) → IsSmall o → HasNumber o
small_fits (Value (pos n)) h = let b : n < 2 ^ 63 = omega (arith, ints, h) in grind (arith, nat_tests, b)
small_fits (Value (negsuc n)) h = let b : n < 2 ^ 63 = omega (arith, ints, h) in grind (arith, nat_tests, b)
small_fits (Trapped t) h = grind (arith, nat_tests)

all_fits : (os : List Outcome) → AllByRecursion IsSmall os → AllByRecursion HasNumber os
all_fits [] h = tt
all_fits (o ∷ os) h = (small_fits o h.0, all_fits os h.1)

zero_fits : Fits (pos 0)
zero_fits = grind (arith, nat_tests)

index_fits : (vs : List ℤ) (k : ℕ) → AllByRecursion Fits vs → Fits (slice_index_or vs k (pos 0))
index_fits [] k h = zero_fits
index_fits (v ∷ vs) zero h = h.0
index_fits (v ∷ vs) (suc k) h = index_fits vs k h.1

dropped_fit : (n : ℕ) (vs : List ℤ) → AllByRecursion Fits vs → AllByRecursion Fits (drop n vs)
dropped_fit zero vs h = h
dropped_fit (suc n) [] h = tt
dropped_fit (suc n) (v ∷ vs) h = dropped_fit n vs h.1

pub zero_small : IsSmall no_outcome
zero_small = fits_small (pos 0) zero_fits

module _ (matrices : List DeclValue) (sizes : List ℕ) (c : Cell) where
  outputs_fit : (outs : List Read) (vs : List ℤ) → AllByRecursion Fits vs → Fits (in_outputs matrices sizes c outs vs)
  outputs_fit [] vs h = zero_fits
  outputs_fit (o ∷ rest) vs h = by (output_holds matrices sizes c o) (outputs_fit rest (drop ((view_sides matrices sizes c o).0 * (view_sides matrices sizes c o).1) vs) (dropped_fit ((view_sides matrices sizes c o).0 * (view_sides matrices sizes c o).1) vs h))
    where
      by : (b : Bool) → Fits (in_outputs matrices sizes c rest (drop ((view_sides matrices sizes c o).0 * (view_sides matrices sizes c o).1) vs))
          → Fits (cond b (slice_index_or vs ((c.y - natural (shown_area matrices sizes c o).y.low) * (view_sides matrices sizes c o).0 + (c.x - natural (shown_area matrices sizes c o).x.low)) (pos 0)) (in_outputs matrices sizes c rest (drop ((view_sides matrices sizes c o).0 * (view_sides matrices sizes c o).1) vs)))
      by true later = index_fits vs ((c.y - natural (shown_area matrices sizes c o).y.low) * (view_sides matrices sizes c o).0 + (c.x - natural (shown_area matrices sizes c o).x.low)) h
      by false later = later

  own_fits : (k : RuleKind) (outs : List Read) (vs : List ℤ) → AllByRecursion Fits vs → Fits (own_number matrices sizes c k outs vs)
  own_fits kind.Cell outs vs h = index_fits vs 0 h
  own_fits kind.Wide outs vs h = outputs_fit outs vs h
  own_fits kind.Plan outs vs h = outputs_fit outs vs h

-- ---- sides and corners
extent_small : (s : Span) (most : ℕ) → pos 0 ≤ℤ s.low → s.high ≤ℤ pos most → extent s ≤ most
extent_small s most low high = by (s.high -ℤ s.low) refl
  where
    by : (z : ℤ) → s.high -ℤ s.low ≡ z → natural z ≤ most
    by (pos n) e = omega (arith, ints, e, low, high)
    by (negsuc n) e = omega arith

natural_small : (z : ℤ) (most : ℕ) → z ≤ℤ pos most → natural z ≤ most
natural_small (pos n) most h = omega (arith, ints, h)
natural_small (negsuc n) most h = omega arith

pub side_small : (z : ℤ) → natural z ≤ MOST_SIDE → z ≤ℤ pos MOST_SIDE
side_small (pos n) h = omega (arith, ints, h)
side_small (negsuc n) h = omega (arith, ints)

-- an area within a matrix
pub record IsShort (a : Area) : Type 0 where
  pub wide : extent a.x ≤ MOST_SIDE
  pub tall : extent a.y ≤ MOST_SIDE
  pub left : natural a.x.low ≤ MOST_SIDE
  pub low : natural a.y.low ≤ MOST_SIDE

pub within_short : (a : Area) (w h : ℤ) → IsWithin a w h → w ≤ℤ pos MOST_SIDE → h ≤ℤ pos MOST_SIDE → IsShort a
within_short a w h is wide tall =
    let ex : a.x.high ≤ℤ pos MOST_SIDE = omega (arith, ints, is.x.end, wide) in
    let ey : a.y.high ≤ℤ pos MOST_SIDE = omega (arith, ints, is.y.end, tall) in
    record {
      wide = extent_small a.x MOST_SIDE is.x.start ex;
      tall = extent_small a.y MOST_SIDE is.y.start ey;
      left = natural_small a.x.low MOST_SIDE (omega (arith, ints, is.x.order, ex));
      low = natural_small a.y.low MOST_SIDE (omega (arith, ints, is.y.order, ey));
    }

nothing_short : IsShort (record { x = from_start (pos 0); y = from_start (pos 0) })
nothing_short = record { wide = omega arith; tall = omega arith; left = omega arith; low = omega arith }

sides_small : (v : ReadView) (a : Area) → IsShort a → IsSmallSide (sides_by v a)
sides_small view.Cell a h = (omega (arith, h.wide), omega (arith, h.tall))
sides_small view.Row a h = (omega (arith, h.wide), omega (arith, h.tall))
sides_small view.Column a h = (omega (arith, h.tall), omega arith)
sides_small view.Region a h = (omega (arith, h.wide), omega (arith, h.tall))
sides_small view.Whole a h = (omega (arith, h.wide), omega (arith, h.tall))

pub all_mapped : {A B : Type 0} (P : B → Type 0) (f : A → B) (xs : List A) → ((x : A) → Contains xs x → P (f x)) → AllByRecursion P (map f xs)
all_mapped P f [] h = tt
all_mapped P f (x ∷ xs) h = (h x (in_head x xs), all_mapped P f xs (λ y k. h y (in_tail x y xs k)))

sizes_small : (leasts sizes : List ℕ) → InRange leasts sizes → AllByRecursion (λ n. n < 2 ^ 63) sizes
sizes_small [] [] h = tt
sizes_small [] (s ∷ sizes) h = absurd h
sizes_small (l ∷ leasts) [] h = absurd h
sizes_small (l ∷ leasts) (s ∷ sizes) h = (omega (arith, h.1), sizes_small leasts sizes h.2)

module _ (config : ConfigValue) (plans : Plans) (number : ℕ) (t : ProgTransform) (a : AnalysisValue) (sizes : List ℕ) (grain : ℕ) (i : IsInstance number t a sizes) (valid : IsValid i.program config) (short : All (HasShortSides sizes) t.matrices) where
  fits : IsTransform (length i.program) t
  fits = at_place (IsTransform (length i.program)) i.program number t i.well_formed.transforms i.there

  pub short_sides : (m : ℕ) (d : DeclValue) → slice_get t.matrices m ≡ Some d → (exact_value d.w sizes ≤ℤ pos MOST_SIDE) × (exact_value d.h sizes ≤ℤ pos MOST_SIDE)
  short_sides m d there = let s = all_at (HasShortSides sizes) t.matrices m d short there in (side_small (exact_value d.w sizes) s.width, side_small (exact_value d.h sizes) s.height)

  -- ---- a cell that rules make, with its chosen rule
  module _ (c : Cell) (made : IsMadeCell t sizes c) (r : ProgRule) (there : slice_get t.rules (chosen_rule config number t sizes c) ≡ Some r) where
    k : ℕ
    k = chosen_rule config number t sizes c

    law : IsLawful t sizes c (chosen_rule config number t sizes c)
    law = chosen config number t a sizes grain i valid c made

    applies : Applies t.matrices r sizes (pos c.x) (pos c.y)
    applies = subst (λ (q : ProgRule). Applies t.matrices q sizes (pos c.x) (pos c.y)) (some_same law.rule r (sym law.there ∙ there)) law.can.applies

    read_within : (q : Read) (d : DeclValue) → Contains r.reads q → slice_get t.matrices q.matrix ≡ Some d → IsWithin (area_of sizes (pos c.x) (pos c.y) q d) (exact_value d.w sizes) (exact_value d.h sizes)
    read_within q d h decl = let j = at_in r.reads q h in view_within i.program number t sizes i.well_formed i.sound i.there (chosen_rule config number t sizes c) r there j.0 q d j.1 decl i.in_range (pos c.x) (pos c.y) applies

    out_within : (q : Read) (d : DeclValue) → Contains r.outs q → slice_get t.matrices q.matrix ≡ Some d → IsWithin (area_of sizes (pos c.x) (pos c.y) q d) (exact_value d.w sizes) (exact_value d.h sizes)
    out_within q d h decl = let j = at_in r.outs q h in output_within i.program number t sizes i.well_formed i.sound i.there (chosen_rule config number t sizes c) r there j.0 q d j.1 decl i.in_range (pos c.x) (pos c.y) applies

    -- what a view shows is short, if it lies within its matrix
    shown_short : (q : Read) → ((d : DeclValue) → slice_get t.matrices q.matrix ≡ Some d → IsWithin (area_of sizes (pos c.x) (pos c.y) q d) (exact_value d.w sizes) (exact_value d.h sizes)) → IsShort (shown_area t.matrices sizes c q)
    shown_short q within = by (slice_get t.matrices q.matrix) refl
      where
        by : (o : Option DeclValue) → slice_get t.matrices q.matrix ≡ o → IsShort (option_map_or (area_of sizes (pos c.x) (pos c.y) q) o (record { x = from_start (pos 0); y = from_start (pos 0) }))
        by None e = nothing_short
        by (Some d) e = let s = short_sides q.matrix d e in within_short (area_of sizes (pos c.x) (pos c.y) q d) (exact_value d.w sizes) (exact_value d.h sizes) (within d e) s.0 s.1

    out_short : (q : Read) → Contains r.outs q → IsShort (shown_area t.matrices sizes c q)
    out_short q h = shown_short q (λ d decl. out_within q d h decl)

    pub read_sides : AllByRecursion IsSmallSide (map (view_sides t.matrices sizes c) r.reads)
    read_sides = all_mapped IsSmallSide (view_sides t.matrices sizes c) r.reads (λ q h. sides_small q.view (shown_area t.matrices sizes c q) (shown_short q (λ d decl. read_within q d h decl)))

    pub out_sides : AllByRecursion IsSmallSide (map (view_sides t.matrices sizes c) r.outs)
    out_sides = all_mapped IsSmallSide (view_sides t.matrices sizes c) r.outs (λ q h. sides_small q.view (shown_area t.matrices sizes c q) (out_short q h))

    pub on_x : c.x < 2 ^ 23
    on_x = omega (arith, ints, made.cell.before_x, (short_sides c.matrix made.cell.decl made.cell.there).0)

    pub on_y : c.y < 2 ^ 23
    on_y = omega (arith, ints, made.cell.before_y, (short_sides c.matrix made.cell.decl made.cell.there).1)

    abbrev SmallPlace : ℕ × ℕ → Type 0
    SmallPlace p = (p.0 < 2 ^ 23) × (p.1 < 2 ^ 23)

    corner_small : (outs : List Read) → ((q : Read) → Contains outs q → Contains r.outs q) → SmallPlace (corner t.matrices sizes c outs)
    corner_small [] same = (omega arith, omega arith)
    corner_small (o ∷ rest) same = let s = out_short o (same o (in_head o rest)) in (omega (arith, s.left), omega (arith, s.low))

    place_small : (g : RuleKind) → SmallPlace (trap_place t.matrices sizes c g r.outs)
    place_small kind.Cell = (on_x, on_y)
    place_small kind.Wide = corner_small r.outs (λ q h. h)
    place_small kind.Plan = corner_small r.outs (λ q h. h)

    -- ---- what the rule gives is small
    module _ (seen : List Outcome) (small : AllByRecursion IsSmall seen) where
      first_small : (os : List Outcome) → AllByRecursion IsSmall os → (u : Trap) → first_trap os ≡ Some u → IsSmall (Trapped u)
      unfolding first_trap
      first_small [] h u e = absurd (cc)
      first_small (Trapped v ∷ os) h u e = subst (λ (w : Trap). IsSmall (Trapped w)) (some_same v u e) h.0
      first_small (Value z ∷ os) h u e = first_small os h.1 u e

      number_small : number < 64
      number_small = omega (arith, i.well_formed.few, slice_get_within i.program number t i.there)

      rule_small : chosen_rule config number t sizes c < 32
      rule_small = omega (arith, fits.few_rules, slice_get_within t.rules (chosen_rule config number t sizes c) r there)

      trap_small : (n : Kind) → IsSmall (Trapped (trap_of t.matrices sizes c number (chosen_rule config number t sizes c) r n))
      trap_small n = let p = place_small r.kind in (number_small, rule_small, p.0, p.1)

      err_same : {A : Type 0} (u v : Trap) → ◌≡◌ {A = Result A Trap} (Err u) (Err v) → u ≡ v
      err_same u v e = cc

      trapped_by : (p : Option Trap) → first_trap seen ≡ p → (b : Result Store Kind) (u : Trap)
          → unless_trapped p (after_body b (λ st. outputs_from 0 st (map (view_sides t.matrices sizes c) r.outs)) (trap_of t.matrices sizes c number (chosen_rule config number t sizes c) r)) ≡ Err u → IsSmall (Trapped u)
      trapped_by (Some v) e b u h = subst (λ (w : Trap). IsSmall (Trapped w)) (err_same {A = List ℤ} v u h) (first_small seen small v e)
      trapped_by None e (Ok st) u h = absurd (cc)
      trapped_by None e (Err n) u h = subst (λ (w : Trap). IsSmall (Trapped w)) (err_same {A = List ℤ} (trap_of t.matrices sizes c number (chosen_rule config number t sizes c) r n) u h) (trap_small n)

      gives_trap : (u : Trap) → rule_gives t.matrices sizes c number (chosen_rule config number t sizes c) r seen ≡ Err u → IsSmall (Trapped u)
      unfolding rule_gives
      gives_trap u h = trapped_by (first_trap seen) refl (left_by (bindings t.matrices sizes c r (map number_in seen)) (stmts r.body)) u h

      own_small : (g : Result (List ℤ) Trap) → rule_gives t.matrices sizes c number (chosen_rule config number t sizes c) r seen ≡ g → IfOk g (AllByRecursion Fits) → IsSmall (own_outcome t.matrices sizes c r g)
      own_small (Ok vs) e h = fits_small (own_number t.matrices sizes c r.kind r.outs vs) (own_fits t.matrices sizes c r.kind r.outs vs h)
      own_small (Err u) e h = gives_trap u e

      rule_gives_small : IsSmall (own_outcome t.matrices sizes c r (rule_gives t.matrices sizes c number (chosen_rule config number t sizes c) r seen))
      rule_gives_small = own_small (rule_gives t.matrices sizes c number (chosen_rule config number t sizes c) r seen) refl
          (gives_fit t.matrices sizes c number (chosen_rule config number t sizes c) r seen (sizes_small (leasts_of t.ranges) sizes i.in_range) (omega (arith, on_x)) (omega (arith, on_y)) read_sides out_sides (all_fits seen small))

      pub made_small : (g : RuleKind) → r.kind ≡ g → (g ≡ kind.Plan → ⊥) → IsSmall (made_by config plans number t sizes g r c seen)
      made_small kind.Cell e other = rule_gives_small
      made_small kind.Wide e other = rule_gives_small
      made_small kind.Plan e other = absurd (other refl)

  -- of a cell whose rule computes
  pub equation_small : (c : Cell) → IsMadeCell t sizes c → ((r : ProgRule) → rule_of config plans number t sizes c ≡ Some r → r.kind ≡ kind.Plan → ⊥) → (seen : List Outcome) → AllByRecursion IsSmall seen → IsSmall (cell_equation config plans number t sizes c seen)
  unfolding cell_equation
  equation_small c made other seen small = by (rule_of config plans number t sizes c) refl
    where
      by : (o : Option ProgRule) → rule_of config plans number t sizes c ≡ o → IsSmall (option_map_or (λ (r : ProgRule). made_by config plans number t sizes r.kind r c seen) o no_outcome)
      by None e = zero_small
      by (Some r) e = made_small c made r e seen small r.kind refl (other r e)
