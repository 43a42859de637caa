-- The parts of a well-formed program are small.
use Rattle.std.proofs.Common.{◌≡◌, ◌≤◌, ℕ, zero, suc, List, [], ◌∷◌, length, Some, None, slice_get, arith}
use Rattle.std.specs.List.{All, AllByRecursion}
use Rattle.std.proofs.lemmas.Bool.{leb-true}
use Rattle.pb_linear.specs.Numbers.{Numbers}
use Rattle.pb_linear.specs.Sizes.{IsRanges}
use Rattle.pb_linear.specs.declared.sizes.Ranges.{Ranges}
use Rattle.pb_program.specs.declared.view.Cond.{Cond}
use Rattle.pb_program.specs.declared.view.Read.{Read}
use Rattle.pb_program.specs.Forms.{CoordinateValue, DeclValue}
use Rattle.pb_program.specs.Trees.{ProgRule, ProgTransform}
use Rattle.pb_program.specs.WellFormed.{AreRanges, IsCondition, IsCoordinate, IsDecl, IsForm, IsRule, IsTransform, IsView, IsWellFormed}
use Rattle.pb_region.specs.Small.{AreSmall, IsSmall, IsSmallCond, IsSmallDecl, IsSmallRead, IsSmallRule, IsSmallTransform}

all_of : {X : Type 0} (P Q : X → Type 0) → ((x : X) → P x → Q x) → (xs : List X) → AllByRecursion P xs → All Q xs
all_of P Q f [] h k d below = absurd (omega arith)
all_of P Q f (x ∷ xs) h zero d below = f x h.0
all_of P Q f (x ∷ xs) h (suc k) d below = all_of P Q f xs h.1 k d (omega arith)

pub at_place : {X : Type 0} (P : X → Type 0) (xs : List X) (k : ℕ) (x : X) → AllByRecursion P xs → slice_get xs k ≡ Some x → P x
at_place P [] k x h e = let none : None ≡ Some x = e in cc
at_place P (y ∷ xs) zero x h e = let some : Some y ≡ Some x = e in let same : y ≡ x = cc in rw (← same) h.0
at_place P (y ∷ xs) (suc k) x h e = at_place P xs k x h.1 e

small_form : (sizes : ℕ) (n : Numbers) → IsForm sizes n → AreSmall n
small_form sizes n h = record {
  constant = omega (arith, leb-true _ _ h.constant);
  whole = h.whole.0;
  half = h.half.0;
  third = h.third.0;
  quarter = h.quarter.0;
}

small_decl : (sizes : ℕ) (d : DeclValue) → IsDecl sizes d → IsSmallDecl d
small_decl sizes d h = record { w = small_form sizes d.w h.w; h = small_form sizes d.h h.h }

small_coordinate : (sizes variables : ℕ) (c : CoordinateValue) → IsCoordinate sizes variables c → IsSmall c
small_coordinate sizes variables c h = record { x = leb-true _ _ h.x; y = leb-true _ _ h.y; rest = small_form sizes c.rest h.rest }

small_read : (sizes variables matrices : ℕ) (r : Read) → IsView sizes variables matrices r → IsSmallRead r
small_read sizes variables matrices r h = record {
  x0 = small_coordinate sizes variables r.x0 h.x0;
  y0 = small_coordinate sizes variables r.y0 h.y0;
  x1 = small_coordinate sizes variables r.x1 h.x1;
  y1 = small_coordinate sizes variables r.y1 h.y1;
  start_x = leb-true _ _ h.x0.rest.constant;
  start_y = leb-true _ _ h.y0.rest.constant;
}

small_cond : (sizes variables : ℕ) (c : Cond) → IsCondition sizes variables c → IsSmallCond c
small_cond sizes variables c h = record { left = small_coordinate sizes variables c.left h.left; right = small_coordinate sizes variables c.right h.right }

rule_is_small : (sizes inputs matrices transforms : ℕ) (r : ProgRule) → IsRule sizes inputs matrices transforms r → IsSmallRule r
rule_is_small sizes inputs matrices transforms r h = record {
  few_outs = h.some_output.1;
  few_reads = h.few_reads;
  few_conds = h.few_conditions;
  outs = all_of _ IsSmallRead (small_read sizes _ matrices) r.outs h.outs;
  reads = all_of _ IsSmallRead (small_read sizes _ matrices) r.reads h.reads;
  conds = all_of _ IsSmallCond (small_cond sizes _) r.conds h.conds;
}

ranges_are : (sizes : ℕ) (r : Ranges) → sizes ≤ 8 → AreRanges sizes r → IsRanges r
ranges_are sizes r few h = record { few = omega (arith, h.counted); low_enough = λ i below. (h.low i (omega (arith, h.counted))).1 }

transform_is_small : (transforms : ℕ) (t : ProgTransform) → IsTransform transforms t → IsSmallTransform t
transform_is_small transforms t h = record {
  ranges = ranges_are (length t.sizes) t.ranges h.few_sizes h.ranges;
  few = h.few_matrices;
  matrices = all_of _ IsSmallDecl (small_decl (length t.sizes)) t.matrices h.matrices;
}

module _ (ts : List ProgTransform) (h : IsWellFormed ts) (k : ℕ) (t : ProgTransform) (at : slice_get ts k ≡ Some t) where
  fits : IsTransform (length ts) t
  fits = at_place (IsTransform (length ts)) ts k t h.transforms at

  pub small_transform : IsSmallTransform t
  small_transform = transform_is_small (length ts) t fits

  pub small_rule : (j : ℕ) (r : ProgRule) → slice_get t.rules j ≡ Some r → IsSmallRule r
  small_rule j r there = rule_is_small _ _ _ _ r (at_place (IsRule (length t.sizes) t.inputs (length t.matrices) (length ts)) t.rules j r fits.rules there)
