-- Transforms and rules as they are held; views whose cells are told.
use Rattle.std.proofs.Common.{◌≡◌, refl, ap, subst, ℕ, ◌<◌, ◌≤◌, List, map, length, get_or, slice_get, Some, None, IsTrue}
use Rattle.std.specs.Prelude.{is_some}
use Rattle.std.specs.List.{All, Contains, flat_map}
use Rattle.std.proofs.lemmas.Option.{slice_get-get_or, slice_get-map, slice_get_past}
use Rattle.std.proofs.lemmas.List.{length-map}
use Rattle.std.proofs.lemmas.List.Elements.{All-contains}
use Rattle.pb_base.proofs.ListLemmas.{in_flat, in_map, in_range}
use Rattle.pb_values.specs.Cells.{Turn}
use Rattle.pb_values.specs.Views.{cell_of, row_cells, view_cells}
use Rattle.pb_values.specs.declared.shape.TheConstants.{MOST_SIDE}
use Rattle.pb_values.specs.declared.view.View.{View}
use Rattle.pb_program.specs.Trees.{ProgRule, ProgTransform}
use Rattle.pb_eval.specs.CanRun.{OfRule}
use Rattle.pb_statements.specs.Shown.{IsTold}
use Rattle.pb_statements.proofs.SceneLemmas.{get_or_any}

pub held_at : {A B : Type 0} (f : A → B) (xs : List A) (k : ℕ) (x : A) → k < length xs → x ≡ get_or xs k x → slice_get (map f xs) k ≡ Some (f x)
held_at f xs k x h e = rw (slice_get-map f xs k, slice_get-get_or xs k x h, ← e) refl

pub held_past : {A B : Type 0} (f : A → B) (xs : List A) (k : ℕ) → length xs ≤ k → slice_get (map f xs) k ≡ None
held_past f xs k h = slice_get_past (map f xs) k (rw length-map h)

pub told_views : (turn : Turn) (views : List View) → All (λ v. (v.shape.w ≤ MOST_SIDE) × (v.shape.h ≤ MOST_SIDE)) views → All (λ cell. IsTrue (is_some (turn.outcomes cell))) (flat_map view_cells views) → All (IsTold turn) views
told_views turn views small told k d below =
    let v = get_or views k d in
    let here : Contains views v = (k, below, get_or_any views k v d below) in
    record {
      told = λ x y across down. All-contains (λ cell. IsTrue (is_some (turn.outcomes cell))) (flat_map view_cells views) (cell_of v x y) told
          (in_flat view_cells views v (cell_of v x y) here (in_flat (row_cells v) _ y (cell_of v x y) (in_range v.shape.h y down) (in_map (λ i. cell_of v i y) _ x (in_range v.shape.w x across))));
      wide = (small k d below).0;
      tall = (small k d below).1;
    }

module _ (ts : List ProgTransform) (t r : ℕ) (P : ProgTransform → ProgRule → Type 0) where
  pub of_rule : (x : ProgTransform) (y : ProgRule) → slice_get ts t ≡ Some x → slice_get x.rules r ≡ Some y → P x y → OfRule ts t r P
  of_rule x y ex ey h = λ z w ez ew.
      let a : x ≡ z = cc in
      let rules : slice_get x.rules r ≡ slice_get z.rules r = ap (λ (q : ProgTransform). slice_get q.rules r) a in
      let b : y ≡ w = cc in
      subst (P z) b (subst (λ (q : ProgTransform). P q y) a h)

  pub of_none : slice_get ts t ≡ None → OfRule ts t r P
  of_none e = λ z w ez ew. absurd (cc)

  pub of_no_rule : (x : ProgTransform) → slice_get ts t ≡ Some x → slice_get x.rules r ≡ None → OfRule ts t r P
  of_no_rule x ex ey = λ z w ez ew.
      let a : x ≡ z = cc in
      let rules : slice_get x.rules r ≡ slice_get z.rules r = ap (λ (q : ProgTransform). slice_get q.rules r) a in
      absurd (cc)
