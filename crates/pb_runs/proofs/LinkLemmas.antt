-- The links of the steps of a run: each goes back, and each cell that is read has one.
use Rattle.std.proofs.Common.{◌≡◌, ◌∙◌, refl, sym, ap, subst, inl, inr, ◌⊎◌, ⊎_elim, ℕ, zero, suc, ◌+◌, ◌*◌, ◌<◌, ◌≤◌, List, [], ◌∷◌, map, slice_get, Some, None, arith}
use Rattle.std.specs.List.{Contains}
use Rattle.std.proofs.lemmas.Bool.{cases_lt}
use Rattle.pb_values.specs.Views.{HasPlace}
use Rattle.pb_links.specs.Links.{predecessors}
use Rattle.pb_links.specs.Spots.{HasSpot, PlacesValue}
use Rattle.pb_links.specs.Spots as spots
use Rattle.pb_links.specs.declared.places.Spot.{Spot}
use Rattle.pb_links.proofs.LawLemmas.{before-shares}
use Rattle.pb_base.proofs.ListLemmas.{in_at, in_flat, in_none}
use Rattle.pb_program.specs.Configs.{ConfigValue}
use Rattle.pb_program.specs.Trees.{ProgTransform}
use Rattle.pb_model.specs.Calls.{Outcomes}
use Rattle.pb_check.specs.Orders.{AnalysisValue}
use Rattle.pb_check.proofs.FirstLemmas.{some_same}
use Rattle.pb_plan.proofs.NumberLemmas.{row_below, row_once}
use Rattle.pb_runs.specs.Laws.{IsEntered, IsLinked}
use Rattle.pb_runs.specs.Placed.{SpotCell, before}
use Rattle.pb_runs.specs.Right.{ReadsNumber}
use Rattle.pb_runs.specs.Steps.{Step, boxes_of, cells_in, cells_of, parts_of, places_of}
use Rattle.pb_runs.proofs.CountLemmas.{counted, counted_append, in_counted}
use Rattle.pb_runs.proofs.OwnLemmas.{number_once}
use Rattle.pb_runs.proofs.RunLemmas.{ms, run, run_before, run_few, run_laid, run_only}
use Rattle.pb_runs.proofs.SpotLemmas.{IsCellAt}

-- ---- what steps make and read, by their numbers
parts_back : (steps : List Step) (u : ℕ) (p : Spot) → Contains (spots.parts_of (map places_of steps) u) p → (s : Step) × (slice_get steps u ≡ Some s) × Contains (parts_of s) p
unfolding spots.parts_of
parts_back [] u p h = absurd (in_none p h)
parts_back (s ∷ steps) zero p h = (s, refl, h)
parts_back (s ∷ steps) (suc u) p h = parts_back steps u p h

boxes_back : (steps : List Step) (u : ℕ) (b : Spot) → Contains (spots.boxes_of (map places_of steps) u) b → (s : Step) × (slice_get steps u ≡ Some s) × Contains (boxes_of s) b
unfolding spots.boxes_of
boxes_back [] u b h = absurd (in_none b h)
boxes_back (s ∷ steps) zero b h = (s, refl, h)
boxes_back (s ∷ steps) (suc u) b h = boxes_back steps u b h

parts_at : (steps : List Step) (u : ℕ) (s : Step) → slice_get steps u ≡ Some s → (p : Spot) → Contains (parts_of s) p → Contains (spots.parts_of (map places_of steps) u) p
unfolding spots.parts_of
parts_at [] u s e p h = absurd (let wrong : None ≡ Some s = e in cc)
parts_at (r ∷ steps) zero s e p h = subst (λ q. Contains (parts_of q) p) (sym (some_same r s e)) h
parts_at (r ∷ steps) (suc u) s e p h = parts_at steps u s e p h

boxes_at : (steps : List Step) (u : ℕ) (s : Step) → slice_get steps u ≡ Some s → (b : Spot) → Contains (boxes_of s) b → Contains (spots.boxes_of (map places_of steps) u) b
unfolding spots.boxes_of
boxes_at [] u s e b h = absurd (let wrong : None ≡ Some s = e in cc)
boxes_at (r ∷ steps) zero s e b h = subst (λ q. Contains (boxes_of q) b) (sym (some_same r s e)) h
boxes_at (r ∷ steps) (suc u) s e b h = boxes_at steps u s e b h

-- ---- one step makes a cell
pub in_steps : (steps : List Step) (u : ℕ) (s : Step) → slice_get steps u ≡ Some s → (c : ℕ) → Contains (cells_of s) c → Contains (cells_in steps) c
in_steps steps u s e c own = in_flat cells_of steps s c (in_at steps u s e) own

pub one_step : (steps : List Step) (c : ℕ) → counted c (cells_in steps) ≤ 1 → (u v : ℕ) (s r : Step) → slice_get steps u ≡ Some s → slice_get steps v ≡ Some r → Contains (cells_of s) c → Contains (cells_of r) c → u ≡ v
one_step [] c few u v s r at_u at_v own_s own_r = absurd (let wrong : None ≡ Some s = at_u in cc)
one_step (q ∷ steps) c few zero zero s r at_u at_v own_s own_r = refl
one_step (q ∷ steps) c few zero (suc v) s r at_u at_v own_s own_r =
    let here = in_counted c (cells_of q) (subst (λ z. Contains (cells_of z) c) (sym (some_same q s at_u)) own_s) in
    let later = in_counted c (cells_in steps) (in_steps steps v r at_v c own_r) in
    absurd (omega (arith, few, here, later, counted_append c (cells_of q) (cells_in steps)))
one_step (q ∷ steps) c few (suc u) zero s r at_u at_v own_s own_r =
    let here = in_counted c (cells_of q) (subst (λ z. Contains (cells_of z) c) (sym (some_same q r at_v)) own_r) in
    let later = in_counted c (cells_in steps) (in_steps steps u s at_u c own_s) in
    absurd (omega (arith, few, here, later, counted_append c (cells_of q) (cells_in steps)))
one_step (q ∷ steps) c few (suc u) (suc v) s r at_u at_v own_s own_r =
    ap suc (one_step steps c (omega (arith, few, counted_append c (cells_of q) (cells_in steps))) u v s r at_u at_v own_s own_r)

-- ---- one place has a cell
module _ (all : List Outcomes) where
  one_place : (b a x y u v c : ℕ) → IsCellAt all b x y c → IsCellAt all a u v c → (b ≡ a) × (x ≡ u) × (y ≡ v)
  one_place b a x y u v c h k =
      let low_h = row_below h.grid.width h.grid.height x y h.inside_x h.inside_y in
      let low_k = row_below k.grid.width k.grid.height u v k.inside_x k.inside_y in
      let one = number_once all b a h.grid k.grid (y * h.grid.width + x) (v * k.grid.width + u) h.there k.there (omega (arith, low_h, h.whole)) (omega (arith, low_k, k.whole)) (sym h.is ∙ k.is) in
      let grid : h.grid ≡ k.grid = some_same h.grid k.grid (sym h.there ∙ ap (slice_get all) one.0 ∙ k.there) in
      let width : h.grid.width ≡ k.grid.width = ap (λ (g : Outcomes). g.width) grid in
      let place = row_once h.grid.width x y u v h.inside_x (omega (arith, k.inside_x, width)) (one.1 ∙ ap (λ w. v * w + u) (sym width)) in
      (one.0, place.0, place.1)

  -- a cell of a spot, where its place has this one
  shown_cell : (b : Spot) (c d : ℕ) (h : SpotCell all b c) → IsCellAt all b.base h.x h.y d → d ≡ c
  shown_cell b c d h k =
      let grid : k.grid ≡ h.grid = some_same k.grid h.grid (sym k.there ∙ h.there) in
      k.is ∙ ap (λ (g : Outcomes). before all b.base + (h.y * g.width + h.x)) grid ∙ sym h.is

  spot_shown : (b : Spot) (a x y c : ℕ) → a ≡ b.base → HasPlace b.rect x y → IsCellAt all a x y c → SpotCell all b c
  spot_shown b a x y c base place h = record { grid = h.grid; there = ap (slice_get all) (sym base) ∙ h.there; x = x; y = y; has = place; is = h.is ∙ ap (λ n. before all n + (y * h.grid.width + x)) base }

-- ---- a run
module _ (p : List ProgTransform) (found : List AnalysisValue) (config : ConfigValue) (grain depth number : ℕ) (ins : List Outcomes) (h : IsEntered p found config number ins) where
  abbrev steps : List Step
  steps = (run p found config grain depth number ins h).steps

  abbrev tasks : List PlacesValue
  tasks = map places_of steps

  abbrev all : List Outcomes
  all = ms p found config grain depth number ins h

  pub links_go_back : (k u : ℕ) → Contains (predecessors tasks k) u → u < k
  links_go_back k u waits =
      let shares = (before-shares tasks k u).0 waits in
      let base = shares.1.0 in
      let x = shares.1.1.0 in
      let y = shares.1.1.1.0 in
      let part : HasSpot (spots.parts_of tasks u) base x y = shares.1.1.1.1 in
      let box : HasSpot (spots.boxes_of tasks k) base x y = shares.1.1.1.2 in
      let maker = parts_back steps u part.0 part.1 in
      let reader = boxes_back steps k box.0 box.1 in
      let made = (run_laid p found config grain depth number ins h u maker.0 maker.1).parts part.0 maker.2 x y part.3 in
      let cell = spot_shown all box.0 part.0.base x y made.0 (part.2 ∙ sym box.2) box.3 made.1 in
      ⊎_elim
      (λ low. absurd (let past = (run_only p found config grain depth number ins h made.0 (in_steps steps u maker.0 maker.1 made.0 made.2)).0 in omega (arith, low, past)))
      (λ there.
      let same = one_step steps made.0 (run_few p found config grain depth number ins h made.0) u there.0 maker.0 there.1 maker.1 there.3 made.2 there.4 in
      ⊎_elim
      (λ (less : u < k). less)
      (λ (most : k ≤ u). absurd (shares.0 (omega (arith, most, same, there.2))))
      (cases_lt u k))
      (run_before p found config grain depth number ins h k reader.0 reader.1 box.0 reader.2 made.0 cell)

  pub reads_linked : (k : ℕ) (s : Step) → slice_get steps k ≡ Some s → (b : Spot) → Contains (boxes_of s) b → (c : ℕ) → SpotCell all b c → IsLinked ins steps k c
  reads_linked k s e b there c cell = ⊎_elim (λ low. inl low) (λ m. inr (m.0, m.1, by m.0 m.1 m.2 m.3 m.4, m.3, m.4)) (run_before p found config grain depth number ins h k s e b there c cell)
    where
      by : (u : ℕ) (r : Step) → u ≤ k → slice_get steps u ≡ Some r → Contains (cells_of r) c → (u ≡ k) ⊎ Contains (predecessors tasks k) u
      by u r most at_u own = ⊎_elim
          (λ (less : u < k).
          let held = (run_laid p found config grain depth number ins h u r at_u).held c own in
          let shown = (run_laid p found config grain depth number ins h k s e).shown b there cell.x cell.y cell.has in
          let same = shown_cell all b c shown.0 cell shown.1 in
          let one = one_place all held.0.base b.base held.2 held.3 cell.x cell.y c held.5 (subst (IsCellAt all b.base cell.x cell.y) same shown.1) in
          let place : HasPlace b.rect held.2 held.3 = subst (λ n. HasPlace b.rect n held.3) (sym one.1) (subst (HasPlace b.rect cell.x) (sym one.2) cell.has) in
          inr ((before-shares tasks k u).1 ((λ equal. omega (arith, less, equal)), (held.0.base, (held.2, (held.3, (held.0, parts_at steps u r at_u held.0 held.1, refl, held.4), (b, boxes_at steps k s e b there, sym one.0, place)))))))
          (λ (least : k ≤ u). inl (omega (arith, most, least)))
          (cases_lt u k)

  -- the cells of a step are those of its parts
  pub cells_parts : (k : ℕ) (s : Step) → slice_get steps k ≡ Some s → (c : ℕ) → Contains (cells_of s) c → (b : Spot) × Contains (parts_of s) b × SpotCell all b c
  cells_parts k s e c own =
      let held = (run_laid p found config grain depth number ins h k s e).held c own in
      (held.0, held.1, spot_shown all held.0 held.0.base held.2 held.3 c refl held.4 held.5)

  pub parts_cells : (k : ℕ) (s : Step) → slice_get steps k ≡ Some s → (c : ℕ) (b : Spot) → Contains (parts_of s) b → SpotCell all b c → Contains (cells_of s) c
  parts_cells k s e c b there cell =
      let made = (run_laid p found config grain depth number ins h k s e).parts b there cell.x cell.y cell.has in
      subst (Contains (cells_of s)) (shown_cell all b c made.0 cell made.1) made.2

  -- what a step reads is in its boxes
  pub reads_boxed : (k : ℕ) (s : Step) → slice_get steps k ≡ Some s → (c : ℕ) → ReadsNumber config s c → (b : Spot) × Contains (boxes_of s) b × SpotCell all b c
  reads_boxed k s e c reading =
      let b = (run_laid p found config grain depth number ins h k s e).reads c reading in
      (b.0, b.1, spot_shown all b.0 b.0.base b.2 b.3 c refl b.4 b.5)
