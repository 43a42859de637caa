-- What the views of a rule's reads show.
use Rattle.std.proofs.Common.{◌≡◌, ◌∙◌, refl, sym, ap, subst, ⊎_elim, ℕ, zero, suc, ◌+◌, ◌<◌, ◌≤◌, pos, List, [], ◌∷◌, ◌++◌, length, map, slice_get, Some, arith}
use Rattle.std.specs.List.{Contains, flat_map}
use Rattle.std.specs.Option.{option_map_or}
use Rattle.std.proofs.lemmas.Bool.{cases_lt}
use Rattle.std.proofs.lemmas.List.{map-append}
use Rattle.std.proofs.lemmas.Option.{slice_get_within}
use Rattle.pb_linear.specs.Numbers.{exact_value}
use Rattle.pb_values.specs.Views.{view_cells}
use Rattle.pb_values.specs.declared.view.View.{View}
use Rattle.pb_base.proofs.ListLemmas.{in_at}
use Rattle.pb_program.specs.Areas.{Area, area_of, from_start}
use Rattle.pb_program.specs.Forms.{DeclValue}
use Rattle.pb_program.specs.Trees.{ProgRule}
use Rattle.pb_program.specs.declared.view.Read.{Read}
use Rattle.pb_region.specs.Within.{IsWithin}
use Rattle.pb_model.specs.Cells.{Cell, cells_of_view, reads}
use Rattle.pb_model.specs.Equations.{shown_area, sides_by, view_sides}
use Rattle.pb_jobs.proofs.ListLemmas.{some_same}
use Rattle.pb_eval.specs.CanRun.{at_variables, shape_sides}
use Rattle.pb_views.specs.Windows.{AreLaid, IsShown, IsWindow, number_in, shown_by}
use Rattle.pb_views.specs.declared.window.Window.{Window}
use Rattle.pb_views.proofs.WindowLemmas.{cells_are, shown_is}
use Rattle.pb_jobs.specs.Shown.{AreShown, AreWindows, AreWithin, IsShownFor}
use Rattle.pb_jobs.proofs.ListLemmas.{at_zip, same_flats, same_maps, zip_both}

-- ---- one view more
below_or_same : (j k : ℕ) → j < k + 1 → (j < k → ⊥) → j ≡ k
below_or_same j k h n = ⊎_elim (λ (less : j < k). absurd (n less)) (λ (more : k ≤ j). omega (arith, h, more)) (cases_lt j k)

pub left_of : {A : Type 0} (xs ys : List A) (k : ℕ) → k < length xs → slice_get (xs ++ ys) k ≡ slice_get xs k
left_of [] ys k h = absurd (omega (arith, h))
left_of (x ∷ xs) ys zero h = refl
left_of (x ∷ xs) ys (suc k) h = left_of xs ys k (omega (arith, h))

pub last_of : {A : Type 0} (xs : List A) (x : A) (k : ℕ) (y : A) → length xs ≤ k → slice_get (xs ++ x ∷ []) k ≡ Some y → (k ≡ length xs) × (x ≡ y)
last_of [] x zero y h e = (refl, some_same x y e)
last_of [] x (suc k) y h e = absurd (cc)
last_of (z ∷ xs) x zero y h e = absurd (omega (arith, h))
last_of (z ∷ xs) x (suc k) y h e = let rest = last_of xs x k y (omega (arith, h)) e in (ap suc rest.0, rest.1)

pub shown_none : (matrices : List View) (x y : ℕ) (rs : List Read) (windows : List Window) (views : List View) → views ≡ [] → AreShown matrices x y rs windows 0 views
shown_none matrices x y rs windows views e = record { count = ap length e; each = λ k r w v at_r at_w at_v. absurd (let none : slice_get [] k ≡ Some v = ap (λ (l : List View). slice_get l k) (sym e) ∙ at_v in no_one k v none) }
  where
    no_one : (k : ℕ) (v : View) → slice_get {X = View} [] k ≡ Some v → ⊥
    no_one k v e = absurd (cc)

pub shown_more : (matrices : List View) (x y : ℕ) (rs : List Read) (windows : List Window) (k : ℕ) (old new : List View) (r : Read) (w : Window) (m v : View) → AreShown matrices x y rs windows k old → slice_get rs k ≡ Some r → slice_get windows k ≡ Some w → slice_get matrices r.matrix ≡ Some m
    → IsShown m w.view (shown_by w m x y w.view) v → new ≡ old ++ v ∷ [] → AreShown matrices x y rs windows (k + 1) new
shown_more matrices x y rs windows k old new r w m v before at_r at_w at_m is e = record {
  count = ap length e ∙ longer old ∙ ap (λ n. n + 1) before.count;
  each = λ j q z u on_r on_w on_v. ⊎_elim
      (λ (less : j < length old). before.each j q z u on_r on_w (sym (left_of old (v ∷ []) j less) ∙ ap (λ (l : List View). slice_get l j) (sym e) ∙ on_v))
      (λ (more : length old ≤ j).
      let last = last_of old v j u more (ap (λ (l : List View). slice_get l j) (sym e) ∙ on_v) in
      let here : j ≡ k = last.0 ∙ before.count in
      let same_r : r ≡ q = some_same r q (sym at_r ∙ ap (slice_get rs) (sym here) ∙ on_r) in
      let same_w : w ≡ z = some_same w z (sym at_w ∙ ap (slice_get windows) (sym here) ∙ on_w) in
      subst (IsShownFor matrices x y q z) last.1 (subst (λ a. IsShownFor matrices x y q a v) same_w (subst (λ b. IsShownFor matrices x y b w v) same_r (record { matrix = m; at = at_m; is = is }))))
      (cases_lt j (length old));
}
  where
    longer : (l : List View) → length (l ++ v ∷ []) ≡ length l + 1
    longer [] = omega arith
    longer (z ∷ l) = omega (arith, longer l)

-- ---- the views of a rule
map_flat : {A B C : Type 0} (f : B → C) (g : A → List B) (xs : List A) → map f (flat_map g xs) ≡ flat_map (λ x. map f (g x)) xs
map_flat f g [] = refl
map_flat f g (x ∷ xs) = map-append f (g x) (flat_map g xs) ∙ ap (λ l. map f (g x) ++ l) (map_flat f g xs)

module _ (matrices : List DeclValue) (sizes : List ℕ) (views : List View) (laid : AreLaid matrices sizes views) (r : ProgRule) (x y : ℕ) (windows : List Window) (ws : AreWindows sizes r.reads windows)
    (declared : (q : Read) → Contains r.reads q → (d : DeclValue) × (slice_get matrices q.matrix ≡ Some d)) where
  abbrev c : Cell
  c = at_variables x y

  -- the windows lie within their matrices where the reads do
  pub are_within : ((k : ℕ) (q : Read) (d : DeclValue) → slice_get r.reads k ≡ Some q → slice_get matrices q.matrix ≡ Some d → IsWithin (area_of sizes (pos x) (pos y) q d) (exact_value d.w sizes) (exact_value d.h sizes)) → AreWithin views x y r.reads windows
  are_within within k q w at_q at_w =
      let d = declared q (in_at r.reads k q at_q) in
      let m = laid.some q.matrix d.0 d.1 in
      let is = zip_both (λ q w. IsWindow q sizes w) r.reads windows ws k q w at_q at_w in
      record {
        matrix = m.0;
        at = m.1;
        within = subst (λ (a : Area). IsWithin a (pos m.0.shape.w) (pos m.0.shape.h)) (sym (shown_is matrices sizes views c q w d.0 m.0 is laid d.1 m.1))
            (subst (λ z. IsWithin (area_of sizes (pos x) (pos y) q d.0) (pos m.0.shape.w) z) (sym (laid.height q.matrix d.0 m.0 d.1 m.1)) (subst (λ z. IsWithin (area_of sizes (pos x) (pos y) q d.0) z (exact_value d.0.h sizes)) (sym (laid.width q.matrix d.0 m.0 d.1 m.1)) (within k q d.0 at_q d.1)));
      }

  module _ (shown : List View) (are : AreShown views x y r.reads windows (length r.reads) shown) where
    pub one_shown : (k : ℕ) (v : View) (q : Read) → slice_get shown k ≡ Some v → slice_get r.reads k ≡ Some q → ((v.shape.w, v.shape.h) ≡ view_sides matrices sizes c q) × (view_cells v ≡ map (number_in views) (cells_of_view matrices sizes c q))
    one_shown k v q at_v at_q =
        let w = at_zip (λ q w. IsWindow q sizes w) r.reads windows ws k q at_q in
        let s = are.each k q w.0 v at_q w.1 at_v in
        let d = declared q (in_at r.reads k q at_q) in
        let area = shown_is matrices sizes views c q w.0 d.0 s.matrix w.2 laid d.1 s.at in
        let shown_there : shown_area matrices sizes c q ≡ area_of sizes (pos x) (pos y) q d.0 = ap (λ o. option_map_or (area_of sizes (pos x) (pos y) q) o (record { x = from_start (pos 0); y = from_start (pos 0) })) d.1 in (
          s.is.sides ∙ ap (λ b. sides_by b (shown_by w.0 s.matrix x y w.0.view)) w.2.of_view ∙ ap (sides_by q.view) (area ∙ sym shown_there),
          s.is.cells ∙ cells_are matrices sizes views c q w.0 d.0 s.matrix w.2 laid d.1 s.at,
        )

    pub sides_are : map shape_sides shown ≡ map (view_sides matrices sizes c) r.reads
    sides_are = same_maps shape_sides (view_sides matrices sizes c) shown r.reads are.count (λ k v q at_v at_q. (one_shown k v q at_v at_q).0)

    pub all_cells : flat_map view_cells shown ≡ map (number_in views) (reads matrices sizes c r)
    unfolding reads
    all_cells = same_flats view_cells (λ q. map (number_in views) (cells_of_view matrices sizes c q)) shown r.reads are.count (λ k v q at_v at_q. (one_shown k v q at_v at_q).1) ∙ sym (map_flat (number_in views) (cells_of_view matrices sizes c) r.reads)

-- ---- while views are shown
module _ (matrices : List View) (x y : ℕ) (rs : List Read) (windows : List Window) (within : AreWithin matrices x y rs windows) (k : ℕ) (r : Read) (w : Window) (at_r : slice_get rs k ≡ Some r) (at_w : slice_get windows k ≡ Some w) where
  pub matrix_there : r.matrix < length matrices
  matrix_there = slice_get_within matrices r.matrix (within k r w at_r at_w).matrix (within k r w at_r at_w).at

  pub lies_within : (m : View) → slice_get matrices r.matrix ≡ Some m → IsWithin (shown_by w m x y w.view) (pos m.shape.w) (pos m.shape.h)
  lies_within m at =
      let l = within k r w at_r at_w in
      subst (λ (q : View). IsWithin (shown_by w q x y w.view) (pos q.shape.w) (pos q.shape.h)) (some_same l.matrix m (sym l.at ∙ at)) l.within
