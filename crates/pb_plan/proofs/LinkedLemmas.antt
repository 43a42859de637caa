-- Tasks whose links are those of places: the facts of links that a graph of tasks has.
use Rattle.std.proofs.Common.{◌≡◌, ◌∙◌, refl, sym, ap, subst, ⊎_elim, ℕ, zero, suc, ◌+◌, ◌≤◌, ◌<◌, List, [], ◌∷◌, length, map, slice_get, Some, arith}
use Rattle.std.specs.Prelude.{slice_index_or}
use Rattle.std.specs.List.{AllZip, Contains, fold, range_with_len, sum_by}
use Rattle.std.proofs.lemmas.Bool.{cases_lt}
use Rattle.pb_values.specs.Views.{cell_of, row_cells, view_cells}
use Rattle.pb_values.specs.declared.view.View.{View}
use Rattle.pb_base.proofs.ListLemmas.{flat_in, in_at, in_flat, in_map, in_none, in_range, map_in, range_in}
use Rattle.pb_check.proofs.FirstLemmas.{some_same}
use Rattle.pb_links.specs.Links.{link_count as count_links, precedes, predecessors, successors}
use Rattle.pb_links.specs.Spots.{PlacesValue}
use Rattle.pb_links.proofs.LawLemmas.{after-others, before-others, mirrored}
use Rattle.pb_links.proofs.RisingLemmas.{rising-once, rising-picked}
use Rattle.pb_taskgraph.specs.Graphs.{EachOnce, GraphValue, IsLinked, TaskValue, after_of, before_of, link_count}
use Rattle.pb_plan.proofs.JobLemmas.{at_map, map_at}
use Rattle.pb_plan.proofs.OnceLemmas.{Once, once_flat, once_map, once_range}

-- ---- the cells of a view
pub in_view : (v : View) (n : ℕ) → Contains (view_cells v) n → (x : ℕ) × (y : ℕ) × (x < v.shape.w) × (y < v.shape.h) × (cell_of v x y ≡ n)
in_view v n h =
    let row = flat_in (row_cells v) (range_with_len 0 v.shape.h) n h in
    let cell = map_in (λ x. cell_of v x row.0) (range_with_len 0 v.shape.w) n row.2 in
    (cell.0, row.0, range_in v.shape.w cell.0 cell.1, range_in v.shape.h row.0 row.1, cell.2)

pub view_in : (v : View) (x y : ℕ) → x < v.shape.w → y < v.shape.h → Contains (view_cells v) (cell_of v x y)
view_in v x y on_x on_y =
    in_flat (row_cells v) (range_with_len 0 v.shape.h) y (cell_of v x y) (in_range v.shape.h y on_y) (in_map (λ u. cell_of v u y) (range_with_len 0 v.shape.w) x (in_range v.shape.w x on_x))

pub once_view : (v : View) → ((x y u w : ℕ) → x < v.shape.w → y < v.shape.h → u < v.shape.w → w < v.shape.h → cell_of v x y ≡ cell_of v u w → (x ≡ u) × (y ≡ w)) → Once (view_cells v)
once_view v one =
    once_flat (row_cells v) (range_with_len 0 v.shape.h)
    (λ k y at. once_map (λ x. cell_of v x y) (range_with_len 0 v.shape.w) (once_range v.shape.w) (λ x u hx hu same. (one x y u y (range_in v.shape.w x hx) (range_in v.shape.h y (in_at (range_with_len 0 v.shape.h) k y at)) (range_in v.shape.w u hu) (range_in v.shape.h y (in_at (range_with_len 0 v.shape.h) k y at)) same).0))
    (λ k l y w b at_k at_l hk hl.
    let p = map_in (λ x. cell_of v x y) (range_with_len 0 v.shape.w) b hk in
    let q = map_in (λ x. cell_of v x w) (range_with_len 0 v.shape.w) b hl in
    let same = one p.0 y q.0 w (range_in v.shape.w p.0 p.1) (range_in v.shape.h y (in_at (range_with_len 0 v.shape.h) k y at_k)) (range_in v.shape.w q.0 q.1) (range_in v.shape.h w (in_at (range_with_len 0 v.shape.h) l w at_l)) (p.2 ∙ sym q.2) in
    once_range v.shape.h k l y at_k (at_l ∙ ap Some (sym same.1)))

-- ---- parts side by side
pub zip_at : {A B : Type 0} (R : A → B → Type 0) (xs : List A) (ys : List B) → AllZip R xs ys → (k : ℕ) (y : B) → slice_get ys k ≡ Some y → (x : A) × (slice_get xs k ≡ Some x) × R x y
zip_at R [] [] h k y e = absurd (cc)
zip_at R [] (z ∷ ys) h k y e = absurd h
zip_at R (x ∷ xs) [] h k y e = absurd h
zip_at R (x ∷ xs) (z ∷ ys) h zero y e = (x, refl, subst (R x) (some_same z y e) h.0)
zip_at R (x ∷ xs) (z ∷ ys) h (suc k) y e = zip_at R xs ys h.1 k y e

pub at_zip : {A B : Type 0} (R : A → B → Type 0) (xs : List A) (ys : List B) → AllZip R xs ys → (k : ℕ) (x : A) → slice_get xs k ≡ Some x → (y : B) × (slice_get ys k ≡ Some y) × R x y
at_zip R [] [] h k x e = absurd (cc)
at_zip R [] (z ∷ ys) h k x e = absurd h
at_zip R (w ∷ xs) [] h k x e = absurd h
at_zip R (w ∷ xs) (z ∷ ys) h zero x e = (z, refl, subst (λ a. R a z) (some_same w x e) h.0)
at_zip R (w ∷ xs) (z ∷ ys) h (suc k) x e = at_zip R xs ys h.1 k x e

pub in_index : {A : Type 0} (xss : List (List A)) (u : ℕ) (s : A) → Contains (slice_index_or xss u []) s → (xs : List A) × (slice_get xss u ≡ Some xs) × Contains xs s
in_index [] u s h = absurd (in_none s h)
in_index (xs ∷ xss) zero s h = (xs, refl, h)
in_index (xs ∷ xss) (suc u) s h = in_index xss u s h

pub index_is : {A : Type 0} (xss : List (List A)) (u : ℕ) (xs : List A) → slice_get xss u ≡ Some xs → slice_index_or xss u [] ≡ xs
index_is [] u xs e = absurd (cc)
index_is (ys ∷ xss) zero xs e = some_same ys xs e
index_is (ys ∷ xss) (suc u) xs e = index_is xss u xs e

pub some_at : {A : Type 0} (xs : List A) (k : ℕ) → k < length xs → (x : A) × (slice_get xs k ≡ Some x)
some_at [] k b = absurd (omega (arith, b))
some_at (x ∷ xs) zero b = (x, refl)
some_at (x ∷ xs) (suc k) b = some_at xs k (omega (arith, b))

-- the links of a task are those of its places
pub record HasLinksOf (places : List PlacesValue) (j : ℕ) (task : TaskValue) : Type 0 where
  pub before : task.before ≡ predecessors places j
  pub after : task.after ≡ successors places j

module _ (g : GraphValue) (places : List PlacesValue) (as_many : length places ≡ length g.tasks) (are : (j : ℕ) (task : TaskValue) → slice_get g.tasks j ≡ Some task → HasLinksOf places j task) (smaller : (j u : ℕ) → Contains (predecessors places j) u → u < j) where
  abbrev tasks : List TaskValue
  tasks = g.tasks

  -- ---- links
  before_is : (j : ℕ) (task : TaskValue) → slice_get tasks j ≡ Some task → before_of g j ≡ predecessors places j
  unfolding before_of
  before_is j task e = index_is (map (λ (x : TaskValue). x.before) tasks) j task.before (at_map (λ (x : TaskValue). x.before) tasks j task e) ∙ (are j task e).before

  after_is : (j : ℕ) (task : TaskValue) → slice_get tasks j ≡ Some task → after_of g j ≡ successors places j
  unfolding after_of
  after_is j task e = index_is (map (λ (x : TaskValue). x.after) tasks) j task.after (at_map (λ (x : TaskValue). x.after) tasks j task e) ∙ (are j task e).after

  in_before : (j u : ℕ) → Contains (before_of g j) u → Contains (predecessors places j) u
  unfolding before_of
  in_before j u h =
      let l = in_index (map (λ (x : TaskValue). x.before) tasks) j u h in
      let task = map_at (λ (x : TaskValue). x.before) tasks j l.0 l.1 in
      subst (λ (xs : List ℕ). Contains xs u) (before_is j task.0 task.1) h

  in_after : (j u : ℕ) → Contains (after_of g j) u → Contains (successors places j) u
  unfolding after_of
  in_after j u h =
      let l = in_index (map (λ (x : TaskValue). x.after) tasks) j u h in
      let task = map_at (λ (x : TaskValue). x.after) tasks j l.0 l.1 in
      subst (λ (xs : List ℕ). Contains xs u) (after_is j task.0 task.1) h

  pub before_in : (j u : ℕ) → Contains (predecessors places j) u → Contains (before_of g j) u
  before_in j u h =
      let task = some_at tasks j (omega (arith, as_many, (after-others places u j ((mirrored places j u).0 h)).0)) in
      subst (λ (xs : List ℕ). Contains xs u) (sym (before_is j task.0 task.1)) h

  after_in : (j u : ℕ) → Contains (successors places j) u → Contains (after_of g j) u
  after_in j u h =
      let task = some_at tasks j (omega (arith, as_many, (before-others places u j ((mirrored places u j).1 h)).0)) in
      subst (λ (xs : List ℕ). Contains xs u) (sym (after_is j task.0 task.1)) h

  lists_once : (of : ℕ → List ℕ) (given : ℕ → List ℕ) → ((j : ℕ) (task : TaskValue) → slice_get tasks j ≡ Some task → of j ≡ given j) → ((j u : ℕ) → Contains (of j) u → j < length tasks) → ((j : ℕ) → EachOnce (given j)) → (j : ℕ) → EachOnce (of j)
  lists_once of given same inside once j = ⊎_elim
      (λ (here : j < length tasks). let task = some_at tasks j here in subst EachOnce (sym (same j task.0 task.1)) (once j))
      (λ (past : length tasks ≤ j). λ p q below_p below_q e. let x = some_at (of j) p below_p in absurd (omega (arith, past, inside j x.0 (in_at (of j) p x.0 x.1))))
      (cases_lt j (length tasks))

  before_inside : (j u : ℕ) → Contains (before_of g j) u → j < length tasks
  before_inside j u h = omega (arith, as_many, (after-others places u j ((mirrored places j u).0 (in_before j u h))).0)

  after_inside : (j u : ℕ) → Contains (after_of g j) u → j < length tasks
  after_inside j u h = omega (arith, as_many, (before-others places u j ((mirrored places u j).1 (in_after j u h))).0)

  before_once : (j : ℕ) → EachOnce (predecessors places j)
  unfolding predecessors
  before_once j = rising-once (predecessors places j) (rising-picked (λ u. precedes places u j) (length places))

  after_once : (j : ℕ) → EachOnce (successors places j)
  unfolding successors
  after_once j = rising-once (successors places j) (rising-picked (λ u. precedes places j u) (length places))

  pub is_linked : IsLinked g
  is_linked = record {
    smaller = λ j u h. smaller j u (in_before j u h);
    mirrored = λ j u. (λ h. after_in u j ((mirrored places j u).0 (in_before j u h)), λ h. before_in j u ((mirrored places j u).1 (in_after u j h)));
    before_once = lists_once (before_of g) (predecessors places) before_is before_inside before_once;
    after_once = lists_once (after_of g) (successors places) after_is after_inside after_once;
  }

  -- ---- how many links there are
  map_range : {A B : Type 0} (f : A → B) (g : ℕ → B) (s : ℕ) (xs : List A) → ((k : ℕ) (x : A) → slice_get xs k ≡ Some x → f x ≡ g (s + k)) → map f xs ≡ map g (range_with_len s (length xs))
  map_range f g s [] h = refl
  map_range f g s (x ∷ xs) h =
      let here : f x ≡ g s = h 0 x refl ∙ (let e : s + 0 ≡ s = omega arith in ap g e) in
      rw (here, map_range f g (s + 1) xs (λ k y e. h (suc k) y e ∙ (let e : s + suc k ≡ (s + 1) + k = omega arith in ap g e))) refl

  sum_map : {A B : Type 0} (f : A → B) (g : B → ℕ) (n : ℕ) (xs : List A) → fold (λ m y. m + g y) n (map f xs) ≡ fold (λ m x. m + g (f x)) n xs
  sum_map f g n [] = refl
  sum_map f g n (x ∷ xs) = sum_map f g (n + g (f x)) xs

  pub links_are : link_count g ≡ count_links places
  links_are =
      let befores : map (λ (x : TaskValue). x.before) tasks ≡ map (predecessors places) (range_with_len 0 (length tasks)) = map_range (λ (x : TaskValue). x.before) (predecessors places) 0 tasks (λ k task e.
      (are k task e).before ∙ (let z : k ≡ 0 + k = omega arith in ap (predecessors places) z)) in
      sym (sum_map (λ (x : TaskValue). x.before) length 0 tasks) ∙ ap (sum_by length) befores ∙ ap (λ n. sum_by length (map (predecessors places) (range_with_len 0 n))) (sym as_many)
