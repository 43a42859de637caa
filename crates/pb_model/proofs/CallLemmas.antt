-- The cells of a call have outcomes, and these are their equations over each other.
use Rattle.std.proofs.Common.{◌≡◌, ◌∙◌, refl, sym, ap, subst, ◌⊎◌, inl, inr, ⊎_elim, ℕ, zero, suc, ◌+◌, ◌*◌, ◌<◌, ◌≤◌, ℤ, pos, Bool, true, false, List, [], ◌∷◌, ◌++◌, length, map, drop, slice_get, Option, Some, None, arith}
use Rattle.std.specs.Prelude.{IsSome, IsTrue, int_le, nat_lt, filter, slice_index_or, unwrap_or}
use Rattle.std.specs.List.{AllByRecursion, Contains, flat_map, range_with_len}
use Rattle.std.proofs.Math.Bool.{cond}
use Rattle.std.proofs.lemmas.Int.{ints}
use Rattle.std.proofs.lemmas.Bool.Decides.{nat_tests}
use Rattle.pb_linear.specs.Numbers.{exact_value}
use Rattle.pb_values.specs.declared.outcome.Outcome.{Outcome}
use Rattle.pb_base.specs.Systems.{AreRanked, IsGivenOr, Obeys, System}
use Rattle.pb_base.proofs.ListLemmas.{flat_in, in_at, in_cases, in_head, in_none, in_tail, map_in, range_in}
use Rattle.pb_base.proofs.SystemLemmas.{enough, solution}
use Rattle.pb_program.specs.Areas.{from_start}
use Rattle.pb_program.specs.Configs.{ConfigValue}
use Rattle.pb_program.specs.Forms.{DeclValue}
use Rattle.pb_program.specs.Trees.{ProgTransform}
use Rattle.pb_model.specs.Cells.{Cell, cells_of, natural, numbers_of}
use Rattle.pb_model.specs.Calls.{IsSettled, Outcomes, Plans, ReadsBefore, call_of, cell_equation, cell_outcome, cell_reads, cells_from, equations, in_matrices, made_cells, made_from, made_matrix, matrix_cells, no_outcome, outcome_in}
use Rattle.pb_model.specs.Grids.{at_place, no_grid}
use Rattle.pb_model.proofs.GridLemmas.{place_at}

-- ---- a matrix from 0 on has all its numbers
all_kept : (n a : ℕ) → filter (λ k. int_le (pos 0) (pos k)) (range_with_len a n) ≡ range_with_len a n
all_kept zero a = refl
all_kept (suc n) a = let test : int_le (pos 0) (pos a) ≡ true = grind (arith, ints) in rw test (ap (λ l. a ∷ l) (all_kept n (a + 1)))

from_start_numbers : (side : ℤ) → numbers_of (from_start side) ≡ range_with_len 0 (natural side)
from_start_numbers side = all_kept (natural side) 0

matrix_is : (sizes : List ℕ) (m : ℕ) (d : DeclValue) → matrix_cells sizes m d ≡ flat_map (λ y. map (λ x. record { matrix = m; x = x; y = y }) (range_with_len 0 (natural (exact_value d.w sizes)))) (range_with_len 0 (natural (exact_value d.h sizes)))
unfolding cells_of
matrix_is sizes m d = rw (from_start_numbers (exact_value d.w sizes), from_start_numbers (exact_value d.h sizes)) refl

append_in : {A : Type 0} (xs ys : List A) (x : A) → Contains (xs ++ ys) x → Contains xs x ⊎ Contains ys x
append_in [] ys x h = inr h
append_in (y ∷ xs) ys x h = ⊎_elim
    (λ same. inl (subst (Contains (y ∷ xs)) same (in_head y xs)))
    (λ rest. ⊎_elim (λ l. inl (in_tail y x xs l)) (λ r. inr r) (append_in xs ys x rest))
    (in_cases y x (xs ++ ys) h)

-- ---- where a made cell stands
pub record StandsAt (sizes : List ℕ) (m : ℕ) (ds : List DeclValue) (c : Cell) : Type 0 where
  pub place : ℕ
  pub decl : DeclValue
  pub there : slice_get ds place ≡ Some decl
  pub matrix : m + place ≡ c.matrix
  pub across : c.x < natural (exact_value decl.w sizes)
  pub down : c.y < natural (exact_value decl.h sizes)

in_matrix : (sizes : List ℕ) (m : ℕ) (d : DeclValue) (c : Cell) → Contains (matrix_cells sizes m d) c → (m ≡ c.matrix) × (c.x < natural (exact_value d.w sizes)) × (c.y < natural (exact_value d.h sizes))
in_matrix sizes m d c h =
    let rows = subst (λ l. Contains l c) (matrix_is sizes m d) h in
    let r = flat_in (λ y. map (λ x. record { matrix = m; x = x; y = y }) (range_with_len 0 (natural (exact_value d.w sizes)))) (range_with_len 0 (natural (exact_value d.h sizes))) c rows in
    let q = map_in (λ x. record { matrix = m; x = x; y = r.0 }) (range_with_len 0 (natural (exact_value d.w sizes))) c r.2 in
    (ap (λ (k : Cell). k.matrix) q.2, subst (λ n. n < natural (exact_value d.w sizes)) (ap (λ (k : Cell). k.x) q.2) (range_in _ q.0 q.1), subst (λ n. n < natural (exact_value d.h sizes)) (ap (λ (k : Cell). k.y) q.2) (range_in _ r.0 r.1))

pub made_at : (sizes : List ℕ) (m : ℕ) (ds : List DeclValue) (c : Cell) → Contains (cells_from sizes m ds) c → StandsAt sizes m ds c
made_at sizes m [] c h = absurd (in_none c h)
made_at sizes m (d ∷ ds) c h = ⊎_elim
    (λ here. let at = in_matrix sizes m d c here in record { place = 0; decl = d; there = refl; matrix = omega (arith, at.0); across = at.1; down = at.2 })
    (λ later. let at = made_at sizes (m + 1) ds c later in record { place = suc at.place; decl = at.decl; there = at.there; matrix = omega (arith, at.matrix); across = at.across; down = at.down })
    (append_in (matrix_cells sizes m d) (cells_from sizes (m + 1) ds) c h)

in_left : {A : Type 0} (xs ys : List A) (x : A) → Contains xs x → Contains (xs ++ ys) x
in_left [] ys x h = absurd (in_none x h)
in_left (y ∷ xs) ys x h = ⊎_elim (λ same. subst (Contains (y ∷ (xs ++ ys))) same (in_head y (xs ++ ys))) (λ rest. in_tail y x (xs ++ ys) (in_left xs ys x rest)) (in_cases y x xs h)

in_right : {A : Type 0} (xs ys : List A) (x : A) → Contains ys x → Contains (xs ++ ys) x
in_right [] ys x h = h
in_right (y ∷ xs) ys x h = in_tail y x (xs ++ ys) (in_right xs ys x h)

at_matrix : (sizes : List ℕ) (m : ℕ) (d : DeclValue) (c : Cell) → m ≡ c.matrix → c.x < natural (exact_value d.w sizes) → c.y < natural (exact_value d.h sizes) → Contains (matrix_cells sizes m d) c
at_matrix sizes m d c e across down =
    let w = natural (exact_value d.w sizes) in
    let cell : ℕ → ℕ → Cell = λ x y. record { matrix = m; x = x; y = y } in
    let there = in_at (matrix_cells sizes m d) (c.y * w + c.x) (cell c.x c.y) (ap (λ l. slice_get l (c.y * w + c.x)) (matrix_is sizes m d) ∙ place_at cell w (natural (exact_value d.h sizes)) c.x c.y across down) in
    subst (λ k. Contains (matrix_cells sizes m d) (record { matrix = k; x = c.x; y = c.y })) e there

made_place_in : (sizes : List ℕ) (m : ℕ) (ds : List DeclValue) (c : Cell) (k : ℕ) (e : DeclValue) → slice_get ds k ≡ Some e → m + k ≡ c.matrix → c.x < natural (exact_value e.w sizes) → c.y < natural (exact_value e.h sizes) → Contains (cells_from sizes m ds) c
made_place_in sizes m [] c k e there matrix across down = absurd (let none : None ≡ Some e = there in cc)
made_place_in sizes m (d ∷ ds) c zero e there matrix across down =
    let some : Some d ≡ Some e = there in
    let same : d ≡ e = cc in
    in_left (matrix_cells sizes m d) (cells_from sizes (m + 1) ds) c (at_matrix sizes m d c (omega (arith, matrix)) (subst (λ (e : DeclValue). c.x < natural (exact_value e.w sizes)) (sym same) across) (subst (λ (e : DeclValue). c.y < natural (exact_value e.h sizes)) (sym same) down))
made_place_in sizes m (d ∷ ds) c (suc k) e there matrix across down =
    in_right (matrix_cells sizes m d) (cells_from sizes (m + 1) ds) c (made_place_in sizes (m + 1) ds c k e there (omega (arith, matrix)) across down)

pub in_made : (sizes : List ℕ) (m : ℕ) (ds : List DeclValue) (c : Cell) → StandsAt sizes m ds c → Contains (cells_from sizes m ds) c
in_made sizes m ds c s = made_place_in sizes m ds c s.place s.decl s.there s.matrix s.across s.down

-- ---- what stands in the matrices of a call
mapped_at : {A B : Type 0} (f : A → B) (xs : List A) (k : ℕ) (x : A) → slice_get xs k ≡ Some x → slice_get (map f xs) k ≡ Some (f x)
mapped_at f [] k x at = absurd (let none : None ≡ Some x = at in cc)
mapped_at f (y ∷ xs) zero x at = let some : Some y ≡ Some x = at in let same : y ≡ x = cc in ap (λ z. Some (f z)) same
mapped_at f (y ∷ xs) (suc k) x at = mapped_at f xs k x at

below_test : (a b : ℕ) → a < b → nat_lt a b ≡ true
below_test a b h = grind (arith, nat_tests, h)

beside : {A : Type 0} (xs ys : List A) (k : ℕ) (d : A) → slice_index_or (xs ++ ys) (length xs + k) d ≡ slice_index_or ys k d
beside [] ys k d = let e : 0 + k ≡ k = omega arith in ap (λ n. slice_index_or ys n d) e
beside (x ∷ xs) ys k d = let e : suc (length xs) + k ≡ suc (length xs + k) = omega arith in rw e (beside xs ys k d)

within : {A : Type 0} (xs ys : List A) (k : ℕ) (d : A) → k < length xs → slice_index_or (xs ++ ys) k d ≡ slice_index_or xs k d
within [] ys k d h = absurd (omega arith)
within (x ∷ xs) ys zero d h = refl
within (x ∷ xs) ys (suc k) d h = within xs ys k d (omega arith)

module _ (config : ConfigValue) (plans : Plans) (number : ℕ) (t : ProgTransform) (sizes : List ℕ) (ins : List Outcomes) where
  abbrev own : Cell → Outcome
  own = cell_outcome config plans number t sizes ins

  abbrev all : List Outcomes
  all = ins ++ call_of config plans number t sizes ins

  abbrev system : System Cell Outcome
  system = equations config plans number t sizes ins

  abbrev Made : Cell → Type 0
  Made = Contains (made_cells t sizes)

  made_place : (m : ℕ) (ds : List DeclValue) (k : ℕ) (d : DeclValue) → slice_get ds k ≡ Some d → slice_index_or (made_from config plans number t sizes ins m ds) k no_grid ≡ made_matrix config plans number t sizes ins (m + k) d
  made_place m [] k d at = absurd (let none : None ≡ Some d = at in cc)
  made_place m (e ∷ ds) zero d at = let some : Some e ≡ Some d = at in let same : e ≡ d = cc in let here : m + 0 ≡ m = omega arith in rw (same, here) refl
  made_place m (e ∷ ds) (suc k) d at = let here : m + 1 + k ≡ m + suc k = omega arith in made_place (m + 1) ds k d at ∙ ap (λ i. made_matrix config plans number t sizes ins i d) here

  at_made : (m : ℕ) (d : DeclValue) (x y : ℕ) → x < natural (exact_value d.w sizes) → y < natural (exact_value d.h sizes) →
      at_place (made_matrix config plans number t sizes ins m d) x y ≡ Some (own (record { matrix = m; x = x; y = y }))
  at_made m d x y across down =
      let w = natural (exact_value d.w sizes) in
      let h = natural (exact_value d.h sizes) in
      let cell : ℕ → ℕ → Cell = λ x y. record { matrix = m; x = x; y = y } in
      rw (below_test x w across, below_test y h down) (mapped_at own (matrix_cells sizes m d) (y * w + x) (cell x y) (ap (λ l. slice_get l (y * w + x)) (matrix_is sizes m d) ∙ place_at cell w h x y across down))

  -- a made cell
  pub here_is : length ins ≡ t.inputs → (c : Cell) → Made c → in_matrices all c ≡ Some (own c)
  unfolding in_matrices call_of made_cells
  here_is room c h =
      let at = made_at sizes t.inputs (drop t.inputs t.matrices) c h in
      let place : c.matrix ≡ length ins + at.place = omega (arith, at.matrix, room) in
      ap (λ m. at_place (slice_index_or all m no_grid) c.x c.y) place
      ∙ ap (λ g. at_place g c.x c.y) (beside ins (made_from config plans number t sizes ins t.inputs (drop t.inputs t.matrices)) at.place no_grid ∙ made_place t.inputs (drop t.inputs t.matrices) at.place at.decl at.there)
      ∙ at_made (t.inputs + at.place) at.decl c.x c.y at.across at.down ∙ ap (λ m. Some (own (record { matrix = m; x = c.x; y = c.y }))) at.matrix

  -- a given one
  given_is : length ins ≡ t.inputs → (c : Cell) → c.matrix < t.inputs → in_matrices all c ≡ in_matrices ins c
  unfolding in_matrices
  given_is room c low = ap (λ g. at_place g c.x c.y) (within ins (call_of config plans number t sizes ins) c.matrix no_grid (omega (arith, low, room)))

  -- ---- the equations
  all_weaker : (P Q : Cell → Type 0) → ((c : Cell) → P c → Q c) → (cs : List Cell) → AllByRecursion P cs → AllByRecursion Q cs
  all_weaker P Q weaker [] h = tt
  all_weaker P Q weaker (c ∷ cs) h = (weaker c h.0, all_weaker P Q weaker cs h.1)

  same_each : (f g : Cell → Outcome) (cs : List Cell) → AllByRecursion (λ c. f c ≡ g c) cs → map f cs ≡ map g cs
  same_each f g [] h = refl
  same_each f g (c ∷ cs) h = rw (h.0, same_each f g cs h.1) refl

  some_is : (o : Option Outcome) → IsSome o → o ≡ Some (unwrap_or o no_outcome)
  some_is None h = absurd (let no : false ≡ true = h in cc)
  some_is (Some x) h = refl

  is_some : (o : Option Outcome) (x : Outcome) → o ≡ Some x → IsSome o
  is_some o x e = subst IsSome (sym e) refl

  module _ (before : Cell → Cell → Bool) (ranked : ReadsBefore config plans number t sizes before ins) (room : length ins ≡ t.inputs) where
    given_test : (c : Cell) → c.matrix < t.inputs → system.given c ≡ in_matrices ins c
    given_test c low = ap (λ b. cond b (in_matrices ins c) None) (below_test c.matrix t.inputs low)

    are_ranked : AreRanked system (made_cells t sizes) before
    are_ranked = record {
      irreflexive = ranked.irreflexive;
      transitive = ranked.transitive;
      falls = λ c made none. all_weaker _ (IsGivenOr system (λ r. Made r × IsTrue (before r c)))
          (λ d. ⊎_elim (λ g. inl (subst IsSome (sym (given_test d g.0)) g.1)) (λ m. inr (m.1, m.2)))
          (system.reads c) (ranked.falls c made);
    }

    obeys : Obeys system Made own
    unfolding cell_outcome
    obeys = solution system Made (suc (length (made_cells t sizes))) no_outcome (enough system (made_cells t sizes) before are_ranked)

    -- a cell that isn't given
    not_given : (c : Cell) → Made c → system.given c ≡ None
    unfolding made_cells
    not_given c made =
        let at = made_at sizes t.inputs (drop t.inputs t.matrices) c made in
        let test : nat_lt c.matrix t.inputs ≡ false = grind (arith, nat_tests, at.matrix) in
        ap (λ b. cond b (in_matrices ins c) None) test

    seen : (d c : Cell) → ((d.matrix < t.inputs) × IsSome (in_matrices ins d)) ⊎ ((t.inputs ≤ d.matrix) × Made d × IsTrue (before d c)) → in_matrices all d ≡ Some (own d)
    seen d c (inl g) =
        let o = some_is (in_matrices ins d) g.1 in
        given_is room d g.0 ∙ o ∙ ap Some (sym (obeys.given d (unwrap_or (in_matrices ins d) no_outcome) (given_test d g.0 ∙ o)))
    seen d c (inr m) = here_is room d m.1

    pub settled : IsSettled config plans number t sizes all
    settled = record {
      here = λ c made. is_some _ (own c) (here_is room c made);
      there = λ c made. all_weaker _ (λ d. IsSome (in_matrices all d)) (λ d h. is_some _ (own d) (seen d c h)) (cell_reads config plans number t sizes c) (ranked.falls c made);
      equation = λ c made.
          ap (λ o. unwrap_or o no_outcome) (here_is room c made) ∙ obeys.equation c made (not_given c made)
          ∙ ap (cell_equation config plans number t sizes c) (same_each own (outcome_in all) (cell_reads config plans number t sizes c)
          (all_weaker _ (λ d. own d ≡ outcome_in all d) (λ d h. sym (ap (λ o. unwrap_or o no_outcome) (seen d c h))) (cell_reads config plans number t sizes c) (ranked.falls c made)));
    }
