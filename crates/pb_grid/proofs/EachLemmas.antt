-- What the ends of all segments of a matrix have in common, and how many segments there are.
use Rattle.std.proofs.Common.{◌≡◌, ◌∙◌, refl, ap, subst, inl, inr, suc, ◌+◌, ◌-◌, ◌*◌, ◌≤◌, Bool, true, false, not, ◌||◌, List, [], ◌∷◌, length, map, arith}
use Rattle.std.specs.Prelude.{filter, nat_lt}
use Rattle.std.specs.List.{Contains, flat_map}
use Rattle.std.proofs.Math.Bool.{cond}
use Rattle.std.proofs.Math.Nat.{mul_comm}
use Rattle.std.proofs.lemmas.Bool.{ltb-false}
use Rattle.std.proofs.lemmas.List.{length-append, length-map}
use Rattle.std.proofs.lemmas.List.Elements.{Contains-append_cases}
use Rattle.pb_base.proofs.ListLemmas.{filter_in, flat_in, in_cases, map_in}
use Rattle.pb_linear.specs.RuleBox.{Bounds}
use Rattle.pb_linear.specs.declared.form.Form.{Form}
use Rattle.pb_linear.specs.declared.vform.SymBox.{SymBox}
use Rattle.pb_grid.specs.declared.axis.Axis.{Axis}
use Rattle.pb_grid.specs.declared.axis.Axis.TheVariants as axis
use Rattle.pb_grid.specs.Cuts.{bounds_on, cuts, is_inner, le, listed, same, zero as zero_form}
use Rattle.pb_grid.specs.Grids.{Matrix, are_too_many, areas_of, cuts_x, cuts_y}
use Rattle.pb_grid.specs.Lists.{firsts, in_order, neighbours, pairs_from, placed}
use Rattle.pb_grid.specs.Segments.{area_of}

-- ---- what is said of each element of a list is said of each of the lists that are made of it
module _ {A : Type 0} (P : A → Type 0) where
  filtered : (p : A → Bool) (xs : List A) → ((x : A) → Contains xs x → P x) → (x : A) → Contains (filter p xs) x → P x
  filtered p xs h x c = h x (filter_in p xs x c).0

  first_each : (same : A → A → Bool) (xs : List A) → ((x : A) → Contains xs x → P x) → (x : A) → Contains (firsts same xs) x → P x
  first_each same [] h x c = h x c
  first_each same (y ∷ ys) h x c = elim (in_cases y x (filter (λ z. not (same y z)) (firsts same ys)) c) [
    | inl is ↦ subst P is (h y (0, omega arith, refl))
    | inr later ↦ first_each same ys (λ z k. h z (suc k.0, omega (arith, k.1), k.2)) x (filter_in (λ z. not (same y z)) (firsts same ys) x later).0
  ]

  placed_by : (y z : A) (xs more : List A) (b : Bool) → P y → P z → ((x : A) → Contains xs x → P x) → ((x : A) → Contains more x → P x) → (x : A) → Contains (cond b (y ∷ z ∷ xs) (z ∷ more)) x → P x
  placed_by y z xs more true hy hz h k x c = elim (in_cases y x (z ∷ xs) c) [
    | inl is ↦ subst P is hy
    | inr later ↦ elim (in_cases z x xs later) [ inl is ↦ subst P is hz | inr rest ↦ h x rest ]
  ]
  placed_by y z xs more false hy hz h k x c = elim (in_cases z x more c) [ inl is ↦ subst P is hz | inr rest ↦ k x rest ]

  placed_each : (at_most : A → A → Bool) (y : A) (xs : List A) → P y → ((x : A) → Contains xs x → P x) → (x : A) → Contains (placed at_most y xs) x → P x
  placed_each at_most y [] hy h x c = elim (in_cases y x [] c) [ inl is ↦ subst P is hy | inr later ↦ h x later ]
  placed_each at_most y (z ∷ xs) hy h x c =
      let rest : (x : A) → Contains xs x → P x = λ w k. h w (suc k.0, omega (arith, k.1), k.2) in
      placed_by y z xs (placed at_most y xs) (at_most y z) hy (h z (0, omega arith, refl)) rest (placed_each at_most y xs hy rest) x c

  ordered_each : (at_most : A → A → Bool) (xs : List A) → ((x : A) → Contains xs x → P x) → (x : A) → Contains (in_order at_most xs) x → P x
  ordered_each at_most [] h = h
  ordered_each at_most (y ∷ xs) h = placed_each at_most y (in_order at_most xs) (h y (0, omega arith, refl)) (ordered_each at_most xs (λ x k. h x (suc k.0, omega (arith, k.1), k.2)))

  pair_each : (y : A) (xs : List A) → P y → ((x : A) → Contains xs x → P x) → (q : A × A) → Contains (pairs_from y xs) q → P q.0 × P q.1
  pair_each y [] hy h q c = absurd (omega (arith, c.1))
  pair_each y (z ∷ xs) hy h q c =
      let hz = h z (0, omega arith, refl) in
      elim (in_cases (y, z) q (pairs_from z xs) c) [
        | inl is ↦ subst (λ (r : A × A). P r.0 × P r.1) is (hy, hz)
        | inr later ↦ pair_each z xs hz (λ x k. h x (suc k.0, omega (arith, k.1), k.2)) q later
      ]

  neighbour_each : (xs : List A) → ((x : A) → Contains xs x → P x) → (q : A × A) → Contains (neighbours xs) q → P q.0 × P q.1
  neighbour_each [] h q c = absurd (omega (arith, c.1))
  neighbour_each (y ∷ xs) h q c = pair_each y xs (h y (0, omega arith, refl)) (λ x k. h x (suc k.0, omega (arith, k.1), k.2)) q c

-- ---- how many there are
placed_long : {A : Type 0} (y z : A) (xs more : List A) (b : Bool) → length more ≡ suc (length xs) → length (cond b (y ∷ z ∷ xs) (z ∷ more)) ≡ suc (suc (length xs))
placed_long y z xs more true e = refl
placed_long y z xs more false e = ap suc e

length-placed : {A : Type 0} (at_most : A → A → Bool) (y : A) (xs : List A) → length (placed at_most y xs) ≡ suc (length xs)
length-placed at_most y [] = refl
length-placed at_most y (z ∷ xs) = placed_long y z xs (placed at_most y xs) (at_most y z) (length-placed at_most y xs)

length-in_order : {A : Type 0} (at_most : A → A → Bool) (xs : List A) → length (in_order at_most xs) ≡ length xs
length-in_order at_most [] = refl
length-in_order at_most (x ∷ xs) = length-placed at_most x (in_order at_most xs) ∙ ap suc (length-in_order at_most xs)

length-pairs : {A : Type 0} (x : A) (xs : List A) → length (pairs_from x xs) ≡ length xs
length-pairs x [] = refl
length-pairs x (y ∷ ys) = ap suc (length-pairs y ys)

length-neighbours : {A : Type 0} (xs : List A) → length (neighbours xs) ≡ length xs - 1
length-neighbours [] = refl
length-neighbours (x ∷ xs) = omega (arith, length-pairs x xs)

length-rows : {A B C : Type 0} (f : A → B → C) (xs : List A) (ys : List B) → length (flat_map (λ y. map (λ x. f x y) xs) ys) ≡ length ys * length xs
length-rows f xs [] = grind arith
length-rows f xs (y ∷ ys) =
    let all = length-append (map (λ x. f x y) xs) (flat_map (λ z. map (λ x. f x z) xs) ys) in
    let more : suc (length ys) * length xs ≡ length xs + length ys * length xs = grind arith in
    omega (arith, all, more, length-map xs (λ x. f x y), length-rows f xs ys)

-- ---- the ends of the segments of a matrix
-- something is said of each bound of a box
pub record HaveBounds (P : Form → Type 0) (b : Bounds) : Type 0 where
  pub lower_x : (f : Form) → Contains b.lower_x f → P f
  pub upper_x : (f : Form) → Contains b.upper_x f → P f
  pub lower_y : (f : Form) → Contains b.lower_y f → P f
  pub upper_y : (f : Form) → Contains b.upper_y f → P f

pub record HasEnds (P : Form → Type 0) (s : SymBox) : Type 0 where
  pub x0 : P s.x0
  pub x1 : P s.x1
  pub y0 : P s.y0
  pub y1 : P s.y1

module _ (m : Matrix) where
  abbrev xs : List Form
  xs = in_order (le m.leasts) (cuts_x m)

  abbrev ys : List Form
  ys = in_order (le m.leasts) (cuts_y m)

  module _ (P : Form → Type 0) (start : P zero_form) (width : P m.width) (height : P m.height) (each : (b : Bounds) → Contains m.boxes b → HaveBounds P b) where
    on_axis : (a : Axis) (b : Bounds) → HaveBounds P b → (f : Form) → Contains (bounds_on a b) f → P f
    on_axis axis.X b h f c = elim (Contains-append_cases b.lower_x b.upper_x f c) [ inl low ↦ h.lower_x f low | inr high ↦ h.upper_x f high ]
    on_axis axis.Y b h f c = elim (Contains-append_cases b.lower_y b.upper_y f c) [ inl low ↦ h.lower_y f low | inr high ↦ h.upper_y f high ]

    of_boxes : (a : Axis) (f : Form) → Contains (flat_map (bounds_on a) m.boxes) f → P f
    of_boxes a f c = let b = flat_in (bounds_on a) m.boxes f c in on_axis a b.0 (each b.0 b.1) f b.2

    of_list : (a : Axis) (side : Form) → P side → (f : Form) → Contains (listed m.leasts a side m.boxes) f → P f
    of_list a side h f c =
        let inner = filter (is_inner m.leasts side) (flat_map (bounds_on a) m.boxes) in
        elim (in_cases zero_form f (side ∷ inner) c) [
          | inl is ↦ subst P is start
          | inr later ↦ elim (in_cases side f inner later) [ inl is ↦ subst P is h | inr rest ↦ filtered P (is_inner m.leasts side) (flat_map (bounds_on a) m.boxes) (of_boxes a) f rest ]
        ]

    of_cuts : (a : Axis) (side : Form) → P side → (f : Form) → Contains (in_order (le m.leasts) (cuts m.leasts a side m.boxes)) f → P f
    unfolding cuts
    of_cuts a side h = ordered_each P (le m.leasts) (cuts m.leasts a side m.boxes) (first_each P (same m.leasts) (listed m.leasts a side m.boxes) (of_list a side h))

    pub ends_each : (s : SymBox) → Contains (areas_of m) s → HasEnds P s
    ends_each s c =
        let row = flat_in (λ y. map (λ x. area_of x y) (neighbours xs)) (neighbours ys) s c in
        let x = map_in (λ x. area_of x row.0) (neighbours xs) s row.2 in
        let hx = neighbour_each P xs (of_cuts axis.X m.width width) x.0 x.1 in
        let hy = neighbour_each P ys (of_cuts axis.Y m.height height) row.0 row.1 in
        subst (HasEnds P) x.2 (record { x0 = hx.0; x1 = hx.1; y0 = hy.0; y1 = hy.1 })

  -- at most 256 segments
  third : (a b c : Bool) → (a || (b || c)) ≡ false → c ≡ false
  third true b c h = absurd (cc)
  third false true c h = absurd (cc)
  third false false c h = h

  pub few_areas : are_too_many (length (cuts_x m)) (length (cuts_y m)) ≡ false → length (areas_of m) ≤ 256
  few_areas h =
      let nx : length (neighbours xs) ≡ length (cuts_x m) - 1 = length-neighbours xs ∙ ap (λ n. n - 1) (length-in_order (le m.leasts) (cuts_x m)) in
      let ny : length (neighbours ys) ≡ length (cuts_y m) - 1 = length-neighbours ys ∙ ap (λ n. n - 1) (length-in_order (le m.leasts) (cuts_y m)) in
      let product : length (areas_of m) ≡ (length (cuts_y m) - 1) * (length (cuts_x m) - 1) = length-rows area_of (neighbours xs) (neighbours ys) ∙ (λ i. ny i * nx i) in
      let most = ltb-false 256 ((length (cuts_x m) - 1) * (length (cuts_y m) - 1)) (third (nat_lt 32 (length (cuts_x m))) (nat_lt 32 (length (cuts_y m))) (nat_lt 256 ((length (cuts_x m) - 1) * (length (cuts_y m) - 1))) h) in
      omega (arith, product, most, mul_comm (length (cuts_y m) - 1) (length (cuts_x m) - 1))
