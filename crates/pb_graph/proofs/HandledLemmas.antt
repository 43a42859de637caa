-- What tests at all sizes say of each cell, and how a layering handles a read.
use Rattle.std.proofs.Common.{◌≡◌, refl, sym, ap, subst, inl, inr, ⊎_elim, ℕ, zero, suc, ℤ, pos, negsuc, ◌+ℤ◌, ◌-ℤ◌, ◌*ℤ◌, ◌≤ℤ◌, ◌<ℤ◌, int_lt, Bool, true, false, List, [], ◌∷◌, length, map, slice_get, slice_index, slice_index_or, Option, Some, None, arith}
use Rattle.std.specs.Prelude.{◌==◌, IsTrue, if◌then◌else◌, filter}
use Rattle.std.specs.List.{Contains}
use Rattle.std.proofs.Math.IntN.{*ℤ_comm, *ℤ-negsuc, zero-*ℤ}
use Rattle.std.proofs.lemmas.Bool.{and_from, and_parts, cases_Bool, cond_both, eq-eqb, not_from_false, or_cases}
use Rattle.std.proofs.lemmas.Int.{ints}
use Rattle.std.proofs.lemmas.Option.{get_or_from_slice_get, slice_get_within}
use Rattle.pb_base.proofs.ListLemmas.{all_each, in_filter, in_flat, in_map}
use Rattle.pb_linear.specs.Form.{value}
use Rattle.pb_linear.specs.Sizes.{InRange}
use Rattle.pb_linear.specs.VForm.{InArea}
use Rattle.pb_linear.specs.declared.boxes.ReadBox.{ReadBox}
use Rattle.pb_linear.specs.declared.boxes.Sign.{Sign}
use Rattle.pb_linear.specs.declared.boxes.Sign.TheVariants.{Plus, Minus}
use Rattle.pb_linear.specs.declared.boxes.Step.{Step}
use Rattle.pb_linear.specs.declared.form.Form.{Form}
use Rattle.pb_linear.specs.declared.vform.SymBox.{SymBox}
use Rattle.pb_linear.proofs.Integers.{add-mul, mul-le}
use Rattle.pb_linear.proofs.SizesLemmas.{le_everywhere-at}
use Rattle.pb_layers.specs.Layers.{IsUsedOrder, LayersValue, graph_of, no_layer}
use Rattle.pb_graph.specs.Edges.{Choices, apart, at_or_before_by, before_by, between, fits, joined, links, lower_end, numbered, span, touches, upper_end}
use Rattle.pb_graph.specs.Expressions.{Expression, end_for, holds, minus, of_form, own, plus, value_of, worst}
use Rattle.pb_graph.specs.Layerings.{IsLayering, LayerValue, LayeringValue, Serves, all_inner, cut_by, inner_reads, layer_of, steps_at}
use Rattle.pb_graph.specs.Nodes.{NodeValue}
use Rattle.pb_graph.specs.Ranks.{ApartOn, AtOrBeforeBy, BeforeBy, Fits, IsHandled, IsReadOf, IsServed, NotAfter, OnEach, coordinate}
use Rattle.pb_graph.proofs.ChoiceLemmas.{get_numbered, in_between, layer_is, same_some}
use Rattle.pb_graph.proofs.OrderLemmas.{layering_of, order_of_used, same_layering}

-- ---- values of expressions
sub-mul : (a b x : ℤ) → (a -ℤ b) *ℤ x ≡ a *ℤ x -ℤ b *ℤ x
sub-mul a b x = let whole : (a -ℤ b) +ℤ b ≡ a = omega (arith, ints) in omega (arith, ints, add-mul (a -ℤ b) b x, ap (λ z. z *ℤ x) whole)

module _ (sizes : List ℕ) (x y : ℤ) where
  minus_value : (a b : Expression) → value_of (minus a b) sizes x y ≡ value_of a sizes x y -ℤ value_of b sizes x y
  minus_value a b = omega (arith, ints, sub-mul a.x b.x x, sub-mul a.y b.y y)

  form_value : (f : Form) → value_of (of_form f) sizes x y ≡ value f sizes
  form_value f = omega (arith, ints, zero-*ℤ x, zero-*ℤ y)

  plus_value : (e : Expression) (k : ℤ) → value_of (plus e k) sizes x y ≡ value_of e sizes x y +ℤ k
  plus_value e k = omega (arith, ints)

  own_value : (axis : ℕ) → value_of (own axis) sizes x y ≡ coordinate axis x y
  own_value axis = by_test (axis == 0)
    where
      by_test : (b : Bool) → value_of (if b then record { x = pos 1; y = pos 0; rest = λ _. pos 0 } else record { x = pos 0; y = pos 1; rest = λ _. pos 0 }) sizes x y ≡ (if b then x else y)
      by_test true = omega (arith, ints, zero-*ℤ y)
      by_test false = omega (arith, ints, zero-*ℤ x)

-- no place of an area gives more than its worst end
end_best : (k : ℤ) (lower upper : Form) (sizes : List ℕ) (x : ℤ) → value lower sizes ≤ℤ x → x <ℤ value upper sizes → (k *ℤ x) ≤ℤ (k *ℤ end_for k lower upper sizes)
end_best (pos zero) lower upper sizes x low high = omega (arith, ints, zero-*ℤ x, zero-*ℤ (value lower sizes))
end_best (pos (suc n)) lower upper sizes x low high =
    let above : int_lt (pos 0) (pos (suc n)) ≡ true = grind (arith, ints) in
    rw above (mul-le (suc n) x (value upper sizes -ℤ pos 1) (omega (arith, ints)))
end_best (negsuc n) lower upper sizes x low high =
    omega (arith, ints, mul-le (suc n) (value lower sizes) x low, *ℤ_comm (negsuc n) x, *ℤ_comm (negsuc n) (value lower sizes), *ℤ-negsuc x n, *ℤ-negsuc (value lower sizes) n, *ℤ_comm x (pos (suc n)), *ℤ_comm (value lower sizes) (pos (suc n)))

-- ---- tests at sizes, for each cell of an area
module _ (leasts sizes : List ℕ) (range : InRange leasts sizes) (area : SymBox) where
  holds_at : (e : Expression) → IsTrue (holds leasts area e) → (x y : ℤ) → InArea area sizes x y → value_of e sizes x y ≤ℤ pos 0
  unfolding holds
  holds_at e h x y at =
      omega (arith, ints, le_everywhere-at leasts (worst e area) (λ _. pos 0) h sizes range, end_best e.x area.x0 area.x1 sizes x at.from_x at.before_x, end_best e.y area.y0 area.y1 sizes y at.from_y at.before_y)

  at_most : (a b : Expression) → IsTrue (holds leasts area (minus a b)) → (x y : ℤ) → InArea area sizes x y → value_of a sizes x y ≤ℤ value_of b sizes x y
  at_most a b h x y at = omega (arith, ints, holds_at (minus a b) h x y at, minus_value sizes x y a b)

  module _ (r : ReadBox) where
    pub apart_on : (other : SymBox) (axis : ℕ) → apart leasts area r other axis ≡ true → ApartOn area r sizes other axis
    apart_on other axis h = ⊎_elim
        (λ k. inl (λ x y at. omega (arith, ints, at_most (span axis r).high (of_form (lower_end axis other)) k x y at, form_value sizes x y (lower_end axis other))))
        (λ k. inr (λ x y at. omega (arith, ints, at_most (of_form (upper_end axis other)) (span axis r).low k x y at, form_value sizes x y (upper_end axis other))))
        (or_cases (holds leasts area (minus (span axis r).high (of_form (lower_end axis other)))) (holds leasts area (minus (of_form (upper_end axis other)) (span axis r).low)) h)

    before_on : (axis : ℕ) (sign : Sign) → IsTrue (before_by leasts area r axis sign) → OnEach area sizes (λ x y. BeforeBy r sizes x y axis sign)
    before_on axis Plus h x y at = omega (arith, ints, at_most (span axis r).high (own axis) h x y at, own_value sizes x y axis)
    before_on axis Minus h x y at = omega (arith, ints, at_most (plus (own axis) (pos 1)) (span axis r).low h x y at, plus_value sizes x y (own axis) (pos 1), own_value sizes x y axis)

    at_or_before_on : (axis : ℕ) (sign : Sign) → IsTrue (at_or_before_by leasts area r axis sign) → OnEach area sizes (λ x y. AtOrBeforeBy r sizes x y axis sign)
    at_or_before_on axis Plus h x y at = omega (arith, ints, at_most (plus (span axis r).high (negsuc 0)) (own axis) h x y at, plus_value sizes x y (span axis r).high (negsuc 0), own_value sizes x y axis)
    at_or_before_on axis Minus h x y at = omega (arith, ints, at_most (own axis) (span axis r).low h x y at, own_value sizes x y axis)

    fits_on : (list : List Step) → IsTrue (fits leasts area r list) → OnEach area sizes (λ x y. Fits r sizes x y list)
    fits_on [] h x y at = absurd (cc)
    fits_on (a ∷ []) h x y at = before_on a.axis a.sign h x y at
    fits_on (a ∷ b ∷ more) h x y at = ⊎_elim
        (λ k. inl (before_on a.axis a.sign k x y at))
        (λ k. let parts = and_parts _ _ k in inr (at_or_before_on a.axis a.sign parts.0 x y at, before_on b.axis b.sign parts.1 x y at))
        (or_cases _ _ h)

-- ---- the reads inside a layer
module _ (c : Choices) (layer : List ℕ) (place : ℕ) where
  in_inner : (i j : ℕ) (u v : NodeValue) (r : ReadBox) → slice_get c.nodes i ≡ Some u → slice_get c.nodes j ≡ Some v → slice_index layer i ≡ place → slice_index layer j ≡ place → Contains (between c u v) r → Contains (inner_reads c layer place) (u, r)
  unfolding inner_reads
  in_inner i j u v r at_u at_v here_u here_v h =
      in_flat _ _ (i, u) (u, r) (here i u at_u here_u)
      (in_flat (λ w. map (λ q. (u, q)) (between c u w.1)) _ (j, v) (u, r) (here j v at_v here_v) (in_map (λ q. (u, q)) (between c u v) r h))
    where
      here : (k : ℕ) (w : NodeValue) → slice_get c.nodes k ≡ Some w → slice_index layer k ≡ place → Contains (filter (λ (e : ℕ × NodeValue). slice_index layer e.0 == place) (numbered c)) (k, w)
      here k w at same = in_filter (λ (e : ℕ × NodeValue). slice_index layer e.0 == place) (numbered c) (k, w) (get_numbered c.nodes k w at) (eq-eqb (slice_index layer k) place same)

  module _ (sizes : List ℕ) (range : InRange c.leasts sizes) (u : NodeValue) (r : ReadBox) (inside : Contains (inner_reads c layer place) (u, r)) (axis : ℕ) where
    each_inner : (sign : Sign) → all_inner c layer place axis sign ≡ true → OnEach u.area sizes (λ x y. AtOrBeforeBy r sizes x y axis sign)
    each_inner sign h = at_or_before_on c.leasts sizes range u.area r axis sign (all_each (λ (t : NodeValue × ReadBox). at_or_before_by c.leasts t.0.area t.1 axis sign) (inner_reads c layer place) (u, r) h inside)

    -- the sign that is found is one that all allow
    cut_on : (found : Option Sign) → NotAfter u.area r sizes axis (cut_by c layer place axis found)
    cut_on (Some sign) = cond_both (all_inner c layer place axis sign) (Some sign) None (NotAfter u.area r sizes axis) (each_inner sign) (λ _. tt)
    cut_on None =
        cond_both (all_inner c layer place axis Plus) (Some Plus) _ (NotAfter u.area r sizes axis) (each_inner Plus)
        (λ _. cond_both (all_inner c layer place axis Minus) (Some Minus) None (NotAfter u.area r sizes axis) (each_inner Minus) (λ _. tt))

-- ---- a read, and the order that is used
module _ (c : Choices) (used : LayersValue) (is : IsUsedOrder (graph_of (joined c) (links c)) (length c.nodes) used) (sizes : List ℕ) (range : InRange c.leasts sizes) where
  module _ (u v : ℕ) (reader source : NodeValue) (r : ReadBox) (read : IsReadOf c u v reader source r) where
    abbrev place : ℕ
    place = slice_index used.layer u

    abbrev here : LayerValue
    here = layer_of c used.layer (place, slice_index_or used.layers place no_layer)

    has_layer : slice_get (layering_of c used).layers place ≡ Some here
    has_layer = layer_is c used.layer used.layers place (is.numbered u (slice_get_within c.nodes u reader read.has_reader))

    served_here : IsTrue (touches c reader source r) → slice_index used.layer v ≡ place → Serves c (steps_at (layering_of c used).layers place) (record { reader = u; source = v; read = r }) → IsServed reader.area r sizes here
    served_here touch same s =
        let inside = in_inner c used.layer place u v reader source r read.has_reader read.has_source refl same (in_between c reader source r read.declared read.chosen touch) in
        let node : s.reader ≡ reader = same_some _ _ _ s.has_reader read.has_reader in
        let steps : steps_at (layering_of c used).layers place ≡ here.steps = ap (λ (l : LayerValue). l.steps) (get_or_from_slice_get _ place here _ has_layer) in
        record {
          fits = fits_on c.leasts sizes range reader.area r here.steps (subst (λ (list : List Step). IsTrue (fits c.leasts reader.area r list)) steps (subst (λ (w : NodeValue). IsTrue (fits c.leasts w.area r (steps_at (layering_of c used).layers place))) node s.fits));
          not_after_x = cut_on c used.layer place sizes range reader r inside 0 _;
          not_after_y = cut_on c used.layer place sizes range reader r inside 1 _;
        }

    handled_touch : IsTrue (touches c reader source r) → IsHandled (layering_of c used) sizes u v reader source r
    handled_touch touch = ⊎_elim
        (λ lower. inr (inl lower))
        (λ s. inr (inr (here, s.0, has_layer, served_here touch s.0 s.1)))
        ((order_of_used c used is).lower (record { reader = u; source = v; read = r }) (record { reader = reader; source = source; has_reader = read.has_reader; has_source = read.has_source; declared = read.declared; chosen = read.chosen; touches = touch }))

    handled_used : IsHandled (layering_of c used) sizes u v reader source r
    handled_used = ⊎_elim
        (λ apart_x. inl (inl (apart_on c.leasts sizes range reader.area r source.area 0 apart_x)))
        (λ near_x. ⊎_elim
        (λ apart_y. inl (inr (apart_on c.leasts sizes range reader.area r source.area 1 apart_y)))
        (λ near_y. handled_touch (and_from _ _ (eq-eqb r.matrix source.matrix read.matrix) (and_from _ _ (not_from_false _ near_x) (not_from_false _ near_y))))
        (cases_Bool (apart c.leasts reader.area r source.area 1)))
        (cases_Bool (apart c.leasts reader.area r source.area 0))

pub handled : (c : Choices) (l : LayeringValue) (sizes : List ℕ) → IsLayering c l → InRange c.leasts sizes
    → (u v : ℕ) (reader source : NodeValue) (r : ReadBox) → IsReadOf c u v reader source r → IsHandled l sizes u v reader source r
handled c l sizes is range u v reader source r read =
    subst (λ m. IsHandled m sizes u v reader source r) (sym (same_layering c l is)) (handled_used c is.used is.is_used sizes range u v reader source r read)
