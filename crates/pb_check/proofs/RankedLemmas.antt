-- The one segment of a cell, and the ranks of what its rules read.
use Rattle.std.proofs.Common.{◌≡◌, ◌∙◌, refl, sym, ap, subst, inl, inr, ◌⊎◌, ℕ, zero, suc, ◌+◌, ◌-◌, ◌<◌, ◌≤◌, ℤ, pos, Bool, true, false, ◌&&◌, List, [], ◌∷◌, ◌++◌, length, map, slice_get, Some, None, arith}
use Rattle.std.specs.Prelude.{◌==◌, filter}
use Rattle.std.specs.List.{AllByRecursion, Contains, enumerate_from, range_with_len}
use Rattle.std.proofs.Math.Bool.{cond}
use Rattle.std.proofs.lemmas.Bool.{and_parts, eq-eqb, eqb-true, le-leb}
use Rattle.std.proofs.lemmas.List.Elements.{Contains-append_cases}
use Rattle.std.proofs.lemmas.Option.{slice_get_within}
use Rattle.pb_linear.specs.Form.{value}
use Rattle.pb_linear.specs.Sizes.{InRange}
use Rattle.pb_linear.specs.VForm.{InArea}
use Rattle.pb_linear.specs.declared.boxes.ReadBox.{ReadBox}
use Rattle.pb_linear.specs.declared.vform.SymBox.{SymBox}
use Rattle.pb_grid.specs.Places.{is_at}
use Rattle.pb_grid.specs.Segments.{SegmentValue}
use Rattle.pb_graph.specs.Nodes.{NodeValue}
use Rattle.pb_graph.specs.Ranks.{IsRead, IsReadOf, rank_in}
use Rattle.pb_graph.proofs.RankLemmas.{falls}
use Rattle.pb_program.specs.declared.view.Read.{Read}
use Rattle.pb_program.specs.Areas.{Area, IsIn as IsInPlaces, area_of}
use Rattle.pb_program.specs.Conditions.{Holds}
use Rattle.pb_program.specs.Forms.{DeclValue}
use Rattle.pb_program.specs.Trees.{ProgRule, ProgTransform}
use Rattle.pb_program.specs.WellFormed.{IsWellFormed}
use Rattle.pb_region.specs.Boxes.{is_wide}
use Rattle.pb_region.specs.Ends.{area_at}
use Rattle.pb_region.specs.Inside.{guards}
use Rattle.pb_region.specs.Reads.{ReadValue, is_made, read_of, read_value, reads_of}
use Rattle.pb_region.proofs.AreaLemmas.{ends_area}
use Rattle.pb_model.specs.Cells.{Cell, IsCell, ReadsCell}
use Rattle.pb_model.specs.Lawful.{CanMake, lawful}
use Rattle.pb_base.proofs.ListLemmas.{at_in, in_at, in_filter, in_flat, in_map, map_in}
use Rattle.pb_check.specs.Cuts.{AreNodes, AreNodesOf, IsCut, made_matrices, node}
use Rattle.pb_check.specs.Orders.{AnalysisValue, IsAnalysis, made_reads}
use Rattle.pb_check.specs.Phases.{IsSound}
use Rattle.pb_check.specs.Ranked.{IsCovered, IsIn, IsMadeCell, IsRanked, StandsBelow}
use Rattle.pb_check.proofs.CoverLemmas.{some_of}
use Rattle.pb_check.proofs.FirstLemmas.{some_same}
use Rattle.pb_check.proofs.LawfulLemmas.{at_numbered, both, le_true, lt_true, lawful_at, may_can, one_at, rules_may}

-- ---- one element that passes a test
module _ {A : Type 0} (p : A → Bool) where
  none_later : (x : A) (xs : List A) (b : Bool) → p x ≡ b → length (cond b (x ∷ filter p xs) (filter p xs)) ≡ 0 → (b ≡ false) × (length (filter p xs) ≡ 0)
  none_later x xs true e long = absurd (omega (arith, long))
  none_later x xs false e long = (refl, long)

  none_passes : (xs : List A) (j : ℕ) (y : A) → length (filter p xs) ≡ 0 → slice_get xs j ≡ Some y → p y ≡ true → ⊥
  none_passes [] j y none at pass = let e : None ≡ Some y = at in absurd (cc)
  none_passes (x ∷ xs) zero y none at pass = let e : p x ≡ true = ap p (some_same x y at) ∙ pass in let isnt = (none_later x xs (p x) refl none).0 in cc
  none_passes (x ∷ xs) (suc j) y none at pass = none_passes xs j y (none_later x xs (p x) refl none).1 at pass

  one_later : (x : A) (xs : List A) (b : Bool) → p x ≡ b → length (cond b (x ∷ filter p xs) (filter p xs)) ≡ 1 → ((b ≡ true) × (length (filter p xs) ≡ 0)) ⊎ ((b ≡ false) × (length (filter p xs) ≡ 1))
  one_later x xs true e long = inl (refl, omega (arith, long))
  one_later x xs false e long = inr (refl, long)

  abbrev Same : List A → ℕ → ℕ → A → A → Type 0
  Same xs i j x y = slice_get xs i ≡ Some x → p x ≡ true → slice_get xs j ≡ Some y → p y ≡ true → i ≡ j

  same_here : (z : A) (xs : List A) (i j : ℕ) (x y : A) → length (filter p xs) ≡ 0 → Same (z ∷ xs) i j x y
  same_here z xs zero zero x y none at pass there other = refl
  same_here z xs zero (suc j) x y none at pass there other = absurd (none_passes xs j y none there other)
  same_here z xs (suc i) j x y none at pass there other = absurd (none_passes xs i x none at pass)

  same_later : (z : A) (xs : List A) (i j : ℕ) (x y : A) → p z ≡ false → ((i j : ℕ) → Same xs i j x y) → Same (z ∷ xs) i j x y
  same_later z xs zero j x y isnt rest at pass there other = absurd (let e : p z ≡ true = ap p (some_same z x at) ∙ pass in cc)
  same_later z xs (suc i) zero x y isnt rest at pass there other = absurd (let e : p z ≡ true = ap p (some_same z y there) ∙ other in cc)
  same_later z xs (suc i) (suc j) x y isnt rest at pass there other = ap suc (rest i j at pass there other)

  one_passes : (xs : List A) (x y : A) → length (filter p xs) ≡ 1 → (i j : ℕ) → Same xs i j x y
  one_passes [] x y one i j = λ at. let e : None ≡ Some x = at in absurd (cc)
  one_passes (z ∷ xs) x y one i j = elim (one_later z xs (p z) refl one) [
    | inl (is, none) ↦ same_here z xs i j x y none
    | inr (isnt, later) ↦ same_later z xs i j x y isnt (one_passes xs x y later)
  ]

  append_by : (x : A) (xs l : List A) (n : ℕ) (b : Bool) → length l ≡ length (filter p xs) + n → length (cond b (x ∷ l) l) ≡ length (cond b (x ∷ filter p xs) (filter p xs)) + n
  append_by x xs l n true e = omega (arith, e)
  append_by x xs l n false e = e

  filter-append : (xs ys : List A) → length (filter p (xs ++ ys)) ≡ length (filter p xs) + length (filter p ys)
  filter-append [] ys = omega arith
  filter-append (x ∷ xs) ys = append_by x xs (filter p (xs ++ ys)) (length (filter p ys)) (p x) (filter-append xs ys)

-- a number of a range is there once
counted_by : (m a : ℕ) (ks : List ℕ) (b : Bool) → (a == m) ≡ b → length (cond b (a ∷ filter (λ k. k == m) ks) (filter (λ k. k == m) ks)) ≡ cond b 1 0 + length (filter (λ k. k == m) ks)
counted_by m a ks true e = omega arith
counted_by m a ks false e = omega arith

none_by : (b : Bool) {l : ℕ} → b ≡ false → l ≡ 0 → cond b 1 0 + l ≡ 0
none_by true isnt e = absurd (cc)
none_by false isnt e = omega (arith, e)

none_before : (m a n : ℕ) → m < a → length (filter (λ k. k == m) (range_with_len a n)) ≡ 0
none_before m a zero below = refl
none_before m a (suc n) below =
    let isnt : (a == m) ≡ false = grind arith in
    counted_by m a (range_with_len (a + 1) n) (a == m) refl ∙ none_by (a == m) isnt (none_before m (a + 1) n (omega (arith, below)))

once_by : (m a n : ℕ) → a ≤ m → m < a + suc n → (b : Bool) → (a == m) ≡ b → ((a + 1 ≤ m) → length (filter (λ k. k == m) (range_with_len (a + 1) n)) ≡ 1) → cond b 1 0 + length (filter (λ k. k == m) (range_with_len (a + 1) n)) ≡ 1
once_by m a n low high true e rest = omega (arith, none_before m (a + 1) n (omega (arith, eqb-true a m e)))
once_by m a n low high false e rest = let after : a + 1 ≤ m = grind arith in omega (arith, rest after)

once_in_range : (m a n : ℕ) → a ≤ m → m < a + n → length (filter (λ k. k == m) (range_with_len a n)) ≡ 1
once_in_range m a zero low high = absurd (omega (arith, low, high))
once_in_range m a (suc n) low high = counted_by m a (range_with_len (a + 1) n) (a == m) refl ∙ once_by m a n low high (a == m) refl (λ after. once_in_range m (a + 1) n after (omega (arith, high)))

-- ---- places of segments
place_of : (s : SymBox) (sizes : List ℕ) (x y : ℤ) (rules : List ℕ) → InArea s sizes x y → is_at sizes x y (record { area = s; rules = rules }) ≡ true
place_of s sizes x y rules h =
    both _ _ (both _ _ ((le_true (value s.x0 sizes) x).1 h.from_x) ((lt_true x (value s.x1 sizes)).1 h.before_x)) (both _ _ ((le_true (value s.y0 sizes) y).1 h.from_y) ((lt_true y (value s.y1 sizes)).1 h.before_y))

area_place : (s : SymBox) (sizes : List ℕ) (x y : ℤ) (rules : List ℕ) → is_at sizes x y (record { area = s; rules = rules }) ≡ true → InArea s sizes x y
area_place s sizes x y rules h =
    let axes = and_parts _ _ h in
    let px = and_parts _ _ axes.0 in
    let py = and_parts _ _ axes.1 in
    record { from_x = (le_true (value s.x0 sizes) x).0 px.0; before_x = (lt_true x (value s.x1 sizes)).0 px.1; from_y = (le_true (value s.y0 sizes) y).0 py.0; before_y = (lt_true y (value s.y1 sizes)).0 py.1 }

module _ (p : List ProgTransform) (number : ℕ) (t : ProgTransform) (sizes : List ℕ) (well : IsWellFormed p) (sound : IsSound p) (at : slice_get p number ≡ Some t) where
  module _ (c : Cell) (cell : IsCell t sizes c) where
    abbrev segment : NodeValue → SegmentValue
    segment n = record { area = n.area; rules = n.rules }

    abbrev is_here : NodeValue → Bool
    is_here n = (n.matrix == c.matrix) && is_at sizes (pos c.x) (pos c.y) (segment n)

    here_in : (ns : List NodeValue) (u : ℕ) (n : NodeValue) → slice_get ns u ≡ Some n → is_here n ≡ true → IsIn ns sizes c u
    here_in ns u n there h = let parts = and_parts (n.matrix == c.matrix) (is_at sizes (pos c.x) (pos c.y) (segment n)) h in record { node = n; there = there; matrix = eqb-true n.matrix c.matrix parts.0; inside = area_place n.area sizes (pos c.x) (pos c.y) n.rules parts.1 }

    in_here : (ns : List NodeValue) (u : ℕ) (h : IsIn ns sizes c u) → is_here h.node ≡ true
    in_here ns u h = both _ _ (eq-eqb h.node.matrix c.matrix h.matrix) (place_of h.node.area sizes (pos c.x) (pos c.y) h.node.rules h.inside)

    -- of the segments of a matrix one holds the cell, if it is the cell's matrix, and else none
    abbrev is_place : SegmentValue → Bool
    is_place = is_at sizes (pos c.x) (pos c.y)

    here_by : (m : ℕ) (s : SegmentValue) (ss : List SegmentValue) (b : Bool) → length (filter is_here (map (node m) ss)) ≡ length (filter is_place ss)
        → length (cond b (node m s ∷ filter is_here (map (node m) ss)) (filter is_here (map (node m) ss))) ≡ length (cond b (s ∷ filter is_place ss) (filter is_place ss))
    here_by m s ss true e = ap suc e
    here_by m s ss false e = e

    of_matrix : (m : ℕ) (ss : List SegmentValue) → (m == c.matrix) ≡ true → length (filter is_here (map (node m) ss)) ≡ length (filter is_place ss)
    of_matrix m [] e = refl
    of_matrix m (s ∷ ss) e = rw e (here_by m s ss (is_place s) (of_matrix m ss e))

    of_other : (m : ℕ) (ss : List SegmentValue) → (m == c.matrix) ≡ false → length (filter is_here (map (node m) ss)) ≡ 0
    of_other m [] e = refl
    of_other m (s ∷ ss) e = rw e (of_other m ss e)

    one_of : (m : ℕ) (ss : List SegmentValue) → (m == c.matrix) ≡ true → IsCut t m ss → length (filter is_place ss) ≡ 1
    one_of m ss e cut = one_at p number t c sizes well sound at cell ss (subst (λ k. IsCut t k ss) (eqb-true m c.matrix e) cut)

    count_by : (m : ℕ) (ms : List ℕ) (ss : List SegmentValue) (n : ℕ) (b : Bool) → (m == c.matrix) ≡ b → IsCut t m ss → n ≡ length (filter (λ k. k == c.matrix) ms)
        → length (filter is_here (map (node m) ss)) + n ≡ length (cond b (m ∷ filter (λ k. k == c.matrix) ms) (filter (λ k. k == c.matrix) ms))
    count_by m ms ss n true e cut rest = omega (arith, of_matrix m ss e, one_of m ss e cut, rest)
    count_by m ms ss n false e cut rest = omega (arith, of_other m ss e, rest)

    count_here : (ms : List ℕ) (ns : List NodeValue) → AreNodesOf t ms ns → length (filter is_here ns) ≡ length (filter (λ m. m == c.matrix) ms)
    count_here [] ns h = ap (λ l. length (filter is_here l)) h
    count_here (m ∷ ms) ns (ss, rest, cut, more, is) =
        ap (λ l. length (filter is_here l)) is ∙ filter-append is_here (map (node m) ss) rest ∙ count_by m ms ss (length (filter is_here rest)) (m == c.matrix) refl cut (count_here ms rest more)

    module _ (made : t.inputs ≤ c.matrix) (ns : List NodeValue) (are : AreNodes t ns) where
      one_here : length (filter is_here ns) ≡ 1
      one_here =
          count_here (made_matrices t) ns are
          ∙ once_in_range c.matrix t.inputs (length t.matrices - t.inputs) made (omega (arith, made, slice_get_within t.matrices c.matrix cell.decl cell.there))

      pub some_segment : (u : ℕ) × IsIn ns sizes c u
      some_segment = let n = some_of is_here ns one_here in let u = at_in ns n.0 n.1 in (u.0, here_in ns u.0 n.0 u.1 n.2)

      pub one_segment_only : (u v : ℕ) → IsIn ns sizes c u → IsIn ns sizes c v → v ≡ u
      one_segment_only u v h k = one_passes is_here ns k.node h.node one_here v u k.there (in_here ns v k) h.there (in_here ns u h)

    -- each segment is of a matrix that is cut
    from_cut : (ms : List ℕ) (ns : List NodeValue) → AreNodesOf t ms ns → (n : NodeValue) → Contains ns n → (m : ℕ) × (ss : List SegmentValue) × IsCut t m ss × Contains ss (segment n) × (n.matrix ≡ m)
    from_cut [] ns h n k = absurd (omega (arith, ap length h, k.1))
    from_cut (m ∷ ms) ns (ss, rest, cut, more, is) n k = elim (Contains-append_cases (map (node m) ss) rest n (subst (λ l. Contains l n) is k)) [
      | inl here ↦ let s = map_in (node m) ss n here in (m, ss, cut, subst (λ (z : NodeValue). Contains ss (segment z)) s.2 s.1, ap (λ (z : NodeValue). z.matrix) (sym s.2))
      | inr later ↦ from_cut ms rest more n later
    ]

    pub lawful_among : (ns : List NodeValue) → AreNodes t ns → (u : ℕ) (h : IsIn ns sizes c u) (r : ℕ) → Contains (lawful t sizes c) r → Contains h.node.rules r
    lawful_among ns are u h r may =
        let (m, ss, cut, among, is) = from_cut (made_matrices t) ns are h.node (in_at ns u h.node h.there) in
        let here : IsCut t c.matrix ss = subst (λ k. IsCut t k ss) (sym is ∙ h.matrix) cut in
        let all = lawful_at p number t c sizes well sound at cell ss here among.0 (segment h.node) among.1 in
        let same = among.2 in
        let place = place_of h.node.area sizes (pos c.x) (pos c.y) h.node.rules h.inside in
        subst (λ (s : SegmentValue). Contains s.rules r) same (all (subst (λ (s : SegmentValue). is_at sizes (pos c.x) (pos c.y) s ≡ true) (sym same) place) r may)

    -- a rule of the segment that holds the cell can make it where its guards are true
    pub among_can : (ns : List NodeValue) → AreNodes t ns → (u : ℕ) (h : IsIn ns sizes c u) (k : ℕ) (r : ProgRule) → slice_get t.rules k ≡ Some r → Contains h.node.rules k → AllByRecursion (Holds sizes (pos c.x) (pos c.y)) (guards t.matrices r)
        → CanMake t.matrices sizes c r
    among_can ns are u h k r there may held =
        let (m, ss, cut, among, is) = from_cut (made_matrices t) ns are h.node (in_at ns u h.node h.there) in
        let here : IsCut t c.matrix ss = subst (λ k. IsCut t k ss) (sym is ∙ h.matrix) cut in
        let all = rules_may p number t c sizes well sound at cell ss here among.0 (segment h.node) among.1 in
        let same = among.2 in
        let place = place_of h.node.area sizes (pos c.x) (pos c.y) h.node.rules h.inside in
        may_can p number t c sizes well sound at cell here.matrix here.is k r there
        (all (subst (λ (s : SegmentValue). is_at sizes (pos c.x) (pos c.y) s ≡ true) (sym same) place) k (subst (λ (s : SegmentValue). Contains s.rules k) (sym same) may)) held

  -- ---- of what is found of the transform
  module _ (a : AnalysisValue) (found : IsAnalysis t a) where
    pub are : AreNodes t a.nodes
    are = subst (AreNodes t) (sym found.nodes) found.are.nodes

    pub covered_is : (c : Cell) → IsMadeCell t sizes c → (u : ℕ) → IsIn a.nodes sizes c u → IsCovered t a sizes c u
    covered_is c cell u h = record { holds = h; alone = λ v k. one_segment_only c cell.cell cell.made a.nodes are u v h k; lawful = lawful_among c cell.cell a.nodes are u h }

    pub segment_there : (c : Cell) → IsMadeCell t sizes c → (u : ℕ) × IsIn a.nodes sizes c u
    segment_there c cell = some_segment c cell.cell cell.made a.nodes are

    -- a read of a rule is among those of the transform
    read_there : (k : ℕ) (rule : ProgRule) (read : Read) → slice_get t.rules k ≡ Some rule → Contains rule.reads read → is_made t.inputs read ≡ true → Contains (made_reads t) (read_of t.matrices k (is_wide rule.kind) read)
    unfolding reads_of
    read_there k rule read there declared made =
        let of_rule : Contains (reads_of t k rule) (read_of t.matrices k (is_wide rule.kind) read) = in_map (read_of t.matrices k (is_wide rule.kind)) (filter (is_made t.inputs) rule.reads) read (in_filter (is_made t.inputs) rule.reads read declared made) in
        in_flat (λ (r : ℕ × ProgRule). reads_of t r.0 r.1) (enumerate_from 0 t.rules) (k, rule) (read_of t.matrices k (is_wide rule.kind) read) (subst (λ n. Contains (enumerate_from 0 t.rules) (n, rule)) (omega arith) (at_numbered 0 t.rules k rule there)) of_rule

    shown_read : (r : ReadBox) (k : ℕ) (wide : Bool) (read : Read) (d : DeclValue) → slice_get t.matrices read.matrix ≡ Some d → read_value r ≡ read_of t.matrices k wide read → (x y u v : ℤ) → IsInPlaces (area_of sizes x y read d) u v → IsRead r sizes x y u v
    shown_read r k wide read d there same x y u v h =
        let area : area_at (read_value r).ends sizes x y ≡ area_of sizes x y read d = ap (λ (w : ReadValue). area_at w.ends sizes x y) same ∙ ends_area sizes x y t.matrices read d there in
        let place = subst (λ (z : Area). IsInPlaces z u v) (sym area) h in
        record { from_x = place.left; before_x = place.right; from_y = place.low; before_y = place.high }

    module _ (c : Cell) (cell : IsMadeCell t sizes c) (u : ℕ) (own : IsIn a.nodes sizes c u) where
      below_own : (k : ℕ) (rule : ProgRule) → Contains (lawful t sizes c) k → slice_get t.rules k ≡ Some rule → (shown : Cell) → ReadsCell t.matrices sizes c rule shown → IsMadeCell t sizes shown → StandsBelow t a sizes (rank_in a.order u (pos c.x) (pos c.y)) shown
      below_own k rule may there shown reads other =
          let v = segment_there shown other in
          let read = reads.read in
          let same : read.matrix ≡ shown.matrix = reads.shows.same in
          let value = read_of t.matrices k (is_wide rule.kind) read in
          let among = read_there k rule read there reads.declared (le-leb _ _ (subst (λ m. t.inputs ≤ m) (sym same) other.made)) in
          let r = map_in read_value found.choices.reads value (subst (λ l. Contains l value) (sym found.are.reads) among) in
          let of : IsReadOf found.choices u v.0 own.node v.1.node r.0 = record {
            has_reader = subst (λ l. slice_get l u ≡ Some own.node) found.nodes own.there;
            has_source = subst (λ l. slice_get l v.0 ≡ Some v.1.node) found.nodes v.1.there;
            declared = r.1;
            chosen = subst (Contains own.node.rules) (sym (ap (λ (w : ReadValue). w.rule) r.2)) (lawful_among c cell.cell a.nodes are u own k may);
            matrix = ap (λ (w : ReadValue). w.matrix) r.2 ∙ same ∙ sym v.1.matrix;
          } in
          let range = subst (λ l. InRange l sizes) (sym found.are.leasts) cell.cell.in_range in
          let place = shown_read r.0 k (is_wide rule.kind) read reads.shows.decl reads.shows.there r.2 (pos c.x) (pos c.y) (pos shown.x) (pos shown.y) reads.shows.inside in
          record {
            own = rank_in a.order v.0 (pos shown.x) (pos shown.y);
            has = record { segment = v.0; holds = v.1; is = refl };
            below = falls found.choices a.order sizes found.layering range u v.0 own.node v.1.node r.0 of (pos c.x) (pos c.y) own.inside (pos shown.x) (pos shown.y) place v.1.inside;
          }

      pub ranked_is : IsRanked t a sizes c (rank_in a.order u (pos c.x) (pos c.y))
      ranked_is = record { has = record { segment = u; holds = own; is = refl }; falls = below_own }
