-- The sites of a program that is accepted are sites of its configurations.
use Rattle.std.proofs.Common.{◌≡◌, refl, sym, subst, ℕ, zero, suc, ◌+◌, ◌-◌, ◌<◌, ◌≤◌, Bool, true, false, cond, ◌||◌, not, List, [], ◌∷◌, ◌++◌, length, map, Option, Some, None, slice_get, inl, inr, arith}
use Rattle.std.specs.Prelude.{nat_eq, ◌==◌, filter}
use Rattle.std.specs.List.{AllByRecursion, AllZip, enumerate_from, flat_map, list_all, list_any, range_with_len}
use Rattle.std.specs.Option.{option_map_or}
use Rattle.std.proofs.lemmas.Bool.{cases_lt, eq-eqb, le-leb, lt-ltb, ltb-true}
use Rattle.std.proofs.lemmas.Option.{slice_get_within}
use Rattle.pb_linear.specs.RuleBox.{Bounds}
use Rattle.pb_linear.specs.Sizes.{leasts_of}
use Rattle.pb_linear.specs.declared.vform.SymBox.{SymBox}
use Rattle.pb_grid.specs.Grids.{Matrix, areas_of}
use Rattle.pb_grid.specs.Lists.{firsts}
use Rattle.pb_grid.specs.Segments.{best, holder_of, holders, holds, is_best, segment_of}
use Rattle.pb_graph.specs.Nodes.{NodeValue}
use Rattle.pb_syntax.specs.declared.limits.TheConstants.{MOST_RULES}
use Rattle.pb_program.specs.declared.view.Read.{Read}
use Rattle.pb_program.specs.Configs.{IsSite, is_made, is_rising, rule_writes, same_site, writes}
use Rattle.pb_program.specs.Trees.{ProgRule, ProgTransform}
use Rattle.pb_program.specs.WellFormed.{IsTransform, IsWellFormed}
use Rattle.pb_region.specs.Boxes.{BoxValue, box, box_of}
use Rattle.pb_check.specs.Cuts.{AreNodes, AreNodesOf, IsMatrix, boxes_on, made_matrices, node, rule_boxes}
use Rattle.pb_check.specs.Orders.{AnalysisValue, AreFound, IsAnalysis, of_each}
use Rattle.pb_check.specs.Sites.{all_sites, has_choice, is_least, least_of, site_of, sites_of}
use Rattle.pb_tuner.proofs.ValidLemmas.{all_append, all_weaker}

-- ---- what holds of each of a list
module _ {A : Type 0} (P : A → Type 0) where
  all_filter : (test : A → Bool) (xs : List A) → AllByRecursion P xs → AllByRecursion (λ x. P x × (test x ≡ true)) (filter test xs)
  all_filter test [] all = tt
  all_filter test (x ∷ xs) all = by (test x) refl (all_filter test xs all.1)
    where
      by : (b : Bool) → test x ≡ b → AllByRecursion (λ x. P x × (test x ≡ true)) (filter test xs) → AllByRecursion (λ x. P x × (test x ≡ true)) (cond b (x ∷ filter test xs) (filter test xs))
      by true is rest = ((all.0, is), rest)
      by false is rest = rest

  all_kept : (test : A → Bool) (xs : List A) → AllByRecursion P xs → AllByRecursion P (filter test xs)
  all_kept test xs all = all_weaker (λ x. P x × (test x ≡ true)) P (λ x both. both.0) (filter test xs) (all_filter test xs all)

  all_firsts : (same : A → A → Bool) (xs : List A) → AllByRecursion P xs → AllByRecursion P (firsts same xs)
  all_firsts same [] all = tt
  all_firsts same (x ∷ xs) all = (all.0, all_kept (λ y. not (same x y)) (firsts same xs) (all_firsts same xs all.1))

  module _ {B : Type 0} (f : B → A) where
    all_map : (xs : List B) → AllByRecursion (λ x. P (f x)) xs → AllByRecursion P (map f xs)
    all_map [] all = tt
    all_map (x ∷ xs) all = (all.0, all_map xs all.1)

    all_before : (xs : List B) → AllByRecursion P (map f xs) → AllByRecursion (λ x. P (f x)) xs
    all_before [] all = tt
    all_before (x ∷ xs) all = (all.0, all_before xs all.1)

-- each with all that stand after it
abbrev Ordered : {A : Type 0} → (A → A → Type 0) → List A → Type 0
Ordered R [] = Unit {0}
Ordered R (x ∷ xs) = AllByRecursion (R x) xs × Ordered R xs

module _ {A : Type 0} (R : A → A → Type 0) where
  ordered_kept : (test : A → Bool) (xs : List A) → Ordered R xs → Ordered R (filter test xs)
  ordered_kept test [] ordered = tt
  ordered_kept test (x ∷ xs) ordered = by (test x) (ordered_kept test xs ordered.1)
    where
      by : (b : Bool) → Ordered R (filter test xs) → Ordered R (cond b (x ∷ filter test xs) (filter test xs))
      by true rest = (all_kept (R x) test xs ordered.0, rest)
      by false rest = rest

  module _ {B : Type 0} (f : B → A) where
    ordered_map : (xs : List B) → Ordered (λ x y. R (f x) (f y)) xs → Ordered R (map f xs)
    ordered_map [] ordered = tt
    ordered_map (x ∷ xs) ordered = (all_map (R (f x)) f xs ordered.0, ordered_map xs ordered.1)

    ordered_before : (xs : List B) → Ordered R (map f xs) → Ordered (λ x y. R (f x) (f y)) xs
    ordered_before [] ordered = tt
    ordered_before (x ∷ xs) ordered = (all_before (R (f x)) f xs ordered.0, ordered_before xs ordered.1)

-- ---- numbers that rise
abbrev Rises : List ℕ → Type 0
Rises = Ordered (λ a b. a < b)

others_above : (x : ℕ) (ys : List ℕ) → AllByRecursion (λ y. x ≤ y) ys → AllByRecursion (λ y. x < y) (filter (λ y. not (nat_eq x y)) ys)
others_above x ys all =
    all_weaker (λ y. (x ≤ y) × (not (nat_eq x y) ≡ true)) (λ y. x < y) (λ y both. above y both.0 both.1) (filter (λ y. not (nat_eq x y)) ys) (all_filter (λ y. x ≤ y) (λ y. not (nat_eq x y)) ys all)
  where
    same : (y : ℕ) → x ≤ y → not (nat_eq x y) ≡ true → y ≤ x → ⊥
    same y least other most =
        let is : nat_eq x y ≡ true = eq-eqb x y (omega (arith, least, most)) in
        let never : not true ≡ true = subst (λ b. not b ≡ true) is other in
        cc

    above : (y : ℕ) → x ≤ y → not (nat_eq x y) ≡ true → x < y
    above y least other = elim (cases_lt x y) [ inl less ↦ less | inr most ↦ absurd (same y least other most) ]

rises_once : (xs : List ℕ) → Ordered (λ a b. a ≤ b) xs → Rises (firsts nat_eq xs)
rises_once [] ordered = tt
rises_once (x ∷ xs) ordered =
    (others_above x (firsts nat_eq xs) (all_firsts (λ y. x ≤ y) nat_eq xs ordered.0), ordered_kept (λ a b. a < b) (λ y. not (nat_eq x y)) (firsts nat_eq xs) (rises_once xs ordered.1))

rises_is : (xs : List ℕ) → Rises xs → is_rising xs ≡ true
rises_is [] rises = refl
rises_is (x ∷ []) rises = refl
rises_is (x ∷ y ∷ xs) rises = rw (lt-ltb x y rises.0.0, rises_is (y ∷ xs) rises.1) refl

few_between : (low top : ℕ) (xs : List ℕ) → low ≤ top → AllByRecursion (λ x. low ≤ x) xs → Rises xs → AllByRecursion (λ x. x < top) xs → low + length xs ≤ top
few_between low top [] order above rises below = omega (arith, order)
few_between low top (x ∷ xs) order above rises below =
    let rest = few_between (x + 1) top xs (omega (arith, below.0)) (all_weaker (λ y. x < y) (λ y. x + 1 ≤ y) (λ y less. omega (arith, less)) xs rises.0) rises.1 below.1 in
    omega (arith, above.0, rest)

all_zero : (xs : List ℕ) → AllByRecursion (λ x. 0 ≤ x) xs
all_zero [] = tt
all_zero (x ∷ xs) = (omega arith, all_zero xs)

-- ---- numbers of what is made of the elements of a list and passes a test
module _ {A B : Type 0} where
  kept_rules : (P : ℕ → Type 0) (key : B → ℕ) (test : B → Bool) (f : A → B) (xs : List A) → AllByRecursion (λ x. P (key (f x))) xs → AllByRecursion P (map key (filter test (map f xs)))
  kept_rules P key test f xs all = all_map P key (filter test (map f xs)) (all_kept (λ y. P (key y)) test (map f xs) (all_map (λ y. P (key y)) f xs all))

  kept_order : (key : B → ℕ) (test : B → Bool) (f : A → B) (xs : List A) → Ordered (λ x y. key (f x) ≤ key (f y)) xs → Ordered (λ a b. a ≤ b) (map key (filter test (map f xs)))
  kept_order key test f xs ordered =
      ordered_map (λ a b. a ≤ b) key (filter test (map f xs)) (ordered_kept (λ x y. key x ≤ key y) test (map f xs) (ordered_map (λ x y. key x ≤ key y) f xs ordered))

-- ---- the boxes of a transform on a matrix: by rules that rise and write it
any_kept : {A : Type 0} (test : A → Bool) (xs : List A) → AllByRecursion (λ x. list_any test xs ≡ true) (filter test xs)
any_kept test [] = tt
any_kept test (x ∷ xs) = by (test x) (any_kept test xs)
  where
    by : (b : Bool) → AllByRecursion (λ y. list_any test xs ≡ true) (filter test xs) → AllByRecursion (λ y. (b || list_any test xs) ≡ true) (cond b (x ∷ filter test xs) (filter test xs))
    by true rest = (refl, all_weaker (λ y. list_any test xs ≡ true) (λ y. true ≡ true) (λ y any. refl) (filter test xs) rest)
    by false rest = rest

abbrev BoxOrder : BoxValue → BoxValue → Type 0
BoxOrder v w = v.rule ≤ w.rule

ordered_alike : (k : ℕ) (vs : List BoxValue) → AllByRecursion (λ v. v.rule ≡ k) vs → Ordered BoxOrder vs
ordered_alike k [] all = tt
ordered_alike k (v ∷ vs) all = (all_weaker (λ w. w.rule ≡ k) (BoxOrder v) (λ w is. omega (arith, all.0, is)) vs all.1, ordered_alike k vs all.1)

ordered_append : (k : ℕ) (vs ws : List BoxValue) → AllByRecursion (λ v. v.rule ≡ k) vs → AllByRecursion (λ w. k ≤ w.rule) ws → Ordered BoxOrder ws → Ordered BoxOrder (vs ++ ws)
ordered_append k [] ws low high ordered = ordered
ordered_append k (v ∷ vs) ws low high ordered = (
  all_append (BoxOrder v) vs ws (ordered_alike k (v ∷ vs) low).0 (all_weaker (λ w. k ≤ w.rule) (BoxOrder v) (λ w at. omega (arith, low.0, at)) ws high),
  ordered_append k vs ws low.1 high ordered,
)

module _ (t : ProgTransform) (number : ℕ) where
  abbrev Writes : ℕ → Type 0
  Writes rule = rule_writes t number rule ≡ true

  rule_there : (rule : ℕ) → Writes rule → rule < length t.rules
  rule_there rule written = by (slice_get t.rules rule) refl written
    where
      by : (r : Option ProgRule) → slice_get t.rules rule ≡ r → option_map_or (writes number) r false ≡ true → rule < length t.rules
      by None is written = absurd (let never : false ≡ true = written in cc)
      by (Some r) is written = slice_get_within t.rules rule r is

  abbrev IsBox : ℕ → BoxValue → Type 0
  IsBox least v = (least ≤ v.rule) × Writes v.rule

  of_rule : (k : ℕ) (r : ProgRule) → slice_get t.rules k ≡ Some r → AllByRecursion (λ v. (v.rule ≡ k) × Writes v.rule) (rule_boxes t number (k, r))
  of_rule k r there =
      let outs = filter (λ (o : Read). o.matrix == number) r.outs in
      let written : list_any (λ (o : Read). o.matrix == number) r.outs ≡ true → Writes k = subst (λ s. option_map_or (writes number) s false ≡ true) (sym there) in
      all_map (λ v. (v.rule ≡ k) × Writes v.rule) (box (leasts_of t.ranges) t.matrices k r) outs
      (all_weaker (λ o. list_any (λ (o : Read). o.matrix == number) r.outs ≡ true) (λ o. (k ≡ k) × Writes k) (λ o any. (refl, written any)) outs (any_kept (λ (o : Read). o.matrix == number) r.outs))

  of_rules : (n : ℕ) (rs : List ProgRule) → ((i : ℕ) (r : ProgRule) → slice_get rs i ≡ Some r → slice_get t.rules (n + i) ≡ Some r)
      → AllByRecursion (IsBox n) (flat_map (rule_boxes t number) (enumerate_from n rs)) × Ordered BoxOrder (flat_map (rule_boxes t number) (enumerate_from n rs))
  of_rules n [] at = (tt, tt)
  of_rules n (r ∷ rs) at =
      let here = of_rule n r (subst (λ k. slice_get t.rules k ≡ Some r) (omega arith) (at 0 r refl)) in
      let rest = of_rules (n + 1) rs (λ i q there. subst (λ k. slice_get t.rules k ≡ Some q) (omega arith) (at (suc i) q there)) in
      let first = rule_boxes t number (n, r) in
      let others = flat_map (rule_boxes t number) (enumerate_from (n + 1) rs) in (
        all_append (IsBox n) first others (all_weaker (λ v. (v.rule ≡ n) × Writes v.rule) (IsBox n) (λ v is. (omega (arith, is.0), is.1)) first here)
            (all_weaker (IsBox (n + 1)) (IsBox n) (λ v is. (omega (arith, is.0), is.1)) others rest.0),
        ordered_append n first others (all_weaker (λ v. (v.rule ≡ n) × Writes v.rule) (λ v. v.rule ≡ n) (λ v is. is.0) first here)
            (all_weaker (IsBox (n + 1)) (λ v. n ≤ v.rule) (λ v is. omega (arith, is.0)) others rest.0) rest.1,
      )

  -- the rules of a segment
  module _ (leasts : List ℕ) (boxes : List Bounds) (are : map box_of boxes ≡ boxes_on t number) (area : SymBox) where
    on_matrix : AllByRecursion (IsBox 0) (boxes_on t number) × Ordered BoxOrder (boxes_on t number)
    on_matrix = of_rules 0 t.rules (λ i r there. subst (λ k. slice_get t.rules k ≡ Some r) (omega arith) there)

    abbrev held : List Bounds
    held = filter (holds leasts area) boxes

    held_write : AllByRecursion (λ b. Writes b.rule) held
    held_write =
        let all = all_before (IsBox 0) box_of boxes (subst (AllByRecursion (IsBox 0)) (sym are) on_matrix.0) in
        all_kept (λ (b : Bounds). Writes b.rule) (holds leasts area) boxes (all_weaker (λ b. IsBox 0 (box_of b)) (λ (b : Bounds). Writes b.rule) (λ b is. is.1) boxes all)

    held_rise : Ordered (λ (a b : Bounds). a.rule ≤ b.rule) held
    held_rise = ordered_kept (λ (a b : Bounds). a.rule ≤ b.rule) (holds leasts area) boxes (ordered_before BoxOrder box_of boxes (subst (Ordered BoxOrder) (sym are) on_matrix.1))

    rules_written : AllByRecursion Writes (best (holders leasts boxes area))
    unfolding best
    rules_written = all_firsts Writes nat_eq _ (kept_rules Writes _ (is_best (holders leasts boxes area)) holder_of held held_write)

    rules_rise : Rises (best (holders leasts boxes area))
    unfolding best
    rules_rise = rises_once _ (kept_order _ (is_best (holders leasts boxes area)) holder_of held held_rise)

-- ---- the segments of a transform
module _ (t : ProgTransform) where
  -- of a matrix that rules make, with rules that rise and write it
  record IsMadeBy (n : NodeValue) : Type 0 where
    made : is_made t n.matrix ≡ true
    rises : Rises n.rules
    written : AllByRecursion (Writes t n.matrix) n.rules

  segments_made : (number : ℕ) → is_made t number ≡ true → (m : Matrix) → IsMatrix t number m → (areas : List SymBox) → AllByRecursion IsMadeBy (map (node number) (map (segment_of m.leasts m.boxes) areas))
  segments_made number made m is [] = tt
  segments_made number made m is (area ∷ areas) = (
    record { made = made; rises = rules_rise t number m.leasts m.boxes is.boxes area; written = rules_written t number m.leasts m.boxes is.boxes area },
    segments_made number made m is areas,
  )

  nodes_made : (matrices : List ℕ) → AllByRecursion (λ m. is_made t m ≡ true) matrices → (ns : List NodeValue) → AreNodesOf t matrices ns → AllByRecursion IsMadeBy ns
  nodes_made [] made ns are = subst (AllByRecursion IsMadeBy) (sym are) tt
  nodes_made (m ∷ matrices) made ns (ss, rest, cut, more, is) =
      let first = subst (λ l. AllByRecursion IsMadeBy (map (node m) l)) (sym cut.grid.segments) (segments_made m made.0 cut.matrix cut.is (areas_of cut.matrix)) in
      subst (AllByRecursion IsMadeBy) (sym is) (all_append IsMadeBy (map (node m) ss) rest first (nodes_made matrices made.1 rest more))

  matrices_made : (first count : ℕ) → t.inputs ≤ first → first + count ≤ length t.matrices → AllByRecursion (λ m. is_made t m ≡ true) (range_with_len first count)
  matrices_made first zero low high = tt
  matrices_made first (suc count) low high =
      let few : first < length t.matrices = omega (arith, high) in
      (rw (le-leb t.inputs first low, lt-ltb first (length t.matrices) few) refl, matrices_made (first + 1) count (omega (arith, low)) (omega (arith, high)))

  all_made : t.inputs ≤ length t.matrices → (ns : List NodeValue) → AreNodes t ns → AllByRecursion IsMadeBy ns
  all_made some ns = nodes_made (made_matrices t) (matrices_made t.inputs (length t.matrices - t.inputs) (omega arith) (omega (arith, some))) ns

  -- ---- the sites of a transform
  module _ (p : List ProgTransform) (number : ℕ) (there : slice_get p number ≡ Some t) (few : length t.rules ≤ MOST_RULES) where
    tests_all : (matrix : ℕ) (set : List ℕ) → AllByRecursion (Writes t matrix) set → list_all (rule_writes t matrix) set ≡ true
    tests_all matrix [] written = refl
    tests_all matrix (r ∷ set) written = rw (written.0, tests_all matrix set written.1) refl

    is_site : (n : NodeValue) → IsMadeBy n → has_choice t n ≡ true → IsSite p (site_of number t n)
    unfolding least_of
    is_site n made choice =
        let set = least_of t n.rules in
        let rises = ordered_kept (λ a b. a < b) (is_least t n.rules) n.rules made.rises in
        let written = all_kept (Writes t n.matrix) (is_least t n.rules) n.rules made.written in
        let below = all_weaker (Writes t n.matrix) (λ r. r < length t.rules) (rule_there t n.matrix) set written in
        let least : 1 ≤ length set = omega (arith, ltb-true 1 (length set) choice) in
        let most : length set ≤ MOST_RULES = omega (arith, few, few_between 0 (length t.rules) set (omega arith) (all_zero set) rises below) in
        record { transform = t; there = there; made = made.made; count = (least, most); rising = rises_is set rises; written = tests_all n.matrix set written }

    are_sites : (ns : List NodeValue) → AllByRecursion IsMadeBy ns → AllByRecursion (IsSite p) (sites_of number t ns)
    are_sites ns made =
        all_firsts (IsSite p) same_site (map (site_of number t) (filter (has_choice t) ns))
        (all_map (IsSite p) (site_of number t) (filter (has_choice t) ns)
        (all_weaker (λ n. IsMadeBy n × (has_choice t n ≡ true)) (λ n. IsSite p (site_of number t n)) (λ n both. is_site n both.0 both.1) (filter (has_choice t) ns) (all_filter IsMadeBy (has_choice t) ns made)))

-- ---- the sites of a program
module _ (p : List ProgTransform) where
  of_transforms : (number : ℕ) (ts : List ProgTransform) (found : List AnalysisValue) → ((i : ℕ) (t : ProgTransform) → slice_get ts i ≡ Some t → slice_get p (number + i) ≡ Some t)
      → AllByRecursion (IsTransform (length p)) ts → AllZip IsAnalysis ts found → AllByRecursion (IsSite p) (of_each (λ number t a. sites_of number t a.nodes) number ts found)
  of_transforms number [] found at fit are = tt
  of_transforms number (t ∷ ts) [] at fit are = tt
  of_transforms number (t ∷ ts) (a ∷ found) at fit are =
      let there : slice_get p number ≡ Some t = subst (λ k. slice_get p k ≡ Some t) (omega arith) (at 0 t refl) in
      let made = all_made t (omega (arith, fit.0.parts)) are.0.choices.nodes are.0.are.nodes in
      let first = subst (λ ns. AllByRecursion (IsSite p) (sites_of number t ns)) (sym are.0.nodes) (are_sites t p number there fit.0.few_rules are.0.choices.nodes made) in
      all_append (IsSite p) (sites_of number t a.nodes) (of_each (λ number t a. sites_of number t a.nodes) (number + 1) ts found) first
      (of_transforms (number + 1) ts found (λ i u at_u. subst (λ k. slice_get p k ≡ Some u) (omega arith) (at (suc i) u at_u)) fit.1 are.1)

pub sites_are : (p : List ProgTransform) (found : List AnalysisValue) → IsWellFormed p → AreFound p found → AllByRecursion (IsSite p) (all_sites p found)
sites_are p found well are = of_transforms p 0 p found (λ i t there. subst (λ k. slice_get p k ≡ Some t) (omega arith) there) well.transforms are
