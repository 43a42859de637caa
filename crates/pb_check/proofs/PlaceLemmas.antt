-- Places play no part in whether a program is sound.
use Rattle.std.proofs.Common.{◌≡◌, Bool, true, false, ◌+◌, ◌-◌, ℕ, zero, suc, List, [], ◌∷◌, length, map, Option, Some, None, slice_get, position, not, refl, sym, ap, subst, ◌∙◌, arith}
use Rattle.std.specs.Prelude.{◌==◌, filter, if◌then◌else◌}
use Rattle.std.specs.List.{All, enumerate_from, flat_map, range_with_len}
use Rattle.std.proofs.lemmas.List.{length-map}
use Rattle.std.proofs.lemmas.List.Elements.{All-weaker}
use Rattle.std.specs.Option.{option_map}
use Rattle.std.proofs.lemmas.Option.{slice_get-map}
use Rattle.pb_linear.specs.Sizes.{leasts_of}
use Rattle.pb_program.specs.Conditions.{by_view, conditions, in_matrix, view_conditions}
use Rattle.pb_program.specs.Forms.{DeclValue}
use Rattle.pb_program.specs.Places.{unplaced_matrix, unplaced_prog, unplaced_prog_rule, unplaced_prog_transform, unplaced_read}
use Rattle.pb_program.specs.Trees.{ProgRule, ProgTransform}
use Rattle.pb_program.specs.declared.view.Read.{Read}
use Rattle.pb_program.specs.declared.view.ReadView.TheVariants as view
use Rattle.pb_grid.specs.Grids.{Matrix}
use Rattle.pb_grid.specs.Segments.{SegmentValue}
use Rattle.pb_graph.specs.Nodes.{NodeValue}
use Rattle.pb_types.specs.Types.{broken}
use Rattle.pb_types.proofs.UnplacedPlans.{same_broken}
use Rattle.pb_region.specs.Boxes.{box, is_box, is_wide}
use Rattle.pb_region.specs.Dims.{HasNoNegative}
use Rattle.pb_region.specs.Ends.{ends_by, ends_in, ends_of}
use Rattle.pb_region.specs.Gaps.{gap}
use Rattle.pb_region.specs.Overlaps.{both_overlap, overlap, overlap_at}
use Rattle.pb_region.specs.Reads.{is_made, read_of, reads_of}
use Rattle.pb_region.specs.Rules.{IsAccepted}
use Rattle.pb_check.specs.Cuts.{AreCut, AreNodesOf, HasCut, IsCut, IsMatrix, made_matrices, rule_boxes}
use Rattle.pb_check.specs.Orders.{IsOrdered, made_reads, wide_rules}
use Rattle.pb_check.specs.Phases.{IsBounded, IsSound}

none_long : {A : Type 0} (xs : List A) → length xs ≡ 0 → xs ≡ []
none_long [] e = refl
none_long (x ∷ xs) e = cc

-- lists
all_to : {A B : Type 0} (f : A → B) (P : A → Type 0) (Q : B → Type 0) → ((x : A) → P x → Q (f x)) → (xs : List A) → All P xs → All Q (map f xs)
all_to f P Q each [] all k d below = absurd (omega arith)
all_to f P Q each (x ∷ xs) all zero d below = each x (all 0 x (omega arith))
all_to f P Q each (x ∷ xs) all (suc k) d below = all_to f P Q each xs (λ j e h. all (suc j) e (omega arith)) k d (omega arith)

all_from : {A B : Type 0} (f : A → B) (P : A → Type 0) (Q : B → Type 0) → ((x : A) → Q (f x) → P x) → (xs : List A) → All Q (map f xs) → All P xs
all_from f P Q each [] all k d below = absurd (omega arith)
all_from f P Q each (x ∷ xs) all zero d below = each x (all 0 (f x) (omega arith))
all_from f P Q each (x ∷ xs) all (suc k) d below = all_from f P Q each xs (λ j e h. all (suc j) e (omega arith)) k d (omega arith)

flat_same : {A B : Type 0} (u : A → A) (g h : A → List B) → ((x : A) → g (u x) ≡ h x) → (xs : List A) → flat_map g (map u xs) ≡ flat_map h xs
flat_same u g h e [] = refl
flat_same u g h e (x ∷ xs) = rw (e x, flat_same u g h e xs) refl

-- conditions
view_kept : (v : _) (r : Read) (d : DeclValue) → by_view v (unplaced_read r) (unplaced_matrix d) ≡ by_view v r d
view_kept view.Cell r d = refl
view_kept view.Row r d = refl
view_kept view.Column r d = refl
view_kept view.Region r d = refl
view_kept view.Whole r d = refl

in_kept : (r : Read) (d : Option DeclValue) → in_matrix (unplaced_read r) (option_map unplaced_matrix d) ≡ in_matrix r d
in_kept r None = refl
in_kept r (Some d) = view_kept r.view r d

module _ (ms : List DeclValue) where
  at_kept : (r : Read) → view_conditions (map unplaced_matrix ms) (unplaced_read r) ≡ view_conditions ms r
  at_kept r = ap (in_matrix (unplaced_read r)) (slice_get-map unplaced_matrix ms r.matrix) ∙ in_kept r (slice_get ms r.matrix)

  conditions_kept : (r : ProgRule) → conditions (map unplaced_matrix ms) (unplaced_prog_rule r) ≡ conditions ms r
  conditions_kept r = rw (
    flat_same unplaced_read (view_conditions (map unplaced_matrix ms)) (view_conditions ms) at_kept r.outs,
    flat_same unplaced_read (view_conditions (map unplaced_matrix ms)) (view_conditions ms) at_kept r.reads,
  ) refl

-- outputs
ends_kept : (v : _) (r : Read) (d : DeclValue) → ends_by v (unplaced_read r) (unplaced_matrix d) ≡ ends_by v r d
ends_kept view.Cell r d = refl
ends_kept view.Row r d = refl
ends_kept view.Column r d = refl
ends_kept view.Region r d = refl
ends_kept view.Whole r d = refl

ends_in_kept : (r : Read) (d : Option DeclValue) → ends_in (unplaced_read r) (option_map unplaced_matrix d) ≡ ends_in r d
ends_in_kept r None = refl
ends_in_kept r (Some d) = ends_kept r.view r d

module _ (leasts : List ℕ) (ms : List DeclValue) where
  ends_of_kept : (r : Read) → ends_of (map unplaced_matrix ms) (unplaced_read r) ≡ ends_of ms r
  unfolding ends_of
  ends_of_kept r = ap (ends_in (unplaced_read r)) (slice_get-map unplaced_matrix ms r.matrix) ∙ ends_in_kept r (slice_get ms r.matrix)

  overlap_kept : (a b : Read) → overlap leasts (map unplaced_matrix ms) (unplaced_read a) (unplaced_read b) ≡ overlap leasts ms a b
  overlap_kept a b = rw (ends_of_kept a, ends_of_kept b) refl

  both_kept : (a b : Option Read) → both_overlap leasts (map unplaced_matrix ms) (option_map unplaced_read a) (option_map unplaced_read b) ≡ both_overlap leasts ms a b
  both_kept None b = refl
  both_kept (Some a) None = refl
  both_kept (Some a) (Some b) = overlap_kept a b

  overlaps_kept : (outs : List Read) (i j : ℕ) → overlap_at leasts (map unplaced_matrix ms) (map unplaced_read outs) i j ≡ overlap_at leasts ms outs i j
  unfolding overlap_at
  overlaps_kept outs i j = rw (slice_get-map unplaced_read outs i, slice_get-map unplaced_read outs j, both_kept (slice_get outs i) (slice_get outs j)) refl

-- rules and transforms
module _ (t : ProgTransform) where
  rule_to : (r : ProgRule) → IsAccepted t r → IsAccepted (unplaced_prog_transform t) (unplaced_prog_rule r)
  rule_to r a = record {
    conditions = rw (conditions_kept t.matrices r) a.conditions;
    outputs = λ i j. rw (overlaps_kept (leasts_of t.ranges) t.matrices r.outs i j) (a.outputs i j);
  }

  rule_from : (r : ProgRule) → IsAccepted (unplaced_prog_transform t) (unplaced_prog_rule r) → IsAccepted t r
  rule_from r a = record {
    conditions = ap (λ cs. position (λ g. not (is_box g)) (map gap cs)) (sym (conditions_kept t.matrices r)) ∙ a.conditions;
    outputs = λ i j. rw (← overlaps_kept (leasts_of t.ranges) t.matrices r.outs i j) (a.outputs i j);
  }

  transform_to : IsBounded t → IsBounded (unplaced_prog_transform t)
  transform_to b = record {
    sides = record { each = all_to unplaced_matrix (HasNoNegative (leasts_of t.ranges)) (HasNoNegative (leasts_of t.ranges)) (λ d h. record { sides = h.sides }) t.matrices b.sides.each };
    rules = all_to unplaced_prog_rule (IsAccepted t) (IsAccepted (unplaced_prog_transform t)) rule_to t.rules b.rules;
  }

  transform_from : IsBounded (unplaced_prog_transform t) → IsBounded t
  transform_from b = record {
    sides = record { each = all_from unplaced_matrix (HasNoNegative (leasts_of t.ranges)) (HasNoNegative (leasts_of t.ranges)) (λ d h. record { sides = h.sides }) t.matrices b.sides.each };
    rules = all_from unplaced_prog_rule (IsAccepted t) (IsAccepted (unplaced_prog_transform t)) rule_from t.rules b.rules;
  }

-- segments
kept_step : (m : ℕ) (u : Read → Read) (o : Read) (l : List Read) (b : Bool) → map u (if b then o ∷ l else l) ≡ (if b then u o ∷ map u l else map u l)
kept_step m u o l true = refl
kept_step m u o l false = refl

outs_kept : (m : ℕ) (outs : List Read) → filter (λ (o : Read). o.matrix == m) (map unplaced_read outs) ≡ map unplaced_read (filter (λ (o : Read). o.matrix == m) outs)
outs_kept m [] = refl
outs_kept m (o ∷ outs) = rw (outs_kept m outs) (sym (kept_step m unplaced_read o (filter (λ (p : Read). p.matrix == m) outs) (o.matrix == m)))

-- what is made of each rule and its number
numbered_same : {B : Type 0} (f g : ℕ × ProgRule → List B) → ((n : ℕ) (r : ProgRule) → f (n, unplaced_prog_rule r) ≡ g (n, r)) → (n : ℕ) (rules : List ProgRule) → flat_map f (enumerate_from n (map unplaced_prog_rule rules)) ≡ flat_map g (enumerate_from n rules)
numbered_same f g each n [] = refl
numbered_same f g each n (r ∷ rules) = rw (each n r, numbered_same f g each (n + 1) rules) refl

map_same : {A B : Type 0} (u : A → A) (f g : A → B) → ((x : A) → f (u x) ≡ g x) → (xs : List A) → map f (map u xs) ≡ map g xs
map_same u f g e [] = refl
map_same u f g e (x ∷ xs) = rw (e x, map_same u f g e xs) refl

module _ (t : ProgTransform) where
  box_kept : (number : ℕ) (r : ProgRule) (o : Read) → box (leasts_of t.ranges) (map unplaced_matrix t.matrices) number (unplaced_prog_rule r) (unplaced_read o) ≡ box (leasts_of t.ranges) t.matrices number r o
  box_kept number r o = rw (conditions_kept t.matrices r, ends_of_kept (leasts_of t.ranges) t.matrices o) refl

  rule_boxes_kept : (m number : ℕ) (r : ProgRule) → rule_boxes (unplaced_prog_transform t) m (number, unplaced_prog_rule r) ≡ rule_boxes t m (number, r)
  rule_boxes_kept m number r =
      ap (map (box (leasts_of t.ranges) (map unplaced_matrix t.matrices) number (unplaced_prog_rule r))) (outs_kept m r.outs)
      ∙ map_same unplaced_read (box (leasts_of t.ranges) (map unplaced_matrix t.matrices) number (unplaced_prog_rule r)) (box (leasts_of t.ranges) t.matrices number r) (box_kept number r) (filter (λ (o : Read). o.matrix == m) r.outs)

  numbered_kept : (m n : ℕ) (rules : List ProgRule) → flat_map (rule_boxes (unplaced_prog_transform t) m) (enumerate_from n (map unplaced_prog_rule rules)) ≡ flat_map (rule_boxes t m) (enumerate_from n rules)
  numbered_kept m = numbered_same (rule_boxes (unplaced_prog_transform t) m) (rule_boxes t m) (rule_boxes_kept m)

  matrix_to : (number : ℕ) (m : Matrix) → IsMatrix t number m → IsMatrix (unplaced_prog_transform t) number m
  matrix_to number m h = record {
    decl = unplaced_matrix h.decl;
    there = slice_get-map unplaced_matrix t.matrices number ∙ ap (option_map unplaced_matrix) h.there;
    leasts = h.leasts;
    boxes = h.boxes ∙ sym (numbered_kept number 0 t.rules);
    width = h.width;
    height = h.height;
  }

  decl_from : (o : Option DeclValue) (d : DeclValue) → option_map unplaced_matrix o ≡ Some d → (e : DeclValue) × (o ≡ Some e) × (e.w ≡ d.w) × (e.h ≡ d.h)
  decl_from None d h = let none : None ≡ Some d = h in absurd (cc)
  decl_from (Some e) d h =
      let some : Some (unplaced_matrix e) ≡ Some d = h in
      let same : unplaced_matrix e ≡ d = cc in
      (e, refl, ap (λ (x : DeclValue). x.w) same, ap (λ (x : DeclValue). x.h) same)

  matrix_from : (number : ℕ) (m : Matrix) → IsMatrix (unplaced_prog_transform t) number m → IsMatrix t number m
  matrix_from number m h =
      let d = decl_from (slice_get t.matrices number) h.decl (sym (slice_get-map unplaced_matrix t.matrices number) ∙ h.there) in
      record { decl = d.0; there = d.1; leasts = h.leasts; boxes = h.boxes ∙ numbered_kept number 0 t.rules; width = h.width ∙ sym d.2; height = h.height ∙ sym d.3 }

  cut_to : AreCut t → AreCut (unplaced_prog_transform t)
  cut_to c = record {
    each = subst (λ n. All (HasCut (unplaced_prog_transform t)) (range_with_len t.inputs (n - t.inputs))) (sym (length-map t.matrices unplaced_matrix))
        (All-weaker (HasCut t) (HasCut (unplaced_prog_transform t)) (λ k h. record { segments = h.segments; cut = record { matrix = h.cut.matrix; is = matrix_to k h.cut.matrix h.cut.is; grid = h.cut.grid } }) (made_matrices t) c.each);
  }

  cut_from : AreCut (unplaced_prog_transform t) → AreCut t
  cut_from c = record {
    each = All-weaker (HasCut (unplaced_prog_transform t)) (HasCut t) (λ k h. record { segments = h.segments; cut = record { matrix = h.cut.matrix; is = matrix_from k h.cut.matrix h.cut.is; grid = h.cut.grid } }) (made_matrices t)
        (subst (λ n. All (HasCut (unplaced_prog_transform t)) (range_with_len t.inputs (n - t.inputs))) (length-map t.matrices unplaced_matrix) c.each);
  }

-- the order of segments
made_kept : (inputs : ℕ) (rs : List Read) → filter (is_made inputs) (map unplaced_read rs) ≡ map unplaced_read (filter (is_made inputs) rs)
made_kept inputs [] = refl
made_kept inputs (r ∷ rs) = rw (made_kept inputs rs) (sym (kept_step 0 unplaced_read r (filter (is_made inputs) rs) (is_made inputs r)))

module _ (t : ProgTransform) where
  read_kept : (number : ℕ) (wide : Bool) (r : Read) → read_of (map unplaced_matrix t.matrices) number wide (unplaced_read r) ≡ read_of t.matrices number wide r
  read_kept number wide r = rw (ends_of_kept (leasts_of t.ranges) t.matrices r) refl

  reads_kept : (number : ℕ) (r : ProgRule) → reads_of (unplaced_prog_transform t) number (unplaced_prog_rule r) ≡ reads_of t number r
  unfolding reads_of
  reads_kept number r =
      ap (map (read_of (map unplaced_matrix t.matrices) number (is_wide r.kind))) (made_kept t.inputs r.reads)
      ∙ map_same unplaced_read (read_of (map unplaced_matrix t.matrices) number (is_wide r.kind)) (read_of t.matrices number (is_wide r.kind)) (read_kept number (is_wide r.kind)) (filter (is_made t.inputs) r.reads)

  made_reads_kept : made_reads (unplaced_prog_transform t) ≡ made_reads t
  made_reads_kept = numbered_same (λ r. reads_of (unplaced_prog_transform t) r.0 r.1) (λ r. reads_of t r.0 r.1) reads_kept 0 t.rules

  wide_kept : wide_rules (unplaced_prog_transform t) ≡ wide_rules t
  wide_kept = numbered_same (λ r. if is_wide r.1.kind then r.0 ∷ [] else []) (λ r. if is_wide r.1.kind then r.0 ∷ [] else []) (λ n r. refl) 0 t.rules

  cut_is_to : (number : ℕ) (ss : List SegmentValue) → IsCut t number ss → IsCut (unplaced_prog_transform t) number ss
  cut_is_to number ss h = record { matrix = h.matrix; is = matrix_to t number h.matrix h.is; grid = h.grid }

  cut_is_from : (number : ℕ) (ss : List SegmentValue) → IsCut (unplaced_prog_transform t) number ss → IsCut t number ss
  cut_is_from number ss h = record { matrix = h.matrix; is = matrix_from t number h.matrix h.is; grid = h.grid }

  nodes_to : (ms : List ℕ) (ns : List NodeValue) → AreNodesOf t ms ns → AreNodesOf (unplaced_prog_transform t) ms ns
  nodes_to [] ns h = h
  nodes_to (m ∷ ms) ns (ss, rest, cut, more, is) = (ss, rest, cut_is_to m ss cut, nodes_to ms rest more, is)

  nodes_from : (ms : List ℕ) (ns : List NodeValue) → AreNodesOf (unplaced_prog_transform t) ms ns → AreNodesOf t ms ns
  nodes_from [] ns h = h
  nodes_from (m ∷ ms) ns (ss, rest, cut, more, is) = (ss, rest, cut_is_from m ss cut, nodes_from ms rest more, is)

  matrices_kept : made_matrices (unplaced_prog_transform t) ≡ made_matrices t
  matrices_kept = ap (λ n. range_with_len t.inputs (n - t.inputs)) (length-map t.matrices unplaced_matrix)

  order_to : IsOrdered t → IsOrdered (unplaced_prog_transform t)
  order_to h =
      let k = h.is.are in
      let nodes = subst (λ ms. AreNodesOf (unplaced_prog_transform t) ms h.is.choices.nodes) (sym matrices_kept) (nodes_to (made_matrices t) h.is.choices.nodes k.nodes) in
      record { analysis = h.analysis; is = record { choices = h.is.choices; are = record { leasts = k.leasts; nodes = nodes; reads = k.reads ∙ sym made_reads_kept; wide = k.wide ∙ sym wide_kept }; nodes = h.is.nodes; layering = h.is.layering } }

  order_from : IsOrdered (unplaced_prog_transform t) → IsOrdered t
  order_from h =
      let k = h.is.are in
      let nodes = nodes_from (made_matrices t) h.is.choices.nodes (subst (λ ms. AreNodesOf (unplaced_prog_transform t) ms h.is.choices.nodes) matrices_kept k.nodes) in
      record { analysis = h.analysis; is = record { choices = h.is.choices; are = record { leasts = k.leasts; nodes = nodes; reads = k.reads ∙ made_reads_kept; wide = k.wide ∙ wide_kept }; nodes = h.is.nodes; layering = h.is.layering } }

pub sound_again : (q p : List ProgTransform) → unplaced_prog q ≡ unplaced_prog p → IsSound p → IsSound q
sound_again q p e sound = record {
  typed = none_long (broken q) (same_broken q p e ∙ ap length sound.typed);
  bounded = all_from unplaced_prog_transform IsBounded IsBounded transform_from q (subst (All IsBounded) (sym e) (all_to unplaced_prog_transform IsBounded IsBounded transform_to p sound.bounded));
  cut = all_from unplaced_prog_transform AreCut AreCut cut_from q (subst (All AreCut) (sym e) (all_to unplaced_prog_transform AreCut AreCut cut_to p sound.cut));
  ordered = all_from unplaced_prog_transform IsOrdered IsOrdered order_from q (subst (All IsOrdered) (sym e) (all_to unplaced_prog_transform IsOrdered IsOrdered order_to p sound.ordered));
}
