-- The order of a transform's segments is found, or there is none.
use Rattle.std.proofs.Common.{◌≡◌, ◌∙◌, refl, sym, ap, subst, inl, inr, ◌⊎◌, ℕ, zero, suc, ◌+◌, ◌<◌, ◌≤◌, true, false, List, [], ◌∷◌, ◌++◌, length, map, take, drop, get_or, slice_get, Some, arith}
use Rattle.std.specs.Prelude.{if◌then◌else◌}
use Rattle.std.specs.List.{All, enumerate_from, flat_map}
use Rattle.std.specs.Option.{IfSome}
use Rattle.std.proofs.lemmas.List.{append-nil, length-append, map-append, take_all, take_more}
use Rattle.std.proofs.lemmas.List.Elements.{All-cons, All-nil}
use Rattle.std.proofs.lemmas.Option.{get_or_from_slice_get, slice_get-get_or, slice_get_within}
use Rattle.pb_linear.specs.declared.boxes.ReadBox.{ReadBox}
use Rattle.pb_syntax.specs.declared.refusal.Refusal.{Refusal}
use Rattle.pb_syntax.specs.declared.refusal.Refusal.TheVariants.{Memory}
use Rattle.pb_graph.specs.Edges.{choices}
use Rattle.pb_graph.specs.Layerings.{IsLayering, LayeringValue, Refuses}
use Rattle.pb_graph.specs.Nodes.{NodeValue}
use Rattle.pb_graph.specs.declared.refusal.GraphRefusal.{GraphRefusal}
use Rattle.pb_graph.specs.declared.refusal.GraphRefusal.TheVariants as graph
use Rattle.pb_program.specs.Trees.{ProgRule, ProgTransform}
use Rattle.pb_region.specs.Boxes.{is_wide}
use Rattle.pb_region.specs.Reads.{read_value, reads_of}
use Rattle.pb_region.specs.Rules.{AtRule}
use Rattle.pb_check.specs.Cuts.{AreCutInto, AreNodes, CutValue}
use Rattle.pb_check.specs.Orders.{AnalysisValue, AreChoices, AreFound, HasNoOrder, IsAnalysis, IsOrdered, made_reads, to_refusal, wide_rules}
use Rattle.pb_check.specs.Phases.{IsUnorderable}
use Rattle.pb_check.proofs.CutLemmas.{more_made}
use Rattle.pb_check.proofs.FirstLemmas.{some_same}

-- ---- what the rules read, rule by rule
module _ (ts : List ProgTransform) (t : ℕ) (x : ProgTransform) (r : ℕ) (y : ProgRule) (at : slice_get ts t ≡ Some x) (there : slice_get x.rules r ≡ Some y) where
  said_of : (P : ProgTransform → ProgRule → Type 0) → AtRule ts t r P → P x y
  said_of P h = subst (λ o. IfSome o (P x)) there (subst (λ o. IfSome o (λ z. IfSome (slice_get z.rules r) (P z))) at h)

  pub reads_added : (old new of_rule : List ReadBox) → new ≡ old ++ of_rule → AtRule ts t r (λ transform rule. map read_value of_rule ≡ reads_of transform r rule) → map read_value new ≡ map read_value old ++ reads_of x r y
  reads_added old new of_rule is h =
      ap (map read_value) is ∙ map-append read_value old of_rule ∙ ap (λ l. map read_value old ++ l) (said_of (λ transform rule. map read_value of_rule ≡ reads_of transform r rule) h)

pub more_reads : (t : ProgTransform) (k : ℕ) (rule : ProgRule) → slice_get t.rules k ≡ Some rule →
    flat_map (λ r. reads_of t r.0 r.1) (enumerate_from 0 (take (k + 1) t.rules)) ≡ flat_map (λ r. reads_of t r.0 r.1) (enumerate_from 0 (take k t.rules)) ++ reads_of t k rule
more_reads t k rule there = more_made (λ r. reads_of t r.0 r.1) t.rules k rule there

-- ---- the rules that aren't for single cells
abbrev pub if_wide : ℕ × ProgRule → List ℕ
if_wide r = if is_wide r.1.kind then r.0 ∷ [] else []

pub wide_more : (t : ProgTransform) (k : ℕ) (rule : ProgRule) (old new : List ℕ) → slice_get t.rules k ≡ Some rule → is_wide rule.kind ≡ true → old ≡ flat_map if_wide (enumerate_from 0 (take k t.rules)) → new ≡ old ++ k ∷ []
    → new ≡ flat_map if_wide (enumerate_from 0 (take (k + 1) t.rules))
wide_more t k rule old new there wide e is =
    let one : if_wide (k, rule) ≡ k ∷ [] = rw wide refl in
    is ∙ ap (λ l. l ++ k ∷ []) e ∙ ap (λ l. flat_map if_wide (enumerate_from 0 (take k t.rules)) ++ l) (sym one) ∙ sym (more_made if_wide t.rules k rule there)

pub wide_same : (t : ProgTransform) (k : ℕ) (rule : ProgRule) (old : List ℕ) → slice_get t.rules k ≡ Some rule → is_wide rule.kind ≡ false → old ≡ flat_map if_wide (enumerate_from 0 (take k t.rules))
    → old ≡ flat_map if_wide (enumerate_from 0 (take (k + 1) t.rules))
wide_same t k rule old there cell e =
    let none : if_wide (k, rule) ≡ [] = rw cell refl in
    e ∙ sym (append-nil (flat_map if_wide (enumerate_from 0 (take k t.rules)))) ∙ ap (λ l. flat_map if_wide (enumerate_from 0 (take k t.rules)) ++ l) (sym none) ∙ sym (more_made if_wide t.rules k rule there)

-- ---- the answer for a transform
module _ (t : ProgTransform) (nodes : List NodeValue) (reads : List ReadBox) (wide : List ℕ) (are : AreNodes t nodes) (read : map read_value reads ≡ made_reads t) (ws : wide ≡ wide_rules t) where
  are_choices : AreChoices t (choices t.ranges nodes reads wide)
  are_choices = record { leasts = refl; nodes = are; reads = read; wide = ws }

  pub analysis_is : (l : LayeringValue) → IsLayering (choices t.ranges nodes reads wide) l → IsAnalysis t (record { nodes = nodes; order = l })
  analysis_is l h = record { choices = choices t.ranges nodes reads wide; are = are_choices; nodes = refl; layering = h }

  pub no_order_is : (number : ℕ) (why : GraphRefusal) (e : Refusal) → (why ≡ graph.Memory) ⊎ Refuses (choices t.ranges nodes reads wide) why → e ≡ to_refusal number why → (e ≡ Memory) ⊎ HasNoOrder t number e
  no_order_is number (graph.NoOrder segments) e (inl is) told = absurd (cc)
  no_order_is number (graph.NoOrder segments) e (inr h) told = inr (record { choices = choices t.ranges nodes reads wide; are = are_choices; segments = segments.items; unordered = h; told = told })
  no_order_is number graph.Memory e (inl is) told = inl told
  no_order_is number graph.Memory e (inr h) told = absurd h

-- ---- transform by transform
zip_rest : (p : List ProgTransform) (k : ℕ) (c : CutValue) (rest : List CutValue) → AreCutInto (drop k p) (c ∷ rest) → (t : ProgTransform) × (slice_get p k ≡ Some t) × AreNodes t c.nodes × AreCutInto (drop (suc k) p) rest
zip_rest [] zero c rest h = absurd h
zip_rest [] (suc k) c rest h = absurd h
zip_rest (t ∷ p) zero c rest h = (t, refl, h.0, h.1)
zip_rest (t ∷ p) (suc k) c rest h = zip_rest p k c rest h

found_join : (p : List ProgTransform) (found : List AnalysisValue) (t : ProgTransform) (a : AnalysisValue) → AreFound p found → IsAnalysis t a → AreFound (p ++ t ∷ []) (found ++ a ∷ [])
found_join [] [] t a h n = (n, tt)
found_join [] (b ∷ found) t a h n = absurd h
found_join (u ∷ p) [] t a h n = absurd h
found_join (u ∷ p) (b ∷ found) t a h n = (h.0, found_join p found t a h.1 n)

pub all_ordered : (p : List ProgTransform) (found : List AnalysisValue) → AreFound p found → All IsOrdered p
all_ordered [] [] h = All-nil IsOrdered
all_ordered [] (a ∷ found) h = absurd h
all_ordered (t ∷ p) [] h = absurd h
all_ordered (t ∷ p) (a ∷ found) h = All-cons IsOrdered t p (record { analysis = a; is = h.0 }) (all_ordered p found h.1)

pub found_length : (p : List ProgTransform) (found : List AnalysisValue) → AreFound p found → length p ≡ length found
found_length [] [] h = refl
found_length [] (a ∷ found) h = absurd h
found_length (t ∷ p) [] h = absurd h
found_length (t ∷ p) (a ∷ found) h = ap suc (found_length p found h.1)

-- what is found so far, and the segments of the transforms that are left
pub record IsFoundTo (p : List ProgTransform) (found : List AnalysisValue) (rest : List CutValue) : Type 0 where
  pub done : AreFound (take (length found) p) found
  pub left : AreCutInto (drop (length found) p) rest

module _ (p : List ProgTransform) (found : List AnalysisValue) (c : CutValue) (rest : List CutValue) (to : IsFoundTo p found (c ∷ rest)) where
  pub here : (t : ProgTransform) × (slice_get p (length found) ≡ Some t) × AreNodes t c.nodes
  here = let z = zip_rest p (length found) c rest to.left in (z.0, z.1, z.2)

  pub inside : length found < length p
  inside = let z = here in slice_get_within p (length found) z.0 z.1

  pub nodes_here : (t : ProgTransform) → slice_get p (length found) ≡ Some t → AreNodes t c.nodes
  nodes_here t at = let z = here in subst (λ u. AreNodes u c.nodes) (some_same z.0 t (sym z.1 ∙ at)) z.2

  pub found_more : (t : ProgTransform) (a : AnalysisValue) (more : List AnalysisValue) → slice_get p (length found) ≡ Some t → IsAnalysis t a → more ≡ found ++ a ∷ [] → IsFoundTo p more rest
  found_more t a more at h is =
      let z = zip_rest p (length found) c rest to.left in
      let long : length more ≡ length found + 1 = ap length is ∙ length-append found (a ∷ []) in
      let one : take (length found + 1) p ≡ take (length found) p ++ t ∷ [] = take_more p (length found) t inside ∙ ap (λ u. take (length found) p ++ u ∷ []) (get_or_from_slice_get p (length found) t t at) in
      record {
        done = subst (λ n. AreFound (take n p) more) (sym long) (subst (λ q. AreFound q more) (sym one) (subst (AreFound (take (length found) p ++ t ∷ [])) (sym is) (found_join (take (length found) p) found t a to.done h)));
        left = let e : suc (length found) ≡ length more = omega (arith, long) in subst (λ n. AreCutInto (drop n p) rest) e z.3;
      }

  pub fails_here : (t : ProgTransform) (k : ℕ) (e : Refusal) → k ≡ length found → slice_get p (length found) ≡ Some t → (e ≡ Memory) ⊎ HasNoOrder t k e → (e ≡ Memory) ⊎ IsUnorderable p e
  fails_here t k e same at (inl is) = inl is
  fails_here t k e same at (inr bad) = let fails = subst (λ n. HasNoOrder t n e) same bad in inr (record { place = length found; item = t; there = at; fails = fails; earlier = all_ordered (take (length found) p) found to.done })

some_length : (p : List ProgTransform) (k : ℕ) → AreCutInto (drop k p) [] → length p ≤ k
some_length [] k h = omega arith
some_length (t ∷ p) zero h = absurd h
some_length (t ∷ p) (suc k) h = omega (arith, some_length p k h)

pub found_end : (p : List ProgTransform) (found : List AnalysisValue) → IsFoundTo p found [] → AreFound p found
found_end p found to = subst (λ q. AreFound q found) (take_all (length found) p (some_length p (length found) to.left)) to.done

pub none_left : (cuts : List CutValue) → length cuts ≡ 0 → cuts ≡ []
none_left [] e = refl
none_left (c ∷ cuts) e = absurd (omega (arith, e))

pub at_item : {A : Type 0} (xs : List A) (k : ℕ) (x : A) → k < length xs → x ≡ get_or xs k x → slice_get xs k ≡ Some x
at_item xs k x below is = slice_get-get_or xs k x below ∙ ap (λ z. Some z) (sym is)
