-- The segments of the transform that a refusal for want of an order names.
use Rattle.std.proofs.Common.{◌≡◌, ◌∙◌, ◌⊎◌, refl, inl, inr, sym, subst, ℕ, zero, suc, ◌<◌, ◌≤◌, List, [], ◌∷◌, length, map, get_or, arith, Option, Some, None, Result, Ok, Err, slice_get}
use Rattle.std.specs.Prelude.{IfErr, IfOk}
use Rattle.std.proofs.lemmas.List.{length-map}
use Rattle.std.specs.List.{All}
use Rattle.pb_syntax.specs.declared.refusal.Refusal.{Refusal}
use Rattle.pb_syntax.specs.declared.refusal.Refusal.TheVariants.{NoOrder, Memory}
use Rattle.pb_grid.specs.declared.refusal.GridRefusal.{GridRefusal}
use Rattle.pb_grid.specs.declared.refusal.GridRefusal.TheVariants as grid
use Rattle.pb_graph.specs.Nodes.{NodeValue}
use Rattle.pb_program.specs.Transforms.{TransformValue}
use Rattle.pb_program.specs.Trees.{ProgTransform, bare_transform}
use Rattle.pb_region.proofs.RuleLemmas.{held_at}
use Rattle.pb_check.specs.Cuts.{AreCut, AreNodes, FailsCut, made_matrices, to_refusal}
use Rattle.pb_check.specs.Orders.{AreNamed, AreNodesIn}
use Rattle.pb_check.specs.Phases.{FailsBounds, FailsCuts, FailsLater, IsBounded, IsRefused}
use Rattle.pb_check.proofs.FirstLemmas.{all_at}
use Rattle.pb_check.proofs.OrderedLemmas.{nodes_one, some_nodes}
use Rattle.pb_check.proofs.SegmentLemmas.{cut_apart}

not_cut : (t matrix number : ℕ) (segments : List ℕ) (why : GridRefusal) → NoOrder number segments ≡ to_refusal t matrix why → ⊥
not_cut t matrix number segments (grid.Crossing axis first second over under) e = cc
not_cut t matrix number segments grid.TooManySegments e = cc
not_cut t matrix number segments (grid.Uncovered area) e = cc
not_cut t matrix number segments grid.Memory e = cc

not_bounds : (k number : ℕ) (segments : List ℕ) (t : ProgTransform) → FailsBounds k t (NoOrder number segments) → ⊥
not_bounds k number segments t (inl side) = side
not_bounds k number segments t (inr (sides, rule)) = rule.fails

module _ (p : List ProgTransform) (number : ℕ) (segments : List ℕ) where
  by_cuts : FailsCuts p (NoOrder number segments) → All AreCut p
  by_cuts (inl bad) = let uncut = bad.fails.fails in absurd (not_cut bad.place bad.fails.item number segments uncut.why uncut.told)
  by_cuts (inr (cut, bad)) = cut

  by_later : FailsLater p (NoOrder number segments) → All IsBounded p × All AreCut p
  by_later (inl bad) = absurd (not_bounds bad.place number segments bad.item bad.fails)
  by_later (inr (bounded, later)) = (bounded, by_cuts later)

  by_phase : IsRefused p (NoOrder number segments) → All IsBounded p × All AreCut p
  by_phase (inl types) = absurd types
  by_phase (inr (right, later)) = by_later later

  pub no_order_bounded : IsRefused p (NoOrder number segments) → All IsBounded p
  no_order_bounded h = (by_phase h).0

  pub no_order_cut : IsRefused p (NoOrder number segments) → All AreCut p
  no_order_cut h = (by_phase h).1

pub there_at : (ts : List TransformValue) (p : List ProgTransform) (k : ℕ) (x : TransformValue) → map bare_transform ts ≡ p → k < length ts → x ≡ get_or ts k x → slice_get p k ≡ Some (bare_transform x)
there_at ts p k x e below is = subst (λ q. slice_get q k ≡ Some (bare_transform x)) e (held_at bare_transform ts k x below is)

past : {A : Type 0} (xs : List A) (k : ℕ) → length xs ≤ k → slice_get xs k ≡ None
past [] k over = refl
past (x ∷ xs) zero over = absurd (omega (arith, over))
past (x ∷ xs) (suc k) over = past xs k (omega (arith, over))

pub past_at : (ts : List TransformValue) (p : List ProgTransform) (k : ℕ) → map bare_transform ts ≡ p → length ts ≤ k → slice_get p k ≡ None
past_at ts p k e over = subst (λ q. slice_get q k ≡ None) e (past (map bare_transform ts) k (omega (arith, length-map ts bare_transform, over)))

module _ (p : List ProgTransform) (t : ℕ) where
  pub bounded_at : (x : ProgTransform) → All IsBounded p → slice_get p t ≡ Some x → IsBounded x
  bounded_at x all there = all_at IsBounded p t x all there

  pub cut_at : {A : Type 0} (o : Result A Refusal) (x : ProgTransform) → All AreCut p → slice_get p t ≡ Some x → IfErr o (λ e. (e ≡ Memory) ⊎ FailsCut x t e) → IfErr o (λ e. e ≡ Memory)
  cut_at (Ok a) x all there h = tt
  cut_at (Err e) x all there (inl is) = is
  cut_at (Err e) x all there (inr bad) = absurd (cut_apart t x e (all_at AreCut p t x all there) bad)

  pub found_at : {A : Type 0} (items : A → List NodeValue) (o : Result A Refusal) (x : ProgTransform) → slice_get p t ≡ Some x → IfOk o (λ ns. AreNodes x (items ns)) → IfOk o (λ ns. AreNodesIn (slice_get p t) (items ns))
  found_at items (Ok a) x there h = subst (λ o. AreNodesIn o (items a)) (sym there) h
  found_at items (Err e) x there h = tt

  pub nowhere_at : (ns : List NodeValue) → slice_get p t ≡ None → ns ≡ [] → AreNodesIn (slice_get p t) ns
  nowhere_at ns none h = subst (λ o. AreNodesIn o ns) (sym none) h

-- there are such segments, and no others
named_by : (p : List ProgTransform) (t : ℕ) (o : Option ProgTransform) → slice_get p t ≡ o → All AreCut p → (nodes : List NodeValue) × AreNodesIn o nodes
named_by p t None e cut = ([], refl)
named_by p t (Some x) e cut = some_nodes x (made_matrices x) (all_at AreCut p t x cut e).each

pub some_named : (p : List ProgTransform) (e : Refusal) → IsRefused p e → (nodes : List NodeValue) × AreNamed p e nodes
some_named p (NoOrder t segments) h = named_by p t (slice_get p t) refl (no_order_cut p t segments h)
some_named p other h = ([], refl)

one_by : (o : Option ProgTransform) (a b : List NodeValue) → AreNodesIn o a → AreNodesIn o b → a ≡ b
one_by None a b h k = h ∙ sym k
one_by (Some x) a b h k = nodes_one x (made_matrices x) a b h k

pub one_named : (p : List ProgTransform) (e : Refusal) (a b : List NodeValue) → AreNamed p e a → AreNamed p e b → a ≡ b
one_named p (NoOrder t segments) a b h k = one_by (slice_get p t) a b h k
one_named p other a b h k = h ∙ sym k
