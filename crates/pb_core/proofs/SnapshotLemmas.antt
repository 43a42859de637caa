-- A sound state shows a sound snapshot.
use Rattle.std.proofs.Common.{◌≡◌, ◌∙◌, refl, ap, subst, inl, inr, ⊎_elim, ℕ, ◌+◌, ◌&&◌, eqb, Bool, true, false, not, List, [], ◌∷◌, Option, Some, None, IsSome, arith}
use Rattle.std.specs.Prelude.{is_none, is_some}
use Rattle.std.specs.List.{Contains, list_any}
use Rattle.std.proofs.lemmas.Bool.{and_parts, eq-eqb, eqb-true, or_cases, or_left, or_right}
use Rattle.pb_base.proofs.ListLemmas.{in_cases, in_head, in_none, in_tail}
use Rattle.pb_taskgraph.specs.Graphs.{after_of, before_of}
use Rattle.pb_taskgraph.specs.Plans.{IsPlan, Plan}
use Rattle.pb_core.specs.States.{State, counted}
use Rattle.pb_core.specs.Snapshots.{IsSoundSnapshot, owes, snapshot_of}
use Rattle.pb_core.specs.Sound.{IsSound}
use Rattle.pb_core.proofs.CountLemmas.{one_if}
use Rattle.pb_core.proofs.KeepLemmas.{released-all, started-count}
use Rattle.pb_core.proofs.OrderLemmas.{is-task}
use Rattle.pb_core.proofs.WithLemmas.{some-of}

pub any-in : (xs : List ℕ) (c : ℕ) → list_any (λ x. eqb x c) xs ≡ true → Contains xs c
any-in [] c e = absurd (cc)
any-in (x ∷ xs) c e = ⊎_elim
    (λ (here : eqb x c ≡ true). subst (Contains (x ∷ xs)) (eqb-true x c here) (in_head x xs))
    (λ (later : list_any (λ y. eqb y c) xs ≡ true). in_tail x c xs (any-in xs c later))
    (or_cases (eqb x c) (list_any (λ y. eqb y c) xs) e)

pub in-any : (xs : List ℕ) (c : ℕ) → Contains xs c → list_any (λ x. eqb x c) xs ≡ true
in-any [] c h = absurd (in_none c h)
in-any (x ∷ xs) c h = elim (in_cases x c xs h) [
  | inl same ↦ or_left (eqb x c) (list_any (λ y. eqb y c) xs) (eq-eqb x c same)
  | inr later ↦ or_right (eqb x c) (list_any (λ y. eqb y c) xs) (in-any xs c later)
]

pub and-all : (a b c : Bool) → a ≡ true → b ≡ true → c ≡ true → a && b && c ≡ true
and-all a b c x y z = rw (x, y, z) refl

pub and-three : (a b c : Bool) → a && b && c ≡ true → (a ≡ true) × (b ≡ true) × (c ≡ true)
and-three a b c e = let outer = and_parts (a && b) c e in let inner = and_parts a b outer.0 in (inner.0, inner.1, outer.1)

-- unfinished predecessors and owed releases are the releases that are missing
module _ (number : ℕ → Option ℕ) (owed released : ℕ → Bool) where
  pub missing : (us : List ℕ) → ((u : ℕ) → Contains us u → released u ≡ true → IsSome (number u)) → ((u : ℕ) → Contains us u → owed u ≡ is_some (number u) && not (released u))
      → counted (λ u. not (released u)) us ≡ counted (λ u. is_none (number u)) us + counted owed us
  missing [] done owes_ = refl
  missing (u ∷ us) done owes_ =
      let rest = missing us (λ v h. done v (in_tail u v us h)) (λ v h. owes_ v (in_tail u v us h)) in
      let here = each (number u) (released u) (owed u) (done u (in_head u us)) (owes_ u (in_head u us)) in
      omega (arith, rest, here)
    where
      each : (o : Option ℕ) (r w : Bool) → (r ≡ true → IsSome o) → w ≡ is_some o && not r → one_if (not r) ≡ one_if (is_none o) + one_if w
      each None true w d e = let wrong : false ≡ true = d refl in absurd (cc)
      each None false w d e = rw e refl
      each (Some n) true w d e = rw e refl
      each (Some n) false w d e = rw e refl

module _ (p : Plan) (is : IsPlan p) (s : State) (sound : IsSound p s) where
  -- what a task owes to a successor
  owed-is : (t u : ℕ) → Contains (before_of p.graph t) u → owes p.graph s u t ≡ is_some (s.number u) && not (s.released u t)
  owed-is t u h = let there : list_any (λ n. eqb n t) (after_of p.graph u) ≡ true = in-any (after_of p.graph u) t ((is.graph.linked.mirrored t u).0 h) in
      go (is_some (s.number u)) (list_any (λ n. eqb n t) (after_of p.graph u)) (not (s.released u t)) there
    where
      go : (a b c : Bool) → b ≡ true → a && b && c ≡ a && c
      go true b c e = rw e refl
      go false b c e = refl

  owes-none : (t u : ℕ) → s.released u t ≡ true → owes p.graph s u t ≡ false
  owes-none t u e = go (is_some (s.number u) && list_any (λ n. eqb n t) (after_of p.graph u)) (s.released u t) e
    where
      go : (a r : Bool) → r ≡ true → a && not r ≡ false
      go true r e = ap not e
      go false r e = refl

  pub shows-sound : IsSoundSnapshot p (snapshot_of p.graph s)
  shows-sound = record {
    tasks = λ t some. is-task p s sound t some;
    below = sound.numbers.below;
    drawn = sound.numbers.drawn;
    once = sound.numbers.once;
    after = λ t u n h e.
        let there = sound.numbers.after t u n h e in
        let runs = sound.held.ended t (some-of (s.number t) n e) in
        (there.0, there.1, there.2, owes-none t u (released-all p is s sound t u (started-count p is s sound t runs) h));
    counts = λ t below. sound.counts.counts t ∙ missing s.number (λ u. owes p.graph s u t) (λ u. s.released u t) (before_of p.graph t) (λ u h. sound.counts.releases u t) (λ u h. owed-is t u h);
    whole = sound.written.whole;
    begun = λ c some past.
        let there = is.graph.partition.some c past (sound.written.cells c some) in
        (there.0, there.2, inr (started-count p is s sound there.0 (sound.written.begun there.0 c some there.2)));
    right = sound.written.right;
    inputs = sound.written.inputs;
    owed = λ u t e. let three = and-three (is_some (s.number u)) (list_any (λ n. eqb n t) (after_of p.graph u)) (not (s.released u t)) e in (three.0, any-in (after_of p.graph u) t three.1);
  }
