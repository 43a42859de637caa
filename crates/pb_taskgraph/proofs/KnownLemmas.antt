-- A port that keeps no outcomes. Every such port tells `known_turn` of the cells that it has written.
use Rattle.std.proofs.Common.{◌≡◌, ◌∙◌, refl, sym, ap, subst, inl, inr, ⊎_elim, ℕ, ◌<◌, ◌≤◌, ◌+◌, Bool, true, ◌||◌, eqb, ltb, List, [], length, take, drop, get_or, Some, None, IsSome, slice_get, arith}
use Rattle.std.specs.List.{Contains, list_any}
use Rattle.std.proofs.Math.Path.{fun_ext}
use Rattle.std.proofs.Math.Bool.{cond, or_assoc}
use Rattle.std.proofs.lemmas.Bool.{eq-eqb, eqb-true, or_cases, or_left, or_right}
use Rattle.std.proofs.lemmas.Bool.Decides.{nat_tests}
use Rattle.std.proofs.lemmas.List.{drop-drop, length-drop, length-map}
use Rattle.std.proofs.lemmas.List.Folds.{Any-from_list_any, list_any_at, list_any_more}
use Rattle.pb_values.specs.declared.outcome.Outcome.{Outcome}
use Rattle.pb_values.specs.Cells.{Turn}
use Rattle.pb_taskgraph.specs.Graphs.{before_of, cells_of}
use Rattle.pb_taskgraph.specs.Known.{is_known, known_turn}
use Rattle.pb_taskgraph.specs.Plans.{Plan, outcome_at}
use Rattle.pb_taskgraph.specs.Turns.{Begins, MayRead, after_all, after_write, entries_of, with_outcome}
use Rattle.pb_taskgraph.proofs.TurnLemmas.{as_turn, next-is}

found : {A : Type 0} (p : A → Bool) (xs : List A) → list_any p xs ≡ true → (x : A) × Contains xs x × (p x ≡ true)
found p xs e = let there = Any-from_list_any p xs e in (there.1, (there.0, there.2, there.3), there.4)

listed : (xs : List ℕ) (c : ℕ) → list_any (λ d. eqb d c) xs ≡ true → Contains xs c
listed xs c e = let there = found (λ d. eqb d c) xs e in subst (λ d. Contains xs d) (eqb-true there.0 c there.2) there.1

finds : {A : Type 0} (p : A → Bool) (xs : List A) (x : A) → Contains xs x → p x ≡ true → list_any p xs ≡ true
finds p xs x h is = list_any_at p xs h.0 x h.1 (ap p h.2 ∙ is)

lists : (xs : List ℕ) (c : ℕ) → Contains xs c → list_any (λ d. eqb d c) xs ≡ true
lists xs c h = finds (λ d. eqb d c) xs c h (eq-eqb c c refl)

module _ (p : Plan) (t k c : ℕ) where
  abbrev given : Bool
  given = ltb c p.graph.inputs

  abbrev earlier : Bool
  earlier = list_any (λ u. list_any (λ d. eqb d c) (cells_of p.graph u)) (before_of p.graph t)

  abbrev own : Bool
  own = list_any (λ d. eqb d c) (take k (p.order t))

  -- the test says what may be read
  pub known-may : is_known p t k c ≡ true → MayRead p t k c
  unfolding is_known
  known-may e = ⊎_elim
      (λ (two : given || earlier ≡ true). ⊎_elim
      (λ (one : given ≡ true). inl (grind (arith, nat_tests)))
      (λ (two : earlier ≡ true). let there = found (λ u. list_any (λ d. eqb d c) (cells_of p.graph u)) (before_of p.graph t) two in inr (inl (there.0, there.1, listed (cells_of p.graph there.0) c there.2)))
      (or_cases given earlier two))
      (λ (three : own ≡ true). inr (inr (listed (take k (p.order t)) c three)))
      (or_cases (given || earlier) own e)

  pub may-known : MayRead p t k c → is_known p t k c ≡ true
  unfolding is_known
  may-known (inl input) = grind (arith, nat_tests)
  may-known (inr (inl before)) = or_left (given || earlier) own (or_right given earlier (finds (λ u. list_any (λ d. eqb d c) (cells_of p.graph u)) (before_of p.graph t) before.0 before.1 (lists (cells_of p.graph before.0) c before.2)))
  may-known (inr (inr written)) = or_right (given || earlier) own (lists (take k (p.order t)) c written)

  -- what is told may be read, and is the solution
  pub told-known : MayRead p t k c → (known_turn p t k).outcomes c ≡ Some (outcome_at p.solution c)
  unfolding known_turn
  told-known may = ap (λ b. cond b (Some (outcome_at p.solution c)) None) (may-known may)

  pub some-known : IsSome ((known_turn p t k).outcomes c) → MayRead p t k c
  unfolding known_turn
  some-known some = known-may (grind (arith, nat_tests))

known-more : (p : Plan) (t k d : ℕ) → k < length (p.order t) → is_known p t (k + 1) d ≡ is_known p t k d || eqb (get_or (p.order t) k 0) d
unfolding is_known
known-more p t k d below =
    ap (λ b. (given p t k d || earlier p t k d) || b) (list_any_more (λ e. eqb e d) (p.order t) k 0 below)
    ∙ sym (or_assoc (given p t k d || earlier p t k d) (own p t k d) (eqb (get_or (p.order t) k 0) d))

-- its turns: one begins, and the next cell is written
module _ (p : Plan) (t : ℕ) where
  pub known-begins : Begins p t (known_turn p t 0)
  unfolding known_turn
  known-begins = record {
    task = refl;
    inputs = λ c input. told-known p t 0 c (inl input);
    before = λ u c h in_cells. told-known p t 0 c (inr (inl (u, h, in_cells)));
    left = refl;
  }

  -- the next cell is that of the own order, with the solution's outcome
  pub known-next : (k c : ℕ) (v : Outcome) → slice_get (known_turn p t k).left 0 ≡ Some (c, v) → (k < length (p.order t)) × (get_or (p.order t) k 0 ≡ c) × (outcome_at p.solution c ≡ v)
  unfolding known_turn
  known-next k c v at = next-is p.solution (p.order t) k c v at

  -- no cell is left where all are written
  pub known-over : (k : ℕ) → (known_turn p t k).left ≡ [] → length (p.order t) ≤ k
  unfolding known_turn
  known-over k none = omega (arith, ap length none, length-drop k (entries_of p.solution (p.order t)), length-map {B = ℕ × Outcome} (p.order t) (λ (c : ℕ). (c, outcome_at p.solution c)))

  pub known-ends : (k : ℕ) (turn : Turn) → known_turn p t k ≡ after_all turn → length (p.order t) ≤ k
  unfolding after_all
  known-ends k turn e = known-over k (ap (λ (s : Turn). s.left) e)

  -- a write is one
  pub known-write : (k c : ℕ) (v : Outcome) → slice_get (known_turn p t k).left 0 ≡ Some (c, v) → known_turn p t (k + 1) ≡ after_write (known_turn p t k) c v
  unfolding known_turn
  known-write k c v at =
      ap (λ f. as_turn t f (drop (k + 1) (entries_of p.solution (p.order t)))) (fun_ext told)
      ∙ ap (as_turn t (with_outcome (known_turn p t k).outcomes c v)) (sym (drop-drop 1 k (entries_of p.solution (p.order t))))
    where
      there : (k < length (p.order t)) × (get_or (p.order t) k 0 ≡ c) × (outcome_at p.solution c ≡ v)
      there = next-is p.solution (p.order t) k c v at

      told : (d : ℕ) → (known_turn p t (k + 1)).outcomes d ≡ with_outcome (known_turn p t k).outcomes c v d
      told d = grind (arith, nat_tests, known-more p t k d there.0, there.1, there.2)
