-- The order of cells by their ranks, as a test.
use Rattle.std.proofs.Common.{◌≡◌, ◌∙◌, refl, sym, ap, inl, inr, ◌⊎◌, ⊎_elim, ℕ, zero, suc, ◌<◌, ℤ, pos, ◌≤ℤ◌, ◌<ℤ◌, Bool, true, false, ◌&&◌, List, [], ◌∷◌, Some, None, arith}
use Rattle.std.specs.Prelude.{◌==◌, if◌then◌else◌, int_le, int_lt}
use Rattle.std.proofs.lemmas.Bool.{and_parts, cases_lt, eq-eqb, eqb-true}
use Rattle.std.proofs.lemmas.Int.{ints}
use Rattle.pb_linear.specs.Form.{value}
use Rattle.pb_graph.specs.Layerings.{LayeringValue}
use Rattle.pb_graph.specs.Nodes.{NodeValue}
use Rattle.pb_graph.specs.Ranks.{IsBelow, Rank, rank_in}
use Rattle.pb_model.specs.Cells.{Cell}
use Rattle.pb_check.specs.Ranked.{IsIn}
use Rattle.pb_check.proofs.LawfulLemmas.{both, le_true, lt_true}
use Rattle.pb_check.proofs.WaitLemmas.{below_above, not_below}

-- ---- a relation that is decided, as a test
abbrev pub Decided : Type 0 → Type 0
Decided P = P ⊎ (P → ⊥)

abbrev pub test : {P : Type 0} → Decided P → Bool
test (inl h) = true
test (inr h) = false

pub test_to : {P : Type 0} (d : Decided P) → test d ≡ true → P
test_to (inl h) e = h
test_to (inr h) e = absurd (let no : false ≡ true = e in cc)

pub to_test : {P : Type 0} (d : Decided P) → P → test d ≡ true
to_test (inl h) p = refl
to_test (inr h) p = absurd (h p)

to_false : {P : Type 0} (d : Decided P) → (P → ⊥) → test d ≡ false
to_false (inl h) n = absurd (n h)
to_false (inr h) n = refl

both_decided : {P Q : Type 0} → Decided P → Decided Q → Decided (P × Q)
both_decided (inl p) (inl q) = inl (p, q)
both_decided (inl p) (inr q) = inr (λ h. q h.1)
both_decided (inr p) q = inr (λ h. p h.0)

either_decided : {P Q : Type 0} → Decided P → Decided Q → Decided (P ⊎ Q)
either_decided (inl p) q = inl (inl p)
either_decided (inr p) (inl q) = inl (inr q)
either_decided (inr p) (inr q) = inr (⊎_elim p q)

less : (a b : ℕ) → Decided (a < b)
less a b = ⊎_elim (λ h. inl h) (λ h. inr (λ k. omega (arith, h, k))) (cases_lt a b)

same : (a b : ℕ) → Decided (a ≡ b)
same a b = ⊎_elim (λ h. inr (λ e. omega (arith, h, e))) (λ h. ⊎_elim (λ k. inr (λ e. omega (arith, k, e))) (λ k. inl (omega (arith, h, k))) (cases_lt b a)) (cases_lt a b)

less_int : (a b : ℤ) → Decided (a <ℤ b)
less_int a b = by (int_lt a b) refl
  where
    by : (t : Bool) → int_lt a b ≡ t → Decided (a <ℤ b)
    by true e = inl ((lt_true a b).0 e)
    by false e = inr (λ h. let t = (lt_true a b).1 h in let no : true ≡ false = sym t ∙ e in cc)

same_int : (a b : ℤ) → Decided (a ≡ b)
same_int a b = ⊎_elim
    (λ h. inr (λ e. omega (arith, ints, h, e)))
    (λ h. ⊎_elim (λ k. inr (λ e. omega (arith, ints, k, e))) (λ k. inl (between a b (not_less a b h) (not_less b a k))) (less_int b a))
    (less_int a b)
  where
    not_less : (x y : ℤ) → (x <ℤ y → ⊥) → y ≤ℤ x
    not_less x y h = grind (arith, ints, h)

    between : (x y : ℤ) → y ≤ℤ x → x ≤ℤ y → x ≡ y
    between x y h k = omega (arith, ints, h, k)

pub below_decided : (r s : Rank) → Decided (IsBelow r s)
below_decided r s =
    either_decided (less r.layer s.layer) (both_decided (same r.layer s.layer) (either_decided (less_int r.first s.first) (both_decided (same_int r.first s.first) (less_int r.second s.second))))

-- ---- the segment that holds a cell
abbrev holds_cell : List ℕ → Cell → NodeValue → Bool
holds_cell sizes c n =
    (n.matrix == c.matrix)
    && ((int_le (value n.area.x0 sizes) (pos c.x) && int_lt (pos c.x) (value n.area.x1 sizes)) && (int_le (value n.area.y0 sizes) (pos c.y) && int_lt (pos c.y) (value n.area.y1 sizes)))

abbrev pub holder : List ℕ → Cell → List NodeValue → ℕ
holder sizes c [] = 0
holder sizes c (n ∷ ns) = if holds_cell sizes c n then 0 else suc (holder sizes c ns)

module _ (sizes : List ℕ) (c : Cell) where
  test_in : (n : NodeValue) (ns : List NodeValue) → holds_cell sizes c n ≡ true → IsIn (n ∷ ns) sizes c 0
  test_in n ns h =
      let parts = and_parts _ _ h in
      let axes = and_parts _ _ parts.1 in
      let px = and_parts _ _ axes.0 in
      let py = and_parts _ _ axes.1 in
      record {
        node = n;
        there = refl;
        matrix = eqb-true n.matrix c.matrix parts.0;
        inside = record { from_x = (le_true _ _).0 px.0; before_x = (lt_true _ _).0 px.1; from_y = (le_true _ _).0 py.0; before_y = (lt_true _ _).0 py.1 };
      }

  in_test : (ns : List NodeValue) (u : ℕ) (h : IsIn ns sizes c u) → holds_cell sizes c h.node ≡ true
  in_test ns u h =
      both _ _ (eq-eqb _ _ h.matrix) (both _ _ (both _ _ ((le_true _ _).1 h.inside.from_x) ((lt_true _ _).1 h.inside.before_x)) (both _ _ ((le_true _ _).1 h.inside.from_y) ((lt_true _ _).1 h.inside.before_y)))

  later : (n : NodeValue) (ns : List NodeValue) (u : ℕ) → IsIn ns sizes c u → IsIn (n ∷ ns) sizes c (suc u)
  later n ns u h = record { node = h.node; there = h.there; matrix = h.matrix; inside = h.inside }

  held_by : (n : NodeValue) (ns : List NodeValue) (t : Bool) → holds_cell sizes c n ≡ t → ((u : ℕ) → IsIn ns sizes c u → IsIn ns sizes c (holder sizes c ns)) → (u : ℕ) → IsIn (n ∷ ns) sizes c u → IsIn (n ∷ ns) sizes c (if t then 0 else suc (holder sizes c ns))
  held_by n ns true e rest u h = test_in n ns e
  held_by n ns false e rest zero h = absurd (let t = in_test (n ∷ ns) 0 h in let some : Some n ≡ Some h.node = h.there in let same : n ≡ h.node = cc in let no : false ≡ true = sym e ∙ ap (holds_cell sizes c) same ∙ t in cc)
  held_by n ns false e rest (suc u) h = later n ns (holder sizes c ns) (rest u (record { node = h.node; there = h.there; matrix = h.matrix; inside = h.inside }))

  pub held : (ns : List NodeValue) (u : ℕ) → IsIn ns sizes c u → IsIn ns sizes c (holder sizes c ns)
  held [] u h = absurd (let none : None ≡ Some h.node = h.there in cc)
  held (n ∷ ns) u h = held_by n ns (holds_cell sizes c n) refl (held ns) u h

-- ---- a cell before another
module _ (nodes : List NodeValue) (order : LayeringValue) (sizes : List ℕ) where
  abbrev pub rank_of : Cell → Rank
  rank_of c = rank_in order (holder sizes c nodes) (pos c.x) (pos c.y)

  abbrev pub before : Cell → Cell → Bool
  before c d = test (below_decided (rank_of c) (rank_of d))

  pub before_never : (c : Cell) → before c c ≡ false
  before_never c = to_false (below_decided (rank_of c) (rank_of c)) (not_below (rank_of c))

  pub before_over : (a b c : Cell) → before a b ≡ true → before b c ≡ true → before a c ≡ true
  before_over a b c h k = to_test (below_decided (rank_of a) (rank_of c)) (below_above (rank_of a) (rank_of b) (rank_of c) (test_to (below_decided (rank_of a) (rank_of b)) h) (test_to (below_decided (rank_of b) (rank_of c)) k))

  pub before_is : (c d : Cell) → IsBelow (rank_of c) (rank_of d) → before c d ≡ true
  before_is c d h = to_test (below_decided (rank_of c) (rank_of d)) h
