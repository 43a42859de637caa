-- The matrices of a run, one after the other, and the numbers of their cells.
use Rattle.std.proofs.Common.{◌≡◌, ◌∙◌, refl, sym, ap, subst, ℕ, zero, suc, ◌+◌, ◌≤◌, List, [], ◌∷◌, ◌++◌, length, slice_get, Some, None, arith, length-append}
use Rattle.std.specs.List.{flat_map}
use Rattle.pb_values.specs.declared.outcome.Outcome.{Outcome}
use Rattle.pb_model.specs.Calls.{Outcomes, no_outcome}
use Rattle.pb_taskgraph.specs.Plans.{outcome_at}
use Rattle.pb_plan.proofs.FlatLemmas.{flat_at, start}
use Rattle.pb_solution.proofs.OutcomeLemmas.{index_at}
use Rattle.pb_solution.specs.Solutions.{outcomes_of}
use Rattle.pb_model.specs.Cells.{natural}
use Rattle.pb_recursion.specs.Depths.{IsWhole}
use Rattle.pb_recursion.specs.Shapes.{Sides}
use Rattle.pb_runs.specs.Unrolled.{Met}
use Rattle.pb_runs.specs.Placed.{before, total}

pub before_first : (gs : List Outcomes) → before gs 0 ≡ 0
before_first [] = refl
before_first (g ∷ gs) = refl

before_is : (gs : List Outcomes) (k : ℕ) → start (λ (g : Outcomes). g.cells) gs k ≡ before gs k
before_is [] k = refl
before_is (g ∷ gs) zero = refl
before_is (g ∷ gs) (suc k) = ap (λ n. length g.cells + n) (before_is gs k)

pub total_is : (gs : List Outcomes) → length (outcomes_of gs) ≡ total gs
unfolding outcomes_of
total_is [] = refl
total_is (g ∷ gs) = length-append g.cells (flat_map (λ (m : Outcomes). m.cells) gs) ∙ ap (λ n. length g.cells + n) (total_is gs)

pub total_append : (xs ys : List Outcomes) → total (xs ++ ys) ≡ total xs + total ys
total_append [] ys = omega arith
total_append (g ∷ xs) ys = let rest = total_append xs ys in omega (arith, rest)

pub before_left : (xs ys : List Outcomes) (k : ℕ) → k ≤ length xs → before (xs ++ ys) k ≡ before xs k
before_left [] ys k h = let none : k ≡ 0 = omega (arith, h) in ap (before ys) none ∙ before_first ys
before_left (g ∷ xs) ys zero h = refl
before_left (g ∷ xs) ys (suc k) h = ap (λ n. length g.cells + n) (before_left xs ys k (omega (arith, h)))

pub before_right : (xs ys : List Outcomes) (k : ℕ) → before (xs ++ ys) (length xs + k) ≡ total xs + before ys k
before_right [] ys k = let here : 0 + k ≡ k = omega arith in let none : 0 + before ys k ≡ before ys k = omega arith in ap (before ys) here ∙ sym none
before_right (g ∷ xs) ys k = let here : suc (length xs) + k ≡ suc (length xs + k) = omega arith in let rest = before_right xs ys k in ap (before (g ∷ (xs ++ ys))) here ∙ omega (arith, rest)

pub before_next : (gs : List Outcomes) (k : ℕ) (g : Outcomes) → slice_get gs k ≡ Some g → before gs (k + 1) ≡ before gs k + length g.cells
before_next [] k g e = absurd (let wrong : None ≡ Some g = e in cc)
before_next (x ∷ gs) zero g e = let some : Some x ≡ Some g = e in let same : x ≡ g = cc in let none = before_first gs in omega (arith, none, ap (λ (m : Outcomes). length m.cells) same)
before_next (x ∷ gs) (suc k) g e = let here : suc k + 1 ≡ suc (k + 1) = omega arith in let rest = before_next gs k g e in ap (before (x ∷ gs)) here ∙ omega (arith, rest)

pub before_grows : (gs : List Outcomes) (k l : ℕ) → k ≤ l → before gs k ≤ before gs l
before_grows [] k l h = omega arith
before_grows (g ∷ gs) zero l h = omega arith
before_grows (g ∷ gs) (suc k) zero h = absurd (omega (arith, h))
before_grows (g ∷ gs) (suc k) (suc l) h = let rest = before_grows gs k l (omega (arith, h)) in omega (arith, rest)

pub before_all : (gs : List Outcomes) (k : ℕ) → before gs k ≤ total gs
before_all [] k = omega arith
before_all (g ∷ gs) zero = omega arith
before_all (g ∷ gs) (suc k) = let rest = before_all gs k in omega (arith, rest)

-- ---- sides
-- a matrix has these sides, and all its cells
abbrev pub HasSides : Sides → Outcomes → Type 0
HasSides s m = (m.width ≡ natural s.0) × (m.height ≡ natural s.1) × IsWhole m

abbrev pub HaveSides : List Sides → List Outcomes → Type 0
HaveSides [] [] = Unit {0}
HaveSides (s ∷ ss) (m ∷ mats) = HasSides s m × HaveSides ss mats
HaveSides _ _ = ⊥

-- ---- outcomes
pub outcome_there : (gs : List Outcomes) (k : ℕ) (g : Outcomes) (j : ℕ) (o : Outcome) → slice_get gs k ≡ Some g → slice_get g.cells j ≡ Some o → outcome_at (outcomes_of gs) (before gs k + j) ≡ o
unfolding outcomes_of outcome_at
outcome_there gs k g j o there at =
    index_at (flat_map (λ (m : Outcomes). m.cells) gs) (before gs k + j) o no_outcome (subst (λ n. slice_get (flat_map (λ (m : Outcomes). m.cells) gs) (n + j) ≡ Some o) (before_is gs k) (flat_at (λ (m : Outcomes). m.cells) gs k g j o there at))

-- ---- some of the matrices of a run
module _ (ms : List Outcomes) where
  -- they stand there, after what is met
  pub record Stands (n : Met) (made : List Outcomes) : Type 0 where
    pub at : (k : ℕ) (g : Outcomes) → slice_get made k ≡ Some g → slice_get ms (n.matrices + k) ≡ Some g
    pub cells : before ms n.matrices ≡ n.cells

  -- what is met after them
  pub record Reaches (n : Met) (made : List Outcomes) (next : Met) : Type 0 where
    pub matrices : next.matrices ≡ n.matrices + length made
    pub cells : next.cells ≡ n.cells + total made

  get_first : {A : Type 0} (xs ys : List A) (k : ℕ) (x : A) → slice_get xs k ≡ Some x → slice_get (xs ++ ys) k ≡ Some x
  get_first [] ys k x e = absurd (let wrong : None ≡ Some x = e in cc)
  get_first (z ∷ xs) ys zero x e = e
  get_first (z ∷ xs) ys (suc k) x e = get_first xs ys k x e

  get_second : {A : Type 0} (xs ys : List A) (k : ℕ) → slice_get (xs ++ ys) (length xs + k) ≡ slice_get ys k
  get_second [] ys k = ap (slice_get ys) (omega arith)
  get_second (z ∷ xs) ys k = let here : suc (length xs) + k ≡ suc (length xs + k) = omega arith in ap (slice_get (z ∷ (xs ++ ys))) here ∙ get_second xs ys k

  pub stands_left : (n : Met) (xs ys : List Outcomes) → Stands n (xs ++ ys) → Stands n xs
  stands_left n xs ys h = record { at = λ k g e. h.at k g (get_first xs ys k g e); cells = h.cells }

  pub stands_all : (n : Met) (xs : List Outcomes) → Stands n xs → before ms (n.matrices + length xs) ≡ n.cells + total xs
  stands_all n [] h = let here : n.matrices + 0 ≡ n.matrices = omega arith in ap (before ms) here ∙ h.cells ∙ omega arith
  stands_all n (g ∷ xs) h =
      let first : slice_get ms n.matrices ≡ Some g = (let here : n.matrices + 0 ≡ n.matrices = omega arith in ap (slice_get ms) (sym here) ∙ h.at 0 g refl) in
      let next : Met = record { calls = n.calls; matrices = n.matrices + 1; cells = n.cells + length g.cells } in
      let rest = stands_all next xs (record { at = λ k x e. (let here : n.matrices + suc k ≡ (n.matrices + 1) + k = omega arith in ap (slice_get ms) (sym here) ∙ h.at (suc k) x e); cells = before_next ms n.matrices g first ∙ ap (λ c. c + length g.cells) h.cells }) in
      let here : n.matrices + suc (length xs) ≡ (n.matrices + 1) + length xs = omega arith in
      ap (before ms) here ∙ rest ∙ omega arith

  pub stands_right : (n next : Met) (xs ys : List Outcomes) → Stands n (xs ++ ys) → Reaches n xs next → Stands next ys
  stands_right n next xs ys h r = record {
    at = λ k g e. (let here : n.matrices + (length xs + k) ≡ next.matrices + k = omega (arith, r.matrices) in ap (slice_get ms) (sym here) ∙ h.at (length xs + k) g (get_second xs ys k ∙ e));
    cells = ap (before ms) r.matrices ∙ stands_all n xs (stands_left n xs ys h) ∙ sym r.cells;
  }

  pub reaches_both : (n m k : Met) (xs ys : List Outcomes) → Reaches n xs m → Reaches m ys k → Reaches n (xs ++ ys) k
  reaches_both n m k xs ys h l = record {
    matrices = omega (arith, h.matrices, l.matrices, length-append xs ys);
    cells = omega (arith, h.cells, l.cells, total_append xs ys);
  }
