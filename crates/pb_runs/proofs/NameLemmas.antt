-- The matrices of a plan by their names: where they stand, and what they hold.
use Rattle.std.proofs.Common.{◌≡◌, ◌∙◌, refl, sym, ap, subst, inl, inr, ℕ, zero, suc, ◌+◌, Bool, true, false, List, [], ◌∷◌, ◌++◌, map, arith}
use Rattle.std.specs.Prelude.{◌==◌, if◌then◌else◌, slice_index_or}
use Rattle.std.specs.List.{AllByRecursion, AllZip, Contains, enumerate_from, zip}
use Rattle.std.proofs.lemmas.Bool.{eq-eqb, eqb-true}
use Rattle.pb_base.proofs.ListLemmas.{in_cases, in_none}
use Rattle.pb_program.specs.declared.plan.Slot.{Slot}
use Rattle.pb_program.specs.declared.plan.Slot.TheVariants as slot
use Rattle.pb_model.specs.Calls.{Outcomes}
use Rattle.pb_model.specs.Cells.{natural}
use Rattle.pb_model.specs.Grids.{no_grid}
use Rattle.pb_recursion.specs.Ordered.{IsGiven}
use Rattle.pb_recursion.specs.Plans.{Names, named, names_of_reads, same_slot}
use Rattle.pb_recursion.specs.Shapes.{Sides}
use Rattle.pb_views.specs.declared.seat.Seat.{Seat}
use Rattle.pb_views.specs.Seats.{no_seat}
use Rattle.pb_runs.proofs.SeatLemmas.{HasCell}
use Rattle.pb_runs.proofs.SoundLemmas.{Cells}
use Rattle.pb_runs.specs.Placed.{IsPlaced}

-- ---- slots
same_is : (a b : Slot) → same_slot a b ≡ true → a ≡ b
same_is (slot.Out i) (slot.Out j) e = ap slot.Out (eqb-true i j e)
same_is (slot.Read i) (slot.Read j) e = ap slot.Read (eqb-true i j e)
same_is (slot.Local i) (slot.Local j) e = ap slot.Local (eqb-true i j e)
same_is (slot.Out i) (slot.Read j) e = absurd (let wrong : false ≡ true = e in cc)
same_is (slot.Out i) (slot.Local j) e = absurd (let wrong : false ≡ true = e in cc)
same_is (slot.Read i) (slot.Out j) e = absurd (let wrong : false ≡ true = e in cc)
same_is (slot.Read i) (slot.Local j) e = absurd (let wrong : false ≡ true = e in cc)
same_is (slot.Local i) (slot.Out j) e = absurd (let wrong : false ≡ true = e in cc)
same_is (slot.Local i) (slot.Read j) e = absurd (let wrong : false ≡ true = e in cc)

same_self : (a : Slot) → same_slot a a ≡ true
same_self (slot.Out i) = eq-eqb i i refl
same_self (slot.Read i) = eq-eqb i i refl
same_self (slot.Local i) = eq-eqb i i refl

-- what isn't the first of what is given was given before
given_later : (t s : Slot) (ts : List Slot) → same_slot t s ≡ false → IsGiven (t ∷ ts) s → IsGiven ts s
given_later t (slot.Read k) ts other h = tt
given_later t (slot.Out k) ts other h = elim (in_cases t (slot.Out k) ts h) [
  | inl same ↦ absurd (let wrong : true ≡ false = sym (same_self (slot.Out k)) ∙ ap (λ x. same_slot x (slot.Out k)) (sym same) ∙ other in cc)
  | inr later ↦ later
]
given_later t (slot.Local k) ts other h = elim (in_cases t (slot.Local k) ts h) [
  | inl same ↦ absurd (let wrong : true ≡ false = sym (same_self (slot.Local k)) ∙ ap (λ x. same_slot x (slot.Local k)) (sym same) ∙ other in cc)
  | inr later ↦ later
]

-- ---- names
module _ (ms : List Outcomes) (sides : Slot → Sides) where
  -- a matrix of known cells, with the sides that its name says, and where it stands
  pub record IsNamed (known : Cells) (s : Slot) (seat : Seat) (m : Outcomes) : Type 0 where
    pub placed : IsPlaced ms seat m
    pub width : m.width ≡ natural (sides s).0
    pub height : m.height ≡ natural (sides s).1
    pub cells : (c : ℕ) → HasCell seat c → known c

  pub named_more : (known more : Cells) (s : Slot) (seat : Seat) (m : Outcomes) → ((c : ℕ) → known c → more c) → IsNamed known s seat m → IsNamed more s seat m
  named_more known more s seat m to h = record { placed = h.placed; width = h.width; height = h.height; cells = λ c has. to c (h.cells c has) }

  -- what is given has its name in both
  abbrev pub AreNamed : Cells → List Slot → Names Seat → Names Outcomes → Type 0
  AreNamed known made ss mm = (s : Slot) → IsGiven made s → IsNamed known s (named no_seat ss s) (named no_grid mm s)

  -- a matrix for each target
  abbrev pub Answer : Cells → List Slot → List Seat → List Outcomes → Type 0
  Answer known [] ss mm = Unit {0}
  Answer known (t ∷ ts) (s ∷ ss) (m ∷ mm) = IsNamed known t s m × Answer known ts ss mm
  Answer known (t ∷ ts) _ _ = ⊥

  name_of : (known : Cells) (s t : Slot) (seat : Seat) (m : Outcomes) (ss : Names Seat) (mm : Names Outcomes) (b : Bool) → same_slot t s ≡ b → IsNamed known t seat m → (b ≡ false → IsNamed known s (named no_seat ss s) (named no_grid mm s))
      → IsNamed known s (if b then seat else named no_seat ss s) (if b then m else named no_grid mm s)
  name_of known s t seat m ss mm true e here later = subst (λ q. IsNamed known q seat m) (same_is t s e) here
  name_of known s t seat m ss mm false e here later = later refl

  pub after_named : (known : Cells) (targets made : List Slot) (seats : List Seat) (mats : List Outcomes) (ss : Names Seat) (mm : Names Outcomes) → Answer known targets seats mats → AreNamed known made ss mm
      → AreNamed known (targets ++ made) (zip targets seats ++ ss) (zip targets mats ++ mm)
  after_named known [] made seats mats ss mm answer h s given = h s given
  after_named known (t ∷ ts) made [] mats ss mm answer h s given = absurd answer
  after_named known (t ∷ ts) made (seat ∷ seats) [] ss mm answer h s given = absurd answer
  after_named known (t ∷ ts) made (seat ∷ seats) (m ∷ mats) ss mm answer h s given =
      name_of known s t seat m (zip ts seats ++ ss) (zip ts mats ++ mm) (same_slot t s) refl answer.0 (λ other. after_named known ts made seats mats ss mm answer.1 h s (given_later t s (ts ++ made) other given))

  -- those of some slots
  pub named_placed : (known : Cells) (made : List Slot) (ss : Names Seat) (mm : Names Outcomes) (slots : List Slot) → AreNamed known made ss mm → AllByRecursion (IsGiven made) slots
      → AllZip (IsPlaced ms) (map (named no_seat ss) slots) (map (named no_grid mm) slots)
  named_placed known made ss mm [] h given = tt
  named_placed known made ss mm (s ∷ slots) h given = ((h s given.0).placed, named_placed known made ss mm slots h given.1)

  pub named_known : (known : Cells) (made : List Slot) (ss : Names Seat) (mm : Names Outcomes) (slots : List Slot) → AreNamed known made ss mm → AllByRecursion (IsGiven made) slots
      → (seat : Seat) → Contains (map (named no_seat ss) slots) seat → (c : ℕ) → HasCell seat c → known c
  named_known known made ss mm [] h given seat there c has = absurd (in_none seat there)
  named_known known made ss mm (s ∷ slots) h given seat there c has = elim (in_cases (named no_seat ss s) seat (map (named no_seat ss) slots) there) [
    | inl same ↦ (h s given.0).cells c (subst (λ q. HasCell q c) (sym same) has)
    | inr later ↦ named_known known made ss mm slots h given.1 seat later c has
  ]

-- ---- the names of reads
read_name : {M : Type 0} (none : M) (xs : List M) (n k : ℕ) → named none (map (λ (m : ℕ × M). (slot.Read m.0, m.1)) (enumerate_from n xs)) (slot.Read (n + k)) ≡ slice_index_or xs k none
read_name {M} none [] n k = refl
read_name {M} none (x ∷ xs) n zero = let here : (n == n + 0) ≡ true = eq-eqb n (n + 0) (omega arith) in rw here refl
read_name {M} none (x ∷ xs) n (suc k) =
    let other : (n == n + suc k) ≡ false = unequal n k (n == n + suc k) refl in
    let next : n + suc k ≡ (n + 1) + k = omega arith in
    rw other (ap (λ i. named none (map (λ (m : ℕ × M). (slot.Read m.0, m.1)) (enumerate_from (n + 1) xs)) (slot.Read i)) next ∙ read_name none xs (n + 1) k)
  where
    unequal : (n k : ℕ) (b : Bool) → (n == n + suc k) ≡ b → (n == n + suc k) ≡ false
    unequal n k false e = e
    unequal n k true e = absurd (let same = eqb-true n (n + suc k) e in omega (arith, same))

pub name_of_read : {M : Type 0} (none : M) (xs : List M) (k : ℕ) → named none (names_of_reads xs) (slot.Read k) ≡ slice_index_or xs k none
name_of_read {M} none xs k = let here : 0 + k ≡ k = omega arith in ap (λ i. named none (names_of_reads xs) (slot.Read i)) (sym here) ∙ read_name none xs 0 k
