-- The first trapped of some cells, by its place among them.
use Rattle.std.proofs.Common.{◌≡◌, ◌∙◌, refl, sym, ap, subst, ⊎_elim, ℕ, zero, suc, ◌+◌, ◌<◌, ◌≤◌, ℤ, true, false, is_some, IsTrue, List, [], ◌∷◌, ◌++◌, length, map, take, drop, get_or, slice_get, Option, Some, None, arith}
use Rattle.std.specs.Prelude.{nat_lt}
use Rattle.std.specs.List.{position, position_or_len}
use Rattle.std.specs.Option.{option_map}
use Rattle.std.proofs.Math.Bool.{cond}
use Rattle.std.proofs.lemmas.Bool.{cases_eq}
use Rattle.std.proofs.lemmas.Bool.Decides.{nat_tests}
use Rattle.std.proofs.lemmas.List.{get_or-drop, get_or-map, get_or-take, length-drop, length-map, length-take, map-append, take_more}
use Rattle.std.proofs.lemmas.List.Quantifiers.{position-Some}
use Rattle.std.proofs.lemmas.List.Sums.{fails_before_first, position_or_len_is}
use Rattle.std.proofs.lemmas.Option.{get_or_from_slice_get, slice_get-get_or, slice_get_within}
use Rattle.pb_values.specs.declared.outcome.Outcome.{Outcome}
use Rattle.pb_values.specs.declared.outcome.Outcome.TheVariants.{Value, Trapped}
use Rattle.pb_values.specs.declared.outcome.Trap.{Trap}
use Rattle.pb_values.specs.Cells.{is_number}
use Rattle.pb_taskgraph.specs.Packed.{HasNumbers}
use Rattle.pb_model.specs.Calls.{Outcomes, TrappedCell, first_trapped, no_outcome, or_trapped, outcome_in}
use Rattle.pb_model.specs.Cells.{Cell}
use Rattle.pb_model.specs.Equations.{number_in}
use Rattle.pb_unroll.specs.ShownCells.{is_trapped}
use Rattle.pb_unroll.proofs.PlaceLemmas.{as_place}

all_before : (k n : ℕ) → cond (nat_lt k n) (Some k) None ≡ None → n ≤ k
all_before k n h = grind (arith, nat_tests)

past : (cs : List Cell) (k : ℕ) → slice_get cs k ≡ None → length cs ≤ k
past [] k e = omega arith
past (c ∷ cs) zero e = absurd (let no : Some c ≡ None = e in cc)
past (c ∷ cs) (suc k) e = omega (arith, past cs k e)

untrapped : (c : Cell) (o : Outcome) (later : Option TrappedCell) → is_trapped o ≡ false → or_trapped c o later ≡ later
untrapped c (Value v) later h = refl
untrapped c (Trapped t) later h = absurd (let no : true ≡ false = h in cc)

module _ (ms : List Outcomes) where
  none_before : (cs : List Cell) → ((k : ℕ) (d : Cell) → k < length cs → is_trapped (outcome_in ms (get_or cs k d)) ≡ false) → first_trapped ms cs ≡ None
  none_before [] h = refl
  none_before (c ∷ cs) h = untrapped c (outcome_in ms c) (first_trapped ms cs) (h 0 c (omega arith)) ∙ none_before cs (λ k d below. h (suc k) d (omega (arith, below)))

  first_at : (cs : List Cell) (k : ℕ) (c : Cell) (t : Trap) → ((j : ℕ) (d : Cell) → j < k → is_trapped (outcome_in ms (get_or cs j d)) ≡ false) → slice_get cs k ≡ Some c → outcome_in ms c ≡ Trapped t
      → first_trapped ms cs ≡ Some (record { cell = c; trap = t })
  first_at [] k c t before at is = absurd (let no : None ≡ Some c = at in cc)
  first_at (e ∷ cs) zero c t before at is =
      let some : Some e ≡ Some c = at in
      let same : e ≡ c = cc in
      ap (λ q. or_trapped q (outcome_in ms q) (first_trapped ms cs)) same ∙ ap (λ o. or_trapped c o (first_trapped ms cs)) is
  first_at (e ∷ cs) (suc k) c t before at is =
      untrapped e (outcome_in ms e) (first_trapped ms cs) (before 0 e (omega arith)) ∙ first_at cs k c t (λ j d below. before (suc j) d (omega (arith, below))) at is

  module _ (os : List Outcome) (cs : List Cell) (made : os ≡ map (outcome_in ms) cs) where
    at_cell : (k : ℕ) (d : Cell) → k < length cs → get_or os k no_outcome ≡ outcome_in ms (get_or cs k d)
    at_cell k d below = ap (λ l. get_or l k no_outcome) made ∙ get_or-map (outcome_in ms) cs k d no_outcome below

    as_many : length os ≡ length cs
    as_many = ap length made ∙ length-map cs (outcome_in ms)

    -- there is none
    pub not_found : position is_trapped os ≡ None → first_trapped ms cs ≡ None
    not_found none =
        let all = all_before (position_or_len is_trapped os) (length os) none in
        none_before cs (λ k d below. ap is_trapped (sym (at_cell k d below)) ∙ fails_before_first is_trapped os k no_outcome (omega (arith, all, below, as_many)))

    module _ (k : ℕ) (there : position is_trapped os ≡ Some k) where
      within : k < length os
      within = (position-Some is_trapped os k no_outcome there).0

      -- it is no number
      pub found_trapped : (z : ℤ) → get_or os k no_outcome ≡ Value z → ⊥
      found_trapped z at = let both : false ≡ true = sym (ap is_trapped at) ∙ (position-Some is_trapped os k no_outcome there).1 in cc

      -- it is one of the cells
      pub found_placed : option_map as_place (slice_get cs k) ≡ None → ⊥
      found_placed none = by (slice_get cs k) refl none
        where
          by : (o : Option Cell) → slice_get cs k ≡ o → option_map as_place o ≡ None → ⊥
          by None at e = omega (arith, within, as_many, past cs k at)
          by (Some c) at e = let no : Some (as_place c) ≡ None = e in cc

      -- it is the first
      pub found_first : (t : Trap) (p : ℕ × ℕ × ℕ) → get_or os k no_outcome ≡ Trapped t → option_map as_place (slice_get cs k) ≡ Some p
          → first_trapped ms cs ≡ Some (record { cell = record { matrix = p.0; x = p.1; y = p.2 }; trap = t })
      found_first t p at place = by (slice_get cs k) refl place
        where
          by : (o : Option Cell) → slice_get cs k ≡ o → option_map as_place o ≡ Some p → first_trapped ms cs ≡ Some (record { cell = record { matrix = p.0; x = p.1; y = p.2 }; trap = t })
          by None e is = absurd (let no : None ≡ Some p = is in cc)
          by (Some c) e is =
              let some : Some (as_place c) ≡ Some p = is in
              let same : as_place c ≡ p = cc in
              let below = slice_get_within cs k c e in
              let value : outcome_in ms c ≡ Trapped t = ap (outcome_in ms) (sym (get_or_from_slice_get cs k c c e)) ∙ sym (at_cell k c below) ∙ at in
              first_at cs k c t (λ j d before. ap is_trapped (sym (at_cell j d (omega (arith, before, below)))) ∙ (position-Some is_trapped os k no_outcome there).2 j before) e value
              ∙ ap (λ (q : ℕ × ℕ × ℕ). Some (record { cell = record { matrix = q.0; x = q.1; y = q.2 }; trap = t })) same

-- ---- looking for the first trap from a place on
position_at : (os : List Outcome) (i : ℕ) → position_or_len is_trapped os ≡ i → i < length os → position is_trapped os ≡ Some i
position_at os i e below = rw e (grind (arith, nat_tests))

position_past : (os : List Outcome) → position_or_len is_trapped os ≡ length os → position is_trapped os ≡ None
position_past os e = rw e (grind (arith, nat_tests))

-- ---- so many outcomes from a place on
module _ (os : List Outcome) (from count : ℕ) (room : from + count ≤ length os) where
  abbrev those : List Outcome
  those = take count (drop from os)

  pub as_wanted : length those ≡ count
  as_wanted = omega (arith, room, length-take count (drop from os), length-drop from os)

  at_those : (j : ℕ) → j < count → get_or those j no_outcome ≡ get_or os (from + j) no_outcome
  at_those j below = get_or-take count (drop from os) j no_outcome below ∙ get_or-drop from os j no_outcome

  -- one after another, where none is trapped so far
  module _ (k : ℕ) (before : (j : ℕ) → j < k → is_trapped (get_or os (from + j) no_outcome) ≡ false) where
    pub passed : (o : Outcome) → slice_get os (from + k) ≡ Some o → is_trapped o ≡ false → (j : ℕ) → j < k + 1 → is_trapped (get_or os (from + j) no_outcome) ≡ false
    passed o at clean j below = ⊎_elim
        (λ (here : j ≡ k). ap (λ n. is_trapped (get_or os (from + n) no_outcome)) here ∙ ap is_trapped (get_or_from_slice_get os (from + k) o no_outcome at) ∙ clean)
        (λ (other : j ≡ k → ⊥). before j (omega (arith, below, other)))
        (cases_eq j k)

    pub found_here : (o : Outcome) → k < count → slice_get os (from + k) ≡ Some o → is_trapped o ≡ true → Some k ≡ position is_trapped those
    found_here o inside at trap =
        sym (position_at those k (position_or_len_is is_trapped those k no_outcome (omega (arith, inside, as_wanted))
        (λ j below. ap is_trapped (at_those j (omega (arith, below, inside))) ∙ before j below)
        (λ below. ap is_trapped (at_those k inside ∙ get_or_from_slice_get os (from + k) o no_outcome at) ∙ trap)) (omega (arith, inside, as_wanted)))

    pub none_left : count ≤ k → None ≡ position is_trapped those
    none_left ended =
        sym (position_past those (position_or_len_is is_trapped those (length those) no_outcome (omega arith)
        (λ j below. ap is_trapped (at_those j (omega (arith, below, as_wanted))) ∙ before j (omega (arith, below, as_wanted, ended))) (λ below. absurd (omega (arith, below)))))

  -- where all outcomes are numbers there is none
  pub none_of : HasNumbers os → None ≡ position is_trapped those
  none_of numbers = none_left count (λ j below. number_at (from + j) (omega (arith, room, below))) (omega arith)
    where
      is_clean : (o : Outcome) → IsTrue (is_number (Some o)) → is_trapped o ≡ false
      is_clean (Value v) h = refl
      is_clean (Trapped t) h = absurd (let no : false ≡ true = h in cc)

      number_at : (i : ℕ) → i < length os → is_trapped (get_or os i no_outcome) ≡ false
      number_at i inside =
          let at : slice_get os i ≡ Some (get_or os i no_outcome) = slice_get-get_or os i no_outcome inside in
          is_clean (get_or os i no_outcome) (subst (λ q. IsTrue (is_number q)) at (numbers i (subst (λ q. IsTrue (is_some q)) (sym at) refl)))

  -- the one at a place among them
  pub at_part : (k : ℕ) (o : Outcome) → k < count → slice_get os (from + k) ≡ Some o → get_or those k no_outcome ≡ o
  at_part k o inside at = at_those k inside ∙ get_or_from_slice_get os (from + k) o no_outcome at

-- the outcome at a place after another
pub at_rest : (os : List Outcome) (n k : ℕ) (o : Outcome) → slice_get os (n + k) ≡ Some o → get_or (drop n os) k no_outcome ≡ o
at_rest os n k o at = get_or-drop n os k no_outcome ∙ get_or_from_slice_get os (n + k) o no_outcome at

-- one number more
pub one_more : (os : List Outcome) (first k : ℕ) (o : Outcome) (ns ms : List ℤ) (z : ℤ) → slice_get os (first + k) ≡ Some o → ms ≡ ns ++ z ∷ [] → z ≡ number_in o → ns ≡ map number_in (take k (drop first os))
    → ms ≡ map number_in (take (k + 1) (drop first os))
one_more os first k o ns ms z at more is before =
    let inside : first + k < length os = slice_get_within os (first + k) o at in
    let below : k < length (drop first os) = omega (arith, length-drop first os) in
    let there : z ≡ number_in (get_or (drop first os) k no_outcome) = is ∙ ap number_in (sym (at_rest os first k o at)) in
    more ∙ (λ i. before i ++ there i ∷ []) ∙ sym (map-append number_in (take k (drop first os)) (get_or (drop first os) k no_outcome ∷ []))
    ∙ ap (map number_in) (sym (take_more (drop first os) k no_outcome below))

-- ---- a part that is there as a whole
pub all_there : (os : List Outcome) (first n : ℕ) → length (take n (drop first os)) ≡ n → (n ≡ 0 → ⊥) → first + n ≤ length os
all_there os first n whole some = omega (arith, length-take n (drop first os), length-drop first os, whole, some)

pub all_values : (ns : List ℤ) → ns ≡ map number_in (map (λ z. Value z) ns)
all_values [] = refl
all_values (z ∷ ns) = ap (λ l. z ∷ l) (all_values ns)
