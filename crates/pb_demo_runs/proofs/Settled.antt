-- What a settled call of the rolling sum makes.
use Rattle.std.proofs.Common.{◌≡◌, refl, sym, ◌∙◌, ap, ap₂, subst, ℕ, zero, suc, ◌+◌, ◌-◌, ◌*◌, ◌≤◌, ◌<◌, List, [], ◌∷◌, ◌++◌, length, map, take, slice_get, Option, Some, None, Result, Ok, ℤ, pos, negsuc, ◌+ℤ◌, false, arith}
use Rattle.std.specs.List.{Contains, range_with_len}
use Rattle.std.specs.Option.{option_map_or}
use Rattle.std.proofs.lemmas.Int.{ints}
use Rattle.std.proofs.lemmas.List.{append-nil, length-map}
use Rattle.std.proofs.lemmas.Option.{none-some, same_Some}
use Rattle.pb_linear.specs.Numbers.{value_before}
use Rattle.pb_values.specs.Checked.{checked_result}
use Rattle.pb_values.specs.declared.outcome.Kind.{Kind}
use Rattle.pb_values.specs.declared.outcome.Trap.{Trap}
use Rattle.pb_values.specs.declared.outcome.Outcome.{Outcome}
use Rattle.pb_values.specs.declared.outcome.Outcome.TheVariants.{Value}
use Rattle.pb_program.specs.declared.rule.RuleKind.TheVariants as kind
use Rattle.pb_program.specs.Areas.{one_place}
use Rattle.pb_program.specs.Conditions.{Applies, Holds, at_most}
use Rattle.pb_program.specs.Forms.{CoordinateValue, constant_numbers, coordinate_at, nothing}
use Rattle.pb_program.specs.Configs.{ConfigValue}
use Rattle.pb_program.specs.Stmts.{stmts}
use Rattle.pb_program.specs.Trees.{ProgRule, ProgTransform}
use Rattle.pb_model.specs.Bodies.{Store, left_by, outputs_from, summed, with_number}
use Rattle.pb_model.specs.Calls.{IsSettled, Outcomes, Plans, cell_equation, cell_reads, made_by, made_cells, no_outcome, outcome_in}
use Rattle.pb_model.specs.Cells.{Cell, numbers_of, reads}
use Rattle.pb_model.specs.Chosen.{chosen_rule}
use Rattle.pb_model.specs.Equations.{after_body, bindings, cut_up, first_trap, number_in, own_outcome, rule_gives, trap_of, unless_trapped, view_sides}
use Rattle.pb_model.specs.Lawful.{IsLawful}
use Rattle.pb_views.proofs.CellLemmas.{numbers_are}
use Rattle.pb_grammar.specs.Want.{after_mark, expression, conjunction, compared, total, product, name_token, dimensions}
use Rattle.pb_demo.proofs.Sound.{roll}
use Rattle.pb_demo_runs.proofs.Roll.{AreNine, gives_sum, here, high_is_next, low_is_0, nth_read, outs_row, reads_row, row_of, rule, sigma, sigma_last, sigma_small, summed_is, summed_up, the_cell, checked_small}

-- numbers are no traps
none_trapped : (vs : List ℤ) → first_trap (map Value vs) ≡ None
unfolding first_trap
none_trapped [] = refl
none_trapped (v ∷ vs) = none_trapped vs

all_numbers : (vs : List ℤ) → map number_in (map Value vs) ≡ vs
all_numbers [] = refl
all_numbers (v ∷ vs) = ap (λ l. v ∷ l) (all_numbers vs)

all_taken : (vs : List ℤ) (k : ℕ) → length vs ≡ k → take (k * 1) vs ≡ vs
all_taken vs k e = subst (λ m. take m vs ≡ vs) (omega (arith, e)) (take_all vs)
  where
    take_all : (xs : List ℤ) → take (length xs) xs ≡ xs
    take_all [] = refl
    take_all (x ∷ xs) = ap (λ l. x ∷ l) (take_all xs)

-- what the first rule makes
module _ (n x s : ℕ) (vs : List ℤ) (t : ℤ) (count : length vs ≡ x + 1) (sums : summed (pos 0) vs ≡ Ok t) where
  abbrev finish : Result Store Kind → List (ℕ × ℕ) → Outcome
  finish q outs = own_outcome roll.matrices (n ∷ []) (the_cell x) (rule 0) (after_body q (λ st. outputs_from 0 st outs) (trap_of roll.matrices (n ∷ []) (the_cell x) 0 0 (rule 0)))

  gives_row : own_outcome roll.matrices (n ∷ []) (the_cell x) (rule 0) (rule_gives roll.matrices (n ∷ []) (the_cell x) 0 0 (rule 0) (map Value vs)) ≡ Value t
  unfolding after_mark expression conjunction compared total product name_token dimensions rule_gives with_number
  gives_row =
      ap₂ (λ (trap : Option Trap) (numbers : List ℤ). own_outcome roll.matrices (n ∷ []) (the_cell x) (rule 0)
      (unless_trapped trap (after_body (left_by (bindings roll.matrices (n ∷ []) (the_cell x) (rule 0) numbers) (stmts (rule 0).body)) (λ st. outputs_from 0 st (map (view_sides roll.matrices (n ∷ []) (the_cell x)) (rule 0).outs)) (trap_of roll.matrices (n ∷ []) (the_cell x) 0 0 (rule 0)))))
      (none_trapped vs) (all_numbers vs)
      ∙ ap₂ (λ (r o : List (ℕ × ℕ)). finish (left_by (record { sizes = n ∷ []; x = pos x; y = pos 0; reads = cut_up r vs; outs = o }) (stmts (rule 0).body)) o) (reads_row n x) (outs_row n x)
      ∙ ap (λ (q : Result Store Kind). finish q ((1, 1) ∷ [])) (summed_up (n ∷ []) (pos x) (pos 0) t (x + 1) vs (all_taken vs (x + 1) count) sums)

-- what the rules read
abbrev pub given_cell : ℕ → Cell
given_cell j = record { matrix = 0; x = j; y = 0 }

row_reads : (n x : ℕ) → reads roll.matrices (n ∷ []) (the_cell x) (rule 0) ≡ map given_cell (range_with_len 0 (x + 1))
unfolding after_mark expression conjunction compared total product name_token dimensions reads
row_reads n x =
    append-nil _
    ∙ row_of 0 _ 0 (x + 1) (numbers_are (record { low = here n x (nth_read 0 (rule 0)).x0; high = here n x (nth_read 0 (rule 0)).x1 }) 0 (x + 1) (sym (low_is_0 n x)) (sym (high_is_next n x)) (omega arith) ∙ ap (range_with_len 0) (omega arith)) refl

pub numbers_one : (z : ℤ) (j : ℕ) → z ≡ pos j → numbers_of (one_place z) ≡ range_with_len j 1
numbers_one z j e = let one : (j + 1) - j ≡ 1 = omega arith in numbers_are (one_place z) j (j + 1) (sym e) (omega (arith, ints, e)) (omega arith) ∙ ap (range_with_len j) one

own_place : (n x : ℕ) → here n x (nth_read 0 (rule 1)).x0 ≡ pos x
unfolding after_mark expression conjunction compared total product name_token dimensions value_before
own_place n x = omega (arith, ints)

-- the place before
abbrev before : CoordinateValue
before = record { x = pos 1; y = pos 0; rest = constant_numbers (negsuc 0); quotient = false }

is_before : (nth_read 1 (rule 1)).x0 ≡ before
unfolding after_mark expression conjunction compared total product name_token dimensions
is_before = refl

before_at : (n x : ℕ) → coordinate_at before (n ∷ []) (pos x) (pos 0) +ℤ pos 1 ≡ pos x
unfolding value_before
before_at n x = omega (arith, ints)

before_place : (n x : ℕ) → here n x (nth_read 1 (rule 1)).x0 +ℤ pos 1 ≡ pos x
before_place n x = ap (λ c. coordinate_at c (n ∷ []) (pos x) (pos 0) +ℤ pos 1) is_before ∙ before_at n x

one_less : (z : ℤ) (j : ℕ) → z +ℤ pos 1 ≡ pos (suc j) → z ≡ pos j
one_less z j e = omega (arith, ints, e)

place_before : (n j : ℕ) → here n (suc j) (nth_read 1 (rule 1)).x0 ≡ pos j
place_before n j = one_less (here n (suc j) (nth_read 1 (rule 1)).x0) j (before_place n (suc j))

two_reads : (n j : ℕ) → reads roll.matrices (n ∷ []) (the_cell (suc j)) (rule 1) ≡ given_cell (suc j) ∷ the_cell j ∷ []
unfolding after_mark expression conjunction compared total product name_token dimensions reads
two_reads n j =
    ap₂ (λ (l r : List Cell). l ++ (r ++ [])) (row_of 0 _ (suc j) 1 (numbers_one (here n (suc j) (nth_read 0 (rule 1)).x0) (suc j) (own_place n (suc j))) refl)
    (row_of 1 _ j 1 (numbers_one (here n (suc j) (nth_read 1 (rule 1)).x0) j (place_before n j)) refl)

-- ---- the rule of a cell
module _ (config : ConfigValue) (plans : Plans) (number : ℕ) (t : ProgTransform) (sizes : List ℕ) (c : Cell) where
  pub as_rule : (f : Cell → Outcome) (k : ℕ) (r : ProgRule) → chosen_rule config number t sizes c ≡ k → slice_get t.rules k ≡ Some r → r.kind ≡ kind.Cell
      → cell_equation config plans number t sizes c (map f (cell_reads config plans number t sizes c)) ≡ own_outcome t.matrices sizes c r (rule_gives t.matrices sizes c number k r (map f (reads t.matrices sizes c r)))
  unfolding cell_equation cell_reads
  as_rule f k r e at cell =
      let there : slice_get t.rules (chosen_rule config number t sizes c) ≡ Some r = subst (λ i. slice_get t.rules i ≡ Some r) (sym e) at in
      ap (λ (o : Option ProgRule). option_map_or (λ q. made_by config plans number t sizes q.kind q c (map f (option_map_or (reads t.matrices sizes c) o []))) o no_outcome) there
      ∙ ap (λ w. made_by config plans number t sizes w r c (map f (reads t.matrices sizes c r))) cell
      ∙ ap (λ (i : ℕ). own_outcome t.matrices sizes c r (rule_gives t.matrices sizes c number i r (map f (reads t.matrices sizes c r)))) e

first_there : slice_get roll.rules 0 ≡ Some (rule 0)
unfolding after_mark expression conjunction compared total product name_token dimensions
first_there = refl

are_cells : ((rule 0).kind ≡ kind.Cell) × ((rule 1).kind ≡ kind.Cell)
unfolding after_mark expression conjunction compared total product name_token dimensions
are_cells = (refl, refl)

no_third : (k : ℕ) → slice_get roll.rules (suc (suc k)) ≡ None
unfolding after_mark expression conjunction compared total product name_token dimensions
no_third k = refl

second_there : slice_get roll.rules 1 ≡ Some (rule 1)
unfolding after_mark expression conjunction compared total product name_token dimensions
second_there = refl

-- the second rule doesn't apply at the first cell
fifth : (n : ℕ) → Applies roll.matrices (rule 1) (n ∷ []) (pos 0) (pos 0) → Holds (n ∷ []) (pos 0) (pos 0) (at_most nothing 0 (nth_read 1 (rule 1)).x0)
unfolding after_mark expression conjunction compared total product name_token dimensions
fifth n h = h.1.1.1.1.0

never : (n : ℕ) → Holds (n ∷ []) (pos 0) (pos 0) (at_most nothing 0 before) → ⊥
unfolding value_before
never n h = omega (arith, ints, h)

not_at_first : (n : ℕ) → Applies roll.matrices (rule 1) (n ∷ []) (pos 0) (pos 0) → ⊥
not_at_first n h = never n (subst (λ c. Holds (n ∷ []) (pos 0) (pos 0) (at_most nothing 0 c)) is_before (fifth n h))

sum_next : (a : ℕ → ℤ) (j : ℕ) → a (suc j) +ℤ sigma a 0 (j + 1) ≡ sigma a 0 (suc j + 1)
sum_next a j =
    let one : j + 1 ≡ suc j = omega arith in
    let two : suc j + 1 ≡ suc (suc j) = omega arith in
    let at : 0 + suc j ≡ suc j = omega arith in
    ap (λ (k : ℕ). a (suc j) +ℤ sigma a 0 k) one ∙ sym (sigma_last a 0 (suc j) ∙ ap (λ (k : ℕ). a k +ℤ sigma a 0 (suc j)) at) ∙ ap (sigma a 0) (sym two)

pub length_range : (k len : ℕ) → length (range_with_len k len) ≡ len
length_range k zero = refl
length_range k (suc len) = ap suc (length_range (k + 1) len)

-- ---- a settled call
module _ (config : ConfigValue) (plans : Plans) (n : ℕ) (few : n ≤ 1048576) (ms : List Outcomes) (a : ℕ → ℤ) (small : AreNine a n)
    (given : (j : ℕ) → j < n → outcome_in ms (given_cell j) ≡ Value (a j)) (settled : IsSettled config plans 0 roll (n ∷ []) ms)
    (made : (x : ℕ) → x < n → Contains (made_cells roll (n ∷ [])) (the_cell x))
    (lawful : (x : ℕ) → x < n → IsLawful roll (n ∷ []) (the_cell x) (chosen_rule config 0 roll (n ∷ []) (the_cell x))) where
  given_row : (k len : ℕ) → k + len ≤ n → map (outcome_in ms) (map given_cell (range_with_len k len)) ≡ map Value (map a (range_with_len k len))
  given_row k zero within = refl
  given_row k (suc len) within = ap₂ (λ (o : Outcome) (l : List Outcome). o ∷ l) (given k (omega (arith, within))) (given_row (k + 1) len (omega (arith, within)))

  Is : ℕ → Type 0
  Is x = outcome_in ms (the_cell x) ≡ Value (sigma a 0 (x + 1))

  by_first : (x : ℕ) → x < n → chosen_rule config 0 roll (n ∷ []) (the_cell x) ≡ 0 → Is x
  unfolding Is
  by_first x below e =
      let vs : List ℤ = map a (range_with_len 0 (x + 1)) in
      let sums = summed_is a n 0 (x + 1) (pos 0) small few (omega (arith, below)) (omega arith) in
      let total : summed (pos 0) vs ≡ Ok (sigma a 0 (x + 1)) = sums ∙ ap Ok (omega (arith, ints)) in
      settled.equation (the_cell x) (made x below) ∙ as_rule config plans 0 roll (n ∷ []) (the_cell x) (outcome_in ms) 0 (rule 0) e first_there are_cells.0
      ∙ ap (λ (l : List Cell). own_outcome roll.matrices (n ∷ []) (the_cell x) (rule 0) (rule_gives roll.matrices (n ∷ []) (the_cell x) 0 0 (rule 0) (map (outcome_in ms) l))) (row_reads n x)
      ∙ ap (λ (l : List Outcome). own_outcome roll.matrices (n ∷ []) (the_cell x) (rule 0) (rule_gives roll.matrices (n ∷ []) (the_cell x) 0 0 (rule 0) l)) (given_row 0 (x + 1) (omega (arith, below)))
      ∙ gives_row n x 0 vs (sigma a 0 (x + 1)) (length-map (range_with_len 0 (x + 1)) a ∙ length_range 0 (x + 1)) total

  by_second : (j : ℕ) → suc j < n → chosen_rule config 0 roll (n ∷ []) (the_cell (suc j)) ≡ 1 → Is j → Is (suc j)
  unfolding Is
  by_second j below e here_before =
      let low = sigma_small a n 0 (suc j + 1) small (omega (arith, below)) in
      let same : a (suc j) +ℤ sigma a 0 (j + 1) ≡ sigma a 0 (suc j + 1) = sum_next a j in
      let fits : checked_result (a (suc j) +ℤ sigma a 0 (j + 1)) ≡ Ok (sigma a 0 (suc j + 1)) = ap checked_result same ∙ checked_small (sigma a 0 (suc j + 1)) (omega (arith, low, few, below)) in
      settled.equation (the_cell (suc j)) (made (suc j) below) ∙ as_rule config plans 0 roll (n ∷ []) (the_cell (suc j)) (outcome_in ms) 1 (rule 1) e second_there are_cells.1
      ∙ ap (λ (l : List Cell). own_outcome roll.matrices (n ∷ []) (the_cell (suc j)) (rule 1) (rule_gives roll.matrices (n ∷ []) (the_cell (suc j)) 0 1 (rule 1) (map (outcome_in ms) l))) (two_reads n j)
      ∙ ap₂ (λ (o p : Outcome). own_outcome roll.matrices (n ∷ []) (the_cell (suc j)) (rule 1) (rule_gives roll.matrices (n ∷ []) (the_cell (suc j)) 0 1 (rule 1) (o ∷ p ∷ []))) (given (suc j) below) here_before
      ∙ gives_sum n (suc j) (a (suc j)) (sigma a 0 (j + 1)) (sigma a 0 (suc j + 1)) fits

  by_rule : (x k : ℕ) → x < n → chosen_rule config 0 roll (n ∷ []) (the_cell x) ≡ k → IsLawful roll (n ∷ []) (the_cell x) k → ((j : ℕ) → x ≡ suc j → Is j) → Is x
  by_rule x zero below e is earlier = by_first x below e
  by_rule zero (suc zero) below e is earlier =
      absurd (not_at_first n (subst (λ r. Applies roll.matrices r (n ∷ []) (pos 0) (pos 0)) (sym (same_Some _ _ (sym second_there ∙ is.there))) is.can.applies))
  by_rule (suc j) (suc zero) below e is earlier = by_second j below e (earlier j refl)
  by_rule x (suc (suc k)) below e is earlier = absurd (none-some is.rule (sym (no_third k) ∙ is.there))

  pub all_sums : (x : ℕ) → x < n → outcome_in ms (the_cell x) ≡ Value (sigma a 0 (x + 1))
  unfolding Is
  all_sums zero below = by_rule zero _ below refl (lawful zero below) (λ j e. absurd (omega (arith, e)))
  all_sums (suc j) below =
      let before_it = all_sums j (omega (arith, below)) in
      by_rule (suc j) _ below refl (lawful (suc j) below) (λ i e. subst (λ k. outcome_in ms (the_cell k) ≡ Value (sigma a 0 (k + 1))) (omega (arith, e)) before_it)
