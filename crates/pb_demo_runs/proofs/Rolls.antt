-- The run of the rolling sum.
use Rattle.std.proofs.Common.{◌≡◌, refl, sym, ◌∙◌, ap, subst, ℕ, zero, suc, ◌+◌, ◌-◌, ◌*◌, ◌≤◌, ◌<◌, nat_lt, true, List, [], ◌∷◌, ◌++◌, length, map, get_or, slice_get, Some, None, ℤ, pos, unsigned_abs, arith}
use Rattle.std.specs.List.{All, Contains, range_with_len}
use Rattle.std.proofs.lemmas.Int.{ints}
use Rattle.std.proofs.lemmas.Bool.Decides.{nat_tests}
use Rattle.std.proofs.lemmas.List.{append-nil, length-map}
use Rattle.std.proofs.lemmas.Option.{none-some, same_Some}
use Rattle.pb_base.proofs.ListLemmas.{in_map, map_in, range_in}
use Rattle.pb_linear.specs.Numbers.{exact_value, value_before}
use Rattle.pb_linear.specs.Sizes.{InRange, leasts_of}
use Rattle.pb_linear.specs.declared.sizes.TheConstants.{SIZE_TOP}
use Rattle.pb_values.specs.declared.outcome.Outcome.TheVariants.{Value}
use Rattle.pb_program.specs.Configs.{ConfigValue, IsValid}
use Rattle.pb_program.specs.Forms.{DeclValue}
use Rattle.pb_program.specs.WellFormed.{IsWellFormed}
use Rattle.pb_model.specs.Calls.{IsSettled, Outcomes, first_trapped, in_matrices, call_of, made_cells, outcome_in}
use Rattle.pb_model.specs.Cells.{Cell, IsCell, natural}
use Rattle.pb_model.specs.Chosen.{chosen_rule}
use Rattle.pb_model.specs.Lawful.{IsLawful}
use Rattle.pb_model.proofs.ChosenLemmas.{chosen_lawful}
use Rattle.pb_calls.specs.Given.{AreGiven, HasSides}
use Rattle.pb_calls.proofs.Handed.{all_at}
use Rattle.pb_calls.proofs.SettledLemmas.{call_settled}
use Rattle.pb_check.specs.Orders.{IsOrdered}
use Rattle.pb_check.proofs.CoverLemmas.{has_lawful}
use Rattle.pb_recursion.specs.Depths.{call_at, plans_at, sizes_given}
use Rattle.pb_recursion.specs.Shapes.{sizes_from}
use Rattle.pb_recursion.proofs.DepthLemmas.{call_is}
use Rattle.pb_views.proofs.CellLemmas.{numbers_are}
use Rattle.pb_grammar.specs.Want.{after_mark, expression, conjunction, compared, total, product, name_token, dimensions}
use Rattle.pb_gen.specs.Texts.{text_of}
use Rattle.pb_demo.proofs.Accepted.{roll_accepted}
use Rattle.pb_demo.proofs.Entries.{roll_there}
use Rattle.pb_demo.proofs.Found.{formed}
use Rattle.pb_demo.proofs.Sound.{decl_or, roll, roll_leasts}
use Rattle.pb_demo.proofs.Trees.{program}
use Rattle.pb_demo_runs.proofs.Roll.{AreNine, row_of, sigma, the_cell}
use Rattle.pb_demo_runs.proofs.Made.{made_numbers}
use Rattle.pb_demo_runs.proofs.Lists.{each_mapped}
use Rattle.pb_demo_runs.proofs.Nines.{AllHold, IsNumber, none_trapped_of}
use Rattle.pb_demo_runs.proofs.Settled.{all_sums, given_cell, length_range}

abbrev pub made : DeclValue
made = decl_or (slice_get roll.matrices 1)

abbrev pub input : DeclValue
input = decl_or (slice_get roll.matrices 0)

pub sides_of_input : (n : ℕ) → (exact_value input.w (n ∷ []) ≡ pos n) × (exact_value input.h (n ∷ []) ≡ pos 1)
unfolding after_mark expression conjunction compared total product name_token dimensions value_before
sides_of_input n = (omega (arith, ints), omega (arith, ints))

pub sides_of_made : (n : ℕ) → (exact_value made.w (n ∷ []) ≡ pos n) × (exact_value made.h (n ∷ []) ≡ pos 1)
unfolding after_mark expression conjunction compared total product name_token dimensions value_before
sides_of_made n = (omega (arith, ints), omega (arith, ints))

pub input_there : slice_get roll.matrices 0 ≡ Some input
unfolding after_mark expression conjunction compared total product name_token dimensions
input_there = refl

pub made_there : slice_get roll.matrices 1 ≡ Some made
unfolding after_mark expression conjunction compared total product name_token dimensions
made_there = refl

pub one_input : roll.inputs ≡ 1
unfolding after_mark expression conjunction compared total product name_token dimensions
one_input = refl

pub no_third : (k : ℕ) → slice_get roll.matrices (suc (suc k)) ≡ None
unfolding after_mark expression conjunction compared total product name_token dimensions
no_third k = refl

-- the cells that its rules make
cells_are : (n : ℕ) → made_cells roll (n ∷ []) ≡ map the_cell (range_with_len 0 n)
unfolding after_mark expression conjunction compared total product name_token dimensions made_cells
cells_are n =
    append-nil _
    ∙ row_of 1 (record { x = record { low = pos 0; high = exact_value made.w (n ∷ []) }; y = record { low = pos 0; high = exact_value made.h (n ∷ []) } }) 0 n
    (numbers_are (record { low = pos 0; high = exact_value made.w (n ∷ []) }) 0 n refl (sym (sides_of_made n).0) (omega arith) ∙ ap (range_with_len 0) (let same : n - 0 ≡ n = omega arith in same))
    (numbers_are (record { low = pos 0; high = exact_value made.h (n ∷ []) }) 0 1 refl (sym (sides_of_made n).1) (omega arith))

in_range : (k len x : ℕ) → k ≤ x → x < k + len → Contains (range_with_len k len) x
in_range k len x low high = (x - k, omega (arith, low, high, length_range k len), at k len (x - k) x (omega (arith, low, high)) ∙ omega (arith, low))
  where
    at : (k len i d : ℕ) → i < len → get_or (range_with_len k len) i d ≡ k + i
    at k zero i d below = absurd (omega (arith, below))
    at k (suc len) zero d below = omega arith
    at k (suc len) (suc i) d below = at (k + 1) len i d (omega (arith, below)) ∙ omega arith

pub well : IsWellFormed (program 1)
well = formed (text_of 1) (program 1) roll_accepted

ordered : IsOrdered roll
ordered = all_at IsOrdered (program 1) 0 roll roll_accepted.sound.ordered roll_there

-- ---- its matrices
module _ (n : ℕ) (some : 1 ≤ n) (few : n ≤ SIZE_TOP) (vs : List ℤ) (count : length vs ≡ n) (small : All (λ z. unsigned_abs z ≤ 9) vs) where
  abbrev pub line : Outcomes
  line = record { width = n; height = 1; cells = map Value vs }

  abbrev a : ℕ → ℤ
  a j = get_or vs j (pos 0)

  nine : AreNine a n
  nine j below = small j (pos 0) (omega (arith, below, count))

  number_at : (xs : List ℤ) (j : ℕ) → j < length xs → slice_get (map Value xs) j ≡ Some (Value (get_or xs j (pos 0)))
  number_at [] j below = absurd (omega (arith, below))
  number_at (x ∷ xs) zero below = refl
  number_at (x ∷ xs) (suc j) below = number_at xs j (omega (arith, below))

  given_at : (rest : List Outcomes) (j : ℕ) → j < n → outcome_in (line ∷ rest) (given_cell j) ≡ Value (a j)
  unfolding in_matrices
  given_at rest j below =
      let inside : nat_lt j n ≡ true = grind (arith, nat_tests, below) in
      let place : 0 * n + j ≡ j = omega arith in
      rw (inside, place, number_at vs j (omega (arith, below, count))) refl

  range : InRange (leasts_of roll.ranges) (n ∷ [])
  range = subst (λ l. InRange l (n ∷ [])) (sym roll_leasts) (some, few, tt)

  sides : (m : ℕ) (d : DeclValue) (g : Outcomes) → slice_get roll.matrices m ≡ Some d → slice_get (line ∷ []) m ≡ Some g → HasSides (n ∷ []) d g
  sides zero d g at there =
      let is_d : input ≡ d = same_Some _ _ (sym input_there ∙ at) in
      let is_g : line ≡ g = same_Some _ _ there in
      subst (λ x. HasSides (n ∷ []) d x) is_g (subst (λ x. HasSides (n ∷ []) x line) is_d (record { width = sym (ap natural (sides_of_input n).0); height = sym (ap natural (sides_of_input n).1); all = length-map vs Value ∙ omega (arith, count) }))
  sides (suc m) d g at there = absurd (none-some g there)

  are_given : AreGiven roll (n ∷ []) (line ∷ [])
  are_given = record { count = sym one_input; each = sides }

  sizes_are : sizes_given roll (line ∷ []) ≡ n ∷ []
  unfolding after_mark expression conjunction compared total product name_token dimensions sizes_from
  sizes_are = refl

  cell_is : (x : ℕ) → x < n → IsCell roll (n ∷ []) (the_cell x)
  cell_is x below = record { in_range = range; decl = made; there = made_there; before_x = omega (arith, ints, below, (sides_of_made n).0); before_y = omega (arith, ints, (sides_of_made n).1) }

  made_in : (x : ℕ) → x < n → Contains (made_cells roll (n ∷ [])) (the_cell x)
  made_in x below = subst (λ l. Contains l (the_cell x)) (sym (cells_are n)) (in_map the_cell (range_with_len 0 n) x (in_range 0 n x (omega arith) (omega (arith, below))))

  -- ---- its run
  module _ (config : ConfigValue) (valid : IsValid (program 1) config) (depth : ℕ) where
    lawful_at : (x : ℕ) → x < n → IsLawful roll (n ∷ []) (the_cell x) (chosen_rule config 0 roll (n ∷ []) (the_cell x))
    lawful_at x below =
        chosen_lawful (program 1) config 0 roll (n ∷ []) (the_cell x) valid
        (has_lawful (program 1) 0 roll (the_cell x) (n ∷ []) well roll_accepted.sound roll_there (cell_is x below) (omega (arith, one_input)))

    abbrev made_by_it : List Outcomes
    made_by_it = call_at (program 1) config depth 0 (line ∷ [])

    settled : IsSettled config (plans_at (program 1) config depth 0 roll (n ∷ [])) 0 roll (n ∷ []) ((line ∷ []) ++ made_by_it)
    settled =
        let of_sizes = λ (sizes : List ℕ). IsSettled config (plans_at (program 1) config depth 0 roll sizes) 0 roll sizes ((line ∷ []) ++ call_of config (plans_at (program 1) config depth 0 roll sizes) 0 roll sizes (line ∷ [])) in
        let here : of_sizes (n ∷ []) = call_settled (program 1) 0 roll ordered.analysis (n ∷ []) config (plans_at (program 1) config depth 0 roll (n ∷ [])) (line ∷ []) well roll_accepted.sound roll_there ordered.is valid range are_given in
        subst (λ made. IsSettled config (plans_at (program 1) config depth 0 roll (n ∷ [])) 0 roll (n ∷ []) ((line ∷ []) ++ made))
        (sym (call_is (program 1) config depth 0 roll (line ∷ []) roll_there ∙ ap (λ (sizes : List ℕ). call_of config (plans_at (program 1) config depth 0 roll sizes) 0 roll sizes (line ∷ [])) sizes_are)) here

    pub sums : (x : ℕ) → x < n → outcome_in ((line ∷ []) ++ made_by_it) (the_cell x) ≡ Value (sigma a 0 (x + 1))
    sums = all_sums config (plans_at (program 1) config depth 0 roll (n ∷ [])) n few ((line ∷ []) ++ made_by_it) a nine (given_at made_by_it) settled made_in lawful_at

    -- all that it makes are numbers
    made_is : made_by_it ≡ call_of config (plans_at (program 1) config depth 0 roll (n ∷ [])) 0 roll (n ∷ []) (line ∷ [])
    made_is = call_is (program 1) config depth 0 roll (line ∷ []) roll_there ∙ ap (λ (sizes : List ℕ). call_of config (plans_at (program 1) config depth 0 roll sizes) 0 roll sizes (line ∷ [])) sizes_are

    each_number : (c : Cell) → Contains (made_cells roll (n ∷ [])) c → IsNumber (outcome_in ((line ∷ []) ++ made_by_it) c)
    each_number c has =
        let x = map_in the_cell (range_with_len 0 n) c (subst (λ cs. Contains cs c) (cells_are n) has) in
        subst (λ q. IsNumber (outcome_in ((line ∷ []) ++ made_by_it) q)) x.2 (subst IsNumber (sym (sums x.0 (range_in n x.0 x.1))) tt)

    made_alone : AllHold IsNumber made_by_it
    made_alone =
        subst (AllHold IsNumber) (sym made_is)
        (made_numbers config (plans_at (program 1) config depth 0 roll (n ∷ [])) 0 roll (n ∷ []) (line ∷ []) (sym one_input) (λ c has. subst (λ (ms : List Outcomes). IsNumber (outcome_in ((line ∷ []) ++ ms) c)) made_is (each_number c has)))

    pub untrapped : (cells : List Cell) → first_trapped ((line ∷ []) ++ made_by_it) cells ≡ None
    untrapped = none_trapped_of ((line ∷ []) ++ made_by_it) (each_mapped IsNumber Value (λ z. tt) vs, made_alone)
