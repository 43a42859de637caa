-- The rolling sum.
use Rattle.std.proofs.Common.{◌≡◌, refl, ◌∙◌, ap, ap₂, ℕ, zero, suc, ◌+◌, ◌*◌, ◌^◌, ◌≤◌, ◌<◌, true, List, [], ◌∷◌, map, take, slice_get, Option, Some, None, Result, Ok, ℤ, pos, negsuc, ◌+ℤ◌, ◌-ℤ◌, unsigned_abs, arith}
use Rattle.std.proofs.lemmas.Int.{ints}
use Rattle.std.proofs.lemmas.Bool.Decides.{nat_tests}
use Rattle.pb_values.specs.Checked.{checked_result, fits_i64}
use Rattle.pb_values.specs.declared.outcome.Kind.{Kind}
use Rattle.pb_values.specs.declared.outcome.Outcome.TheVariants.{Value}
use Rattle.std.specs.Prelude.{slice_index_or}
use Rattle.pb_program.specs.declared.view.Read.{Read}
use Rattle.pb_program.specs.declared.view.ReadView.TheVariants as ReadView
use Rattle.pb_program.specs.Forms.{CoordinateValue, coordinate_at, nothing}
use Rattle.pb_program.specs.Areas.{Area, one_place}
use Rattle.pb_program.specs.declared.rule.RuleKind.TheVariants as kind
use Rattle.pb_program.specs.Stmts.{stmts}
use Rattle.pb_program.specs.Trees.{ProgRule}
use Rattle.pb_model.specs.Bodies.{Bindings, Store, after, after_all, at_first, called, if_ok, summed, left_by, number_of, output, outputs_from, value, values, view_of, with_number}
use Rattle.pb_model.specs.Cells.{Cell, cells_of, natural, numbers_of}
use Rattle.std.specs.List.{range_with_len}
use Rattle.std.proofs.lemmas.List.{append-nil}
use Rattle.pb_linear.specs.Numbers.{value_before}
use Rattle.pb_model.specs.Equations.{after_body, bindings, cut_up, extent, first_trap, own_number, own_outcome, rule_gives, trap_of, view_sides}
use Rattle.pb_grammar.specs.Want.{after_mark, expression, conjunction, compared, total, product, name_token, dimensions}
use Rattle.pb_demo.proofs.Sound.{roll}

abbrev pub rule_or : Option ProgRule → ProgRule
rule_or (Some r) = r
rule_or None = record { priority = 0; kind = kind.Cell; outs = []; names = []; reads = []; conds = []; body = []; plan = None }

abbrev pub rule : ℕ → ProgRule
rule k = rule_or (slice_get roll.rules k)

pub place_extent : (z : ℤ) → extent (one_place z) ≡ 1
place_extent z = let one : (z +ℤ pos 1) -ℤ z ≡ pos 1 = omega (arith, ints) in ap natural one

-- what the second rule's body leaves
module _ (sizes : List ℕ) (x y a l s : ℤ) (adds : checked_result (a +ℤ l) ≡ Ok s) where
  abbrev pub two_cells : Bindings
  two_cells = record { sizes = sizes; x = x; y = y; reads = cut_up ((1, 1) ∷ (1, 1) ∷ []) (a ∷ l ∷ []); outs = (1, 1) ∷ [] }

  added : left_by two_cells (stmts (rule 1).body) ≡ Ok (with_number at_first (output 0 0 0) s)
  unfolding after_mark expression conjunction compared total product name_token dimensions after_all after value values number_of view_of
  added = rw adds refl

-- what it makes of two numbers
abbrev pub the_cell : ℕ → Cell
the_cell x = record { matrix = 1; x = x; y = 0 }

abbrev pub nth_read : ℕ → ProgRule → Read
nth_read k r = slice_index_or r.reads k (record { matrix = 0; at = 0; view = ReadView.Whole; dims = 1; x0 = nothing; y0 = nothing; x1 = nothing; y1 = nothing })

abbrev pub nth_out : ℕ → ProgRule → Read
nth_out k r = slice_index_or r.outs k (record { matrix = 0; at = 0; view = ReadView.Whole; dims = 1; x0 = nothing; y0 = nothing; x1 = nothing; y1 = nothing })

module _ (n x : ℕ) where
  abbrev pub here : CoordinateValue → ℤ
  here c = coordinate_at c (n ∷ []) (pos x) (pos 0)

  reads_one : map (view_sides roll.matrices (n ∷ []) (the_cell x)) (rule 1).reads ≡ (1, 1) ∷ (1, 1) ∷ []
  unfolding after_mark expression conjunction compared total product name_token dimensions
  reads_one = ap₂ (λ (u v : ℕ). (u, 1) ∷ (v, 1) ∷ []) (place_extent (here (nth_read 0 (rule 1)).x0)) (place_extent (here (nth_read 1 (rule 1)).x0))

  outs_one : map (view_sides roll.matrices (n ∷ []) (the_cell x)) (rule 1).outs ≡ (1, 1) ∷ []
  unfolding after_mark expression conjunction compared total product name_token dimensions
  outs_one = ap (λ (u : ℕ). (u, 1) ∷ []) (place_extent (here (nth_out 0 (rule 1)).x0))

  module _ (a l s : ℤ) (adds : checked_result (a +ℤ l) ≡ Ok s) where
    binds_two : bindings roll.matrices (n ∷ []) (the_cell x) (rule 1) (a ∷ l ∷ []) ≡ two_cells (n ∷ []) (pos x) (pos 0) a l s adds
    binds_two = ap₂ (λ (r o : List (ℕ × ℕ)). record { sizes = n ∷ []; x = pos x; y = pos 0; reads = cut_up r (a ∷ l ∷ []); outs = o }) reads_one outs_one

    pub gives_sum : own_outcome roll.matrices (n ∷ []) (the_cell x) (rule 1) (rule_gives roll.matrices (n ∷ []) (the_cell x) 0 1 (rule 1) (Value a ∷ Value l ∷ [])) ≡ Value s
    unfolding after_mark expression conjunction compared total product name_token dimensions rule_gives first_trap with_number
    gives_sum =
        ap (λ (q : Result Store Kind). own_outcome roll.matrices (n ∷ []) (the_cell x) (rule 1) (after_body q (λ st. outputs_from 0 st (map (view_sides roll.matrices (n ∷ []) (the_cell x)) (rule 1).outs)) (trap_of roll.matrices (n ∷ []) (the_cell x) 0 1 (rule 1))))
        (ap (λ b. left_by b (stmts (rule 1).body)) binds_two ∙ added (n ∷ []) (pos x) (pos 0) a l s adds)
        ∙ ap (λ (o : List (ℕ × ℕ)). Value (own_number roll.matrices (n ∷ []) (the_cell x) (rule 1).kind (rule 1).outs (outputs_from 0 (with_number at_first (output 0 0 0) s) o))) outs_one

-- what the first rule's body leaves, and what the rule makes of numbers
module _ (sizes : List ℕ) (x y s : ℤ) (k : ℕ) (vs : List ℤ) (all : take (k * 1) vs ≡ vs) (sums : summed (pos 0) vs ≡ Ok s) where
  abbrev pub one_row : Bindings
  one_row = record { sizes = sizes; x = x; y = y; reads = cut_up ((k, 1) ∷ []) vs; outs = (1, 1) ∷ [] }

  pub summed_up : left_by one_row (stmts (rule 0).body) ≡ Ok (with_number at_first (output 0 0 0) s)
  unfolding after_mark expression conjunction compared total product name_token dimensions after_all after value called number_of view_of
  summed_up = rw (all, sums) refl

-- the numbers of a span of one dimension
pub row_of : (m : ℕ) (a : Area) (low len : ℕ) → numbers_of a.x ≡ range_with_len low len → numbers_of a.y ≡ range_with_len 0 1 → cells_of m a ≡ map (λ x. record { matrix = m; x = x; y = 0 }) (range_with_len low len)
unfolding cells_of
row_of m a low len xs ys = rw (ys, xs) (append-nil _)

module _ (n x : ℕ) where
  -- the sides of what the first rule reads: from 0 to before x + 1
  row_extent : (low high : ℤ) → low ≡ pos 0 → high ≡ pos (x + 1) → extent (record { low = low; high = high }) ≡ x + 1
  row_extent low high l h = let long : high -ℤ low ≡ pos (x + 1) = omega (arith, ints, l, h) in ap natural long

  pub low_is_0 : here n x (nth_read 0 (rule 0)).x0 ≡ pos 0
  unfolding after_mark expression conjunction compared total product name_token dimensions value_before
  low_is_0 = omega (arith, ints)

  pub high_is_next : here n x (nth_read 0 (rule 0)).x1 ≡ pos (x + 1)
  unfolding after_mark expression conjunction compared total product name_token dimensions value_before
  high_is_next = omega (arith, ints)

  pub reads_row : map (view_sides roll.matrices (n ∷ []) (the_cell x)) (rule 0).reads ≡ (x + 1, 1) ∷ []
  unfolding after_mark expression conjunction compared total product name_token dimensions
  reads_row = ap (λ (u : ℕ). (u, 1) ∷ []) (row_extent (here n x (nth_read 0 (rule 0)).x0) (here n x (nth_read 0 (rule 0)).x1) low_is_0 high_is_next)

  pub outs_row : map (view_sides roll.matrices (n ∷ []) (the_cell x)) (rule 0).outs ≡ (1, 1) ∷ []
  unfolding after_mark expression conjunction compared total product name_token dimensions
  outs_row = ap (λ (u : ℕ). (u, 1) ∷ []) (place_extent (here n x (nth_out 0 (rule 0)).x0))

-- ---- sums of small numbers
fits_small : (z : ℤ) → unsigned_abs z ≤ 2 ^ 40 → fits_i64 z ≡ true
fits_small (pos m) h = grind (arith, nat_tests, h)
fits_small (negsuc m) h = grind (arith, nat_tests, h)

pub checked_small : (z : ℤ) → unsigned_abs z ≤ 2 ^ 40 → checked_result z ≡ Ok z
checked_small z h = rw (fits_small z h) refl

-- so many numbers from the k-th on
pub sigma : (ℕ → ℤ) → ℕ → ℕ → ℤ
sigma a k zero = pos 0
sigma a k (suc len) = a k +ℤ sigma a (k + 1) len

pub sigma_none : (a : ℕ → ℤ) (k : ℕ) → sigma a k zero ≡ pos 0
unfolding sigma
sigma_none a k = refl

pub sigma_more : (a : ℕ → ℤ) (k len : ℕ) → sigma a k (suc len) ≡ a k +ℤ sigma a (k + 1) len
unfolding sigma
sigma_more a k len = refl

pub sigma_last : (a : ℕ → ℤ) (k len : ℕ) → sigma a k (suc len) ≡ a (k + len) +ℤ sigma a k len
unfolding sigma
sigma_last a k zero = ap (λ i. a i +ℤ pos 0) (omega arith)
sigma_last a k (suc len) =
    let same : a (k + 1 + len) ≡ a (k + suc len) = ap a (omega arith) in
    omega (arith, ints, sigma_last a (k + 1) len, same)

-- each is from -9 to 9
abbrev pub AreNine : (ℕ → ℤ) → ℕ → Type 0
AreNine a n = (j : ℕ) → j < n → unsigned_abs (a j) ≤ 9

pub sigma_small : (a : ℕ → ℤ) (n k len : ℕ) → AreNine a n → k + len ≤ n → unsigned_abs (sigma a k len) ≤ 9 * len
unfolding sigma
sigma_small a n k zero small within = omega arith
sigma_small a n k (suc len) small within = omega (arith, ints, small k (omega (arith, within)), sigma_small a n (k + 1) len small (omega (arith, within)))

pub summed_is : (a : ℕ → ℤ) (n k len : ℕ) (t : ℤ) → AreNine a n → n ≤ 1048576 → k + len ≤ n → unsigned_abs t ≤ 9 * k → summed t (map a (range_with_len k len)) ≡ Ok (t +ℤ sigma a k len)
unfolding sigma summed
summed_is a n k zero t small few within low = ap Ok (omega (arith, ints))
summed_is a n k (suc len) t small few within low =
    let here = small k (omega (arith, within)) in
    let next : unsigned_abs (t +ℤ a k) ≤ 9 * (k + 1) = omega (arith, ints, here, low) in
    ap (λ (r : Result ℤ Kind). if_ok r (λ m. summed m (map a (range_with_len (k + 1) len)))) (checked_small (t +ℤ a k) (omega (arith, next, within, few)))
    ∙ summed_is a n (k + 1) len (t +ℤ a k) small few (omega (arith, within)) next ∙ ap Ok (omega (arith, ints))
