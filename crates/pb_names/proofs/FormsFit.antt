-- The numbers of a form are small, and none stands for a size or a rule variable that isn't there.
use Rattle.std.proofs.Common.{◌≡◌, ℕ, zero, suc, ◌+◌, ◌^◌, ◌<◌, ◌≤◌, ℤ, pos, ◌+ℤ◌, unsigned_abs, IsTrue, Bool, true, false, ◌==◌, if◌then◌else◌, List, [], ◌∷◌, length, drop, Option, Some, None, refl, subst, sym, arith}
use Rattle.std.specs.List.{AllByRecursion, list_all}
use Rattle.std.specs.Option.{IfSome}
use Rattle.std.proofs.lemmas.Bool.{and_parts}
use Rattle.std.proofs.lemmas.Int.{ints}
use Rattle.std.proofs.lemmas.Bool.Decides.{nat_tests}
use Rattle.std.proofs.lemmas.List.{drop-set-lt}
use Rattle.pb_linear.specs.Numbers.{Numbers, coefficient}
use Rattle.pb_values.specs.Name.{NameValue}
use Rattle.pb_syntax.specs.declared.tree.form.TermText.{TermText}
use Rattle.pb_syntax.specs.Forms.{FormValue}
use Rattle.pb_syntax.specs.WithinLimits.{FormWithin, TermWithin}
use Rattle.pb_program.specs.declared.meaning.Meaning.{Meaning}
use Rattle.pb_program.specs.declared.meaning.Meaning.TheVariants as meaning
use Rattle.pb_program.specs.Forms.{CoordinateValue, constant_numbers, no_coefficients, nothing}
use Rattle.pb_program.specs.WellFormed.{Around, IsCoordinate, IsForm, IsThere, is_small}
use Rattle.pb_names.specs.Bounds.{is_within}
use Rattle.pb_names.specs.Names.{look}
use Rattle.pb_names.specs.Sums.{add_to, add_size, add_named, add_number, add_found, signed, add_by_name, add_term, add_terms, sum_of_terms, collected}
use Rattle.pb_names.proofs.SumLemmas.{within_more, within_added, row_more, row_set}
use Rattle.pb_names.proofs.ListFits.{all_drop, found_fits}

signed_small : (minus : Bool) (factor : ℕ) → factor ≤ 2 ^ 20 → unsigned_abs (signed minus factor) ≤ 2 ^ 20
signed_small true factor h = grind (arith, ints)
signed_small false factor h = grind (arith, ints)

within_small : (n : ℕ) (z : ℤ) → n ≤ 8 → IsTrue (is_within n z) → IsTrue (is_small z)
within_small n z few h = grind (arith, nat_tests)

rows_small : (n : ℕ) (row : List ℤ) → n ≤ 8 → IsTrue (list_all (is_within n) row) → IsTrue (list_all is_small row)
rows_small n [] few h = refl
rows_small n (z ∷ zs) few h = let k = and_parts (is_within n z) (list_all (is_within n) zs) h in rw (within_small n z few k.0) (rows_small n zs few k.1)

zero_within : (n : ℕ) → IsTrue (is_within n (pos 0))
zero_within n = grind (arith, nat_tests)

at_within : (n : ℕ) (row : List ℤ) (i : ℕ) → IsTrue (list_all (is_within n) row) → IsTrue (is_within n (coefficient row i))
at_within n [] i h = zero_within n
at_within n (z ∷ zs) zero h = (and_parts (is_within n z) (list_all (is_within n) zs) h).0
at_within n (z ∷ zs) (suc i) h = at_within n zs i (and_parts (is_within n z) (list_all (is_within n) zs) h).1

-- of a sum of so many terms
pub record RowFits (sizes n : ℕ) (row : List ℤ) : Type 0 where
  pub small : IsTrue (list_all (is_within n) row)
  pub past : AllByRecursion (λ z. z ≡ pos 0) (drop sizes row)

pub record RestFits (sizes n : ℕ) (r : Numbers) : Type 0 where
  pub constant : IsTrue (is_within n r.constant)
  pub whole : RowFits sizes n r.whole
  pub half : RowFits sizes n r.half
  pub third : RowFits sizes n r.third
  pub quarter : RowFits sizes n r.quarter

pub record SumFits (sizes variables n : ℕ) (c : CoordinateValue) : Type 0 where
  pub x : IsTrue (is_within n c.x)
  pub y : IsTrue (is_within n c.y)
  pub none : variables ≡ 0 → c.x ≡ pos 0
  pub one : variables ≤ 1 → c.y ≡ pos 0
  pub rest : RestFits sizes n c.rest

rest_of : {sizes n : ℕ} (r : Numbers) → IsTrue (is_within n r.constant) → RowFits sizes n r.whole → RowFits sizes n r.half → RowFits sizes n r.third
    → RowFits sizes n r.quarter
    → RestFits sizes n r
rest_of r c w h t q = record { constant = c; whole = w; half = h; third = t; quarter = q }

module _ (sizes n : ℕ) where
  more : (row : List ℤ) → RowFits sizes n row → RowFits sizes (n + 1) row
  more row h = record { small = row_more n row h.small; past = h.past }

  added : (row : List ℤ) (k : ℕ) (d : ℤ) → k < sizes → unsigned_abs d ≤ 2 ^ 20 → RowFits sizes n row → RowFits sizes (n + 1) (add_to row k d)
  added row k d there small h = record {
    small = row_set n row k (coefficient row k +ℤ d) h.small (within_added n (coefficient row k) d (at_within n row k h.small) small);
    past = subst (AllByRecursion (λ z. z ≡ pos 0)) (sym (drop-set-lt sizes row k (coefficient row k +ℤ d) there)) h.past;
  }

  rest_more : (r : Numbers) → RestFits sizes n r → RestFits sizes (n + 1) r
  rest_more r h = rest_of r (within_more n r.constant h.constant) (more r.whole h.whole) (more r.half h.half) (more r.third h.third) (more r.quarter h.quarter)

  module _ (r : Numbers) (k : ℕ) (d : ℤ) (there : k < sizes) (small : unsigned_abs d ≤ 2 ^ 20) (h : RestFits sizes n r) where
    by_quotient : (a b c : Bool)
        → RestFits sizes (n + 1) (if a then record r { whole = add_to r.whole k d } else if b then record r { half = add_to r.half k d } else
        if c then record r { third = add_to r.third k d } else record r { quarter = add_to r.quarter k d })
    by_quotient true b c = let o = rest_more r h in rest_of _ o.constant (added r.whole k d there small h.whole) o.half o.third o.quarter
    by_quotient false true c = let o = rest_more r h in rest_of _ o.constant o.whole (added r.half k d there small h.half) o.third o.quarter
    by_quotient false false true = let o = rest_more r h in rest_of _ o.constant o.whole o.half (added r.third k d there small h.third) o.quarter
    by_quotient false false false = let o = rest_more r h in rest_of _ o.constant o.whole o.half o.third (added r.quarter k d there small h.quarter)

    size_added : (q : ℕ) → RestFits sizes (n + 1) (add_size r k q d)
    size_added q = by_quotient (q == 0) (q == 2) (q == 3)

pub all_zero : AllByRecursion (λ z. z ≡ pos 0) no_coefficients
all_zero = (refl, (refl, (refl, (refl, (refl, (refl, (refl, (refl, tt {0}))))))))

zeros_fit : (sizes : ℕ) → RowFits sizes 0 no_coefficients
zeros_fit sizes = record { small = refl; past = all_drop (λ z. z ≡ pos 0) sizes no_coefficients all_zero }

nothing_fits : (sizes variables : ℕ) → SumFits sizes variables 0 nothing
nothing_fits sizes variables =
    let z = zeros_fit sizes in
    record { x = refl; y = refl; none = λ _. refl; one = λ _. refl; rest = record { constant = refl; whole = z; half = z; third = z; quarter = z } }

form_fits : (sizes n : ℕ) (r : Numbers) → n ≤ 8 → RestFits sizes n r → IsForm sizes r
form_fits sizes n r few h = record {
  constant = within_small n r.constant few h.constant;
  whole = (rows_small n r.whole few h.whole.small, h.whole.past);
  half = (rows_small n r.half few h.half.small, h.half.past);
  third = (rows_small n r.third few h.third.small, h.third.past);
  quarter = (rows_small n r.quarter few h.quarter.small, h.quarter.past);
}

coordinate_fits : (sizes variables n : ℕ) (c : CoordinateValue) → n ≤ 8 → SumFits sizes variables n c → IsCoordinate sizes variables c
coordinate_fits sizes variables n c few h =
    record { x = within_small n c.x few h.x; y = within_small n c.y few h.y; none = h.none; one = h.one; rest = form_fits sizes n c.rest few h.rest }

pub nothing_there : (sizes variables : ℕ) → IsCoordinate sizes variables nothing
nothing_there sizes variables = coordinate_fits sizes variables 0 nothing (omega arith) (nothing_fits sizes variables)

pub constant_fits : (sizes : ℕ) (k : ℕ) → k ≤ 1 → IsForm sizes (constant_numbers (pos k))
constant_fits sizes k h =
    let z : RowFits sizes 1 no_coefficients = more sizes 0 no_coefficients (zeros_fit sizes) in
    form_fits sizes 1 (constant_numbers (pos k)) (omega arith) (rest_of _ (grind (arith, ints, nat_tests)) z z z z)

module _ (a : Around) (l : ℕ) where
  -- each of these names names what is there
  abbrev pub Fit : List (List ℕ × Meaning) → Type 0
  Fit names = AllByRecursion (λ e. IsThere a l e.1) names

  module _ (n : ℕ) (c : CoordinateValue) (h : SumFits a.sizes a.variables n c) where
    same : SumFits a.sizes a.variables (n + 1) c
    same = record { x = within_more n c.x h.x; y = within_more n c.y h.y; none = h.none; one = h.one; rest = rest_more a.sizes n c.rest h.rest }

    module _ (d : ℤ) (small : unsigned_abs d ≤ 2 ^ 20) where
      x_added : 1 ≤ a.variables → (b : Bool) → SumFits a.sizes a.variables (n + 1) (if b then record c { x = c.x +ℤ d } else record c { quotient = true })
      x_added there true = record { x = within_added n c.x d h.x small; y = same.y; none = λ e. absurd (omega arith); one = h.one; rest = same.rest }
      x_added there false = record { x = same.x; y = same.y; none = h.none; one = h.one; rest = same.rest }

      y_added : 2 ≤ a.variables → (b : Bool) → SumFits a.sizes a.variables (n + 1) (if b then record c { y = c.y +ℤ d } else record c { quotient = true })
      y_added there true = record { x = same.x; y = within_added n c.y d h.y small; none = h.none; one = λ e. absurd (omega arith); rest = same.rest }
      y_added there false = record { x = same.x; y = same.y; none = h.none; one = h.one; rest = same.rest }

      named_added : (m : Meaning) (q : ℕ) → IsThere a l m → SumFits a.sizes a.variables (n + 1) (add_named c m q d)
      named_added (meaning.Size k) q there =
          record { x = same.x; y = same.y; none = h.none; one = h.one; rest = size_added a.sizes n c.rest k d there small h.rest q }
      named_added meaning.RuleX q there = x_added there (q == 0)
      named_added meaning.RuleY q there = y_added there (q == 0)
      named_added m q there = same

      found_added : (o : Option Meaning) (q : ℕ) → IfSome o (IsThere a l) → SumFits a.sizes a.variables (n + 1) (add_found c o q d)
      found_added (Some m) q there = named_added m q there
      found_added None q there = same

      number_added : SumFits a.sizes a.variables (n + 1) (add_number c d)
      number_added =
          let r = same.rest in
          let rest = rest_of _ (within_added n c.rest.constant d h.rest.constant small) r.whole r.half r.third r.quarter in
          record { x = same.x; y = same.y; none = h.none; one = h.one; rest = rest }

      by_name : (names : List (List ℕ × Meaning)) → Fit names → (o : Option NameValue) (q : ℕ) → SumFits a.sizes a.variables (n + 1) (add_by_name names c o q d)
      by_name names fit None q = number_added
      by_name names fit (Some name) q = found_added (look name.bytes names) q (found_fits (IsThere a l) name.bytes names fit)

  module _ (names : List (List ℕ × Meaning)) (fit : Fit names) where
    term_added : (n : ℕ) (c : CoordinateValue) → SumFits a.sizes a.variables n c → (minus : Bool) (t : TermText) → TermWithin t
        → SumFits a.sizes a.variables (n + 1) (add_term names c minus t)
    term_added n c h minus t w = by_name n c h (signed minus t.factor) (signed_small minus t.factor w.factor) names fit t.name t.quotient

    terms_fit : (n : ℕ) (c : CoordinateValue) (ts : List TermText) → n + length ts ≤ 8 → SumFits a.sizes a.variables n c → AllByRecursion TermWithin ts
        → IsCoordinate a.sizes a.variables (add_terms names c ts)
    terms_fit n c [] few h w = coordinate_fits a.sizes a.variables n c (omega arith) h
    terms_fit n c (t ∷ ts) few h w = terms_fit (n + 1) (add_term names c t.minus t) ts (omega arith) (term_added n c h t.minus t w.0) w.1

    sum_fits : (minus : Bool) (ts : List TermText) → length ts ≤ 8 → AllByRecursion TermWithin ts
        → IsCoordinate a.sizes a.variables (sum_of_terms names minus ts)
    sum_fits minus [] few w = nothing_there a.sizes a.variables
    sum_fits minus (t ∷ ts) few w =
        terms_fit 1 (add_term names nothing minus t) ts (omega arith) (term_added 0 nothing (nothing_fits a.sizes a.variables) minus t w.0) w.1

    pub collected_fits : (f : FormValue) → FormWithin f → IsCoordinate a.sizes a.variables (collected names f)
    collected_fits f w = sum_fits f.minus f.terms w.few w.terms
