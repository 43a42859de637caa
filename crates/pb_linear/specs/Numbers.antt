-- A form's numbers as exact integers, with no limit on their size.
use Rattle.std.specs.Prelude.{ℕ, zero, suc, ◌/◌, ℤ, pos, negsuc, ◌+ℤ◌, ◌*ℤ◌, if◌then◌else◌, List, [], ◌∷◌, map, slice_index, slice_index_or, Option, Some, None}
use Rattle.std.specs.Option.{option_or}
use Rattle.pb_linear.specs.Limits.{is_number}
use Rattle.pb_linear.specs.declared.form.OverLimit.{OverLimit}

-- a constant, and four coefficients of each variable
pub record Numbers : Type 0 where
  pub constant : ℤ
  pub whole : List ℤ
  pub half : List ℤ
  pub third : List ℤ
  pub quarter : List ℤ

-- the coefficient of a variable; 0 past the last one
abbrev pub coefficient : List ℤ → ℕ → ℤ
coefficient row i = slice_index_or row i (pos 0)

-- what a variable of this size adds: its coefficients times the size, its half, its third and its quarter rounded down
abbrev pub part : ℤ → ℤ → ℤ → ℤ → ℕ → ℤ
part whole half third quarter size =
    whole *ℤ pos size +ℤ half *ℤ pos (size / 2) +ℤ third *ℤ pos (size / 3) +ℤ quarter *ℤ pos (size / 4)

-- the part of the i-th variable
abbrev pub part_of : Numbers → ℕ → ℕ → ℤ
part_of n i = part (coefficient n.whole i) (coefficient n.half i) (coefficient n.third i) (coefficient n.quarter i)

-- the constant plus the parts of the variables before the i-th
unfoldable pub value_before : ℕ → Numbers → List ℕ → ℤ
value_before zero n sizes = n.constant
value_before (suc i) n sizes = value_before i n sizes +ℤ part_of n i (slice_index sizes i)

-- the value at sizes
abbrev pub exact_value : Numbers → List ℕ → ℤ
exact_value n sizes = value_before 8 n sizes

-- the sum of two rows, where a coefficient that is not there counts as 0
abbrev pub row_sum : List ℤ → List ℤ → List ℤ
row_sum [] ys = ys
row_sum (x ∷ xs) [] = x ∷ xs
row_sum (x ∷ xs) (y ∷ ys) = (x +ℤ y) ∷ row_sum xs ys

-- the multiple of a row
abbrev pub row_multiple : ℤ → List ℤ → List ℤ
row_multiple k row = map (λ z. k *ℤ z) row

-- the sum, number by number
abbrev pub sum_of : Numbers → Numbers → Numbers
sum_of a b =
    record {
      constant = a.constant +ℤ b.constant;
      whole = row_sum a.whole b.whole;
      half = row_sum a.half b.half;
      third = row_sum a.third b.third;
      quarter = row_sum a.quarter b.quarter;
    }

-- the multiple, number by number
abbrev pub multiple : ℤ → Numbers → Numbers
multiple k a =
    record {
      constant = k *ℤ a.constant;
      whole = row_multiple k a.whole;
      half = row_multiple k a.half;
      third = row_multiple k a.third;
      quarter = row_multiple k a.quarter;
    }

-- the difference: the sum with -1 times the other
abbrev pub difference : Numbers → Numbers → Numbers
difference a b = sum_of a (multiple (negsuc 0) b)

-- the same with another constant
abbrev pub with_constant : ℤ → Numbers → Numbers
with_constant constant a =
    record {
      constant = constant;
      whole = a.whole;
      half = a.half;
      third = a.third;
      quarter = a.quarter;
    }

-- the first number in a list that passes the limit
abbrev pub first_over : List ℤ → Option OverLimit
first_over [] = None
first_over (z ∷ zs) = if is_number z then first_over zs else Some (record { coefficient = z })

-- the refusal that these numbers call for: the first that passes the limit, in the order in which the fields stand
abbrev pub refusal : Numbers → Option OverLimit
refusal n =
    option_or (first_over (n.constant ∷ [])) (option_or (first_over n.whole) (option_or (first_over n.half) (option_or (first_over n.third) (first_over n.quarter))))

-- a row plus x times another plus y times a third
abbrev pub row_combination : List ℤ → ℤ → List ℤ → ℤ → List ℤ → List ℤ
row_combination base x first y second = row_sum base (row_sum (row_multiple x first) (row_multiple y second))
