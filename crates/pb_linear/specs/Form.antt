use Rattle.std.specs.Prelude.{◌≡◌, ℕ, ℤ, List}
use Rattle.pb_linear.specs.declared.form.Form.{Form}
use Rattle.pb_linear.specs.Numbers.{Numbers, exact_value}

-- the numbers of a form
abbrev pub numbers : Form → Numbers
numbers f =
    record {
      constant = f.constant;
      whole = f.whole;
      half = f.half;
      third = f.third;
      quarter = f.quarter;
    }

-- the value of a form at sizes
abbrev pub value : Form → List ℕ → ℤ
value f sizes = exact_value (numbers f) sizes

-- a form has exactly these numbers, field by field
pub record HasNumbers (n : Numbers) (f : Form) : Type 0 where
  pub constant : f.constant ≡ n.constant
  pub whole : f.whole ≡ n.whole
  pub half : f.half ≡ n.half
  pub third : f.third ≡ n.third
  pub quarter : f.quarter ≡ n.quarter
