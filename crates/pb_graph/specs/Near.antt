-- Numbers near 0, and expressions that can be taken from each other.
use Rattle.std.specs.Prelude.{ℕ, ◌+◌, ◌*◌, ◌^◌, ◌≤◌, ℤ, unsigned_abs, nat_le, Bool, IsTrue}
use Rattle.std.specs.List.{list_all}
use Rattle.pb_linear.specs.Form.{numbers}
use Rattle.pb_linear.specs.Numbers.{Numbers}
use Rattle.pb_linear.specs.declared.vform.VForm.{VForm}

-- at most so much in absolute value
abbrev pub is_near : ℕ → ℤ → Bool
is_near top z = nat_le (unsigned_abs z) top

pub record AreNear (top : ℕ) (n : Numbers) : Type 0 where
  pub constant : IsTrue (is_near top n.constant)
  pub whole : IsTrue (list_all (is_near top) n.whole)
  pub half : IsTrue (list_all (is_near top) n.half)
  pub third : IsTrue (list_all (is_near top) n.third)
  pub quarter : IsTrue (list_all (is_near top) n.quarter)

-- coefficients of x and y of at most so much together, and a rest of numbers of at most so much
pub record IsBounded (weight top : ℕ) (v : VForm) : Type 0 where
  pub coefficients : unsigned_abs v.x + unsigned_abs v.y ≤ weight
  pub rest : AreNear top (numbers v.rest)

-- the difference of two can be held at the worst place of any segment
pub record CanBeTaken (left right : VForm) : Type 0 where
  pub left_weight : ℕ
  pub left_top : ℕ
  pub right_weight : ℕ
  pub right_top : ℕ
  pub of_left : IsBounded left_weight left_top left
  pub of_right : IsBounded right_weight right_top right
  pub room : (left_weight + right_weight) * (2 ^ 24 + 3) + (left_top + right_top) ≤ 2 ^ 26
