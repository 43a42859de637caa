-- Forms with the same numbers are equal.
use Rattle.std.proofs.Common.{◌≡◌, IsTrue}
use Rattle.std.specs.List.{list_all}
use Rattle.std.proofs.Math.Bool.{Bool-set}
use Rattle.std.proofs.Math.Path.{to_path_p}
use Rattle.pb_linear.specs.Form.{HasNumbers, numbers}
use Rattle.pb_linear.specs.Limits.{is_number}
use Rattle.pb_linear.specs.declared.form.Form.{Form}

pub Form-same : (a b : Form) → HasNumbers (numbers b) a → a ≡ b
Form-same a b h = λ i. record {
  constant = h.constant i;
  whole = h.whole i;
  half = h.half i;
  third = h.third i;
  quarter = h.quarter i;
  small_constant = to_path_p (λ k. IsTrue (is_number (h.constant k))) {a = a.small_constant} {b = b.small_constant} (Bool-set _ _ _ _) i;
  small_whole = to_path_p (λ k. IsTrue (list_all is_number (h.whole k))) {a = a.small_whole} {b = b.small_whole} (Bool-set _ _ _ _) i;
  small_half = to_path_p (λ k. IsTrue (list_all is_number (h.half k))) {a = a.small_half} {b = b.small_half} (Bool-set _ _ _ _) i;
  small_third = to_path_p (λ k. IsTrue (list_all is_number (h.third k))) {a = a.small_third} {b = b.small_third} (Bool-set _ _ _ _) i;
  small_quarter = to_path_p (λ k. IsTrue (list_all is_number (h.quarter k))) {a = a.small_quarter} {b = b.small_quarter} (Bool-set _ _ _ _) i;
}
