-- Rows of coefficients.
use Rattle.std.proofs.Common.{◌≡◌, ◌∙◌, sym, ap, List, ℤ, pos, IsTrue, of_z, to_z, w64, arith}
use Rattle.std.specs.List.{All, list_all}
use Rattle.std.proofs.lemmas.Bool.{leb-true}
use Rattle.std.proofs.lemmas.Int.{ints, to_z-of_z}
use Rattle.std.proofs.lemmas.List.Sums.{AllPass-from_list_all}
use Rattle.pb_linear.specs.Limits.{is_number}
use Rattle.pb_entry.specs.Standing.{IsShort}

pub short_row : (row : List ℤ) → IsTrue (list_all is_number row) → All IsShort row
short_row row h k d below = leb-true _ _ (AllPass-from_list_all is_number row h k d below)

pub zero_is : (z : ℤ) → IsShort z → of_z w64 z ≡ 0 → z ≡ pos 0
zero_is z short is = sym (to_z-of_z w64 z (omega (arith, ints, short))) ∙ ap (to_z w64) is
