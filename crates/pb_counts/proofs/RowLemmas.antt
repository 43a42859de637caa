-- Rows of coefficients.
use Rattle.std.proofs.Common.{List, ℤ, IsTrue}
use Rattle.std.specs.List.{All, list_all}
use Rattle.std.proofs.lemmas.Bool.{leb-true}
use Rattle.std.proofs.lemmas.List.Sums.{AllPass-from_list_all}
use Rattle.pb_linear.specs.Limits.{is_number}
use Rattle.pb_counts.specs.Rows.{IsShort}

pub short_row : (row : List ℤ) → IsTrue (list_all is_number row) → All IsShort row
short_row row h k d below = leb-true _ _ (AllPass-from_list_all is_number row h k d below)
