-- The least and the greatest of cells are cells.
use Rattle.std.proofs.Common.{◌<◌, refl, sym, subst, List, [], ◌∷◌, length, ℤ, ◌≤ℤ◌, fold, All, Contains, ⊎_elim, arith}
use Rattle.std.specs.Int.{int_min, int_max}
use Rattle.std.proofs.lemmas.List.Elements.{All-cons, Contains-append_right}
use Rattle.std.proofs.lemmas.Int.{fold-int_max_bounds, fold-int_max_reached, fold-int_min_bounds, fold-int_min_reached}
use Rattle.pb_summary.specs.Summary.{least_of, greatest_of}

pub least_is : (cells : List ℤ) → 0 < length cells → Contains cells (least_of cells) × All (λ c. least_of cells ≤ℤ c) cells
least_is [] some = absurd (omega (arith, some))
least_is (c ∷ cs) some =
    let least = fold int_min c cs in
    let bounds = fold-int_min_bounds c cs least refl in (
      ⊎_elim (λ e. subst (Contains (c ∷ cs)) (sym e) (0, omega arith, refl)) (λ h. Contains-append_right (c ∷ []) cs least h) (fold-int_min_reached c cs least refl),
      All-cons (λ z. least ≤ℤ z) c cs bounds.0 bounds.1,
    )

pub greatest_is : (cells : List ℤ) → 0 < length cells → Contains cells (greatest_of cells) × All (λ c. c ≤ℤ greatest_of cells) cells
greatest_is [] some = absurd (omega (arith, some))
greatest_is (c ∷ cs) some =
    let greatest = fold int_max c cs in
    let bounds = fold-int_max_bounds c cs greatest refl in (
      ⊎_elim (λ e. subst (Contains (c ∷ cs)) (sym e) (0, omega arith, refl)) (λ h. Contains-append_right (c ∷ []) cs greatest h) (fold-int_max_reached c cs greatest refl),
      All-cons (λ z. z ≤ℤ greatest) c cs bounds.0 bounds.1,
    )
