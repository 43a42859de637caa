-- The values of size variables.
use Rattle.std.proofs.Common.{◌≡◌, ◌≢◌, ◌∙◌, refl, sym, ap, subst, inl, inr, ⊎_elim, ◌⊎◌, ℕ, zero, suc, ◌+◌, ◌<◌, ◌≤◌, List, [], ◌∷◌, ◌++◌, length, get_or, take, drop, ℤ, pos, negsuc, arith}
use Rattle.std.specs.List.{AllByRecursion, zip}
use Rattle.std.proofs.lemmas.Bool.{cases_eq}
use Rattle.std.proofs.lemmas.Int.{ints}
use Rattle.std.proofs.lemmas.List.{ext_get_or, get_or-take, get_or_append_left, get_or_push, length_push, length-take-le}
use Rattle.std.proofs.lemmas.Option.{get_or_from_slice_get, slice_get_within}
use Rattle.pb_base.proofs.WayLemmas.{Decided, decided-and}
use Rattle.pb_linear.specs.Numbers.{Numbers, coefficient}
use Rattle.pb_matrix.specs.Value.{MatrixValue}
use Rattle.pb_program.specs.Forms.{DeclValue}
use Rattle.pb_program.specs.WellFormed.{IsBound, size_numbers}
use Rattle.pb_check.proofs.FirstLemmas.{all_at, same_item, same_place, some_at, some_first}
use Rattle.pb_entry.specs.Fitting.{Given, Gives, HasValue, HasValues, Lacks}
use Rattle.pb_entry.proofs.PairLemmas.{pair_at}

-- ---- whether a form is a size variable alone
decided_zero : (z : ℤ) → Decided (z ≡ pos 0)
decided_zero (pos zero) = inl refl
decided_zero (pos (suc n)) = inr (λ e. omega (arith, ints, e))
decided_zero (negsuc n) = inr (λ e. omega (arith, ints, e))

decided_one : (z : ℤ) → Decided (z ≡ pos 1)
decided_one (pos n) = ⊎_elim (λ e. inl (ap (λ k. pos k) e)) (λ ne. inr (λ e. ne (omega (arith, ints, e)))) (cases_eq n 1)
decided_one (negsuc n) = inr (λ e. omega (arith, ints, e))

decided_row : (row : List ℤ) → Decided (AllByRecursion (λ z. z ≡ pos 0) row)
decided_row [] = inl tt
decided_row (z ∷ row) = decided-and (decided_zero z) (decided_row row)

decided_like : {P Q : Type 0} → (P → Q) → (Q → P) → Decided P → Decided Q
decided_like there back d = ⊎_elim (λ p. inl (there p)) (λ no_p. inr (λ q. no_p (back q))) d

decided_alone : (k : ℕ) (n : Numbers) → Decided (size_numbers k n)
decided_alone k n =
    decided_like (λ h. (h.0.0, h.0.1, h.1.0.0, h.1.0.1, h.1.1.0, h.1.1.1.0, h.1.1.1.1)) (λ h. ((h.0, h.1), ((h.2, h.3), (h.4, (h.5, h.6)))))
    (decided-and (decided-and (decided_zero n.constant) (decided_one (coefficient n.whole k)))
    (decided-and (decided-and (decided_row (take k n.whole)) (decided_row (drop (k + 1) n.whole))) (decided-and (decided_row n.half) (decided-and (decided_row n.third) (decided_row n.quarter)))))

lacks_or_gives : (k : ℕ) (g : Given) → Lacks k g ⊎ ((v : ℕ) × Gives k v g)
lacks_or_gives k g = ⊎_elim
    (λ wide. inr (g.1.shape.w, inl (wide, refl)))
    (λ not_wide. ⊎_elim (λ tall. inr (g.1.shape.h, inr (not_wide, tall, refl))) (λ not_tall. inl (not_wide, not_tall)) (decided_alone k g.0.h))
    (decided_alone k g.0.w)

-- ---- one value at most
pub lacks_apart : (k v number : ℕ) (g : Given) → Lacks k g → Gives k v g → ⊥
lacks_apart k v number g none gives = ⊎_elim (λ h. none.0 h.0) (λ h. none.1 h.1) gives

gives_once : (k v w : ℕ) (g : Given) → Gives k v g → Gives k w g → v ≡ w
gives_once k v w g (inl a) (inl b) = a.1 ∙ sym b.1
gives_once k v w g (inl a) (inr b) = absurd (b.0 a.0)
gives_once k v w g (inr a) (inl b) = absurd (a.0 b.0)
gives_once k v w g (inr a) (inr b) = a.2 ∙ sym b.2

pub value_once : (gs : List Given) (k v w : ℕ) → HasValue gs k v → HasValue gs k w → v ≡ w
value_once gs k v w f g =
    let place = same_place (Lacks k) (λ number x. Gives k v x) (λ number x. Gives k w x) (λ number x. lacks_apart k v number x) (λ number x. lacks_apart k w number x) gs f g in
    let item = same_item (Lacks k) (λ number x. Gives k v x) (λ number x. Gives k w x) gs f g place in
    gives_once k v w g.item (subst (Gives k v) item f.fails) g.fails

pub values_once : (gs : List Given) (count : ℕ) (sizes others : List ℕ) → HasValues gs count sizes → HasValues gs count others → sizes ≡ others
values_once gs count sizes others a b = ext_get_or 0 sizes others (a.counted ∙ sym b.counted) (λ k below. let there : k < count = omega (arith, a.counted) in value_once gs k (get_or sizes k 0) (get_or others k 0) (a.each k there) (b.each k there))

-- ---- a bound variable has a value
pub value_there : (matrices : List DeclValue) (inputs : List MatrixValue) (k : ℕ) → length inputs ≤ length matrices → IsBound (take (length inputs) matrices) k → (v : ℕ) × HasValue (zip matrices inputs) k v
value_there matrices inputs k enough bound =
    let gs = zip matrices inputs in
    ⊎_elim
    (λ none.
    let inside : bound.place < length inputs = omega (arith, slice_get_within (take (length inputs) matrices) bound.place bound.decl bound.there, length-take-le (length inputs) matrices enough) in
    let input = some_at inputs bound.place inside in
    let decl : bound.decl ≡ get_or matrices bound.place bound.decl = sym (get_or_from_slice_get (take (length inputs) matrices) bound.place bound.decl bound.decl bound.there) ∙ get_or-take (length inputs) matrices bound.place bound.decl inside in
    let pair = pair_at matrices inputs bound.place bound.decl input.0 enough inside decl (sym (get_or_from_slice_get inputs bound.place input.0 input.0 input.1)) in
    let lacks = all_at (Lacks k) gs bound.place (bound.decl, input.0) none pair in
    absurd (⊎_elim (λ wide. lacks.0 wide) (λ tall. lacks.1 tall) bound.alone))
    (λ f. (f.fails.0, record { place = f.place; item = f.item; there = f.there; fails = f.fails.1; earlier = f.earlier }))
    (some_first (Lacks k) (λ number g. (v : ℕ) × Gives k v g) gs (λ number g at. lacks_or_gives k g))

-- and so many have their values
pub values_there : (gs : List Given) (count : ℕ) → ((k : ℕ) → k < count → (v : ℕ) × HasValue gs k v) → (sizes : List ℕ) × HasValues gs count sizes
values_there gs zero each = ([], record { counted = refl; each = λ k below. absurd (omega arith) })
values_there gs (suc count) each =
    let rest = values_there gs count (λ k below. each k (omega arith)) in
    let last = each count (omega arith) in
    let sizes = rest.0 ++ last.0 ∷ [] in (
      sizes,
      record {
        counted = omega (arith, length_push rest.0 last.0, rest.1.counted);
        each = λ k below. ⊎_elim
            (λ (e : k ≡ count). subst (λ j. HasValue gs j (get_or sizes j 0)) (sym e) (subst (HasValue gs count) (sym (get_or_push rest.0 last.0 0 count rest.1.counted)) last.1))
            (λ (ne : k ≢ count).
            let early : k < count = omega arith in
            subst (HasValue gs k) (sym (get_or_append_left rest.0 (last.0 ∷ []) 0 k (omega (arith, rest.1.counted)))) (rest.1.each k early))
            (cases_eq k count);
      },
    )
