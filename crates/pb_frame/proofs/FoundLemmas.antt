-- What is found of a transform of an accepted program.
use Rattle.std.proofs.Common.{◌≡◌, refl, sym, subst, ℕ, zero, suc, List, [], ◌∷◌, ◌<◌, length, slice_get, Option, Some, None}
use Rattle.std.specs.Prelude.{IfOk, IsSomeAnd, Result, Ok, Err}
use Rattle.std.proofs.lemmas.Option.{slice_get_within}
use Rattle.pb_linear.specs.Sizes.{InRange, leasts_of}
use Rattle.pb_program.specs.Trees.{ProgTransform, bare_prog}
use Rattle.pb_check.specs.Accepting.{AcceptedValue, IsAccepted}
use Rattle.pb_check.specs.Orders.{AnalysisValue, AreFound, IsAnalysis}
use Rattle.pb_check.specs.Ranked.{OfTransform}
use Rattle.pb_frame.specs.Choices.{IsInstance}

found_at : (p : List ProgTransform) (found : List AnalysisValue) → AreFound p found → (t : ℕ) (x : ProgTransform) (a : AnalysisValue) → slice_get p t ≡ Some x → slice_get found t ≡ Some a → IsAnalysis x a
found_at [] found h t x a there is = absurd (let e : None ≡ Some x = there in cc)
found_at (y ∷ p) [] h t x a there is = absurd h
found_at (y ∷ p) (b ∷ found) h zero x a there is =
    let one : Some y ≡ Some x = there in
    let other : Some b ≡ Some a = is in
    let same : y ≡ x = cc in
    let equal : b ≡ a = cc in
    subst (IsAnalysis x) equal (subst (λ z. IsAnalysis z b) same h.0)
found_at (y ∷ p) (b ∷ found) h (suc t) x a there is = found_at p found h.1 t x a there is

-- there is such a transform
pub numbers_of : (v : AcceptedValue) (t : ℕ) (P : ProgTransform → AnalysisValue → Type 0) → OfTransform v t P → (t < length (bare_prog v.program)) × (t < length v.found)
numbers_of v t P h = both (slice_get (bare_prog v.program) t) (slice_get v.found t) refl refl h
  where
    both : (o : Option ProgTransform) (q : Option AnalysisValue) → slice_get (bare_prog v.program) t ≡ o → slice_get v.found t ≡ q → IsSomeAnd o (λ transform. IsSomeAnd q (P transform)) → (t < length (bare_prog v.program)) × (t < length v.found)
    both None q e f h = absurd h
    both (Some y) None e f h = absurd h
    both (Some y) (Some b) e f h = (slice_get_within (bare_prog v.program) t y e, slice_get_within v.found t b f)

module _ (v : AcceptedValue) (accepted : IsAccepted v) (t : ℕ) (x : ProgTransform) (a : AnalysisValue) (there : slice_get (bare_prog v.program) t ≡ Some x) (found : slice_get v.found t ≡ Some a) where
  -- what is said of the transform with this number, and of what is found of it, is said of these
  pub said_of : (P : ProgTransform → AnalysisValue → Type 0) → OfTransform v t P → P x a
  said_of P h = both (slice_get (bare_prog v.program) t) (slice_get v.found t) there found h
    where
      both : (o : Option ProgTransform) (q : Option AnalysisValue) → o ≡ Some x → q ≡ Some a → IsSomeAnd o (λ transform. IsSomeAnd q (P transform)) → P x a
      both None q e f h = absurd h
      both (Some y) None e f h = absurd h
      both (Some y) (Some b) e f h = let same : y ≡ x = cc in let equal : b ≡ a = cc in subst (P x) equal (subst (λ z. P z b) same h)

  pub of_these : (P : ProgTransform → AnalysisValue → Type 0) → P x a → OfTransform v t P
  of_these P h = subst (λ o. IsSomeAnd o (λ transform. IsSomeAnd (slice_get v.found t) (P transform))) (sym there) (subst (λ q. IsSomeAnd q (P x)) (sym found) h)

  pub instance : (sizes : List ℕ) → InRange (leasts_of x.ranges) sizes → IsInstance t x a sizes
  instance sizes range = record {
    program = bare_prog v.program;
    well_formed = accepted.well_formed;
    sound = accepted.sound;
    there = there;
    found = found_at (bare_prog v.program) v.found accepted.found t x a there found;
    in_range = range;
  }

pub if_ok : {T E : Type 0} {P Q : T → Type 0} (r : Result T E) → IfOk r P → ((x : T) → P x → Q x) → IfOk r Q
if_ok (Ok x) h f = f x h
if_ok (Err e) h f = tt
