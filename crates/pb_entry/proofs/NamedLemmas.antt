-- The transform of a name.
use Rattle.std.proofs.Common.{◌≡◌, ◌≢◌, ◌⊎◌, ◌∙◌, refl, sym, ap, inl, inr, ℕ, zero, suc, false, List, [], ◌∷◌, map, Some, None, slice_get, bytes_eq}
use Rattle.std.proofs.lemmas.Bool.{both_ways, or_parts}
use Rattle.std.proofs.lemmas.Slice.Eq.{bytes_eq-Decides}
use Rattle.pb_syntax.specs.Limits.{is_known}
use Rattle.pb_program.specs.Trees.{ProgTransform}
use Rattle.pb_program.specs.WellFormed.{AreDistinct, IsWellFormed}
use Rattle.pb_check.specs.Accepting.{HasName, IsNowhere}
use Rattle.pb_check.proofs.FirstLemmas.{some_same}
use Rattle.pb_entry.specs.Entering.{CannotEnter, Enters, TakesOther}
use Rattle.pb_entry.specs.declared.refusal.RunRefusal.{RunRefusal}
use Rattle.pb_entry.specs.declared.refusal.RunRefusal.TheVariants.{BadShape, Memory, SizeOutOfRange, TooLarge, UnknownTransform, WrongCount}

module _ (p : List ProgTransform) (name : List ℕ) (given t inputs : ℕ) (x : ProgTransform) (named : HasName p name t) (at : slice_get p t ≡ Some x) (is : inputs ≡ x.inputs) where
  count : named.transform.inputs ≡ inputs
  count = ap (λ y. y.inputs) (some_same named.transform x (sym named.there ∙ at)) ∙ sym is

  pub enters : inputs ≡ given → Enters p name given t
  enters same = record { named = named; count = count ∙ same }

  pub takes_other : inputs ≢ given → TakesOther p name inputs given
  takes_other other = record { number = t; named = named; count = count; other = other }

-- ---- a name is one transform's
unknown : (name : List ℕ) (p : List ProgTransform) (t : ℕ) (x : ProgTransform) → is_known name (map (λ m. m.bytes) (map (λ y. y.name) p)) ≡ false → slice_get p t ≡ Some x → x.name.bytes ≡ name → ⊥
unknown name [] t x none at same = let empty : None ≡ Some x = at in absurd (cc)
unknown name (y ∷ p) zero x none at same =
    let here = (or_parts (bytes_eq name y.name.bytes) (is_known name (map (λ m. m.bytes) (map (λ z. z.name) p))) none).0 in
    both_ways (bytes_eq name y.name.bytes) here ((bytes_eq-Decides name y.name.bytes).1 (sym (ap (λ z. z.name.bytes) (some_same y x at) ∙ same)))
unknown name (y ∷ p) (suc t) x none at same =
    unknown name p t x (or_parts (bytes_eq name y.name.bytes) (is_known name (map (λ m. m.bytes) (map (λ z. z.name) p))) none).1 at same

number_once : (p : List ProgTransform) (t u : ℕ) (x y : ProgTransform) → AreDistinct (map (λ z. z.name) p) → slice_get p t ≡ Some x → slice_get p u ≡ Some y → x.name.bytes ≡ y.name.bytes → t ≡ u
number_once [] t u x y d at there same = let empty : None ≡ Some x = at in absurd (cc)
number_once (z ∷ p) zero zero x y d at there same = refl
number_once (z ∷ p) zero (suc u) x y d at there same = absurd (unknown z.name.bytes p u y d.0 there (sym (ap (λ w. w.name.bytes) (some_same z x at) ∙ same)))
number_once (z ∷ p) (suc t) zero x y d at there same = absurd (unknown z.name.bytes p t x d.0 at (same ∙ sym (ap (λ w. w.name.bytes) (some_same z y there))))
number_once (z ∷ p) (suc t) (suc u) x y d at there same = ap suc (number_once p t u x y d.1 at there same)

module _ (p : List ProgTransform) (name : List ℕ) (well : IsWellFormed p) where
  name_once : (t u : ℕ) → HasName p name t → HasName p name u → t ≡ u
  name_once t u a b = number_once p t u a.transform b.transform well.distinct a.there b.there (a.named ∙ sym b.named)

  inputs_once : (t u : ℕ) (a : HasName p name t) (b : HasName p name u) → a.transform.inputs ≡ b.transform.inputs
  inputs_once t u a b = ap (λ x. x.inputs) (some_same a.transform b.transform (sym a.there ∙ ap (slice_get p) (name_once t u a b) ∙ b.there))

  module _ (given : ℕ) where
    pub one_number : (t u : ℕ) → Enters p name given t → Enters p name given u → t ≡ u
    one_number t u a b = name_once t u a.named b.named

    cannot_is : (e : RunRefusal) → CannotEnter p name given e → ((e ≡ UnknownTransform) × IsNowhere p name) ⊎ ((wanted : ℕ) × (e ≡ WrongCount wanted given) × TakesOther p name wanted given)
    cannot_is UnknownTransform h = inl (refl, h)
    cannot_is (WrongCount w g) h = inr (w, ap (λ n. WrongCount w n) h.0, h.1)
    cannot_is (BadShape m a w f) h = absurd h
    cannot_is (SizeOutOfRange k v) h = absurd h
    cannot_is (TooLarge what) h = absurd h
    cannot_is Memory h = absurd h

    nowhere : (t : ℕ) → HasName p name t → IsNowhere p name → ⊥
    nowhere t a none = none t a.transform a.there a.named

    one_of : (e f : RunRefusal) → ((e ≡ UnknownTransform) × IsNowhere p name) ⊎ ((w : ℕ) × (e ≡ WrongCount w given) × TakesOther p name w given) → ((f ≡ UnknownTransform) × IsNowhere p name) ⊎ ((w : ℕ) × (f ≡ WrongCount w given) × TakesOther p name w given) → e ≡ f
    one_of e f (inl a) (inl b) = a.0 ∙ sym b.0
    one_of e f (inl a) (inr b) = absurd (nowhere b.2.number b.2.named a.1)
    one_of e f (inr a) (inl b) = absurd (nowhere a.2.number a.2.named b.1)
    one_of e f (inr a) (inr b) = a.1 ∙ ap (λ w. WrongCount w given) (sym a.2.count ∙ inputs_once a.2.number b.2.number a.2.named b.2.named ∙ b.2.count) ∙ sym b.1

    pub one_reason : (e f : RunRefusal) → CannotEnter p name given e → CannotEnter p name given f → e ≡ f
    one_reason e f a b = one_of e f (cannot_is e a) (cannot_is f b)

    no_reason : (t : ℕ) (e : RunRefusal) → Enters p name given t → ((e ≡ UnknownTransform) × IsNowhere p name) ⊎ ((w : ℕ) × (e ≡ WrongCount w given) × TakesOther p name w given) → ⊥
    no_reason t e a (inl b) = nowhere t a.named b.1
    no_reason t e a (inr b) = b.2.other (sym b.2.count ∙ inputs_once b.2.number t b.2.named a.named ∙ a.count)

    pub enters_or_not : (t : ℕ) (e : RunRefusal) → Enters p name given t → CannotEnter p name given e → ⊥
    enters_or_not t e a b = no_reason t e a (cannot_is e b)
