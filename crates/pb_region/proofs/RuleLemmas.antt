-- A transform and a rule by their numbers, as they are held and as definitions see them.
use Rattle.std.proofs.Common.{◌≡◌, refl, ◌<◌, ◌≤◌, ℕ, List, map, length, get_or, slice_get, Some, None}
use Rattle.std.proofs.lemmas.Option.{slice_get-get_or, slice_get-map, slice_get_past}
use Rattle.std.proofs.lemmas.List.{length-map}
use Rattle.pb_program.specs.Trees.{ProgRule, ProgTransform}
use Rattle.pb_region.specs.Dims.{AtTransform, HasTransform}
use Rattle.pb_region.specs.Rules.{AtRule, HasRule}

pub held_at : {A B : Type 0} (f : A → B) (xs : List A) (k : ℕ) (x : A) → k < length xs → x ≡ get_or xs k x → slice_get (map f xs) k ≡ Some (f x)
held_at f xs k x h e = rw (slice_get-map f xs k, slice_get-get_or xs k x h, ← e) refl

pub held_past : {A B : Type 0} (f : A → B) (xs : List A) (k : ℕ) → length xs ≤ k → slice_get (map f xs) k ≡ None
held_past f xs k h = slice_get_past (map f xs) k (rw length-map h)

module _ (ts : List ProgTransform) (t r : ℕ) (P : ProgTransform → ProgRule → Type 0) where
  -- it is said of the transform and the rule that are there
  pub at_rule : (x : ProgTransform) (y : ProgRule) → slice_get ts t ≡ Some x → slice_get x.rules r ≡ Some y → P x y → AtRule ts t r P
  at_rule x y at there h = rw (at, there) h

  pub has_rule : (x : ProgTransform) (y : ProgRule) → slice_get ts t ≡ Some x → slice_get x.rules r ≡ Some y → P x y → HasRule ts t r P
  has_rule x y at there h = rw (at, there) h

  -- and of none where none is there
  pub no_transform : slice_get ts t ≡ None → AtRule ts t r P
  no_transform none = rw none tt

  pub no_rule : (x : ProgTransform) → slice_get ts t ≡ Some x → slice_get x.rules r ≡ None → AtRule ts t r P
  no_rule x at none = rw (at, none) tt

pub at_transform : (ts : List ProgTransform) (t : ℕ) (P : ProgTransform → Type 0) (x : ProgTransform) → slice_get ts t ≡ Some x → P x → AtTransform ts t P
at_transform ts t P x at h = rw at h

pub has_transform : (ts : List ProgTransform) (t : ℕ) (P : ProgTransform → Type 0) (x : ProgTransform) → slice_get ts t ≡ Some x → P x → HasTransform ts t P
has_transform ts t P x at h = rw at h
