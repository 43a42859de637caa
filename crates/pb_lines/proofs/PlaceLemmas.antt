-- A transform by its number.
use Rattle.std.proofs.Common.{◌≡◌, subst, ◌<◌, ◌≤◌, ℕ, List, map, length, get_or, slice_get, Some, None, refl}
use Rattle.std.proofs.lemmas.Option.{get_or_from_slice_get, slice_get-get_or, slice_get-map, slice_get_past, slice_get_within}
use Rattle.std.proofs.lemmas.List.{length-map}
use Rattle.pb_program.specs.Transforms.{TransformValue}
use Rattle.pb_program.specs.Trees.{ProgTransform, bare_transform}
use Rattle.pb_lines.specs.Lines.{HaveFewSizes}

pub held_at : {A B : Type 0} (f : A → B) (xs : List A) (k : ℕ) (x : A) → k < length xs → x ≡ get_or xs k x → slice_get (map f xs) k ≡ Some (f x)
held_at f xs k x h e = rw (slice_get-map f xs k, slice_get-get_or xs k x h, ← e) refl

pub held_past : {A B : Type 0} (f : A → B) (xs : List A) (k : ℕ) → length xs ≤ k → slice_get (map f xs) k ≡ None
held_past f xs k h = slice_get_past (map f xs) k (rw length-map h)

pub few_at : (ts : List TransformValue) (k : ℕ) (x : TransformValue) → HaveFewSizes (map bare_transform ts) → slice_get (map bare_transform ts) k ≡ Some (bare_transform x) → length x.sizes ≤ 8
few_at ts k x few at =
    let xs = map bare_transform ts in
    subst (λ (y : ProgTransform). length y.sizes ≤ 8) (get_or_from_slice_get xs k (bare_transform x) (bare_transform x) at) (few k (bare_transform x) (slice_get_within xs k (bare_transform x) at))
