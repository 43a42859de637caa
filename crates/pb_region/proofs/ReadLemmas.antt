-- The reads of matrices that aren't given, one read after the other.
use Rattle.std.proofs.Common.{◌≡◌, ◌+◌, ◌<◌, ap, refl, Bool, true, false, ℕ, List, [], ◌∷◌, ◌++◌, map, take, length, get_or}
use Rattle.std.specs.Prelude.{filter, if◌then◌else◌}
use Rattle.std.proofs.lemmas.List.{map-append}
use Rattle.std.proofs.lemmas.List.Elements.{filter_more}

module _ {X Y : Type 0} (f : X → Y) (p : X → Bool) where
  map_if : (b : Bool) (x : X) → map f (if b then x ∷ [] else []) ≡ (if b then f x ∷ [] else [])
  map_if true x = refl
  map_if false x = refl

  pub reads_more : (xs : List X) (i : ℕ) (d : X) → i < length xs →
      map f (filter p (take (i + 1) xs)) ≡ map f (filter p (take i xs)) ++ (if p (get_or xs i d) then f (get_or xs i d) ∷ [] else [])
  reads_more xs i d h = rw (filter_more p xs i d h, map-append) (ap (λ z. map f (filter p (take i xs)) ++ z) (map_if (p (get_or xs i d)) (get_or xs i d)))
