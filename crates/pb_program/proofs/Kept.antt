-- Lists whose items are changed: what is made of them is what is made of the items, changed.
use Rattle.std.proofs.Common.{◌≡◌, List, [], ◌∷◌, ◌++◌, length, map, refl, sym}
use Rattle.std.proofs.lemmas.List.{map-append}
use Rattle.std.specs.List.{flat_map}

pub joined : {F : Type 0} (g : F → F) (c d : List F) {a b : List F} → a ≡ map g c → b ≡ map g d → a ++ b ≡ map g (c ++ d)
joined g c d p q = rw (p, q) (sym (map-append g c d))

module _ {A : Type 0} (u : A → A) where
  pub flat_kept : {F : Type 0} (g : F → F) (h k : A → List F) → ((x : A) → h (u x) ≡ map g (k x)) → (xs : List A) → flat_map h (map u xs) ≡ map g (flat_map k xs)
  flat_kept g h k e [] = refl
  flat_kept g h k e (x ∷ xs) = joined g _ _ (e x) (flat_kept g h k e xs)

  pub made_kept : {B : Type 0} (g : B → B) (h k : A → B) → ((x : A) → h (u x) ≡ g (k x)) → (xs : List A) → map h (map u xs) ≡ map g (map k xs)
  made_kept g h k e [] = refl
  made_kept g h k e (x ∷ xs) = rw (e x, made_kept g h k e xs) refl

  pub same_kept : {B : Type 0} (h : A → B) → ((x : A) → h (u x) ≡ h x) → (xs : List A) → map h (map u xs) ≡ map h xs
  same_kept h e [] = refl
  same_kept h e (x ∷ xs) = rw (e x, same_kept h e xs) refl

  pub length_kept : (xs : List A) → length (map u xs) ≡ length xs
  length_kept [] = refl
  length_kept (x ∷ xs) = rw (length_kept xs) refl
