-- What the words of a header name.
use Rattle.std.proofs.Common.{◌≡◌, false, List, [], ◌∷◌, None, ℕ, codes, bytes_eq, refl}
use Rattle.pb_matrix.specs.Header.{header_shape}

pub other_name : (name w : List ℕ) (more : List (List ℕ)) → bytes_eq name (codes "matrix") ≡ false → header_shape (name ∷ w ∷ more) ≡ None
other_name name w [] e = rw e refl
other_name name w (h ∷ []) e = rw e refl
other_name name w (h ∷ x ∷ more) e = refl
