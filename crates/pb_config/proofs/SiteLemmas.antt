-- The numbers of a well-formed program are small.
use Rattle.std.proofs.Common.{◌≡◌, ℕ, zero, suc, ◌<◌, ◌≤◌, List, [], ◌∷◌, Option, Some, length, get_or, map, subst, refl, sym, ap, arith}
use Rattle.std.specs.List.{AllByRecursion, slice_get}
use Rattle.std.specs.Option.{option_map}
use Rattle.pb_syntax.specs.declared.limits.TheConstants.{MOST_MATRICES}
use Rattle.pb_program.specs.Trees.{ProgTransform, bare_transform}
use Rattle.pb_program.specs.Transforms.{TransformValue}
use Rattle.pb_program.specs.WellFormed.{IsTransform}
use Rattle.pb_config.specs.Choices.{Names}
use Rattle.pb_config.specs.Reading.{transform_named, matrix_of, site_of}

-- what holds of each element holds of the one at a place
pub all_at : {A : Type 0} (P : A → Type 0) (xs : List A) (k : ℕ) (x : A) → AllByRecursion P xs → slice_get xs k ≡ Some x → P x
all_at P [] k x all there = absurd (cc)
all_at P (y ∷ xs) zero x all there = let e : y ≡ x = cc in subst P e all.0
all_at P (y ∷ xs) (suc k) x all there = all_at P xs k x all.1 there

pub few_matrices : (n : ℕ) (ts : List ProgTransform) (k : ℕ) (t : ProgTransform) → AllByRecursion (IsTransform n) ts → slice_get ts k ≡ Some t
    → length t.matrices ≤ MOST_MATRICES
few_matrices n ts k t all there = (all_at (IsTransform n) ts k t all there).few_matrices

-- the transform without pointers
pub bare_at : (ts : List TransformValue) (k : ℕ) (t : TransformValue) → k < length ts → t ≡ get_or ts k t → slice_get (map bare_transform ts) k ≡ Some (bare_transform t)
bare_at [] k t within there = absurd (omega arith)
bare_at (u ∷ ts) zero t within there = ap (λ x. Some (bare_transform x)) (sym there)
bare_at (u ∷ ts) (suc k) t within there = bare_at ts k t (omega arith) there

pub site_found : (ts : List ProgTransform) (names : Names) (set : List ℕ) (k : ℕ) (t : ProgTransform) (o : Option ℕ)
    → transform_named names.transform ts ≡ Some k → slice_get ts k ≡ Some t → matrix_of names.matrix set t ≡ o
    → site_of ts names set ≡ option_map (λ (m : ℕ). record { transform = k; matrix = m; set = set }) o
site_found ts names set k t o named there found = rw (named, there, found) refl
