-- Conditions at sizes, by the coordinates' numbers.
use Rattle.std.proofs.Common.{◌≡◌, ◌∙◌, refl, ap, ℕ, pos, Bool, true, false, ◌&&◌, List, [], ◌∷◌, ◌++◌, arith}
use Rattle.std.specs.List.{flat_map, list_all}
use Rattle.std.proofs.Math.IntN.{zero-*ℤ}
use Rattle.std.proofs.lemmas.Int.{ints}
use Rattle.pb_linear.specs.Numbers.{exact_value}
use Rattle.pb_program.specs.Conditions.{at_most}
use Rattle.pb_program.specs.Forms.{CoordinateValue, nothing}
use Rattle.pb_region.proofs.AreaLemmas.{nothing_value}
use Rattle.pb_views.specs.Lines.{IsLine}
use Rattle.pb_views.specs.declared.line.Line.{Line}
use Rattle.pb_program.specs.Conditions.{view_conditions, written}
use Rattle.pb_program.specs.Forms.{DeclValue}
use Rattle.pb_program.specs.Trees.{ProgRule}
use Rattle.pb_frame.specs.Choices.{is_met, is_met_by, meets}

pub nothing_rest : (sizes : List ℕ) → exact_value nothing.rest sizes ≡ pos 0
nothing_rest sizes = omega (arith, ints, nothing_value sizes (pos 0) (pos 0), zero-*ℤ (pos 0))

pub met : (sizes : List ℕ) (a b : CoordinateValue) (m : ℕ) (l r : Line) → IsLine a sizes l → IsLine b sizes r → is_met_by l (pos m) r ≡ is_met sizes (at_most a m b)
met sizes a b m l r hl hr = rw (hl.of_x, hr.of_x, hl.of_y, hr.of_y, hl.of_rest, hr.of_rest) refl

pub all_append : {A : Type 0} (p : A → Bool) (xs ys : List A) → list_all p (xs ++ ys) ≡ (list_all p xs && list_all p ys)
all_append p [] ys = refl
all_append p (x ∷ xs) ys = by (p x) (all_append p xs ys)
  where
    by : (b : Bool) → list_all p (xs ++ ys) ≡ (list_all p xs && list_all p ys) → (b && list_all p (xs ++ ys)) ≡ ((b && list_all p xs) && list_all p ys)
    by true e = e
    by false e = refl

pub all_flat : {A B : Type 0} (p : B → Bool) (f : A → List B) (xs : List A) → list_all p (flat_map f xs) ≡ list_all (λ x. list_all p (f x)) xs
all_flat p f [] = refl
all_flat p f (x ∷ xs) = all_append p (f x) (flat_map f xs) ∙ ap (λ b. list_all p (f x) && b) (all_flat p f xs)

pub meets_are : {A B C D : Type 0} (p : D → Bool) (f : A → List D) (g : B → List D) (h : C → List D) (xs : List A) (ys : List B) (zs : List C)
    → list_all p (flat_map f xs ++ flat_map g ys ++ flat_map h zs) ≡ ((list_all (λ x. list_all p (f x)) xs && list_all (λ y. list_all p (g y)) ys) && list_all (λ z. list_all p (h z)) zs)
meets_are p f g h xs ys zs =
    all_append p (flat_map f xs ++ flat_map g ys) (flat_map h zs) ∙ ap (λ b. b && list_all p (flat_map h zs)) (all_append p (flat_map f xs) (flat_map g ys) ∙ ap (λ b. b && list_all p (flat_map g ys)) (all_flat p f xs) ∙ ap (λ b. list_all (λ x. list_all p (f x)) xs && b) (all_flat p g ys))
    ∙ ap (λ b. (list_all (λ x. list_all p (f x)) xs && list_all (λ y. list_all p (g y)) ys) && b) (all_flat p h zs)

pub meets_split : (matrices : List DeclValue) (sizes : List ℕ) (r : ProgRule) → meets matrices sizes r ≡ ((list_all (λ v. list_all (is_met sizes) (view_conditions matrices v)) r.outs && list_all (λ v. list_all (is_met sizes) (view_conditions matrices v)) r.reads) && list_all (λ c. list_all (is_met sizes) (written c)) r.conds)
unfolding meets
meets_split matrices sizes r = meets_are (is_met sizes) (view_conditions matrices) (view_conditions matrices) written r.outs r.reads r.conds
