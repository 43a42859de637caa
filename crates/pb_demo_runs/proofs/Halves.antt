-- The plan that halves the rows of a product: its calls, and what they are given, at sizes (n, h, n).
use Rattle.std.proofs.Common.{◌≡◌, ◌∙◌, refl, ap, ap₂, subst, ℕ, ◌+◌, ◌-◌, ◌/◌, ◌≤◌, true, false, ◌&&◌, List, [], ◌∷◌, map, take, drop, slice_get, Option, Some, ℤ, pos, arith}
use Rattle.std.specs.Prelude.{nat_le}
use Rattle.std.specs.Option.{option_map_or}
use Rattle.std.proofs.lemmas.Int.{ints}
use Rattle.std.proofs.lemmas.Bool.Decides.{Decides-int_eq, nat_tests}
use Rattle.pb_linear.specs.Numbers.{value_before}
use Rattle.pb_linear.specs.Sizes.{leasts_of}
use Rattle.pb_linear.specs.declared.sizes.TheConstants.{SIZE_TOP}
use Rattle.pb_program.specs.declared.plan.Slot.TheVariants as slot
use Rattle.pb_program.specs.Plans.{PlanCallValue}
use Rattle.pb_program.specs.Trees.{ProgRule, ProgTransform}
use Rattle.pb_recursion.specs.Plans.{argument_sides, calls_of_rule, fits_call, sides_of_view, target_sides}
use Rattle.pb_recursion.specs.Shapes.{Sides, all_same_sides, are_in_range, can_enter, fits, same_sides, sides_of_decl, sizes_from}
use Rattle.pb_grammar.specs.Want.{after_mark, expression, conjunction, compared, total, product, name_token, dimensions}
use Rattle.pb_demo.proofs.Entries.{multiply_there}
use Rattle.pb_demo.proofs.Product.{is_written, written}
use Rattle.pb_demo.proofs.Trees.{program}
use Rattle.pb_demo_runs.proofs.Lists.{both_true}
use Rattle.pb_demo_runs.proofs.Choice.{nth_rule}

abbrev pub dotting : ProgRule
dotting = nth_rule 0

abbrev pub halving : ProgRule
halving = nth_rule 3

pub dotting_there : slice_get written.rules 0 ≡ Some dotting
dotting_there = refl

pub halving_there : slice_get written.rules 3 ≡ Some halving
halving_there = refl

abbrev pub upper : PlanCallValue
upper = record { transform = 1; targets = slot.Out 0 ∷ []; arguments = slot.Read 0 ∷ slot.Read 2 ∷ [] }

abbrev pub lower : PlanCallValue
lower = record { transform = 1; targets = slot.Out 1 ∷ []; arguments = slot.Read 1 ∷ slot.Read 2 ∷ [] }

pub calls_are : calls_of_rule halving ≡ upper ∷ lower ∷ []
unfolding after_mark expression conjunction compared total product name_token dimensions
calls_are = refl

abbrev pair : ℤ → ℤ → Sides
pair a b = (a, b)

two_sides : {a b c d : ℤ} → a ≡ c → b ≡ d → pair a b ≡ pair c d
two_sides e f = cc

one_equal : {a p : Sides} → a ≡ p → a ∷ [] ≡ p ∷ []
one_equal e = cc

two_equal : {a b p q : Sides} → a ≡ p → b ≡ q → a ∷ b ∷ [] ≡ p ∷ q ∷ []
two_equal e f = cc

three_equal : {a b c p q r : Sides} → a ≡ p → b ≡ q → c ≡ r → a ∷ b ∷ c ∷ [] ≡ p ∷ q ∷ r ∷ []
three_equal e f g = cc

module _ (n h : ℕ) where
  abbrev sizes : List ℕ
  sizes = n ∷ h ∷ n ∷ []

  pub reads_are : map (sides_of_view written.matrices sizes) halving.reads ≡ (pos n, pos (h / 2)) ∷ (pos n, pos (h - h / 2)) ∷ (pos n, pos n) ∷ []
  unfolding value_before
  reads_are = three_equal (two_sides (omega (arith, ints)) (omega (arith, ints))) (two_sides (omega (arith, ints)) (omega (arith, ints))) (two_sides (omega (arith, ints)) (omega (arith, ints)))

  pub outs_are : map (sides_of_view written.matrices sizes) halving.outs ≡ (pos n, pos (h / 2)) ∷ (pos n, pos (h - h / 2)) ∷ []
  unfolding value_before
  outs_are = two_equal (two_sides (omega (arith, ints)) (omega (arith, ints))) (two_sides (omega (arith, ints)) (omega (arith, ints)))

  pub upper_given : argument_sides written.matrices sizes halving upper ≡ (pos n, pos (h / 2)) ∷ (pos n, pos n) ∷ []
  unfolding value_before
  upper_given = two_equal (two_sides (omega (arith, ints)) (omega (arith, ints))) (two_sides (omega (arith, ints)) (omega (arith, ints)))

  pub lower_given : argument_sides written.matrices sizes halving lower ≡ (pos n, pos (h - h / 2)) ∷ (pos n, pos n) ∷ []
  unfolding value_before
  lower_given = two_equal (two_sides (omega (arith, ints)) (omega (arith, ints))) (two_sides (omega (arith, ints)) (omega (arith, ints)))

  pub upper_wanted : target_sides written.matrices sizes halving upper ≡ (pos n, pos (h / 2)) ∷ []
  unfolding value_before
  upper_wanted = one_equal (two_sides (omega (arith, ints)) (omega (arith, ints)))

  pub lower_wanted : target_sides written.matrices sizes halving lower ≡ (pos n, pos (h - h / 2)) ∷ []
  unfolding value_before
  lower_wanted = one_equal (two_sides (omega (arith, ints)) (omega (arith, ints)))

-- the product takes a matrix of h rows and a square one
pub sizes_are : (n h : ℕ) → sizes_from written ((pos n, pos h) ∷ (pos n, pos n) ∷ []) ≡ n ∷ h ∷ n ∷ []
unfolding after_mark expression conjunction compared total product name_token dimensions sizes_from
sizes_are n h = refl

sides_of_given : (n h : ℕ) → map (sides_of_decl (n ∷ h ∷ n ∷ [])) (take written.inputs written.matrices) ≡ (pos n, pos h) ∷ (pos n, pos n) ∷ []
unfolding value_before
sides_of_given n h = two_equal (two_sides (omega (arith, ints)) (omega (arith, ints))) (two_sides (omega (arith, ints)) (omega (arith, ints)))

sides_of_made : (n h : ℕ) → map (sides_of_decl (n ∷ h ∷ n ∷ [])) (drop (written.inputs + written.middles) written.matrices) ≡ (pos n, pos h) ∷ []
unfolding value_before
sides_of_made n h = one_equal (two_sides (omega (arith, ints)) (omega (arith, ints)))

same_sides_self : (s : Sides) → same_sides s s ≡ true
same_sides_self s = both_true _ _ ((Decides-int_eq s.0 s.0).1 refl) ((Decides-int_eq s.1 s.1).1 refl)

all_same : (xs : List Sides) → all_same_sides xs xs ≡ true
all_same [] = refl
all_same (x ∷ xs) = both_true _ _ (same_sides_self x) (all_same xs)

in_range : (a b c : ℕ) → 1 ≤ a → a ≤ SIZE_TOP → 1 ≤ b → b ≤ SIZE_TOP → 1 ≤ c → c ≤ SIZE_TOP → are_in_range (1 ∷ 1 ∷ 1 ∷ []) (a ∷ b ∷ c ∷ []) ≡ true
in_range a b c a1 a2 b1 b2 c1 c2 =
    both_true _ _ (low 1 a a1) (both_true _ _ (low a SIZE_TOP a2) (both_true _ _ (low 1 b b1) (both_true _ _ (low b SIZE_TOP b2) (both_true _ _ (low 1 c c1) (both_true _ _ (low c SIZE_TOP c2) refl)))))
  where
    low : (m n : ℕ) → m ≤ n → nat_le m n ≡ true
    low m n h = grind (arith, nat_tests, h)

module _ (n h : ℕ) (some : 1 ≤ n) (few : n ≤ 256) (tall : 1 ≤ h) (low : h ≤ n) where
  abbrev given : List Sides
  given = (pos n, pos h) ∷ (pos n, pos n) ∷ []

  pub enters : can_enter written given ≡ true
  unfolding can_enter
  enters =
      ap (λ (sizes : List ℕ). are_in_range (leasts_of written.ranges) sizes && all_same_sides (map (sides_of_decl sizes) (take written.inputs written.matrices)) given) (sizes_are n h)
      ∙ both_true _ _ (in_range n h n some (omega (arith, few)) tall (omega (arith, few, low)) some (omega (arith, few))) (ap (λ (l : List Sides). all_same_sides l given) (sides_of_given n h) ∙ all_same given)

  abbrev wanted : List Sides
  wanted = (pos n, pos h) ∷ []

  pub is_fitting : fits written given wanted ≡ true
  unfolding fits
  is_fitting =
      both_true _ _ enters (ap (λ (sizes : List ℕ). all_same_sides (map (sides_of_decl sizes) (drop (written.inputs + written.middles) written.matrices)) wanted) (sizes_are n h)
      ∙ ap (λ (l : List Sides). all_same_sides l wanted) (sides_of_made n h) ∙ all_same wanted)

pub written_there : slice_get (program 0) 1 ≡ Some written
written_there = subst (λ t. slice_get (program 0) 1 ≡ Some t) is_written multiply_there

module _ (n h : ℕ) (some : 1 ≤ n) (few : n ≤ 256) (tall : 2 ≤ h) (low : h ≤ n) where
  pub upper_fits : fits_call written.matrices (n ∷ h ∷ n ∷ []) (program 0) halving upper ≡ true
  upper_fits =
      ap (λ (o : Option ProgTransform). option_map_or (λ t. fits t (argument_sides written.matrices (n ∷ h ∷ n ∷ []) halving upper) (target_sides written.matrices (n ∷ h ∷ n ∷ []) halving upper)) o false) written_there
      ∙ ap₂ (λ (given wanted : List Sides). fits written given wanted) (upper_given n h) (upper_wanted n h) ∙ is_fitting n (h / 2) some few (omega (arith, tall)) (omega (arith, low))

  pub lower_fits : fits_call written.matrices (n ∷ h ∷ n ∷ []) (program 0) halving lower ≡ true
  lower_fits =
      ap (λ (o : Option ProgTransform). option_map_or (λ t. fits t (argument_sides written.matrices (n ∷ h ∷ n ∷ []) halving lower) (target_sides written.matrices (n ∷ h ∷ n ∷ []) halving lower)) o false) written_there
      ∙ ap₂ (λ (given wanted : List Sides). fits written given wanted) (lower_given n h) (lower_wanted n h) ∙ is_fitting n (h - h / 2) some few (omega (arith, tall)) (omega (arith, low))
