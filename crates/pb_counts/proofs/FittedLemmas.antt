-- The transform that a call names.
use Rattle.std.proofs.Common.{◌≡◌, ◌∙◌, refl, sym, ap, subst, ℕ, ◌<◌, Bool, true, false, List, length, map, get_or, slice_get, Option, Some, None}
use Rattle.std.specs.Prelude.{if◌then◌else◌}
use Rattle.std.specs.Option.{option_map, option_map_or}
use Rattle.std.proofs.lemmas.Option.{slice_get-map, slice_get_read}
use Rattle.pb_program.specs.Transforms.{ProgValue, TransformValue}
use Rattle.pb_program.specs.Forms.{DeclValue}
use Rattle.pb_program.specs.Plans.{PlanCallValue}
use Rattle.pb_program.specs.Trees.{ProgRule, ProgTransform, bare_prog, bare_transform}
use Rattle.pb_recursion.specs.Plans.{argument_sides, target_sides}
use Rattle.pb_recursion.specs.Shapes.{Sides, fits, sizes_from}
use Rattle.pb_counts.specs.Entered.{sizes_of_call}

pub called_at : (p : ProgValue) (ts : List TransformValue) (k : ℕ) (t : TransformValue) → ts ≡ p.transforms → k < length ts → t ≡ get_or ts k t → slice_get (bare_prog p) k ≡ Some (bare_transform t)
called_at p ts k t same below at = subst (λ l. slice_get (map bare_transform l) k ≡ Some (bare_transform t)) same (slice_get-map bare_transform ts k ∙ ap (option_map bare_transform) (slice_get_read ts (length ts) k t refl below at))

-- ---- at which sizes a call enters it
module _ (matrices : List DeclValue) (sizes : List ℕ) (p : List ProgTransform) (r : ProgRule) (c : PlanCallValue) where
  abbrev given : List Sides
  given = argument_sides matrices sizes r c

  abbrev wanted : List Sides
  wanted = target_sides matrices sizes r c

  by_called : (o : Option ProgTransform) → slice_get p c.transform ≡ o → sizes_of_call matrices sizes p r c ≡ (if option_map_or (λ t. fits t given wanted) o false then option_map (λ t. sizes_from t given) o else None)
  by_called o e = ap (λ (q : Option ProgTransform). if option_map_or (λ t. fits t given wanted) q false then option_map (λ t. sizes_from t given) q else None) e

  pub nowhere : slice_get p c.transform ≡ None → None ≡ sizes_of_call matrices sizes p r c
  nowhere e = sym (by_called None e)

  pub unfit : (t : ProgTransform) → slice_get p c.transform ≡ Some t → fits t given wanted ≡ false → None ≡ sizes_of_call matrices sizes p r c
  unfit t e f = sym (by_called (Some t) e ∙ ap (λ (b : Bool). if b then Some (sizes_from t given) else None) f)

  pub fit : (t : ProgTransform) → slice_get p c.transform ≡ Some t → fits t given wanted ≡ true → Some (sizes_from t given) ≡ sizes_of_call matrices sizes p r c
  fit t e f = sym (by_called (Some t) e ∙ ap (λ (b : Bool). if b then Some (sizes_from t given) else None) f)
