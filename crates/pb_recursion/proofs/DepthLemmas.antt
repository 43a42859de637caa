-- Each cell of a call at a depth is its rule's equation.
use Rattle.std.proofs.Common.{◌≡◌, sym, ap, subst, ℕ, zero, suc, ◌≤◌, true, List, [], ◌++◌, length, map, slice_get, Some, arith}
use Rattle.std.specs.List.{All}
use Rattle.std.specs.Option.{option_map_or}
use Rattle.pb_program.specs.Configs.{ConfigValue, IsValid}
use Rattle.pb_program.specs.Trees.{ProgTransform}
use Rattle.pb_program.specs.WellFormed.{IsTransform, IsWellFormed}
use Rattle.pb_region.proofs.SmallLemmas.{at_place}
use Rattle.pb_model.specs.Calls.{IsSettled, Outcomes, call_of}
use Rattle.pb_calls.proofs.SettledLemmas.{call_settled}
use Rattle.pb_calls.specs.Handed.{AnalysisValue, IsAnalysis}
use Rattle.pb_calls.specs.Handed.{IsSound}
use Rattle.pb_recursion.specs.Depths.{IsWhole, call_at, deeper_at, made_by_transform, plans_at, sides_of_matrix, sizes_given}
use Rattle.pb_recursion.specs.Shapes.{can_enter}
use Rattle.pb_recursion.proofs.ShapeLemmas.{entered_given, entered_range}

-- a call is what its transform makes, with the calls one less deep
pub call_is : (p : List ProgTransform) (config : ConfigValue) (d number : ℕ) (t : ProgTransform) (ins : List Outcomes) → slice_get p number ≡ Some t
    → call_at p config d number ins ≡ call_of config (plans_at p config d number t (sizes_given t ins)) number t (sizes_given t ins) ins
unfolding call_at
call_is p config zero number t ins at = ap (λ o. option_map_or (made_by_transform p config (deeper_at p config zero) number ins) o []) at
call_is p config (suc d) number t ins at = ap (λ o. option_map_or (made_by_transform p config (deeper_at p config (suc d)) number ins) o []) at

pub inputs_there : (p : List ProgTransform) (number : ℕ) (t : ProgTransform) → IsWellFormed p → slice_get p number ≡ Some t → t.inputs ≤ length t.matrices
inputs_there p number t well at = let parts = (at_place (IsTransform (length p)) p number t well.transforms at).parts in omega (arith, parts)

pub depth_settled : (p : List ProgTransform) (config : ConfigValue) (d number : ℕ) (t : ProgTransform) (a : AnalysisValue) (ins : List Outcomes) → IsWellFormed p → IsSound p → IsValid p config → slice_get p number ≡ Some t → IsAnalysis t a
    → All IsWhole ins → can_enter t (map sides_of_matrix ins) ≡ true → IsSettled config (plans_at p config d number t (sizes_given t ins)) number t (sizes_given t ins) (ins ++ call_at p config d number ins)
depth_settled p config d number t a ins well sound valid at found whole enters =
    let settled = call_settled p number t a (sizes_given t ins) config (plans_at p config d number t (sizes_given t ins)) ins well sound at found valid (entered_range t ins enters) (entered_given t ins enters (inputs_there p number t well at) whole) in
    subst (λ made. IsSettled config (plans_at p config d number t (sizes_given t ins)) number t (sizes_given t ins) (ins ++ made)) (sym (call_is p config d number t ins at)) settled
