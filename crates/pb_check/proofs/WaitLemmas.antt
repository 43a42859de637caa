-- What a configuration chooses reads smaller ranks, and ranks are in order.
use Rattle.std.proofs.Common.{◌≡◌, sym, subst, inl, inr, ℕ, List, Some, slice_get, arith}
use Rattle.std.proofs.lemmas.Int.{ints}
use Rattle.pb_graph.specs.Ranks.{IsBelow, Rank}
use Rattle.pb_program.specs.Configs.{ConfigValue, IsValid}
use Rattle.pb_program.specs.Trees.{ProgRule, ProgTransform}
use Rattle.pb_program.specs.WellFormed.{IsWellFormed}
use Rattle.pb_model.specs.Cells.{Cell, ReadsCell}
use Rattle.pb_model.specs.Chosen.{chosen_rule}
use Rattle.pb_model.proofs.ChosenLemmas.{chosen_lawful}
use Rattle.pb_model.proofs.LawfulLemmas.{in_lawful}
use Rattle.pb_check.specs.Orders.{AnalysisValue, IsAnalysis}
use Rattle.pb_check.specs.Phases.{IsSound}
use Rattle.pb_check.specs.Ranked.{HasRank, IsMadeCell, StandsBelow}
use Rattle.pb_check.proofs.CoverLemmas.{has_lawful}
use Rattle.pb_check.proofs.RankedLemmas.{ranked_is}

pub chosen_falls : (p : List ProgTransform) (number : ℕ) (t : ProgTransform) (a : AnalysisValue) (sizes : List ℕ) (config : ConfigValue) → IsWellFormed p → IsSound p → slice_get p number ≡ Some t → IsAnalysis t a → IsValid p config
    → (c : Cell) (rule : ProgRule) → IsMadeCell t sizes c → slice_get t.rules (chosen_rule config number t sizes c) ≡ Some rule
    → (rank : Rank) (shown : Cell) → HasRank t a sizes c rank → ReadsCell t.matrices sizes c rule shown → IsMadeCell t sizes shown → StandsBelow t a sizes rank shown
chosen_falls p number t a sizes config well sound at found valid c rule cell there rank shown has reads made =
    let lawful = chosen_lawful p config number t sizes c valid (has_lawful p number t c sizes well sound at cell.cell cell.made) in
    let k = chosen_rule config number t sizes c in
    let ranked = ranked_is p number t sizes well sound at a found c cell has.segment has.holds in
    subst (λ r. StandsBelow t a sizes r shown) (sym has.is) (ranked.falls k rule (in_lawful t sizes c k lawful) there shown reads made)

-- ---- ranks are in order
pub not_below : (r : Rank) → IsBelow r r → ⊥
not_below r (inl lower) = omega (arith, lower)
not_below r (inr (same, inl first)) = omega (arith, ints, first)
not_below r (inr (same, inr (equal, second))) = omega (arith, ints, second)

pub below_above : (q r s : Rank) → IsBelow q r → IsBelow r s → IsBelow q s
below_above q r s (inl a) (inl b) = inl (omega (arith, a, b))
below_above q r s (inl a) (inr b) = inl (omega (arith, a, b.0))
below_above q r s (inr a) (inl b) = inl (omega (arith, a.0, b))
below_above q r s (inr (la, inl a)) (inr (lb, inl b)) = inr (omega (arith, la, lb), inl (omega (arith, ints, a, b)))
below_above q r s (inr (la, inl a)) (inr (lb, inr (eb, b))) = inr (omega (arith, la, lb), inl (omega (arith, ints, a, eb)))
below_above q r s (inr (la, inr (ea, a))) (inr (lb, inl b)) = inr (omega (arith, la, lb), inl (omega (arith, ints, ea, b)))
below_above q r s (inr (la, inr (ea, a))) (inr (lb, inr (eb, b))) = inr (omega (arith, la, lb), inr (omega (arith, ints, ea, eb), omega (arith, ints, a, b)))
