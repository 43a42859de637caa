-- Both texts are accepted.
use Rattle.std.proofs.Common.{◌≡◌, sym, subst, ℕ, inl, inr, List, [], ◌∷◌, length}
use Rattle.std.specs.List.{AllByRecursion}
use Rattle.pb_syntax.specs.Trees.{TransformTree}
use Rattle.pb_syntax.specs.declared.refusal.Refusal.{Refusal}
use Rattle.pb_front.specs.Reading.{IsRead}
use Rattle.pb_front.proofs.Handed.{lexemes, within_limits}
use Rattle.pb_program.specs.Trees.{ProgTransform}
use Rattle.pb_program.specs.WellFormed.{IsTransform, IsWellFormed}
use Rattle.pb_names.specs.Transforms.{IsResolved}
use Rattle.pb_names.proofs.TransformsFit.{resolved_well_formed}
use Rattle.pb_types.specs.Types.{broken}
use Rattle.pb_region.specs.Rules.{IsAccepted}
use Rattle.pb_check.specs.Accepting.{IsTextAccepted}
use Rattle.pb_check.specs.Cuts.{AreCut, HasCut, made_matrices}
use Rattle.pb_check.specs.Orders.{HasNoOrder, IsOrdered}
use Rattle.pb_check.specs.Phases.{IsBounded, IsSound}
use Rattle.pb_check.proofs.OrderedLemmas.{order_answer}
use Rattle.pb_grammar.specs.Want.{after_mark, expression, conjunction, compared, total, product, name_token, dimensions}
use Rattle.pb_gen.specs.Texts.{text_of}
use Rattle.pb_demo.proofs.Trees.{multiply_read, multiply_resolved, multiply_typed, program, roll_read, roll_resolved, roll_typed, tree_of}
use Rattle.pb_demo.proofs.Product.{is_written, written}
use Rattle.pb_demo.proofs.Grids.{all_of}
use Rattle.pb_demo.proofs.Fine.{are_sides, no_reads, one_read}
use Rattle.pb_demo.proofs.Sound as s
use Rattle.pb_demo.proofs.Sound.{add, roll}

pub well_formed : (text : List ℕ) (tree : List TransformTree) (p : List ProgTransform) → IsRead text tree → IsResolved tree p → IsWellFormed p
well_formed text tree p read resolved = resolved_well_formed tree p (within_limits read.tokens tree (lexemes text read.tokens read.spelled) read.accepted) resolved

ordered : (count number : ℕ) (t : ProgTransform) → IsTransform count t → IsBounded t → AreCut t → ((e : Refusal) → HasNoOrder t number e → ⊥) → IsOrdered t
ordered count number t fits bounded cut none = elim (order_answer count t fits bounded cut number) [ inl is ↦ is | inr bad ↦ absurd (none bad.0 bad.1) ]

-- ---- the rolling sum
roll_bounded : IsBounded roll
roll_bounded = record { sides = are_sides roll s.roll_few s.roll_far s.roll_sides; rules = all_of (IsAccepted roll) roll.rules s.roll_rules }

roll_cuts : AreCut roll
unfolding after_mark expression conjunction compared total product name_token dimensions
roll_cuts = record { each = all_of (HasCut roll) (made_matrices roll) (s.roll_cut, tt) }

roll_fits : IsTransform 1 roll
roll_fits = (subst (λ p. AllByRecursion (IsTransform (length p)) p) s.roll_is (well_formed (text_of 1) (tree_of 1) (program 1) roll_read roll_resolved).transforms).0

roll_ordered : IsOrdered roll
unfolding after_mark expression conjunction compared total product name_token dimensions
roll_ordered = ordered 1 0 roll roll_fits roll_bounded roll_cuts (λ e bad. one_read roll 0 e bad s.roll_few s.roll_far s.roll_read s.roll_reads s.roll_read_is.0 s.roll_read_is.1 s.roll_read_is.2 s.roll_read_low)

roll_sound : IsSound (roll ∷ [])
roll_sound = record { typed = subst (λ p. broken p ≡ []) s.roll_is roll_typed; bounded = all_of IsBounded (roll ∷ []) (roll_bounded, tt); cut = all_of AreCut (roll ∷ []) (roll_cuts, tt); ordered = all_of IsOrdered (roll ∷ []) (roll_ordered, tt) }

pub roll_accepted : IsTextAccepted (text_of 1) (program 1)
roll_accepted = record { tree = tree_of 1; read = roll_read; resolved = roll_resolved; sound = subst IsSound (sym s.roll_is) roll_sound }

-- ---- the product
add_bounded : IsBounded add
add_bounded = record { sides = are_sides add s.add_few s.add_far s.add_sides; rules = all_of (IsAccepted add) add.rules s.add_rules }

add_cuts : AreCut add
unfolding after_mark expression conjunction compared total product name_token dimensions
add_cuts = record { each = all_of (HasCut add) (made_matrices add) (s.add_cut, tt) }

multiply_bounded : IsBounded written
multiply_bounded = record { sides = are_sides written s.multiply_few s.multiply_far s.multiply_sides; rules = all_of (IsAccepted written) written.rules s.multiply_rules }

multiply_cuts : AreCut written
multiply_cuts = record { each = all_of (HasCut written) (made_matrices written) (s.multiply_cut, tt) }

pub pair : program 0 ≡ add ∷ written ∷ []
pair = subst (λ t. program 0 ≡ add ∷ t ∷ []) is_written s.multiply_is

both_fit : AllByRecursion (IsTransform 2) (add ∷ written ∷ [])
both_fit = subst (λ p. AllByRecursion (IsTransform (length p)) p) pair (well_formed (text_of 0) (tree_of 0) (program 0) multiply_read multiply_resolved).transforms

add_ordered : IsOrdered add
add_ordered = ordered 2 0 add both_fit.0 add_bounded add_cuts (λ e bad. no_reads add 0 e bad s.add_reads)

multiply_ordered : IsOrdered written
multiply_ordered = ordered 2 1 written both_fit.1.0 multiply_bounded multiply_cuts (λ e bad. no_reads written 1 e bad s.multiply_reads)

multiply_sound : IsSound (add ∷ written ∷ [])
multiply_sound = record {
  typed = subst (λ p. broken p ≡ []) pair multiply_typed;
  bounded = all_of IsBounded (add ∷ written ∷ []) (add_bounded, (multiply_bounded, tt));
  cut = all_of AreCut (add ∷ written ∷ []) (add_cuts, (multiply_cuts, tt));
  ordered = all_of IsOrdered (add ∷ written ∷ []) (add_ordered, (multiply_ordered, tt));
}

pub multiply_accepted : IsTextAccepted (text_of 0) (program 0)
multiply_accepted = record { tree = tree_of 0; read = multiply_read; resolved = multiply_resolved; sound = subst IsSound (sym pair) multiply_sound }
