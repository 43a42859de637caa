-- A text that is accepted is refused at no step, and a run whose counts are within their limits isn't too large.
use Rattle.std.proofs.Common.{◌≡◌, ◌∙◌, sym, ap, subst, ℕ, List, [], Some, Result, Ok, Err, inl, inr, arith}
use Rattle.pb_syntax.specs.Trees.{TransformTree}
use Rattle.pb_syntax.specs.declared.refusal.Refusal.{Refusal}
use Rattle.pb_front.specs.Reading.{IsRead}
use Rattle.pb_front.proofs.ReadLemmas.{not_both, one_tree}
use Rattle.pb_names.specs.Transforms.{IsRefusedFor, IsResolved, IsRefused as HasBadNames, faults_of, program_of}
use Rattle.pb_program.specs.Trees.{ProgTransform}
use Rattle.pb_check.specs.Accepting.{IsTextAccepted}
use Rattle.pb_check.specs.Orders.{AnalysisValue, AreFound}
use Rattle.pb_check.specs.Phases.{IsRefused as IsUnsound}
use Rattle.pb_check.proofs.PhaseLemmas.{not_both as sound_apart}
use Rattle.pb_entry.specs.declared.refusal.Count.TheVariants.{Calls, Cells, Links, Side, Tasks}
use Rattle.pb_entry.specs.declared.refusal.RunRefusal.{RunRefusal}
use Rattle.pb_entry.specs.declared.refusal.RunRefusal.TheVariants.{BadShape, Memory, SizeOutOfRange, TooLarge, UnknownTransform, WrongCount}
use Rattle.pb_model.specs.Calls.{Outcomes}
use Rattle.pb_program.specs.Configs.{ConfigValue}
use Rattle.pb_recursion.specs.Counts.{Counted}
use Rattle.pb_unroll.specs.Handed.{AreMany, IsTooLarge, IsTooMany, IsWithin, counted, run_steps}
use Rattle.pb_top.specs.Reply.{Reply}
use Rattle.pb_top.specs.Steps.{AfterProgram, OfProgram}

pub some_same : {A : Type 0} (x y : A) → Some x ≡ Some y → x ≡ y
some_same x y e = cc

pub never_both : {A B : Type 0} {r : Result A B} {x : A} {y : B} → r ≡ Ok x → r ≡ Err y → ⊥
never_both a b = cc

module _ (text : List ℕ) (p : List ProgTransform) (a : IsTextAccepted text p) where
  same_tree : (tree : List TransformTree) → IsRead text tree → a.tree ≡ tree
  same_tree tree read = one_tree text a.tree tree a.read read

  not_named_badly : (tree : List TransformTree) → IsRead text tree → (why : Refusal) → HasBadNames tree why → ⊥
  not_named_badly tree read why bad = subst (λ faults. IsRefusedFor faults why) (subst (λ t. faults_of t ≡ []) (same_tree tree read) a.resolved.faultless) bad

  same_program : (tree : List TransformTree) → IsRead text tree → (q : List ProgTransform) → IsResolved tree q → q ≡ p
  same_program tree read q resolved = resolved.program ∙ ap program_of (sym (same_tree tree read)) ∙ sym a.resolved.program

  not_unsound : (q : List ProgTransform) → q ≡ p → (why : Refusal) → IsUnsound q why → ⊥
  not_unsound q same why bad = sound_apart p why a.sound (subst (λ x. IsUnsound x why) same bad)

  -- what a reply has that comes after it is accepted
  pub accepted_has : (Has : Reply → Type 0) (Next : OfProgram) → ((tree : List TransformTree) (found : List AnalysisValue) → AreFound p found → (reply : Reply) → Next tree p found reply → Has reply)
      → (reply : Reply) → AfterProgram Next text reply → Has reply
  accepted_has Has Next more reply (inl (tree, read, inl (q, resolved, inl (found, accepts, rest)))) =
      more tree found (subst (λ x. AreFound x found) (same_program tree read q resolved) accepts.1) reply (subst (λ x. Next tree x found reply) (same_program tree read q resolved) rest)
  accepted_has Has Next more reply (inl (tree, read, inl (q, resolved, inr (why, nodes, unsound, named, is)))) = absurd (not_unsound q (same_program tree read q resolved) why unsound)
  accepted_has Has Next more reply (inl (tree, read, inr (why, bad, is))) = absurd (not_named_badly tree read why bad)
  accepted_has Has Next more reply (inr (why, bad, is)) = absurd (not_both text a.tree why a.read bad)

-- ---- counts
module _ (p : List ProgTransform) (found : List AnalysisValue) (config : ConfigValue) (grain depth number : ℕ) (ins : List Outcomes) (within : IsWithin p found config grain depth number ins) where
  abbrev count : Counted
  count = counted p found config grain depth number ins

  few_calls : (e : RunRefusal) → AreMany count e → ⊥
  few_calls (TooLarge Calls) many = omega (arith, many, within.counts.calls)
  few_calls (TooLarge Side) many = omega (arith, many.1, within.counts.side)
  few_calls (TooLarge Cells) many = omega (arith, many.2, within.counts.cells)
  few_calls (TooLarge Tasks) many = many
  few_calls (TooLarge Links) many = many
  few_calls UnknownTransform many = many
  few_calls (WrongCount wanted given) many = many
  few_calls (BadShape matrix axis wanted has) many = many
  few_calls (SizeOutOfRange size value) many = many
  few_calls Memory many = many

  few_tasks : (e : RunRefusal) → IsTooMany (run_steps p found config grain depth number ins) e → ⊥
  few_tasks (TooLarge Calls) many = many
  few_tasks (TooLarge Side) many = many
  few_tasks (TooLarge Cells) many = many
  few_tasks (TooLarge Tasks) many = omega (arith, many, within.tasks)
  few_tasks (TooLarge Links) many = omega (arith, many.1, within.links)
  few_tasks UnknownTransform many = many
  few_tasks (WrongCount wanted given) many = many
  few_tasks (BadShape matrix axis wanted has) many = many
  few_tasks (SizeOutOfRange size value) many = many
  few_tasks Memory many = many

  pub not_too_large : (e : RunRefusal) → IsTooLarge p found config grain depth number ins e → ⊥
  not_too_large e (inl many) = few_calls e many
  not_too_large e (inr (few, many)) = few_tasks e many
