-- In a program whose types are right each plan has its list of calls.
use Rattle.std.proofs.Common.{◌≡◌, ℕ, ◌+◌, length, slice_get, List, [], ◌∷◌, ◌++◌, Option, Some, refl, ap, ◌∙◌}
use Rattle.pb_program.specs.declared.meaning.Meaning.{Meaning}
use Rattle.pb_program.specs.declared.meaning.Meaning.TheVariants as meaning
use Rattle.pb_program.specs.declared.meaning.Named.{Named}
use Rattle.pb_program.specs.declared.meaning.Callee.{Callee}
use Rattle.pb_program.specs.declared.meaning.Callee.TheVariants as callee
use Rattle.pb_program.specs.declared.plan.Slot.TheVariants as slot
use Rattle.pb_program.specs.Exprs.{ExprValue}
use Rattle.pb_program.specs.Exprs as e
use Rattle.pb_program.specs.Stmts.{StmtValue}
use Rattle.pb_program.specs.Stmts as s
use Rattle.pb_program.specs.Forms.{DeclValue}
use Rattle.pb_program.specs.Plans.{PlanCallValue, slot_of, argument_slot, put, target_slots, argument_slots, transform_call as called, call_by, called_by, call_of, calls_of, items}
use Rattle.pb_program.specs.Trees.{ProgTransform}
use Rattle.pb_types.specs.Least.{unless}
use Rattle.pb_types.specs.Plans.{Known, is_given, is_free, make, argument_broken, argument_misfit, target_misfit, numbered, misfit, argument_dims, wanted, targets_broken, count_broken, takes, gives, call_broken, assign_broken, plan_stmt_broken, plan_stmts_broken, after}
use Rattle.pb_types.specs.Sorts.{place_of}
use Rattle.pb_types.proofs.LeastLemmas.{none_left, none_right}

-- some answer is there
abbrev pub IsThere : {A : Type 0} → Option A → Type 0
IsThere {A} o = (x : A) × (o ≡ Some x)

given_slot : (k : Known) (m : Meaning) (at : ℕ) → unless (is_given k m) at ≡ [] → IsThere (slot_of m)
given_slot k (meaning.Read i) at none = (slot.Read i, refl)
given_slot k (meaning.Matrix i) at none = (slot.Local i, refl)
given_slot k (meaning.Size i) at none = cc
given_slot k meaning.RuleX at none = cc
given_slot k meaning.RuleY at none = cc
given_slot k (meaning.Output i) at none = cc
given_slot k (meaning.Number i) at none = cc

free_slot : (k : Known) (m : Meaning) (at : ℕ) → unless (is_free k m) at ≡ [] → IsThere (slot_of m)
free_slot k (meaning.Output i) at none = (slot.Out i, refl)
free_slot k (meaning.Matrix i) at none = (slot.Local i, refl)
free_slot k (meaning.Size i) at none = cc
free_slot k meaning.RuleX at none = cc
free_slot k meaning.RuleY at none = cc
free_slot k (meaning.Read i) at none = cc
free_slot k (meaning.Number i) at none = cc

argument_there : (k : Known) (x : ExprValue) → argument_broken k x ≡ [] → IsThere (argument_slot x)
argument_there k (e.name n) none = given_slot k n.what n.at none
argument_there k (e.number at n) none = cc
argument_there k (e.call c xs) none = cc
argument_there k (e.parentheses at x) none = cc
argument_there k (e.cell v xs) none = cc
argument_there k (e.width v) none = cc
argument_there k (e.height v) none = cc
argument_there k (e.signed at sign x) none = cc
argument_there k (e.chain level x rest) none = cc
argument_there k (e.compare x relation y) none = cc

arguments_there : (k : Known) (matrices : List DeclValue) (i : ℕ) (xs : List ExprValue) → numbered (argument_misfit k matrices) i xs ≡ [] → IsThere (argument_slots xs)
arguments_there k matrices i [] none = ([], refl)
arguments_there k matrices i (x ∷ xs) none =
    let here : argument_misfit k matrices i x ≡ [] = none_left (argument_misfit k matrices i x) (numbered (argument_misfit k matrices) (i + 1) xs) none in
    let a = argument_there k x (none_left (argument_broken k x) (misfit (place_of x) (argument_dims k x) (wanted matrices i)) here) in
    let b = arguments_there k matrices (i + 1) xs (none_right (argument_misfit k matrices i x) (numbered (argument_misfit k matrices) (i + 1) xs) none) in
    (a.0 ∷ b.0, ap (λ o. put o (argument_slots xs)) a.1 ∙ ap (put (Some a.0)) b.1)

targets_there : (k : Known) (ns : List Named) → targets_broken k ns ≡ [] → IsThere (target_slots ns)
targets_there k [] none = ([], refl)
targets_there k (n ∷ ns) none =
    let first = unless (is_free k n.what) n.at in
    let a = free_slot k n.what n.at (none_left first (targets_broken (make k n.what) ns) none) in
    let b = targets_there (make k n.what) ns (none_right first (targets_broken (make k n.what) ns) none) in
    (a.0 ∷ b.0, ap (λ o. put o (target_slots ns)) a.1 ∙ ap (put (Some a.0)) b.1)

module _ (ts : List ProgTransform) where
  call_there : (k : Known) (at name : ℕ) (ns : List Named) (c : Callee) (xs : List ExprValue) → call_broken ts k at ns name c xs ≡ []
      → IsThere (called c (target_slots ns) (argument_slots xs))
  call_there k at name ns (callee.Function f) xs none = cc
  call_there k at name ns (callee.Transform t) xs none =
      let m = takes (slice_get ts t) in
      let g = gives (slice_get ts t) in
      let arguments = numbered (argument_misfit k m) 0 xs in
      let targets = numbered (target_misfit k g) 0 ns ++ targets_broken k ns in
      let all = none_right (count_broken name (length ns) (length xs) m g) (arguments ++ targets) none in
      let a = arguments_there k m 0 xs (none_left arguments targets all) in
      let b = targets_there k ns (none_right (numbered (target_misfit k g) 0 ns) (targets_broken k ns) (none_right arguments targets all)) in
      (record { transform = t; targets = b.0; arguments = a.0 }, ap (λ o. call_by t o (argument_slots xs)) b.1 ∙ ap (call_by t (Some b.0)) a.1)

  assign_there : (k : Known) (n : Named) (x : ExprValue) → assign_broken ts k n x ≡ [] → IsThere (called_by n x)
  assign_there k n (e.call c xs) none = call_there k n.at c.at (n ∷ []) c.what (items xs) none
  assign_there k n (e.number at v) none = cc
  assign_there k n (e.name m) none = cc
  assign_there k n (e.parentheses at x) none = cc
  assign_there k n (e.cell v xs) none = cc
  assign_there k n (e.width v) none = cc
  assign_there k n (e.height v) none = cc
  assign_there k n (e.signed at sign x) none = cc
  assign_there k n (e.chain level x rest) none = cc
  assign_there k n (e.compare x relation y) none = cc

  put_there : (o : Option PlanCallValue) (rest : Option (List PlanCallValue)) → IsThere o → IsThere rest → IsThere (put o rest)
  put_there o rest a b = (a.0 ∷ b.0, ap (λ z. put z rest) a.1 ∙ ap (put (Some a.0)) b.1)

  pub calls_there : (k : Known) (ss : List StmtValue) → plan_stmts_broken ts k ss ≡ [] → IsThere (calls_of ss)
  calls_there k [] none = ([], refl)
  calls_there k (s.let_matrix at n dims ∷ rest) none =
      let x = s.let_matrix at n dims in calls_there (after k x) rest (none_right (plan_stmt_broken ts k x) (plan_stmts_broken ts (after k x) rest) none)
  calls_there k (s.assign n v ∷ rest) none =
      let x = s.assign n v in
      let others = plan_stmts_broken ts (after k x) rest in
      put_there (called_by n v) (calls_of rest) (assign_there k n v (none_left (assign_broken ts k n v) others none)) (calls_there (after k x) rest (none_right (assign_broken ts k n v) others none))
  calls_there k (s.call_stmt ns c xs ∷ rest) none =
      let x = s.call_stmt ns c xs in
      let here = call_broken ts k c.at ns c.at c.what xs in
      let others = plan_stmts_broken ts (after k x) rest in
      put_there (call_of x) (calls_of rest) (call_there k c.at c.at ns c.what xs (none_left here others none)) (calls_there (after k x) rest (none_right here others none))
  calls_there k (s.let_number at n x ∷ rest) none = cc
  calls_there k (s.assign_cell n xs x ∷ rest) none = cc
  calls_there k (s.if_stmt at x ss ∷ rest) none = cc
  calls_there k (s.if_else at x ss others ∷ rest) none = cc
  calls_there k (s.for_stmt at n x y ss ∷ rest) none = cc
