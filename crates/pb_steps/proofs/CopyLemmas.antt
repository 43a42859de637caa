-- Copies, and the traps of calls that can't be made, as steps of a run.
use Rattle.std.proofs.Common.{◌≡◌, ◌∙◌, refl, sym, ap, subst, ℕ, zero, suc, ◌+◌, ◌<◌, List, [], ◌∷◌, ◌++◌, get_or, length, map, slice_get, take, Some, None, arith}
use Rattle.pb_values.specs.declared.outcome.Outcome.TheVariants.{Trapped}
use Rattle.pb_links.specs.declared.places.Spot.{Spot}
use Rattle.pb_graph.specs.Nodes.{NodeValue}
use Rattle.pb_program.specs.Trees.{ProgTransform}
use Rattle.pb_program.specs.declared.plan.Slot.TheVariants as slot
use Rattle.pb_program.specs.declared.view.Read.{Read}
use Rattle.pb_check.specs.Orders.{AnalysisValue}
use Rattle.pb_frame.specs.Frames.{JobValue}
use Rattle.pb_frame.specs.declared.part.FramePart.{FramePart}
use Rattle.pb_plan.specs.Boxes.{whole_box}
use Rattle.pb_plan.proofs.JobLemmas.{map_at}
use Rattle.pb_recursion.specs.Plans.{Names, named}
use Rattle.pb_views.specs.Seats.{no_seat}
use Rattle.pb_views.specs.declared.seat.Seat.{Seat}
use Rattle.pb_counts.specs.Handed.{Instance, by_copy, by_trap}
use Rattle.pb_counts.specs.Handed.{copies_of, copy_step, output_parts, output_rect, trap_step}
use Rattle.pb_steps.specs.Stands.{Appends, IsJobAt, common_parts}
use Rattle.pb_steps.specs.Values.{CopiedValue, FailedValue, InstanceValue}
use Rattle.pb_steps.specs.declared.step.Step.{Step as StepValue}
use Rattle.pb_steps.specs.declared.step.Step.TheVariants as step
use Rattle.pb_steps.proofs.GrowLemmas.{appends_both, appends_one}
use Rattle.pb_steps.proofs.ListLemmas.{get_at}

module _ (p : List ProgTransform) (found : List AnalysisValue) (instances : List InstanceValue) where
  -- one step more
  pub trap_one : (f : FailedValue) → 0 < length f.seats → (old new : List StepValue) → new ≡ old ++ step.Trap f ∷ [] → Appends p found instances old new (trap_step f.targets f.first f.call (Trapped f.trap) f.seats)
  trap_one f some old new added = by f.seats refl
    where
      by : (ss : List Seat) → f.seats ≡ ss → Appends p found instances old new (trap_step f.targets f.first f.call (Trapped f.trap) ss)
      by [] e = absurd (omega (arith, some, ap length e))
      by (s ∷ rest) e =
          let g = by_trap (record { call = f.call; outcome = Trapped f.trap; targets = f.targets; first = f.first; seats = s ∷ rest }) in
          subst (λ l. Appends p found instances old l (g ∷ [])) (sym added) (appends_one p found instances old (step.Trap f) g (λ k. record { call = f.call; outcome = Trapped f.trap; targets = f.targets; first = f.first; seats = sym e k }))

  pub copy_one : (i : Instance) (job : JobValue) (c : CopiedValue) → IsJobAt p found instances c.instance c.job i job → 0 < length c.parts → (old new : List StepValue) → new ≡ old ++ step.Copy c ∷ []
      → Appends p found instances old new (copy_step i job c.source c.corner c.parts)
  copy_one i job c at some old new added = by c.parts refl
    where
      by : (ps : List FramePart) → c.parts ≡ ps → Appends p found instances old new (copy_step i job c.source c.corner ps)
      by [] e = absurd (omega (arith, some, ap length e))
      by (q ∷ rest) e =
          let d = by_copy i (record { layer = job.layer; rule = job.rule; parts = q ∷ rest; corner = c.corner; source = c.source }) in
          subst (λ l. Appends p found instances old l (d ∷ [])) (sym added) (appends_one p found instances old (step.Copy c) d (record { job = job; at = at; is = λ k. record { layer = job.layer; rule = job.rule; parts = sym e k; corner = c.corner; source = c.source } }))

-- the copy of the next output
module _ (i : Instance) (j : JobValue) (names : Names Seat) where
  append_none : {A : Type 0} (xs : List A) → xs ++ [] ≡ xs
  append_none [] = refl
  append_none (x ∷ xs) = ap (λ l. x ∷ l) (append_none xs)

  append_grouped : {A : Type 0} (xs ys zs : List A) → xs ++ (ys ++ zs) ≡ (xs ++ ys) ++ zs
  append_grouped [] ys zs = refl
  append_grouped (x ∷ xs) ys zs = ap (λ l. x ∷ l) (append_grouped xs ys zs)

  copies_next : (n : ℕ) (views : List Read) (k : ℕ) (v : Read) → slice_get views k ≡ Some v
      → copies_of i j names n (take (k + 1) views) ≡ copies_of i j names n (take k views) ++ copy_step i j (named no_seat names (slot.Out (n + k))) ((output_rect i v).x0, (output_rect i v).y0) (output_parts i j v)
  copies_next n [] k v e = absurd (let wrong : None ≡ Some v = e in cc)
  copies_next n (u ∷ views) zero v e =
      let some : Some u ≡ Some v = e in
      let same : u ≡ v = cc in
      let number : n + 0 ≡ n = omega arith in
      append_none (copy_step i j (named no_seat names (slot.Out n)) ((output_rect i u).x0, (output_rect i u).y0) (output_parts i j u)) ∙ (λ k. copy_step i j (named no_seat names (slot.Out (sym number k))) ((output_rect i (same k)).x0, (output_rect i (same k)).y0) (output_parts i j (same k)))
  copies_next n (u ∷ views) (suc k) v e =
      let first = copy_step i j (named no_seat names (slot.Out n)) ((output_rect i u).x0, (output_rect i u).y0) (output_parts i j u) in
      let last = λ (m : ℕ). copy_step i j (named no_seat names (slot.Out m)) ((output_rect i v).x0, (output_rect i v).y0) (output_parts i j v) in
      let number : (n + 1) + k ≡ n + suc k = omega arith in
      let next : suc k + 1 ≡ suc (k + 1) = omega arith in
      ap (λ m. copies_of i j names n (take m (u ∷ views))) next ∙ ap (λ l. first ++ l) (copies_next (n + 1) views k v e) ∙ append_grouped first (copies_of i j names (n + 1) (take k views)) (last ((n + 1) + k)) ∙ ap (λ m. (first ++ copies_of i j names (n + 1) (take k views)) ++ last m) number

  module _ (p : List ProgTransform) (found : List AnalysisValue) (instances : List InstanceValue) (nodes : List NodeValue) (parts : List FramePart) (outs : List Spot) (views : List Read) (same_nodes : i.found.nodes ≡ nodes) (same_parts : j.parts ≡ parts) (where_outs : outs ≡ map (whole_box i.transform.matrices i.sizes) views) where
    pub next_copy : (k : ℕ) (d o : Spot) → k < length outs → o ≡ get_or outs k d → (copied : List FramePart) → copied ≡ common_parts nodes o.base o.rect parts → (source : Seat) → source ≡ named no_seat names (slot.Out k) → (first old new : List StepValue)
        → Appends p found instances first old (copies_of i j names 0 (take k views)) → Appends p found instances old new (copy_step i j source (o.rect.x0, o.rect.y0) copied)
        → Appends p found instances first new (copies_of i j names 0 (take (k + 1) views))
    next_copy k d o below is copied are source from first old new before last =
        let at : slice_get (map (whole_box i.transform.matrices i.sizes) views) k ≡ Some o = subst (λ l. slice_get l k ≡ Some o) where_outs (get_at outs k d below ∙ ap Some (sym is)) in
        let v = map_at (whole_box i.transform.matrices i.sizes) views k o at in
        let number : k ≡ 0 + k = omega arith in
        let step_is : copy_step i j source (o.rect.x0, o.rect.y0) copied ≡ copy_step i j (named no_seat names (slot.Out (0 + k))) ((output_rect i v.0).x0, (output_rect i v.0).y0) (output_parts i j v.0) =
        (λ m. copy_step i j (from m) (o.rect.x0, o.rect.y0) (are m)) ∙ (λ m. copy_step i j (named no_seat names (slot.Out (number m))) ((sym v.2 m).rect.x0, (sym v.2 m).rect.y0) (common_parts (sym same_nodes m) (sym v.2 m).base (sym v.2 m).rect (sym same_parts m))) in
        subst (Appends p found instances first new) (ap (λ l. copies_of i j names 0 (take k views) ++ l) step_is ∙ sym (copies_next 0 views k v.0 v.1))
        (appends_both p found instances first old new (copies_of i j names 0 (take k views)) (copy_step i j source (o.rect.x0, o.rect.y0) copied) before last)
