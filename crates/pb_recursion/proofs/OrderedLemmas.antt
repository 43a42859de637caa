-- In a program whose types are right each plan passes on what is there.
use Rattle.std.proofs.Common.{◌≡◌, ◌∙◌, refl, sym, ap, subst, inl, inr, ◌⊎◌, ⊎_elim, ℕ, zero, suc, ◌+◌, ◌<◌, Bool, true, false, length, map, slice_get, List, [], ◌∷◌, ◌++◌, Option, Some, None, arith}
use Rattle.std.specs.List.{AllByRecursion, Contains, flat_map}
use Rattle.std.specs.Option.{option_map_or}
use Rattle.std.proofs.lemmas.List.Elements.{Contains-append_cases, Contains-append_left, Contains-append_right}
use Rattle.pb_base.proofs.ListLemmas.{in_cases, in_head, in_tail}
use Rattle.pb_program.specs.declared.meaning.Meaning.{Meaning}
use Rattle.pb_program.specs.declared.meaning.Meaning.TheVariants as meaning
use Rattle.pb_program.specs.declared.meaning.Named.{Named}
use Rattle.pb_program.specs.declared.meaning.Callee.{Callee}
use Rattle.pb_program.specs.declared.meaning.Callee.TheVariants as callee
use Rattle.pb_program.specs.declared.plan.Slot.{Slot}
use Rattle.pb_program.specs.declared.plan.Slot.TheVariants as slot
use Rattle.pb_program.specs.declared.view.Read.{Read}
use Rattle.pb_program.specs.Exprs.{ExprValue}
use Rattle.pb_program.specs.Exprs as e
use Rattle.pb_program.specs.Stmts.{StmtValue}
use Rattle.pb_program.specs.Stmts as s
use Rattle.pb_program.specs.Forms.{DeclValue}
use Rattle.pb_program.specs.Plans.{PlanCallValue, PlanValue, slot_of, argument_slot, put, target_slots, argument_slots, transform_call as called, call_by, calls_of, items}
use Rattle.pb_program.specs.Trees.{ProgRule, ProgTransform}
use Rattle.pb_program.specs.WellFormed.{Around, IsRule, IsTransform, IsWellFormed, PlanFits, around}
use Rattle.pb_program.specs.declared.rule.RuleKind.TheVariants as kind
use Rattle.pb_region.proofs.SmallLemmas.{at_place}
use Rattle.pb_calls.specs.Handed.{IsSound}
use Rattle.pb_recursion.specs.Plans.{calls_of_rule}
use Rattle.pb_types.specs.Least.{unless}
use Rattle.pb_types.specs.Plans.{Known, is_given, is_free, make, make_all, made_at, made_by, declare, out_target, at_first, unmade, never_made, argument_broken, argument_misfit, target_misfit, numbered, misfit, argument_dims, wanted, targets_broken, count_broken, takes, gives, call_broken, plan_stmt_broken, plan_stmts_broken, plan_view_broken, after}
use Rattle.pb_types.specs.Sorts.{place_of}
use Rattle.pb_types.specs.Types.{body_broken, rule_broken, transform_broken}
use Rattle.pb_types.specs.Views.{view_broken}
use Rattle.pb_types.proofs.LeastLemmas.{none_left, none_right}
use Rattle.pb_recursion.specs.Ordered.{AreOrdered, IsGiven}

-- the type of what is known of an output or a local
abbrev result_of : {A B : Type 0} → (A → B) → Type 0
result_of {A} {B} f = B

abbrev pub Target : Type 0
Target = result_of out_target

-- ---- what is known to be made was a target
pub record Follows (outputs : ℕ) (k : Known) (made : List Slot) : Type 0 where
  pub outs : (i : ℕ) (t : Target) → slice_get k.outs i ≡ Some t → t.made ≡ true → Contains made (slot.Out i)
  pub locals : (i : ℕ) (t : Target) → slice_get k.locals i ≡ Some t → t.made ≡ true → Contains made (slot.Local i)
  pub count : length k.outs ≡ outputs

-- one more is made
made_cases : (ts : List Target) (i j : ℕ) → (i ≡ j) ⊎ (slice_get (made_at ts i) j ≡ slice_get ts j)
made_cases [] i j = inr refl
made_cases (t ∷ ts) zero zero = inl refl
made_cases (t ∷ ts) zero (suc j) = inr refl
made_cases (t ∷ ts) (suc i) zero = inr refl
made_cases (t ∷ ts) (suc i) (suc j) = ⊎_elim (λ same. inl (ap suc same)) (λ same. inr same) (made_cases ts i j)

made_length : (ts : List Target) (i : ℕ) → length (made_at ts i) ≡ length ts
made_length [] i = refl
made_length (t ∷ ts) zero = refl
made_length (t ∷ ts) (suc i) = ap suc (made_length ts i)

module _ (outputs : ℕ) where
  more : (k : Known) (made others : List Slot) → ((x : Slot) → Contains made x → Contains others x) → Follows outputs k made → Follows outputs k others
  more k made others to h = record { outs = λ i t at is. to (slot.Out i) (h.outs i t at is); locals = λ i t at is. to (slot.Local i) (h.locals i t at is); count = h.count }

  make_follows : (k : Known) (m : Meaning) (t : Slot) (made : List Slot) → slot_of m ≡ Some t → Follows outputs k made → Follows outputs (make k m) (t ∷ made)
  make_follows k (meaning.Output i) t made is h = record {
    outs = λ j q at yes_made. ⊎_elim
        (λ (same : i ≡ j). let slot_is : Some (slot.Out i) ≡ Some t = is in let this : slot.Out i ≡ t = cc in subst (λ x. Contains (t ∷ made) x) (sym this ∙ ap slot.Out same) (in_head t made))
        (λ other. in_tail t (slot.Out j) made (h.outs j q (sym other ∙ at) yes_made))
        (made_cases k.outs i j);
    locals = λ j q at yes_made. in_tail t (slot.Local j) made (h.locals j q at yes_made);
    count = made_length k.outs i ∙ h.count;
  }
  make_follows k (meaning.Matrix i) t made is h = record {
    outs = λ j q at yes_made. in_tail t (slot.Out j) made (h.outs j q at yes_made);
    locals = λ j q at yes_made. ⊎_elim
        (λ (same : i ≡ j). let slot_is : Some (slot.Local i) ≡ Some t = is in let this : slot.Local i ≡ t = cc in subst (λ x. Contains (t ∷ made) x) (sym this ∙ ap slot.Local same) (in_head t made))
        (λ other. in_tail t (slot.Local j) made (h.locals j q (sym other ∙ at) yes_made))
        (made_cases k.locals i j);
    count = h.count;
  }
  make_follows k (meaning.Read i) t made is h = more k made (t ∷ made) (λ x. in_tail t x made) h
  make_follows k (meaning.Size i) t made is h = absurd (let wrong : None ≡ Some t = is in cc)
  make_follows k meaning.RuleX t made is h = absurd (let wrong : None ≡ Some t = is in cc)
  make_follows k meaning.RuleY t made is h = absurd (let wrong : None ≡ Some t = is in cc)
  make_follows k (meaning.Number i) t made is h = absurd (let wrong : None ≡ Some t = is in cc)

  declare_follows : (k : Known) (t : Target) (made : List Slot) → t.made ≡ false → Follows outputs k made → Follows outputs (declare k t) made
  declare_follows k t made new h = record { outs = h.outs; locals = λ i q at is. by k.locals i q at is (λ j r. h.locals j r); count = h.count }
    where
      by : (ts : List Target) (i : ℕ) (q : Target) → slice_get (ts ++ t ∷ []) i ≡ Some q → q.made ≡ true → ((j : ℕ) (r : Target) → slice_get ts j ≡ Some r → r.made ≡ true → Contains made (slot.Local j)) → Contains made (slot.Local i)
      by ts i q at is old = old i q (older ts i q at is) is
        where
          older : (ts : List Target) (i : ℕ) (q : Target) → slice_get (ts ++ t ∷ []) i ≡ Some q → q.made ≡ true → slice_get ts i ≡ Some q
          older [] zero q at is = absurd (let some : Some t ≡ Some q = at in let same : t ≡ q = cc in let wrong : true ≡ false = sym is ∙ sym (ap (λ (z : Target). z.made) same) ∙ new in cc)
          older [] (suc i) q at is = absurd (let wrong : None ≡ Some q = at in cc)
          older (r ∷ ts) zero q at is = at
          older (r ∷ ts) (suc i) q at is = older ts i q at is

  -- ---- what is given
  given_slot : (k : Known) (made : List Slot) (m : Meaning) (at : ℕ) → Follows outputs k made → unless (is_given k m) at ≡ [] → (x : Slot) × (slot_of m ≡ Some x) × IsGiven made x
  given_slot k made (meaning.Read i) at h none = (slot.Read i, refl, tt)
  given_slot k made (meaning.Matrix i) at h none = (slot.Local i, refl, by (slice_get k.locals i) refl none)
    where
      by : (o : Option Target) → slice_get k.locals i ≡ o → unless (option_map_or (λ (t : Target). t.made) o false) at ≡ [] → Contains made (slot.Local i)
      by None e none = absurd (let wrong : at ∷ [] ≡ [] = none in cc)
      by (Some t) e none = h.locals i t e (flag t.made none)
        where
          flag : (b : Bool) → unless b at ≡ [] → b ≡ true
          flag true none = refl
          flag false none = absurd (let wrong : at ∷ [] ≡ [] = none in cc)
  given_slot k made (meaning.Size i) at h none = cc
  given_slot k made meaning.RuleX at h none = cc
  given_slot k made meaning.RuleY at h none = cc
  given_slot k made (meaning.Output i) at h none = cc
  given_slot k made (meaning.Number i) at h none = cc

  argument_given : (k : Known) (made : List Slot) (x : ExprValue) → Follows outputs k made → argument_broken k x ≡ [] → (a : Slot) × (argument_slot x ≡ Some a) × IsGiven made a
  argument_given k made (e.name n) h none = given_slot k made n.what n.at h none
  argument_given k made (e.number at n) h none = cc
  argument_given k made (e.call c xs) h none = cc
  argument_given k made (e.parentheses at x) h none = cc
  argument_given k made (e.cell v xs) h none = cc
  argument_given k made (e.width v) h none = cc
  argument_given k made (e.height v) h none = cc
  argument_given k made (e.signed at sign x) h none = cc
  argument_given k made (e.chain level x rest) h none = cc
  argument_given k made (e.compare x relation y) h none = cc

  arguments_given : (k : Known) (made : List Slot) (matrices : List DeclValue) (i : ℕ) (xs : List ExprValue) → Follows outputs k made → numbered (argument_misfit k matrices) i xs ≡ []
      → (slots : List Slot) × (argument_slots xs ≡ Some slots) × AllByRecursion (IsGiven made) slots
  arguments_given k made matrices i [] h none = ([], refl, tt)
  arguments_given k made matrices i (x ∷ xs) h none =
      let here : argument_misfit k matrices i x ≡ [] = none_left (argument_misfit k matrices i x) (numbered (argument_misfit k matrices) (i + 1) xs) none in
      let a = argument_given k made x h (none_left (argument_broken k x) (misfit (place_of x) (argument_dims k x) (wanted matrices i)) here) in
      let b = arguments_given k made matrices (i + 1) xs h (none_right (argument_misfit k matrices i x) (numbered (argument_misfit k matrices) (i + 1) xs) none) in
      (a.0 ∷ b.0, ap (λ o. put o (argument_slots xs)) a.1 ∙ ap (put (Some a.0)) b.1, (a.2, b.2))

  -- ---- what is made
  free_slot : (k : Known) (m : Meaning) (at : ℕ) → unless (is_free k m) at ≡ [] → (x : Slot) × (slot_of m ≡ Some x)
  free_slot k (meaning.Output i) at none = (slot.Out i, refl)
  free_slot k (meaning.Matrix i) at none = (slot.Local i, refl)
  free_slot k (meaning.Size i) at none = cc
  free_slot k meaning.RuleX at none = cc
  free_slot k meaning.RuleY at none = cc
  free_slot k (meaning.Read i) at none = cc
  free_slot k (meaning.Number i) at none = cc

  targets_made : (k : Known) (made : List Slot) (ns : List Named) → Follows outputs k made → targets_broken k ns ≡ [] → (slots : List Slot) × (target_slots ns ≡ Some slots) × Follows outputs (make_all k ns) (slots ++ made)
  targets_made k made [] h none = ([], refl, h)
  targets_made k made (n ∷ ns) h none =
      let first = unless (is_free k n.what) n.at in
      let a = free_slot k n.what n.at (none_left first (targets_broken (make k n.what) ns) none) in
      let b = targets_made (make k n.what) (a.0 ∷ made) ns (make_follows k n.what a.0 made a.1 h) (none_right first (targets_broken (make k n.what) ns) none) in
      (a.0 ∷ b.0, ap (λ o. put o (target_slots ns)) a.1 ∙ ap (put (Some a.0)) b.1, more (make_all (make k n.what) ns) (b.0 ++ a.0 ∷ made) ((a.0 ∷ b.0) ++ made) (moved a.0 b.0 made) b.2)
    where
      moved : (a : Slot) (xs ys : List Slot) (x : Slot) → Contains (xs ++ a ∷ ys) x → Contains ((a ∷ xs) ++ ys) x
      moved a xs ys x h = ⊎_elim
          (λ left. in_tail a x (xs ++ ys) (Contains-append_left xs ys x left))
          (λ right. elim (in_cases a x ys right) [
            | inl same ↦ subst (Contains (a ∷ (xs ++ ys))) same (in_head a (xs ++ ys))
            | inr later ↦ in_tail a x (xs ++ ys) (Contains-append_right xs ys x later)
          ])
          (Contains-append_cases xs (a ∷ ys) x h)

  -- ---- statements
  -- a call whose arguments are given, and after which its targets are made
  pub record IsCall (k : Known) (made : List Slot) (next : Known) (o : Option PlanCallValue) : Type 0 where
    pub call : PlanCallValue
    pub is : o ≡ Some call
    pub given : AllByRecursion (IsGiven made) call.arguments
    pub follows : Follows outputs next (call.targets ++ made)

  -- the calls of some statements
  pub record AreCalls (made : List Slot) (o : Option (List PlanCallValue)) : Type 0 where
    pub calls : List PlanCallValue
    pub are : o ≡ Some calls
    pub ordered : AreOrdered outputs made calls

  flag_set : (t : Target) → unmade t ≡ [] → t.made ≡ true
  unfolding unmade
  flag_set t none = by t.made none
    where
      by : (b : Bool) → unless b t.at ≡ [] → b ≡ true
      by true none = refl
      by false none = absurd (let wrong : t.at ∷ [] ≡ [] = none in cc)

  all_made : (k : Known) (made : List Slot) → Follows outputs k made → never_made k ≡ [] → (i : ℕ) → i < outputs → Contains made (slot.Out i)
  all_made k made h none i low = by k.outs i (omega (arith, low, h.count)) (none_left (flat_map unmade k.outs) (flat_map unmade k.locals) none) (λ t at is. h.outs i t at is)
    where
      by : (ts : List Target) (j : ℕ) → j < length ts → flat_map unmade ts ≡ [] → ((t : Target) → slice_get ts j ≡ Some t → t.made ≡ true → Contains made (slot.Out i)) → Contains made (slot.Out i)
      by [] j low none to = absurd (omega (arith, low))
      by (t ∷ ts) zero low none to = to t refl (flag_set t (none_left (unmade t) (flat_map unmade ts) none))
      by (t ∷ ts) (suc j) low none to = by ts j (omega (arith, low)) (none_right (unmade t) (flat_map unmade ts) none) to

  module _ (ts : List ProgTransform) where
    call_is : (k : Known) (made : List Slot) (at name : ℕ) (ns : List Named) (t : ℕ) (xs : List ExprValue) → Follows outputs k made → call_broken ts k at ns name (callee.Transform t) xs ≡ []
        → IsCall k made (make_all k ns) (called (callee.Transform t) (target_slots ns) (argument_slots xs))
    call_is k made at name ns t xs h none =
        let m = takes (slice_get ts t) in
        let g = gives (slice_get ts t) in
        let arguments = numbered (argument_misfit k m) 0 xs in
        let targets = numbered (target_misfit k g) 0 ns ++ targets_broken k ns in
        let all = none_right (count_broken name (length ns) (length xs) m g) (arguments ++ targets) none in
        let a = arguments_given k made m 0 xs h (none_left arguments targets all) in
        let b = targets_made k made ns h (none_right (numbered (target_misfit k g) 0 ns) (targets_broken k ns) (none_right arguments targets all)) in
        record { call = record { transform = t; targets = b.0; arguments = a.0 }; is = ap (λ o. call_by t o (argument_slots xs)) b.1 ∙ ap (call_by t (Some b.0)) a.1; given = a.2; follows = b.2 }

    put_calls : (k next : Known) (made : List Slot) (o : Option PlanCallValue) (rest : Option (List PlanCallValue)) (c : IsCall k made next o) → AreCalls (c.call.targets ++ made) rest → AreCalls made (put o rest)
    put_calls k next made o rest c l = record { calls = c.call ∷ l.calls; are = ap (λ z. put z rest) c.is ∙ ap (put (Some c.call)) l.are; ordered = (c.given, l.ordered) }

    pub calls_ordered : (k : Known) (made : List Slot) (ss : List StmtValue) → Follows outputs k made → plan_stmts_broken ts k ss ≡ [] → AreCalls made (calls_of ss)
    calls_ordered k made [] h none = record { calls = []; are = refl; ordered = all_made k made h none }
    calls_ordered k made (s.let_matrix at n dims ∷ rest) h none =
        let x = s.let_matrix at n dims in
        let same = calls_ordered (after k x) made rest (declare_follows k (record { at = n.at; dims = Some (length dims); made = false }) made refl h) (none_right (plan_stmt_broken ts k x) (plan_stmts_broken ts (after k x) rest) none) in
        record { calls = same.calls; are = same.are; ordered = same.ordered }
    calls_ordered k made (s.assign n (e.call c xs) ∷ rest) h none = by c.what refl (λ next others f clean. calls_ordered next others rest f clean)
      where
        by : (w : Callee) → c.what ≡ w → ((next : Known) (others : List Slot) → Follows outputs next others → plan_stmts_broken ts next rest ≡ [] → AreCalls others (calls_of rest)) → AreCalls made (calls_of (s.assign n (e.call c xs) ∷ rest))
        by (callee.Transform t) is go =
            let x = s.assign n (e.call c xs) in
            let here = call_broken ts k n.at (n ∷ []) c.at (callee.Transform t) (items xs) in
            let others = plan_stmts_broken ts (make_all k (n ∷ [])) rest in
            let clean : here ++ others ≡ [] = subst (λ w. call_broken ts k n.at (n ∷ []) c.at w (items xs) ++ plan_stmts_broken ts (made_by w k (n ∷ [])) rest ≡ []) is none in
            let one = call_is k made n.at c.at (n ∷ []) t (items xs) h (none_left here others clean) in
            let later = go (make_all k (n ∷ [])) (one.call.targets ++ made) one.follows (none_right here others clean) in
            subst (λ w. AreCalls made (put (called w (target_slots (n ∷ [])) (argument_slots (items xs))) (calls_of rest))) (sym is) (put_calls k (make_all k (n ∷ [])) made (called (callee.Transform t) (target_slots (n ∷ [])) (argument_slots (items xs))) (calls_of rest) one later)
        by (callee.Function f) is go = absurd (let wrong = subst (λ w. call_broken ts k n.at (n ∷ []) c.at w (items xs) ++ plan_stmts_broken ts (made_by w k (n ∷ [])) rest ≡ []) is none in let no_list : n.at ∷ plan_stmts_broken ts k rest ≡ [] = wrong in cc)
    calls_ordered k made (s.call_stmt ns c xs ∷ rest) h none = by c.what refl (λ next others f clean. calls_ordered next others rest f clean)
      where
        by : (w : Callee) → c.what ≡ w → ((next : Known) (others : List Slot) → Follows outputs next others → plan_stmts_broken ts next rest ≡ [] → AreCalls others (calls_of rest)) → AreCalls made (calls_of (s.call_stmt ns c xs ∷ rest))
        by (callee.Transform t) is go =
            let here = call_broken ts k c.at ns c.at (callee.Transform t) xs in
            let others = plan_stmts_broken ts (make_all k ns) rest in
            let clean : here ++ others ≡ [] = subst (λ w. call_broken ts k c.at ns c.at w xs ++ plan_stmts_broken ts (made_by w k ns) rest ≡ []) is none in
            let one = call_is k made c.at c.at ns t xs h (none_left here others clean) in
            let later = go (make_all k ns) (one.call.targets ++ made) one.follows (none_right here others clean) in
            subst (λ w. AreCalls made (put (called w (target_slots ns) (argument_slots xs)) (calls_of rest))) (sym is) (put_calls k (make_all k ns) made (called (callee.Transform t) (target_slots ns) (argument_slots xs)) (calls_of rest) one later)
        by (callee.Function f) is go = absurd (let wrong = subst (λ w. call_broken ts k c.at ns c.at w xs ++ plan_stmts_broken ts (made_by w k ns) rest ≡ []) is none in let no_list : c.at ∷ plan_stmts_broken ts k rest ≡ [] = wrong in cc)
    calls_ordered k made (s.assign n (e.number at v) ∷ rest) h none = cc
    calls_ordered k made (s.assign n (e.name m) ∷ rest) h none = cc
    calls_ordered k made (s.assign n (e.parentheses at x) ∷ rest) h none = cc
    calls_ordered k made (s.assign n (e.cell v xs) ∷ rest) h none = cc
    calls_ordered k made (s.assign n (e.width v) ∷ rest) h none = cc
    calls_ordered k made (s.assign n (e.height v) ∷ rest) h none = cc
    calls_ordered k made (s.assign n (e.signed at sign x) ∷ rest) h none = cc
    calls_ordered k made (s.assign n (e.chain level x more_of) ∷ rest) h none = cc
    calls_ordered k made (s.assign n (e.compare x relation y) ∷ rest) h none = cc
    calls_ordered k made (s.let_number at n x ∷ rest) h none = cc
    calls_ordered k made (s.assign_cell n xs x ∷ rest) h none = cc
    calls_ordered k made (s.if_stmt at x ss ∷ rest) h none = cc
    calls_ordered k made (s.if_else at x ss others ∷ rest) h none = cc
    calls_ordered k made (s.for_stmt at n x y ss ∷ rest) h none = cc

-- before the first statement nothing is made
pub first_follows : (r : ProgRule) → Follows (length r.outs) (at_first r) []
first_follows r = record {
  outs = λ i t at is. absurd (outs_new r.outs i t at is);
  locals = λ i t at is. absurd (let wrong : None ≡ Some t = at in cc);
  count = map_length r.outs;
}
  where
    outs_new : (rs : List Read) (i : ℕ) (t : Target) → slice_get (map out_target rs) i ≡ Some t → t.made ≡ true → ⊥
    outs_new [] i t at is = let wrong : None ≡ Some t = at in cc
    outs_new (r ∷ rs) zero t at is = let some : Some (out_target r) ≡ Some t = at in let same : out_target r ≡ t = cc in let wrong : true ≡ false = sym is ∙ sym (ap (λ (z : Target). z.made) same) in cc
    outs_new (r ∷ rs) (suc i) t at is = outs_new rs i t at is

    map_length : (rs : List Read) → length (map out_target rs) ≡ length rs
    map_length [] = refl
    map_length (r ∷ rs) = ap suc (map_length rs)

-- ---- a plan of a program
none_at : {A : Type 0} (f : A → List ℕ) (xs : List A) (k : ℕ) (x : A) → slice_get xs k ≡ Some x → flat_map f xs ≡ [] → f x ≡ []
none_at f [] k x at none = absurd (let wrong : None ≡ Some x = at in cc)
none_at f (y ∷ xs) zero x at none = let some : Some y ≡ Some x = at in let same : y ≡ x = cc in ap f (sym same) ∙ none_left (f y) (flat_map f xs) none
none_at f (y ∷ xs) (suc k) x at none = none_at f xs k x at (none_right (f y) (flat_map f xs) none)

calls_there : (a : Around) (r : ProgRule) (o : Option PlanValue) → PlanFits a kind.Plan r.body o → (c : AreCalls (length r.outs) [] (calls_of r.body)) → AreOrdered (length r.outs) [] (option_map_or (λ (p : PlanValue). p.calls) o [])
calls_there a r None fits c = absurd (let wrong : Some c.calls ≡ None = sym c.are ∙ fits in cc)
calls_there a r (Some p) fits c = let some : Some c.calls ≡ Some p.calls = sym c.are ∙ fits.0 in let same : c.calls ≡ p.calls = cc in subst (AreOrdered (length r.outs) []) same c.ordered

pub plan_ordered : (p : List ProgTransform) (number : ℕ) (t : ProgTransform) (rule : ℕ) (r : ProgRule) → IsWellFormed p → IsSound p → slice_get p number ≡ Some t → slice_get t.rules rule ≡ Some r → r.kind ≡ kind.Plan
    → AreOrdered (length r.outs) [] (calls_of_rule r)
plan_ordered p number t rule r well sound at there is =
    let of_transform = none_at (transform_broken p) p number t at sound.typed in
    let of_rule = none_at (rule_broken p t.matrices) t.rules rule r there of_transform in
    let views = flat_map (view_broken t.matrices) r.outs ++ flat_map (view_broken t.matrices) r.reads in
    let body : body_broken p kind.Plan r ≡ [] = subst (λ k. body_broken p k r ≡ []) is (none_right views (body_broken p r.kind r) of_rule) in
    let outs = flat_map plan_view_broken r.outs in
    let reads = flat_map plan_view_broken r.reads in
    let stmts = plan_stmts_broken p (at_first r) r.body in
    let fits = at_place (IsRule (length t.sizes) t.inputs (length t.matrices) (length p)) t.rules rule r (at_place (IsTransform (length p)) p number t well.transforms at).rules there in
    calls_there (around (length t.sizes) (length p) r) r r.plan (subst (λ k. PlanFits (around (length t.sizes) (length p) r) k r.body r.plan) is fits.plan)
    (calls_ordered (length r.outs) p (at_first r) [] r.body (first_follows r) (none_right reads stmts (none_right outs (reads ++ stmts) body)))
