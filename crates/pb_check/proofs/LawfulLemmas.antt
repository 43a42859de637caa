-- The rules that may make a cell are among those of its segment.
use Rattle.std.proofs.Common.{◌≡◌, ◌∙◌, refl, sym, ap, subst, ◌↔◌, ℕ, zero, suc, ◌+◌, ◌≤◌, ℤ, pos, ◌≤ℤ◌, ◌<ℤ◌, Bool, true, false, ◌&&◌, List, [], ◌∷◌, length, map, slice_get, get_or, Some, None, arith}
use Rattle.std.specs.Prelude.{◌==◌, IsTrue, filter, int_le, int_lt}
use Rattle.std.specs.List.{All, AllByRecursion, Contains, enumerate_from, list_all, list_any}
use Rattle.std.specs.Option.{option_map_or}
use Rattle.std.proofs.lemmas.Bool.{and_parts, eq-eqb, eqb-true}
use Rattle.std.proofs.lemmas.Int.{ints}
use Rattle.std.proofs.lemmas.List.Elements.{Contains-get_or}
use Rattle.pb_linear.specs.Form.{numbers, value}
use Rattle.pb_linear.specs.Numbers.{exact_value}
use Rattle.pb_linear.specs.RuleBox.{Bounds}
use Rattle.pb_linear.specs.Sizes.{InRange, leasts_of}
use Rattle.pb_linear.specs.declared.form.Form.{Form}
use Rattle.pb_grid.specs.Grids.{Matrix}
use Rattle.pb_grid.specs.Places.{MayMake, is_at, is_in}
use Rattle.pb_grid.specs.Segments.{SegmentValue}
use Rattle.pb_grid.proofs.PlaceLemmas.{one_segment, rules_at}
use Rattle.pb_grid.proofs.RuleLemmas.{any_from, any_here, at_place as may_make_at}
use Rattle.pb_program.specs.declared.rule.RuleKind.{RuleKind}
use Rattle.pb_program.specs.declared.rule.RuleKind.TheVariants as kind
use Rattle.pb_program.specs.declared.view.Read.{Read}
use Rattle.pb_program.specs.Areas.{Area, IsIn, area_of}
use Rattle.pb_program.specs.Conditions.{Applies, Holds, conditions}
use Rattle.pb_program.specs.Forms.{DeclValue}
use Rattle.pb_program.specs.Trees.{ProgRule, ProgTransform}
use Rattle.pb_program.specs.WellFormed.{IsFree, IsRule, IsTransform, IsWellFormed, KindFits}
use Rattle.pb_types.specs.Types.{PlanIsSound}
use Rattle.pb_types.proofs.SoundLemmas.{plans_sound}
use Rattle.pb_region.specs.Boxes.{BoxValue, Limits, box, box_of}
use Rattle.pb_region.specs.Inside.{IsInside, guards}
use Rattle.pb_region.specs.Rules.{IsAccepted}
use Rattle.pb_region.proofs.AreaLemmas.{wide_inside}
use Rattle.pb_region.proofs.BoxLemmas.{cell_applies}
use Rattle.pb_region.proofs.FreeLemmas.{all_guards}
use Rattle.pb_region.proofs.GuardLemmas.{unguarded_is}
use Rattle.pb_region.proofs.SmallLemmas.{at_place}
use Rattle.pb_region.specs.Boxes.{gaps_of}
use Rattle.pb_model.specs.Cells.{Cell, IsCell}
use Rattle.pb_model.specs.Lawful.{CanMake, IsLawful, WritesBy, has, lawful, output_holds}
use Rattle.pb_model.proofs.LawfulLemmas.{lawful_in}
use Rattle.pb_base.proofs.ListLemmas.{filter_in, flat_in, in_filter, in_flat, in_map, map_in}
use Rattle.pb_check.specs.Cuts.{IsCut, IsMatrix, rule_boxes}
use Rattle.pb_check.specs.Phases.{IsBounded, IsSound}
use Rattle.pb_check.proofs.FirstLemmas.{all_at}
use Rattle.pb_check.proofs.SegmentLemmas.{same_decl}

-- ---- tests
pub both : (a b : Bool) → a ≡ true → b ≡ true → (a && b) ≡ true
both a b ea eb = rw (ea, eb) refl

pub le_true : (a b : ℤ) → (int_le a b ≡ true) ↔ (a ≤ℤ b)
le_true a b = (λ h. grind (arith, ints), λ h. grind (arith, ints))

pub lt_true : (a b : ℤ) → (int_lt a b ≡ true) ↔ (a <ℤ b)
lt_true a b = (λ h. grind (arith, ints), λ h. grind (arith, ints))

has_in : (a : Area) (x y : ℤ) → (has a x y ≡ true) ↔ IsIn a x y
has_in a x y = (
  λ h.
      let parts = and_parts (int_le a.x.low x && int_lt x a.x.high) (int_le a.y.low y && int_lt y a.y.high) h in
      let px = and_parts (int_le a.x.low x) (int_lt x a.x.high) parts.0 in
      let py = and_parts (int_le a.y.low y) (int_lt y a.y.high) parts.1 in
      record { left = (le_true a.x.low x).0 px.0; right = (lt_true x a.x.high).0 px.1; low = (le_true a.y.low y).0 py.0; high = (lt_true y a.y.high).0 py.1 },
  λ h. both _ _ (both _ _ ((le_true a.x.low x).1 h.left) ((lt_true x a.x.high).1 h.right)) (both _ _ ((le_true a.y.low y).1 h.low) ((lt_true y a.y.high).1 h.high)),
)

-- ---- a box that holds a place, by its forms and by their numbers
module _ (sizes : List ℕ) where
  lower_to : (fs : List Form) (v : ℤ) → (list_all (λ f. int_le (value f sizes) v) fs ≡ true) ↔ AllByRecursion (λ n. exact_value n sizes ≤ℤ v) (map numbers fs)
  lower_to [] v = (λ h. tt, λ h. refl)
  lower_to (f ∷ fs) v =
      let rest = lower_to fs v in (
        λ h. let parts = and_parts (int_le (value f sizes) v) (list_all (λ g. int_le (value g sizes) v) fs) h in ((le_true (value f sizes) v).0 parts.0, rest.0 parts.1),
        λ h. both _ _ ((le_true (value f sizes) v).1 h.0) (rest.1 h.1),
      )

  upper_to : (fs : List Form) (v : ℤ) → (list_all (λ f. int_lt v (value f sizes)) fs ≡ true) ↔ AllByRecursion (λ n. v <ℤ exact_value n sizes) (map numbers fs)
  upper_to [] v = (λ h. tt, λ h. refl)
  upper_to (f ∷ fs) v =
      let rest = upper_to fs v in (
        λ h. let parts = and_parts (int_lt v (value f sizes)) (list_all (λ g. int_lt v (value g sizes)) fs) h in ((lt_true v (value f sizes)).0 parts.0, rest.0 parts.1),
        λ h. both _ _ ((lt_true v (value f sizes)).1 h.0) (rest.1 h.1),
      )

  in_box : (b : Bounds) (x y : ℤ) → (is_in sizes x y b ≡ true) ↔ IsInside (box_of b).limits sizes x y
  in_box b x y =
      let lx = lower_to b.lower_x x in
      let ux = upper_to b.upper_x x in
      let ly = lower_to b.lower_y y in
      let uy = upper_to b.upper_y y in (
        λ h.
            let parts = and_parts _ _ h in
            let px = and_parts _ _ parts.0 in
            let py = and_parts _ _ parts.1 in
            record { left = lx.0 px.0; right = ux.0 px.1; low = ly.0 py.0; high = uy.0 py.1 },
        λ h. both _ _ (both _ _ (lx.1 h.left) (ux.1 h.right)) (both _ _ (ly.1 h.low) (uy.1 h.high)),
      )

-- ---- some output, by a test
some_output : (p : Read → Bool) (outs : List Read) → list_any p outs ≡ true → (o : Read) × Contains outs o × (p o ≡ true)
some_output p outs h = any_here p outs h

output_some : (p : Read → Bool) (outs : List Read) (o : Read) → Contains outs o → p o ≡ true → list_any p outs ≡ true
output_some p outs o c h = any_from p outs o c.0 c.1 c.2 h

pub numbered_at : {A : Type 0} (n : ℕ) (xs : List A) (e : ℕ × A) → Contains (enumerate_from n xs) e → (k : ℕ) × (e.0 ≡ n + k) × (slice_get xs k ≡ Some e.1)
numbered_at n [] e c = absurd (omega (arith, c.1))
numbered_at n (x ∷ xs) e (zero, below, is) = (0, sym (ap (λ (p : _). p.0) is) ∙ omega arith, ap (λ (p : _). Some p.1) is)
numbered_at n (x ∷ xs) e (suc k, below, is) = let rest = numbered_at (n + 1) xs e (k, omega arith, is) in (suc rest.0, omega (arith, rest.1), rest.2)

pub at_numbered : {A : Type 0} (n : ℕ) (xs : List A) (k : ℕ) (x : A) → slice_get xs k ≡ Some x → Contains (enumerate_from n xs) (n + k, x)
at_numbered n [] k x h = let none : None ≡ Some x = h in absurd (cc)
at_numbered n (y ∷ xs) zero x h = let some : Some y ≡ Some x = h in let same : y ≡ x = cc in let e : n ≡ n + 0 = omega arith in (0, omega arith, λ i. (e i, same i))
at_numbered n (y ∷ xs) (suc k) x h =
    let rest = at_numbered (n + 1) xs k x h in
    let e : (n + 1) + k ≡ n + suc k = omega arith in
    subst (λ m. Contains (enumerate_from n (y ∷ xs)) (m, x)) e (suc rest.0, omega (arith, rest.1), rest.2)

module _ (p : List ProgTransform) (number : ℕ) (t : ProgTransform) (c : Cell) (sizes : List ℕ) (well : IsWellFormed p) (sound : IsSound p) (at : slice_get p number ≡ Some t) (cell : IsCell t sizes c) where
  fits : IsTransform (length p) t
  fits = at_place (IsTransform (length p)) p number t well.transforms at

  rule_fits : (k : ℕ) (r : ProgRule) → slice_get t.rules k ≡ Some r → IsRule (length t.sizes) t.inputs (length t.matrices) (length p) r
  rule_fits k r there = at_place (IsRule (length t.sizes) t.inputs (length t.matrices) (length p)) t.rules k r fits.rules there

  accepted : (k : ℕ) (r : ProgRule) → slice_get t.rules k ≡ Some r → IsAccepted t r
  accepted k r there = all_at (IsAccepted t) t.rules k r (all_at IsBounded p number t sound.bounded at).rules there

  plan_free : (k : ℕ) (r : ProgRule) → slice_get t.rules k ≡ Some r → r.kind ≡ kind.Plan → AllByRecursion IsFree r.outs
  plan_free k r there plan =
      let sounds = at_place (λ (x : ProgTransform). AllByRecursion (λ (y : ProgRule). y.kind ≡ kind.Plan → PlanIsSound y) x.rules) p number t (plans_sound p well sound.typed) at in
      (at_place (λ (y : ProgRule). y.kind ≡ kind.Plan → PlanIsSound y) t.rules k r sounds there plan).free

  -- the cell of an output of a rule by its box
  abbrev limits : ℕ → ProgRule → Read → Limits
  limits k r o = (box (leasts_of t.ranges) t.matrices k r o).limits

  abbrev Inside : Limits → Type 0
  Inside l = IsInside l sizes (pos c.x) (pos c.y)

  output_decl : (o : Read) → o.matrix ≡ c.matrix → slice_get t.matrices o.matrix ≡ Some cell.decl
  output_decl o e = ap (slice_get t.matrices) e ∙ cell.there

  holds_in : (o : Read) → output_holds t.matrices sizes c o ≡ true → (o.matrix ≡ c.matrix) × IsIn (area_of sizes (pos 0) (pos 0) o cell.decl) (pos c.x) (pos c.y)
  holds_in o h =
      let parts = and_parts (o.matrix == c.matrix) (option_map_or (λ (d : DeclValue). has (area_of sizes (pos 0) (pos 0) o d) (pos c.x) (pos c.y)) (slice_get t.matrices o.matrix) false) h in
      let e = eqb-true o.matrix c.matrix parts.0 in
      let held = subst (λ d. option_map_or (λ (d : DeclValue). has (area_of sizes (pos 0) (pos 0) o d) (pos c.x) (pos c.y)) d false ≡ true) (output_decl o e) parts.1 in
      (e, (has_in (area_of sizes (pos 0) (pos 0) o cell.decl) (pos c.x) (pos c.y)).0 held)

  in_holds : (o : Read) → o.matrix ≡ c.matrix → IsIn (area_of sizes (pos 0) (pos 0) o cell.decl) (pos c.x) (pos c.y) → output_holds t.matrices sizes c o ≡ true
  in_holds o e h =
      both _ _ (eq-eqb o.matrix c.matrix e)
      (subst (λ d. option_map_or (λ (d : DeclValue). has (area_of sizes (pos 0) (pos 0) o d) (pos c.x) (pos c.y)) d false ≡ true) (sym (output_decl o e)) ((has_in (area_of sizes (pos 0) (pos 0) o cell.decl) (pos c.x) (pos c.y)).1 h))

  -- an output on the matrix whose box holds the cell
  record Holding (k : ℕ) (r : ProgRule) : Type 0 where
    out : Read
    among : Contains r.outs out
    on : (out.matrix == c.matrix) ≡ true
    inside : Inside (limits k r out)

  not_cell : kind.Wide ≡ kind.Cell → ⊥
  not_cell e = cc

  plan_not_cell : kind.Plan ≡ kind.Cell → ⊥
  plan_not_cell e = cc

  module _ (k : ℕ) (r : ProgRule) (there : slice_get t.rules k ≡ Some r) where
    wide_holding : (r.kind ≡ kind.Cell → ⊥) → IsTrue (list_any (output_holds t.matrices sizes c) r.outs) → Holding k r
    wide_holding wide h =
        let o = some_output (output_holds t.matrices sizes c) r.outs h in
        let held = holds_in o.0 o.2 in
        record { out = o.0; among = o.1; on = eq-eqb o.0.matrix c.matrix held.0; inside = (wide_inside r.kind wide (gaps_of t.matrices r) t.matrices o.0 cell.decl (output_decl o.0 held.0) sizes (pos c.x) (pos c.y)).1 held.1 }

    holding_by : (e : RuleKind) → r.kind ≡ e → WritesBy t.matrices sizes c e r → Applies t.matrices r sizes (pos c.x) (pos c.y) → Holding k r
    holding_by kind.Cell e h applies =
        let o = some_output (λ (o : Read). o.matrix == c.matrix) r.outs h in
        record { out = o.0; among = o.1; on = o.2; inside = ((cell_applies t r k o.0 (accepted k r there) e sizes (pos c.x) (pos c.y)).0 applies).0 }
    holding_by kind.Wide e h applies = wide_holding (λ is. not_cell (sym e ∙ is)) h
    holding_by kind.Plan e h applies = wide_holding (λ is. plan_not_cell (sym e ∙ is)) h

    -- where the box isn't guarded the rule can make the cell
    guards_hold : (o : Read) → (box (leasts_of t.ranges) t.matrices k r o).guarded ≡ false → AllByRecursion (Holds sizes (pos c.x) (pos c.y)) (guards t.matrices r)
    guards_hold o free = (unguarded_is (leasts_of t.ranges) (conditions t.matrices r)).0 free sizes cell.in_range (pos c.x) (pos c.y)

    free_applies : AllByRecursion IsFree r.outs → AllByRecursion (Holds sizes (pos c.x) (pos c.y)) (guards t.matrices r) → Applies t.matrices r sizes (pos c.x) (pos c.y)
    free_applies free held =
        subst (AllByRecursion (Holds sizes (pos c.x) (pos c.y))) (all_guards (length t.sizes) t.inputs (length t.matrices) (length p) t.matrices r (rule_fits k r there) free) held

    free_guards : AllByRecursion IsFree r.outs → Applies t.matrices r sizes (pos c.x) (pos c.y) → AllByRecursion (Holds sizes (pos c.x) (pos c.y)) (guards t.matrices r)
    free_guards free applies =
        subst (AllByRecursion (Holds sizes (pos c.x) (pos c.y))) (sym (all_guards (length t.sizes) t.inputs (length t.matrices) (length p) t.matrices r (rule_fits k r there) free)) applies

    wide_writes : (o : Read) → (r.kind ≡ kind.Cell → ⊥) → Contains r.outs o → o.matrix ≡ c.matrix → Inside (limits k r o) → IsTrue (list_any (output_holds t.matrices sizes c) r.outs)
    wide_writes o wide among on inside =
        output_some (output_holds t.matrices sizes c) r.outs o among (in_holds o on ((wide_inside r.kind wide (gaps_of t.matrices r) t.matrices o cell.decl (output_decl o on) sizes (pos c.x) (pos c.y)).0 inside))

    -- where a box holds the cell and the guards are true the rule can make it
    can_by : (e : RuleKind) → r.kind ≡ e → (o : Read) → Contains r.outs o → (o.matrix == c.matrix) ≡ true → Inside (limits k r o) → AllByRecursion (Holds sizes (pos c.x) (pos c.y)) (guards t.matrices r)
        → WritesBy t.matrices sizes c e r × Applies t.matrices r sizes (pos c.x) (pos c.y)
    can_by kind.Cell e o among on inside held =
        (output_some (λ (o : Read). o.matrix == c.matrix) r.outs o among on, (cell_applies t r k o (accepted k r there) e sizes (pos c.x) (pos c.y)).1 (inside, held))
    can_by kind.Wide e o among on inside held =
        (wide_writes o (λ is. not_cell (sym e ∙ is)) among (eqb-true o.matrix c.matrix on) inside, free_applies (subst (λ x. KindFits x r.outs) e (rule_fits k r there).kind) held)
    can_by kind.Plan e o among on inside held =
        (wide_writes o (λ is. plan_not_cell (sym e ∙ is)) among (eqb-true o.matrix c.matrix on) inside, free_applies (plan_free k r there e) held)

    can_with : (o : Read) → Contains r.outs o → (o.matrix == c.matrix) ≡ true → Inside (limits k r o) → AllByRecursion (Holds sizes (pos c.x) (pos c.y)) (guards t.matrices r) → CanMake t.matrices sizes c r
    can_with o among on inside held = let parts = can_by r.kind refl o among on inside held in record { writes = parts.0; applies = parts.1 }

    can_make : (o : Read) → Contains r.outs o → (o.matrix == c.matrix) ≡ true → Inside (limits k r o) → (box (leasts_of t.ranges) t.matrices k r o).guarded ≡ false → CanMake t.matrices sizes c r
    can_make o among on inside free = can_with o among on inside (guards_hold o free)

    guards_by : (e : RuleKind) → r.kind ≡ e → (o : Read) → Applies t.matrices r sizes (pos c.x) (pos c.y) → AllByRecursion (Holds sizes (pos c.x) (pos c.y)) (guards t.matrices r)
    guards_by kind.Cell e o applies = ((cell_applies t r k o (accepted k r there) e sizes (pos c.x) (pos c.y)).0 applies).1
    guards_by kind.Wide e o applies = free_guards (subst (λ x. KindFits x r.outs) e (rule_fits k r there).kind) applies
    guards_by kind.Plan e o applies = free_guards (plan_free k r there e) applies

    -- where the rule can make the cell its guards are true
    pub can_guards : CanMake t.matrices sizes c r → AllByRecursion (Holds sizes (pos c.x) (pos c.y)) (guards t.matrices r)
    can_guards can = guards_by r.kind refl (holding_by r.kind refl can.writes can.applies).out can.applies

  -- ---- the boxes of the matrix
  module _ (m : Matrix) (is : IsMatrix t c.matrix m) where
    -- a box of the matrix is that of an output of a rule
    record Made (b : Bounds) : Type 0 where
      place : ℕ
      rule : ProgRule
      there : slice_get t.rules place ≡ Some rule
      out : Read
      among : Contains rule.outs out
      on : (out.matrix == c.matrix) ≡ true
      same : box (leasts_of t.ranges) t.matrices place rule out ≡ box_of b

    made_by : (b : Bounds) → Contains m.boxes b → Made b
    made_by b h =
        let there = subst (λ l. Contains l (box_of b)) is.boxes (in_map box_of m.boxes b h) in
        let rule = flat_in (rule_boxes t c.matrix) (enumerate_from 0 t.rules) (box_of b) there in
        let place = numbered_at 0 t.rules rule.0 rule.1 in
        let out = map_in (box (leasts_of t.ranges) t.matrices rule.0.0 rule.0.1) (filter (λ (o : Read). o.matrix == c.matrix) rule.0.1.outs) (box_of b) rule.2 in
        let kept = filter_in (λ (o : Read). o.matrix == c.matrix) rule.0.1.outs out.0 out.1 in
        let e : place.0 ≡ rule.0.0 = omega (arith, place.1) in
        record {
          place = place.0;
          rule = rule.0.1;
          there = place.2;
          out = out.0;
          among = kept.0;
          on = kept.1;
          same = ap (λ k. box (leasts_of t.ranges) t.matrices k rule.0.1 out.0) e ∙ out.2;
        }

    box_there : (k : ℕ) (r : ProgRule) → slice_get t.rules k ≡ Some r → (o : Read) → Contains r.outs o → (o.matrix == c.matrix) ≡ true → (b : Bounds) × Contains m.boxes b × (box_of b ≡ box (leasts_of t.ranges) t.matrices k r o)
    box_there k r there o among on =
        let kept = in_filter (λ (o : Read). o.matrix == c.matrix) r.outs o among on in
        let of_rule = in_map (box (leasts_of t.ranges) t.matrices k r) (filter (λ (o : Read). o.matrix == c.matrix) r.outs) o kept in
        let numbered = at_numbered 0 t.rules k r there in
        let e : 0 + k ≡ k = omega arith in
        let all = in_flat (rule_boxes t c.matrix) (enumerate_from 0 t.rules) (k, r) (box (leasts_of t.ranges) t.matrices k r o) (subst (λ n. Contains (enumerate_from 0 t.rules) (n, r)) e numbered) of_rule in
        map_in box_of m.boxes (box (leasts_of t.ranges) t.matrices k r o) (subst (λ l. Contains l (box (leasts_of t.ranges) t.matrices k r o)) (sym is.boxes) all)

    less : (r : ℕ) (h : IsLawful t sizes c r) (o : Read) (b : Bounds) → box_of b ≡ box (leasts_of t.ranges) t.matrices r h.rule o → (k : Bounds) → Made k → is_in sizes (pos c.x) (pos c.y) k ≡ true → k.guarded ≡ false → b.priority ≤ k.priority
    less r h o b e k made inside free =
        let in_made = subst (λ (v : BoxValue). Inside v.limits) (sym made.same) ((in_box sizes k (pos c.x) (pos c.y)).0 inside) in
        let can = can_make made.place made.rule made.there made.out made.among made.on in_made (ap (λ (v : BoxValue). v.guarded) made.same ∙ free) in
        let least = h.least made.place made.rule made.there can in
        let one : b.priority ≡ h.rule.priority = ap (λ (v : BoxValue). v.priority) e in
        let other : made.rule.priority ≡ k.priority = ap (λ (v : BoxValue). v.priority) made.same in
        omega (arith, least, one, other)

    may_make : (r : ℕ) → IsLawful t sizes c r → MayMake m.boxes sizes (pos c.x) (pos c.y) r
    may_make r h =
        let held = holding_by r h.rule h.there h.rule.kind refl h.can.writes h.can.applies in
        let b = box_there r h.rule h.there held.out held.among held.on in
        record {
          box = b.0;
          there = b.1;
          numbered = ap (λ (v : BoxValue). v.rule) b.2;
          inside = (in_box sizes b.0 (pos c.x) (pos c.y)).1 (subst (λ (v : BoxValue). Inside v.limits) (sym b.2) held.inside);
          least = λ k d below inside free. less r h held.out b.0 b.2 (get_or m.boxes k d) (made_by (get_or m.boxes k d) (Contains-get_or m.boxes k d below)) inside free;
        }

    -- the rule of a box without a guard that holds the cell can make it
    pub unguarded_can : (b : Bounds) → Contains m.boxes b → is_in sizes (pos c.x) (pos c.y) b ≡ true → b.guarded ≡ false → (k : ℕ) × (r : ProgRule) × (slice_get t.rules k ≡ Some r) × CanMake t.matrices sizes c r
    unguarded_can b h inside free =
        let made = made_by b h in
        let in_made = subst (λ (v : BoxValue). Inside v.limits) (sym made.same) ((in_box sizes b (pos c.x) (pos c.y)).0 inside) in
        (made.place, made.rule, made.there, can_make made.place made.rule made.there made.out made.among made.on in_made (ap (λ (v : BoxValue). v.guarded) made.same ∙ free))

    -- a rule that may make the cell by the boxes can make it where its guards are true
    pub may_can : (k : ℕ) (r : ProgRule) → slice_get t.rules k ≡ Some r → MayMake m.boxes sizes (pos c.x) (pos c.y) k → AllByRecursion (Holds sizes (pos c.x) (pos c.y)) (guards t.matrices r) → CanMake t.matrices sizes c r
    may_can k r there may held =
        let made = made_by may.box may.there in
        let number : made.place ≡ k = ap (λ (v : BoxValue). v.rule) made.same ∙ may.numbered in
        let rule : made.rule ≡ r = some_rule made.rule r (sym made.there ∙ ap (slice_get t.rules) number ∙ there) in
        let inside = subst (λ (v : BoxValue). Inside v.limits) (sym made.same) ((in_box sizes may.box (pos c.x) (pos c.y)).0 may.inside) in
        subst (CanMake t.matrices sizes c) rule
        (can_with made.place made.rule made.there made.out made.among made.on inside (subst (λ q. AllByRecursion (Holds sizes (pos c.x) (pos c.y)) (guards t.matrices q)) (sym rule) held))
      where
        some_rule : (a b : ProgRule) → Some a ≡ Some b → a ≡ b
        some_rule a b e = cc

    in_x : pos c.x <ℤ value m.width sizes
    in_x = subst (λ n. pos c.x <ℤ exact_value n sizes) (sym (is.width ∙ ap (λ (d : DeclValue). d.w) (same_decl is.decl cell.decl (sym is.there ∙ cell.there)))) cell.before_x

    in_y : pos c.y <ℤ value m.height sizes
    in_y = subst (λ n. pos c.y <ℤ exact_value n sizes) (sym (is.height ∙ ap (λ (d : DeclValue). d.h) (same_decl is.decl cell.decl (sym is.there ∙ cell.there)))) cell.before_y

    pub ranges : InRange m.leasts sizes
    ranges = subst (λ l. InRange l sizes) (sym is.leasts) cell.in_range

  module _ (ss : List SegmentValue) (cut : IsCut t c.matrix ss) where
    zero_at : (n : ℕ) → pos 0 ≤ℤ pos n
    zero_at n = omega (arith, ints)

    pub one_at : length (filter (is_at sizes (pos c.x) (pos c.y)) ss) ≡ 1
    one_at =
        one_segment cut.matrix ss cut.grid sizes (ranges cut.matrix cut.is) (pos c.x) (pos c.y) (zero_at c.x) (in_x cut.matrix cut.is) (zero_at c.y) (in_y cut.matrix cut.is)

    pub lawful_at : All (λ s. IsTrue (is_at sizes (pos c.x) (pos c.y) s) → (r : ℕ) → Contains (lawful t sizes c) r → Contains s.rules r) ss
    lawful_at k d below holds r h =
        let rules = rules_at cut.matrix ss cut.grid sizes (ranges cut.matrix cut.is) (pos c.x) (pos c.y) (zero_at c.x) (in_x cut.matrix cut.is) (zero_at c.y) (in_y cut.matrix cut.is) k d below holds in
        subst (λ l. Contains l r) (sym rules) ((may_make_at cut.matrix.boxes sizes (pos c.x) (pos c.y) r).1 (may_make cut.matrix cut.is r (lawful_in t sizes c r h)))

    -- the rules of the segment that holds the cell may make it
    pub rules_may : All (λ s. IsTrue (is_at sizes (pos c.x) (pos c.y) s) → (r : ℕ) → Contains s.rules r → MayMake cut.matrix.boxes sizes (pos c.x) (pos c.y) r) ss
    rules_may k d below holds r h =
        let rules = rules_at cut.matrix ss cut.grid sizes (ranges cut.matrix cut.is) (pos c.x) (pos c.y) (zero_at c.x) (in_x cut.matrix cut.is) (zero_at c.y) (in_y cut.matrix cut.is) k d below holds in
        (may_make_at cut.matrix.boxes sizes (pos c.x) (pos c.y) r).0 (subst (λ l. Contains l r) rules h)
