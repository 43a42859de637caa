-- What a job of an instance reads: cells that are given, or that jobs before it make.
use Rattle.std.proofs.Common.{◌≡◌, ◌∙◌, refl, sym, ap, subst, inl, inr, ◌⊎◌, ⊎_elim, ℕ, ◌-◌, ◌<◌, ◌≤◌, ℤ, pos, negsuc, ◌≤ℤ◌, Bool, true, false, List, [], length, map, slice_get, Option, Some, None, arith}
use Rattle.std.specs.Prelude.{◌==◌}
use Rattle.std.specs.Int.{int_max}
use Rattle.std.specs.List.{Contains}
use Rattle.std.specs.Option.{option_map_or}
use Rattle.std.proofs.lemmas.Bool.{eq-eqb, eqb-true}
use Rattle.std.proofs.lemmas.Int.{ints}
use Rattle.pb_linear.specs.Numbers.{exact_value}
use Rattle.pb_linear.specs.Sizes.{InRange, leasts_of}
use Rattle.pb_values.specs.Views.{HasPlace}
use Rattle.pb_program.specs.Areas.{Area, area_of}
use Rattle.pb_program.specs.Conditions.{Applies}
use Rattle.pb_program.specs.Configs.{ConfigValue, IsValid}
use Rattle.pb_program.specs.Forms.{DeclValue}
use Rattle.pb_program.specs.Trees.{ProgRule, ProgTransform}
use Rattle.pb_program.specs.WellFormed.{IsRule, IsTransform, IsView, IsWellFormed, variables}
use Rattle.pb_program.specs.declared.view.Read.{Read}
use Rattle.pb_region.specs.Boxes.{is_wide}
use Rattle.pb_region.specs.Within.{IsWithin}
use Rattle.pb_region.proofs.SmallLemmas.{at_place}
use Rattle.pb_base.proofs.ListLemmas.{at_in, flat_in, in_at, in_none, map_in}
use Rattle.pb_model.specs.Cells.{Cell, natural}
use Rattle.pb_check.specs.Orders.{IsAnalysis}
use Rattle.pb_check.specs.Phases.{IsSound}
use Rattle.pb_check.specs.Ranked.{IsMadeCell}
use Rattle.pb_check.proofs.FirstLemmas.{some_at, some_same}
use Rattle.pb_calls.proofs.InsideLemmas.{view_within}
use Rattle.pb_frame.specs.Choices.{IsInstance}
use Rattle.pb_frame.specs.Frames.{JobValue}
use Rattle.pb_frame.specs.declared.part.FramePart.{FramePart}
use Rattle.pb_frame.proofs.PartLemmas.{held_area, held_chosen, held_made}
use Rattle.pb_graph.specs.Nodes.{NodeValue}
use Rattle.pb_links.specs.declared.places.Spot.{Spot}
use Rattle.pb_links.proofs.LawLemmas.{before-shares}
use Rattle.pb_plan.specs.Boxes.{boxes_by, part_area, part_box, part_boxes, shown_at, spot_of, whole_box}
use Rattle.pb_plan.specs.Made.{IsMadeBy, jobs_for}
use Rattle.pb_plan.proofs.BeforeLemmas.{at_box, at_part, boxed, first_part, home, lower_or_near, node_of, own_layer, parts, places, some_places, stands_before}
use Rattle.pb_plan.proofs.JobLemmas.{part_of, placed}
use Rattle.pb_plan.proofs.MadeLemmas.{chosen, held_whole, made_by}
use Rattle.pb_plan.proofs.PieceLemmas.{IsPiece}
use Rattle.pb_plan.proofs.SpreadLemmas.{shown_is}
use Rattle.pb_plan.proofs.WideLemmas.{applies_same, shown_same}
use Rattle.pb_runs.specs.Steps.{Instance}

-- an instance of an accepted program, with a valid configuration and sizes in range
pub record IsSituated (config : ConfigValue) (p : List ProgTransform) (i : Instance) : Type 0 where
  pub well : IsWellFormed p
  pub sound : IsSound p
  pub valid : IsValid p config
  pub there : slice_get p i.number ≡ Some i.transform
  pub found : IsAnalysis i.transform i.found
  pub range : InRange (leasts_of i.transform.ranges) i.sizes

max_le : (a b c d l : ℤ) → a ≤ℤ l → b ≤ℤ l → c ≤ℤ l → d ≤ℤ l → int_max (int_max a b) (int_max c d) ≤ℤ l
max_le a b c d l ha hb hc hd = two (int_max a b) (int_max c d) (two a b ha hb) (two c d hc hd)
  where
    two : (x y : ℤ) → x ≤ℤ l → y ≤ℤ l → int_max x y ≤ℤ l
    two x y hx hy = grind (arith, ints)

pub natural_le : (z w : ℤ) → z ≤ℤ w → natural z ≤ natural w
natural_le (pos m) (pos n) h = omega (arith, ints, h)
natural_le (pos m) (negsuc n) h = absurd (omega (arith, ints, h))
natural_le (negsuc m) w h = omega arith

in_option : {A B : Type 0} (f : A → List B) (o : Option A) (s : B) → Contains (option_map_or f o []) s → (r : A) × (o ≡ Some r) × Contains (f r) s
in_option f None s h = absurd (in_none s h)
in_option f (Some r) s h = (r, refl, h)

module _ (config : ConfigValue) (p : List ProgTransform) (i : Instance) (grain : ℕ) (at : IsSituated config p i) where
  abbrev t : ProgTransform
  t = i.transform

  abbrev pub inst : IsInstance i.number t i.found i.sizes
  inst = record { program = p; well_formed = at.well; sound = at.sound; there = at.there; found = at.found; in_range = at.range }

  abbrev pub jobs : List JobValue
  jobs = jobs_for config i.number t i.found i.sizes grain

  abbrev all_parts : List FramePart
  all_parts = parts config i.number t i.found i.sizes grain inst at.valid

  -- ---- views lie within their matrices
  abbrev WithinFor : Read → DeclValue → ℕ → ℕ → Type 0
  WithinFor q d x y = IsWithin (area_of i.sizes (pos x) (pos y) q d) (exact_value d.w i.sizes) (exact_value d.h i.sizes)

  applies_at : (part : FramePart) → IsPiece all_parts part → (r : ProgRule) → slice_get t.rules part.rule ≡ Some r → (x y : ℕ) → HasPlace part.rect x y → Applies t.matrices r i.sizes (pos x) (pos y)
  applies_at part own r rule x y place =
      let f = node_of config i.number t i.found i.sizes grain inst at.valid part own in
      let c : Cell = record { matrix = f.0.matrix; x = x; y = y } in
      let h = held_whole config i.number t i.found i.sizes grain inst part own c (record { node = f.0; there = f.1; matrix = refl; place = place }) in
      let law = chosen config i.number t i.found i.sizes grain inst at.valid c (held_made config i.number t i.found i.sizes inst own.whole c own.among h) in
      let same : law.rule ≡ r = some_same law.rule r (sym law.there ∙ ap (slice_get t.rules) (held_chosen config i.number t i.found i.sizes inst own.whole c own.among h ∙ own.rule) ∙ rule) in
      subst (λ (z : ProgRule). Applies t.matrices z i.sizes (pos x) (pos y)) same law.can.applies

  within_at : (part : FramePart) → IsPiece all_parts part → (r : ProgRule) → slice_get t.rules part.rule ≡ Some r → (q : Read) (d : DeclValue) → Contains r.reads q → slice_get t.matrices q.matrix ≡ Some d → (x y : ℕ) → HasPlace part.rect x y → WithinFor q d x y
  within_at part own r rule q d declared decl x y place =
      let j = at_in r.reads q declared in
      view_within p i.number t i.sizes at.well at.sound at.there part.rule r rule j.0 q d j.1 decl at.range (pos x) (pos y) (applies_at part own r rule x y place)

  -- a box ends within its matrix
  abbrev EndsIn : Spot → Type 0
  EndsIn s = (d : DeclValue) → slice_get t.matrices s.base ≡ Some d → (s.rect.x1 ≤ natural (exact_value d.w i.sizes)) × (s.rect.y1 ≤ natural (exact_value d.h i.sizes))

  part_ends : (part : FramePart) → IsPiece all_parts part → (r : ProgRule) → slice_get t.rules part.rule ≡ Some r → (q : Read) → Contains r.reads q → EndsIn (part_box t.matrices i.sizes part.rect q)
  unfolding part_area
  part_ends part own r rule q declared d decl =
      let some = some_places config i.number t i.found i.sizes grain inst at.valid part own in
      let corner : (x y : ℕ) → HasPlace part.rect x y → IsWithin (shown_at t.matrices i.sizes q x y) (exact_value d.w i.sizes) (exact_value d.h i.sizes) = λ x y h. subst (λ (a : Area). IsWithin a (exact_value d.w i.sizes) (exact_value d.h i.sizes)) (sym (shown_is t.matrices i.sizes q d decl x y)) (within_at part own r rule q d declared decl x y h) in
      let c00 = corner part.rect.x0 part.rect.y0 (record { left = omega arith; right = omega (arith, some.0); low = omega arith; high = omega (arith, some.1) }) in
      let c10 = corner (part.rect.x1 - 1) part.rect.y0 (record { left = omega (arith, some.0); right = omega (arith, some.0); low = omega arith; high = omega (arith, some.1) }) in
      let c01 = corner part.rect.x0 (part.rect.y1 - 1) (record { left = omega arith; right = omega (arith, some.0); low = omega (arith, some.1); high = omega (arith, some.1) }) in
      let c11 = corner (part.rect.x1 - 1) (part.rect.y1 - 1) (record { left = omega (arith, some.0); right = omega (arith, some.0); low = omega (arith, some.1); high = omega (arith, some.1) }) in
      (natural_le _ (exact_value d.w i.sizes) (max_le _ _ _ _ (exact_value d.w i.sizes) c00.x.end c10.x.end c01.x.end c11.x.end), natural_le _ (exact_value d.h i.sizes) (max_le _ _ _ _ (exact_value d.h i.sizes) c00.y.end c10.y.end c01.y.end c11.y.end))

  -- a rule that makes more than a cell applies
  pub whole_applies : (j : ℕ) (job : JobValue) → slice_get jobs j ≡ Some job → (k : ℕ) → job.rule ≡ Some k → (r : ProgRule) → slice_get t.rules k ≡ Some r → Applies t.matrices r i.sizes (pos 0) (pos 0)
  whole_applies j job e k some r rule =
      let part = first_part config i.number t i.found i.sizes grain inst at.valid j job e k some in
      let of = part_of t i.found.order grain all_parts j job (placed t i.found.order grain all_parts j job e) part.0 part.1 in
      let same = of.wide k some in
      let wide : is_wide r.kind ≡ true = sym (ap (λ o. option_map_or (λ (z : ProgRule). is_wide z.kind) o false) rule) ∙ same.1 in
      let places = some_places config i.number t i.found i.sizes grain inst at.valid part.0 of.piece in
      let x = part.0.rect.x0 in
      let y = part.0.rect.y0 in
      applies_same p i.number t at.well at.sound at.there k r rule wide i.sizes (pos x) (pos y) (pos 0) (pos 0) (applies_at part.0 of.piece r (ap (slice_get t.rules) same.0 ∙ rule) x y (record { left = omega arith; right = omega (arith, places.0); low = omega arith; high = omega (arith, places.1) }))

  -- a view of a rule that makes more than a cell lies within its matrix
  pub whole_within : (j : ℕ) (job : JobValue) → slice_get jobs j ≡ Some job → (k : ℕ) → job.rule ≡ Some k → (r : ProgRule) → slice_get t.rules k ≡ Some r → (q : Read) (d : DeclValue) → Contains r.reads q → slice_get t.matrices q.matrix ≡ Some d
      → IsWithin (shown_at t.matrices i.sizes q 0 0) (exact_value d.w i.sizes) (exact_value d.h i.sizes)
  whole_within j job e k some r rule q d declared decl =
      let part = first_part config i.number t i.found i.sizes grain inst at.valid j job e k some in
      let of = part_of t i.found.order grain all_parts j job (placed t i.found.order grain all_parts j job e) part.0 part.1 in
      let same = of.wide k some in
      let wide : is_wide r.kind ≡ true = sym (ap (λ o. option_map_or (λ (z : ProgRule). is_wide z.kind) o false) rule) ∙ same.1 in
      let places = some_places config i.number t i.found i.sizes grain inst at.valid part.0 of.piece in
      let x = part.0.rect.x0 in
      let y = part.0.rect.y0 in
      let here = within_at part.0 of.piece r (ap (slice_get t.rules) same.0 ∙ rule) q d declared decl x y (record { left = omega arith; right = omega (arith, places.0); low = omega arith; high = omega (arith, places.1) }) in
      let area : area_of i.sizes (pos x) (pos y) q d ≡ shown_at t.matrices i.sizes q 0 0 = shown_same p i.number t at.well at.sound at.there k r rule wide q d declared i.sizes (pos x) (pos y) (pos 0) (pos 0) ∙ sym (shown_is t.matrices i.sizes q d decl 0 0) in
      subst (λ (a : Area). IsWithin a (exact_value d.w i.sizes) (exact_value d.h i.sizes)) area here

  pub box_ends : (j : ℕ) (job : JobValue) → slice_get jobs j ≡ Some job → (s : Spot) → Contains (boxes_by t i.sizes job.rule job.parts) s → EndsIn s
  box_ends j job e s h = by job.rule refl h
    where
      by : (o : Option ℕ) → job.rule ≡ o → Contains (boxes_by t i.sizes o job.parts) s → EndsIn s
      by None none h =
          let f = flat_in (part_boxes t i.sizes) job.parts s h in
          let r = in_option (λ (rule : ProgRule). map (part_box t.matrices i.sizes f.0.rect) rule.reads) (slice_get t.rules f.0.rule) s f.2 in
          let q = map_in (part_box t.matrices i.sizes f.0.rect) r.0.reads s r.2 in
          subst EndsIn q.2 (part_ends f.0 (home config i.number t i.found i.sizes grain inst at.valid j job e f.0 f.1) r.0 r.1 q.0 q.1)
      by (Some k) some h =
          let r = in_option (λ (rule : ProgRule). map (whole_box t.matrices i.sizes) rule.reads) (slice_get t.rules k) s h in
          let q = map_in (whole_box t.matrices i.sizes) r.0.reads s r.2 in
          subst EndsIn q.2 (λ d decl. let w = whole_within j job e k some r.0 r.1 q.0 d q.1 decl in (natural_le _ (exact_value d.w i.sizes) w.x.end, natural_le _ (exact_value d.h i.sizes) w.y.end))

  -- its matrix is there
  read_there : (k : ℕ) (r : ProgRule) → slice_get t.rules k ≡ Some r → (q : Read) → Contains r.reads q → (d : DeclValue) × (slice_get t.matrices q.matrix ≡ Some d)
  read_there k r rule q declared =
      let fits = at_place (IsTransform (length p)) p i.number t at.well.transforms at.there in
      let is = at_place (IsRule (length t.sizes) t.inputs (length t.matrices) (length p)) t.rules k r fits.rules rule in
      let j = at_in r.reads q declared in
      some_at t.matrices q.matrix (at_place (IsView (length t.sizes) (variables r.outs) (length t.matrices)) r.reads j.0 q is.reads j.1).matrix

  pub box_there : (j : ℕ) (job : JobValue) → slice_get jobs j ≡ Some job → (s : Spot) → Contains (boxes_by t i.sizes job.rule job.parts) s → (d : DeclValue) × (slice_get t.matrices s.base ≡ Some d)
  box_there j job e s h =
      let b = boxed config i.number t i.found i.sizes grain inst at.valid j job e s h in
      let d = read_there b.part.rule b.rule b.there b.read b.declared in
      (d.0, ap (λ (z : Spot). slice_get t.matrices z.base) b.is ∙ d.1)

  -- ---- what is read is made before
  -- a made cell of a box is made by a job before, or by the job itself, which then is a block
  pub box_before : (j : ℕ) (job : JobValue) (e : slice_get jobs j ≡ Some job) (s : Spot) → Contains (boxes_by t i.sizes job.rule job.parts) s → (c : Cell) → IsMadeCell t i.sizes c → s.base ≡ c.matrix → HasPlace s.rect c.x c.y
      → (u : ℕ) × (l : ℕ) × IsMadeBy jobs i.found.nodes c u l × ((u < j) ⊎ ((u ≡ j) × (job.rule ≡ None)))
  box_before j job e s h c made base place =
      let m = made_by config i.number t i.found i.sizes grain inst at.valid c made in
      (m.0, m.1, m.2, decide m.0 m.1 m.2 (m.0 == j) refl)
    where
      decide : (u l : ℕ) → IsMadeBy jobs i.found.nodes c u l → (b : Bool) → (u == j) ≡ b → (u < j) ⊎ ((u ≡ j) × (job.rule ≡ None))
      decide u l d true same =
          let is = eqb-true u j same in
          let jobs_same : d.job ≡ job = some_same d.job job (sym d.is ∙ ap (slice_get jobs) is ∙ e) in
          let of = in_at d.job.parts l d.part d.has in
          let boxes = boxed config i.number t i.found i.sizes grain inst at.valid j job e s h in
          inr (
            is,
            ⊎_elim
                (λ lower. absurd (let own = own_layer config i.number t i.found i.sizes grain inst at.valid j job e d.part (subst (λ (w : JobValue). Contains w.parts d.part) jobs_same of) in let other = own_layer config i.number t i.found i.sizes grain inst at.valid j job e boxes.part boxes.of in omega (arith, lower, own, other)))
                (λ block. block.0)
                (lower_or_near config i.number t i.found i.sizes grain inst at.valid j job e s boxes d.part.node d.holds.node d.holds.there (base ∙ sym d.holds.matrix) c.x c.y place
                (let own = home config i.number t i.found i.sizes grain inst at.valid u d.job d.is d.part of in held_area config i.number t i.found i.sizes inst own.whole c own.among (held_whole config i.number t i.found i.sizes grain inst d.part own c d.holds))),
          )
      decide u l d false other =
          inl (stands_before config i.number t i.found i.sizes grain inst at.valid j u ((before-shares (places config i.number t i.found i.sizes grain inst at.valid) j u).1 (
            (λ same. differs u j other same),
            (
              c.matrix,
              (
                c.x,
                (
                  c.y,
                  (spot_of i.found.nodes d.part, at_part config i.number t i.found i.sizes grain inst at.valid u d.job d.part d.is (in_at d.job.parts l d.part d.has), ap (λ o. option_map_or (λ (n : NodeValue). n.matrix) o 0) d.holds.there ∙ d.holds.matrix, d.holds.place),
                  (s, at_box config i.number t i.found i.sizes grain inst at.valid j job s e h, base, place),
                ),
              ),
            ),
          )))
        where
          differs : (x y : ℕ) → (x == y) ≡ false → x ≡ y → ⊥
          differs x y e same = let wrong : true ≡ false = sym (eq-eqb x y same) ∙ e in cc
