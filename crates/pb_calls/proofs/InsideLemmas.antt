-- What a rule reads lies inside the matrices.
use Rattle.std.proofs.Common.{◌≡◌, ◌∙◌, refl, sym, ap, subst, ⊎_elim, ℕ, ℤ, pos, Bool, true, false, List, [], ◌∷◌, ◌++◌, length, slice_get, Some, arith}
use Rattle.std.specs.Prelude.{◌==◌}
use Rattle.std.specs.List.{AllByRecursion, Contains, flat_map}
use Rattle.std.specs.Option.{option_map_or}
use Rattle.std.proofs.lemmas.Bool.{eqb-true}
use Rattle.std.proofs.lemmas.Int.{ints}
use Rattle.pb_linear.specs.Numbers.{exact_value}
use Rattle.pb_linear.specs.Sizes.{InRange, leasts_of}
use Rattle.pb_program.specs.Areas.{area_of}
use Rattle.pb_program.specs.Conditions.{Applies, Holds, view_conditions, written}
use Rattle.pb_program.specs.Forms.{DeclValue}
use Rattle.pb_program.specs.Trees.{ProgRule, ProgTransform}
use Rattle.pb_program.specs.WellFormed.{IsDecl, IsTransform, IsWellFormed}
use Rattle.pb_program.specs.declared.view.Read.{Read}
use Rattle.pb_types.specs.Least.{unless}
use Rattle.pb_types.specs.Types.{body_broken, rule_broken, transform_broken}
use Rattle.pb_types.specs.Views.{view_broken}
use Rattle.pb_region.proofs.SmallLemmas.{at_place}
use Rattle.pb_region.proofs.WithinLemmas.{reads_within}
use Rattle.pb_region.specs.Within.{IsWithin}
use Rattle.pb_model.specs.Cells.{Cell, IsCell, ReadsCell}
use Rattle.pb_model.specs.Lawful.{lawful}
use Rattle.pb_model.proofs.LawfulLemmas.{lawful_in}
use Rattle.pb_base.proofs.ListLemmas.{at_in, in_at, in_cases, in_none}
use Rattle.pb_check.specs.Phases.{IsBounded, IsSound}
use Rattle.pb_check.proofs.FirstLemmas.{all_at, some_same}

none_left : {A : Type 0} (xs ys : List A) → xs ++ ys ≡ [] → xs ≡ []
none_left [] ys e = refl
none_left (x ∷ xs) ys e = absurd (cc)

none_right : {A : Type 0} (xs ys : List A) → xs ++ ys ≡ [] → ys ≡ []
none_right [] ys e = e
none_right (x ∷ xs) ys e = absurd (cc)

none_each : {A B : Type 0} (f : A → List B) (xs : List A) (x : A) → flat_map f xs ≡ [] → Contains xs x → f x ≡ []
none_each f [] x e h = absurd (in_none x h)
none_each f (y ∷ xs) x e h = ⊎_elim
    (λ here. ap f (sym here) ∙ none_left (f y) (flat_map f xs) e)
    (λ later. none_each f xs x (none_right (f y) (flat_map f xs) e) later)
    (in_cases y x xs h)

right_test : (b : Bool) (at : ℕ) → unless b at ≡ [] → b ≡ true
right_test true at e = refl
right_test false at e = absurd (let some : (at ∷ []) ≡ [] = e in cc)

dims_by : (ms : List DeclValue) (r : Read) (d : DeclValue) → slice_get ms r.matrix ≡ Some d → view_broken ms r ≡ [] → r.dims ≡ d.dims
unfolding view_broken
dims_by ms r d there e =
    let test = right_test (option_map_or (λ (d : DeclValue). d.dims == r.dims) (slice_get ms r.matrix) false) r.at e in
    sym (eqb-true d.dims r.dims (subst (λ o. option_map_or (λ (d : DeclValue). d.dims == r.dims) o false ≡ true) there test))

all_parts : {A : Type 0} (P : A → Type 0) (xs ys : List A) → AllByRecursion P (xs ++ ys) → AllByRecursion P xs × AllByRecursion P ys
all_parts P [] ys h = (tt, h)
all_parts P (x ∷ xs) ys h = let rest = all_parts P xs ys h.1 in ((h.0, rest.0), rest.1)

and_none : {A : Type 0} (P : A → Type 0) (xs : List A) → AllByRecursion P xs → AllByRecursion P (xs ++ [])
and_none P [] h = tt
and_none P (x ∷ xs) h = (h.0, and_none P xs h.1)

-- a rule with its outputs as its reads
abbrev turned : ProgRule → ProgRule
turned r = record { priority = r.priority; kind = r.kind; outs = []; names = []; reads = r.outs; conds = []; body = r.body; plan = r.plan }

module _ (p : List ProgTransform) (number : ℕ) (t : ProgTransform) (sizes : List ℕ) (well : IsWellFormed p) (sound : IsSound p) (at : slice_get p number ≡ Some t) where
  view_right : (k : ℕ) (rule : ProgRule) → slice_get t.rules k ≡ Some rule → (r : Read) → Contains rule.reads r → view_broken t.matrices r ≡ []
  view_right k rule there r declared =
      let of_transform = none_each (transform_broken p) p t sound.typed (in_at p number t at) in
      let of_rule = none_each (rule_broken p t.matrices) t.rules rule of_transform (in_at t.rules k rule there) in
      let views = none_left (flat_map (view_broken t.matrices) rule.outs ++ flat_map (view_broken t.matrices) rule.reads) (body_broken p rule.kind rule) of_rule in
      none_each (view_broken t.matrices) rule.reads r (none_right (flat_map (view_broken t.matrices) rule.outs) (flat_map (view_broken t.matrices) rule.reads) views) declared

  out_right : (k : ℕ) (rule : ProgRule) → slice_get t.rules k ≡ Some rule → (r : Read) → Contains rule.outs r → view_broken t.matrices r ≡ []
  out_right k rule there r declared =
      let of_transform = none_each (transform_broken p) p t sound.typed (in_at p number t at) in
      let of_rule = none_each (rule_broken p t.matrices) t.rules rule of_transform (in_at t.rules k rule there) in
      let views = none_left (flat_map (view_broken t.matrices) rule.outs ++ flat_map (view_broken t.matrices) rule.reads) (body_broken p rule.kind rule) of_rule in
      none_each (view_broken t.matrices) rule.outs r (none_left (flat_map (view_broken t.matrices) rule.outs) (flat_map (view_broken t.matrices) rule.reads) views) declared

  -- where a rule applies, each of its outputs lies within its matrix
  pub output_within : (k : ℕ) (rule : ProgRule) → slice_get t.rules k ≡ Some rule → (j : ℕ) (r : Read) (d : DeclValue) → slice_get rule.outs j ≡ Some r → slice_get t.matrices r.matrix ≡ Some d → InRange (leasts_of t.ranges) sizes
      → (x y : ℤ) → Applies t.matrices rule sizes x y → IsWithin (area_of sizes x y r d) (exact_value d.w sizes) (exact_value d.h sizes)
  output_within k rule there j r d place decl range x y applies =
      let fits = at_place (IsTransform (length p)) p number t well.transforms at in
      let is = at_place (IsDecl (length t.sizes)) t.matrices r.matrix d fits.matrices decl in
      let dims = dims_by t.matrices r d decl (out_right k rule there r (in_at rule.outs j r place)) in
      let parts = all_parts (Holds sizes x y) (flat_map (view_conditions t.matrices) rule.outs ++ flat_map (view_conditions t.matrices) rule.reads) (flat_map written rule.conds) applies in
      let of_outs = (all_parts (Holds sizes x y) (flat_map (view_conditions t.matrices) rule.outs) (flat_map (view_conditions t.matrices) rule.reads) parts.0).0 in
      reads_within t (turned rule) j (length t.sizes) r d (all_at IsBounded p number t sound.bounded at).sides is place decl dims sizes range x y (and_none (Holds sizes x y) (flat_map (view_conditions t.matrices) rule.outs) of_outs)

  -- and so does each of its reads
  pub view_within : (k : ℕ) (rule : ProgRule) → slice_get t.rules k ≡ Some rule → (j : ℕ) (r : Read) (d : DeclValue) → slice_get rule.reads j ≡ Some r → slice_get t.matrices r.matrix ≡ Some d → InRange (leasts_of t.ranges) sizes
      → (x y : ℤ) → Applies t.matrices rule sizes x y → IsWithin (area_of sizes x y r d) (exact_value d.w sizes) (exact_value d.h sizes)
  view_within k rule there j r d place decl range x y applies =
      let fits = at_place (IsTransform (length p)) p number t well.transforms at in
      let is = at_place (IsDecl (length t.sizes)) t.matrices r.matrix d fits.matrices decl in
      let dims = dims_by t.matrices r d decl (view_right k rule there r (in_at rule.reads j r place)) in
      reads_within t rule j (length t.sizes) r d (all_at IsBounded p number t sound.bounded at).sides is place decl dims sizes range x y applies

  pub reads_inside : (c : Cell) (k : ℕ) (rule : ProgRule) → IsCell t sizes c → Contains (lawful t sizes c) k → slice_get t.rules k ≡ Some rule → (shown : Cell) → ReadsCell t.matrices sizes c rule shown → IsCell t sizes shown
  reads_inside c k rule cell may there shown reads =
      let d = reads.shows.decl in
      let r = reads.read in
      let lawful = lawful_in t sizes c k may in
      let same : lawful.rule ≡ rule = some_same lawful.rule rule (sym lawful.there ∙ there) in
      let place = at_in rule.reads r reads.declared in
      let within = view_within k rule there place.0 r d place.1 reads.shows.there cell.in_range (pos c.x) (pos c.y) (subst (λ (q : ProgRule). Applies t.matrices q sizes (pos c.x) (pos c.y)) same lawful.can.applies) in
      let inside = reads.shows.inside in
      record {
        in_range = cell.in_range;
        decl = d;
        there = ap (slice_get t.matrices) (sym reads.shows.same) ∙ reads.shows.there;
        before_x = omega (arith, ints, inside.right, within.x.end);
        before_y = omega (arith, ints, inside.high, within.y.end);
      }
