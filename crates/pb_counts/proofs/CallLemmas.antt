-- What a call in a plan counts, whether it can be made or not.
use Rattle.std.proofs.Common.{◌≡◌, ◌∙◌, refl, sym, ap, subst, ℕ, Bool, true, false, List, [], ◌∷◌, ◌++◌, Option, Some, None, slice_get}
use Rattle.std.specs.Prelude.{if◌then◌else◌, IsSomeAnd}
use Rattle.std.specs.List.{All}
use Rattle.std.specs.Option.{option_map, option_map_or}
use Rattle.std.proofs.lemmas.List.Elements.{All-push}
use Rattle.std.proofs.lemmas.Bool.{and_parts}
use Rattle.pb_linear.specs.Sizes.{InRange, leasts_of}
use Rattle.pb_program.specs.Plans.{PlanCallValue}
use Rattle.pb_program.specs.Trees.{ProgRule, ProgTransform}
use Rattle.pb_recursion.specs.Counts.{Counted, both, call_count, failed_count, nothing}
use Rattle.pb_recursion.specs.Plans.{argument_sides, target_sides}
use Rattle.pb_recursion.specs.Shapes.{Sides, are_in_range, can_enter, fits, sizes_from}
use Rattle.pb_recursion.proofs.ShapeLemmas.{range_is}
use Rattle.pb_counts.specs.Entered.{sizes_of_call}
use Rattle.pb_counts.specs.Gathered.{CanCome, GatheredValue, whole}
use Rattle.pb_counts.specs.Sized.{Sized, counter_of}
use Rattle.pb_counts.specs.Tallies.{capped}
use Rattle.pb_counts.proofs.AddLemmas.{whole_added, whole_pushed}

-- what fits binds sizes in range
ranged : (q : ProgTransform) (given wanted : List Sides) → fits q given wanted ≡ true → InRange (leasts_of q.ranges) (sizes_from q given)
unfolding fits can_enter
ranged q given wanted h = range_is (leasts_of q.ranges) (sizes_from q given) (and_parts (are_in_range (leasts_of q.ranges) (sizes_from q given)) _ (and_parts (can_enter q given) _ h).0).0

module _ (p : List ProgTransform) (t : ProgTransform) (sizes : List ℕ) (r : ProgRule) (c : PlanCallValue) where
  abbrev given : List Sides
  given = argument_sides t.matrices sizes r c

  abbrev wanted : List Sides
  wanted = target_sides t.matrices sizes r c

  abbrev failed : Counted
  failed = failed_count p t sizes r c

  abbrev tested : Option ProgTransform → Bool
  tested o = option_map_or (λ q. fits q given wanted) o false

  abbrev entered : Option ProgTransform → Option (List ℕ)
  entered o = if tested o then option_map (λ q. sizes_from q given) o else None

  -- it is made
  pub made_count : (f : Sized) (ss : List ℕ) → sizes_of_call t.matrices sizes p r c ≡ Some ss → call_count p t sizes (counter_of p true f) r c ≡ f c.transform ss
  made_count f ss is = by (slice_get p c.transform) is
    where
      by : (o : Option ProgTransform) → entered o ≡ Some ss → (if tested o then option_map_or (λ q. f c.transform (sizes_from q given)) o nothing else failed) ≡ f c.transform ss
      by None e = absurd (let wrong : None ≡ Some ss = e in cc)
      by (Some q) e = kinds (fits q given wanted) e
        where
          kinds : (b : Bool) → (if b then Some (sizes_from q given) else None) ≡ Some ss → (if b then f c.transform (sizes_from q given) else failed) ≡ f c.transform ss
          kinds true e = let some : Some (sizes_from q given) ≡ Some ss = e in let same : sizes_from q given ≡ ss = cc in ap (f c.transform) same
          kinds false e = absurd (let wrong : None ≡ Some ss = e in cc)

  -- it can't be made
  pub failed_is : (deep : Bool) (f : Sized) → (if deep then sizes_of_call t.matrices sizes p r c else None) ≡ None → call_count p t sizes (counter_of p deep f) r c ≡ failed
  failed_is false f is = refl
  failed_is true f is = by (slice_get p c.transform) is
    where
      by : (o : Option ProgTransform) → entered o ≡ None → (if tested o then option_map_or (λ q. f c.transform (sizes_from q given)) o nothing else failed) ≡ failed
      by None e = refl
      by (Some q) e = kinds (fits q given wanted) e
        where
          kinds : (b : Bool) → (if b then Some (sizes_from q given) else None) ≡ None → (if b then f c.transform (sizes_from q given) else failed) ≡ failed
          kinds true e = absurd (let wrong : Some (sizes_from q given) ≡ None = e in cc)
          kinds false e = refl

  -- then its sizes are in range
  pub can_come : (ss : List ℕ) → sizes_of_call t.matrices sizes p r c ≡ Some ss → CanCome p (c.transform, ss)
  can_come ss is = by (slice_get p c.transform) is
    where
      by : (o : Option ProgTransform) → entered o ≡ Some ss → IsSomeAnd o (λ q. InRange (leasts_of q.ranges) ss)
      by None e = absurd (let wrong : None ≡ Some ss = e in cc)
      by (Some q) e = kinds (fits q given wanted) refl e
        where
          kinds : (b : Bool) → fits q given wanted ≡ b → (if b then Some (sizes_from q given) else None) ≡ Some ss → InRange (leasts_of q.ranges) ss
          kinds true h e = let some : Some (sizes_from q given) ≡ Some ss = e in let same : sizes_from q given ≡ ss = cc in subst (InRange (leasts_of q.ranges)) same (ranged q given wanted h)
          kinds false h e = absurd (let wrong : None ≡ Some ss = e in cc)

pub only_deep : {A : Type 0} (deep : Bool) (o : Option A) (x : A) → (if deep then o else None) ≡ Some x → (deep ≡ true) × (o ≡ Some x)
only_deep true o x e = (refl, e)
only_deep false o x e = absurd (let wrong : None ≡ Some x = e in cc)

-- a call is gathered: to come, or as one that can't be made
module _ (p : List ProgTransform) (t : ProgTransform) (sizes : List ℕ) (r : ProgRule) (c : PlanCallValue) (deep : Bool) (g h : GatheredValue) where
  abbrev counts : Sized → Counted
  counts f = call_count p t sizes (counter_of p deep f) r c

  pub comes : (ss : List ℕ) → (if deep then sizes_of_call t.matrices sizes p r c else None) ≡ Some ss → h.tally ≡ g.tally → h.next ≡ g.next ++ (c.transform, ss) ∷ [] → (f : Sized) → capped (whole f h) ≡ capped (both (whole f g) (counts f))
  comes ss e tally next f =
      let o = only_deep deep (sizes_of_call t.matrices sizes p r c) ss e in
      let made : counts f ≡ f c.transform ss = ap (λ (d : Bool). call_count p t sizes (counter_of p d f) r c) o.0 ∙ made_count p t sizes r c f ss o.1 in
      ap capped (whole_pushed f g h (c.transform, ss) tally next) ∙ ap (λ z. capped (both (whole f g) z)) (sym made)

  pub can : (ss : List ℕ) → (if deep then sizes_of_call t.matrices sizes p r c else None) ≡ Some ss → h.next ≡ g.next ++ (c.transform, ss) ∷ [] → All (CanCome p) g.next → All (CanCome p) h.next
  can ss e next all = subst (All (CanCome p)) (sym next) (All-push (CanCome p) g.next (c.transform, ss) all (can_come p t sizes r c ss (only_deep deep (sizes_of_call t.matrices sizes p r c) ss e).1))

  pub fails : (one : Counted) → (if deep then sizes_of_call t.matrices sizes p r c else None) ≡ None → one ≡ capped (failed_count p t sizes r c) → h.tally ≡ capped (both g.tally one) → h.next ≡ g.next → (f : Sized) → capped (whole f h) ≡ capped (both (whole f g) (counts f))
  fails one e is tally next f = whole_added f g h one (failed_count p t sizes r c) is tally next ∙ ap (λ z. capped (both (whole f g) z)) (sym (failed_is p t sizes r c deep f e))
