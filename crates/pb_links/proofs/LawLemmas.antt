-- What the links of tasks are.
use Rattle.std.proofs.Common.{◌≡◌, ◌≢◌, ◌↔◌, ◌∙◌, ⊎_elim, refl, sym, ap, subst, ℕ, ◌<◌, ◌≤◌, ◌==◌, true, not, List, [], length, map, max, min, get_or, nat_lt, arith}
use Rattle.std.specs.List.{All, Contains, list_any, range_with_len}
use Rattle.std.proofs.lemmas.Bool.{and_from, and_parts, cases_lt, eq-eqb, eqb-true, eqb-false, lt-ltb, ltb-true, ne_eqb, not-true, not_from_false}
use Rattle.std.proofs.lemmas.List.{get_or-map, get_or_past, length-map}
use Rattle.std.proofs.lemmas.List.Elements.{All-get_or}
use Rattle.pb_base.proofs.ListLemmas.{filter_in, in_filter, in_none, in_range}
use Rattle.pb_values.specs.Views.{HasPlace}
use Rattle.pb_values.specs.declared.rect.Rect.{Rect}
use Rattle.pb_links.specs.declared.places.Spot.{Spot}
use Rattle.pb_links.specs.Links.{precedes, predecessors, successors}
use Rattle.pb_links.specs.Spots.{AllWithin, HasSpot, PlacesValue, boxes_of, meets, overlaps, parts_of}
use Rattle.pb_links.proofs.RisingLemmas.{any-in, in-any}

-- a part of a task overlaps a box of another
pub record Waits (tasks : List PlacesValue) (u t : ℕ) : Type 0 where
  pub other : u ≢ t
  pub part : Spot
  pub makes : Contains (parts_of tasks u) part
  pub box : Spot
  pub reads : Contains (boxes_of tasks t) box
  pub overlap : overlaps part box ≡ true

pub precedes-waits : (tasks : List PlacesValue) (u t : ℕ) → precedes tasks u t ≡ true → Waits tasks u t
unfolding precedes
precedes-waits tasks u t h =
    let parts = and_parts (not (u == t)) (list_any (λ part. list_any (overlaps part) (boxes_of tasks t)) (parts_of tasks u)) h in
    let p = any-in (λ part. list_any (overlaps part) (boxes_of tasks t)) (parts_of tasks u) parts.1 in
    let b = any-in (overlaps p.0) (boxes_of tasks t) p.2 in
    record { other = eqb-false u t (not-true (u == t) parts.0); part = p.0; makes = p.1; box = b.0; reads = b.1; overlap = b.2 }

pub waits-precedes : (tasks : List PlacesValue) (u t : ℕ) → Waits tasks u t → precedes tasks u t ≡ true
unfolding precedes
waits-precedes tasks u t w =
    and_from (not (u == t)) (list_any (λ part. list_any (overlaps part) (boxes_of tasks t)) (parts_of tasks u))
    (not_from_false (u == t) (ne_eqb u t w.other))
    (in-any (λ part. list_any (overlaps part) (boxes_of tasks t)) (parts_of tasks u) w.part w.makes (in-any (overlaps w.part) (boxes_of tasks t) w.box w.reads w.overlap))

-- past the tasks nothing is made and nothing is read
pub makes-inside : (tasks : List PlacesValue) (u : ℕ) (s : Spot) → Contains (parts_of tasks u) s → u < length tasks
unfolding parts_of
makes-inside tasks u s c =
    ⊎_elim (λ (h : u < length tasks). h) (λ (h : length tasks ≤ u). absurd (in_none s (subst (λ l. Contains l s) (get_or_past (map (λ task. task.parts) tasks) u [] (omega (arith, length-map tasks (λ (task : PlacesValue). task.parts)))) c))) (cases_lt u (length tasks))

pub reads-inside : (tasks : List PlacesValue) (t : ℕ) (s : Spot) → Contains (boxes_of tasks t) s → t < length tasks
unfolding boxes_of
reads-inside tasks t s c =
    ⊎_elim (λ (h : t < length tasks). h) (λ (h : length tasks ≤ t). absurd (in_none s (subst (λ l. Contains l s) (get_or_past (map (λ task. task.boxes) tasks) t [] (omega (arith, length-map tasks (λ (task : PlacesValue). task.boxes)))) c))) (cases_lt t (length tasks))

-- what the task at a number makes and reads
pub parts-at : (tasks : List PlacesValue) (t : ℕ) (task : PlacesValue) → t < length tasks → task ≡ get_or tasks t task → task.parts ≡ parts_of tasks t
unfolding parts_of
parts-at tasks t task below is = ap (λ p. p.parts) is ∙ sym (get_or-map (λ p. p.parts) tasks t task [] below)

pub boxes-at : (tasks : List PlacesValue) (t : ℕ) (task : PlacesValue) → t < length tasks → task ≡ get_or tasks t task → task.boxes ≡ boxes_of tasks t
unfolding boxes_of
boxes-at tasks t task below is = ap (λ p. p.boxes) is ∙ sym (get_or-map (λ p. p.boxes) tasks t task [] below)

pub within-at : (tasks : List PlacesValue) (bases t : ℕ) (task : PlacesValue) → t < length tasks → task ≡ get_or tasks t task → All (AllWithin bases) tasks → AllWithin bases task
within-at tasks bases t task below is all = subst (AllWithin bases) (sym is) (All-get_or (AllWithin bases) tasks t task below all)

module _ (tasks : List PlacesValue) where
  -- ---- lists of links
  pub before-waits : (t u : ℕ) → Contains (predecessors tasks t) u → Waits tasks u t
  unfolding predecessors
  before-waits t u c = precedes-waits tasks u t (filter_in (λ v. precedes tasks v t) (range_with_len 0 (length tasks)) u c).1

  pub waits-before : (t u : ℕ) → Waits tasks u t → Contains (predecessors tasks t) u
  unfolding predecessors
  waits-before t u w = in_filter (λ v. precedes tasks v t) (range_with_len 0 (length tasks)) u (in_range (length tasks) u (makes-inside tasks u w.part w.makes)) (waits-precedes tasks u t w)

  pub after-waits : (u t : ℕ) → Contains (successors tasks u) t → Waits tasks u t
  unfolding successors
  after-waits u t c = precedes-waits tasks u t (filter_in (λ v. precedes tasks u v) (range_with_len 0 (length tasks)) t c).1

  pub waits-after : (u t : ℕ) → Waits tasks u t → Contains (successors tasks u) t
  unfolding successors
  waits-after u t w = in_filter (λ v. precedes tasks u v) (range_with_len 0 (length tasks)) t (in_range (length tasks) t (reads-inside tasks t w.box w.reads)) (waits-precedes tasks u t w)

  pub mirrored : (t u : ℕ) → Contains (predecessors tasks t) u ↔ Contains (successors tasks u) t
  mirrored t u = (λ c. waits-after u t (before-waits t u c), λ c. waits-before t u (after-waits u t c))

  pub before-others : (t u : ℕ) → Contains (predecessors tasks t) u → (u < length tasks) × (u ≢ t)
  before-others t u c = let w = before-waits t u c in (makes-inside tasks u w.part w.makes, w.other)

  pub after-others : (u t : ℕ) → Contains (successors tasks u) t → (t < length tasks) × (t ≢ u)
  after-others u t c = let w = after-waits u t c in (reads-inside tasks t w.box w.reads, λ e. w.other (sym e))

-- ---- rectangles that meet have a place in common
meets-place : (a b : Rect) → meets a b ≡ true → HasPlace a (max a.x0 b.x0) (max a.y0 b.y0) × HasPlace b (max a.x0 b.x0) (max a.y0 b.y0)
unfolding meets
meets-place a b h =
    let parts = and_parts (nat_lt (max a.x0 b.x0) (min a.x1 b.x1)) (nat_lt (max a.y0 b.y0) (min a.y1 b.y1)) h in
    let wide = ltb-true (max a.x0 b.x0) (min a.x1 b.x1) parts.0 in
    let tall = ltb-true (max a.y0 b.y0) (min a.y1 b.y1) parts.1 in
    (record { left = omega arith; right = omega arith; low = omega arith; high = omega arith }, record { left = omega arith; right = omega arith; low = omega arith; high = omega arith })

place-meets : (a b : Rect) (x y : ℕ) → HasPlace a x y → HasPlace b x y → meets a b ≡ true
unfolding meets
place-meets a b x y p q =
    and_from (nat_lt (max a.x0 b.x0) (min a.x1 b.x1)) (nat_lt (max a.y0 b.y0) (min a.y1 b.y1))
    (lt-ltb (max a.x0 b.x0) (min a.x1 b.x1) (omega (arith, p.left, p.right, q.left, q.right)))
    (lt-ltb (max a.y0 b.y0) (min a.y1 b.y1) (omega (arith, p.low, p.high, q.low, q.high)))

pub overlaps-parts : (a b : Spot) → overlaps a b ≡ true → (a.base ≡ b.base) × (meets a.rect b.rect ≡ true)
unfolding overlaps
overlaps-parts a b h = let parts = and_parts (a.base == b.base) (meets a.rect b.rect) h in (eqb-true a.base b.base parts.0, parts.1)

pub parts-overlap : (a b : Spot) → a.base ≡ b.base → meets a.rect b.rect ≡ true → overlaps a b ≡ true
unfolding overlaps
parts-overlap a b same h = and_from (a.base == b.base) (meets a.rect b.rect) (eq-eqb a.base b.base same) h

abbrev Shares : List PlacesValue → ℕ → ℕ → Type 0
Shares tasks u t = (base : ℕ) × ((x : ℕ) × ((y : ℕ) × HasSpot (parts_of tasks u) base x y × HasSpot (boxes_of tasks t) base x y))

pub before-shares : (tasks : List PlacesValue) (t u : ℕ) → Contains (predecessors tasks t) u ↔ ((u ≢ t) × Shares tasks u t)
before-shares tasks t u = (there, back)
  where
    there : Contains (predecessors tasks t) u → (u ≢ t) × Shares tasks u t
    there c =
        let w = before-waits tasks t u c in
        let o = overlaps-parts w.part w.box w.overlap in
        let h = meets-place w.part.rect w.box.rect o.1 in
        (w.other, (w.box.base, (max w.part.rect.x0 w.box.rect.x0, (max w.part.rect.y0 w.box.rect.y0, (w.part, w.makes, o.0, h.0), (w.box, w.reads, refl, h.1)))))

    back : (u ≢ t) × Shares tasks u t → Contains (predecessors tasks t) u
    back (other, (base, (x, (y, (p, makes, p_base, p_has), (b, reads, b_base, b_has))))) =
        waits-before tasks t u (record { other = other; part = p; makes = makes; box = b; reads = reads; overlap = parts-overlap p b (p_base ∙ sym b_base) (place-meets p.rect b.rect x y p_has b_has) })
