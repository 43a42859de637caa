-- What is found among the parts.
use Rattle.std.proofs.Common.{◌≡◌, ◌≢◌, ◌∙◌, refl, sym, ap, subst, ℕ, ◌+◌, ◌<◌, ◌==◌, true, false, not, cond, List, [], ◌∷◌, ◌++◌, length, map, take, get_or, append_assoc, append-nil, flat_map}
use Rattle.std.specs.List.{Contains, filter}
use Rattle.std.proofs.lemmas.Bool.{and_from, and_parts, eqb-false, ne_eqb, not-true, not_from_false}
use Rattle.std.proofs.lemmas.List.{map-append}
use Rattle.std.proofs.lemmas.List.Elements.{filter_more}
use Rattle.pb_base.proofs.ListLemmas.{filter_in, flat_in, in_filter, in_flat, in_map, map_in}
use Rattle.pb_values.specs.declared.rect.Rect.{Rect}
use Rattle.pb_links.specs.declared.owners.Owned.{Owned}
use Rattle.pb_links.specs.Links.{precedes, predecessors}
use Rattle.pb_links.specs.Owners.{IsSortedOut, IsTable, box_hits, hits, is_hit, on, spot}
use Rattle.pb_links.specs.Spots.{PlacesValue, boxes_of, meets, parts_of}
use Rattle.pb_links.proofs.LawLemmas.{Waits, before-waits, makes-inside, overlaps-parts, parts-overlap, waits-before}
use Rattle.pb_links.proofs.RisingLemmas.{rising-picked, rising-same}

-- ---- one part more
more : (task : ℕ) (rect : Rect) (owners : List Owned) (i : ℕ) (o : Owned) → i < length owners → o ≡ get_or owners i o →
    hits task rect (take (i + 1) owners) ≡ hits task rect (take i owners) ++ map (λ p. p.task) (cond (is_hit task rect o) (o ∷ []) [])
more task rect owners i o inside is =
    ap (map (λ p. p.task)) (filter_more (is_hit task rect) owners i o inside ∙ ap (λ p. filter (is_hit task rect) (take i owners) ++ cond (is_hit task rect p) (p ∷ []) []) (sym is))
    ∙ map-append (λ p. p.task) (filter (is_hit task rect) (take i owners)) (cond (is_hit task rect o) (o ∷ []) [])

pub hit-more : (task : ℕ) (rect : Rect) (owners : List Owned) (i : ℕ) (o : Owned) (start found new : List ℕ) → i < length owners → o ≡ get_or owners i o → is_hit task rect o ≡ true →
    found ≡ start ++ hits task rect (take i owners) → new ≡ found ++ o.task ∷ [] → new ≡ start ++ hits task rect (take (i + 1) owners)
hit-more task rect owners i o start found new inside is hit so pushed =
    pushed ∙ ap (λ l. l ++ o.task ∷ []) so ∙ append_assoc start (hits task rect (take i owners)) (o.task ∷ [])
    ∙ ap (λ l. start ++ l) (sym (more task rect owners i o inside is ∙ ap (λ b. hits task rect (take i owners) ++ map (λ p. p.task) (cond b (o ∷ []) [])) hit))

pub miss-more : (task : ℕ) (rect : Rect) (owners : List Owned) (i : ℕ) (o : Owned) (start found new : List ℕ) → i < length owners → o ≡ get_or owners i o → is_hit task rect o ≡ false →
    found ≡ start ++ hits task rect (take i owners) → new ≡ found → new ≡ start ++ hits task rect (take (i + 1) owners)
miss-more task rect owners i o start found new inside is hit so same =
    same ∙ so ∙ ap (λ l. start ++ l) (sym (more task rect owners i o inside is ∙ ap (λ b. hits task rect (take i owners) ++ map (λ p. p.task) (cond b (o ∷ []) [])) hit ∙ append-nil (hits task rect (take i owners))))

-- ---- what is found for all boxes
module _ (tasks : List PlacesValue) (bases : ℕ) (table : List (List Owned)) (is : IsTable tasks (length tasks) bases table) (task : ℕ) where
  hit-waits : (u : ℕ) → Contains (flat_map (box_hits table task) (boxes_of tasks task)) u → Waits tasks u task
  unfolding is_hit
  hit-waits u c =
      let b = flat_in (box_hits table task) (boxes_of tasks task) u c in
      let o = map_in (λ o. o.task) (filter (is_hit task b.0.rect) (on table b.0.base)) u b.2 in
      let f = filter_in (is_hit task b.0.rect) (on table b.0.base) o.0 o.1 in
      let parts = and_parts (not (o.0.task == task)) (meets o.0.rect b.0.rect) f.1 in
      let made = (is.owned b.0.base o.0).0 f.0 in
      record {
        other = subst (λ v. v ≢ task) o.2 (eqb-false o.0.task task (not-true (o.0.task == task) parts.0));
        part = spot b.0.base o.0;
        makes = subst (λ v. Contains (parts_of tasks v) (spot b.0.base o.0)) o.2 made.1;
        box = b.0;
        reads = b.1;
        overlap = parts-overlap (spot b.0.base o.0) b.0 refl parts.1;
      }

  waits-hit : (u : ℕ) → u < length tasks → Waits tasks u task → Contains (flat_map (box_hits table task) (boxes_of tasks task)) u
  unfolding is_hit
  waits-hit u below w =
      let over = overlaps-parts w.part w.box w.overlap in
      let o : Owned = record { task = u; rect = w.part.rect } in
      let there = (is.owned w.box.base o).1 (below, subst (λ s. Contains (parts_of tasks u) s) (λ i. record { base = over.0 i; rect = w.part.rect }) w.makes) in
      let hit = and_from (not (u == task)) (meets w.part.rect w.box.rect) (not_from_false (u == task) (ne_eqb u task w.other)) over.1 in
      in_flat (box_hits table task) (boxes_of tasks task) w.box u w.reads (in_map (λ o. o.task) (filter (is_hit task w.box.rect) (on table w.box.base)) o (in_filter (is_hit task w.box.rect) (on table w.box.base) o there hit))

  pub found-predecessors : (found sorted : List ℕ) → found ≡ flat_map (box_hits table task) (boxes_of tasks task) → IsSortedOut found sorted → sorted ≡ predecessors tasks task
  unfolding predecessors
  found-predecessors found sorted so s = rising-same sorted (predecessors tasks task) s.rises (rising-picked (λ u. precedes tasks u task) (length tasks)) (λ v. (
    λ c. waits-before tasks task v (hit-waits v (subst (λ l. Contains l v) so ((s.same v).0 c))),
    λ c. let w = before-waits tasks task v c in (s.same v).1 (subst (λ l. Contains l v) (sym so) (waits-hit v (makes-inside tasks v w.part w.makes) w)),
  ))
