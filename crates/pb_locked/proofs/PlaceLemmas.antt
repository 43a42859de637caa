-- Numbers that are written at places of a list, one after another.
use Rattle.std.proofs.Common.{◌≡◌, ◌∙◌, refl, sym, ap, subst, ⊎_elim, ℕ, zero, suc, ◌<◌, ◌≤◌, ◌+◌, ◌^◌, List, [], ◌∷◌, ◌++◌, length, length-append, get_or, map, take, drop, slice_set, length-set, zero-add, arith}
use Rattle.std.specs.List.{All, Contains, flat_map, range_with_len}
use Rattle.std.proofs.lemmas.Bool.{cases_eq}
use Rattle.std.proofs.lemmas.Grind.{common_steps}
use Rattle.std.proofs.lemmas.List.{drop_more, get_or-append-add, get_or_append_left, get_or-set_same, get_or-set_other, map_push, take-append-drop, take_more}
use Rattle.std.proofs.lemmas.List.Concat.{flat_map-append}
use Rattle.std.proofs.lemmas.List.Elements.{Contains-get_or}
use Rattle.std.proofs.lemmas.List.FromFn.{get_or-range_with_len, length-range_with_len}
use Rattle.pb_base.proofs.ListLemmas.{in_head, in_tail}
use Rattle.pb_values.specs.declared.view.View.{View}
use Rattle.pb_values.specs.Views.{cell_of, row_cells, view_cells}
use Rattle.pb_taskgraph.specs.declared.task.Part.{Part}
use Rattle.pb_taskgraph.specs.Graphs.{EachOnce, GraphValue, IsGraph, TaskValue, cells_of}
use Rattle.pb_taskgraph.proofs.GraphLemmas.{cells-at}
use Rattle.pb_taskgraph.proofs.OwnerLemmas.{range-more}
use Rattle.pb_core.proofs.CountLemmas.{once-head, once-rest}
use Rattle.pb_core.proofs.FinishLemmas.{few}
use Rattle.pb_locked.proofs.CompleteLemmas.{row-length}
use Rattle.pb_locked.specs.Places.{HasPlaces, numbered}

numbered-append : (cs ds xs : List ℕ) (n : ℕ) → numbered xs (cs ++ ds) n ≡ numbered (numbered xs cs n) ds (n + length cs)
numbered-append [] ds xs n = let e : n ≡ n + 0 = omega arith in ap (numbered xs ds) e
numbered-append (c ∷ cs) ds xs n = numbered-append cs ds (slice_set xs c n) (n + 1) ∙ (let e : (n + 1) + length cs ≡ n + suc (length cs) = omega arith in ap (numbered (numbered (slice_set xs c n) cs (n + 1)) ds) e)

pub length-numbered : (cs xs : List ℕ) (n : ℕ) → length (numbered xs cs n) ≡ length xs
length-numbered [] xs n = refl
length-numbered (c ∷ cs) xs n = length-numbered cs (slice_set xs c n) (n + 1) ∙ length-set xs c n

pub places-room : (cs xs ys : List ℕ) (n : ℕ) → ys ≡ numbered xs cs n → length ys ≡ length xs
places-room cs xs ys n e = ap length e ∙ length-numbered cs xs n

-- the rows of a view by number
pub range-at : (h y : ℕ) → y < h → y ≡ get_or (range_with_len 0 h) y y
range-at h y below = sym (get_or-range_with_len 0 h y y below ∙ zero-add y)

pub range-size : (h : ℕ) → length (range_with_len 0 h) ≡ h
range-size h = length-range_with_len 0 h

-- one place more, and one piece more
pub place-more : (v : View) (y k cell n m : ℕ) (xs ys zs : List ℕ) → ys ≡ numbered xs (map (λ x. cell_of v x y) (range_with_len 0 k)) n → cell ≡ cell_of v k y → m ≡ n + k → zs ≡ slice_set ys cell m
    → length (map (λ x. cell_of v x y) (range_with_len 0 k)) ≡ k → zs ≡ numbered xs (map (λ x. cell_of v x y) (range_with_len 0 (k + 1))) n
place-more v y k cell n m xs ys zs before at is set size =
    set ∙ ap (λ l. slice_set l cell m) before
    ∙ ap (λ c. slice_set (numbered xs (map (λ x. cell_of v x y) (range_with_len 0 k)) n) c m) at
    ∙ (let same : m ≡ n + length (map (λ x. cell_of v x y) (range_with_len 0 k)) = omega arith in ap (slice_set (numbered xs (map (λ x. cell_of v x y) (range_with_len 0 k)) n) (cell_of v k y)) same)
    ∙ sym (numbered-append (map (λ x. cell_of v x y) (range_with_len 0 k)) (cell_of v k y ∷ []) xs n)
    ∙ ap (λ l. numbered xs l n) (sym (map_push (λ x. cell_of v x y) (range_with_len 0 k) k) ∙ ap (map (λ x. cell_of v x y)) (sym (range-more k)))

module _ {X : Type 0} (f : X → List ℕ) (all : List X) (k : ℕ) (p : X) (below : k < length all) (is : p ≡ get_or all k p) where
  next : take (k + 1) all ≡ take k all ++ p ∷ []
  next = take_more all k p below ∙ ap (λ q. take k all ++ q ∷ []) (sym is)

  joined : flat_map f (take (k + 1) all) ≡ flat_map f (take k all) ++ f p
  joined = ap (flat_map f) next ∙ grind (arith, common_steps, flat_map-append f (take k all) (p ∷ []))

  pub pieces-more : (xs ys zs : List ℕ) (n m : ℕ) → ys ≡ numbered xs (flat_map f (take k all)) n → m ≡ n + length (flat_map f (take k all)) → zs ≡ numbered ys (f p) m → zs ≡ numbered xs (flat_map f (take (k + 1) all)) n
  pieces-more xs ys zs n m before at set =
      set ∙ ap (λ l. numbered l (f p) m) before ∙ ap (numbered (numbered xs (flat_map f (take k all)) n) (f p)) at
      ∙ sym (numbered-append (flat_map f (take k all)) (f p) xs n) ∙ ap (λ l. numbered xs l n) (sym joined)

  pub pieces-next : (n m : ℕ) → m ≡ n + length (flat_map f (take k all)) → m + length (f p) ≡ n + length (flat_map f (take (k + 1) all))
  pieces-next n m at = omega (arith, ap length joined, length-append (flat_map f (take k all)) (f p))

  -- a piece of a whole
  split : flat_map f all ≡ flat_map f (take k all) ++ (f p ++ flat_map f (drop (k + 1) all))
  split =
      ap (flat_map f) (sym (take-append-drop k all) ∙ ap (λ l. take k all ++ l) (drop_more all k p below ∙ ap (λ q. q ∷ drop (k + 1) all) (sym is)))
      ∙ flat_map-append f (take k all) (p ∷ drop (k + 1) all)

  pub pieces-few : length (flat_map f (take k all)) + length (f p) ≤ length (flat_map f all)
  pieces-few = omega (arith, ap length split, length-append (flat_map f (take k all)) (f p ++ flat_map f (drop (k + 1) all)), length-append (f p) (flat_map f (drop (k + 1) all)))

pub row-few : (v : View) (y first here : ℕ) → y < v.shape.h → here ≡ first + length (flat_map (row_cells v) (take y (range_with_len 0 v.shape.h))) → first + length (view_cells v) < 2 ^ 32 → here + v.shape.w < 2 ^ 32
row-few v y first here below at small =
    let most = pieces-few (row_cells v) (range_with_len 0 v.shape.h) y y (omega (arith, range-size v.shape.h, below)) (range-at v.shape.h y below) in
    omega (arith, most, at, small, row-length v y)

-- what stands at a place afterwards
outside : (cs xs : List ℕ) (n c d : ℕ) → (Contains cs c → ⊥) → get_or (numbered xs cs n) c d ≡ get_or xs c d
outside [] xs n c d out = refl
outside (e ∷ cs) xs n c d out =
    outside cs (slice_set xs e n) (n + 1) c d (λ h. out (in_tail e c cs h))
    ∙ get_or-set_other xs e c n d (λ same. out (subst (λ z. Contains (e ∷ cs) z) (sym same) (in_head e cs)))

inside : (cs xs : List ℕ) (n i d : ℕ) → EachOnce cs → i < length cs → ((j : ℕ) → j < length cs → get_or cs j 0 < length xs) → get_or (numbered xs cs n) (get_or cs i 0) d ≡ n + i
inside [] xs n i d once below room = absurd (omega arith)
inside (c ∷ cs) xs n zero d once below room =
    outside cs (slice_set xs c n) (n + 1) c d (once-head c cs once) ∙ get_or-set_same xs c n d (room 0 (omega arith)) ∙ (let e : n ≡ n + 0 = omega arith in e)
inside (c ∷ cs) xs n (suc i) d once below room =
    inside cs (slice_set xs c n) (n + 1) i d (once-rest c cs once) (omega arith) (λ j under. let r = room (suc j) (omega arith) in omega (arith, length-set xs c n))
    ∙ (let e : (n + 1) + i ≡ n + suc i = omega arith in e)

abbrev parts_cells : List Part → List ℕ
parts_cells parts = flat_map (λ (part : Part). view_cells part.view) parts

module _ (g : GraphValue) (p : IsGraph g) (t : ℕ) (task : TaskValue) (below : t < length g.tasks) (is : task ≡ get_or g.tasks t task) (parts : List Part) (same : parts ≡ task.parts) where
  own : cells_of g t ≡ parts_cells parts
  own = cells-at g t task below is ∙ ap parts_cells (sym same)

  cell-below : (c : ℕ) → Contains (parts_cells parts) c → c < g.cells
  cell-below c h = (p.partition.past t c (subst (λ cs. Contains cs c) (sym own) h)).1

  pub cells-below : (places : List ℕ) → length places ≡ g.cells → All (λ c. c < length places) (parts_cells parts)
  cells-below places room k d under =
      let h = cell-below (get_or (parts_cells parts) k d) (Contains-get_or (parts_cells parts) k d under) in
      omega arith

  own-once : EachOnce (parts_cells parts)
  own-once = subst (λ cs. EachOnce cs) own (p.partition.once t)

  pub cells-few : length (parts_cells parts) < 2 ^ 32
  cells-few = let most = few (parts_cells parts) g.cells own-once cell-below in omega (arith, p.few_cells)

  pub places-more : (places counts new : List ℕ) (count : ℕ) → HasPlaces g t (record { places = places; counts = counts }) → new ≡ numbered places (parts_cells parts) 0 → count ≡ length (parts_cells parts)
      → HasPlaces g (t + 1) (record { places = new; counts = counts ++ count ∷ [] })
  places-more places counts new count h is_new is_count = record {
    room = ap length is_new ∙ length-numbered (parts_cells parts) places 0 ∙ h.room;
    place = at;
    tasks = omega (arith, length-append counts (count ∷ []), h.tasks);
    count = λ u before. ⊎_elim
        (λ (this : u ≡ t).
        (let e : u ≡ length counts + 0 = omega (arith, h.tasks) in ap (λ j. get_or (counts ++ count ∷ []) j 0) e)
        ∙ get_or-append-add counts (count ∷ []) 0 0 ∙ is_count ∙ ap length (sym own) ∙ ap (λ j. length (cells_of g j)) (sym this))
        (λ (other : u ≡ t → ⊥). get_or_append_left counts (count ∷ []) 0 u (omega (arith, h.tasks)) ∙ h.count u (omega arith))
        (cases_eq u t);
  }
    where
      at : (u i : ℕ) → u < t + 1 → i < length (cells_of g u) → get_or new (get_or (cells_of g u) i 0) 0 ≡ i
      at u i before under =
          let cell = get_or (cells_of g u) i 0 in
          let has : Contains (cells_of g u) cell = Contains-get_or (cells_of g u) i 0 under in
          ap (λ l. get_or l cell 0) is_new
          ∙ ⊎_elim
          (λ (this : u ≡ t).
          let cs : cells_of g u ≡ parts_cells parts = ap (cells_of g) this ∙ own in
          ap (λ l. get_or (numbered places (parts_cells parts) 0) (get_or l i 0) 0) cs
          ∙ inside (parts_cells parts) places 0 i 0 own-once (omega (arith, ap length cs)) (λ j low. let b = cell-below (get_or (parts_cells parts) j 0) (Contains-get_or (parts_cells parts) j 0 low) in omega (arith, h.room)) ∙ zero-add i)
          (λ (other : u ≡ t → ⊥).
          outside (parts_cells parts) places 0 cell 0 (λ own_too. other (p.partition.one u t cell has (subst (λ cs. Contains cs cell) (sym own) own_too)))
          ∙ h.place u i (omega arith) under)
          (cases_eq u t)
