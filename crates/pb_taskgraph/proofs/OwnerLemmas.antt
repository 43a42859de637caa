-- Tables that are filled at cells.
use Rattle.std.proofs.Common.{◌≡◌, ◌∙◌, refl, sym, ap, subst, ℕ, zero, suc, ◌<◌, ◌≤◌, ◌+◌, ◌-◌, List, [], ◌∷◌, ◌++◌, length, get_or, map, slice_set, length-set, arith}
use Rattle.std.specs.List.{All, Contains, flat_map, range_with_len}
use Rattle.std.proofs.lemmas.List.{get_or-set_same, get_or-set_other, map-id, map_push}
use Rattle.std.proofs.lemmas.Grind.{common_steps}
use Rattle.std.proofs.lemmas.List.Concat.{flat_map-append}
use Rattle.std.proofs.lemmas.List.Elements.{All-contains, Contains-get_or}
use Rattle.std.proofs.lemmas.List.FromFn.{get_or-map-range_with_len, length-map-range_with_len, map-range_with_len_more}
use Rattle.pb_base.proofs.ListLemmas.{in_flat, in_head, in_tail}
use Rattle.pb_values.specs.declared.view.View.{View}
use Rattle.pb_values.specs.Views.{cell_of, view_cells}
use Rattle.pb_taskgraph.specs.Owners.{HasEntry, filled}

pub range-more : (k : ℕ) → range_with_len 0 (k + 1) ≡ range_with_len 0 k ++ k ∷ []
range-more k = sym (map-id (range_with_len 0 (k + 1))) ∙ map-range_with_len_more (λ x. x) 0 k k (omega arith) ∙ ap (λ l. l ++ k ∷ []) (map-id (range_with_len 0 k))

module _ (first n : ℕ) where
  filled-append : (cs ds xs : List ℕ) → filled first xs (cs ++ ds) n ≡ filled first (filled first xs cs n) ds n
  filled-append [] ds xs = refl
  filled-append (c ∷ cs) ds xs = filled-append cs ds (slice_set xs (c - first) n)

  pub length-filled : (cs xs : List ℕ) → length (filled first xs cs n) ≡ length xs
  length-filled [] xs = refl
  length-filled (c ∷ cs) xs = length-filled cs (slice_set xs (c - first) n) ∙ length-set xs (c - first) n

  pub row-room : (v : View) (y k : ℕ) (xs ys : List ℕ) → ys ≡ filled first xs (map (λ x. cell_of v x y) (range_with_len 0 k)) n → length ys ≡ length xs
  row-room v y k xs ys e = ap length e ∙ length-filled (map (λ x. cell_of v x y) (range_with_len 0 k)) xs

  pub room : {X : Type 0} (f : X → List ℕ) (ps : List X) (xs ys : List ℕ) → ys ≡ filled first xs (flat_map f ps) n → length ys ≡ length xs
  room f ps xs ys e = ap length e ∙ length-filled (flat_map f ps) xs

  -- one place more, and one piece more
  pub row-more : (v : View) (y k cell : ℕ) (xs ys zs : List ℕ) → ys ≡ filled first xs (map (λ x. cell_of v x y) (range_with_len 0 k)) n → cell ≡ cell_of v k y → zs ≡ slice_set ys (cell - first) n
      → zs ≡ filled first xs (map (λ x. cell_of v x y) (range_with_len 0 (k + 1))) n
  row-more v y k cell xs ys zs before at set = grind (arith, common_steps, filled-append (map (λ x. cell_of v x y) (range_with_len 0 k)) (cell_of v k y ∷ []) xs, map_push (λ x. cell_of v x y) (range_with_len 0 k) k, range-more k)

  pub piece-more : {X : Type 0} (f : X → List ℕ) (ps qs : List X) (p : X) (xs ys zs : List ℕ) → ys ≡ filled first xs (flat_map f ps) n → zs ≡ filled first ys (f p) n → qs ≡ ps ++ p ∷ []
      → zs ≡ filled first xs (flat_map f qs) n
  piece-more f ps qs p xs ys zs before set more = grind (arith, common_steps, filled-append (flat_map f ps) (f p) xs, flat_map-append f ps (p ∷ []))

  -- what stands in an entry afterwards
  stays : (cs xs : List ℕ) (i d : ℕ) → i < length xs → get_or xs i d ≡ n → get_or (filled first xs cs n) i d ≡ n
  stays [] xs i d below is = is
  stays (e ∷ cs) xs i d below is = stays cs (slice_set xs (e - first) n) i d (omega (arith, length-set xs (e - first) n)) (grind (arith, get_or-set_same xs (e - first) n d, get_or-set_other xs (e - first) i n d))

  pub filled-in : (cs xs : List ℕ) (c d : ℕ) → Contains cs c → c - first < length xs → get_or (filled first xs cs n) (c - first) d ≡ n
  filled-in [] xs c d h below = absurd (omega (arith, h.1))
  filled-in (e ∷ cs) xs c d (zero, inside, is) below = stays cs (slice_set xs (e - first) n) (c - first) d (omega (arith, length-set xs (e - first) n)) (grind (arith, get_or-set_same xs (e - first) n d))
  filled-in (e ∷ cs) xs c d (suc k, inside, is) below = filled-in cs (slice_set xs (e - first) n) c d (k, omega arith, is) (omega (arith, length-set xs (e - first) n))

  pub filled-out : (cs xs : List ℕ) (c d : ℕ) → All (λ e. first ≤ e) cs → first ≤ c → (Contains cs c → ⊥) → get_or (filled first xs cs n) (c - first) d ≡ get_or xs (c - first) d
  filled-out [] xs c d past here out = refl
  filled-out (e ∷ cs) xs c d past here out =
      let first_past : first ≤ e = past 0 0 (omega arith) in
      filled-out cs (slice_set xs (e - first) n) c d (λ k j below. past (suc k) j (omega arith)) here (λ h. out (in_tail e c cs h))
      ∙ get_or-set_other xs (e - first) (c - first) n d (λ same. out (subst (λ z. Contains (e ∷ cs) z) (omega arith) (in_head e cs)))

-- what holds of each place holds of those of a piece
pub row-each : (P : ℕ → Type 0) (v : View) (y w x : ℕ) → All P (map (λ x. cell_of v x y) (range_with_len 0 w)) → x < w → P (cell_of v x y)
row-each P v y w x all below = subst P (get_or-map-range_with_len (λ x. cell_of v x y) 0 w x x 0 below (omega arith)) (all x 0 (omega (arith, length-map-range_with_len (λ x. cell_of v x y) 0 w)))

pub piece-each : {X : Type 0} (P : ℕ → Type 0) (f : X → List ℕ) (ps : List X) (p : X) → All P (flat_map f ps) → Contains ps p → All P (f p)
piece-each P f ps p all h k d below = All-contains P (flat_map f ps) (get_or (f p) k d) all (in_flat f ps p (get_or (f p) k d) h (Contains-get_or (f p) k d below))

-- each of some places is in range
pub row-inside : (v : View) (y w x n : ℕ) → All (λ c. c < n) (map (λ x. cell_of v x y) (range_with_len 0 w)) → x < w → cell_of v x y < n
row-inside v y w x n all below = row-each (λ c. c < n) v y w x all below

pub piece-inside : {X : Type 0} (f : X → List ℕ) (ps : List X) (p : X) (n m : ℕ) → m ≡ n → All (λ c. c < n) (flat_map f ps) → Contains ps p → All (λ c. c < m) (f p)
piece-inside f ps p n m same all h = subst (λ k. All (λ c. c < k) (f p)) (sym same) (piece-each (λ c. c < n) f ps p all h)

-- each of some cells has an entry
pub piece-entries : {X : Type 0} (first : ℕ) (f : X → List ℕ) (ps : List X) (p : X) (n m : ℕ) → m ≡ n → All (HasEntry first n) (flat_map f ps) → Contains ps p → All (HasEntry first m) (f p)
piece-entries first f ps p n m same all h = subst (λ k. All (HasEntry first k) (f p)) (sym same) (piece-each (HasEntry first n) f ps p all h)

-- rows of no width have no cells
none : (f : ℕ → ℕ → ℕ) (a h w : ℕ) → w ≡ 0 → flat_map (λ y. map (λ x. f x y) (range_with_len 0 w)) (range_with_len a h) ≡ []
none f a zero w e = refl
none f a (suc h) w e = ap (λ k. map (λ x. f x a) (range_with_len 0 k) ++ flat_map (λ y. map (λ x. f x y) (range_with_len 0 w)) (range_with_len (a + 1) h)) e ∙ none f (a + 1) h w e

pub view-none : (v : View) → v.shape.w ≡ 0 → view_cells v ≡ []
view-none v e = none (cell_of v) 0 v.shape.h v.shape.w e
