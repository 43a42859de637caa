-- What each job of an instance is, and which job has a part.
use Rattle.std.proofs.Common.{◌≡◌, ◌∙◌, refl, sym, ap, subst, inl, inr, ◌⊎◌, ⊎_elim, ℕ, zero, suc, ◌+◌, ◌-◌, ◌≤◌, ◌<◌, Bool, true, false, ◌&&◌, ◌||◌, not, List, [], ◌∷◌, ◌++◌, length, map, slice_get, slice_index, Option, Some, None, arith}
use Rattle.std.specs.Prelude.{◌==◌, filter}
use Rattle.std.specs.List.{Contains, enumerate_from, flat_map, list_any, range_with_len}
use Rattle.std.specs.Option.{option_map_or}
use Rattle.std.proofs.lemmas.Bool.{and_parts, cases_lt, eq-eqb, eqb-true}
use Rattle.std.proofs.lemmas.List.{length-map}
use Rattle.pb_values.specs.Views.{HasPlace}
use Rattle.pb_values.specs.declared.rect.Rect.{Rect}
use Rattle.pb_graph.specs.Layerings.{LayerValue, LayeringValue}
use Rattle.pb_program.specs.Trees.{ProgRule, ProgTransform}
use Rattle.pb_region.specs.Boxes.{is_wide}
use Rattle.pb_base.proofs.ListLemmas.{at_in, filter_in, in_at, in_cases, in_filter, in_map, in_none, in_range, map_in}
use Rattle.pb_check.proofs.FirstLemmas.{some_same}
use Rattle.pb_check.proofs.LawfulLemmas.{both}
use Rattle.pb_frame.specs.Frames.{JobValue, block_job, blocks, chosen_wides, cut_by, has_block, has_place, in_layer, is_block_part, is_cell_rule, is_in_layer, is_wide_rule, layer_jobs, squares, wide_job, within}
use Rattle.pb_frame.specs.declared.part.FramePart.{FramePart}
use Rattle.pb_frame.proofs.SpanLemmas.{Precedes, none_ahead, ordered_at, ordered_filter, squares_ordered, squares_reach}
use Rattle.pb_plan.proofs.FlatLemmas.{at_flat, at_numbered, flat_at, numbered_at, start, start_before, within as inside}
use Rattle.pb_plan.proofs.PieceLemmas.{IsPiece, LiesIn, cut_in, cut_lies, in_cut, place_some, whole_piece}
use Rattle.pb_plan.proofs.RiseLemmas.{Rises, rises_filter, rises_map, rises_one, rises_range}

-- ---- two lists one after the other
module _ {A : Type 0} where
  get_left : (xs ys : List A) (i : ℕ) → i < length xs → slice_get (xs ++ ys) i ≡ slice_get xs i
  get_left [] ys i below = absurd (omega (arith, below))
  get_left (x ∷ xs) ys zero below = refl
  get_left (x ∷ xs) ys (suc i) below = get_left xs ys i (omega (arith, below))

  get_right : (xs ys : List A) (i : ℕ) → slice_get (xs ++ ys) (length xs + i) ≡ slice_get ys i
  get_right [] ys i = let e : 0 + i ≡ i = omega arith in ap (slice_get ys) e
  get_right (x ∷ xs) ys i = let e : suc (length xs) + i ≡ suc (length xs + i) = omega arith in ap (slice_get (x ∷ (xs ++ ys))) e ∙ get_right xs ys i

pub at_map : {A B : Type 0} (f : A → B) (xs : List A) (k : ℕ) (x : A) → slice_get xs k ≡ Some x → slice_get (map f xs) k ≡ Some (f x)
at_map f [] k x e = absurd (cc)
at_map f (y ∷ xs) zero x e = ap (λ z. Some (f z)) (some_same y x e)
at_map f (y ∷ xs) (suc k) x e = at_map f xs k x e

pub map_at : {A B : Type 0} (f : A → B) (xs : List A) (k : ℕ) (y : B) → slice_get (map f xs) k ≡ Some y → (x : A) × (slice_get xs k ≡ Some x) × (f x ≡ y)
map_at f [] k y e = absurd (cc)
map_at f (x ∷ xs) zero y e = (x, refl, some_same (f x) y e)
map_at f (x ∷ xs) (suc k) y e = map_at f xs k y e

-- ---- the jobs of layers
module _ (t : ProgTransform) (order : LayeringValue) (grain : ℕ) (all : List FramePart) where
  abbrev pub jobs : List JobValue
  jobs = flat_map (λ l. layer_jobs t grain (in_layer order all l.0) l) (enumerate_from 0 order.layers)

  abbrev pub of_layer : ℕ × LayerValue → List JobValue
  of_layer l = layer_jobs t grain (in_layer order all l.0) l

  abbrev wides_in : ℕ → List ℕ
  wides_in l = chosen_wides t (in_layer order all l)

  -- where a job stands: its layer, and its place among the layer's jobs
  pub record IsPlaced (j : ℕ) (job : JobValue) : Type 0 where
    pub layer : ℕ
    pub value : LayerValue
    pub there : slice_get order.layers layer ≡ Some value
    pub place : ℕ
    pub is : slice_get (of_layer (layer, value)) place ≡ Some job
    pub at : j ≡ start of_layer (enumerate_from 0 order.layers) layer + place

  pub placed : (j : ℕ) (job : JobValue) → slice_get jobs j ≡ Some job → IsPlaced j job
  placed j job e =
      let s = at_flat of_layer (enumerate_from 0 order.layers) j job e in
      let n = at_numbered 0 order.layers s.number s.of s.there in
      let number : s.of.0 ≡ s.number = omega (arith, n.0) in
      record {
        layer = s.number;
        value = s.of.1;
        there = n.1;
        place = s.place;
        is = subst (λ k. slice_get (of_layer (k, s.of.1)) s.place ≡ Some job) number s.is;
        at = s.at;
      }

  numbered_here : (l : ℕ) (v : LayerValue) → slice_get order.layers l ≡ Some v → slice_get (enumerate_from 0 order.layers) l ≡ Some (l, v)
  numbered_here l v e = numbered_at 0 order.layers l v e ∙ (let z : 0 + l ≡ l = omega arith in ap (λ k. Some (k, v)) z)

  -- a job of an earlier layer stands before
  pub earlier_layer : (i j : ℕ) (a b : JobValue) (p : IsPlaced i a) (q : IsPlaced j b) → p.layer < q.layer → i < j
  earlier_layer i j a b p q less =
      omega (arith, p.at, q.at, start_before of_layer (enumerate_from 0 order.layers) p.layer q.layer (p.layer, p.value) p.place q.place (numbered_here p.layer p.value p.there) (inside (of_layer (p.layer, p.value)) p.place a p.is) less)

  pub same_place : (i j : ℕ) (a b : JobValue) (p : IsPlaced i a) (q : IsPlaced j b) → p.layer ≡ q.layer → p.place ≡ q.place → i ≡ j
  same_place i j a b p q layer place = p.at ∙ ap (λ k. start of_layer (enumerate_from 0 order.layers) k + p.place) layer ∙ ap (λ k. start of_layer (enumerate_from 0 order.layers) q.layer + k) place ∙ sym q.at

  -- what a job is: all of a rule in its layer, or a block of the layer
  abbrev pub IsWideAt : ℕ → ℕ → JobValue → ℕ → Type 0
  IsWideAt l place job k = (slice_get (wides_in l) place ≡ Some k) × (job ≡ wide_job l (in_layer order all l) k)

  pub record IsBlockAt (l : ℕ) (v : LayerValue) (place : ℕ) (job : JobValue) : Type 0 where
    pub number : ℕ
    pub square : Rect
    pub is : slice_get (blocks t v grain (in_layer order all l)) number ≡ Some square
    pub at : place ≡ length (wides_in l) + number
    pub same : job ≡ block_job t l (in_layer order all l) square

  abbrev wide_jobs : ℕ → List JobValue
  wide_jobs l = map (wide_job l (in_layer order all l)) (wides_in l)

  abbrev block_jobs : ℕ → LayerValue → List JobValue
  block_jobs l v = map (block_job t l (in_layer order all l)) (blocks t v grain (in_layer order all l))

  kind_in : (l : ℕ) (v : LayerValue) (place : ℕ) (job : JobValue) → slice_get (of_layer (l, v)) place ≡ Some job → ((k : ℕ) × IsWideAt l place job k) ⊎ IsBlockAt l v place job
  kind_in l v place job e = ⊎_elim
      (λ (early : place < length (wide_jobs l)).
      let w = map_at (wide_job l (in_layer order all l)) (wides_in l) place job (sym (get_left (wide_jobs l) (block_jobs l v) place early) ∙ e) in
      inl (w.0, (w.1, sym w.2)))
      (λ (late : length (wide_jobs l) ≤ place).
      let m = place - length (wide_jobs l) in
      let back : place ≡ length (wide_jobs l) + m = omega (arith, late) in
      let b = map_at (block_job t l (in_layer order all l)) (blocks t v grain (in_layer order all l)) m job (sym (get_right (wide_jobs l) (block_jobs l v) m) ∙ ap (slice_get (of_layer (l, v))) (sym back) ∙ e) in
      inr (record { number = m; square = b.0; is = b.1; at = omega (arith, back, length-map (wides_in l) (wide_job l (in_layer order all l))); same = sym b.2 }))
      (cases_lt place (length (wide_jobs l)))

  pub kind_of : (j : ℕ) (job : JobValue) (p : IsPlaced j job) → ((k : ℕ) × IsWideAt p.layer p.place job k) ⊎ IsBlockAt p.layer p.value p.place job
  kind_of j job p = kind_in p.layer p.value p.place job p.is

  -- a part of all lies in its layer
  abbrev layer_of : FramePart → ℕ
  layer_of part = slice_index order.layer part.node

  pub in_own : (part : FramePart) → Contains all part → Contains (in_layer order all (layer_of part)) part
  in_own part h = in_filter (is_in_layer order (layer_of part)) all part h (eq-eqb (layer_of part) (layer_of part) refl)

  -- ---- the parts of a job
  -- a part of a job is a piece of one of all, in the job's layer; and its rule is the job's, or one for single cells
  pub record IsPartOf (l : ℕ) (rule : Option ℕ) (part : FramePart) : Type 0 where
    pub piece : IsPiece all part
    pub layer : layer_of part ≡ l
    pub wide : (k : ℕ) → rule ≡ Some k → (part.rule ≡ k) × (is_wide_rule t k ≡ true)
    pub cell : rule ≡ None → is_cell_rule t part.rule ≡ true

  from_layer : (l : ℕ) (part : FramePart) → Contains (in_layer order all l) part → Contains all part × (layer_of part ≡ l)
  from_layer l part h = let f = filter_in (is_in_layer order l) all part h in (f.0, eqb-true (layer_of part) l f.1)

  pub part_of : (j : ℕ) (job : JobValue) (p : IsPlaced j job) (part : FramePart) → Contains job.parts part → IsPartOf p.layer job.rule part
  part_of j job p part h = ⊎_elim
      (λ w.
      let parts = in_layer order all p.layer in
      let k = w.0 in
      let of = filter_in (λ (q : FramePart). q.rule == k) parts part (subst (λ (b : JobValue). Contains b.parts part) w.1.1 h) in
      let from = from_layer p.layer part of.0 in
      let rule : job.rule ≡ Some k = ap (λ (b : JobValue). b.rule) w.1.1 in
      let chosen = filter_in (λ k. is_wide_rule t k && list_any (λ (q : FramePart). q.rule == k) parts) (range_with_len 0 (length t.rules)) k (in_at (wides_in p.layer) p.place k w.1.0) in
      let wide = (and_parts (is_wide_rule t k) (list_any (λ (q : FramePart). q.rule == k) parts) chosen.1).0 in
      record {
        piece = whole_piece all part from.0;
        layer = from.1;
        wide = λ m e. let same : k ≡ m = some_same k m (sym rule ∙ e) in (eqb-true part.rule k of.1 ∙ same, subst (λ n. is_wide_rule t n ≡ true) same wide);
        cell = λ e. absurd (let no : Some k ≡ None = sym rule ∙ e in cc);
      })
      (λ b.
      let parts = in_layer order all p.layer in
      let sq = b.square in
      let rule : job.rule ≡ None = ap (λ (c : JobValue). c.rule) b.same in
      let from = map_in (within sq) (filter (is_block_part t sq) parts) part (subst (λ (c : JobValue). Contains c.parts part) b.same h) in
      let kept = filter_in (is_block_part t sq) parts from.0 from.1 in
      let home = from_layer p.layer from.0 kept.0 in
      let node : from.0.node ≡ part.node = ap (λ (q : FramePart). q.node) from.2 in
      let cut = and_parts (is_cell_rule t from.0.rule) (has_place (cut_by sq from.0.rect)) kept.1 in
      record {
        piece = record {
          whole = from.0;
          among = home.0;
          node = node;
          rule = ap (λ (q : FramePart). q.rule) from.2;
          inside = λ x y here. (cut_in sq from.0.rect x y (subst (λ (q : FramePart). HasPlace q.rect x y) (sym from.2) here)).1;
          some = λ some. ap (λ (q : FramePart). has_place q.rect) (sym from.2) ∙ cut.1;
        };
        layer = ap (slice_index order.layer) (sym node) ∙ home.1;
        wide = λ m e. absurd (let no : Some m ≡ None = sym e ∙ rule in cc);
        cell = λ e. subst (λ (q : FramePart). is_cell_rule t q.rule ≡ true) from.2 cut.0;
      })
      (kind_of j job p)

  -- what a block has lies in it
  pub in_square : (l : ℕ) (v : LayerValue) (place : ℕ) (job : JobValue) (b : IsBlockAt l v place job) (part : FramePart) → Contains job.parts part → LiesIn b.square part.rect
  in_square l v place job b part h =
      let parts = in_layer order all l in
      let from = map_in (within b.square) (filter (is_block_part t b.square) parts) part (subst (λ (c : JobValue). Contains c.parts part) b.same h) in
      subst (λ (q : FramePart). LiesIn b.square q.rect) from.2 (cut_lies b.square from.0.rect)

  -- ---- each place of a part is of one job
  any_in : {A : Type 0} (p : A → Bool) (xs : List A) (x : A) → Contains xs x → p x ≡ true → list_any p xs ≡ true
  any_in p [] x h e = absurd (in_none x h)
  any_in p (y ∷ xs) x h e = elim (in_cases y x xs h) [
    | inl here ↦ ap (λ b. b || list_any p xs) (ap p here ∙ e)
    | inr later ↦ or_right (p y) (list_any p xs) (any_in p xs x later e)
  ]
    where
      or_right : (a b : Bool) → b ≡ true → (a || b) ≡ true
      or_right true b e = refl
      or_right false b e = e

  job_at : (l : ℕ) (v : LayerValue) (place : ℕ) (job : JobValue) → slice_get order.layers l ≡ Some v → slice_get (of_layer (l, v)) place ≡ Some job → slice_get jobs (start of_layer (enumerate_from 0 order.layers) l + place) ≡ Some job
  job_at l v place job there e = flat_at of_layer (enumerate_from 0 order.layers) l (l, v) place job (numbered_here l v there) e

  -- a job has a place of a part
  pub record HasPiece (part : FramePart) (x y : ℕ) : Type 0 where
    pub number : ℕ
    pub job : JobValue
    pub is : slice_get jobs number ≡ Some job
    pub piece : FramePart
    pub of : Contains job.parts piece
    pub node : piece.node ≡ part.node
    pub place : HasPlace piece.rect x y

  pub wide_has : (part : FramePart) (v : LayerValue) → Contains all part → slice_get order.layers (layer_of part) ≡ Some v → part.rule < length t.rules → is_wide_rule t part.rule ≡ true → (x y : ℕ) → HasPlace part.rect x y → HasPiece part x y
  wide_has part v h there below wide x y place =
      let l = layer_of part in
      let parts = in_layer order all l in
      let same = eq-eqb part.rule part.rule refl in
      let listed : Contains (wides_in l) part.rule = in_filter (λ k. is_wide_rule t k && list_any (λ (q : FramePart). q.rule == k) parts) (range_with_len 0 (length t.rules)) part.rule (in_range (length t.rules) part.rule below)
      (both (is_wide_rule t part.rule) (list_any (λ (q : FramePart). q.rule == part.rule) parts) wide (any_in (λ (q : FramePart). q.rule == part.rule) parts part (in_own part h) same)) in
      let m = at_in (wides_in l) part.rule listed in
      let job = wide_job l parts part.rule in
      let early : m.0 < length (wide_jobs l) = omega (arith, inside (wides_in l) m.0 part.rule m.1, length-map (wides_in l) (wide_job l parts)) in
      record {
        number = start of_layer (enumerate_from 0 order.layers) l + m.0;
        job = job;
        is = job_at l v m.0 job there (get_left (wide_jobs l) (block_jobs l v) m.0 early ∙ at_map (wide_job l parts) (wides_in l) m.0 part.rule m.1);
        piece = part;
        of = in_filter (λ (q : FramePart). q.rule == part.rule) parts part (in_own part h) same;
        node = refl;
        place = place;
      }

  pub block_has : (part : FramePart) (v : LayerValue) → Contains all part → slice_get order.layers (layer_of part) ≡ Some v → is_cell_rule t part.rule ≡ true → (x y : ℕ) → HasPlace part.rect x y → HasPiece part x y
  block_has part v h there cell x y place =
      let l = layer_of part in
      let parts = in_layer order all l in
      let own = in_own part h in
      let reach = squares_reach v grain parts part own x y place in
      let sq = reach.0 in
      let here = in_cut sq part.rect x y reach.2 place in
      let job = block_job t l parts sq in
      let is_part : is_block_part t sq part ≡ true = both (is_cell_rule t part.rule) (has_place (cut_by sq part.rect)) cell (place_some (cut_by sq part.rect) x y here) in
      let listed : Contains (blocks t v grain parts) sq = in_filter (has_block t parts) (squares v grain parts) sq reach.1 (any_in (is_block_part t sq) parts part own is_part) in
      let m = at_in (blocks t v grain parts) sq listed in
      record {
        number = start of_layer (enumerate_from 0 order.layers) l + (length (wide_jobs l) + m.0);
        job = job;
        is = job_at l v (length (wide_jobs l) + m.0) job there (get_right (wide_jobs l) (block_jobs l v) m.0 ∙ at_map (block_job t l parts) (blocks t v grain parts) m.0 sq m.1);
        piece = within sq part;
        of = in_map (within sq) (filter (is_block_part t sq) parts) part (in_filter (is_block_part t sq) parts part own is_part);
        node = refl;
        place = here;
      }

  -- of two blocks of a layer that aren't one, the one with the smaller number precedes
  pub block_order : (l : ℕ) (v : LayerValue) (m n : ℕ) (a b : Rect) → slice_get (blocks t v grain (in_layer order all l)) m ≡ Some a → slice_get (blocks t v grain (in_layer order all l)) n ≡ Some b → m < n → Precedes v.cut_x v.cut_y a b
  block_order l v m n a b e f less =
      let parts = in_layer order all l in
      ordered_at (Precedes v.cut_x v.cut_y) (blocks t v grain parts) (ordered_filter (Precedes v.cut_x v.cut_y) (has_block t parts) (squares v grain parts) (squares_ordered v grain parts)) m n a b e f less

  -- blocks that share a place are one
  one_block : (l : ℕ) (v : LayerValue) (m n : ℕ) (a b : Rect) → slice_get (blocks t v grain (in_layer order all l)) m ≡ Some a → slice_get (blocks t v grain (in_layer order all l)) n ≡ Some b → (x y : ℕ) → HasPlace a x y → HasPlace b x y → m ≡ n
  one_block l v m n a b e f x y here there = ⊎_elim
      (λ less. absurd (apart a b here there (block_order l v m n a b e f less)))
      (λ more. ⊎_elim (λ less. absurd (apart b a there here (block_order l v n m b a f e less))) (λ most. omega (arith, more, most)) (cases_lt n m))
      (cases_lt m n)
    where
      apart : (a b : Rect) → HasPlace a x y → HasPlace b x y → Precedes v.cut_x v.cut_y a b → ⊥
      apart a b h g (inl ahead) = none_ahead v.cut_x (a.x0, a.x1) (b.x0, b.x1) x h.left h.right g.left g.right ahead
      apart a b h g (inr ahead) = none_ahead v.cut_y (a.y0, a.y1) (b.y0, b.y1) y h.low h.high g.low g.high ahead

  not_both : (k : ℕ) → is_wide_rule t k ≡ true → is_cell_rule t k ≡ true → ⊥
  not_both k wide cell = by (slice_get t.rules k) wide cell
    where
      flip : (b : Bool) → b ≡ true → not b ≡ true → ⊥
      flip true e f = cc
      flip false e f = cc

      by : (o : Option ProgRule) → option_map_or (λ (r : ProgRule). is_wide r.kind) o false ≡ true → option_map_or (λ (r : ProgRule). not (is_wide r.kind)) o false ≡ true → ⊥
      by None e f = cc
      by (Some r) e f = flip (is_wide r.kind) e f

  rule_of_wide : (l place : ℕ) (job : JobValue) (k : ℕ) → IsWideAt l place job k → job.rule ≡ Some k
  rule_of_wide l place job k w = ap (λ (b : JobValue). b.rule) w.1

  rule_of_block : (l : ℕ) (v : LayerValue) (place : ℕ) (job : JobValue) → IsBlockAt l v place job → job.rule ≡ None
  rule_of_block l v place job b = ap (λ (c : JobValue). c.rule) b.same

  lies_at : (outer inner : Rect) (x y : ℕ) → LiesIn outer inner → HasPlace inner x y → HasPlace outer x y
  lies_at outer inner x y h g = record { left = omega (arith, h.left, g.left); right = omega (arith, h.right, g.right); low = omega (arith, h.low, g.low); high = omega (arith, h.high, g.high) }

  module _ (i j : ℕ) (a b : JobValue) (ea : slice_get jobs i ≡ Some a) (eb : slice_get jobs j ≡ Some b) (mine other : FramePart) (ha : Contains a.parts mine) (hb : Contains b.parts other) (node : mine.node ≡ other.node) (rule : mine.rule ≡ other.rule) (x y : ℕ) (here : HasPlace mine.rect x y) (there : HasPlace other.rect x y) where
    p : IsPlaced i a
    p = placed i a ea

    q : IsPlaced j b
    q = placed j b eb

    of_a : IsPartOf (p).layer a.rule mine
    of_a = part_of i a (p) mine ha

    of_b : IsPartOf (q).layer b.rule other
    of_b = part_of j b (q) other hb

    layer : (p).layer ≡ (q).layer
    layer = sym (of_a).layer ∙ ap (slice_index order.layer) node ∙ (of_b).layer

    value : (p).value ≡ (q).value
    value = some_same (p).value (q).value (sym (p).there ∙ ap (slice_get order.layers) (layer) ∙ (q).there)

    places : ((k : ℕ) × IsWideAt (p).layer (p).place a k) ⊎ IsBlockAt (p).layer (p).value (p).place a → ((k : ℕ) × IsWideAt (q).layer (q).place b k) ⊎ IsBlockAt (q).layer (q).value (q).place b → (p).place ≡ (q).place
    places (inl (k, w)) (inl (m, z)) =
        let same : k ≡ m = sym ((of_a).wide k (rule_of_wide (p).layer (p).place a k w)).0 ∙ rule ∙ ((of_b).wide m (rule_of_wide (q).layer (q).place b m z)).0 in
        rises_one (λ (n : ℕ). n) (wides_in (q).layer) (rises_filter (λ (n : ℕ). n) (λ k. is_wide_rule t k && list_any (λ (r : FramePart). r.rule == k) (in_layer order all (q).layer)) (range_with_len 0 (length t.rules)) (rises_range 0 (length t.rules))) (p).place (q).place k m (subst (λ l. slice_get (wides_in l) (p).place ≡ Some k) (layer) w.0) z.0 same
    places (inr w) (inr z) =
        let blocks_of = λ (l : ℕ) (v : LayerValue). blocks t v grain (in_layer order all l) in
        let is_w : slice_get (blocks_of (q).layer (q).value) w.number ≡ Some w.square = ap (λ n. slice_get (blocks_of n (q).value) w.number) (sym (layer)) ∙ ap (λ v. slice_get (blocks_of (p).layer v) w.number) (sym (value)) ∙ w.is in
        let number = one_block (q).layer (q).value w.number z.number w.square z.square is_w z.is x y (lies_at w.square mine.rect x y (in_square (p).layer (p).value (p).place a w mine ha) here) (lies_at z.square other.rect x y (in_square (q).layer (q).value (q).place b z other hb) there) in
        omega (arith, w.at, z.at, number, ap (λ l. length (wides_in l)) (layer))
    places (inl (k, w)) (inr z) = absurd (let of = (of_a).wide k (rule_of_wide (p).layer (p).place a k w) in not_both other.rule (subst (λ n. is_wide_rule t n ≡ true) (sym of.0 ∙ rule) of.1) ((of_b).cell (rule_of_block (q).layer (q).value (q).place b z)))
    places (inr w) (inl (m, z)) = absurd (let of = (of_b).wide m (rule_of_wide (q).layer (q).place b m z) in not_both mine.rule (subst (λ n. is_wide_rule t n ≡ true) (sym of.0 ∙ sym rule) of.1) ((of_a).cell (rule_of_block (p).layer (p).value (p).place a w)))

    pub one_job : i ≡ j
    one_job = same_place i j a b (p) (q) (layer) (places (kind_of i a (p)) (kind_of j b (q)))

  -- the parts of a job rise by their segments
  pub rising_parts : Rises (λ (part : FramePart). part.node) all → (j : ℕ) (job : JobValue) → slice_get jobs j ≡ Some job → Rises (λ (part : FramePart). part.node) job.parts
  rising_parts h j job e = by (placed j job e) (kind_of j job (placed j job e))
    where
      own : (l : ℕ) → Rises (λ (part : FramePart). part.node) (in_layer order all l)
      own l = rises_filter (λ (part : FramePart). part.node) (is_in_layer order l) all h

      by : (p : IsPlaced j job) → ((k : ℕ) × IsWideAt p.layer p.place job k) ⊎ IsBlockAt p.layer p.value p.place job → Rises (λ (part : FramePart). part.node) job.parts
      by p (inl (k, w)) = subst (λ (b : JobValue). Rises (λ (part : FramePart). part.node) b.parts) (sym w.1) (rises_filter (λ (part : FramePart). part.node) (λ (q : FramePart). q.rule == k) (in_layer order all p.layer) (own p.layer))
      by p (inr b) = subst (λ (c : JobValue). Rises (λ (part : FramePart). part.node) c.parts) (sym b.same)
          (rises_map (λ (part : FramePart). part.node) (λ (part : FramePart). part.node) (within b.square) (λ x. refl) (filter (is_block_part t b.square) (in_layer order all p.layer))
          (rises_filter (λ (part : FramePart). part.node) (is_block_part t b.square) (in_layer order all p.layer) (own p.layer)))
