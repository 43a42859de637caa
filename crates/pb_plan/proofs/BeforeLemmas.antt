-- What a job reads is made by jobs before it.
use Rattle.std.proofs.Common.{◌≡◌, ◌∙◌, refl, sym, ap, subst, inl, inr, ◌⊎◌, ⊎_elim, ℕ, zero, suc, ◌<◌, ◌≤◌, pos, Bool, true, false, ◌&&◌, ◌||◌, List, [], ◌∷◌, length, map, slice_get, slice_index, Option, Some, None, arith}
use Rattle.std.specs.Prelude.{◌==◌, slice_index_or}
use Rattle.std.specs.List.{Contains, enumerate_from, flat_map, list_any, range_with_len}
use Rattle.std.specs.Option.{option_map_or}
use Rattle.std.proofs.lemmas.Bool.{and_parts, cases_lt, eq-eqb, eqb-true}
use Rattle.std.proofs.lemmas.Option.{slice_get_within}
use Rattle.pb_linear.specs.VForm.{InArea}
use Rattle.pb_values.specs.Views.{HasPlace}
use Rattle.pb_values.specs.declared.rect.Rect.{Rect}
use Rattle.pb_linear.specs.declared.boxes.ReadBox.{ReadBox}
use Rattle.pb_graph.specs.Nodes.{NodeValue}
use Rattle.pb_graph.specs.Layerings.{LayerValue}
use Rattle.pb_graph.specs.Ranks.{ApartOn, IsHandled, IsServed, Rank}
use Rattle.pb_program.specs.Areas.{Area, IsIn, area_of}
use Rattle.pb_program.specs.Configs.{ConfigValue, IsValid}
use Rattle.pb_program.specs.Forms.{DeclValue}
use Rattle.pb_program.specs.Trees.{ProgRule, ProgTransform}
use Rattle.pb_program.specs.declared.view.Read.{Read}
use Rattle.pb_region.specs.Boxes.{is_wide}
use Rattle.pb_base.proofs.ListLemmas.{filter_in, flat_in, in_at, in_filter, in_flat, in_head, in_map, in_none, in_tail, map_in}
use Rattle.pb_model.specs.Cells.{Cell, ReadsCell}
use Rattle.pb_model.specs.Chosen.{chosen_rule}
use Rattle.pb_model.proofs.LawfulLemmas.{in_lawful}
use Rattle.pb_check.specs.Orders.{AnalysisValue}
use Rattle.pb_check.specs.Ranked.{HasRank, IsMadeCell, StandsBelow}
use Rattle.pb_check.proofs.FirstLemmas.{some_same}
use Rattle.pb_check.proofs.RankedLemmas.{lawful_among}
use Rattle.pb_check.proofs.WaitLemmas.{chosen_falls}
use Rattle.pb_frame.specs.Choices.{IsInstance}
use Rattle.pb_frame.specs.Frames.{JobValue, blocks, chosen_wides, corner_of, has_place, in_layer, is_wide_rule, parts_of as parts_for, rect_of}
use Rattle.pb_frame.specs.declared.part.FramePart.{FramePart}
use Rattle.pb_frame.proofs.SpanLemmas.{Precedes}
use Rattle.pb_frame.proofs.PartLemmas.{corner_in, corner_made, held_area, in_node, made_in, nodes_are, of_part}
use Rattle.pb_links.specs.Links.{predecessors}
use Rattle.pb_links.specs.Spots.{HasSpot, PlacesValue, boxes_of, parts_of}
use Rattle.pb_links.specs.declared.places.Spot.{Spot}
use Rattle.pb_links.proofs.LawLemmas.{before-shares}
use Rattle.pb_plan.specs.Boxes.{boxes_by, part_area, part_box, part_boxes, places_of, rect_from, shown_at, spot_of, whole_box, whole_boxes}
use Rattle.pb_plan.specs.Made.{IsMadeBefore, IsMadeBy, jobs_for}
use Rattle.pb_plan.proofs.FlatLemmas.{start}
use Rattle.pb_plan.proofs.JobLemmas.{IsBlockAt, IsPlaced, IsWideAt, at_map, block_order, earlier_layer, in_square, kind_of, map_at, of_layer, part_of, placed, same_place}
use Rattle.pb_plan.proofs.MadeLemmas.{chosen, held_whole, made_by, made_cell, made_rule}
use Rattle.pb_plan.proofs.PieceLemmas.{IsPiece, LiesIn, tall_wide}
use Rattle.pb_plan.proofs.ReadingLemmas.{is_handled, reading, wide_handled}
use Rattle.pb_plan.proofs.SpreadLemmas.{EndsWith, IsSpread, NotPast, covers, in_rect, not_apart, not_past_x, not_past_y, part_ends, part_spread, past_none, rect_in, shown_is, whole_spread}
use Rattle.pb_plan.proofs.WideLemmas.{shown_same}

-- ---- what is in lists of lists and under options
in_index : {A : Type 0} (xss : List (List A)) (u : ℕ) (s : A) → Contains (slice_index_or xss u []) s → (xs : List A) × (slice_get xss u ≡ Some xs) × Contains xs s
in_index [] u s h = absurd (in_none s h)
in_index (xs ∷ xss) zero s h = (xs, refl, h)
in_index (xs ∷ xss) (suc u) s h = in_index xss u s h

index_in : {A : Type 0} (xss : List (List A)) (u : ℕ) (xs : List A) (s : A) → slice_get xss u ≡ Some xs → Contains xs s → Contains (slice_index_or xss u []) s
index_in [] u xs s e h = absurd (cc)
index_in (ys ∷ xss) zero xs s e h = subst (λ l. Contains l s) (sym (some_same ys xs e)) h
index_in (ys ∷ xss) (suc u) xs s e h = index_in xss u xs s e h

in_option : {A B : Type 0} (f : A → List B) (o : Option A) (s : B) → Contains (option_map_or f o []) s → (r : A) × (o ≡ Some r) × Contains (f r) s
in_option f None s h = absurd (in_none s h)
in_option f (Some r) s h = (r, refl, h)

some_any : {A : Type 0} (p : A → Bool) (xs : List A) → list_any p xs ≡ true → (x : A) × Contains xs x × (p x ≡ true)
some_any p [] e = absurd (cc)
some_any p (x ∷ xs) e = by (p x) refl e (some_any p xs)
  where
    by : (b : Bool) → p x ≡ b → (b || list_any p xs) ≡ true → (list_any p xs ≡ true → (y : _) × Contains xs y × (p y ≡ true)) → (y : _) × Contains (x ∷ xs) y × (p y ≡ true)
    by true h e rest = (x, in_head x xs, h)
    by false h e rest = let r = rest e in (r.0, in_tail x r.0 xs r.1, r.2)

module _ (config : ConfigValue) (number : ℕ) (t : ProgTransform) (a : AnalysisValue) (sizes : List ℕ) (grain : ℕ) (i : IsInstance number t a sizes) (valid : IsValid i.program config) where
  abbrev pub jobs : List JobValue
  jobs = jobs_for config number t a sizes grain

  abbrev pub parts : List FramePart
  parts = parts_for config number t sizes a.nodes

  abbrev pub places : List PlacesValue
  places = map (places_of t a.nodes sizes) jobs

  -- ---- the parts and boxes of jobs
  pub part_at : (u : ℕ) (s : Spot) → Contains (parts_of places u) s → (job : JobValue) × (slice_get jobs u ≡ Some job) × (part : FramePart) × Contains job.parts part × (spot_of a.nodes part ≡ s)
  unfolding parts_of
  part_at u s h =
      let l = in_index (map (λ (task : PlacesValue). task.parts) places) u s h in
      let p = map_at (λ (task : PlacesValue). task.parts) places u l.0 l.1 in
      let j = map_at (places_of t a.nodes sizes) jobs u p.0 p.1 in
      let here : Contains (map (spot_of a.nodes) j.0.parts) s = subst (λ (xs : List Spot). Contains xs s) (sym (ap (λ (w : PlacesValue). w.parts) j.2 ∙ p.2)) l.2 in
      let part = map_in (spot_of a.nodes) j.0.parts s here in
      (j.0, j.1, part.0, part.1, part.2)

  pub box_at : (u : ℕ) (s : Spot) → Contains (boxes_of places u) s → (job : JobValue) × (slice_get jobs u ≡ Some job) × Contains (boxes_by t sizes job.rule job.parts) s
  unfolding boxes_of
  box_at u s h =
      let l = in_index (map (λ (task : PlacesValue). task.boxes) places) u s h in
      let p = map_at (λ (task : PlacesValue). task.boxes) places u l.0 l.1 in
      let j = map_at (places_of t a.nodes sizes) jobs u p.0 p.1 in
      (j.0, j.1, subst (λ (xs : List Spot). Contains xs s) (sym (ap (λ (w : PlacesValue). w.boxes) j.2 ∙ p.2)) l.2)

  pub at_part : (u : ℕ) (job : JobValue) (part : FramePart) → slice_get jobs u ≡ Some job → Contains job.parts part → Contains (parts_of places u) (spot_of a.nodes part)
  unfolding parts_of
  at_part u job part e h =
      index_in (map (λ (task : PlacesValue). task.parts) places) u (map (spot_of a.nodes) job.parts) (spot_of a.nodes part)
      (at_map (λ (task : PlacesValue). task.parts) places u (places_of t a.nodes sizes job) (at_map (places_of t a.nodes sizes) jobs u job e)) (in_map (spot_of a.nodes) job.parts part h)

  pub at_box : (u : ℕ) (job : JobValue) (s : Spot) → slice_get jobs u ≡ Some job → Contains (boxes_by t sizes job.rule job.parts) s → Contains (boxes_of places u) s
  unfolding boxes_of
  at_box u job s e h =
      index_in (map (λ (task : PlacesValue). task.boxes) places) u (boxes_by t sizes job.rule job.parts) s
      (at_map (λ (task : PlacesValue). task.boxes) places u (places_of t a.nodes sizes job) (at_map (places_of t a.nodes sizes) jobs u job e)) h

  -- ---- the segment of a part, and what is so of its cells
  pub home : (j : ℕ) (job : JobValue) → slice_get jobs j ≡ Some job → (part : FramePart) → Contains job.parts part → IsPiece parts part
  home j job e part h = (part_of t a.order grain parts j job (placed t a.order grain parts j job e) part h).piece

  -- the segment of a piece
  pub node_of : (part : FramePart) → IsPiece parts part → (n : NodeValue) × (slice_get a.nodes part.node ≡ Some n)
  node_of part h = let f = of_part number t a sizes i config h.whole h.among in (f.0, ap (slice_get a.nodes) (sym h.node) ∙ f.1)

  pub place_in : (part : FramePart) (h : IsPiece parts part) (n : NodeValue) → slice_get a.nodes part.node ≡ Some n → (x y : ℕ) → HasPlace part.rect x y → InArea n.area sizes (pos x) (pos y)
  place_in part h n there x y place =
      let f = of_part number t a sizes i config h.whole h.among in
      let rect : h.whole.rect ≡ rect_of n sizes = ap (λ (q : FramePart). q.rect) f.3 ∙ ap (λ (m : NodeValue). rect_of m sizes) (some_same f.0 n (sym f.1 ∙ ap (slice_get a.nodes) h.node ∙ there)) in
      let inside = subst (λ r. HasPlace r x y) rect (h.inside x y place) in
      in_node number t a sizes i part.node n there x y inside.left inside.right inside.low inside.high

  -- the part's rule is among those of its segment
  whole_rules : (part : FramePart) (h : Contains parts part) (n : NodeValue) → slice_get a.nodes part.node ≡ Some n → (r : ProgRule) → slice_get t.rules part.rule ≡ Some r → Contains n.rules part.rule
  whole_rules part h n there r rule =
      let f = of_part number t a sizes i config part h in
      let corner = corner_of f.0 sizes in
      let made = corner_made number t a sizes i part.node f.0 f.1 f.2 in
      let law = chosen config number t a sizes grain i valid corner made in
      let is : part.rule ≡ chosen_rule config number t sizes corner = ap (λ (q : FramePart). q.rule) f.3 in
      let node : f.0 ≡ n = some_same f.0 n (sym f.1 ∙ there) in
      subst (λ (m : NodeValue). Contains m.rules part.rule) node (subst (Contains f.0.rules) (sym is)
      (lawful_among i.program number t sizes i.well_formed i.sound i.there corner made.cell a.nodes (nodes_are number t a sizes i) part.node (record { node = f.0; there = f.1; matrix = refl; inside = corner_in number t a sizes i part.node f.0 f.1 f.2 }) (chosen_rule config number t sizes corner) (in_lawful t sizes corner (chosen_rule config number t sizes corner) law)))

  pub among_rules : (part : FramePart) (h : IsPiece parts part) (n : NodeValue) → slice_get a.nodes part.node ≡ Some n → (r : ProgRule) → slice_get t.rules part.rule ≡ Some r → Contains n.rules part.rule
  among_rules part h n there r rule = subst (Contains n.rules) h.rule (whole_rules h.whole h.among n (ap (slice_get a.nodes) h.node ∙ there) r (ap (slice_get t.rules) h.rule ∙ rule))

  -- ---- a box of a job, by a part whose cells read it
  pub record Boxed (job : JobValue) (s : Spot) : Type 0 where
    pub part : FramePart
    pub of : Contains job.parts part
    pub rule : ProgRule
    pub there : slice_get t.rules part.rule ≡ Some rule
    pub read : Read
    pub declared : Contains rule.reads read
    pub area : Area
    pub is : s ≡ record { base = read.matrix; rect = rect_from area }
    pub spread : (d : DeclValue) → slice_get t.matrices read.matrix ≡ Some d → (n : NodeValue) → slice_get a.nodes part.node ≡ Some n → IsSpread sizes n.area read d area
    pub kind : ((job.rule ≡ None) × ((d : DeclValue) → slice_get t.matrices read.matrix ≡ Some d → (n : NodeValue) → slice_get a.nodes part.node ≡ Some n → EndsWith sizes n.area read d part.rect area)) ⊎ (is_wide rule.kind ≡ true)

  pub some_places : (part : FramePart) → IsPiece parts part → (part.rect.x0 < part.rect.x1) × (part.rect.y0 < part.rect.y1)
  some_places part h = let f = of_part number t a sizes i config h.whole h.among in tall_wide part.rect (h.some (ap (λ (q : FramePart). has_place q.rect) f.3 ∙ f.2))

  part_boxed : (j : ℕ) (job : JobValue) (e : slice_get jobs j ≡ Some job) → job.rule ≡ None → (s : Spot) → Contains (flat_map (part_boxes t sizes) job.parts) s → Boxed job s
  part_boxed j job e none s h =
      let f = flat_in (part_boxes t sizes) job.parts s h in
      let part = f.0 in
      let own = home j job e part f.1 in
      let r = in_option (λ (rule : ProgRule). map (part_box t.matrices sizes part.rect) rule.reads) (slice_get t.rules part.rule) s f.2 in
      let q = map_in (part_box t.matrices sizes part.rect) r.0.reads s r.2 in
      let some = some_places part own in
      record {
        part = part;
        of = f.1;
        rule = r.0;
        there = r.1;
        read = q.0;
        declared = q.1;
        area = part_area t.matrices sizes part.rect q.0;
        is = sym q.2;
        spread = λ d decl n there. part_spread t.matrices sizes q.0 d decl n.area part.rect some.0 some.1 (place_in part own n there);
        kind = inl (none, λ d decl n there. part_ends t.matrices sizes q.0 d decl n.area part.rect some.0 some.1 (place_in part own n there));
      }

  -- a job of a rule has a part
  pub first_part : (j : ℕ) (job : JobValue) → slice_get jobs j ≡ Some job → (k : ℕ) → job.rule ≡ Some k → (part : FramePart) × Contains job.parts part
  first_part j job e k some = first (placed t a.order grain parts j job e) (kind_of t a.order grain parts j job (placed t a.order grain parts j job e))
    where
      first : (p : IsPlaced t a.order grain parts j job) → ((m : ℕ) × IsWideAt t a.order grain parts p.layer p.place job m) ⊎ IsBlockAt t a.order grain parts p.layer p.value p.place job → (part : FramePart) × Contains job.parts part
      first p (inl w) =
          let m = w.0 in
          let here = in_layer a.order parts p.layer in
          let test = filter_in (λ n. is_wide_rule t n && list_any (λ (q : FramePart). q.rule == n) here) (range_with_len 0 (length t.rules)) m (in_at (chosen_wides t here) p.place m w.1.0) in
          let found = some_any (λ (q : FramePart). q.rule == m) here (and_parts (is_wide_rule t m) (list_any (λ (q : FramePart). q.rule == m) here) test.1).1 in
          (found.0, subst (λ (b : JobValue). Contains b.parts found.0) (sym w.1.1) (in_filter (λ (q : FramePart). q.rule == m) here found.0 found.1 found.2))
      first p (inr b) = absurd (let no : Some k ≡ None = sym some ∙ ap (λ (c : JobValue). c.rule) b.same in cc)

  whole_boxed : (j : ℕ) (job : JobValue) (e : slice_get jobs j ≡ Some job) (k : ℕ) → job.rule ≡ Some k → (s : Spot) → Contains (whole_boxes t sizes k) s → Boxed job s
  whole_boxed j job e k some s h =
      let r = in_option (λ (rule : ProgRule). map (whole_box t.matrices sizes) rule.reads) (slice_get t.rules k) s h in
      let q = map_in (whole_box t.matrices sizes) r.0.reads s r.2 in
      let part = first_part j job e k some in
      let of = part_of t a.order grain parts j job (placed t a.order grain parts j job e) part.0 part.1 in
      let same = of.wide k some in
      let wide : is_wide r.0.kind ≡ true = sym (ap (λ o. option_map_or (λ (p : ProgRule). is_wide p.kind) o false) r.1) ∙ same.1 in
      record {
        part = part.0;
        of = part.1;
        rule = r.0;
        there = ap (slice_get t.rules) same.0 ∙ r.1;
        read = q.0;
        declared = q.1;
        area = shown_at t.matrices sizes q.0 0 0;
        is = sym q.2;
        spread = λ d decl n there.
            let places = some_places part.0 of.piece in
            let x = part.0.rect.x0 in
            let y = part.0.rect.y0 in
            whole_spread t.matrices sizes q.0 d decl n.area (pos x) (pos y) (place_in part.0 of.piece n there x y (record { left = omega arith; right = omega (arith, places.0); low = omega arith; high = omega (arith, places.1) }))
            (shown_same i.program number t i.well_formed i.sound i.there k r.0 r.1 wide q.0 d q.1 sizes (pos 0) (pos 0) (pos x) (pos y));
        kind = inr wide;
      }

  pub boxed : (j : ℕ) (job : JobValue) → slice_get jobs j ≡ Some job → (s : Spot) → Contains (boxes_by t sizes job.rule job.parts) s → Boxed job s
  boxed j job e s h = by job.rule refl h
    where
      by : (o : Option ℕ) → job.rule ≡ o → Contains (boxes_by t sizes o job.parts) s → Boxed job s
      by None none h = part_boxed j job e none s h
      by (Some k) some h = whole_boxed j job e k some s h

  -- ---- a predecessor stands before
  -- a place of a segment isn't past a part of a block of the segment's layer, on the axes that can be cut
  pub record StandsNear (l : ℕ) (part : FramePart) (x y : ℕ) : Type 0 where
    pub layer : LayerValue
    pub there : slice_get a.order.layers l ≡ Some layer
    pub near_x : NotPast layer.cut_x part.rect.x0 part.rect.x1 x
    pub near_y : NotPast layer.cut_y part.rect.y0 part.rect.y1 y

  abbrev pub IsLowerOrNear : JobValue → ℕ → FramePart → ℕ → ℕ → Type 0
  IsLowerOrNear job v part x y =
      (slice_index a.order.layer v < slice_index a.order.layer part.node) ⊎ ((job.rule ≡ None) × (slice_index a.order.layer v ≡ slice_index a.order.layer part.node) × StandsNear (slice_index a.order.layer part.node) part x y)

  conclude : {E : Type 0} (job : JobValue) (rule : ProgRule) (v : ℕ) (part : FramePart) (n m : NodeValue) (box : ReadBox) (x y : ℕ) → (is_wide rule.kind ≡ true → box.wide ≡ true) → ((job.rule ≡ None) × E) ⊎ (is_wide rule.kind ≡ true) → IsHandled a.order sizes part.node v n m box
      → (box.wide ≡ true → (ApartOn n.area box sizes m.area 0 ⊎ ApartOn n.area box sizes m.area 1) ⊎ (slice_index a.order.layer v < slice_index a.order.layer part.node)) → ((ApartOn n.area box sizes m.area 0 ⊎ ApartOn n.area box sizes m.area 1) → ⊥)
      → (E → (layer : LayerValue) → slice_get a.order.layers (slice_index a.order.layer part.node) ≡ Some layer → IsServed n.area box sizes layer → StandsNear (slice_index a.order.layer part.node) part x y) → IsLowerOrNear job v part x y
  conclude job rule v part n m box x y same kind (inl apart) wide none near = absurd (none apart)
  conclude job rule v part n m box x y same kind (inr (inl lower)) wide none near = inl lower
  conclude job rule v part n m box x y same (inl block) (inr (inr served)) wide none near = inr (block.0, served.1, near block.1 served.0 served.2 served.3)
  conclude job rule v part n m box x y same (inr w) (inr (inr served)) wide none near = ⊎_elim (λ apart. absurd (none apart)) (λ lower. inl lower) (wide (same w))

  -- a job that makes a cell, at a place of a box of another, is of a lower layer; or the other is a block of the same layer, and
  -- the cell isn't past it
  pub lower_or_near : (j : ℕ) (job : JobValue) (e : slice_get jobs j ≡ Some job) (s : Spot) (b : Boxed job s) (v : ℕ) (m : NodeValue) → slice_get a.nodes v ≡ Some m → s.base ≡ m.matrix → (x y : ℕ) → HasPlace s.rect x y → InArea m.area sizes (pos x) (pos y)
      → IsLowerOrNear job v b.part x y
  lower_or_near j job e s b v m at_m base x y place inside =
      let own = home j job e b.part b.of in
      let f = node_of b.part own in
      let n = f.0 in
      let may = among_rules b.part own n f.1 b.rule b.there in
      let cell = made_in number t a sizes i v m at_m x y inside in
      let of : m.matrix ≡ b.read.matrix = sym base ∙ ap (λ (z : Spot). z.base) b.is in
      let decl : slice_get t.matrices b.read.matrix ≡ Some cell.cell.decl = ap (slice_get t.matrices) (sym of) ∙ cell.cell.there in
      let r = reading number t a sizes i b.part.node n f.1 b.part.rule b.rule b.there may b.read cell.cell.decl b.declared decl v m at_m of (subst (λ k. t.inputs ≤ k) of cell.made) in
      let spread = b.spread cell.cell.decl decl n f.1 in
      let here = rect_in b.area x y (subst (λ (z : Spot). HasPlace z.rect x y) b.is place) in
      let apart = not_apart sizes n.area b.read cell.cell.decl b.area spread r.box r.ends m.area in
      conclude job b.rule v b.part n m r.box x y (λ w. r.wide ∙ w) b.kind (is_handled number t a sizes i b.part.node v n m r.box r.of) (λ w. wide_handled number t a sizes i b.part.node v n m r.box r.of w) (λ h. apart h (pos x) (pos y) here inside)
      (λ ends layer there served.
      let with_r = ends cell.cell.decl decl n f.1 in
      record {
        layer = layer;
        there = there;
        near_x = not_past_x sizes n.area b.read cell.cell.decl b.part.rect b.area with_r r.box r.ends x y here layer.cut_x served.not_after_x;
        near_y = not_past_y sizes n.area b.read cell.cell.decl b.part.rect b.area with_r r.box r.ends x y here layer.cut_y served.not_after_y;
      })

  -- of two jobs of a layer a block stands last, if the other has a place that isn't past it
  module _ (u j : ℕ) (c d : JobValue) (p : IsPlaced t a.order grain parts u c) (q : IsPlaced t a.order grain parts j d) (layer : p.layer ≡ q.layer) (none : d.rule ≡ None) (mine other : FramePart) (of_c : Contains c.parts other) (of_d : Contains d.parts mine) (x y : ℕ) (place : HasPlace other.rect x y) (near : StandsNear q.layer mine x y) where
    starts : start (of_layer t a.order grain parts) (enumerate_from 0 a.order.layers) p.layer ≡ start (of_layer t a.order grain parts) (enumerate_from 0 a.order.layers) q.layer
    starts = ap (start (of_layer t a.order grain parts) (enumerate_from 0 a.order.layers)) layer

    wides : length (chosen_wides t (in_layer a.order parts p.layer)) ≡ length (chosen_wides t (in_layer a.order parts q.layer))
    wides = ap (λ l. length (chosen_wides t (in_layer a.order parts l))) layer

    near_value : near.layer ≡ q.value
    near_value = some_same near.layer q.value (sym near.there ∙ q.there)

    same_value : p.value ≡ q.value
    same_value = some_same p.value q.value (sym p.there ∙ ap (slice_get a.order.layers) layer ∙ q.there)

    -- the block doesn't precede the other
    not_first : (mine_at other_at : Rect) → LiesIn mine_at mine.rect → LiesIn other_at other.rect → Precedes q.value.cut_x q.value.cut_y mine_at other_at → ⊥
    not_first r s h g (inl ahead) = past_none q.value.cut_x (r.x0, r.x1) (s.x0, s.x1) mine.rect.x0 mine.rect.x1 x (omega (arith, g.left, place.left)) (omega (arith, g.right, place.right)) h.left h.right (subst (λ (v : LayerValue). NotPast v.cut_x mine.rect.x0 mine.rect.x1 x) (near_value) near.near_x) ahead
    not_first r s h g (inr ahead) = past_none q.value.cut_y (r.y0, r.y1) (s.y0, s.y1) mine.rect.y0 mine.rect.y1 y (omega (arith, g.low, place.low)) (omega (arith, g.high, place.high)) h.low h.high (subst (λ (v : LayerValue). NotPast v.cut_y mine.rect.y0 mine.rect.y1 y) (near_value) near.near_y) ahead

    of_kinds : ((k : ℕ) × IsWideAt t a.order grain parts p.layer p.place c k) ⊎ IsBlockAt t a.order grain parts p.layer p.value p.place c → ((k : ℕ) × IsWideAt t a.order grain parts q.layer q.place d k) ⊎ IsBlockAt t a.order grain parts q.layer q.value q.place d → (u ≡ j) ⊎ (u < j)
    of_kinds w (inl z) = absurd (let e : Some z.0 ≡ None = sym (ap (λ (b : JobValue). b.rule) z.1.1) ∙ none in cc)
    of_kinds (inl w) (inr z) =
        let early : p.place < length (chosen_wides t (in_layer a.order parts p.layer)) = slice_get_within (chosen_wides t (in_layer a.order parts p.layer)) p.place w.0 w.1.0 in
        inr (omega (arith, p.at, q.at, starts, early, z.at, wides))
    of_kinds (inr w) (inr z) =
        let is_w : slice_get (blocks t q.value grain (in_layer a.order parts q.layer)) w.number ≡ Some w.square = ap (λ l. slice_get (blocks t q.value grain (in_layer a.order parts l)) w.number) (sym layer) ∙ ap (λ v. slice_get (blocks t v grain (in_layer a.order parts p.layer)) w.number) (sym (same_value)) ∙ w.is in
        let lies_w = in_square t a.order grain parts p.layer p.value p.place c w other of_c in
        let lies_z = in_square t a.order grain parts q.layer q.value q.place d z mine of_d in
        ⊎_elim
        (λ less. inr (omega (arith, p.at, q.at, starts, wides, w.at, z.at, less)))
        (λ most. ⊎_elim
        (λ more. absurd (not_first z.square w.square lies_z lies_w (block_order t a.order grain parts q.layer q.value z.number w.number z.square w.square z.is is_w more)))
        (λ least. inl (same_place t a.order grain parts u j c d p q layer (omega (arith, w.at, z.at, wides, most, least))))
        (cases_lt z.number w.number))
        (cases_lt w.number z.number)

    pub block_last : (u ≡ j) ⊎ (u < j)
    block_last = of_kinds (kind_of t a.order grain parts u c p) (kind_of t a.order grain parts j d q)

  pub own_layer : (j : ℕ) (job : JobValue) (e : slice_get jobs j ≡ Some job) (part : FramePart) → Contains job.parts part → slice_index a.order.layer part.node ≡ (placed t a.order grain parts j job e).layer
  own_layer j job e part h = (part_of t a.order grain parts j job (placed t a.order grain parts j job e) part h).layer

  pub stands_before : (j u : ℕ) → Contains (predecessors places j) u → u < j
  stands_before j u h =
      let w = (before-shares places j u).0 h in
      let makes = w.1.1.1.1 in
      let reads = w.1.1.1.2 in
      let x = w.1.1.0 in
      let y = w.1.1.1.0 in
      let p = part_at u makes.0 makes.1 in
      let own = home u p.0 p.1 p.2 p.3 in
      let f = node_of p.2 own in
      let base : makes.0.base ≡ f.0.matrix = sym (ap (λ (z : Spot). z.base) p.4) ∙ ap (λ o. option_map_or (λ (n : NodeValue). n.matrix) o 0) f.1 in
      let place = subst (λ (z : Spot). HasPlace z.rect x y) (sym p.4) makes.3 in
      let b = box_at j reads.0 reads.1 in
      let boxes = boxed j b.0 b.1 reads.0 b.2 in
      let placed_u = placed t a.order grain parts u p.0 p.1 in
      let placed_j = placed t a.order grain parts j b.0 b.1 in
      let layer_u = own_layer u p.0 p.1 p.2 p.3 in
      let layer_j = own_layer j b.0 b.1 boxes.part boxes.of in
      ⊎_elim
      (λ lower. earlier_layer t a.order grain parts u j p.0 b.0 placed_u placed_j (omega (arith, lower, layer_u, layer_j)))
      (λ near. ⊎_elim (λ equal. absurd (w.0 equal)) (λ less. less)
      (block_last u j p.0 b.0 placed_u placed_j (sym layer_u ∙ near.1 ∙ layer_j) near.0 boxes.part p.2 p.3 boxes.of x y place (subst (λ l. StandsNear l boxes.part x y) layer_j near.2)))
      (lower_or_near j b.0 b.1 reads.0 boxes p.2.node f.0 f.1 (reads.2 ∙ sym makes.2 ∙ base) x y reads.3 (place_in p.2 own f.0 f.1 x y place))

  -- ---- what is read is made before
  module _ (c shown : Cell) (j k : ℕ) (m : IsMadeBy jobs a.nodes c j k) (rule : ProgRule) (there : slice_get t.rules (chosen_rule config number t sizes c) ≡ Some rule) (reads : ReadsCell t.matrices sizes c rule shown) (made : IsMadeCell t sizes shown) where
    abbrev read : Read
    read = reads.read

    abbrev decl : DeclValue
    decl = reads.shows.decl

    of_part_rule : slice_get t.rules m.part.rule ≡ Some rule
    of_part_rule = ap (slice_get t.rules) (sym (made_rule config number t a sizes grain i c j k m)) ∙ there

    -- the job has a box with the place that is read
    box_has : (o : Option ℕ) → m.job.rule ≡ o → HasSpot (boxes_by t sizes o m.job.parts) shown.matrix shown.x shown.y
    box_has None none = (
      part_box t.matrices sizes m.part.rect read,
      in_flat (part_boxes t sizes) m.job.parts m.part (part_box t.matrices sizes m.part.rect read) (in_at m.job.parts k m.part m.has)
          (subst (λ o. Contains (option_map_or (λ (r : ProgRule). map (part_box t.matrices sizes m.part.rect) r.reads) o []) (part_box t.matrices sizes m.part.rect read)) (sym of_part_rule) (in_map (part_box t.matrices sizes m.part.rect) rule.reads read reads.declared)),
      reads.shows.same,
      in_rect (part_area t.matrices sizes m.part.rect read) shown.x shown.y (covers t.matrices sizes read decl reads.shows.there m.part.rect c.x c.y m.holds.place (pos shown.x) (pos shown.y) reads.shows.inside),
    )
    box_has (Some n) some =
        let of = part_of t a.order grain parts j m.job (placed t a.order grain parts j m.job m.is) m.part (in_at m.job.parts k m.part m.has) in
        let same = of.wide n some in
        let at : slice_get t.rules n ≡ Some rule = ap (slice_get t.rules) (sym same.0) ∙ of_part_rule in
        let wide : is_wide rule.kind ≡ true = sym (ap (λ o. option_map_or (λ (p : ProgRule). is_wide p.kind) o false) at) ∙ same.1 in
        let area : area_of sizes (pos c.x) (pos c.y) read decl ≡ shown_at t.matrices sizes read 0 0 = shown_same i.program number t i.well_formed i.sound i.there n rule at wide read decl reads.declared sizes (pos c.x) (pos c.y) (pos 0) (pos 0) ∙ sym (shown_is t.matrices sizes read decl reads.shows.there 0 0) in (
          whole_box t.matrices sizes read,
          subst (λ o. Contains (option_map_or (λ (r : ProgRule). map (whole_box t.matrices sizes) r.reads) o []) (whole_box t.matrices sizes read)) (sym at) (in_map (whole_box t.matrices sizes) rule.reads read reads.declared),
          reads.shows.same,
          in_rect (shown_at t.matrices sizes read 0 0) shown.x shown.y (subst (λ (b : Area). IsIn b (pos shown.x) (pos shown.y)) area reads.shows.inside),
        )

    boxes_have : HasSpot (boxes_of places j) shown.matrix shown.x shown.y
    boxes_have = let b = box_has m.job.rule refl in (b.0, at_box j m.job b.0 m.is b.1, b.2, b.3)

    parts_have : (u l : ℕ) (d : IsMadeBy jobs a.nodes shown u l) → HasSpot (parts_of places u) shown.matrix shown.x shown.y
    parts_have u l d = (
      spot_of a.nodes d.part,
      at_part u d.job d.part d.is (in_at d.job.parts l d.part d.has),
      ap (λ o. option_map_or (λ (n : NodeValue). n.matrix) o 0) d.holds.there ∙ d.holds.matrix,
      d.holds.place,
    )

    own_block : (u l : ℕ) (d : IsMadeBy jobs a.nodes shown u l) → u ≡ j → d.job.rule ≡ None
    own_block u l d same =
        let b = box_has m.job.rule refl in
        let boxes = boxed j m.job m.is b.0 b.1 in
        let own = home u d.job d.is d.part (in_at d.job.parts l d.part d.has) in
        let jobs_same : d.job ≡ m.job = some_same d.job m.job (sym d.is ∙ ap (slice_get jobs) same ∙ m.is) in
        ap (λ (w : JobValue). w.rule) jobs_same ∙ ⊎_elim
        (λ lower. absurd (omega (arith, lower, own_layer j m.job m.is d.part (subst (λ (w : JobValue). Contains w.parts d.part) jobs_same (in_at d.job.parts l d.part d.has)), own_layer j m.job m.is boxes.part boxes.of)))
        (λ block. block.0)
        (lower_or_near j m.job m.is b.0 boxes d.part.node d.holds.node d.holds.there (b.2 ∙ sym d.holds.matrix) shown.x shown.y b.3 (held_area config number t a sizes i own.whole shown own.among (held_whole config number t a sizes grain i d.part own shown d.holds)))

    decide : (u l : ℕ) (d : IsMadeBy jobs a.nodes shown u l) (b : Bool) → (u == j) ≡ b → Contains (predecessors places j) u ⊎ ((u ≡ j) × (d.job.rule ≡ None) × ((rank : Rank) → HasRank t a sizes c rank → StandsBelow t a sizes rank shown))
    decide u l d true e =
        let same = eqb-true u j e in
        inr (same, own_block u l d same, λ rank has. chosen_falls i.program number t a sizes config i.well_formed i.sound i.there i.found valid c rule (made_cell config number t a sizes grain i c j k m) there rank shown has reads made)
    decide u l d false e = inl ((before-shares places j u).1 (λ same. differs u j e same, (shown.matrix, (shown.x, (shown.y, parts_have u l d, boxes_have)))))
      where
        differs : (x y : ℕ) → (x == y) ≡ false → x ≡ y → ⊥
        differs x y e same = absurd (let t : true ≡ false = sym (eq-eqb x y same) ∙ e in cc)

    pub read_before : IsMadeBefore t a sizes jobs c shown j
    read_before =
        let d = made_by config number t a sizes grain i valid shown made in
        record {
          job = d.0;
          part = d.1;
          made = d.2;
          before = decide d.0 d.1 d.2 (d.0 == j) refl;
        }
