-- What is made at once in a call of the product, at sizes (n, h, n).
use Rattle.std.proofs.Common.{◌≡◌, ◌∙◌, refl, sym, ap, subst, inl, inr, ◌⊎◌, ℕ, ◌*◌, ◌≤◌, ◌<◌, ℤ, pos, negsuc, ◌≤ℤ◌, Bool, true, false, List, [], ◌∷◌, ◌++◌, length, map, filter, slice_get, slice_index, Option, Some, None, Ok, arith}
use Rattle.std.specs.Int.{div_ceil}
use Rattle.std.specs.List.{AllByRecursion, Contains, enumerate_from, list_any}
use Rattle.std.proofs.lemmas.Bool.{and_parts, cases_lt, eqb-true}
use Rattle.std.proofs.lemmas.Bool.Decides.{nat_tests}
use Rattle.std.proofs.lemmas.Int.{ints}
use Rattle.std.proofs.lemmas.Grind.{div_ceil_times}
use Rattle.std.proofs.Math.Nat.{mul-le-mul, mul-le-mul_right}
use Rattle.std.specs.Prelude.{nat_lt, ◌==◌, if◌then◌else◌}
use Rattle.std.proofs.lemmas.List.{append-nil, length-map}
use Rattle.std.proofs.lemmas.List.FromFn.{length-map-range_with_len}
use Rattle.pb_base.proofs.ListLemmas.{filter_in, flat_in, in_cases, in_head, in_none, in_tail, map_in}
use Rattle.pb_linear.specs.Form.{value}
use Rattle.pb_linear.specs.Sizes.{InRange, leasts_of}
use Rattle.pb_linear.specs.declared.boxes.Sign.{Sign}
use Rattle.pb_values.specs.declared.rect.Rect.{Rect}
use Rattle.pb_graph.specs.Layerings.{LayerValue}
use Rattle.pb_graph.specs.Nodes.{NodeValue}
use Rattle.pb_config.specs.Reading.{config_read}
use Rattle.pb_program.specs.Configs.{ConfigValue}
use Rattle.pb_model.specs.Cells.{natural}
use Rattle.pb_model.specs.Chosen.{chosen_rule}
use Rattle.pb_model.specs.Lawful.{lawful}
use Rattle.pb_calls.proofs.SideLemmas.{segment_below}
use Rattle.pb_check.specs.Ranked.{IsIn}
use Rattle.pb_check.specs.Orders.{AnalysisValue, IsAnalysis, wide_rules}
use Rattle.pb_check.proofs.RankedLemmas.{lawful_among}
use Rattle.pb_frame.specs.Choices.{IsInstance}
use Rattle.pb_frame.specs.Frames.{HoldsCell, JobValue, block_at, block_job, block_parts, block_side, blocks, chosen_wides, corner_of, greatest, has_block, has_place, in_layer, is_block_part, is_in_layer, layer_jobs, number_by, parts_of, rect_of, spans, square, squares, wide_job, within}
use Rattle.pb_frame.specs.declared.part.FramePart.{FramePart}
use Rattle.pb_plan.specs.Made.{jobs_for}
use Rattle.pb_frame.proofs.SpanLemmas.{side_serves, spans_few}
use Rattle.pb_frame.proofs.PartLemmas.{corner_in, corner_made, nodes_are, of_part, one_part}
use Rattle.pb_demo.specs.Demonstrations.{demo_config}
use Rattle.pb_demo.proofs.Accepted.{multiply_accepted}
use Rattle.pb_demo.proofs.Product.{written}
use Rattle.pb_demo.proofs.Trees.{program}
use Rattle.pb_demo_answers.proofs.Lists.{each_in, greatest_most, kept_fewer, none_kept, only_one}
use Rattle.pb_demo_runs.proofs.Choice.{chosen_is, columns_lawful, picks}
use Rattle.pb_demo_runs.proofs.Halves.{written_there}
use Rattle.pb_demo_runs.proofs.Lists.{pairs_count}
use Rattle.pb_demo_runs.proofs.Products.{well}
use Rattle.pb_demo_runs.proofs.Places.{matrix_is}

module _ (a : AnalysisValue) (is : IsAnalysis written a) (config : ConfigValue) (said : config_read (program 0) (demo_config 0) ≡ Ok config) (n h : ℕ) (some : 1 ≤ n) (few : n ≤ 256) (tall : 1 ≤ h) (low : h ≤ n) where
  abbrev pub sizes : List ℕ
  sizes = n ∷ h ∷ n ∷ []

  pub range : InRange (leasts_of written.ranges) sizes
  range = (some, omega (arith, few), (tall, omega (arith, few, low), (some, omega (arith, few), tt)))

  pub instance : IsInstance 1 written a sizes
  instance = record { program = program 0; well_formed = well; sound = multiply_accepted.sound; there = written_there; found = is; in_range = range }

  abbrev pub parts : List FramePart
  parts = parts_of config 1 written sizes a.nodes

  -- ---- its parts
  -- a part of the matrix that is made
  pub record IsOwn (part : FramePart) : Type 0 where
    pub node : NodeValue
    pub there : slice_get a.nodes part.node ≡ Some node
    pub matrix : node.matrix ≡ 2
    pub rule : part.rule ≡ picks n h
    pub wide : part.rect.x0 < part.rect.x1
    pub high : part.rect.y0 < part.rect.y1
    pub right : part.rect.x1 ≤ n
    pub top : part.rect.y1 ≤ h
    pub own : has_place (rect_of node sizes) ≡ true
    pub rect : part.rect ≡ rect_of node sizes

  natural_most : (z : ℤ) (k : ℕ) (w : ℤ) → w ≡ pos k → z ≤ℤ w → natural z ≤ k
  natural_most (pos m) k w e below = omega (arith, ints, e, below)
  natural_most (negsuc m) k w e below = omega arith

  pub own_part : (part : FramePart) → Contains parts part → IsOwn part
  own_part part has =
      let of = of_part 1 written a sizes instance config part has in
      let made = corner_made 1 written a sizes instance part.node of.0 of.1 of.2 in
      let sides = matrix_is n h of.0.matrix made.cell.decl made.made made.cell.there in
      let below = segment_below (program 0) 1 written a sizes well multiply_accepted.sound written_there is range part.node of.0 made.cell.decl of.1 made.cell.there in
      let across : (corner_of of.0 sizes).x < n = omega (arith, ints, made.cell.before_x, sides.1) in
      let down : (corner_of of.0 sizes).y < h = omega (arith, ints, made.cell.before_y, sides.2) in
      let rect : part.rect ≡ rect_of of.0 sizes = ap (λ (p : FramePart). p.rect) of.3 in
      let places = and_parts (nat_lt (rect_of of.0 sizes).x0 (rect_of of.0 sizes).x1) (nat_lt (rect_of of.0 sizes).y0 (rect_of of.0 sizes).y1) of.2 in
      record {
        node = of.0;
        there = of.1;
        matrix = sides.0;
        rule = ap (λ (p : FramePart). p.rule) of.3 ∙ ap (λ (m : ℕ). chosen_rule config 1 written sizes (record { matrix = m; x = (corner_of of.0 sizes).x; y = (corner_of of.0 sizes).y })) sides.0
            ∙ chosen_is config said n h low (corner_of of.0 sizes).x (corner_of of.0 sizes).y across down;
        wide = subst (λ r. r.x0 < r.x1) (sym rect) (grind (arith, nat_tests, places.0));
        high = subst (λ r. r.y0 < r.y1) (sym rect) (grind (arith, nat_tests, places.1));
        right = subst (λ r. r.x1 ≤ n) (sym rect) (natural_most (value of.0.area.x1 sizes) n _ sides.1 below.across);
        top = subst (λ r. r.y1 ≤ h) (sym rect) (natural_most (value of.0.area.y1 sizes) h _ sides.2 below.down);
        own = of.2;
        rect = rect;
      }

  -- ---- all of them lie in one layer
  columns_among : 2 ≤ n → (part : FramePart) (has : Contains parts part) → Contains (own_part part has).node.rules 2
  columns_among two part has =
      let o = own_part part has in
      let made = corner_made 1 written a sizes instance part.node o.node o.there o.own in
      let sides = matrix_is n h o.node.matrix made.cell.decl made.made made.cell.there in
      let across : (corner_of o.node sizes).x < n = omega (arith, ints, made.cell.before_x, sides.1) in
      let down : (corner_of o.node sizes).y < h = omega (arith, ints, made.cell.before_y, sides.2) in
      let may = subst (λ (m : ℕ). Contains (lawful written sizes (record { matrix = m; x = (corner_of o.node sizes).x; y = (corner_of o.node sizes).y })) 2) (sym o.matrix)
      (columns_lawful n h (corner_of o.node sizes).x (corner_of o.node sizes).y across down two) in
      let held : IsIn a.nodes sizes (corner_of o.node sizes) part.node = record { node = o.node; there = o.there; matrix = refl; inside = corner_in 1 written a sizes instance part.node o.node o.there o.own } in
      lawful_among (program 0) 1 written sizes well multiply_accepted.sound written_there (corner_of o.node sizes) made.cell a.nodes (nodes_are 1 written a sizes instance) part.node held 2 may

  abbrev layer_of : FramePart → ℕ
  layer_of part = slice_index a.order.layer part.node

  wides_are : wide_rules written ≡ 1 ∷ 2 ∷ 3 ∷ []
  wides_are = refl

  shared : 2 ≤ n → (p q : FramePart) → Contains parts p → Contains parts q → layer_of p ≡ layer_of q
  shared two p q hp hq =
      let op = own_part p hp in
      let oq = own_part q hq in
      is.layering.is_order.shared p.node q.node (record {
        rule = 2;
        is_wide = subst (λ l. Contains l 2) (sym (is.are.wide ∙ wides_are)) (1, omega arith, refl);
        first = op.node;
        second = oq.node;
        has_first = subst (λ ns. slice_get ns p.node ≡ Some op.node) is.nodes op.there;
        has_second = subst (λ ns. slice_get ns q.node ≡ Some oq.node) is.nodes oq.there;
        of_first = columns_among two p hp;
        of_second = columns_among two q hq;
      })

  -- in a matrix of one cell there is one part
  holds_first : n < 2 → (part : FramePart) → Contains parts part → HoldsCell a.nodes part (record { matrix = 2; x = 0; y = 0 })
  holds_first one part has =
      let o = own_part part has in
      record { node = o.node; there = o.there; matrix = o.matrix; place = record { left = omega (arith, o.wide, o.right, one); right = omega (arith, o.wide); low = omega (arith, o.high, o.top, one, low); high = omega (arith, o.high) } }

  pub one_layer : (p q : FramePart) → Contains parts p → Contains parts q → layer_of p ≡ layer_of q
  one_layer p q hp hq =
      elim (cases_lt n 2) [
        | inl one ↦ ap layer_of (one_part config 1 written a sizes instance (record { matrix = 2; x = 0; y = 0 }) p q hp hq (holds_first one p hp) (holds_first one q hq))
        | inr two ↦ shared two p q hp hq
      ]

  -- ---- what is made at once
  abbrev pub jobs : List JobValue
  jobs = jobs_for config 1 written a sizes 16

  abbrev here : ℕ → List FramePart
  here l = in_layer a.order parts l

  abbrev of_layer : ℕ × LayerValue → List JobValue
  of_layer l = layer_jobs written 16 (here l.0) l

  in_here : (l : ℕ) (part : FramePart) → Contains (here l) part → Contains parts part × (layer_of part ≡ l)
  in_here l part has = let kept = filter_in (is_in_layer a.order l) parts part has in (kept.0, eqb-true (layer_of part) l kept.1)

  empty_layer : (l : ℕ × LayerValue) → here l.0 ≡ [] → of_layer l ≡ []
  empty_layer l e = ap (λ (ps : List FramePart). layer_jobs written 16 ps l) e ∙ ap (map (block_job written l.0 [])) (none_kept (has_block written []) (squares l.1 16 []) (λ r. refl))

  one_is_empty : (l m : ℕ × LayerValue) → l.0 < m.0 → (of_layer l ≡ []) ⊎ (of_layer m ≡ [])
  one_is_empty l m below = by (here l.0) (here m.0) refl refl
    where
      by : (ps qs : List FramePart) → here l.0 ≡ ps → here m.0 ≡ qs → (of_layer l ≡ []) ⊎ (of_layer m ≡ [])
      by [] qs e f = inl (empty_layer l e)
      by (p ∷ ps) [] e f = inr (empty_layer m f)
      by (p ∷ ps) (q ∷ qs) e f =
          let hp = in_here l.0 p (subst (λ k. Contains k p) (sym e) (in_head p ps)) in
          let hq = in_here m.0 q (subst (λ k. Contains k q) (sym f) (in_head q qs)) in
          absurd (omega (arith, below, hp.1, hq.1, one_layer p q hp.0 hq.0))

  -- what a job makes are parts of the one matrix
  abbrev pub IsPiece : FramePart → Type 0
  IsPiece part = (node : NodeValue) × (slice_get a.nodes part.node ≡ Some node) × (node.matrix ≡ 2) × (part.rule ≡ picks n h)

  piece : (l : ℕ) (part : FramePart) → Contains (here l) part → IsPiece part
  piece l part has = let o = own_part part (in_here l part has).0 in (o.node, o.there, o.matrix, o.rule)

  of_other : (k : ℕ) (ps : List FramePart) → ((part : FramePart) → Contains ps part → (part.rule == k) ≡ false) → list_any (λ part. part.rule == k) ps ≡ false
  of_other k [] each = refl
  of_other k (p ∷ ps) each = rw (each p (in_head p ps)) (of_other k ps (λ q has. each q (in_tail p q ps has)))

  module _ (k : ℕ) (it : picks n h ≡ k) where
    not_chosen : (other l : ℕ) → (k == other) ≡ false → list_any (λ part. part.rule == other) (here l) ≡ false
    not_chosen other l apart = of_other other (here l) (λ part has. ap (λ (r : ℕ). r == other) ((piece l part has).3 ∙ it) ∙ apart)

  -- ---- where the cells are made one by one
  module _ (leaf : picks n h ≡ 0) where
    no_wides : (l : ℕ) → chosen_wides written (here l) ≡ []
    no_wides l = rw (not_chosen 0 leaf 1 l refl, not_chosen 0 leaf 2 l refl, not_chosen 0 leaf 3 l refl) refl

    blocks_alone : (l : ℕ × LayerValue) → of_layer l ≡ map (block_job written l.0 (here l.0)) (blocks written l.1 16 (here l.0))
    blocks_alone l = ap (λ (ks : List ℕ). map (wide_job l.0 (here l.0)) ks ++ map (block_job written l.0 (here l.0)) (blocks written l.1 16 (here l.0))) (no_wides l.0)

    pub record IsLeaf (job : JobValue) : Type 0 where
      pub rule : job.rule ≡ None
      pub parts : AllByRecursion IsPiece job.parts

    block_pieces : (l : ℕ) (r : Rect) (part : FramePart) → Contains (block_parts written (here l) r) part → IsPiece part
    block_pieces l r part has =
        let from = map_in (within r) (filter (is_block_part written r) (here l)) part has in
        let p = piece l from.0 (filter_in (is_block_part written r) (here l) from.0 from.1).0 in
        subst IsPiece from.2 p

    pub leaf_jobs : AllByRecursion IsLeaf jobs
    leaf_jobs = each_in IsLeaf jobs (λ job has.
        let at = flat_in of_layer (enumerate_from 0 a.order.layers) job has in
        let from = map_in (block_job written at.0.0 (here at.0.0)) (blocks written at.0.1 16 (here at.0.0)) job (subst (λ js. Contains js job) (blocks_alone at.0) at.2) in
        subst IsLeaf from.2 (record { rule = refl; parts = each_in IsPiece _ (block_pieces at.0.0 from.0) }))

    module _ (most : ℕ) (spanned : (cut : Option Sign) (top : ℕ) → top ≤ h → length (spans cut 16 top) ≤ most) where
      few_here : (l : ℕ × LayerValue) → length (of_layer l) ≤ 16 * most
      few_here l =
          let tops = greatest_most (λ (part : FramePart). part.rect.y1) h (here l.0) (λ part has. (own_part part (in_here l.0 part has).0).top) in
          let xs = spans l.1.cut_x 16 (greatest (map (λ (part : FramePart). part.rect.x1) (here l.0))) in
          let ys = spans l.1.cut_y 16 (greatest (map (λ (part : FramePart). part.rect.y1) (here l.0))) in
          let across : length xs ≤ 16 = spans_few l.1.cut_x 16 _ in
          let down : length ys ≤ most = spanned l.1.cut_y _ tops in
          let product : length xs * length ys ≤ 16 * most = mul-le-mul across down in
          omega (arith, ap length (blocks_alone l), length-map (blocks written l.1 16 (here l.0)) (block_job written l.0 (here l.0)), kept_fewer (has_block written (here l.0)) (squares l.1 16 (here l.0)), pairs_count square ys xs, product)

      pub leaf_count : length jobs ≤ 16 * most
      leaf_count = only_one of_layer one_is_empty (16 * most) few_here a.order.layers 0

  -- ---- where rows are halved
  module _ (plan : picks n h ≡ 3) where
    abbrev halved : ℕ → Bool
    halved l = list_any (λ part. part.rule == 3) (here l)

    one_wide : (l : ℕ) (b : Bool) → halved l ≡ b → chosen_wides written (here l) ≡ (if b then 3 ∷ [] else [])
    one_wide l true e = rw (not_chosen 3 plan 1 l refl, not_chosen 3 plan 2 l refl, e) refl
    one_wide l false e = rw (not_chosen 3 plan 1 l refl, not_chosen 3 plan 2 l refl, e) refl

    no_block : (l : ℕ) (ps : List FramePart) (r : Rect) → ((part : FramePart) → Contains ps part → part.rule ≡ 3) → has_block written ps r ≡ false
    no_block l [] r each = refl
    no_block l (p ∷ ps) r each = rw (each p (in_head p ps)) (no_block l ps r (λ q has. each q (in_tail p q ps has)))

    wides_alone : (l : ℕ × LayerValue) → of_layer l ≡ map (wide_job l.0 (here l.0)) (if halved l.0 then 3 ∷ [] else [])
    wides_alone l =
        ap (λ (ks : List ℕ). map (wide_job l.0 (here l.0)) ks ++ map (block_job written l.0 (here l.0)) (blocks written l.1 16 (here l.0))) (one_wide l.0 (halved l.0) refl)
        ∙ ap (λ (rs : List Rect). map (wide_job l.0 (here l.0)) (if halved l.0 then 3 ∷ [] else []) ++ map (block_job written l.0 (here l.0)) rs)
        (none_kept (has_block written (here l.0)) (squares l.1 16 (here l.0)) (λ r. no_block l.0 (here l.0) r (λ part has. (piece l.0 part has).3 ∙ plan)))
        ∙ append-nil _

    pub record IsHalving (job : JobValue) : Type 0 where
      pub rule : job.rule ≡ Some 3
      pub parts : AllByRecursion IsPiece job.parts

    few_wides : (l : ℕ × LayerValue) (b : Bool) → length (map (wide_job l.0 (here l.0)) (if b then 3 ∷ [] else [])) ≤ 1
    few_wides l true = omega arith
    few_wides l false = omega arith

    pub halving_count : length jobs ≤ 1
    halving_count = only_one of_layer one_is_empty 1 (λ l. subst (λ js. length js ≤ 1) (sym (wides_alone l)) (few_wides l (halved l.0))) a.order.layers 0

    is_halving : (l : ℕ × LayerValue) (b : Bool) (job : JobValue) → Contains (map (wide_job l.0 (here l.0)) (if b then 3 ∷ [] else [])) job → IsHalving job
    is_halving l true job has =
        let from = map_in (wide_job l.0 (here l.0)) (3 ∷ []) job has in
        let k : 3 ≡ from.0 = elim (in_cases 3 from.0 [] from.1) [
          | inl same ↦ same
          | inr none ↦ absurd (in_none from.0 none)
        ] in
        subst IsHalving from.2 (record { rule = ap Some (sym k); parts = each_in IsPiece _ (λ part there. piece l.0 part (filter_in (λ (p : FramePart). p.rule == from.0) (here l.0) part there).0) })
    is_halving l false job has = absurd (in_none job has)

    pub halving_jobs : AllByRecursion IsHalving jobs
    halving_jobs = each_in IsHalving jobs (λ job has.
        let at = flat_in of_layer (enumerate_from 0 a.order.layers) job has in
        is_halving at.0 (halved at.0.0) job (subst (λ js. Contains js job) (wides_alone at.0) at.2))

-- an axis on which parts end before 2 has one block
pub one_span : (cut : Option Sign) (top : ℕ) → top ≤ 1 → length (spans cut 16 top) ≤ 1
unfolding spans
one_span None top low = omega arith
one_span (Some sign) top low = omega (arith, length-map-range_with_len (λ place. block_at side top (number_by sign count place)) 0 count, few)
  where
    side : ℕ
    side = block_side 16 top

    count : ℕ
    count = div_ceil top side

    wide : 16 ≤ side
    wide = (side_serves 16 top).0

    few : count ≤ 1
    few = elim (cases_lt 1 count) [
      | inl more ↦ absurd (let all : 2 * side ≤ count * side = mul-le-mul_right side more in omega (arith, all, wide, low, (div_ceil_times top side (omega (arith, wide))).1))
      | inr less ↦ omega (arith, less)
    ]
