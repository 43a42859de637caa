-- What links and joined segments of choices are.
use Rattle.std.proofs.Common.{◌≡◌, ◌∙◌, refl, sym, ap, subst, ⊎_elim, ℕ, ◌+◌, ◌<◌, true, List, [], ◌∷◌, length, map, slice_get, slice_index_or, Option, Some, arith}
use Rattle.std.specs.Prelude.{◌==◌, IsTrue}
use Rattle.std.specs.List.{Contains, enumerate_from}
use Rattle.std.specs.Option.{option_map}
use Rattle.std.proofs.lemmas.Bool.{eq-eqb, eqb-true}
use Rattle.std.proofs.lemmas.List.Folds.{Any-from_list_any, list_any-from_Any}
use Rattle.std.proofs.lemmas.List.FromFn.{get_or-enumerate_from, length-enumerate_from}
use Rattle.std.proofs.lemmas.Option.{get_or_from_slice_get, slice_get-get_or, slice_get-map, slice_get_within}
use Rattle.pb_base.proofs.ListLemmas.{filter_in, flat_in, in_at, in_cases, in_filter, in_flat, in_head, in_map, in_none, in_tail, map_in}
use Rattle.pb_layers.specs.declared.layers.Layer.{Layer}
use Rattle.pb_layers.specs.declared.link.Edge.{Edge}
use Rattle.pb_layers.specs.declared.link.Link.{Link}
use Rattle.pb_layers.specs.Layers.{no_layer}
use Rattle.pb_linear.specs.declared.boxes.ReadBox.{ReadBox}
use Rattle.pb_graph.specs.Edges.{Choices, between, by_rule, is_among, is_some, joined, link, links, lists, made_by, numbered, serves, sources, touches, with_first}
use Rattle.pb_graph.specs.Layerings.{ShareWide, layer_of}
use Rattle.pb_graph.specs.Nodes.{NodeValue}

-- ---- numbered elements, tests of lists
module _ {A : Type 0} where
  pub numbered_get : (xs : List A) (e : ℕ × A) → Contains (enumerate_from 0 xs) e → slice_get xs e.0 ≡ Some e.1
  numbered_get xs e c =
      let below : c.0 < length xs = omega (arith, c.1, length-enumerate_from 0 xs) in
      let is : (0 + c.0, slice_index_or xs c.0 e.1) ≡ e = sym (get_or-enumerate_from 0 xs c.0 e below) ∙ c.2 in
      let place : e.0 ≡ c.0 = sym (ap (λ (p : ℕ × A). p.0) is) ∙ omega arith in
      ap (slice_get xs) place ∙ slice_get-get_or xs c.0 e.1 below ∙ ap (λ (p : ℕ × A). Some p.1) is

  numbered_some : (xs : List A) (k : ℕ) (d : A) → k < length xs → slice_get (enumerate_from 0 xs) k ≡ Some (k, slice_index_or xs k d)
  numbered_some xs k d below =
      let place : 0 + k ≡ k = omega arith in
      slice_get-get_or (enumerate_from 0 xs) k (0, d) (omega (arith, length-enumerate_from 0 xs)) ∙ ap (λ p. Some p) (get_or-enumerate_from 0 xs k (0, d) below) ∙ ap (λ n. Some (n, slice_index_or xs k d)) place

  pub get_numbered : (xs : List A) (k : ℕ) (x : A) → slice_get xs k ≡ Some x → Contains (enumerate_from 0 xs) (k, x)
  get_numbered xs k x h = in_at (enumerate_from 0 xs) k (k, x) (numbered_some xs k x (slice_get_within xs k x h) ∙ ap (λ y. Some (k, y)) (get_or_from_slice_get xs k x x h))

  pub same_some : (o : Option A) (x y : A) → o ≡ Some x → o ≡ Some y → x ≡ y
  same_some o x y a b = cc

  pub some_in : (xs : List A) → is_some xs ≡ true → (x : A) × Contains xs x
  some_in (x ∷ xs) h = (x, in_head x xs)
  some_in [] h = absurd (cc)

  pub in_some : (xs : List A) (x : A) → Contains xs x → is_some xs ≡ true
  in_some [] x h = absurd (in_none x h)
  in_some (y ∷ xs) x h = refl

among_in : (rules : List ℕ) (rule : ℕ) → is_among rules rule ≡ true → Contains rules rule
among_in rules rule h = let found = Any-from_list_any (λ k. k == rule) rules h in subst (Contains rules) (eqb-true found.1 rule found.4) (found.0, found.2, found.3)

in_among : (rules : List ℕ) (rule : ℕ) → Contains rules rule → is_among rules rule ≡ true
in_among rules rule c = list_any-from_Any (λ k. k == rule) rules (c.0, rule, c.1, c.2, eq-eqb rule rule refl)

-- ---- links and joined segments
module _ (c : Choices) where
  -- reads by which a segment reads another
  pub between_in : (u v : NodeValue) (r : ReadBox) → Contains (between c u v) r → Contains c.reads r × Contains u.rules r.rule × IsTrue (touches c u v r)
  unfolding between
  between_in u v r h =
      let rule = flat_in (by_rule c u v) u.rules r h in
      let kept = filter_in (touches c u v) _ r rule.2 in
      let named = filter_in (λ r. r.rule == rule.0) c.reads r kept.0 in
      (named.0, subst (Contains u.rules) (sym (eqb-true r.rule rule.0 named.1)) rule.1, kept.1)

  pub in_between : (u v : NodeValue) (r : ReadBox) → Contains c.reads r → Contains u.rules r.rule → IsTrue (touches c u v r) → Contains (between c u v) r
  unfolding between
  in_between u v r declared chosen touch =
      in_flat (by_rule c u v) u.rules r.rule r chosen (in_filter (touches c u v) _ r (in_filter (λ q. q.rule == r.rule) c.reads r declared (eq-eqb r.rule r.rule refl)) touch)

  -- where a link comes from
  pub record IsLinkOf (e : Edge) : Type 0 where
    pub reader : NodeValue
    pub source : NodeValue
    pub has_reader : slice_get c.nodes e.reader ≡ Some reader
    pub has_source : slice_get c.nodes e.source ≡ Some source
    pub read : ReadBox
    pub is_between : Contains (between c reader source) read
    pub bits : e.serves ≡ map (serves c reader source) lists

  pub links_in : (e : Edge) → Contains (links c) e → IsLinkOf e
  unfolding links
  links_in e h =
      let u = flat_in (λ u. map (link c u) (sources c u)) (numbered c) e h in
      let v = map_in (link c u.0) (sources c u.0) e u.2 in
      let kept = filter_in (λ w. is_some (between c u.0.1 w.1)) (numbered c) v.0 v.1 in
      let r = some_in (between c u.0.1 v.0.1) kept.1 in
      subst IsLinkOf v.2 (record {
        reader = u.0.1;
        source = v.0.1;
        has_reader = numbered_get c.nodes u.0 u.1;
        has_source = numbered_get c.nodes v.0 kept.0;
        read = r.0;
        is_between = r.1;
        bits = refl;
      })

  pub in_links : (i j : ℕ) (u v : NodeValue) (r : ReadBox) → slice_get c.nodes i ≡ Some u → slice_get c.nodes j ≡ Some v → Contains (between c u v) r → Contains (links c) (link c (i, u) (j, v))
  unfolding links
  in_links i j u v r at_u at_v h =
      in_flat (λ u. map (link c u) (sources c u)) (numbered c) (i, u) _ (get_numbered c.nodes i u at_u)
      (in_map (link c (i, u)) (sources c (i, u)) (j, v) (in_filter (λ w. is_some (between c u w.1)) (numbered c) (j, v) (get_numbered c.nodes j v at_v) (in_some (between c u v) r h)))

  -- which segments a rule may make
  abbrev IsMaker : ℕ → ℕ → Type 0
  IsMaker rule i = (u : NodeValue) × (slice_get c.nodes i ≡ Some u) × Contains u.rules rule

  made_in : (rule i : ℕ) → Contains (made_by c rule) i → IsMaker rule i
  made_in rule i h =
      let u = map_in (λ (u : ℕ × NodeValue). u.0) _ i h in
      let kept = filter_in (λ (u : ℕ × NodeValue). is_among u.1.rules rule) (numbered c) u.0 u.1 in
      (u.0.1, subst (λ k. slice_get c.nodes k ≡ Some u.0.1) u.2 (numbered_get c.nodes u.0 kept.0), among_in u.0.1.rules rule kept.1)

  in_made : (rule i : ℕ) → IsMaker rule i → Contains (made_by c rule) i
  in_made rule i m =
      in_map (λ (u : ℕ × NodeValue). u.0) _ (i, m.0) (in_filter (λ (u : ℕ × NodeValue). is_among u.1.rules rule) (numbered c) (i, m.0) (get_numbered c.nodes i m.0 m.1) (in_among m.0.rules rule m.2))

  -- each is joined with the first
  first_in : (us : List ℕ) (l : Link) → Contains (with_first c us) l → Contains us l.from × Contains us l.to
  first_in [] l h = absurd (in_none l h)
  first_in (u ∷ us) l h =
      let v = map_in (λ v. record { from = u; to = v }) us l h in
      let from : u ≡ l.from = ap (λ (k : Link). k.from) v.2 in
      let to : v.0 ≡ l.to = ap (λ (k : Link). k.to) v.2 in
      (subst (Contains (u ∷ us)) from (in_head u us), subst (Contains (u ∷ us)) to (in_tail u v.0 us v.1))

  module _ (layer : ℕ → ℕ) where
    -- so what is alike for joined segments is alike for all that a rule may make
    with_first_same : (us : List ℕ) → ((l : Link) → Contains (with_first c us) l → layer l.from ≡ layer l.to) → (i j : ℕ) → Contains us i → Contains us j → layer i ≡ layer j
    with_first_same [] same i j in_i in_j = absurd (in_none i in_i)
    with_first_same (u ∷ us) same i j in_i in_j = sym (to_first i in_i) ∙ to_first j in_j
      where
        to_first : (k : ℕ) → Contains (u ∷ us) k → layer u ≡ layer k
        to_first k h = ⊎_elim (λ e. ap layer e) (λ later. same (record { from = u; to = k }) (in_map (λ v. record { from = u; to = v }) us k later)) (in_cases u k us h)

    pub joined_same : ((l : Link) → Contains (joined c) l → layer l.from ≡ layer l.to) → (i j : ℕ) → ShareWide c i j → layer i ≡ layer j
    unfolding joined
    joined_same same i j s =
        with_first_same (made_by c s.rule) (λ l h. same l (in_flat (λ rule. with_first c (made_by c rule)) c.wide s.rule l s.is_wide h)) i j
        (in_made s.rule i (s.first, s.has_first, s.of_first)) (in_made s.rule j (s.second, s.has_second, s.of_second))

  pub joined_in : (l : Link) → Contains (joined c) l → ShareWide c l.from l.to
  unfolding joined
  joined_in l h =
      let rule = flat_in (λ rule. with_first c (made_by c rule)) c.wide l h in
      let both = first_in (made_by c rule.0) l rule.2 in
      let u = made_in rule.0 l.from both.0 in
      let v = made_in rule.0 l.to both.1 in
      record { rule = rule.0; is_wide = rule.1; first = u.0; second = v.0; has_first = u.1; has_second = v.1; of_first = u.2; of_second = v.2 }

  -- the layers that are told of those that are used
  pub layer_is : (layer : List ℕ) (layers : List Layer) (place : ℕ) → place < length layers → slice_get (map (layer_of c layer) (enumerate_from 0 layers)) place ≡ Some (layer_of c layer (place, slice_index_or layers place no_layer))
  layer_is layer layers place below = slice_get-map (layer_of c layer) (enumerate_from 0 layers) place ∙ ap (option_map (layer_of c layer)) (numbered_some layers place no_layer below)
