-- The numbers of layers.
use Rattle.std.proofs.Common.{◌≡◌, ◌≢◌, ◌⊎◌, ◌∙◌, refl, sym, ap, subst, inl, inr, ⊎_elim, ℕ, ◌+◌, ◌<◌, ◌≤◌, true, Option, Some, None, List, [], length, map, take, get_or, slice_index, slice_index_or, arith}
use Rattle.std.proofs.Math.ListN.{set, length-set}
use Rattle.std.specs.List.{All, Contains}
use Rattle.std.proofs.lemmas.Bool.{cases_eq, cases_order, false≢true}
use Rattle.std.proofs.lemmas.List.{get_or-map, get_or-set_other, get_or-set_same, get_or_default, length-map, take_all}
use Rattle.std.proofs.lemmas.List.Elements.{All-contains}
use Rattle.pb_layers.specs.declared.keys.Key.{Key}
use Rattle.pb_layers.specs.declared.layers.Layer.{Layer}
use Rattle.pb_layers.specs.declared.link.Edge.{Edge}
use Rattle.pb_layers.specs.Layers.{EdgeInside, inner_at, list_at, no_layer}
use Rattle.pb_layers.specs.Numbers.{AreKeys, AreMarked, AreNumbered, ArePlaces, HaveLists, IsRising, key_at}
use Rattle.pb_layers.proofs.ListLemmas.{contains-more_cases, contains-more_new, contains-more_old, contains-nil}

-- ---- layers with an edge inside
pub marked-none : (layer : List ℕ) (layers : List Layer) → AreMarked [] layer layers layers
marked-none layer layers = record {
  room = refl;
  list = λ place. refl;
  inner = λ place below. (λ on. inl on, λ h. ⊎_elim (λ on. on) (λ e. absurd (contains-nil e.0 e.1)) h);
}

module _ (edges : List Edge) (layer : List ℕ) (old : List Layer) (i : ℕ) (d : Edge) (below : i < length edges) where
  pub marked-hit : (layers next : List Layer) (held : Layer) (place : ℕ) → place ≡ slice_index layer (get_or edges i d).reader → place ≡ slice_index layer (get_or edges i d).source → place < length layers → held ≡ get_or layers place held →
      next ≡ set layers place (record held { inner = true }) → AreMarked (take i edges) layer old layers → AreMarked (take (i + 1) edges) layer old next
  marked-hit layers next held place reader source inside is e m =
      let P : List Layer → Type 0 = λ l. AreMarked (take (i + 1) edges) layer old l in
      subst P (sym e) (record {
        room = length-set layers place marked_layer ∙ m.room;
        list = λ k. ⊎_elim
            (λ (same : k ≡ place). ap (λ p. (get_or (set layers place marked_layer) p no_layer).list) same ∙ ap (λ (l : Layer). l.list) (get_or-set_same layers place marked_layer no_layer inside) ∙ ap (λ (l : Layer). l.list) (is ∙ get_or_default layers place held no_layer inside) ∙ ap (list_at layers) (sym same) ∙ m.list k)
            (λ (ne : k ≢ place). ap (λ (l : Layer). l.list) (get_or-set_other layers place k marked_layer no_layer ne) ∙ m.list k)
            (cases_eq k place);
        inner = λ k low. (there k low, back k low);
      })
    where
      marked_layer : Layer
      marked_layer = record held { inner = true }

      there : (k : ℕ) → k < length old → inner_at (set layers place marked_layer) k ≡ true → (inner_at old k ≡ true) ⊎ ((e : Edge) × Contains (take (i + 1) edges) e × (slice_index layer e.reader ≡ k) × (slice_index layer e.source ≡ k))
      there k low on = ⊎_elim
          (λ (same : k ≡ place). inr (get_or edges i d, contains-more_new edges i d below, sym reader ∙ sym same, sym source ∙ sym same))
          (λ (ne : k ≢ place). ⊎_elim (λ h. inl h) (λ e. inr (e.0, contains-more_old edges i d below e.0 e.1, e.2, e.3)) ((m.inner k low).0 (sym (ap (λ (l : Layer). l.inner) (get_or-set_other layers place k marked_layer no_layer ne)) ∙ on)))
          (cases_eq k place)

      back : (k : ℕ) → k < length old → ((inner_at old k ≡ true) ⊎ ((e : Edge) × Contains (take (i + 1) edges) e × (slice_index layer e.reader ≡ k) × (slice_index layer e.source ≡ k))) → inner_at (set layers place marked_layer) k ≡ true
      back k low h = ⊎_elim
          (λ (same : k ≡ place). ap (λ p. (get_or (set layers place marked_layer) p no_layer).inner) same ∙ ap (λ (l : Layer). l.inner) (get_or-set_same layers place marked_layer no_layer inside))
          (λ (ne : k ≢ place). ap (λ (l : Layer). l.inner) (get_or-set_other layers place k marked_layer no_layer ne) ∙ (m.inner k low).1 (⊎_elim (λ on. inl on) (λ e. ⊎_elim (λ c. inr (e.0, c, e.2, e.3)) (λ (same : get_or edges i d ≡ e.0). absurd (ne (sym e.2 ∙ ap (λ (f : Edge). slice_index layer f.reader) (sym same) ∙ sym reader))) (contains-more_cases edges i d below e.0 e.1)) h))
          (cases_eq k place)

  pub marked-miss : (layers next : List Layer) (place : ℕ) → place ≡ slice_index layer (get_or edges i d).reader → place ≢ slice_index layer (get_or edges i d).source → next ≡ layers → AreMarked (take i edges) layer old layers → AreMarked (take (i + 1) edges) layer old next
  marked-miss layers next place reader source e m =
      let P : List Layer → Type 0 = λ l. AreMarked (take (i + 1) edges) layer old l in
      subst P (sym e) (record {
        room = m.room;
        list = m.list;
        inner = λ k low. (
          λ on. ⊎_elim (λ h. inl h) (λ e. inr (e.0, contains-more_old edges i d below e.0 e.1, e.2, e.3)) ((m.inner k low).0 on),
          λ h. (m.inner k low).1 (⊎_elim (λ on. inl on) (λ e. ⊎_elim (λ c. inr (e.0, c, e.2, e.3)) (λ (same : get_or edges i d ≡ e.0). absurd (source (reader ∙ ap (λ (f : Edge). slice_index layer f.reader) same ∙ e.2 ∙ sym e.3 ∙ ap (λ (f : Edge). slice_index layer f.source) (sym same)))) (contains-more_cases edges i d below e.0 e.1)) h),
        );
      })

pub marked-all : (edges : List Edge) (layer : List ℕ) (old new : List Layer) (n : ℕ) → length edges ≤ n → AreMarked (take n edges) layer old new → AreMarked edges layer old new
marked-all edges layer old new n over m = let P : List Edge → Type 0 = λ l. AreMarked l layer old new in subst P (take_all n edges over) m

-- ---- nodes with the layers of their components
module _ (edges : List Edge) (nodes : ℕ) (least depth : List ℕ) (lists : List (Option ℕ)) (keys : List Key) (places layer : List ℕ) (bare : List Layer)
    (room : length least ≡ nodes) (low : (u : ℕ) → u < nodes → slice_index least u < nodes) (roots : (u : ℕ) → u < nodes → slice_index least (slice_index least u) ≡ slice_index least u) (inside : All (EdgeInside nodes) edges)
    (k : AreKeys least depth nodes keys) (rises : IsRising keys) (p : ArePlaces keys (length keys) places) (layer_is : layer ≡ map (slice_index places) least) (l : HaveLists keys lists bare) where
  layer-at : (u : ℕ) → u < nodes → slice_index layer u ≡ slice_index places (slice_index least u)
  layer-at u below = ap (λ xs. slice_index xs u) layer_is ∙ get_or-map (slice_index places) least u 0 0 (omega arith)

  -- the place of a node's component among the keys
  place-of : (u : ℕ) → u < nodes → (place : ℕ) × (place < length keys) × ((key_at keys place).root ≡ slice_index least u) × (slice_index layer u ≡ place)
  place-of u below =
      let at = k.all (slice_index least u) (low u below) (roots u below) in
      (at.0, at.1, at.2, layer-at u below ∙ ap (slice_index places) (sym at.2) ∙ p.is at.0 at.1)

  depth-at : (u : ℕ) (below : u < nodes) → slice_index depth (slice_index least u) ≡ (key_at keys (place-of u below).0).depth
  depth-at u below = let at = place-of u below in ap (slice_index depth) (sym at.2) ∙ (k.each at.0 at.1).2

  before-there : (u v : ℕ) → u < nodes → v < nodes → slice_index layer u < slice_index layer v → (slice_index depth (slice_index least u) < slice_index depth (slice_index least v)) ⊎ ((slice_index depth (slice_index least u) ≡ slice_index depth (slice_index least v)) × (slice_index least u < slice_index least v))
  before-there u v u_in v_in h =
      let at = place-of u u_in in
      let to = place-of v v_in in
      ⊎_elim
      (λ (d : (key_at keys at.0).depth < (key_at keys to.0).depth). inl (omega (arith, depth-at u u_in, depth-at v v_in)))
      (λ (d : ((key_at keys at.0).depth ≡ (key_at keys to.0).depth) × ((key_at keys at.0).root < (key_at keys to.0).root)). inr (depth-at u u_in ∙ d.0 ∙ sym (depth-at v v_in), omega (arith, d.1, at.2, to.2)))
      (rises at.0 to.0 (omega (arith, at.3, to.3)) to.1)

  before-back : (u v : ℕ) → u < nodes → v < nodes → ((slice_index depth (slice_index least u) < slice_index depth (slice_index least v)) ⊎ ((slice_index depth (slice_index least u) ≡ slice_index depth (slice_index least v)) × (slice_index least u < slice_index least v))) → slice_index layer u < slice_index layer v
  before-back u v u_in v_in h = ⊎_elim
      (λ (e : slice_index layer u ≡ slice_index layer v).
      let at = place-of u u_in in
      let to = place-of v v_in in
      let same : at.0 ≡ to.0 = sym at.3 ∙ e ∙ to.3 in
      let root : slice_index least u ≡ slice_index least v = sym at.2 ∙ ap (λ q. (key_at keys q).root) same ∙ to.2 in
      let deep = ap (slice_index depth) root in
      absurd (⊎_elim (λ d. omega arith) (λ d. omega (arith, d.1)) h))
      (λ o. ⊎_elim (λ less. less) (λ (more : slice_index layer v < slice_index layer u). absurd (clash h (before-there v u v_in u_in more))) o)
      (cases_order (slice_index layer u) (slice_index layer v))
    where
      clash : ((slice_index depth (slice_index least u) < slice_index depth (slice_index least v)) ⊎ ((slice_index depth (slice_index least u) ≡ slice_index depth (slice_index least v)) × (slice_index least u < slice_index least v))) → ((slice_index depth (slice_index least v) < slice_index depth (slice_index least u)) ⊎ ((slice_index depth (slice_index least v) ≡ slice_index depth (slice_index least u)) × (slice_index least v < slice_index least u))) → ⊥
      clash h g = ⊎_elim (λ d. ⊎_elim (λ b. omega arith) (λ b. omega (arith, b.0)) g) (λ d. ⊎_elim (λ b. omega (arith, d.0)) (λ b. omega (arith, d.1, b.1)) g) h

  layer-root : (u v : ℕ) → u < nodes → v < nodes → slice_index layer u ≡ slice_index layer v → slice_index least u ≡ slice_index least v
  layer-root u v u_in v_in e =
      let at = place-of u u_in in
      let to = place-of v v_in in
      sym at.2 ∙ ap (λ q. (key_at keys q).root) (sym at.3 ∙ e ∙ to.3) ∙ to.2

  root-layer : (u v : ℕ) → u < nodes → v < nodes → slice_index least u ≡ slice_index least v → slice_index layer u ≡ slice_index layer v
  root-layer u v u_in v_in e = layer-at u u_in ∙ ap (slice_index places) e ∙ sym (layer-at v v_in)

  edge-inside : (e : Edge) → Contains edges e → EdgeInside nodes e
  edge-inside e c = All-contains (EdgeInside nodes) edges e inside c

  pub layer-low : (u d : ℕ) → u < length layer → get_or layer u d < length bare
  layer-low u d below =
      let inside_u : u < nodes = omega (arith, ap length layer_is, length-map least (slice_index places), room) in
      let at = place-of u inside_u in
      omega (arith, get_or_default layer u d 0 below, at.1, at.3, l.room)

  module _ (layers : List Layer) (m : AreMarked edges layer bare layers) where
    pub numbered-is : AreNumbered edges nodes least depth lists (record { layer = layer; layers = layers })
    numbered-is = record {
      room = ap length layer_is ∙ length-map least (slice_index places) ∙ room;
      rising = λ u v u_in v_in. (before-there u v u_in v_in, before-back u v u_in v_in);
      numbered = λ u below. let at = place-of u below in omega (arith, at.1, at.3, m.room, l.room);
      no_gap = λ place below.
          let in_keys : place < length keys = omega (arith, m.room, l.room) in
          let each = k.each place in_keys in
          let at = place-of (key_at keys place).root each.0 in
          ((key_at keys place).root, each.0, at.3 ∙ k.apart at.0 place at.1 in_keys (at.2 ∙ each.1));
      list = λ u below.
          let at = place-of u below in
          ap (λ r. slice_index_or lists r None) (sym at.2) ∙ l.list at.0 at.1 ∙ ap Some (sym (ap (list_at layers) at.3 ∙ m.list at.0));
      inner = λ u below.
          let at = place-of u below in
          let here : slice_index layer u < length bare = omega (arith, at.1, at.3, l.room) in (
            λ on. ⊎_elim (λ (never : inner_at bare (slice_index layer u) ≡ true). absurd (false≢true (sym (l.bare (slice_index layer u)) ∙ never))) (λ e. let in_e = edge-inside e.0 e.1 in (e.0, e.1, layer-root e.0.reader u in_e.0 below e.2, layer-root e.0.source u in_e.1 below e.3)) ((m.inner (slice_index layer u) here).0 on),
            λ e. let in_e = edge-inside e.0 e.1 in (m.inner (slice_index layer u) here).1 (inr (e.0, e.1, root-layer e.0.reader u in_e.0 below e.2, root-layer e.0.source u in_e.1 below e.3)),
          );
    }

-- the same from what the code has
pub keys-as : (least depth held_least held_depth : List ℕ) (bound : ℕ) (keys : List Key) → held_least ≡ least → held_depth ≡ depth → length least ≡ bound → AreKeys held_least held_depth (length held_least) keys → AreKeys least depth bound keys
keys-as least depth held_least held_depth bound keys e f g k =
    let P : List ℕ → Type 0 = λ l. AreKeys l depth bound keys in
    let Q : List ℕ → Type 0 = λ l. AreKeys held_least l bound keys in
    let R : ℕ → Type 0 = λ n. AreKeys held_least held_depth n keys in
    subst P e (subst Q f (subst R (ap length e ∙ g) k))

pub places-as : (keys held : List Key) (places : List ℕ) → held ≡ keys → ArePlaces held (length held) places → ArePlaces keys (length keys) places
places-as keys held places e p = let P : List Key → Type 0 = λ l. ArePlaces l (length l) places in subst P e p

pub lists-as : (keys held : List Key) (lists : List (Option ℕ)) (layers : List Layer) → held ≡ keys → HaveLists held lists layers → HaveLists keys lists layers
lists-as keys held lists layers e h = let P : List Key → Type 0 = λ l. HaveLists l lists layers in subst P e h

pub marked-as : (edges : List Edge) (layer held : List ℕ) (old new : List Layer) → held ≡ layer → AreMarked edges held old new → AreMarked edges layer old new
marked-as edges layer held old new e m = let P : List ℕ → Type 0 = λ l. AreMarked edges l old new in subst P e m

pub low-as : (layer held : List ℕ) (n : ℕ) → held ≡ layer → ((u d : ℕ) → u < length layer → get_or layer u d < n) → (u d : ℕ) → u < length held → get_or held u d < n
low-as layer held n e h = let P : List ℕ → Type 0 = λ l. (u d : ℕ) → u < length l → get_or l u d < n in subst P (sym e) h
