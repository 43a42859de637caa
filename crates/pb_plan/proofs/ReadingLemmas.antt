-- A read of a rule of a segment, as the order of segments knows it.
use Rattle.std.proofs.Common.{◌≡◌, ◌∙◌, refl, sym, ap, subst, inl, inr, ◌⊎◌, ⊎_elim, ℕ, ◌<◌, ◌≤◌, ℤ, Bool, true, false, ◌&&◌, not, List, slice_get, slice_index, Some, arith}
use Rattle.std.specs.Prelude.{◌==◌, IsTrue, filter, nat_le}
use Rattle.std.specs.List.{Contains, enumerate_from}
use Rattle.std.proofs.lemmas.Bool.{cases_Bool, eq-eqb}
use Rattle.std.proofs.lemmas.Bool.Decides.{nat_tests}
use Rattle.pb_linear.specs.Sizes.{InRange}
use Rattle.pb_linear.specs.declared.boxes.ReadBox.{ReadBox}
use Rattle.pb_graph.specs.Edges.{Choices, apart, touches}
use Rattle.pb_graph.specs.Nodes.{NodeValue}
use Rattle.pb_graph.specs.Ranks.{ApartOn, IsHandled, IsReadOf}
use Rattle.pb_graph.proofs.HandledLemmas.{apart_on, handled}
use Rattle.pb_program.specs.Areas.{area_of}
use Rattle.pb_program.specs.Forms.{DeclValue}
use Rattle.pb_program.specs.Trees.{ProgRule, ProgTransform}
use Rattle.pb_program.specs.declared.view.Read.{Read}
use Rattle.pb_region.specs.Boxes.{is_wide}
use Rattle.pb_region.specs.Ends.{area_at}
use Rattle.pb_region.specs.Reads.{ReadValue, is_made, read_of, read_value, reads_of}
use Rattle.pb_region.proofs.AreaLemmas.{ends_area}
use Rattle.pb_base.proofs.ListLemmas.{in_filter, in_flat, in_map, map_in}
use Rattle.pb_check.specs.Orders.{AnalysisValue, made_reads}
use Rattle.pb_check.proofs.LawfulLemmas.{at_numbered}
use Rattle.pb_frame.specs.Choices.{IsInstance}

-- a read by which segment u may read segment v
pub record Reading (c : Choices) (sizes : List ℕ) (u v : ℕ) (n m : NodeValue) (rule : ProgRule) (q : Read) (d : DeclValue) : Type 0 where
  pub box : ReadBox
  pub of : IsReadOf c u v n m box
  pub ends : (x y : ℤ) → area_at (read_value box).ends sizes x y ≡ area_of sizes x y q d
  pub wide : box.wide ≡ is_wide rule.kind

le_true : (a b : ℕ) → a ≤ b → nat_le a b ≡ true
le_true a b h = grind (arith, nat_tests)

module _ (number : ℕ) (t : ProgTransform) (a : AnalysisValue) (sizes : List ℕ) (i : IsInstance number t a sizes) where
  abbrev pub choices : Choices
  choices = i.found.choices

  range : InRange choices.leasts sizes
  range = subst (λ l. InRange l sizes) (sym i.found.are.leasts) i.in_range

  read_there : (k : ℕ) (rule : ProgRule) (q : Read) → slice_get t.rules k ≡ Some rule → Contains rule.reads q → is_made t.inputs q ≡ true → Contains (made_reads t) (read_of t.matrices k (is_wide rule.kind) q)
  unfolding reads_of
  read_there k rule q there declared made =
      let value = read_of t.matrices k (is_wide rule.kind) q in
      let of_rule : Contains (reads_of t k rule) value = in_map (read_of t.matrices k (is_wide rule.kind)) (filter (is_made t.inputs) rule.reads) q (in_filter (is_made t.inputs) rule.reads q declared made) in
      in_flat (λ (r : ℕ × ProgRule). reads_of t r.0 r.1) (enumerate_from 0 t.rules) (k, rule) value (subst (λ n. Contains (enumerate_from 0 t.rules) (n, rule)) (omega arith) (at_numbered 0 t.rules k rule there)) of_rule

  pub reading : (u : ℕ) (n : NodeValue) → slice_get a.nodes u ≡ Some n → (k : ℕ) (rule : ProgRule) → slice_get t.rules k ≡ Some rule → Contains n.rules k → (q : Read) (d : DeclValue) → Contains rule.reads q → slice_get t.matrices q.matrix ≡ Some d
      → (v : ℕ) (m : NodeValue) → slice_get a.nodes v ≡ Some m → m.matrix ≡ q.matrix → t.inputs ≤ q.matrix → Reading choices sizes u v n m rule q d
  reading u n at_n k rule there may q d declared decl v m at_m same made =
      let value = read_of t.matrices k (is_wide rule.kind) q in
      let listed = read_there k rule q there declared (le_true t.inputs q.matrix made) in
      let r = map_in read_value choices.reads value (subst (λ l. Contains l value) (sym i.found.are.reads) listed) in
      record {
        box = r.0;
        of = record {
          has_reader = subst (λ l. slice_get l u ≡ Some n) i.found.nodes at_n;
          has_source = subst (λ l. slice_get l v ≡ Some m) i.found.nodes at_m;
          declared = r.1;
          chosen = subst (Contains n.rules) (sym (ap (λ (w : ReadValue). w.rule) r.2)) may;
          matrix = ap (λ (w : ReadValue). w.matrix) r.2 ∙ sym same;
        };
        ends = λ x y. ap (λ (w : ReadValue). area_at w.ends sizes x y) r.2 ∙ ends_area sizes x y t.matrices q d decl;
        wide = ap (λ (w : ReadValue). w.wide) r.2;
      }

  module _ (u v : ℕ) (n m : NodeValue) (box : ReadBox) (of : IsReadOf choices u v n m box) where
    pub is_handled : IsHandled a.order sizes u v n m box
    is_handled = handled choices a.order sizes i.found.layering range u v n m box of

    -- what isn't for single cells reads lower layers alone
    pub wide_handled : box.wide ≡ true → (ApartOn n.area box sizes m.area 0 ⊎ ApartOn n.area box sizes m.area 1) ⊎ (slice_index a.order.layer v < slice_index a.order.layer u)
    wide_handled wide = ⊎_elim
        (λ apart_x. inl (inl (apart_on choices.leasts sizes range n.area box m.area 0 apart_x)))
        (λ near_x. ⊎_elim
        (λ apart_y. inl (inr (apart_on choices.leasts sizes range n.area box m.area 1 apart_y)))
        (λ near_y. inr (lower (both3 (box.matrix == m.matrix) (apart choices.leasts n.area box m.area 0) (apart choices.leasts n.area box m.area 1) (eq-eqb box.matrix m.matrix of.matrix) near_x near_y)))
        (cases_Bool (apart choices.leasts n.area box m.area 1)))
        (cases_Bool (apart choices.leasts n.area box m.area 0))
      where
        both3 : (x y z : Bool) → x ≡ true → y ≡ false → z ≡ false → (x && (not y && not z)) ≡ true
        both3 x y z ex ey ez = rw (ex, ey, ez) refl

        lower : IsTrue (touches choices n m box) → slice_index a.order.layer v < slice_index a.order.layer u
        lower touch = ⊎_elim (λ l. l) (λ s. absurd (let e : true ≡ false = sym wide ∙ s.1.cell in cc))
            (i.found.layering.is_order.lower (record { reader = u; source = v; read = box }) (record { reader = n; source = m; has_reader = of.has_reader; has_source = of.has_source; declared = of.declared; chosen = of.chosen; touches = touch }))
