-- A window shows what its view shows.
use Rattle.std.proofs.Common.{◌≡◌, ◌∙◌, refl, sym, ap, ℕ, ℤ, pos, ◌+ℤ◌, ◌*ℤ◌, List, [], ◌∷◌, ◌++◌, map, slice_get, Some}
use Rattle.std.specs.Prelude.{◌==◌, if◌then◌else◌}
use Rattle.std.specs.List.{flat_map}
use Rattle.std.specs.Option.{option_map_or}
use Rattle.std.proofs.lemmas.List.{map-append}
use Rattle.pb_linear.specs.Numbers.{exact_value}
use Rattle.pb_values.specs.Views.{cell_of}
use Rattle.pb_values.specs.declared.view.View.{View}
use Rattle.pb_program.specs.Areas.{Area, Span, area_by as area_in, area_of, from_start, one_place}
use Rattle.pb_program.specs.Forms.{CoordinateValue, DeclValue, coordinate_at}
use Rattle.pb_program.specs.declared.view.Read.{Read}
use Rattle.pb_program.specs.declared.view.ReadView.{ReadView}
use Rattle.pb_program.specs.declared.view.ReadView.TheVariants as view
use Rattle.pb_model.specs.Cells.{Cell, cells_of, cells_of_view, numbers_of}
use Rattle.pb_views.specs.declared.line.Line.{Line}
use Rattle.pb_views.specs.declared.window.Window.{Window}
use Rattle.pb_views.specs.Lines.{IsLine, line_at}
use Rattle.pb_views.specs.Windows.{AreLaid, IsWindow, area_by, area_cells, number_in, shown_by}

line_is : (c : CoordinateValue) (sizes : List ℕ) (l : Line) (x y : ℤ) → IsLine c sizes l → line_at l x y ≡ coordinate_at c sizes x y
line_is c sizes l x y h = ap (λ r. r +ℤ (l.x *ℤ x +ℤ l.y *ℤ y)) h.of_rest ∙ ap (λ k. exact_value c.rest sizes +ℤ (k *ℤ x +ℤ l.y *ℤ y)) h.of_x ∙ ap (λ k. exact_value c.rest sizes +ℤ (c.x *ℤ x +ℤ k *ℤ y)) h.of_y

module _ (r : Read) (sizes : List ℕ) (w : Window) (h : IsWindow r sizes w) (d : DeclValue) (width height : ℤ) (ew : width ≡ exact_value d.w sizes) (eh : height ≡ exact_value d.h sizes) (x y : ℤ) where
  flat_is : (s q : Span) → s ≡ q → (if w.flat then one_place (pos 0) else s) ≡ (if r.dims == 1 then one_place (pos 0) else q)
  flat_is s q e = ap (λ b. if b then one_place (pos 0) else s) h.of_dims ∙ ap (λ t. if r.dims == 1 then one_place (pos 0) else t) e

  area_is : (v : ReadView) → area_by w width height x y v ≡ area_in sizes x y v r d
  area_is view.Cell =
      let ex = line_is r.x0 sizes w.x0 x y h.of_x0 in
      let ey = flat_is (one_place (line_at w.y0 x y)) (one_place (coordinate_at r.y0 sizes x y)) (ap one_place (line_is r.y0 sizes w.y0 x y h.of_y0)) in
      λ i. record { x = one_place (ex i); y = ey i }
  area_is view.Row = let ey = line_is r.y0 sizes w.y0 x y h.of_y0 in λ i. record { x = from_start (ew i); y = one_place (ey i) }
  area_is view.Column = let ex = line_is r.x0 sizes w.x0 x y h.of_x0 in λ i. record { x = one_place (ex i); y = from_start (eh i) }
  area_is view.Region =
      let e0 = line_is r.x0 sizes w.x0 x y h.of_x0 in
      let e1 = line_is r.x1 sizes w.x1 x y h.of_x1 in
      let f0 = line_is r.y0 sizes w.y0 x y h.of_y0 in
      let f1 = line_is r.y1 sizes w.y1 x y h.of_y1 in
      let ey = flat_is (record { low = line_at w.y0 x y; high = line_at w.y1 x y }) (record { low = coordinate_at r.y0 sizes x y; high = coordinate_at r.y1 sizes x y }) (λ i. record { low = f0 i; high = f1 i }) in
      λ i. record { x = record { low = e0 i; high = e1 i }; y = ey i }
  area_is view.Whole = λ i. record { x = from_start (ew i); y = from_start (eh i) }

pub map_flat : {A B : Type 0} (f : A → B) (g : ℕ → List A) (ks : List ℕ) → map f (flat_map g ks) ≡ flat_map (λ k. map f (g k)) ks
map_flat f g [] = refl
map_flat f g (k ∷ ks) = map-append f (g k) (flat_map g ks) ∙ ap (λ l. map f (g k) ++ l) (map_flat f g ks)

pub map_both : {A B : Type 0} (f : A → B) (g : ℕ → A) (h : ℕ → B) → ((k : ℕ) → f (g k) ≡ h k) → (ks : List ℕ) → map f (map g ks) ≡ map h ks
map_both f g h same [] = refl
map_both f g h same (k ∷ ks) = rw (same k, map_both f g h same ks) refl

pub flat_both : {B : Type 0} (g h : ℕ → List B) → ((k : ℕ) → g k ≡ h k) → (ks : List ℕ) → flat_map g ks ≡ flat_map h ks
flat_both g h same [] = refl
flat_both g h same (k ∷ ks) = rw (same k, flat_both g h same ks) refl

module _ (matrices : List DeclValue) (sizes : List ℕ) (views : List View) (c : Cell) (r : Read) (w : Window) (d : DeclValue) (v : View)
    (h : IsWindow r sizes w) (laid : AreLaid matrices sizes views) (there : slice_get matrices r.matrix ≡ Some d) (at : slice_get views r.matrix ≡ Some v) where
  pub shown_is : shown_by w v c.x c.y w.view ≡ area_of sizes (pos c.x) (pos c.y) r d
  shown_is =
      area_is r sizes w h d (pos v.shape.w) (pos v.shape.h) (laid.width r.matrix d v there at) (laid.height r.matrix d v there at) (pos c.x) (pos c.y) w.view
      ∙ ap (λ k. area_in sizes (pos c.x) (pos c.y) k r d) h.of_view

  number_is : (x y : ℕ) → number_in views (record { matrix = r.matrix; x = x; y = y }) ≡ cell_of v x y
  number_is x y = ap (λ o. option_map_or (λ (u : View). cell_of u x y) o 0) at

  numbers_of_area : (a : Area) → area_cells v a ≡ map (number_in views) (cells_of r.matrix a)
  unfolding cells_of
  numbers_of_area a =
      sym (map_flat (number_in views) (λ y. map (λ x. record { matrix = r.matrix; x = x; y = y }) (numbers_of a.x)) (numbers_of a.y)
      ∙ flat_both _ _ (λ y. map_both (number_in views) (λ x. record { matrix = r.matrix; x = x; y = y }) (λ x. cell_of v x y) (λ x. number_is x y) (numbers_of a.x)) (numbers_of a.y))

  pub cells_are : area_cells v (shown_by w v c.x c.y w.view) ≡ map (number_in views) (cells_of_view matrices sizes c r)
  cells_are =
      ap (area_cells v) shown_is ∙ numbers_of_area (area_of sizes (pos c.x) (pos c.y) r d)
      ∙ ap (map (number_in views)) (sym (ap (λ o. option_map_or (λ (e : DeclValue). cells_of r.matrix (area_of sizes (pos c.x) (pos c.y) r e)) o []) there))
