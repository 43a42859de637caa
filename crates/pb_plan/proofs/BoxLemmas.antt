-- The boxes of views, as what their windows show.
use Rattle.std.proofs.Common.{◌≡◌, ◌∙◌, refl, sym, ap, subst, ℕ, zero, suc, ◌+◌, ◌-◌, ◌<◌, ℤ, pos, List, [], ◌∷◌, ◌++◌, length, map, take, get_or, slice_get, Some, arith}
use Rattle.std.specs.List.{All}
use Rattle.std.specs.Option.{option_map_or}
use Rattle.std.proofs.lemmas.Option.{slice_get_within}
use Rattle.pb_linear.specs.Numbers.{exact_value}
use Rattle.pb_values.specs.declared.rect.Rect.{Rect}
use Rattle.pb_values.specs.declared.view.View.{View}
use Rattle.pb_program.specs.Areas.{Area, area_of, from_start}
use Rattle.pb_program.specs.Forms.{DeclValue}
use Rattle.pb_program.specs.declared.view.Read.{Read}
use Rattle.pb_region.specs.Small.{IsSmallRead}
use Rattle.pb_region.specs.Within.{IsWithin}
use Rattle.pb_model.specs.Cells.{natural}
use Rattle.pb_views.specs.Hulls.{AreWithin, hull_of, joined}
use Rattle.pb_views.specs.Windows.{AreLaid, AreSteady, IsRect, IsWindow, shown_by}
use Rattle.pb_views.specs.declared.window.Window.{Window}
use Rattle.pb_views.proofs.WindowLemmas.{shown_is}
use Rattle.std.proofs.lemmas.List.{map-append}
use Rattle.pb_graph.proofs.NumberedLemmas.{at_index}
use Rattle.pb_frame.proofs.ListLemmas.{append-assoc, taken}
use Rattle.pb_links.specs.declared.places.Spot.{Spot}
use Rattle.pb_plan.specs.Boxes.{IsBoxed, IsReadable, part_area, part_box, rect_from, shown_at, whole_box}

natural_is : (n : ℕ) (z : ℤ) → pos n ≡ z → n ≡ natural z
natural_is n z e = ap natural e

pub rect_is : (a : Area) (r : Rect) → IsRect a r → r ≡ rect_from a
rect_is a r h =
    let x0 = natural_is r.x0 a.x.low h.left in
    let y0 = natural_is r.y0 a.y.low h.low in
    let x1 = natural_is r.x1 a.x.high h.right in
    let y1 = natural_is r.y1 a.y.high h.high in
    λ i. record { x0 = x0 i; y0 = y0 i; x1 = x1 i; y1 = y1 i }

pub steady : (r : Read) → IsSmallRead r → AreSteady r
steady r h = record {
  x0 = (omega (arith, h.x0.x), omega (arith, h.x0.y));
  y0 = (omega (arith, h.y0.x), omega (arith, h.y0.y));
  x1 = (omega (arith, h.x1.x), omega (arith, h.x1.y));
  y1 = (omega (arith, h.y1.x), omega (arith, h.y1.y));
}

module _ (matrices : List DeclValue) (sizes : List ℕ) (views : List View) (laid : AreLaid matrices sizes views) (r : Read) (d : DeclValue) (v : View) (there : slice_get matrices r.matrix ≡ Some d) (at : slice_get views r.matrix ≡ Some v) (w : Window) (is : IsWindow r sizes w) where
  shown : (x y : ℕ) → shown_by w v x y w.view ≡ shown_at matrices sizes r x y
  shown x y = shown_is matrices sizes views (record { matrix = 0; x = x; y = y }) r w d v is laid there at ∙ sym (ap (λ o. option_map_or (area_of sizes (pos x) (pos y) r) o (record { x = from_start (pos 0); y = from_start (pos 0) })) there)

  pub within_at : (reads : List Read) (k x y : ℕ) → slice_get reads k ≡ Some r → IsReadable matrices sizes reads x y → IsWithin (shown_by w v x y w.view) (pos v.shape.w) (pos v.shape.h)
  within_at reads k x y place readable =
      subst (λ a. IsWithin a (pos v.shape.w) (pos v.shape.h)) (sym (shown_is matrices sizes views (record { matrix = 0; x = x; y = y }) r w d v is laid there at))
      (subst (λ z. IsWithin (area_of sizes (pos x) (pos y) r d) z (pos v.shape.h)) (sym (laid.width r.matrix d v there at))
      (subst (λ z. IsWithin (area_of sizes (pos x) (pos y) r d) (exact_value d.w sizes) z) (sym (laid.height r.matrix d v there at)) (readable k r d place there)))

  pub within_all : (reads : List Read) (k : ℕ) (part : Rect) → slice_get reads k ≡ Some r → IsBoxed matrices sizes reads part → AreWithin w v part
  within_all reads k part place h = record {
    first = within_at reads k part.x0 part.y0 place h.first;
    second = within_at reads k (part.x1 - 1) part.y0 place h.second;
    third = within_at reads k part.x0 (part.y1 - 1) place h.third;
    fourth = within_at reads k (part.x1 - 1) (part.y1 - 1) place h.fourth;
  }

  spot_is : (s : Spot) (a b : Area) → s.base ≡ r.matrix → IsRect a s.rect → a ≡ b → s ≡ record { base = r.matrix; rect = rect_from b }
  spot_is s a b base rect same = let e = rect_is a s.rect rect ∙ ap rect_from same in λ i. record { base = base i; rect = e i }

  pub part_box_is : (part : Rect) (s : Spot) → s.base ≡ r.matrix → IsRect (hull_of w v part) s.rect → s ≡ part_box matrices sizes part r
  unfolding hull_of part_area
  part_box_is part s base rect =
      spot_is s (hull_of w v part) (part_area matrices sizes part r) base rect
      (ap (λ a. joined (joined a (shown_by w v (part.x1 - 1) part.y0 w.view)) (joined (shown_by w v part.x0 (part.y1 - 1) w.view) (shown_by w v (part.x1 - 1) (part.y1 - 1) w.view))) (shown part.x0 part.y0)
      ∙ ap (λ a. joined (joined (shown_at matrices sizes r part.x0 part.y0) a) (joined (shown_by w v part.x0 (part.y1 - 1) w.view) (shown_by w v (part.x1 - 1) (part.y1 - 1) w.view))) (shown (part.x1 - 1) part.y0)
      ∙ ap (λ a. joined (joined (shown_at matrices sizes r part.x0 part.y0) (shown_at matrices sizes r (part.x1 - 1) part.y0)) (joined a (shown_by w v (part.x1 - 1) (part.y1 - 1) w.view))) (shown part.x0 (part.y1 - 1))
      ∙ ap (λ a. joined (joined (shown_at matrices sizes r part.x0 part.y0) (shown_at matrices sizes r (part.x1 - 1) part.y0)) (joined (shown_at matrices sizes r part.x0 (part.y1 - 1)) a)) (shown (part.x1 - 1) (part.y1 - 1)))

  pub whole_box_is : (s : Spot) → s.base ≡ r.matrix → IsRect (shown_by w v 0 0 w.view) s.rect → s ≡ whole_box matrices sizes r
  whole_box_is s base rect = spot_is s (shown_by w v 0 0 w.view) (shown_at matrices sizes r 0 0) base rect (shown 0 0)

-- ---- the next of some views
module _ (matrices : List DeclValue) (sizes : List ℕ) (views : List View) (laid : AreLaid matrices sizes views) (reads : List Read) (k : ℕ) (r : Read) (below : k < length reads) (is : r ≡ get_or reads k r) (named : All (λ (q : Read). q.matrix < length matrices) reads) where
  pub place : slice_get reads k ≡ Some r
  place = at_index reads k r below is

  decl : (d : DeclValue) × (slice_get matrices r.matrix ≡ Some d)
  decl = some_decl matrices r.matrix (subst (λ (q : Read). q.matrix < length matrices) (sym is) (named k r below))
    where
      some_decl : (ds : List DeclValue) (m : ℕ) → m < length ds → (d : DeclValue) × (slice_get ds m ≡ Some d)
      some_decl [] m b = absurd (omega (arith, b))
      some_decl (d ∷ ds) zero b = (d, refl)
      some_decl (d ∷ ds) (suc m) b = some_decl ds m (omega (arith, b))

  pub inside : r.matrix < length views
  inside = let v = laid.some r.matrix decl.0 decl.1 in slice_get_within views r.matrix v.0 v.1

  module _ (v : View) (of : v ≡ get_or views r.matrix v) where
    at : slice_get views r.matrix ≡ Some v
    at = at_index views r.matrix v inside of

    pub next_within : (part : Rect) → IsBoxed matrices sizes reads part → (w : Window) → IsWindow r sizes w → AreWithin w v part
    next_within part boxed w window = within_all matrices sizes views laid r decl.0 v decl.1 at w window reads k part place boxed

    pub next_at : IsReadable matrices sizes reads 0 0 → (w : Window) → IsWindow r sizes w → IsWithin (shown_by w v 0 0 w.view) (pos v.shape.w) (pos v.shape.h)
    next_at readable w window = within_at matrices sizes views laid r decl.0 v decl.1 at w window reads k 0 0 place readable

    pub next_part : (part : Rect) (s : Spot) → s.base ≡ r.matrix → (w : Window) × IsWindow r sizes w × IsRect (hull_of w v part) s.rect → s ≡ part_box matrices sizes part r
    next_part part s base (w, window, rect) = part_box_is matrices sizes views laid r decl.0 v decl.1 at w window part s base rect

    pub next_whole : (s : Spot) → s.base ≡ r.matrix → (w : Window) × IsWindow r sizes w × IsRect (shown_by w v 0 0 w.view) s.rect → s ≡ whole_box matrices sizes r
    next_whole s base (w, window, rect) = whole_box_is matrices sizes views laid r decl.0 v decl.1 at w window s base rect

  pub next_box : (f : Read → Spot) (before old new : List Spot) (s : Spot) → old ≡ before ++ map f (take k reads) → new ≡ old ++ s ∷ [] → s ≡ f r → new ≡ before ++ map f (take (k + 1) reads)
  next_box f before old new s h e made =
      e ∙ ap (λ l. l ++ s ∷ []) h ∙ append-assoc before (map f (take k reads)) (s ∷ []) ∙ ap (λ z. before ++ (map f (take k reads) ++ z ∷ [])) made
      ∙ ap (λ l. before ++ l) (sym (ap (map f) (taken reads k r below ∙ ap (λ z. take k reads ++ z ∷ []) (sym is)) ∙ map-append f (take k reads) (r ∷ [])))
