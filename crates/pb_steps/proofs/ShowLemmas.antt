-- Matrices of an instance as views of cells, and what views of a plan show of them.
use Rattle.std.proofs.Common.{◌≡◌, ◌∙◌, refl, sym, ap, subst, inl, inr, ◌⊎◌, ℕ, zero, suc, ◌+◌, ◌<◌, ◌≤◌, ℤ, pos, negsuc, ◌≤ℤ◌, List, [], ◌∷◌, ◌++◌, get_or, length, map, slice_get, take, Some, None, arith}
use Rattle.std.specs.Prelude.{slice_index_or}
use Rattle.std.proofs.lemmas.Int.{ints}
use Rattle.pb_linear.specs.Numbers.{exact_value}
use Rattle.pb_linear.specs.Sizes.{sizes_of}
use Rattle.pb_values.specs.Views.{Shows}
use Rattle.pb_values.specs.declared.shape.Shape.{Shape}
use Rattle.pb_values.specs.declared.view.View.{View}
use Rattle.pb_links.specs.declared.places.Spot.{Spot}
use Rattle.pb_program.specs.Areas.{Area, Span}
use Rattle.pb_program.specs.Forms.{DeclValue}
use Rattle.pb_program.specs.declared.view.Read.{Read}
use Rattle.pb_region.specs.Within.{IsAlong, IsWithin}
use Rattle.pb_model.specs.Cells.{natural}
use Rattle.pb_plan.specs.Boxes.{rect_from, shown_at, whole_box}
use Rattle.pb_plan.proofs.LinkedLemmas.{at_zip, some_at}
use Rattle.pb_plan.proofs.SpreadLemmas.{shown_is}
use Rattle.pb_views.specs.Seats.{LiesWithin, across, cell_at, down, no_seat, part_seat}
use Rattle.pb_views.specs.Windows.{AreLaid}
use Rattle.pb_views.specs.declared.seat.Seat.{Seat}
use Rattle.pb_steps.specs.Stands.{AreViewsOf, IsSeatFor, IsShowing, shown_seat}
use Rattle.pb_steps.specs.Values.{InstanceValue}
use Rattle.pb_steps.proofs.ListLemmas.{get_at, zip_length}

-- ---- lists
last_cases : {A : Type 0} (xs : List A) (x : A) (m : ℕ) (y : A) → slice_get (xs ++ x ∷ []) m ≡ Some y → ((m < length xs) × (slice_get xs m ≡ Some y)) ⊎ ((m ≡ length xs) × (x ≡ y))
last_cases [] x zero y e = inr (refl, some x y e)
  where
    some : {A : Type 0} (x y : A) → Some x ≡ Some y → x ≡ y
    some x y e = cc
last_cases [] x (suc m) y e = absurd (let wrong : None ≡ Some y = e in cc)
last_cases (z ∷ xs) x zero y e = inl (omega arith, e)
last_cases (z ∷ xs) x (suc m) y e = elim (last_cases xs x m y e) [
  | inl here ↦ inl (omega (arith, here.0), here.1)
  | inr last ↦ inr (ap suc last.0, last.1)
]

length_last : {A : Type 0} (xs : List A) (x : A) → length (xs ++ x ∷ []) ≡ suc (length xs)
length_last [] x = refl
length_last (y ∷ xs) x = ap suc (length_last xs x)

get_below : {A : Type 0} (xs : List A) (k : ℕ) (x : A) → slice_get xs k ≡ Some x → k < length xs
get_below [] k x e = absurd (let wrong : None ≡ Some x = e in cc)
get_below (y ∷ xs) zero x e = omega arith
get_below (y ∷ xs) (suc k) x e = let rest = get_below xs k x e in omega (arith, rest)

index_at : {A : Type 0} (xs : List A) (k : ℕ) (x d : A) → slice_get xs k ≡ Some x → slice_index_or xs k d ≡ x
index_at [] k x d e = absurd (let wrong : None ≡ Some x = e in cc)
index_at (y ∷ xs) zero x d e = let some : Some y ≡ Some x = e in cc
index_at (y ∷ xs) (suc k) x d e = index_at xs k x d e

map_get : {A B : Type 0} (f : A → B) (xs : List A) (k : ℕ) (d : A) (e : B) → k < length xs → get_or (map f xs) k e ≡ f (get_or xs k d)
map_get f [] k d e below = absurd (omega (arith, below))
map_get f (x ∷ xs) zero d e below = refl
map_get f (x ∷ xs) (suc k) d e below = map_get f xs k d e (omega (arith, below))

-- ---- views of cells
abbrev ShowsSeat : DeclValue → Seat → View → Type 0
ShowsSeat d s v = Shows v (record { dims = d.dims; w = across s; h = down s }) (λ x y. cell_at s x y)

view_last : (decls : List DeclValue) (seats : List Seat) (views : List View) (s : Seat) (v : View) → AreViewsOf decls seats views → ((d : DeclValue) → slice_get decls (length seats) ≡ Some d → ShowsSeat d s v) → AreViewsOf decls (seats ++ s ∷ []) (views ++ v ∷ [])
view_last decls seats views s v are is = record {
  count = length_last views v ∙ ap suc are.count ∙ sym (length_last seats s);
  each = λ m d t w at_d at_s at_v. elim (last_cases seats s m t at_s) [
    | inl here ↦ elim (last_cases views v m w at_v) [
      | inl there ↦ are.each m d t w at_d here.1 there.1
      | inr last ↦ absurd (omega (arith, here.0, last.0, are.count))
    ]
    | inr end ↦ elim (last_cases views v m w at_v) [
      | inl there ↦ absurd (omega (arith, end.0, there.0, are.count))
      | inr last ↦ subst (λ q. ShowsSeat d q w) end.1 (subst (ShowsSeat d s) last.1 (is d (subst (λ n. slice_get decls n ≡ Some d) end.0 at_d)))
    ]
  ];
}

take_length : {A : Type 0} (xs : List A) (k : ℕ) → k < length xs → length (take k xs) ≡ k
take_length [] k below = absurd (omega (arith, below))
take_length (x ∷ xs) zero below = refl
take_length (x ∷ xs) (suc k) below = ap suc (take_length xs k (omega (arith, below)))

take_at : {A : Type 0} (xs : List A) (k : ℕ) (d : A) → k < length xs → take (k + 1) xs ≡ take k xs ++ get_or xs k d ∷ []
take_at [] k d below = absurd (omega (arith, below))
take_at (y ∷ xs) zero d below = refl
take_at (y ∷ xs) (suc k) d below = let next : suc k + 1 ≡ suc (k + 1) = omega arith in rw next (ap (λ l. y ∷ l) (take_at xs k d (omega (arith, below))))

pub next_view : (decls : List DeclValue) (seats : List Seat) (k : ℕ) (d : DeclValue) (e : Seat) (dims : ℕ) → k < length seats → d ≡ get_or decls k d → dims ≡ d.dims → length seats ≡ length decls → (old new : List View) (v : View) → AreViewsOf decls (take k seats) old
    → Shows v (record { dims = dims; w = across (get_or seats k e); h = down (get_or seats k e) }) (λ x y. cell_at (get_or seats k e) x y)
    → new ≡ old ++ v ∷ [] → AreViewsOf decls (take (k + 1) seats) new
next_view decls seats k d e dims below is of_dims same old new v are shows added =
    let shows_it : ShowsSeat d (get_or seats k e) v = subst (λ n. Shows v (record { dims = n; w = across (get_or seats k e); h = down (get_or seats k e) }) (λ x y. cell_at (get_or seats k e) x y)) of_dims shows in
    let here : slice_get decls k ≡ Some d = get_at decls k d (omega (arith, below, same)) ∙ ap Some (sym is) in
    subst (AreViewsOf decls (take (k + 1) seats)) (sym added) (subst (λ l. AreViewsOf decls l (old ++ v ∷ [])) (sym (take_at seats k e below))
    (view_last decls (take k seats) old (get_or seats k e) v are (λ q at. subst (λ (z : DeclValue). ShowsSeat z (get_or seats k e) v) (some d q (sym here ∙ sym (ap (slice_get decls) (take_length seats k below)) ∙ at)) shows_it)))
  where
    some : (x y : DeclValue) → Some x ≡ Some y → x ≡ y
    some x y e = cc

natural_is : (z : ℤ) → pos 0 ≤ℤ z → pos (natural z) ≡ z
natural_is (pos n) h = refl
natural_is (negsuc n) h = absurd (omega (arith, ints, h))

-- ---- an instance whose matrices have their sides
module _ (matrices : List DeclValue) (v : InstanceValue) (views : List Read) (is : IsShowing matrices v views) where
  abbrev sizes : List ℕ
  sizes = sizes_of v.sizes

  pub count : length v.seats ≡ length matrices
  count = sym (zip_length (IsSeatFor sizes) matrices v.seats is.seats)

  pub laid : (vs : List View) → AreViewsOf matrices v.seats vs → AreLaid matrices sizes vs
  laid vs are = record {
    some = λ m d at. some_at vs m (omega (arith, get_below matrices m d at, are.count, count));
    width = λ m d w at there. let s = at_zip (IsSeatFor sizes) matrices v.seats is.seats m d at in ap (λ (q : Shape). pos q.w) (are.each m d s.0 w at s.1 there).shape ∙ ap pos s.2.width ∙ natural_is (exact_value d.w sizes) (is.natural m d at).0;
    height = λ m d w at there. let s = at_zip (IsSeatFor sizes) matrices v.seats is.seats m d at in ap (λ (q : Shape). pos q.h) (are.each m d s.0 w at s.1 there).shape ∙ ap pos s.2.height ∙ natural_is (exact_value d.h sizes) (is.natural m d at).1;
  }

  -- a span within a side
  low_high : (s : Span) (side : ℤ) → IsAlong s side → natural s.low ≤ natural s.high
  low_high s side a = by s.low s.high a.start a.order
    where
      by : (l h : ℤ) → pos 0 ≤ℤ l → l ≤ℤ h → natural l ≤ natural h
      by (pos l) (pos h) s o = omega (arith, ints, o)
      by (pos l) (negsuc h) s o = absurd (omega (arith, ints, o))
      by (negsuc l) h s o = absurd (omega (arith, ints, s))

  high_side : (s : Span) (side : ℤ) → IsAlong s side → natural s.high ≤ natural side
  high_side s side a = by s.high side a.end
    where
      by : (h w : ℤ) → h ≤ℤ w → natural h ≤ natural w
      by (pos h) (pos w) o = omega (arith, ints, o)
      by (pos h) (negsuc w) o = absurd (omega (arith, ints, o))
      by (negsuc h) w o = omega arith

  -- the view with this number, and where its matrix stands
  module _ (k : ℕ) (d : Read) (below : k < length views) where
    abbrev r : Read
    r = get_or views k d

    at : slice_get views k ≡ Some r
    at = get_at views k d below

    matrix : (m : DeclValue) × (slice_get matrices r.matrix ≡ Some m)
    matrix = some_at matrices r.matrix (is.can.there k d below)

    base_below : r.matrix < length v.seats
    base_below = omega (arith, is.can.there k d below, count)

    lies : LiesWithin (slice_index_or v.seats r.matrix no_seat) (whole_box matrices sizes r).rect
    lies =
        let m = matrix in
        let s = at_zip (IsSeatFor sizes) matrices v.seats is.seats r.matrix m.0 m.1 in
        let within : IsWithin (shown_at matrices sizes r 0 0) (exact_value m.0.w sizes) (exact_value m.0.h sizes) = subst (λ (a : Area). IsWithin a (exact_value m.0.w sizes) (exact_value m.0.h sizes)) (sym (shown_is matrices sizes r m.0 m.1 0 0)) (is.can.readable k r m.0 at m.1) in
        let a = shown_at matrices sizes r 0 0 in
        let right = high_side a.x (exact_value m.0.w sizes) within.x in
        let high = high_side a.y (exact_value m.0.h sizes) within.y in
        subst (λ q. LiesWithin q (rect_from a)) (sym (index_at v.seats r.matrix s.0 no_seat s.1)) (record {
          order_x = low_high a.x (exact_value m.0.w sizes) within.x;
          order_y = low_high a.y (exact_value m.0.h sizes) within.y;
          right = omega (arith, right, s.2.width);
          high = omega (arith, high, s.2.height);
        })

    module _ (boxes : List Spot) (are : boxes ≡ map (whole_box matrices sizes) views) (b : Spot) (is_box : b ≡ get_or boxes k b) where
      shows : b ≡ whole_box matrices sizes r
      shows = is_box ∙ ap (λ l. get_or l k b) are ∙ map_get (whole_box matrices sizes) views k d b below

      pub box_below : b.base < length v.seats
      box_below = omega (arith, base_below, ap (λ (s : Spot). s.base) shows)

      pub box_lies : LiesWithin (slice_index_or v.seats b.base no_seat) b.rect
      box_lies = subst (λ (s : Spot). LiesWithin (slice_index_or v.seats s.base no_seat) s.rect) (sym shows) lies

      pub shown : (s : Seat) (q : Read) → q ≡ r → s ≡ part_seat q.view (slice_index_or v.seats b.base no_seat) b.rect → s ≡ shown_seat matrices sizes v.seats r
      shown s q same h = h ∙ (λ m. part_seat (same m).view (slice_index_or v.seats (shows m).base no_seat) (shows m).rect)
