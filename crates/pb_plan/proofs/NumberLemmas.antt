-- The numbers of cells of matrices that stand one after the other.
use Rattle.std.proofs.Common.{◌≡◌, ◌∙◌, refl, sym, ap, subst, ⊎_elim, ℕ, zero, suc, ◌+◌, ◌*◌, ◌-◌, ◌≤◌, ◌<◌, List, [], ◌∷◌, take, slice_get, Some, arith}
use Rattle.std.proofs.lemmas.Bool.{cases_lt}
use Rattle.pb_values.specs.Views.{cell_of}
use Rattle.pb_values.specs.declared.view.View.{View}
use Rattle.pb_program.specs.Forms.{DeclValue}
use Rattle.pb_views.specs.Layouts.{AreInARow, IsWhole, area_at, cell_count, shape_of}

-- ---- a place of a rectangle, row by row
times_mono : (w a b : ℕ) → a ≤ b → a * w ≤ b * w
times_mono w zero b h = omega arith
times_mono w (suc a) zero h = absurd (omega (arith, h))
times_mono w (suc a) (suc b) h = omega (arith, times_mono w a b (omega (arith, h)))

pub row_below : (w h x y : ℕ) → x < w → y < h → y * w + x < w * h
row_below w h x y on_x on_y = omega (arith, on_x, times_mono w (y + 1) h (omega (arith, on_y)), swap w h, next w y)
  where
    swap : (a b : ℕ) → a * b ≡ b * a
    swap a b = grind arith

    next : (a b : ℕ) → (b + 1) * a ≡ b * a + a
    next a b = grind arith

-- each number below the area is one place's
pub row_at : (w h n : ℕ) → n < w * h → (x : ℕ) × (y : ℕ) × (x < w) × (y < h) × (n ≡ y * w + x)
row_at w zero n below = absurd (let z : w * 0 ≡ 0 = grind arith in omega (arith, below, z))
row_at w (suc h) n below = ⊎_elim
    (λ (low : n < w * h). let r = row_at w h n low in (r.0, r.1, r.2, omega (arith, r.3), r.4))
    (λ (late : w * h ≤ n).
    let all : w * suc h ≡ w * h + w = grind arith in
    let swap : w * h ≡ h * w = grind arith in
    (n - w * h, h, omega (arith, below, all, late), omega arith, omega (arith, late, swap)))
    (cases_lt n (w * h))

pub row_once : (w x y u v : ℕ) → x < w → u < w → y * w + x ≡ v * w + u → (x ≡ u) × (y ≡ v)
row_once w x y u v on_x on_u e = ⊎_elim
    (λ (less : y < v). absurd (omega (arith, e, on_x, times_mono w (y + 1) v (omega (arith, less)), next w y)))
    (λ (more : v ≤ y). ⊎_elim
    (λ (greater : v < y). absurd (omega (arith, e, on_u, times_mono w (v + 1) y (omega (arith, greater)), next w v)))
    (λ (least : y ≤ v). let same : y ≡ v = omega (arith, more, least) in (omega (arith, e, ap (λ k. k * w) same), same))
    (cases_lt v y))
    (cases_lt y v)
  where
    next : (a b : ℕ) → (b + 1) * a ≡ b * a + a
    next a b = grind arith

module _ (sizes : List ℕ) where
  -- the cells of the matrices before one
  abbrev pub before : List DeclValue → ℕ → ℕ
  before ds m = cell_count sizes (take m ds)

  some_same : {A : Type 0} (x y : A) → Some x ≡ Some y → x ≡ y
  some_same x y e = cc

  -- a matrix of those that stand in a row
  pub whole_at : (first : ℕ) (ds : List DeclValue) (vs : List View) → AreInARow first sizes ds vs → (m : ℕ) (d : DeclValue) (v : View) → slice_get ds m ≡ Some d → slice_get vs m ≡ Some v → IsWhole (first + before ds m) sizes d v
  whole_at first [] vs h m d v e f = absurd (cc)
  whole_at first (c ∷ ds) [] h m d v e f = absurd h
  whole_at first (c ∷ ds) (u ∷ vs) h zero d v e f =
      let start : first ≡ first + 0 = omega arith in
      subst (λ n. IsWhole n sizes d v) start (subst (λ (w : View). IsWhole first sizes d w) (some_same u v f) (subst (λ (b : DeclValue). IsWhole first sizes b u) (some_same c d e) h.0))
  whole_at first (c ∷ ds) (u ∷ vs) h (suc m) d v e f = subst (λ n. IsWhole n sizes d v) (omega arith) (whole_at (first + area_at sizes c) ds vs h.1 m d v e f)

  pub view_at : (first : ℕ) (ds : List DeclValue) (vs : List View) → AreInARow first sizes ds vs → (m : ℕ) (d : DeclValue) → slice_get ds m ≡ Some d → (v : View) × (slice_get vs m ≡ Some v)
  view_at first [] vs h m d e = absurd (cc)
  view_at first (c ∷ ds) [] h m d e = absurd h
  view_at first (c ∷ ds) (u ∷ vs) h zero d e = (u, refl)
  view_at first (c ∷ ds) (u ∷ vs) h (suc m) d e = view_at (first + area_at sizes c) ds vs h.1 m d e

  pub before_next : (ds : List DeclValue) (m : ℕ) (d : DeclValue) → slice_get ds m ≡ Some d → before ds (m + 1) ≡ before ds m + area_at sizes d
  before_next [] m d e = absurd (cc)
  before_next (c ∷ ds) zero d e = omega (arith, ap (area_at sizes) (some_same c d e))
  before_next (c ∷ ds) (suc m) d e = let at : suc m + 1 ≡ suc (m + 1) = omega arith in omega (arith, before_next ds m d e, ap (before (c ∷ ds)) at)

  pub before_mono : (ds : List DeclValue) (m n : ℕ) → m ≤ n → before ds m ≤ before ds n
  before_mono ds zero n h = omega arith
  before_mono [] (suc m) n h = omega arith
  before_mono (d ∷ ds) (suc m) zero h = absurd (omega (arith, h))
  before_mono (d ∷ ds) (suc m) (suc n) h = omega (arith, before_mono ds m n (omega (arith, h)))

  pub before_all : (ds : List DeclValue) (m : ℕ) → before ds m ≤ cell_count sizes ds
  before_all ds zero = omega arith
  before_all [] (suc m) = omega arith
  before_all (d ∷ ds) (suc m) = omega (arith, before_all ds m)

  module _ (first : ℕ) (ds : List DeclValue) (vs : List View) (row : AreInARow first sizes ds vs) where
    -- a cell of a matrix
    pub record IsNumbered (m x y n : ℕ) : Type 0 where
      pub decl : DeclValue
      pub there : slice_get ds m ≡ Some decl
      pub view : View
      pub at : slice_get vs m ≡ Some view
      pub on_x : x < (shape_of sizes decl).w
      pub on_y : y < (shape_of sizes decl).h
      pub is : n ≡ cell_of view x y

    pub number_is : (m x y n : ℕ) (c : IsNumbered m x y n) → n ≡ first + before ds m + (y * (shape_of sizes c.decl).w + x)
    number_is m x y n c = c.is ∙ (whole_at first ds vs row m c.decl c.view c.there c.at).cells x y c.on_x c.on_y

    pub number_within : (m x y n : ℕ) (c : IsNumbered m x y n) → (first + before ds m ≤ n) × (n < first + before ds (m + 1))
    number_within m x y n c =
        let is = number_is m x y n c in
        let low = row_below (shape_of sizes c.decl).w (shape_of sizes c.decl).h x y c.on_x c.on_y in
        (omega (arith, is), omega (arith, is, low, before_next ds m c.decl c.there))

    pub number_below : (m x y n : ℕ) → IsNumbered m x y n → n < first + cell_count sizes ds
    number_below m x y n c = omega (arith, (number_within m x y n c).1, before_all ds (m + 1))

    pub number_once : (m x y k u v n : ℕ) → IsNumbered m x y n → IsNumbered k u v n → (m ≡ k) × (x ≡ u) × (y ≡ v)
    number_once m x y k u v n c d = ⊎_elim
        (λ (less : m < k). absurd (omega (arith, (number_within m x y n c).1, (number_within k u v n d).0, before_mono ds (m + 1) k (omega (arith, less)))))
        (λ (more : k ≤ m). ⊎_elim
        (λ (greater : k < m). absurd (omega (arith, (number_within k u v n d).1, (number_within m x y n c).0, before_mono ds (k + 1) m (omega (arith, greater)))))
        (λ (least : m ≤ k).
        let same : m ≡ k = omega (arith, more, least) in
        let decl : c.decl ≡ d.decl = some_same c.decl d.decl (sym c.there ∙ ap (slice_get ds) same ∙ d.there) in
        let wide : (shape_of sizes c.decl).w ≡ (shape_of sizes d.decl).w = ap (λ (b : DeclValue). (shape_of sizes b).w) decl in
        let place = row_once (shape_of sizes c.decl).w x y u v c.on_x (omega (arith, d.on_x, wide)) (omega (arith, number_is m x y n c, number_is k u v n d, ap (before ds) same, ap (λ w. v * w) wide)) in
        (same, place.0, place.1))
        (cases_lt k m))
        (cases_lt m k)

  pub number_some : (first : ℕ) (ds : List DeclValue) (vs : List View) (row : AreInARow first sizes ds vs) (n : ℕ) → n < cell_count sizes ds → (m : ℕ) × (x : ℕ) × (y : ℕ) × IsNumbered first ds vs row m x y (first + n)
  number_some first [] vs row n below = absurd (omega (arith, below))
  number_some first (d ∷ ds) [] row n below = absurd row
  number_some first (d ∷ ds) (v ∷ vs) row n below = ⊎_elim
      (λ (here : n < area_at sizes d).
      let r = row_at (shape_of sizes d).w (shape_of sizes d).h n here in
      (0, r.0, r.1, record { decl = d; there = refl; view = v; at = refl; on_x = r.2; on_y = r.3; is = omega (arith, row.0.cells r.0 r.1 r.2 r.3, r.4) }))
      (λ (later : area_at sizes d ≤ n).
      let rest = number_some (first + area_at sizes d) ds vs row.1 (n - area_at sizes d) (omega (arith, later, below)) in
      let c = rest.3 in
      (suc rest.0, rest.1, rest.2, record { decl = c.decl; there = c.there; view = c.view; at = c.at; on_x = c.on_x; on_y = c.on_y; is = omega (arith, c.is, later) }))
      (cases_lt n (area_at sizes d))
