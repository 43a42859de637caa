-- The first cells of what a rule reads, along a line.
use Rattle.std.proofs.Common.{◌≡◌, ◌∙◌, refl, sym, ap, subst, ⊎_elim, ℕ, zero, suc, ◌+◌, ◌*◌, ◌%◌, ◌<◌, ◌≤◌, ◌^◌, List, [], ◌∷◌, ◌++◌, length, length-append, set, take, drop, get_or, slice_get, Option, Some, None, IfSome, IsTrue, false, true, arith}
use Rattle.std.specs.Prelude.{is_some}
use Rattle.std.specs.List.{All}
use Rattle.std.proofs.lemmas.Bool.{cases_lt}
use Rattle.std.proofs.lemmas.List.{get_or-map, length-map, map-append, map-set, take_more}
use Rattle.std.proofs.lemmas.Option.{get_or_from_slice_get, slice_get-get_or, slice_get_within}
use Rattle.std.proofs.Math.Nat.{add-mod, mod-add-mod, mod-eq_of_lt}
use Rattle.pb_values.specs.Cells.{Turn}
use Rattle.pb_values.specs.Views.{cell_of}
use Rattle.pb_values.specs.declared.shape.Shape.{Shape}
use Rattle.pb_values.specs.declared.view.View.{View}
use Rattle.pb_program.specs.declared.expression.Expr.{Expr}
use Rattle.pb_program.specs.declared.view.Read.{Read}
use Rattle.pb_eval.specs.FirstCells.{BeginAt}
use Rattle.pb_eval.specs.Moving.{cell_at, cells_at}
use Rattle.pb_statements.specs.Shown.{IsTold}
use Rattle.pb_eval.specs.Terms.{StandFor, TermsValue}
use Rattle.pb_eval.specs.declared.moving.Moving.{Moving}
use Rattle.pb_views.specs.declared.window.Window.{Window}
use Rattle.pb_walk.specs.declared.stretch.Stretch.{Stretch}
use Rattle.pb_jobs.specs.Advances.{AreAdvances, AreShaped, AreWithinAlong}
use Rattle.pb_jobs.specs.Distances.{CanMove, IsFromTo, IsMoved, IsShaped, IsStep}
use Rattle.pb_jobs.specs.Instances.{HasFormula, InstanceValue}
use Rattle.pb_jobs.specs.Lines.{AreTermsOf, ShowFrom, first_cells}
use Rattle.pb_jobs.specs.declared.advance.Advance.{Advance}
use Rattle.pb_jobs.specs.declared.advance.Distance.{Distance}
use Rattle.pb_jobs.specs.declared.advance.Distance.TheVariants.{Up, Down}
use Rattle.pb_jobs.proofs.AdvanceLemmas.{AreHalfShown, can_go, goes_on, half_begun, half_done, half_more, moved_shaped, shaped_set}
use Rattle.pb_jobs.proofs.ListLemmas.{some_at, some_same}
use Rattle.pb_jobs.proofs.ShownLemmas.{last_of, left_of}

-- while they move: the first ones are those of views at the next place, and the others of views still at this one
pub record ShowHalf (matrices : List View) (s : Stretch) (i k : ℕ) (rs : List Read) (ws : List Window) (advs : List Advance) (cells : List ℕ) : Type 0 where
  pub views : List View
  pub half : AreHalfShown matrices rs ws s i k views
  pub shaped : AreShaped advs views
  pub first : first_cells views ≡ cells

-- ---- some of one list, and the rest of another
mix_none : (new old : List ℕ) → take 0 new ++ drop 0 old ≡ old
mix_none [] [] = refl
mix_none [] (y ∷ ys) = refl
mix_none (x ∷ xs) [] = refl
mix_none (x ∷ xs) (y ∷ ys) = refl

mix_get : (new old : List ℕ) (k d : ℕ) → k < length new → k < length old → get_or (take k new ++ drop k old) k d ≡ get_or old k d
mix_get [] old k d h g = absurd (omega (arith, h))
mix_get (x ∷ xs) [] k d h g = absurd (omega (arith, g))
mix_get (x ∷ xs) (y ∷ ys) zero d h g = refl
mix_get (x ∷ xs) (y ∷ ys) (suc k) d h g = mix_get xs ys k d (omega (arith, h)) (omega (arith, g))

mix_next : (new old : List ℕ) (k d : ℕ) → k < length new → k < length old → take (suc k) new ++ drop (suc k) old ≡ set (take k new ++ drop k old) k (get_or new k d)
mix_next [] old k d h g = absurd (omega (arith, h))
mix_next (x ∷ xs) [] k d h g = absurd (omega (arith, g))
mix_next (x ∷ xs) (y ∷ ys) zero d h g = ap (λ l. x ∷ l) (mix_none xs ys)
mix_next (x ∷ xs) (y ∷ ys) (suc k) d h g = ap (λ l. x ∷ l) (mix_next xs ys k d (omega (arith, h)) (omega (arith, g)))

mix_all : (new old : List ℕ) (n : ℕ) → n ≡ length new → n ≡ length old → take n new ++ drop n old ≡ new
mix_all [] [] n h g = rw h refl
mix_all [] (y ∷ ys) n h g = absurd (omega (arith, h, g))
mix_all (x ∷ xs) [] n h g = absurd (omega (arith, h, g))
mix_all (x ∷ xs) (y ∷ ys) zero h g = absurd (omega (arith, h))
mix_all (x ∷ xs) (y ∷ ys) (suc n) h g = ap (λ l. x ∷ l) (mix_all xs ys n (omega (arith, h)) (omega (arith, g)))

-- ---- a cell at the next place
module _ (m : Moving) (i first next : ℕ) (is : first ≡ cell_at i m) (small : next < 2 ^ 64) where
  one_on : cell_at (i + 1) m ≡ (first + m.by) % 2 ^ 64
  one_on =
      let e : m.from + (i + 1) * m.by ≡ m.from + i * m.by + m.by = omega arith in
      ap (λ n. n % 2 ^ 64) e ∙ sym (mod-add-mod (m.from + i * m.by) (2 ^ 64) m.by) ∙ ap (λ n. (n + m.by) % 2 ^ 64) (sym is)

  pub goes : (far : Distance) → IsStep far m.by → IsFromTo first next far → cell_at (i + 1) m ≡ next
  goes (Up by) step far = one_on ∙ ap (λ n. n % 2 ^ 64) (ap (λ n. first + n) step ∙ far) ∙ mod-eq_of_lt small
  goes (Down by) step far =
      let e : first + m.by ≡ next + (m.by + by) = omega (arith, far) in
      let z : next % 2 ^ 64 + 0 ≡ next = omega (arith, mod-eq_of_lt small) in
      one_on ∙ ap (λ n. n % 2 ^ 64) e ∙ add-mod next (m.by + by) (2 ^ 64) ∙ ap (λ n. (next % 2 ^ 64 + n) % 2 ^ 64) step ∙ ap (λ n. n % 2 ^ 64) z ∙ mod-eq_of_lt small

module _ (matrices : List View) (rs : List Read) (ws : List Window) (s : Stretch) where
  pub half_from : (i : ℕ) (advs : List Advance) (cells : List ℕ) → ShowFrom matrices s i rs ws advs cells → ShowHalf matrices s i 0 rs ws advs cells
  half_from i advs cells h = record { views = h.views; half = half_begun matrices rs ws s i h.views h.shown; shaped = h.shaped; first = h.first }

  pub from_half : (i k : ℕ) (advs : List Advance) (cells : List ℕ) → length rs ≤ k → ShowHalf matrices s i k rs ws advs cells → ShowFrom matrices s (i + 1) rs ws advs cells
  from_half i k advs cells all h = record { views = h.views; shown = half_done matrices rs ws s i k h.views all h.half; shaped = h.shaped; first = h.first }

  module _ (along : AreWithinAlong matrices rs ws s) (as_many : length ws ≡ length rs) (i : ℕ) (below : i + 1 < s.count) (k : ℕ) (there : k < length rs) (advs : List Advance) (are : AreAdvances matrices s rs ws (length rs) advs) (cells : List ℕ) (h : ShowHalf matrices s i k rs ws advs cells)
      (a : Advance) (at_a : slice_get advs k ≡ Some a) (d : ℕ) where
    abbrev view : (v : View) × (slice_get h.views k ≡ Some v)
    view = some_at h.views k (omega (arith, h.half.count, there))

    first_is : view.0.first ≡ get_or cells k d
    first_is = ap (λ (v : View). v.first) (some_same view.0 (get_or h.views k view.0) (sym view.1 ∙ slice_get-get_or h.views k view.0 (omega (arith, h.half.count, there))))
        ∙ sym (get_or-map (λ (v : View). v.first) h.views k view.0 d (omega (arith, h.half.count, there))) ∙ ap (λ l. get_or l k d) h.first

    pub can_next : CanMove a (get_or cells k d)
    can_next = subst (CanMove a) first_is (can_go matrices rs ws s along i below k there as_many h.views (h.half.still k (omega arith)) advs are view.0 view.1 a at_a)

    module _ (c : ℕ) (far : IsFromTo (get_or cells k d) c a.far) (small : c + (a.shape.w * a.step_x + a.shape.h * a.step_y) ≤ 2 ^ 63) where
      abbrev next : View
      next = record { first = c; step_x = a.step_x; step_y = a.step_y; shape = a.shape; small = small }

      is_moved : IsMoved a view.0.first next
      is_moved = record { far = subst (λ f. IsFromTo f c a.far) (sym first_is) far; step_x = refl; step_y = refl; shape = refl }

      pub half_on : (new : List ℕ) → new ≡ set cells k c → ShowHalf matrices s i (k + 1) rs ws advs new
      half_on new e = record {
        views = set h.views k next;
        half = half_more matrices rs ws s i k h.views (set h.views k next) next h.half (goes_on matrices rs ws s along i below k there as_many h.views (h.half.still k (omega arith)) advs are view.0 view.1 a at_a next is_moved) refl;
        shaped = shaped_set advs h.views (set h.views k next) k next h.shaped (λ b at_b. subst (λ (q : Advance). IsShaped q next) (some_same a b (sym at_a ∙ at_b)) (moved_shaped a view.0.first next is_moved)) refl;
        first = map-set (λ (v : View). v.first) h.views k next ∙ ap (λ l. set l k c) h.first ∙ sym e;
      }

  pub as_many_cells : (i : ℕ) (advs : List Advance) (ms : List Moving) → ShowFrom matrices s i rs ws advs (cells_at ms i) → length ms ≡ length rs
  as_many_cells i advs ms h = sym (length-map ms (cell_at i)) ∙ ap length (sym h.first) ∙ length-map h.views (λ (v : View). v.first) ∙ h.shown.count

  -- ---- at the place after it
  module _ (along : AreWithinAlong matrices rs ws s) (as_many : length ws ≡ length rs) (i : ℕ) (below : i + 1 < s.count) (advs : List Advance) (are : AreAdvances matrices s rs ws (length rs) advs) (ms : List Moving)
      (steps : (k : ℕ) (a : Advance) (m : Moving) → slice_get advs k ≡ Some a → slice_get ms k ≡ Some m → IsStep a.far m.by) (here : ShowFrom matrices s i rs ws advs (cells_at ms i)) where
    abbrev old : List ℕ
    old = cells_at ms i

    abbrev new : List ℕ
    new = cells_at ms (i + 1)

    many : length ms ≡ length rs
    many = as_many_cells i advs ms here

    in_old : (k : ℕ) → k < length rs → k < length old
    in_old k h = omega (arith, h, many, length-map ms (cell_at i))

    in_new : (k : ℕ) → k < length rs → k < length new
    in_new k h = omega (arith, h, many, length-map ms (cell_at (i + 1)))

    at_place : (j k : ℕ) (m : Moving) → k < length rs → slice_get ms k ≡ Some m → get_or (cells_at ms j) k 0 ≡ cell_at j m
    at_place j k m h at_m = get_or-map (cell_at j) ms k m 0 (omega (arith, h, many)) ∙ ap (cell_at j) (get_or_from_slice_get ms k m m at_m)

    half_at : (k : ℕ) → k ≤ length rs → ShowHalf matrices s i k rs ws advs (take k new ++ drop k old)
    half_at zero le = subst (ShowHalf matrices s i 0 rs ws advs) (sym (mix_none new old)) (half_from i advs old here)
    half_at (suc k) le =
        let there : k < length rs = omega (arith, le) in
        let h = half_at k (omega (arith, le)) in
        let a = some_at advs k (omega (arith, there, are.count)) in
        let m = some_at ms k (omega (arith, there, many)) in
        let first : get_or (take k new ++ drop k old) k 0 ≡ cell_at i m.0 = mix_get new old k 0 (in_new k there) (in_old k there) ∙ at_place i k m.0 there m.1 in
        let can = can_next along as_many i below k there advs are (take k new ++ drop k old) h a.0 a.1 0 in
        let next : get_or new k 0 ≡ can.next = at_place (i + 1) k m.0 there m.1 ∙ goes m.0 i (get_or (take k new ++ drop k old) k 0) can.next first (omega (arith, can.small)) a.0.far (steps k a.0 m.0 a.1 m.1) can.far in
        let e : k + 1 ≡ suc k = omega arith in
        subst (λ n. ShowHalf matrices s i n rs ws advs (take (suc k) new ++ drop (suc k) old)) e
        (half_on along as_many i below k there advs are (take k new ++ drop k old) h a.0 a.1 0 (get_or new k 0)
        (subst (λ n. IsFromTo (get_or (take k new ++ drop k old) k 0) n a.0.far) (sym next) can.far)
        (subst (λ n. n + (a.0.shape.w * a.0.step_x + a.0.shape.h * a.0.step_y) ≤ 2 ^ 63) (sym next) can.small)
        (take (suc k) new ++ drop (suc k) old) (mix_next new old k 0 (in_new k there) (in_old k there)))

    pub all_on : ShowFrom matrices s (i + 1) rs ws advs new
    all_on = from_half i (length rs) advs new (omega arith)
        (subst (ShowHalf matrices s i (length rs) rs ws advs) (mix_all new old (length rs) (omega (arith, many, length-map ms (cell_at (i + 1)))) (omega (arith, many, length-map ms (cell_at i)))) (half_at (length rs) (omega arith)))

  -- what advances are of isn't empty
  pub begin_at : (i : ℕ) (advs : List Advance) (cells : List ℕ) → length ws ≡ length rs → AreAdvances matrices s rs ws (length rs) advs → (h : ShowFrom matrices s i rs ws advs cells) → BeginAt cells h.views
  begin_at i advs cells as_many are h = record {
    first = h.first;
    some = λ k d below.
        let v = get_or h.views k d in
        let at_v : slice_get h.views k ≡ Some v = slice_get-get_or h.views k d below in
        let r = some_at rs k (omega (arith, below, h.shown.count)) in
        let w = some_at ws k (omega (arith, below, h.shown.count, as_many)) in
        let a = some_at advs k (omega (arith, below, h.shown.count, are.count)) in
        let shown = h.shown.each k r.0 w.0 v r.1 w.1 at_v in
        let is = are.each k r.0 w.0 a.0 shown.matrix r.1 w.1 a.1 shown.at in
        let shape = (h.shaped k a.0 v a.1 at_v).shape in
        (subst (λ (q : Shape). 0 < q.w) (sym shape) is.wide, subst (λ (q : Shape). 0 < q.h) (sym shape) is.tall);
  }

-- where the cells of views are told, so are their first cells
pub told_first : (turn : Turn) (cells : List ℕ) (views : List View) → BeginAt cells views → All (IsTold turn) views → All (λ c. IsTrue (is_some (turn.outcomes c))) cells
told_first turn cells views h told k d below =
    let there : k < length views = omega (arith, ap length (sym h.first), length-map views (λ (v : View). v.first), below) in
    let v = some_at views k there in
    let start : cell_of (get_or views k v.0) 0 0 ≡ get_or cells k d = omega (arith, sym (get_or-map (λ (u : View). u.first) views k v.0 d there) ∙ ap (λ (l : List ℕ). get_or l k d) h.first) in
    let some = h.some k v.0 there in
    subst (λ n. IsTrue (is_some (turn.outcomes n))) start ((told k v.0 there).told 0 0 some.0 some.1)

-- ---- while they are noted
pub noted_count : (old new : List Moving) (m : Moving) (k : ℕ) → length old ≡ k → new ≡ old ++ m ∷ [] → length new ≡ k + 1
noted_count old new m k count e = ap length e ∙ omega (arith, length-append old (m ∷ []), count)

pub noted_first : (views : List View) (k : ℕ) (v : View) (old new : List Moving) (by : ℕ) → slice_get views k ≡ Some v → cells_at old 0 ≡ first_cells (take k views) → new ≡ old ++ (record { from = v.first; by = by }) ∷ [] → cells_at new 0 ≡ first_cells (take (k + 1) views)
noted_first views k v old _ by at_v before e =
    let z : v.first + 0 * by ≡ v.first = omega arith in
    let start : cell_at 0 (record { from = v.first; by = by }) ≡ v.first = ap (λ n. n % 2 ^ 64) z ∙ mod-eq_of_lt (omega (arith, v.small)) in
    ap (λ l. cells_at l 0) e ∙ map-append (cell_at 0) old (record { from = v.first; by = by } ∷ []) ∙ (λ j. before j ++ start j ∷ [])
    ∙ sym (map-append (λ (u : View). u.first) (take k views) (v ∷ [])) ∙ ap first_cells (sym (take_more views k v (slice_get_within views k v at_v) ∙ ap (λ u. take k views ++ u ∷ []) (get_or_from_slice_get views k v v at_v)))

pub noted_by : (advs : List Advance) (k : ℕ) (a : Advance) (old new : List Moving) (m : Moving) → length old ≡ k → slice_get advs k ≡ Some a
    → ((j : ℕ) (b : Advance) (n : Moving) → slice_get advs j ≡ Some b → slice_get old j ≡ Some n → IsStep b.far n.by) → IsStep a.far m.by → new ≡ old ++ m ∷ []
    → (j : ℕ) (b : Advance) (n : Moving) → slice_get advs j ≡ Some b → slice_get new j ≡ Some n → IsStep b.far n.by
noted_by advs k a old _ m count at_a before step e j b n at_b at_n = ⊎_elim
    (λ (less : j < length old). before j b n at_b (sym (left_of old (m ∷ []) j less) ∙ ap (λ (l : List Moving). slice_get l j) (sym e) ∙ at_n))
    (λ (more : length old ≤ j).
    let last = last_of old m j n more (ap (λ (l : List Moving). slice_get l j) (sym e) ∙ at_n) in
    let here : a ≡ b = some_same a b (sym at_a ∙ ap (slice_get advs) (sym (last.0 ∙ count)) ∙ at_b) in
    subst (λ (p : Advance × Moving). IsStep p.0.far p.1.by) (λ i. (here i, last.1 i)) step)
    (cases_lt j (length old))

-- ---- the terms of a formula, if there is one
pub terms_of : {A : Type 0} (value : A → Expr) (v : InstanceValue) (k : ℕ) (t : TermsValue) (o : Option A) → IsTrue (is_some o) → IfSome o (λ e. HasFormula v k (value e)) → IfSome o (λ e. StandFor (value e) t) → AreTermsOf v k t
terms_of value v k t None some is stand = absurd (let wrong : false ≡ true = some in cc)
terms_of value v k t (Some e) some is stand = record { formula = value e; is = is; stand = stand }
