-- What a part's cells read lies in the box over its corner cells.
use Rattle.std.proofs.Common.{◌≡◌, ◌∙◌, sym, ap, subst, inl, inr, ◌⊎◌, ℕ, zero, suc, ◌<◌, ◌≤◌, ◌-◌, ℤ, pos, negsuc, ◌+ℤ◌, ◌*ℤ◌, ◌≤ℤ◌, Bool, true, false, arith}
use Rattle.std.specs.Prelude.{◌*◌, max, min, if◌then◌else◌}
use Rattle.std.specs.Int.{int_max, int_min}
use Rattle.std.proofs.Math.IntN.{negsuc-*ℤ-pos, pos-*ℤ-pos}
use Rattle.std.proofs.lemmas.Int.{ints}
use Rattle.pb_values.specs.declared.rect.Rect.{Rect}
use Rattle.pb_values.specs.declared.view.View.{View}
use Rattle.pb_program.specs.Areas.{Area, IsIn, Span, from_start, one_place}
use Rattle.pb_program.specs.declared.view.ReadView.{ReadView}
use Rattle.pb_program.specs.declared.view.ReadView.TheVariants as view
use Rattle.pb_views.specs.declared.line.Line.{Line}
use Rattle.pb_views.specs.declared.window.Window.{Window}
use Rattle.pb_views.specs.Hulls.{hull_of, joined, joined_span}
use Rattle.pb_views.specs.Lines.{line_at}
use Rattle.pb_views.specs.Windows.{IsRect, area_by, shown_by}

-- ---- least and greatest
min_pos : (a b : ℕ) → pos (min a b) ≡ int_min (pos a) (pos b)
min_pos a b = grind (arith, ints)

max_pos : (a b : ℕ) → pos (max a b) ≡ int_max (pos a) (pos b)
max_pos a b = grind (arith, ints)

pub joined_rect : (p q : Area) (a b r : Rect) → r ≡ record { x0 = min a.x0 b.x0; y0 = min a.y0 b.y0; x1 = max a.x1 b.x1; y1 = max a.y1 b.y1 } → IsRect p a → IsRect q b → IsRect (joined p q) r
joined_rect p q a b r e ha hb = subst (IsRect (joined p q)) (sym e) (record {
  left = min_pos a.x0 b.x0 ∙ ap (λ k. int_min k (pos b.x0)) ha.left ∙ ap (int_min p.x.low) hb.left;
  right = max_pos a.x1 b.x1 ∙ ap (λ k. int_max k (pos b.x1)) ha.right ∙ ap (int_max p.x.high) hb.right;
  low = min_pos a.y0 b.y0 ∙ ap (λ k. int_min k (pos b.y0)) ha.low ∙ ap (int_min p.y.low) hb.low;
  high = max_pos a.y1 b.y1 ∙ ap (λ k. int_max k (pos b.y1)) ha.high ∙ ap (int_max p.y.high) hb.high;
})

min_low : (a b v : ℤ) → (a ≤ℤ v) ⊎ (b ≤ℤ v) → int_min a b ≤ℤ v
min_low a b v (inl h) = grind (arith, ints)
min_low a b v (inr h) = grind (arith, ints)

max_high : (a b v : ℤ) → (v ≤ℤ a) ⊎ (v ≤ℤ b) → v ≤ℤ int_max a b
max_high a b v (inl h) = grind (arith, ints)
max_high a b v (inr h) = grind (arith, ints)

-- one of four is at most another, or at least
abbrev Some4 : (ℤ → Type 0) → ℤ → ℤ → ℤ → ℤ → Type 0
Some4 P a b c d = (P a ⊎ P b) ⊎ (P c ⊎ P d)

min_of : (a b c d v : ℤ) → Some4 (λ k. k ≤ℤ v) a b c d → int_min (int_min a b) (int_min c d) ≤ℤ v
min_of a b c d v (inl h) = min_low (int_min a b) (int_min c d) v (inl (min_low a b v h))
min_of a b c d v (inr h) = min_low (int_min a b) (int_min c d) v (inr (min_low c d v h))

max_of : (a b c d v : ℤ) → Some4 (λ k. v ≤ℤ k) a b c d → v ≤ℤ int_max (int_max a b) (int_max c d)
max_of a b c d v (inl h) = max_high (int_max a b) (int_max c d) v (inl (max_high a b v h))
max_of a b c d v (inr h) = max_high (int_max a b) (int_max c d) v (inr (max_high c d v h))

-- ---- a coefficient times a number between two others
times_mono : (n a b : ℕ) → a ≤ b → n * a ≤ n * b
times_mono zero a b h = omega arith
times_mono (suc n) a b h = omega (arith, h, times_mono n a b h)

times_between : (a : ℤ) (lo x hi : ℕ) → lo ≤ x → x ≤ hi → (((a *ℤ pos lo) ≤ℤ (a *ℤ pos x)) × ((a *ℤ pos x) ≤ℤ (a *ℤ pos hi))) ⊎ (((a *ℤ pos hi) ≤ℤ (a *ℤ pos x)) × ((a *ℤ pos x) ≤ℤ (a *ℤ pos lo)))
times_between (pos n) lo x hi from to = inl (omega (arith, ints, pos-*ℤ-pos n lo, pos-*ℤ-pos n x, times_mono n lo x from), omega (arith, ints, pos-*ℤ-pos n hi, pos-*ℤ-pos n x, times_mono n x hi to))
times_between (negsuc n) lo x hi from to = inr (omega (arith, ints, negsuc-*ℤ-pos n hi, negsuc-*ℤ-pos n x, times_mono (suc n) x hi to), omega (arith, ints, negsuc-*ℤ-pos n lo, negsuc-*ℤ-pos n x, times_mono (suc n) lo x from))

module _ (x0 x x1 y0 y y1 : ℕ) (left : x0 ≤ x) (right : x ≤ x1) (low : y0 ≤ y) (high : y ≤ y1) where
  -- a line at a place, and at the corners
  module _ (lx ly lr : ℤ) where
    abbrev at : ℕ → ℕ → ℤ
    at u v = lr +ℤ (lx *ℤ pos u +ℤ ly *ℤ pos v)

    some_low : (k : ℤ) → Some4 (λ c. c ≤ℤ (at x y +ℤ k)) (at x0 y0 +ℤ k) (at x1 y0 +ℤ k) (at x0 y1 +ℤ k) (at x1 y1 +ℤ k)
    some_low k = by (times_between lx x0 x x1 left right) (times_between ly y0 y y1 low high)
      where
        by : (((lx *ℤ pos x0) ≤ℤ (lx *ℤ pos x)) × ((lx *ℤ pos x) ≤ℤ (lx *ℤ pos x1))) ⊎ (((lx *ℤ pos x1) ≤ℤ (lx *ℤ pos x)) × ((lx *ℤ pos x) ≤ℤ (lx *ℤ pos x0)))
            → (((ly *ℤ pos y0) ≤ℤ (ly *ℤ pos y)) × ((ly *ℤ pos y) ≤ℤ (ly *ℤ pos y1))) ⊎ (((ly *ℤ pos y1) ≤ℤ (ly *ℤ pos y)) × ((ly *ℤ pos y) ≤ℤ (ly *ℤ pos y0)))
            → Some4 (λ c. c ≤ℤ (at x y +ℤ k)) (at x0 y0 +ℤ k) (at x1 y0 +ℤ k) (at x0 y1 +ℤ k) (at x1 y1 +ℤ k)
        by (inl (a, b)) (inl (c, d)) = inl (inl (omega (arith, ints, a, c)))
        by (inr (a, b)) (inl (c, d)) = inl (inr (omega (arith, ints, a, c)))
        by (inl (a, b)) (inr (c, d)) = inr (inl (omega (arith, ints, a, c)))
        by (inr (a, b)) (inr (c, d)) = inr (inr (omega (arith, ints, a, c)))

    some_high : (k : ℤ) → Some4 (λ c. (at x y +ℤ k) ≤ℤ c) (at x0 y0 +ℤ k) (at x1 y0 +ℤ k) (at x0 y1 +ℤ k) (at x1 y1 +ℤ k)
    some_high k = by (times_between lx x0 x x1 left right) (times_between ly y0 y y1 low high)
      where
        by : (((lx *ℤ pos x0) ≤ℤ (lx *ℤ pos x)) × ((lx *ℤ pos x) ≤ℤ (lx *ℤ pos x1))) ⊎ (((lx *ℤ pos x1) ≤ℤ (lx *ℤ pos x)) × ((lx *ℤ pos x) ≤ℤ (lx *ℤ pos x0)))
            → (((ly *ℤ pos y0) ≤ℤ (ly *ℤ pos y)) × ((ly *ℤ pos y) ≤ℤ (ly *ℤ pos y1))) ⊎ (((ly *ℤ pos y1) ≤ℤ (ly *ℤ pos y)) × ((ly *ℤ pos y) ≤ℤ (ly *ℤ pos y0)))
            → Some4 (λ c. (at x y +ℤ k) ≤ℤ c) (at x0 y0 +ℤ k) (at x1 y0 +ℤ k) (at x0 y1 +ℤ k) (at x1 y1 +ℤ k)
        by (inl (a, b)) (inl (c, d)) = inr (inr (omega (arith, ints, b, d)))
        by (inr (a, b)) (inl (c, d)) = inr (inl (omega (arith, ints, b, d)))
        by (inl (a, b)) (inr (c, d)) = inl (inr (omega (arith, ints, b, d)))
        by (inr (a, b)) (inr (c, d)) = inl (inl (omega (arith, ints, b, d)))

    plain_low : Some4 (λ c. c ≤ℤ at x y) (at x0 y0) (at x1 y0) (at x0 y1) (at x1 y1)
    plain_low = drop_zero (some_low (pos 0))
      where
        drop_zero : Some4 (λ c. c ≤ℤ (at x y +ℤ pos 0)) (at x0 y0 +ℤ pos 0) (at x1 y0 +ℤ pos 0) (at x0 y1 +ℤ pos 0) (at x1 y1 +ℤ pos 0) → Some4 (λ c. c ≤ℤ at x y) (at x0 y0) (at x1 y0) (at x0 y1) (at x1 y1)
        drop_zero (inl (inl h)) = inl (inl (omega (arith, ints, h)))
        drop_zero (inl (inr h)) = inl (inr (omega (arith, ints, h)))
        drop_zero (inr (inl h)) = inr (inl (omega (arith, ints, h)))
        drop_zero (inr (inr h)) = inr (inr (omega (arith, ints, h)))

    plain_high : Some4 (λ c. at x y ≤ℤ c) (at x0 y0) (at x1 y0) (at x0 y1) (at x1 y1)
    plain_high = drop_zero (some_high (pos 0))
      where
        drop_zero : Some4 (λ c. (at x y +ℤ pos 0) ≤ℤ c) (at x0 y0 +ℤ pos 0) (at x1 y0 +ℤ pos 0) (at x0 y1 +ℤ pos 0) (at x1 y1 +ℤ pos 0) → Some4 (λ c. at x y ≤ℤ c) (at x0 y0) (at x1 y0) (at x0 y1) (at x1 y1)
        drop_zero (inl (inl h)) = inl (inl (omega (arith, ints, h)))
        drop_zero (inl (inr h)) = inl (inr (omega (arith, ints, h)))
        drop_zero (inr (inl h)) = inr (inl (omega (arith, ints, h)))
        drop_zero (inr (inr h)) = inr (inr (omega (arith, ints, h)))

  -- ---- spans
  abbrev pub four : (ℕ → ℕ → Span) → Span
  four s = joined_span (joined_span (s x0 y0) (s x1 y0)) (joined_span (s x0 y1) (s x1 y1))

  abbrev pub Holds4 : (ℕ → ℕ → Span) → Type 0
  Holds4 s = ((four s).low ≤ℤ (s x y).low) × ((s x y).high ≤ℤ (four s).high)

  pub fixed : (s : Span) → Holds4 (λ u v. s)
  fixed s = (min_of s.low s.low s.low s.low s.low (inl (inl (omega (arith, ints)))), max_of s.high s.high s.high s.high s.high (inl (inl (omega (arith, ints)))))

  pub single : (lx ly lr : ℤ) → Holds4 (λ u v. one_place (lr +ℤ (lx *ℤ pos u +ℤ ly *ℤ pos v)))
  single lx ly lr = (
    min_of (at lx ly lr x0 y0) (at lx ly lr x1 y0) (at lx ly lr x0 y1) (at lx ly lr x1 y1) (at lx ly lr x y) (plain_low lx ly lr),
    max_of (at lx ly lr x0 y0 +ℤ pos 1) (at lx ly lr x1 y0 +ℤ pos 1) (at lx ly lr x0 y1 +ℤ pos 1) (at lx ly lr x1 y1 +ℤ pos 1) (at lx ly lr x y +ℤ pos 1) (some_high lx ly lr (pos 1)),
  )

  pub pair : (lx ly lr mx my mr : ℤ) → Holds4 (λ u v. record { low = lr +ℤ (lx *ℤ pos u +ℤ ly *ℤ pos v); high = mr +ℤ (mx *ℤ pos u +ℤ my *ℤ pos v) })
  pair lx ly lr mx my mr = (min_of (at lx ly lr x0 y0) (at lx ly lr x1 y0) (at lx ly lr x0 y1) (at lx ly lr x1 y1) (at lx ly lr x y) (plain_low lx ly lr), max_of (at mx my mr x0 y0) (at mx my mr x1 y0) (at mx my mr x0 y1) (at mx my mr x1 y1) (at mx my mr x y) (plain_high mx my mr))

  pub maybe : (b : Bool) (s : ℕ → ℕ → Span) → Holds4 s → Holds4 (λ u v. if b then one_place (pos 0) else s u v)
  maybe true s h = fixed (one_place (pos 0))
  maybe false s h = h

  -- ---- areas
  module _ (w : Window) (width height : ℤ) where
    abbrev area : ReadView → ℕ → ℕ → Area
    area by u v = area_by w width height (pos u) (pos v) by

    of : (l : Line) → Holds4 (λ u v. one_place (line_at l (pos u) (pos v)))
    of l = single l.x l.y l.rest

    both : (l m : Line) → Holds4 (λ u v. record { low = line_at l (pos u) (pos v); high = line_at m (pos u) (pos v) })
    both l m = pair l.x l.y l.rest m.x m.y m.rest

    holds : (by : ReadView) → Holds4 (λ u v. (area by u v).x) × Holds4 (λ u v. (area by u v).y)
    holds view.Cell = (of w.x0, maybe w.flat (λ u v. one_place (line_at w.y0 (pos u) (pos v))) (of w.y0))
    holds view.Row = (fixed (from_start width), of w.y0)
    holds view.Column = (of w.x0, fixed (from_start height))
    holds view.Region = (both w.x0 w.x1, maybe w.flat (λ u v. record { low = line_at w.y0 (pos u) (pos v); high = line_at w.y1 (pos u) (pos v) }) (both w.y0 w.y1))
    holds view.Whole = (fixed (from_start width), fixed (from_start height))

pub in_hull : (w : Window) (matrix : View) (part : Rect) (x y : ℕ) (u v : ℤ) → part.x0 ≤ x → x < part.x1 → part.y0 ≤ y → y < part.y1 → IsIn (shown_by w matrix x y w.view) u v → IsIn (hull_of w matrix part) u v
unfolding hull_of
in_hull w matrix part x y u v left right low high h =
    let all = holds part.x0 x (part.x1 - 1) part.y0 y (part.y1 - 1) left (omega (arith, right)) low (omega (arith, high)) w (pos matrix.shape.w) (pos matrix.shape.h) w.view in
    record {
      left = omega (arith, ints, h.left, all.0.0);
      right = omega (arith, ints, h.right, all.0.1);
      low = omega (arith, ints, h.low, all.1.0);
      high = omega (arith, ints, h.high, all.1.1);
    }
