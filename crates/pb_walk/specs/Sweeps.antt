-- How the places of one piece follow each other: line by line.
use Rattle.std.specs.Prelude.{◌≡◌, ℕ, ◌<◌, ◌≤◌, ◌==◌, true, false, if◌then◌else◌}
use Rattle.std.specs.Ordering.{is_le, is_lt, ordering_then}
use Rattle.std.specs.declared.cmp.Ordering.{Ordering}
use Rattle.pb_linear.specs.declared.boxes.Sign.{Sign}
use Rattle.pb_linear.specs.declared.boxes.Sign.TheVariants.{Plus}
use Rattle.pb_linear.specs.declared.boxes.Step.{Step}
use Rattle.pb_values.specs.declared.rect.Rect.{Rect}
use Rattle.pb_values.specs.Views.{HasPlace}
use Rattle.pb_walk.specs.declared.course.Sweep.{Sweep}
use Rattle.pb_walk.specs.declared.numbers.Span.{Span}
use Rattle.pb_walk.specs.Orders.{by_sign}

-- two pairs of numbers, by the first, and those with the same first number by the second
unfoldable pub by_pair : Sign → Sign → ℕ → ℕ → ℕ → ℕ → Ordering
by_pair outer inner u v a b = ordering_then (by_sign outer u a) (by_sign inner v b)

-- two places, column by column or row by row
abbrev pub by_sweep : Sweep → ℕ → ℕ → ℕ → ℕ → Ordering
by_sweep w x y a b = if w.columns then by_pair w.outer w.inner x y a b else by_pair w.outer w.inner y x b a

-- the direction on the other axis than that of a first step
abbrev pub sign_across : Step → Step → Sign
sign_across s t = if s.axis == 0 then (if t.axis == 0 then Plus else t.sign) else (if t.axis == 0 then t.sign else Plus)

-- a number of a span
pub record IsOf (s : Span) (n : ℕ) : Type 0 where
  pub from : s.low ≤ n
  pub below : n < s.high

-- the numbers of a span before the next one are those up to this one
pub record IsNext (sign : Sign) (s : Span) (at next : ℕ) : Type 0 where
  pub inside : IsOf s next
  pub before : (u : ℕ) → IsOf s u → is_lt (by_sign sign u next) ≡ is_le (by_sign sign u at)

abbrev pub IsLast : Sign → Span → ℕ → Type 0
IsLast sign s at = (u : ℕ) → IsOf s u → is_le (by_sign sign u at) ≡ true

pub record IsFirst (sign : Sign) (s : Span) (first : ℕ) : Type 0 where
  pub inside : IsOf s first
  pub before : (u : ℕ) → IsOf s u → is_lt (by_sign sign u first) ≡ false

-- the same of pairs
pub record IsNextPair (outer inner : Sign) (s t : Span) (a b : ℕ) (next : ℕ × ℕ) : Type 0 where
  pub first : IsOf s next.0
  pub second : IsOf t next.1
  pub before : (u v : ℕ) → IsOf s u → IsOf t v → is_lt (by_pair outer inner u v next.0 next.1) ≡ is_le (by_pair outer inner u v a b)

abbrev pub IsLastPair : Sign → Sign → Span → Span → ℕ → ℕ → Type 0
IsLastPair outer inner s t a b = (u v : ℕ) → IsOf s u → IsOf t v → is_le (by_pair outer inner u v a b) ≡ true

-- and of places
pub record IsNextPlace (w : Sweep) (r : Rect) (a b : ℕ) (next : ℕ × ℕ) : Type 0 where
  pub inside : HasPlace r next.0 next.1
  pub before : (x y : ℕ) → HasPlace r x y → is_lt (by_sweep w x y next.0 next.1) ≡ is_le (by_sweep w x y a b)

abbrev pub IsLastPlace : Sweep → Rect → ℕ → ℕ → Type 0
IsLastPlace w r a b = (x y : ℕ) → HasPlace r x y → is_le (by_sweep w x y a b) ≡ true

pub record IsFirstPlace (w : Sweep) (r : Rect) (first : ℕ × ℕ) : Type 0 where
  pub inside : HasPlace r first.0 first.1
  pub before : (x y : ℕ) → HasPlace r x y → is_lt (by_sweep w x y first.0 first.1) ≡ false
