-- Places in a line, one after another.
use Rattle.std.specs.Prelude.{◌≡◌, ◌≢◌, ℕ, ◌-◌, ◌<◌, Bool, false, if◌then◌else◌, List, drop, Some, slice_get}
use Rattle.std.specs.declared.cmp.Ordering.TheVariants.{Less}
use Rattle.pb_linear.specs.declared.boxes.Step.{Step}
use Rattle.pb_values.specs.Views.{HasPlace}
use Rattle.pb_walk.specs.declared.course.Sweep.{Sweep}
use Rattle.pb_walk.specs.declared.cursor.Cursor.{Cursor}
use Rattle.pb_walk.specs.declared.stop.Stop.{Stop}
use Rattle.pb_walk.specs.declared.stretch.Stretch.{Stretch}
use Rattle.pb_walk.specs.Axes.{moved}
use Rattle.pb_walk.specs.Cursors.{head}
use Rattle.pb_walk.specs.Orders.{compare}
use Rattle.pb_walk.specs.Walks.{WalkValue, stop}

-- a place in a line that goes down or across, by its number in the line
abbrev pub column_in : Bool → ℕ → ℕ → ℕ
column_in down across n = if down then across else n

abbrev pub row_in : Bool → ℕ → ℕ → ℕ
row_in down across n = if down then n else across

-- the place of a stretch that is so many further than its first
abbrev pub place_on : Stretch → ℕ → Stop
place_on s i = stop s.piece s.base (column_in s.down s.across (moved s.sign i s.at)) (row_in s.down s.across (moved s.sign i s.at))

-- the places of a stretch are the next of a walk, and it goes on after them
pub record IsTaken (old new : WalkValue) (s : Stretch) : Type 0 where
  pub some : 0 < s.count
  pub places : (i : ℕ) → i < s.count → slice_get old.left i ≡ Some (place_on s i)
  pub rest : new ≡ record { all = old.all; left = drop s.count old.left; room = old.room }

-- ---- while a walk goes on
-- a stretch goes from the next place of a piece on along its line, and ends inside the piece
pub record IsLine (w : Sweep) (piece : ℕ) (c : Cursor) (s : Stretch) : Type 0 where
  pub of_piece : s.piece ≡ piece
  pub of_base : s.base ≡ c.spot.base
  pub of_down : s.down ≡ w.columns
  pub of_sign : s.sign ≡ w.inner
  pub column : column_in s.down s.across s.at ≡ c.x
  pub row : row_in s.down s.across s.at ≡ c.y
  pub some : 0 < s.count
  pub inside : HasPlace c.spot.rect (place_on s (s.count - 1)).x (place_on s (s.count - 1)).y

-- the first place of a stretch alone
pub record IsFirstAlone (old new : Stretch) : Type 0 where
  pub of_piece : new.piece ≡ old.piece
  pub of_base : new.base ≡ old.base
  pub of_down : new.down ≡ old.down
  pub of_across : new.across ≡ old.across
  pub of_at : new.at ≡ old.at
  pub of_sign : new.sign ≡ old.sign
  pub one : new.count ≡ 1

-- the piece of a cursor, before the last place of a stretch
pub record IsAtLast (c : Cursor) (s : Stretch) (e : Cursor) : Type 0 where
  pub spot : e.spot ≡ c.spot
  pub column : e.x ≡ (place_on s (s.count - 1)).x
  pub row : e.y ≡ (place_on s (s.count - 1)).y
  pub left : e.done ≡ false

-- the next place of a cursor, of the piece k, stands before the next places of the first n pieces but k
abbrev pub GoesFirst : List Step → List Cursor → ℕ → ℕ → Cursor → Type 0
GoesFirst steps cursors k n e = (j : ℕ) (c : Cursor) → j < n → j ≢ k → slice_get cursors j ≡ Some c → c.done ≡ false → compare steps (head k e) (head j c) ≡ Less
