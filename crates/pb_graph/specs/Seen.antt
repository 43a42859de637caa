-- What is known of a read by the cells of an area: where all that is read stands.
use Rattle.std.specs.Prelude.{◌≡◌, ℕ, ◌==◌, ℤ, Bool, false, ◌&&◌, ◌||◌, not, if◌then◌else◌, List, [], ◌∷◌}
use Rattle.std.specs.List.{list_all, list_any}
use Rattle.std.specs.Option.{option_to_list}
use Rattle.pb_linear.specs.Form.{value}
use Rattle.pb_linear.specs.declared.boxes.ReadBox.{ReadBox}
use Rattle.pb_linear.specs.declared.boxes.Sign.{Sign}
use Rattle.pb_linear.specs.declared.boxes.Sign.TheVariants.{Plus, Minus}
use Rattle.pb_linear.specs.declared.boxes.Step.{Step}
use Rattle.pb_linear.specs.declared.vform.SymBox.{SymBox}
use Rattle.pb_linear.specs.declared.vform.VForm.{VForm}
use Rattle.pb_graph.specs.declared.standing.Standing.{Standing}
use Rattle.pb_graph.specs.declared.seen.Seen.{Seen}
use Rattle.pb_graph.specs.declared.seen.StepList.{StepList}
use Rattle.pb_graph.specs.Edges.{at_or_before_by, before_by}
use Rattle.pb_graph.specs.Expressions.{own}

-- a form of the coordinate on an axis plus a number
pub record IsOwn (axis : ℕ) (ahead : ℤ) (v : VForm) : Type 0 where
  pub x : v.x ≡ (own axis).x
  pub y : v.y ≡ (own axis).y
  pub rest : (sizes : List ℕ) → value v.rest sizes ≡ ahead

-- where all that is read stands, by a step
abbrev pub standing_at : List ℕ → SymBox → ReadBox → ℕ → Sign → Standing
standing_at leasts area r axis sign = record { before = before_by leasts area r axis sign; at_or_before = at_or_before_by leasts area r axis sign }

unfoldable pub seen_at : List ℕ → SymBox → ReadBox → Seen
seen_at leasts area r = record {
  wide = r.wide;
  x_plus = standing_at leasts area r 0 Plus;
  x_minus = standing_at leasts area r 0 Minus;
  y_plus = standing_at leasts area r 1 Plus;
  y_minus = standing_at leasts area r 1 Minus;
}

abbrev pub standing_by : Seen → ℕ → Sign → Standing
standing_by s axis Plus = if axis == 0 then s.x_plus else s.y_plus
standing_by s axis Minus = if axis == 0 then s.x_minus else s.y_minus

-- ---- lists
abbrev pub steps_of : StepList → List Step
steps_of l = l.first ∷ option_to_list l.second

abbrev pub fits_by : Seen → List Step → Bool
fits_by s [] = false
fits_by s (a ∷ []) = (standing_by s a.axis a.sign).before
fits_by s (a ∷ b ∷ _) = (standing_by s a.axis a.sign).before || ((standing_by s a.axis a.sign).at_or_before && (standing_by s b.axis b.sign).before)

-- ---- all that a segment reads of another
module _ (reads : List Seen) where
  abbrev pub serves_by : List Step → Bool
  serves_by list = list_all (λ s. not s.wide && fits_by s list) reads

  abbrev pub all_at_by : ℕ → Sign → Bool
  all_at_by axis sign = list_all (λ s. (standing_by s axis sign).at_or_before) reads

  abbrev pub all_before_by : ℕ → Sign → Bool
  all_before_by axis sign = list_all (λ s. (standing_by s axis sign).before) reads

  abbrev pub is_wide_by : Bool
  is_wide_by = list_any (λ s. s.wide) reads

  unfoldable pub mark_by : ℕ → ℕ
  mark_by axis =
      if is_wide_by then 5
      else if all_at_by axis Plus && all_at_by axis Minus then 0
      else if all_before_by axis Plus then 1
      else if all_before_by axis Minus then 2
      else if all_at_by axis Plus then 3
      else if all_at_by axis Minus then 4
      else 5
