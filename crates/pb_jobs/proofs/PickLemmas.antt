-- The number of a cell among those of a rule's outputs, output by output.
use Rattle.std.proofs.Common.{◌≡◌, ◌∙◌, refl, sym, ap, ℕ, zero, suc, ◌+◌, ◌-◌, ◌*◌, ◌^◌, ◌<◌, ◌≤◌, ℤ, pos, Bool, true, false, List, [], ◌∷◌, length, map, drop, slice_get, Some, arith}
use Rattle.std.specs.Prelude.{if◌then◌else◌, slice_index_or}
use Rattle.std.proofs.lemmas.List.{drop-drop, drop_all}
use Rattle.pb_values.specs.Views.{HasPlace}
use Rattle.pb_links.specs.declared.places.Spot.{Spot}
use Rattle.pb_program.specs.Forms.{DeclValue}
use Rattle.pb_program.specs.Trees.{ProgRule, ProgTransform}
use Rattle.pb_program.specs.declared.view.Read.{Read}
use Rattle.pb_model.specs.Cells.{Cell, natural}
use Rattle.pb_model.specs.Equations.{in_outputs, shown_area, view_sides}
use Rattle.pb_model.specs.Lawful.{output_holds}
use Rattle.pb_eval.specs.CanRun.{at_variables, outs_needed}
use Rattle.pb_statements.specs.Outputs.{numbers_in}
use Rattle.pb_eval.specs.Running.{AreLeft}
use Rattle.pb_statements.specs.Stored.{numbers_of}
use Rattle.pb_statements.specs.declared.scratch.Scratch.{Scratch}
use Rattle.pb_jobs.specs.Instances.{InstanceValue, IsReady, of_sizes, of_transform}
use Rattle.pb_jobs.specs.Outputs.{CanGive, LiesAt}
use Rattle.pb_jobs.proofs.ListLemmas.{some_same}
use Rattle.pb_jobs.proofs.OutLemmas.{left_index}
use Rattle.pb_jobs.proofs.OutputLemmas.{all_few, corner_x, corner_y, holds_at, never_at, sides_at}
use Rattle.pb_jobs.proofs.PlaceLemmas.{place_below, swap}

-- ---- lists
drop_from : {A : Type 0} (xs : List A) (k : ℕ) (x : A) → slice_get xs k ≡ Some x → drop k xs ≡ x ∷ drop (suc k) xs
drop_from [] k x e = absurd (cc)
drop_from (y ∷ xs) zero x e = ap (λ z. z ∷ xs) (some_same y x e)
drop_from (y ∷ xs) (suc k) x e = drop_from xs k x e

drop_at : {A : Type 0} (xs : List A) (k : ℕ) (x : A) → slice_get xs k ≡ Some x → drop k xs ≡ x ∷ drop (k + 1) xs
drop_at xs k x e = let next : suc k ≡ k + 1 = omega arith in drop_from xs k x e ∙ ap (λ n. x ∷ drop n xs) next

index_drop : (xs : List ℤ) (k i : ℕ) → slice_index_or (drop k xs) i (pos 0) ≡ slice_index_or xs (k + i) (pos 0)
index_drop xs zero i = let e : i ≡ 0 + i = omega arith in ap (λ n. slice_index_or xs n (pos 0)) e
index_drop [] (suc k) i = refl
index_drop (x ∷ xs) (suc k) i = let e : suc (k + i) ≡ suc k + i = omega arith in index_drop xs k i ∙ ap (λ n. slice_index_or (x ∷ xs) n (pos 0)) e

-- ---- past some outputs of a rule, and past so many of their numbers
pub record IsPast (matrices : List DeclValue) (sizes : List ℕ) (c : Cell) (r : ProgRule) (k first : ℕ) : Type 0 where
  pub rest : (numbers : List ℤ) → in_outputs matrices sizes c r.outs numbers ≡ in_outputs matrices sizes c (drop k r.outs) (drop first numbers)
  pub sum : first + numbers_in (map (view_sides matrices sizes (at_variables 0 0)) (drop k r.outs)) ≡ outs_needed matrices sizes (at_variables 0 0) r

pub none_past : (matrices : List DeclValue) (sizes : List ℕ) (c : Cell) (r : ProgRule) → IsPast matrices sizes c r 0 0
none_past matrices sizes c r = record { rest = λ numbers. refl; sum = omega arith }

module _ {matrices : List DeclValue} {sizes : List ℕ} {c : Cell} {r : ProgRule} {k first : ℕ} (past : IsPast matrices sizes c r k first) where
  pub past_all : length r.outs ≤ k → (numbers : List ℤ) → in_outputs matrices sizes c r.outs numbers ≡ pos 0
  past_all end numbers = past.rest numbers ∙ ap (λ (l : List Read). in_outputs matrices sizes c l (drop first numbers)) (drop_all k r.outs end)

  module _ (out : Read) (at : slice_get r.outs k ≡ Some out) (w h : ℕ) (here : view_sides matrices sizes c out ≡ (w, h)) (there : view_sides matrices sizes (at_variables 0 0) out ≡ (w, h)) where
    rest_sum : first + (h * w + numbers_in (map (view_sides matrices sizes (at_variables 0 0)) (drop (k + 1) r.outs))) ≡ outs_needed matrices sizes (at_variables 0 0) r
    rest_sum =
        ap (λ (s : ℕ × ℕ). first + (s.1 * s.0 + numbers_in (map (view_sides matrices sizes (at_variables 0 0)) (drop (k + 1) r.outs)))) (sym there)
        ∙ ap (λ (l : List Read). first + numbers_in (map (view_sides matrices sizes (at_variables 0 0)) l)) (sym (drop_at r.outs k out at)) ∙ past.sum

    past_few : first + w * h ≤ outs_needed matrices sizes (at_variables 0 0) r
    past_few = omega (arith, rest_sum, swap w h)

    -- the next output has the cell, or not
    abbrev next_numbers : List ℤ → Bool → ℤ
    next_numbers numbers b = if b then slice_index_or (drop first numbers) ((c.y - natural (shown_area matrices sizes c out).y.low) * (view_sides matrices sizes c out).0 + (c.x - natural (shown_area matrices sizes c out).x.low)) (pos 0)
        else in_outputs matrices sizes c (drop (k + 1) r.outs) (drop ((view_sides matrices sizes c out).0 * (view_sides matrices sizes c out).1) (drop first numbers))

    opened : (numbers : List ℤ) → in_outputs matrices sizes c r.outs numbers ≡ next_numbers numbers (output_holds matrices sizes c out)
    opened numbers = past.rest numbers ∙ ap (λ (l : List Read). in_outputs matrices sizes c l (drop first numbers)) (drop_at r.outs k out at)

    past_more : output_holds matrices sizes c out ≡ false → (n : ℕ) → n ≡ w * h → IsPast matrices sizes c r (k + 1) (first + n)
    past_more no_place n count = record {
      rest = λ numbers.
          opened numbers ∙ ap (next_numbers numbers) no_place
          ∙ ap (in_outputs matrices sizes c (drop (k + 1) r.outs)) (ap (λ (s : ℕ × ℕ). drop (s.0 * s.1) (drop first numbers)) here ∙ drop-drop (w * h) first numbers ∙ ap (λ m. drop (first + m) numbers) (sym count));
      sum = omega (arith, rest_sum, swap w h, count);
    }

    past_here : output_holds matrices sizes c out ≡ true → (x0 y0 : ℕ) → natural (shown_area matrices sizes c out).x.low ≡ x0 → natural (shown_area matrices sizes c out).y.low ≡ y0
        → (numbers : List ℤ) → in_outputs matrices sizes c r.outs numbers ≡ slice_index_or numbers (first + ((c.y - y0) * w + (c.x - x0))) (pos 0)
    past_here holds x0 y0 left low numbers =
        opened numbers ∙ ap (next_numbers numbers) holds ∙ index_drop numbers first ((c.y - natural (shown_area matrices sizes c out).y.low) * (view_sides matrices sizes c out).0 + (c.x - natural (shown_area matrices sizes c out).x.low))
        ∙ ap (λ (s : ℕ × ℕ). slice_index_or numbers (first + ((c.y - natural (shown_area matrices sizes c out).y.low) * s.0 + (c.x - natural (shown_area matrices sizes c out).x.low))) (pos 0)) here
        ∙ ap (λ y. slice_index_or numbers (first + ((c.y - y) * w + (c.x - natural (shown_area matrices sizes c out).x.low))) (pos 0)) low
        ∙ ap (λ x. slice_index_or numbers (first + ((c.y - y0) * w + (c.x - x))) (pos 0)) left

-- ---- at a rectangle that is the next output
module _ {v : InstanceValue} (is : IsReady v) {k : ℕ} (can : CanGive v k) {c : Cell} {j first : ℕ} (past : IsPast (of_transform v).matrices (of_sizes v) c can.rule j first) {s : Spot} (lies : LiesAt (of_transform v).matrices (of_sizes v) can.rule.outs j s) where
  abbrev t : ProgTransform
  t = of_transform v

  abbrev sizes : List ℕ
  sizes = of_sizes v

  pub few : first + (s.rect.x1 - s.rect.x0) * (s.rect.y1 - s.rect.y0) ≤ outs_needed t.matrices sizes (at_variables 0 0) can.rule
  few = past_few past lies.out lies.there (s.rect.x1 - s.rect.x0) (s.rect.y1 - s.rect.y0) (sides_at is can lies c) (sides_at is can lies (at_variables 0 0))

  pub small : (s.rect.x1 - s.rect.x0) * (s.rect.y1 - s.rect.y0) < 2 ^ 64
  small = omega (arith, few, all_few is can)

  pub fits : first + (s.rect.x1 - s.rect.x0) * (s.rect.y1 - s.rect.y0) < 2 ^ 64
  fits = omega (arith, few, all_few is can)

  pub past_it : (s.base ≡ c.matrix → HasPlace s.rect c.x c.y → ⊥) → (n : ℕ) → n ≡ (s.rect.x1 - s.rect.x0) * (s.rect.y1 - s.rect.y0) → IsPast t.matrices sizes c can.rule (j + 1) (first + n)
  past_it never n count =
      past_more past lies.out lies.there (s.rect.x1 - s.rect.x0) (s.rect.y1 - s.rect.y0) (sides_at is can lies c) (sides_at is can lies (at_variables 0 0)) (never_at is can lies c never) n count

  -- which has the cell
  module _ (same : s.base ≡ c.matrix) (place : HasPlace s.rect c.x c.y) (n : ℕ) (number : n ≡ (c.y - s.rect.y0) * (s.rect.x1 - s.rect.x0) + (c.x - s.rect.x0)) where
    pub below : first + n < outs_needed t.matrices sizes (at_variables 0 0) can.rule
    below = omega (arith, few, place_below s.rect c.x c.y place, number)

    pub sum_fits : first + n < 2 ^ 64
    sum_fits = omega (arith, below, all_few is can)

    pub picked : (body : Scratch) (numbers : List ℤ) (z : ℤ) → AreLeft (length numbers) body numbers → length numbers ≡ outs_needed t.matrices sizes (at_variables 0 0) can.rule
        → z ≡ slice_index_or (numbers_of body) (first + n) (pos 0) → z ≡ in_outputs t.matrices sizes c can.rule.outs numbers
    picked body numbers z left count e =
        e ∙ left_index (length numbers) body numbers (first + n) left (omega (arith, below, count)) ∙ ap (λ m. slice_index_or numbers (first + m) (pos 0)) number
        ∙ sym (past_here past lies.out lies.there (s.rect.x1 - s.rect.x0) (s.rect.y1 - s.rect.y0) (sides_at is can lies c) (sides_at is can lies (at_variables 0 0)) (holds_at is can lies c same place) s.rect.x0 s.rect.y0 (corner_x is can lies c) (corner_y is can lies c) numbers)
