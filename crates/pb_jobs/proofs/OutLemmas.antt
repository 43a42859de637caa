-- The numbers of a rule's outputs, as they stand in a scratch.
use Rattle.std.proofs.Common.{◌≡◌, ◌∙◌, refl, sym, ap, ℕ, zero, suc, ◌+◌, ◌*◌, ◌<◌, ℤ, pos, List, [], ◌∷◌, length, map, take, Option, Some, None, arith, length-append}
use Rattle.std.specs.Prelude.{Result, Ok, Err, slice_index_or}
use Rattle.std.specs.List.{flat_map, range_with_len}
use Rattle.pb_values.specs.declared.outcome.Kind.{Kind}
use Rattle.pb_values.specs.declared.outcome.Outcome.{Outcome}
use Rattle.pb_values.specs.declared.outcome.Trap.{Trap}
use Rattle.pb_program.specs.Forms.{DeclValue}
use Rattle.pb_program.specs.Stmts.{stmts}
use Rattle.pb_program.specs.Trees.{ProgRule}
use Rattle.pb_model.specs.Bodies.{Store, left_by, output, output_cells, outputs_from}
use Rattle.pb_model.specs.Cells.{Cell}
use Rattle.pb_model.specs.Equations.{after_body, bindings, first_trap, number_in, rule_gives, trap_of, unless_trapped, view_sides}
use Rattle.pb_eval.specs.CanRun.{outs_needed}
use Rattle.pb_statements.specs.Outputs.{numbers_in}
use Rattle.pb_eval.specs.Running.{AreLeft}
use Rattle.pb_statements.specs.Stored.{numbers_of, outs_of}
use Rattle.pb_statements.specs.declared.scratch.Scratch.{Scratch}

row_count : {A : Type 0} (g : ℕ → A) (b n : ℕ) → length (map g (range_with_len b n)) ≡ n
row_count g b zero = refl
row_count g b (suc n) = ap suc (row_count g (b + 1) n)

rows_count : {A : Type 0} (f : ℕ → ℕ → A) (w a h : ℕ) → length (flat_map (λ y. map (λ x. f x y) (range_with_len 0 w)) (range_with_len a h)) ≡ h * w
rows_count f w a zero = omega arith
rows_count f w a (suc h) =
    omega (arith, length-append (map (λ x. f x a) (range_with_len 0 w)) (flat_map (λ y. map (λ x. f x y) (range_with_len 0 w)) (range_with_len (a + 1) h)), row_count (λ x. f x a) 0 w, rows_count f w (a + 1) h)

outputs_count : (k : ℕ) (st : Store) (ss : List (ℕ × ℕ)) → length (outputs_from k st ss) ≡ numbers_in ss
outputs_count k st [] = refl
outputs_count k st (s ∷ ss) = omega (arith, length-append (output_cells st k s) (outputs_from (k + 1) st ss), rows_count (λ x y. st (output k x y)) s.0 0 s.1, outputs_count (k + 1) st ss)

-- a rule gives as many numbers as its outputs have
pub gives_count : (matrices : List DeclValue) (sizes : List ℕ) (c : Cell) (t k : ℕ) (r : ProgRule) (seen : List Outcome) (numbers : List ℤ) → rule_gives matrices sizes c t k r seen ≡ Ok numbers → length numbers ≡ outs_needed matrices sizes c r
unfolding rule_gives
gives_count matrices sizes c t k r seen numbers e = by (first_trap seen) (left_by (bindings matrices sizes c r (map number_in seen)) (stmts r.body)) e
  where
    ok_same : (xs ys : List ℤ) → ◌≡◌ {A = Result (List ℤ) Trap} (Ok xs) (Ok ys) → xs ≡ ys
    ok_same xs ys h = cc

    by : (o : Option Trap) (b : Result Store Kind) → unless_trapped o (after_body b (λ st. outputs_from 0 st (map (view_sides matrices sizes c) r.outs)) (trap_of matrices sizes c t k r)) ≡ Ok numbers → length numbers ≡ numbers_in (map (view_sides matrices sizes c) r.outs)
    by (Some u) b h = absurd (cc)
    by None (Ok st) h = ap length (sym (ok_same (outputs_from 0 st (map (view_sides matrices sizes c) r.outs)) numbers h)) ∙ outputs_count 0 st (map (view_sides matrices sizes c) r.outs)
    by None (Err x) h = absurd (cc)

taken_index : (xs : List ℤ) (n k : ℕ) → k < n → slice_index_or (take n xs) k (pos 0) ≡ slice_index_or xs k (pos 0)
taken_index xs zero k h = absurd (omega (arith, h))
taken_index [] (suc n) k h = refl
taken_index (x ∷ xs) (suc n) zero h = refl
taken_index (x ∷ xs) (suc n) (suc k) h = taken_index xs n k (omega (arith, h))

-- a number that is left
pub left_index : (n : ℕ) (s : Scratch) (numbers : List ℤ) (k : ℕ) → AreLeft n s numbers → k < n → slice_index_or (numbers_of s) k (pos 0) ≡ slice_index_or numbers k (pos 0)
left_index n s numbers k h below = sym (taken_index (numbers_of s) n k below) ∙ ap (λ l. slice_index_or l k (pos 0)) h.left

pub left_room : (n : ℕ) (s : Scratch) (numbers : List ℤ) (k : ℕ) → AreLeft n s numbers → k < n → k < outs_of s
left_room n s numbers k h below = omega (arith, h.room, below)
