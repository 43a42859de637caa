-- What a run leaves.
use Rattle.std.proofs.Common.{◌≡◌, ◌∙◌, refl, sym, ap, subst, ℕ, List, length, map, take, Option, Some, None, Ok, Err, Result, arith}
use Rattle.pb_linear.specs.declared.sizes.Sizes.{Sizes}
use Rattle.pb_values.specs.Cells.{Turn}
use Rattle.pb_values.specs.declared.outcome.Kind.{Kind}
use Rattle.pb_values.specs.declared.outcome.Trap.{Trap}
use Rattle.pb_values.specs.declared.view.View.{View}
use Rattle.pb_program.specs.declared.statement.Stmt.{Stmt}
use Rattle.pb_program.specs.Stmts.{bare_stmt, stmts}
use Rattle.pb_model.specs.Bodies.{Store, after_all, at_first, left_by, outputs_from}
use Rattle.pb_statements.specs.Outputs.{end_of}
use Rattle.pb_eval.specs.Running.{AreLeft, names_of, Runs}
use Rattle.pb_statements.specs.Stored.{numbers_of, outs_of, bound, SameRoom, sides_of, store_of}
use Rattle.pb_statements.specs.Shown.{around_of}
use Rattle.pb_statements.specs.Working.{stmts_in}
use Rattle.pb_eval.specs.declared.run.Fault.TheVariants.{Body, Told}
use Rattle.pb_statements.specs.declared.scratch.Scratch.{Scratch}
use Rattle.pb_statements.proofs.LayLemmas.{end_fits, outputs_are}

pub runs_trap : (o : Option Trap) (t : Trap) (sides : List (ℕ × ℕ)) (body : Result Store Kind) (s : Scratch) → Some t ≡ o → Runs o sides body (Err (Told t)) s
runs_trap o t sides body s e = subst (λ (o : Option Trap). Runs o sides body (Err (Told t)) s) e refl

pub runs_ok : (o : Option Trap) (sides : List (ℕ × ℕ)) (body : Result Store Kind) (st : Store) (n : ℕ) (s : Scratch) → None ≡ o → body ≡ Ok st → AreLeft n s (outputs_from 0 st sides) → Runs o sides body (Ok n) s
runs_ok o sides body st n s e b left = subst (λ (o : Option Trap). Runs o sides body (Ok n) s) e (subst (λ (r : Result Store Kind). Runs None sides r (Ok n) s) (sym b) left)

pub runs_err : (o : Option Trap) (sides : List (ℕ × ℕ)) (body : Result Store Kind) (k : Kind) (s : Scratch) → None ≡ o → body ≡ Err k → Runs o sides body (Err (Body k)) s
runs_err o sides body k s e b = subst (λ (o : Option Trap). Runs o sides body (Err (Body k)) s) e (subst (λ (r : Result Store Kind). Runs None sides r (Err (Body k)) s) (sym b) refl)

module _ (turn : Turn) (sizes : Sizes) (x y : ℕ) (views : List View) (sides : List (ℕ × ℕ)) where
  pub bound_names : (s : Scratch) → map sides_of s.spots.items ≡ sides → bound (around_of turn sizes x y views) s ≡ names_of turn sizes x y views sides
  unfolding bound around_of names_of
  bound_names s e = ap (λ l. record { sizes = (around_of turn sizes x y views).sizes; x = (around_of turn sizes x y views).x; y = (around_of turn sizes x y views).y; reads = (around_of turn sizes x y views).reads; outs = l }) e

  pub left_names : (body : List Stmt) (a : Scratch) (r : Result Store Kind) → map sides_of a.spots.items ≡ sides → store_of a ≡ at_first → stmts_in (bound (around_of turn sizes x y views) a) body (store_of a) ≡ r
      → left_by (names_of turn sizes x y views sides) (stmts (map bare_stmt body)) ≡ r
  unfolding stmts_in
  left_names body a r e z h = ap (λ st. after_all (names_of turn sizes x y views sides) (stmts (map bare_stmt body)) st) (sym z) ∙ ap (λ b. after_all b (stmts (map bare_stmt body)) (store_of a)) (sym (bound_names a e)) ∙ h

pub finished : (sides : List (ℕ × ℕ)) (a b : Scratch) (n : ℕ) → SameRoom a b → map sides_of a.spots.items ≡ sides → n ≡ end_of 0 a.spots.items → AreLeft n b (outputs_from 0 (store_of b) sides)
unfolding numbers_of outs_of store_of
finished sides a b n same e end =
    let end' : n ≡ end_of 0 b.spots.items = end ∙ ap (end_of 0) (sym same.spots) in
    record {
      room = omega (arith, end', end_fits 0 b.spots.items (length b.numbers.items) b.laid);
      left = ap (λ k. take k b.numbers.items) end' ∙ outputs_are b.numbers.items b.locals.items b.spots.items b.laid
          ∙ ap (outputs_from 0 (store_of b)) (ap (map sides_of) same.spots ∙ e);
    }
