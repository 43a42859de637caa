-- A run gives what its rule gives.
use Rattle.std.proofs.Common.{◌≡◌, ◌∙◌, sym, ap, subst, ℕ, ◌≤◌, ℤ, pos, List, length, length-take, map, Option, Some, None, Ok, Err, Result, arith}
use Rattle.pb_linear.specs.Sizes.{sizes_of}
use Rattle.pb_linear.specs.declared.sizes.Sizes.{Sizes}
use Rattle.pb_values.specs.Cells.{Turn}
use Rattle.pb_values.specs.declared.outcome.Kind.{Kind}
use Rattle.pb_values.specs.declared.outcome.Trap.{Trap}
use Rattle.pb_values.specs.declared.view.View.{View}
use Rattle.pb_program.specs.Forms.{DeclValue}
use Rattle.pb_program.specs.declared.statement.Stmt.{Stmt}
use Rattle.pb_program.specs.declared.view.Read.{Read}
use Rattle.pb_program.specs.Stmts.{StmtValue, bare_stmt, stmts}
use Rattle.pb_program.specs.Trees.{ProgRule}
use Rattle.pb_model.specs.Bodies.{Store, left_by, outputs_from}
use Rattle.pb_model.specs.Equations.{after_body, bindings, first_trap, number_in, rule_gives, trap_of, unless_trapped, view_sides}
use Rattle.pb_eval.specs.CanRun.{AreReads, at_variables, IsRunnable, outs_needed}
use Rattle.pb_statements.specs.Outputs.{free_sides, numbers_in}
use Rattle.pb_eval.specs.Running.{AreLeft, Gives, names_of, Runs}
use Rattle.pb_statements.specs.Stored.{numbers_of, outs_of}
use Rattle.pb_statements.specs.Shown.{seen_by}
use Rattle.pb_eval.specs.declared.run.Fault.{Fault}
use Rattle.pb_eval.specs.declared.run.Fault.TheVariants.{Body, Told}
use Rattle.pb_statements.specs.declared.scratch.Scratch.{Scratch}
use Rattle.pb_eval.proofs.CutLemmas.{all_free, cut_is, outs_free}

module _ (sides : List (ℕ × ℕ)) (T : Kind → Trap) (s : Scratch) where
  counted : (n : ℕ) (these : List ℤ) → AreLeft n s these → n ≡ length these
  unfolding outs_of numbers_of
  counted n these h = omega (arith, h.room, ap length h.left, length-take n s.numbers.items)

  pub gives_ok : (o : Option Trap) (L : Result Store Kind) (n : ℕ) → Runs o sides L (Ok n) s → Gives (unless_trapped o (after_body L (λ st. outputs_from 0 st sides) T)) (Ok n) s
  gives_ok (Some t) L n h = absurd (cc)
  gives_ok None (Ok st) n h = (h, counted n (outputs_from 0 st sides) h)
  gives_ok None (Err k) n h = absurd h

  pub gives_told : (o : Option Trap) (L : Result Store Kind) (t : Trap) → Runs o sides L (Err (Told t)) s → Gives (unless_trapped o (after_body L (λ st. outputs_from 0 st sides) T)) (Err t) s
  gives_told (Some u) L t h = cc
  gives_told None (Ok st) t h = absurd h
  gives_told None (Err k) t h = absurd (cc)

  pub gives_body : (o : Option Trap) (L : Result Store Kind) (k : Kind) (u : Trap) → Runs o sides L (Err (Body k)) s → u ≡ T k → Gives (unless_trapped o (after_body L (λ st. outputs_from 0 st sides) T)) (Err u) s
  gives_body (Some t) L k u h e = absurd (cc)
  gives_body None (Ok st) k u h e = absurd h
  gives_body None (Err m) k u h e = let same : k ≡ m = cc in e ∙ ap T same

module _ (turn : Turn) (matrices : List DeclValue) (s : Sizes) (x y t r : ℕ) (rule : ProgRule) (views : List View) (run : IsRunnable matrices rule) (reads : AreReads matrices (sizes_of s) (at_variables x y) rule views turn) where
  free : map (view_sides matrices (sizes_of s) (at_variables x y)) rule.outs ≡ map (free_sides matrices (sizes_of s)) rule.outs
  free = all_free matrices (sizes_of s) (at_variables x y) rule.outs (outs_free rule.kind rule.outs run.kind run.fits) run.there

  names : bindings matrices (sizes_of s) (at_variables x y) rule (map number_in (seen_by turn views)) ≡ names_of turn s x y views (map (free_sides matrices (sizes_of s)) rule.outs)
  unfolding names_of
  names =
      let cut = cut_is turn views (map (view_sides matrices (sizes_of s) (at_variables x y)) rule.reads) reads.sides in
      λ i. record { sizes = sizes_of s; x = pos x; y = pos y; reads = cut i; outs = free i }

  pub rule_is : rule_gives matrices (sizes_of s) (at_variables x y) t r rule (seen_by turn views)
      ≡ unless_trapped (first_trap (seen_by turn views)) (after_body (left_by (names_of turn s x y views (map (free_sides matrices (sizes_of s)) rule.outs)) (stmts rule.body))
      (λ st. outputs_from 0 st (map (free_sides matrices (sizes_of s)) rule.outs)) (trap_of matrices (sizes_of s) (at_variables x y) t r rule))
  unfolding rule_gives
  rule_is =
      ap (λ b. unless_trapped (first_trap (seen_by turn views)) (after_body (left_by b (stmts rule.body)) (λ st. outputs_from 0 st (map (view_sides matrices (sizes_of s) (at_variables x y)) rule.outs)) (trap_of matrices (sizes_of s) (at_variables x y) t r rule))) names
      ∙ ap (λ l. unless_trapped (first_trap (seen_by turn views)) (after_body (left_by (names_of turn s x y views (map (free_sides matrices (sizes_of s)) rule.outs)) (stmts rule.body)) (λ st. outputs_from 0 st l) (trap_of matrices (sizes_of s) (at_variables x y) t r rule))) free

  -- of parts that are those of the rule
  pub runs_here : (outs : List Read) (body : List Stmt) (ms : List DeclValue) (q p : Result ℕ Fault) (z : Scratch) → outs ≡ rule.outs → map bare_stmt body ≡ rule.body → ms ≡ matrices → q ≡ p
      → Runs (first_trap (seen_by turn views)) (map (free_sides ms (sizes_of s)) outs) (left_by (names_of turn s x y views (map (free_sides ms (sizes_of s)) outs)) (stmts (map bare_stmt body))) q z
      → Runs (first_trap (seen_by turn views)) (map (free_sides matrices (sizes_of s)) rule.outs) (left_by (names_of turn s x y views (map (free_sides matrices (sizes_of s)) rule.outs)) (stmts rule.body)) p z
  runs_here outs body ms q p z eo eb em eq h =
      subst (λ (w : Result ℕ Fault). Runs (first_trap (seen_by turn views)) (map (free_sides matrices (sizes_of s)) rule.outs) (left_by (names_of turn s x y views (map (free_sides matrices (sizes_of s)) rule.outs)) (stmts rule.body)) w z) eq
      (subst (λ (l : List StmtValue). Runs (first_trap (seen_by turn views)) (map (free_sides matrices (sizes_of s)) rule.outs) (left_by (names_of turn s x y views (map (free_sides matrices (sizes_of s)) rule.outs)) (stmts l)) q z) eb
      (subst (λ (l : List Read). Runs (first_trap (seen_by turn views)) (map (free_sides matrices (sizes_of s)) l) (left_by (names_of turn s x y views (map (free_sides matrices (sizes_of s)) l)) (stmts (map bare_stmt body))) q z) eo
      (subst (λ (m : List DeclValue). Runs (first_trap (seen_by turn views)) (map (free_sides m (sizes_of s)) outs) (left_by (names_of turn s x y views (map (free_sides m (sizes_of s)) outs)) (stmts (map bare_stmt body))) q z) em h)))

  -- the room for outputs
  pub room_here : (outs : List Read) (ms : List DeclValue) (n : ℕ) → outs ≡ rule.outs → ms ≡ matrices → outs_needed matrices (sizes_of s) (at_variables x y) rule ≤ n → numbers_in (map (free_sides ms (sizes_of s)) outs) ≤ n
  room_here outs ms n eo em h =
      let e : numbers_in (map (free_sides ms (sizes_of s)) outs) ≡ numbers_in (map (view_sides matrices (sizes_of s) (at_variables x y)) rule.outs)
      = ap (λ m. numbers_in (map (free_sides m (sizes_of s)) outs)) em ∙ ap (λ l. numbers_in (map (free_sides matrices (sizes_of s)) l)) eo ∙ ap numbers_in (sym free) in
      omega (arith, e, h)

  module _ (z : Scratch) (q : Result ℕ Trap) where
    pub given_by : Gives (unless_trapped (first_trap (seen_by turn views)) (after_body (left_by (names_of turn s x y views (map (free_sides matrices (sizes_of s)) rule.outs)) (stmts rule.body))
        (λ st. outputs_from 0 st (map (free_sides matrices (sizes_of s)) rule.outs)) (trap_of matrices (sizes_of s) (at_variables x y) t r rule))) q z → Gives (rule_gives matrices (sizes_of s) (at_variables x y) t r rule (seen_by turn views)) q z
    given_by h = subst (λ (w : Result (List ℤ) Trap). Gives w q z) (sym rule_is) h
