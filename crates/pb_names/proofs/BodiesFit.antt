-- What the names of a body name is there, where none of them has a fault.
use Rattle.std.proofs.Common.{◌≡◌, ◌⊎◌, inl, inr, ℕ, suc, ◌+◌, ◌<◌, ◌≤◌, not, List, [], ◌∷◌, ◌++◌, length, map, Option, Some, None, is_some, refl, ap, subst, sym, ◌∙◌, arith}
use Rattle.std.specs.List.{AllByRecursion, flat_map}
use Rattle.std.specs.Option.{IfSome, option_map, option_map_or}
use Rattle.std.proofs.lemmas.List.{length-map}
use Rattle.pb_values.specs.Name.{NameValue}
use Rattle.pb_syntax.specs.declared.limits.TheConstants.{MOST_TERMS}
use Rattle.pb_syntax.specs.declared.tree.form.TermText.{TermText}
use Rattle.pb_syntax.specs.Forms.{FormValue}
use Rattle.pb_syntax.specs.WithinLimits.{Counts, DimsWithin, FirstIsPlain, FormWithin, StmtWithin, StmtsWithin, TermWithin}
use Rattle.pb_syntax.specs.Exprs.{ExprTree, ExprTrees, Operands}
use Rattle.pb_syntax.specs.Exprs as text
use Rattle.pb_syntax.specs.Stmts.{StmtTree, StmtTrees}
use Rattle.pb_syntax.specs.Stmts as text_stmt
use Rattle.pb_syntax.specs.TooMany as tree
use Rattle.pb_program.specs.declared.meaning.Meaning.{Meaning}
use Rattle.pb_program.specs.declared.meaning.Meaning.TheVariants as meaning
use Rattle.pb_program.specs.declared.meaning.Function.{Function}
use Rattle.pb_program.specs.Stmts.{stmts}
use Rattle.pb_program.specs.Stmts as to
use Rattle.pb_program.specs.WellFormed.{Around, AreExprs, AreOperands, AreStmts, IsCallee, IsDim, IsExpr, IsStmt, IsTerm, IsThere, NameIsThere, statements_among, statements_in}
use Rattle.pb_program.specs.WellFormed as fits
use Rattle.pb_names.specs.Names.{look}
use Rattle.pb_names.specs.Faults.{unknown}
use Rattle.pb_names.specs.Turns.{turns, turn_faults}
use Rattle.pb_names.specs.Bodies.{Visible, after, called, called_by, called_faults, callee_or, declare, expr_faults, expr_of, exprs_faults, exprs_of, form_faults, function_of, local_form, meaning_or, named, operands_faults, operands_of, stmt_faults, stmt_of, stmts_faults, stmts_of, term_faults, term_of, use_faults}
use Rattle.pb_names.proofs.ListFits.{all_push, all_same, all_three, both, clean_mapped, found_fits, within_mapped}
use Rattle.pb_names.proofs.FormsFit.{Fit}

-- the statements of a body as those of a block
pub body_is : (v : Visible) (ss : List StmtTree) → stmts (turns after stmt_of v ss) ≡ stmts_of v (text_stmt.stmts ss)
body_is v [] = refl
body_is v (s ∷ ss) = ap (to.a_stmt (stmt_of v s)) (body_is (after v s) ss)

pub body_faults_are : (v : Visible) (ss : List StmtTree) → turn_faults after stmt_faults v ss ≡ stmts_faults v (text_stmt.stmts ss)
body_faults_are v [] = refl
body_faults_are v (s ∷ ss) = ap (λ rest. stmt_faults v s ++ rest) (body_faults_are (after v s) ss)

-- as many statements as in the text
mutual
  count_in : (v : Visible) (s : StmtTree) → statements_in (stmt_of v s) ≡ tree.statements_in s
  count_in v (text_stmt.if_stmt at x ss) = ap (λ n. 1 + n) (count_among v ss)
  count_in v (text_stmt.if_else at x ss others) = rw (count_among v ss, count_among v others) refl
  count_in v (text_stmt.for_stmt at n x y ss) = ap (λ n. 1 + n) (count_among (declare v n meaning.Number) ss)
  count_in v s = refl

  count_among : (v : Visible) (ss : StmtTrees) → statements_among (stmts_of v ss) ≡ tree.statements_among ss
  count_among v text_stmt.no_stmts = refl
  count_among v (text_stmt.a_stmt s ss) = rw (count_in v s, count_among (after v s) ss) refl

pub body_count : (v : Visible) (ss : List StmtTree) → statements_among (stmts (turns after stmt_of v ss)) ≡ tree.among ss
body_count v [] = refl
body_count v (s ∷ ss) = rw (count_in v s, body_count (after v s) ss) refl

-- a form within the limits has a term, and takes no quotient but by 2, 3 or 4
some_terms : (ts : List TermText) → FirstIsPlain ts → 1 ≤ length ts
some_terms [] h = absurd h
some_terms (t ∷ ts) h = omega arith

few_parts : (k : ℕ) {A : Type 0} → (k ≡ 0) ⊎ (Counts 2 4 k × A) → (k ≡ 0) ⊎ Counts 2 4 k
few_parts k (inl none) = inl none
few_parts k (inr h) = inr h.0

stmts_within : (d : ℕ) (ss : List StmtTree) → AllByRecursion (StmtWithin d) ss → StmtsWithin d (text_stmt.stmts ss)
stmts_within d [] w = w
stmts_within d (s ∷ ss) w = (w.0, stmts_within d ss w.1)

module _ (a : Around) where
  -- with more locals
  still : (l k : ℕ) (m : Meaning) → l ≤ k → IsThere a l m → IsThere a k m
  still l k (meaning.Number i) most h = omega arith
  still l k (meaning.Matrix i) most h = omega arith
  still l k m most h = h

  -- all that a place of a body sees is there
  pub record Sees (v : Visible) : Type 0 where
    pub names : Fit a v.locals v.names
    pub transforms : AllByRecursion (λ e. e.1 < a.transforms) v.transforms

  declared : (v : Visible) → Sees v → (n : NameValue) (what : ℕ → Meaning) → IsThere a (v.locals + 1) (what v.locals) → Sees (declare v n what)
  declared v s n what there = record {
    names = all_push (λ e. IsThere a (v.locals + 1) e.1) v.names (n.bytes, what v.locals) (all_same (λ e. IsThere a v.locals e.1)
        (λ e. IsThere a (v.locals + 1) e.1) (λ e h. still v.locals (v.locals + 1) e.1 (omega arith) h) v.names s.names) there;
    transforms = s.transforms;
  }

  used_by : (l : ℕ) (n : NameValue) (o : Option Meaning) → IfSome o (IsThere a l) → unknown (not (is_some o)) n ≡ [] → IsThere a l (meaning_or o)
  used_by l n (Some m) h e = h
  used_by l n None h e = cc

  called_there : (n : NameValue) (f : Option Function) (t : Option ℕ) → IfSome t (λ k. k < a.transforms) → unknown (not (is_some (called_by f t))) n ≡ []
      → IsCallee a (callee_or (called_by f t))
  called_there n (Some f) t h e = tt {0}
  called_there n None (Some t) h e = h
  called_there n None None h e = cc

  module _ (v : Visible) (s : Sees v) where
    used : (n : NameValue) → use_faults v n ≡ [] → IsThere a v.locals (named v n).what
    used n e = used_by v.locals n (look n.bytes v.names) (found_fits (IsThere a v.locals) n.bytes v.names s.names) e

    callable : (n : NameValue) → called_faults v n ≡ [] → IsCallee a (called v n).what
    callable n e = called_there n (function_of n.bytes) (look n.bytes v.transforms) (found_fits (λ k. k < a.transforms) n.bytes v.transforms s.transforms) e

    mutual
      expr_fits : (x : ExprTree) → expr_faults v x ≡ [] → IsExpr a v.locals (expr_of v x)
      expr_fits (text.number at n) e = tt {0}
      expr_fits (text.name n) e = used n e
      expr_fits (text.call n xs) e = both (callable n) (exprs_fit xs) e
      expr_fits (text.parentheses at x) e = expr_fits x e
      expr_fits (text.cell n xs) e = both (used n) (exprs_fit xs) e
      expr_fits (text.width n) e = used n e
      expr_fits (text.height n) e = used n e
      expr_fits (text.signed at sign x) e = expr_fits x e
      expr_fits (text.chain level x rest) e = both (expr_fits x) (operands_fit rest) e
      expr_fits (text.compare x relation y) e = both (expr_fits x) (expr_fits y) e

      exprs_fit : (xs : ExprTrees) → exprs_faults v xs ≡ [] → AreExprs a v.locals (exprs_of v xs)
      exprs_fit text.no_exprs e = tt {0}
      exprs_fit (text.an_expr x rest) e = both (expr_fits x) (exprs_fit rest) e

      operands_fit : (xs : Operands) → operands_faults v xs ≡ [] → AreOperands a v.locals (operands_of v xs)
      operands_fit text.no_operands e = tt {0}
      operands_fit (text.an_operand o x rest) e = both (expr_fits x) (operands_fit rest) e

    list_fits : (xs : List ExprTree) → flat_map (expr_faults v) xs ≡ [] → AllByRecursion (IsExpr a v.locals) (map (expr_of v) xs)
    list_fits xs e = clean_mapped (expr_of v) (IsExpr a v.locals) (expr_faults v) expr_fits xs e

    targets_fit : (ns : List NameValue) → flat_map (use_faults v) ns ≡ [] → AllByRecursion (λ n. IsThere a v.locals n.what) (map (named v) ns)
    targets_fit ns e = clean_mapped (named v) (λ n. IsThere a v.locals n.what) (use_faults v) used ns e

    term_name : (o : Option NameValue) → option_map_or (use_faults v) o [] ≡ [] → NameIsThere a v.locals (option_map (named v) o)
    term_name None e = tt {0}
    term_name (Some n) e = used n e

    term_fits : (t : TermText) → TermWithin t → term_faults v t ≡ [] → IsTerm a v.locals (term_of v t)
    term_fits t w e = record { factor = w.factor; quotient = few_parts t.quotient w.quotient; name = term_name t.name e }

    dim_fits : (f : FormValue) → FormWithin f → form_faults v f ≡ [] → IsDim a v.locals (local_form v f)
    dim_fits f w e = record {
      few = subst (Counts 1 MOST_TERMS) (sym (length-map f.terms (term_of v))) (some_terms f.terms w.first, w.few);
      terms = within_mapped (term_of v) TermWithin (IsTerm a v.locals) (term_faults v) term_fits f.terms w.terms e;
    }

    dims_fit : (ds : List FormValue) → DimsWithin ds → flat_map (form_faults v) ds ≡ []
        → Counts 1 2 (length (map (local_form v) ds)) × AllByRecursion (IsDim a v.locals) (map (local_form v) ds)
    dims_fit ds w e = (subst (Counts 1 2) (sym (length-map ds (local_form v))) w.0, within_mapped (local_form v) FormWithin (IsDim a v.locals) (form_faults v) dim_fits ds w.1 e)

    -- what the statements after one see
    seen_after : (x : StmtTree) → Sees (after v x)
    seen_after (text_stmt.let_number at n x) = declared v s n meaning.Number (omega arith)
    seen_after (text_stmt.let_matrix at n dims) = declared v s n meaning.Matrix (omega arith)
    seen_after x = s

  locals_after : (v : Visible) (x : StmtTree) → (after v x).locals ≡ fits.after a v.locals (stmt_of v x)
  locals_after v (text_stmt.let_number at n x) = refl
  locals_after v x = refl

  mutual
    stmt_fits : (b : ℕ) (v : Visible) → Sees v → (x : StmtTree) → StmtWithin b x → stmt_faults v x ≡ [] → IsStmt a v.locals (stmt_of v x)
    stmt_fits b v s (text_stmt.let_number at n x) w e = both (λ d. refl) (expr_fits v s x) e
    stmt_fits b v s (text_stmt.let_matrix at n dims) w e =
        let d = both {P = Unit {0}} (λ d. tt {0}) (dims_fit v s dims w.1) e in (refl, d.1.0, d.1.1)
    stmt_fits b v s (text_stmt.assign n x) w e = both (used v s n) (expr_fits v s x) e
    stmt_fits b v s (text_stmt.call_stmt ns n xs) w e = all_three (targets_fit v s ns) (callable v s n) (list_fits v s xs) e
    stmt_fits b v s (text_stmt.assign_cell n xs x) w e = all_three (used v s n) (list_fits v s xs) (expr_fits v s x) e
    stmt_fits b v s (text_stmt.if_stmt at x ss) w e = both (expr_fits v s x) (stmts_fit (suc b) v s ss w.2) e
    stmt_fits b v s (text_stmt.if_else at x ss others) w e =
        all_three (expr_fits v s x) (stmts_fit (suc b) v s ss w.2) (stmts_fit (suc b) v s others w.3) e
    stmt_fits b v s (text_stmt.for_stmt at n x y ss) w e =
        let inner = stmts_fit (suc b) (declare v n meaning.Number) (declared v s n meaning.Number (omega arith)) ss w.4 in
        let parts = both (λ d. d) (all_three (expr_fits v s x) (expr_fits v s y) inner) e in
        (refl, parts.1.0, parts.1.1, parts.1.2)

    stmts_fit : (b : ℕ) (v : Visible) → Sees v → (ss : StmtTrees) → StmtsWithin b ss → stmts_faults v ss ≡ [] → AreStmts a v.locals (stmts_of v ss)
    stmts_fit b v s text_stmt.no_stmts w e = tt {0}
    stmts_fit b v s (text_stmt.a_stmt x rest) w e =
        let others = λ (d : stmts_faults (after v x) rest ≡ []). stmts_fit b (after v x) (seen_after v s x) rest w.1 d in
        both (stmt_fits b v s x w.0) (λ d. subst (λ l. AreStmts a l (stmts_of (after v x) rest)) (locals_after v x) (others d)) e

  pub body_fits : (v : Visible) → Sees v → (ss : List StmtTree) → AllByRecursion (StmtWithin 1) ss → turn_faults after stmt_faults v ss ≡ []
      → AreStmts a v.locals (stmts (turns after stmt_of v ss))
  body_fits v s ss w e = subst (AreStmts a v.locals) (sym (body_is v ss)) (stmts_fit 1 v s (text_stmt.stmts ss) (stmts_within 1 ss w) (sym (body_faults_are v ss) ∙ e))
