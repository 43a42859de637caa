-- Statements one after the other, and what is visible after them.
use Rattle.std.proofs.Common.{◌≡◌, ℕ, ◌+◌, ◌<◌, ◌≤◌, List, [], ◌∷◌, ◌++◌, length, get_or, take, drop, map, refl, ap, subst, ◌∙◌, sym, add-one, append_assoc}
use Rattle.std.proofs.Math.Seq.{drop-cons, take-append_seam}
use Rattle.std.proofs.lemmas.List.{append-nil, drop_all, map-append}
use Rattle.pb_syntax.specs.declared.tree.statement.StmtText.{StmtText}
use Rattle.pb_syntax.specs.Stmts.{StmtTree, bare_stmt, let_number, let_matrix, assign, call_stmt, assign_cell, if_stmt, if_else, for_stmt}
use Rattle.pb_program.specs.declared.meaning.Meaning.{Meaning}
use Rattle.pb_program.specs.declared.meaning.Meaning.TheVariants as meaning
use Rattle.pb_program.specs.declared.statement.Stmt.{Stmt}
use Rattle.pb_program.specs.Stmts.{StmtValue, bare_stmt as bare}
use Rattle.pb_program.specs.Stmts as to
use Rattle.pb_values.specs.Name.{NameValue}
use Rattle.pb_names.specs.declared.fault.Fault.{Fault}
use Rattle.pb_resolve.specs.declared.scope.Mark.{Mark}
use Rattle.pb_names.specs.Faults.{Fails}
use Rattle.pb_syntax.specs.declared.tree.view.UseText.{UseText}
use Rattle.pb_syntax.specs.Trees.{RuleTree}
use Rattle.pb_names.specs.Turns.{after_turns, turns, turn_faults}
use Rattle.pb_names.specs.Bodies.{Visible, declare, after, stmt_of, stmt_faults}
use Rattle.pb_names.specs.Views.{Place, bind, with_variables, binders, out_scope, after_out, after_read, after_outs, start}
use Rattle.pb_names.specs.Rules.{inner}
use Rattle.pb_resolve.specs.Working.{stmt_in, stmt_faults_in, after_in, block_in, block_faults_in, body_in, body_faults_in, after_all}
use Rattle.pb_resolve.proofs.FaultLemmas.{fails_left}

-- a scope with more names after those of another
pub record Extends (v w : Visible) : Type 0 where
  pub more : List (List ℕ × Meaning)
  pub names : w.names ≡ v.names ++ more
  pub transforms : w.transforms ≡ v.transforms

pub extends_same : (v : Visible) → Extends v v
extends_same v = record { more = []; names = sym (append-nil v.names); transforms = refl }

extends_further : (u v w : Visible) → Extends u v → Extends v w → Extends u w
extends_further u v w a b = record {
  more = a.more ++ b.more;
  names = b.names ∙ ap (λ l. l ++ b.more) a.names ∙ append_assoc u.names a.more b.more;
  transforms = b.transforms ∙ a.transforms;
}

pub extends_declare : (v : Visible) (n : NameValue) (what : ℕ → Meaning) → Extends v (declare v n what)
extends_declare v n what = record { more = (n.bytes, what v.locals) ∷ []; names = refl; transforms = refl }

extends_after : (v : Visible) (s : StmtTree) → Extends v (after v s)
extends_after v (let_number at n x) = extends_declare v n meaning.Number
extends_after v (let_matrix at n dims) = extends_declare v n meaning.Matrix
extends_after v (assign n x) = extends_same v
extends_after v (call_stmt ns n xs) = extends_same v
extends_after v (assign_cell n xs x) = extends_same v
extends_after v (if_stmt at x ss) = extends_same v
extends_after v (if_else at x ss others) = extends_same v
extends_after v (for_stmt at n x y ss) = extends_same v

extends_in : (v : Visible) (s : StmtText) → Extends v (after_in v s)
unfolding after_in
extends_in v s = extends_after v (bare_stmt s)

extends_all : (v : Visible) (ss : List StmtText) → Extends v (after_all v ss)
extends_all v [] = extends_same v
extends_all v (s ∷ ss) = extends_further v (after_in v s) (after_all (after_in v s) ss) (extends_in v s) (extends_all (after_in v s) ss)

pub return_to : (v w : Visible) → Extends v w → record { transforms = w.transforms; names = take (length v.names) w.names; locals = v.locals } ≡ v
return_to v w e = ap (λ (ns : List (List ℕ × Meaning)). record { transforms = w.transforms; names = ns; locals = v.locals }) (ap (take (length v.names)) e.names ∙ take-append_seam v.names e.more)
    ∙ ap (λ (ts : List (List ℕ × ℕ)). record { transforms = ts; names = v.names; locals = v.locals }) e.transforms

-- a scope that goes back to a mark is what it was there
went_back : (v w u : Visible) (m : Mark) → Extends v w → m ≡ record { names = length v.names; locals = v.locals }
    → u ≡ record { transforms = w.transforms; names = take m.names w.names; locals = m.locals } → u ≡ v
went_back v w u m more marked left =
    left ∙ ap (λ (k : Mark). record { transforms = w.transforms; names = take k.names w.names; locals = k.locals }) marked ∙ return_to v w more

pub back : (v w u : Visible) (ss : List StmtText) (m : Mark) → w ≡ after_all v ss → m ≡ record { names = length v.names; locals = v.locals }
    → u ≡ record { transforms = w.transforms; names = take m.names w.names; locals = m.locals } → u ≡ v
back v w u ss m done = went_back v w u m (subst (Extends v) (sym done) (extends_all v ss))

-- after a loop it is what it was before the loop's variable
pub back_loop : (v d w u : Visible) (name : NameValue) (ss : List StmtText) (m : Mark) → d ≡ declare v name meaning.Number → w ≡ after_all d ss
    → m ≡ record { names = length v.names; locals = v.locals }
    → u ≡ record { transforms = w.transforms; names = take m.names w.names; locals = m.locals } → u ≡ v
back_loop v d w u name ss m declared done =
    went_back v w u m (extends_further v d w (subst (Extends v) (sym declared) (extends_declare v name meaning.Number)) (subst (Extends d) (sym done) (extends_all d ss)))

stmts_listed : (v : Visible) (ss : List StmtText) → to.stmts (body_in v ss) ≡ block_in v ss
unfolding stmt_in after_in block_in
stmts_listed v [] = refl
stmts_listed v (s ∷ ss) = ap (to.a_stmt (stmt_in v s)) (stmts_listed (after_in v s) ss)

faults_listed : (v : Visible) (ss : List StmtText) → block_faults_in v ss ≡ body_faults_in v ss
unfolding stmt_faults_in after_in block_faults_in
faults_listed v [] = refl
faults_listed v (s ∷ ss) = ap (λ rest. stmt_faults_in v s ++ rest) (faults_listed (after_in v s) ss)

-- some statements are read: what is built, the faults and the scope, with those of the statements that are left
pub record Read (v w : Visible) (found : List StmtValue) (ss : List StmtText) (i : ℕ) : Type 0 where
  pub built : found ++ body_in w (drop i ss) ≡ body_in v ss
  pub clean : body_faults_in w (drop i ss) ≡ body_faults_in v ss
  pub scope : after_all w (drop i ss) ≡ after_all v ss

module _ (v w : Visible) (found : List StmtValue) (ss : List StmtText) (i : ℕ) (r : Read v w found ss i) where
  module _ (x : StmtText) (within : i < length ss) (here : x ≡ get_or ss i x) where
    next_is : drop i ss ≡ x ∷ drop (i + 1) ss
    next_is = rw (add-one, drop-cons ss i x) (rw (← here) refl)

    pub statement_fails : (f : Fault) → Fails f (stmt_faults_in w x) → Fails f (block_faults_in v ss)
    statement_fails f fails = subst (Fails f) (sym (ap (body_faults_in w) next_is) ∙ r.clean ∙ sym (faults_listed v ss))
        (fails_left f (stmt_faults_in w x) (body_faults_in (after_in w x) (drop (i + 1) ss)) fails)

    pub statement_read : (u : Visible) (more : List StmtValue) → u ≡ after_in w x → more ≡ found ++ stmt_in w x ∷ [] → stmt_faults_in w x ≡ [] → Read v u more ss (i + 1)
    statement_read u more after put none = record {
      built = ap (λ l. l ++ body_in u (drop (i + 1) ss)) put ∙ append_assoc found (stmt_in w x ∷ []) (body_in u (drop (i + 1) ss))
          ∙ ap (λ z. found ++ stmt_in w x ∷ body_in z (drop (i + 1) ss)) after ∙ ap (λ l. found ++ body_in w l) (sym next_is) ∙ r.built;
      clean = ap (λ z. body_faults_in z (drop (i + 1) ss)) after ∙ sym (ap (λ l. l ++ body_faults_in (after_in w x) (drop (i + 1) ss)) none) ∙ ap (body_faults_in w) (sym next_is) ∙ r.clean;
      scope = ap (λ z. after_all z (drop (i + 1) ss)) after ∙ ap (after_all w) (sym next_is) ∙ r.scope;
    }

  module _ (end : length ss ≤ i) where
    none_left : drop i ss ≡ []
    none_left = drop_all i ss end

    pub body_built : found ≡ body_in v ss
    body_built = sym (append-nil found) ∙ ap (λ l. found ++ body_in w l) (sym none_left) ∙ r.built

    pub block_built : to.stmts found ≡ block_in v ss
    block_built = ap to.stmts body_built ∙ stmts_listed v ss

    pub block_faultless : block_faults_in v ss ≡ []
    block_faultless = faults_listed v ss ∙ sym r.clean ∙ ap (body_faults_in w) none_left

    pub scope_left : w ≡ after_all v ss
    scope_left = sym (ap (after_all w) none_left) ∙ r.scope

pub none_read : (v : Visible) (ss : List StmtText) → Read v v [] ss 0
none_read v ss = record { built = refl; clean = refl; scope = refl }

pub pushed : (found new : List Stmt) (y : Stmt) (z : StmtValue) → new ≡ found ++ y ∷ [] → bare y ≡ z → map bare new ≡ map bare found ++ z ∷ []
pushed found new y z put is = ap (map bare) put ∙ map-append bare found (y ∷ []) ∙ ap (λ x. map bare found ++ x ∷ []) is

-- a body as definitions see it
pub body_is : (v : Visible) (ss : List StmtText) → body_in v ss ≡ turns after stmt_of v (map bare_stmt ss)
unfolding stmt_in after_in
body_is v [] = refl
body_is v (s ∷ ss) = ap (λ l. stmt_in v s ∷ l) (body_is (after_in v s) ss)

body_faults_turn : (v : Visible) (ss : List StmtText) → body_faults_in v ss ≡ turn_faults after stmt_faults v (map bare_stmt ss)
unfolding stmt_faults_in after_in
body_faults_turn v [] = refl
body_faults_turn v (s ∷ ss) = ap (λ l. stmt_faults_in v s ++ l) (body_faults_turn (after_in v s) ss)

pub body_faults_are : (v : Visible) (ss : List StmtText) → block_faults_in v ss ≡ turn_faults after stmt_faults v (map bare_stmt ss)
body_faults_are v ss = faults_listed v ss ∙ body_faults_turn v ss

-- views only add names
extends_bind : (v : Visible) (n : NameValue) (what : Meaning) → Extends v (bind v n what)
extends_bind v n what = record { more = (n.bytes, what) ∷ []; names = refl; transforms = refl }

extends_variables : (v : Visible) (ns : List NameValue) → Extends v (with_variables v ns)
extends_variables v [] = extends_same v
extends_variables v (x ∷ []) = extends_bind v x meaning.RuleX
extends_variables v (x ∷ y ∷ rest) = extends_further v (bind v x meaning.RuleX) (bind (bind v x meaning.RuleX) y meaning.RuleY) (extends_bind v x meaning.RuleX) (extends_bind (bind v x meaning.RuleX) y meaning.RuleY)

extends_outs : (p : Place) (us : List UseText) → Extends p.visible (after_turns after_out p us).visible
extends_outs p [] = extends_same p.visible
extends_outs p (u ∷ us) = extends_further p.visible (after_out p u).visible (after_turns after_out (after_out p u) us).visible
    (extends_further p.visible (out_scope p.visible u) (after_out p u).visible (extends_variables p.visible (binders p.visible u)) (extends_bind (out_scope p.visible u) u.bound (meaning.Output p.number)))
    (extends_outs (after_out p u) us)

extends_reads : (p : Place) (us : List UseText) → Extends p.visible (after_turns after_read p us).visible
extends_reads p [] = extends_same p.visible
extends_reads p (u ∷ us) = extends_further p.visible (after_read p u).visible (after_turns after_read (after_read p u) us).visible (extends_bind p.visible u.bound (meaning.Read p.number)) (extends_reads (after_read p u) us)

extends_inner : (v : Visible) (r : RuleTree) → Extends v (inner v r)
extends_inner v r = extends_further v (after_outs v r.outs) (inner v r) (extends_outs (start v) r.outs) (extends_reads (start (after_outs v r.outs)) r.reads)

-- after a rule the scope is what it was
pub back_rule : (v w u : Visible) (r : RuleTree) (m : Mark) → w ≡ inner v r → m ≡ record { names = length v.names; locals = v.locals }
    → u ≡ record { transforms = w.transforms; names = take m.names w.names; locals = m.locals } → u ≡ v
back_rule v w u r m done = went_back v w u m (subst (Extends v) (sym done) (extends_inner v r))
