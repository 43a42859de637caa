-- What doesn't depend on the places of a tree.
use Rattle.std.proofs.Common.{◌≡◌, ℕ, Bool, true, false, ◌&&◌, ◌==◌, List, [], ◌∷◌, length, map, Option, Some, None, codes, if◌then◌else◌, refl, sym, ap, ◌∙◌}
use Rattle.pb_values.specs.Name.{NameValue}
use Rattle.pb_syntax.specs.declared.tree.form.TermText.{TermText}
use Rattle.pb_syntax.specs.declared.tree.view.ViewText.{ViewText}
use Rattle.pb_syntax.specs.declared.tree.view.ViewText.TheVariants as view
use Rattle.pb_syntax.specs.declared.tree.view.UseText.{UseText}
use Rattle.pb_syntax.specs.declared.tree.view.CondText.{CondText}
use Rattle.pb_syntax.specs.Forms.{FormValue, DeclValue}
use Rattle.pb_syntax.specs.Exprs.{ExprTree, ExprTrees, Operands, number, name, call, parentheses, cell, width, height, signed, chain, compare, no_exprs, an_expr, no_operands, an_operand, exprs}
use Rattle.pb_syntax.specs.Stmts.{StmtTree, StmtTrees, let_number, let_matrix, assign, call_stmt, assign_cell, if_stmt, if_else, for_stmt, no_stmts, a_stmt}
use Rattle.pb_syntax.specs.Trees.{RuleTree, TransformTree}
use Rattle.pb_syntax.specs.Limits.{alone, alone_in, put_size, sizes_in, sizes_of, counted, after_form, SizeNames}
use Rattle.pb_syntax.specs.TooMany.{statements_in, statements_among, among}
use Rattle.pb_prog.specs.Spelling.{Written, in_order, after_commas, with_commas, after_keyword, name_tokens, minimum_tokens, term_tokens, term_tokens_at, next_term_tokens, sum_tokens, form_tokens, form_tokens_at, decl_tokens, view_tokens, use_tokens, cond_tokens, expr_tokens, operands_tokens, arguments_tokens, more_arguments_tokens, stmt_tokens, stmts_tokens, rule_tokens, transform_tokens, text_tokens}
use Rattle.pb_syntax.specs.Places.{unplaced_name, unplaced_option, unplaced_minimum, unplaced_term, unplaced_form, unplaced_decl, unplaced_view, unplaced_use, unplaced_cond, unplaced_expr, unplaced_exprs, unplaced_operands, unplaced_stmt, unplaced_stmts, unplaced_rule, unplaced_transform, unplaced}

-- what is kept is the same of trees that differ in places alone
pub through : {A B : Type 0} (f : A → B) (g : A → A) → ((x : A) → f (g x) ≡ f x) → (y x : A) → g y ≡ g x → f y ≡ f x
through f g kept y x e = sym (kept y) ∙ ap f e ∙ kept x

module _ {A : Type 0} (f : A → List Written) (g : A → A) (h : (x : A) → f (g x) ≡ f x) where
  order_kept : (xs : List A) → in_order f (map g xs) ≡ in_order f xs
  order_kept [] = refl
  order_kept (x ∷ xs) = rw (h x, order_kept xs) refl

  commas_kept : (xs : List A) → after_commas f (map g xs) ≡ after_commas f xs
  commas_kept [] = refl
  commas_kept (x ∷ xs) = rw (h x, commas_kept xs) refl

  with_kept : (xs : List A) → with_commas f (map g xs) ≡ with_commas f xs
  with_kept [] = refl
  with_kept (x ∷ xs) = rw (h x, commas_kept xs) refl

  keyword_kept : (w : List ℕ) (xs : List A) → after_keyword w f (map g xs) ≡ after_keyword w f xs
  keyword_kept w [] = refl
  keyword_kept w (x ∷ xs) = rw (h x, commas_kept xs) refl

minimum_kept : (m : NameValue × ℕ) → minimum_tokens (unplaced_minimum m) ≡ minimum_tokens m
unfolding minimum_tokens
minimum_kept m = refl

term_at : (a : ℕ) (n : Option NameValue) (q : ℕ) → term_tokens_at a (unplaced_option n) q ≡ term_tokens_at a n q
term_at a None q = refl
term_at a (Some n) q = refl

term_kept : (t : TermText) → term_tokens (unplaced_term t) ≡ term_tokens t
unfolding term_tokens
term_kept t = term_at t.factor t.name t.quotient

next_kept : (t : TermText) → next_term_tokens (unplaced_term t) ≡ next_term_tokens t
unfolding next_term_tokens
next_kept t = rw (term_kept t) refl

sum_kept : (ts : List TermText) → sum_tokens (map unplaced_term ts) ≡ sum_tokens ts
unfolding sum_tokens
sum_kept [] = refl
sum_kept (t ∷ ts) = rw (term_kept t, order_kept next_term_tokens unplaced_term next_kept ts) refl

form_at : (m : Bool) (ts : List TermText) → form_tokens_at m (map unplaced_term ts) ≡ form_tokens_at m ts
form_at true ts = rw (sum_kept ts) refl
form_at false ts = sum_kept ts

form_kept : (f : FormValue) → form_tokens (unplaced_form f) ≡ form_tokens f
unfolding form_tokens
form_kept f = form_at f.minus f.terms

dims_kept : (ds : List FormValue) → with_commas form_tokens (map unplaced_form ds) ≡ with_commas form_tokens ds
dims_kept ds = with_kept form_tokens unplaced_form form_kept ds

decl_kept : (d : DeclValue) → decl_tokens (unplaced_decl d) ≡ decl_tokens d
unfolding decl_tokens
decl_kept d = rw (dims_kept d.dims) refl

view_kept : (v : ViewText) → view_tokens (unplaced_view v) ≡ view_tokens v
unfolding view_tokens
view_kept view.Whole = refl
view_kept (view.Cell x None) = rw (form_kept x) refl
view_kept (view.Cell x (Some y)) = rw (form_kept x, form_kept y) refl
view_kept (view.Row y) = rw (form_kept y) refl
view_kept (view.Column x) = rw (form_kept x) refl
view_kept (view.Between a b) = rw (form_kept a, form_kept b) refl
view_kept (view.Region a b c d) = rw (form_kept a, form_kept b, form_kept c, form_kept d) refl

use_kept : (u : UseText) → use_tokens (unplaced_use u) ≡ use_tokens u
unfolding use_tokens
use_kept u = rw (view_kept u.view) refl

cond_kept : (c : CondText) → cond_tokens (unplaced_cond c) ≡ cond_tokens c
unfolding cond_tokens
cond_kept c = rw (form_kept c.left, form_kept c.right) refl

mutual
  unfolding expr_tokens

  expr_kept : (x : ExprTree) → expr_tokens (unplaced_expr x) ≡ expr_tokens x
  expr_kept (number at n) = refl
  expr_kept (name n) = refl
  expr_kept (call n xs) = rw (arguments_kept xs) refl
  expr_kept (parentheses at x) = rw (expr_kept x) refl
  expr_kept (cell n xs) = rw (arguments_kept xs) refl
  expr_kept (width n) = refl
  expr_kept (height n) = refl
  expr_kept (signed at s x) = rw (expr_kept x) refl
  expr_kept (chain l x xs) = rw (expr_kept x, operands_kept xs) refl
  expr_kept (compare x r y) = rw (expr_kept x, expr_kept y) refl

  operands_kept : (xs : Operands) → operands_tokens (unplaced_operands xs) ≡ operands_tokens xs
  operands_kept no_operands = refl
  operands_kept (an_operand o x xs) = rw (expr_kept x, operands_kept xs) refl

  arguments_kept : (xs : ExprTrees) → arguments_tokens (unplaced_exprs xs) ≡ arguments_tokens xs
  arguments_kept no_exprs = refl
  arguments_kept (an_expr x xs) = rw (expr_kept x, more_kept xs) refl

  more_kept : (xs : ExprTrees) → more_arguments_tokens (unplaced_exprs xs) ≡ more_arguments_tokens xs
  more_kept no_exprs = refl
  more_kept (an_expr x xs) = rw (expr_kept x, more_kept xs) refl

pub exprs_unplaced : (xs : List ExprTree) → exprs (map unplaced_expr xs) ≡ unplaced_exprs (exprs xs)
exprs_unplaced [] = refl
exprs_unplaced (x ∷ xs) = rw (exprs_unplaced xs) refl

list_kept : (xs : List ExprTree) → arguments_tokens (exprs (map unplaced_expr xs)) ≡ arguments_tokens (exprs xs)
list_kept xs = ap arguments_tokens (exprs_unplaced xs) ∙ arguments_kept (exprs xs)

mutual
  unfolding stmt_tokens

  stmt_kept : (s : StmtTree) → stmt_tokens (unplaced_stmt s) ≡ stmt_tokens s
  stmt_kept (let_number at n x) = rw (expr_kept x) refl
  stmt_kept (let_matrix at n ds) = rw (dims_kept ds) refl
  stmt_kept (assign n x) = rw (expr_kept x) refl
  stmt_kept (call_stmt ns n xs) = rw (with_kept name_tokens unplaced_name (λ n. refl) ns, list_kept xs) refl
  stmt_kept (assign_cell n xs x) = rw (list_kept xs, expr_kept x) refl
  stmt_kept (if_stmt at x ss) = rw (expr_kept x, stmts_kept ss) refl
  stmt_kept (if_else at x ss others) = rw (expr_kept x, stmts_kept ss, stmts_kept others) refl
  stmt_kept (for_stmt at n a b ss) = rw (expr_kept a, expr_kept b, stmts_kept ss) refl

  stmts_kept : (ss : StmtTrees) → stmts_tokens (unplaced_stmts ss) ≡ stmts_tokens ss
  stmts_kept no_stmts = refl
  stmts_kept (a_stmt s ss) = rw (stmt_kept s, stmts_kept ss) refl

rule_kept : (r : RuleTree) → rule_tokens (unplaced_rule r) ≡ rule_tokens r
unfolding rule_tokens
rule_kept r = rw (
  with_kept use_tokens unplaced_use use_kept r.outs,
  with_kept use_tokens unplaced_use use_kept r.reads,
  keyword_kept cond_tokens unplaced_cond cond_kept (codes "where") r.conds,
  order_kept stmt_tokens unplaced_stmt stmt_kept r.body,
) refl

transform_kept : (t : TransformTree) → transform_tokens (unplaced_transform t) ≡ transform_tokens t
unfolding transform_tokens
transform_kept t = rw (
  keyword_kept minimum_tokens unplaced_minimum minimum_kept (codes "where") t.minimums,
  with_kept decl_tokens unplaced_decl decl_kept t.from,
  keyword_kept decl_tokens unplaced_decl decl_kept (codes "through") t.through,
  with_kept decl_tokens unplaced_decl decl_kept t.to,
  order_kept rule_tokens unplaced_rule rule_kept t.rules,
) refl

-- trees that differ in places alone have the same tokens
pub same_tokens : (y x : List TransformTree) → unplaced y ≡ unplaced x → text_tokens y ≡ text_tokens x
same_tokens y x e = through text_tokens unplaced (order_kept transform_tokens unplaced_transform transform_kept) y x e

-- the same number of statements
mutual
  statements_kept : (s : StmtTree) → statements_in (unplaced_stmt s) ≡ statements_in s
  statements_kept (let_number at n x) = refl
  statements_kept (let_matrix at n ds) = refl
  statements_kept (assign n x) = refl
  statements_kept (call_stmt ns n xs) = refl
  statements_kept (assign_cell n xs x) = refl
  statements_kept (if_stmt at x ss) = rw (nested_kept ss) refl
  statements_kept (if_else at x ss others) = rw (nested_kept ss, nested_kept others) refl
  statements_kept (for_stmt at n a b ss) = rw (nested_kept ss) refl

  nested_kept : (ss : StmtTrees) → statements_among (unplaced_stmts ss) ≡ statements_among ss
  nested_kept no_stmts = refl
  nested_kept (a_stmt s ss) = rw (statements_kept s, nested_kept ss) refl

among_kept : (ss : List StmtTree) → among (map unplaced_stmt ss) ≡ among ss
among_kept [] = refl
among_kept (s ∷ ss) = rw (statements_kept s, among_kept ss) refl

pub same_statements : (y x : StmtTree) → unplaced_stmt y ≡ unplaced_stmt x → statements_in y ≡ statements_in x
same_statements y x e = through statements_in unplaced_stmt statements_kept y x e

pub same_among : (y x : List StmtTree) → map unplaced_stmt y ≡ map unplaced_stmt x → among y ≡ among x
same_among y x e = through among (map unplaced_stmt) among_kept y x e

-- the same sizes
alone_kept : (m : Bool) (ts : List TermText) → alone_in m (map unplaced_term ts) ≡ unplaced_option (alone_in m ts)
alone_kept true ts = refl
alone_kept false [] = refl
alone_kept false (t ∷ []) = bare_name (t.factor == 1 && (t.quotient == 0)) t.name
  where
    bare_name : (b : Bool) (n : Option NameValue) → (if b then unplaced_option n else None) ≡ unplaced_option (if b then n else None)
    bare_name true n = refl
    bare_name false n = refl
alone_kept false (t ∷ u ∷ ts) = refl

pub same_alone : (y x : FormValue) → unplaced_form y ≡ unplaced_form x → unplaced_option (alone y) ≡ unplaced_option (alone x)
same_alone y x e = sym (alone_kept y.minus y.terms) ∙ ap alone e ∙ alone_kept x.minus x.terms

put_kept : (known : List (List ℕ)) (n : Option NameValue) → put_size known (unplaced_option n) ≡ put_size known n
put_kept known None = refl
put_kept known (Some n) = refl

form_put : (known : List (List ℕ)) (f : FormValue) → put_size known (alone (unplaced_form f)) ≡ put_size known (alone f)
form_put known f = ap (put_size known) (alone_kept f.minus f.terms) ∙ put_kept known (alone f)

sizes_in_kept : (known : List (List ℕ)) (fs : List FormValue) → sizes_in known (map unplaced_form fs) ≡ sizes_in known fs
sizes_in_kept known [] = refl
sizes_in_kept known (f ∷ fs) = ap (λ l. sizes_in l (map unplaced_form fs)) (form_put known f) ∙ sizes_in_kept (put_size known (alone f)) fs

sizes_of_kept : (known : List (List ℕ)) (ds : List DeclValue) → sizes_of known (map unplaced_decl ds) ≡ sizes_of known ds
sizes_of_kept known [] = refl
sizes_of_kept known (d ∷ ds) = ap (λ l. sizes_of l (map unplaced_decl ds)) (sizes_in_kept known d.dims) ∙ sizes_of_kept (sizes_in known d.dims) ds

after_kept : (known : SizeNames) (f : FormValue) → after_form known (unplaced_form f) ≡ after_form known f
after_kept None f = refl
after_kept (Some known) f = ap Some (form_put known f)

pub same_after : (known : SizeNames) (y x : FormValue) → unplaced_form y ≡ unplaced_form x → after_form known y ≡ after_form known x
same_after known y x e = through (after_form known) unplaced_form (after_kept known) y x e

pub same_counted : (from : Bool) (y x : List DeclValue) → map unplaced_decl y ≡ map unplaced_decl x → counted from y ≡ counted from x
same_counted false y x e = refl
same_counted true y x e = ap Some (through (sizes_of []) (map unplaced_decl) (sizes_of_kept []) y x e)

pub same_length : {A : Type 0} (g : A → A) (y x : List A) → map g y ≡ map g x → length y ≡ length x
same_length g y x e = through length (map g) (length_kept g) y x e
  where
    length_kept : {A : Type 0} (g : A → A) (l : List A) → length (map g l) ≡ length l
    length_kept g [] = refl
    length_kept g (a ∷ l) = rw (length_kept g l) refl
