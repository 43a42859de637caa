-- The items of a program that are too many, in the order of its text.
use Rattle.std.specs.Prelude.{ℕ, suc, ◌+◌, Bool, true, false, List, [], ◌∷◌, ◌++◌, length, Option, Some, None}
use Rattle.pb_values.specs.Name.{NameValue}
use Rattle.pb_syntax.specs.declared.token.Token.{Token}
use Rattle.pb_syntax.specs.declared.refusal.Item.{Item}
use Rattle.pb_syntax.specs.declared.refusal.Item.TheVariants as item
use Rattle.pb_syntax.specs.declared.tree.expression.Level.{Level}
use Rattle.pb_syntax.specs.declared.tree.expression.Operator.{Operator}
use Rattle.pb_syntax.specs.declared.tree.form.TermText.{TermText}
use Rattle.pb_syntax.specs.declared.tree.view.ViewText.{ViewText}
use Rattle.pb_syntax.specs.declared.tree.view.UseText.{UseText}
use Rattle.pb_syntax.specs.declared.tree.view.CondText.{CondText}
use Rattle.pb_syntax.specs.declared.tree.view.MarkText.{MarkText}
use Rattle.pb_syntax.specs.Forms.{FormValue, DeclValue}
use Rattle.pb_syntax.specs.Exprs.{ExprTree}
use Rattle.pb_syntax.specs.Stmts.{StmtTree, StmtTrees, let_number, let_matrix, assign, call_stmt, assign_cell, if_stmt, if_else, for_stmt, no_stmts, a_stmt}
use Rattle.pb_syntax.specs.Trees.{RuleTree, TransformTree}
use Rattle.pb_syntax.specs.Limits.{Excess, over, here, too_great, SizeNames, after_form, counted, excess_of}
use Rattle.pb_syntax.specs.Grammar.{Commas, no_comma, a_comma, IsName, IsMinimum, a_minimum, IsMinimums, no_minimums, some_minimums, IsTerm, number_term, name_term, multiple, fraction, IsTerms, no_terms, plus, minus, IsForm, plain_form, minus_form, IsDims, one_dim, two_dims, IsDecl, a_decl, IsDecls, some_decls, IsThrough, no_through, some_through, IsView, whole, cell_x, cell_xy, row, column, region_2, region_4, IsUse, a_use, IsReads, no_reads, some_reads, IsCond, a_cond, IsConds, no_conds, some_conds, IsMark, unmarked, primary, secondary, priority, IsLine, a_line, IsOperands, no_operand, an_operand, IsOperand, a_conj, a_comp, a_prod, a_unary, IsComp, a_sum, two_sums, IsUnary, unsigned, minus_prim, not_prim, IsPrim, a_number, the_name, call_of_none, call_of, in_parentheses, cell_of, width_of, height_of, IsArguments, last_argument, an_argument, IsCoordinates, one_coordinate, two_coordinates, IsStmt, let_a_number, let_a_matrix, an_assignment, a_call, a_cell_assignment, an_if, an_if_else, a_for, IsBlock, a_block, IsStmts, no_stmt, one_stmt, IsRule, a_rule, IsRules, no_rules, one_rule, IsTransform, a_transform, IsTransforms, no_transforms, one_transform, IsProgram, a_program}

-- what is too many, the place where it begins, and how many tokens are left where this is seen: at its first token, but
-- for a size at the token that closes its dimension
pub record TooMany : Type 0 where
  pub what : Item
  pub at : ℕ
  pub left : ℕ

abbrev pub note : Option Excess → List Token → List TooMany → List TooMany
note None ts l = l
note (Some x) ts l = record { what = x.what; at = x.at; left = length ts } ∷ l

abbrev pub first_at : List Token → ℕ
first_at [] = 0
first_at (t ∷ _) = t.at

-- an item that begins at the first of some tokens
abbrev pub begun : Option Item → List Token → List TooMany → List TooMany
begun what ts l = note (here (first_at ts) what) ts l

-- Each of these puts the items too many of its part before those of what comes after it.
abbrev pub in_commas : {A : Type 0} {P : A → List Token → List Token → Type 0} {xs : List A} {all rest : List Token}
    → Item → ((x : A) (all rest : List Token) → P x all rest → List TooMany → List TooMany) → ℕ → Commas P xs all rest → List TooMany → List TooMany
in_commas what each n no_comma l = l
in_commas what each n (a_comma {all = all} is x xs) l = begun (over what n) all (each _ _ _ x (in_commas what each (suc n) xs l))

abbrev pub in_name : {x : NameValue} {all rest : List Token} → IsName x all rest → List TooMany → List TooMany
in_name is l = l

abbrev pub in_minimum : {x : NameValue × ℕ} {all rest : List Token} → IsMinimum x all rest → List TooMany → List TooMany
in_minimum (a_minimum {v = v} {rest = rest} i j is) l = note (too_great v) (v ∷ rest) l

abbrev pub in_minimums : {xs : List (NameValue × ℕ)} {all rest : List Token} → IsMinimums xs all rest → List TooMany → List TooMany
in_minimums no_minimums l = l
in_minimums (some_minimums is x xs) l = in_minimum x (in_commas item.Minimums (λ x a b. in_minimum) 1 xs l)

abbrev pub in_term : {m : Bool} {x : TermText} {all rest : List Token} → IsTerm m x all rest → List TooMany → List TooMany
in_term (number_term {t = t} {rest = rest} is) l = note (too_great t) (t ∷ rest) l
in_term (name_term is) l = l
in_term (multiple {t = t} {s = s} {n = n} {rest = rest} is i j) l = note (too_great t) (t ∷ s ∷ n ∷ rest) l
in_term (fraction is i j lo hi) l = l

abbrev pub in_terms : {xs : List TermText} {all rest : List Token} → ℕ → IsTerms xs all rest → List TooMany → List TooMany
in_terms n no_terms l = l
in_terms n (plus {all = all} is x xs) l = begun (over item.Terms n) all (in_term x (in_terms (suc n) xs l))
in_terms n (minus {all = all} is x xs) l = begun (over item.Terms n) all (in_term x (in_terms (suc n) xs l))

abbrev pub in_form : {x : FormValue} {all rest : List Token} → IsForm x all rest → List TooMany → List TooMany
in_form (plain_form x xs) l = in_term x (in_terms 1 xs l)
in_form (minus_form is x xs) l = in_term x (in_terms 1 xs l)

abbrev pub in_dims : {ds : List FormValue} {all rest : List Token} → SizeNames → IsDims ds all rest → List TooMany → List TooMany
in_dims known (one_dim {x = x} {c = c} {rest = rest} d is) l = in_form d (note (excess_of known x) (c ∷ rest) l)
in_dims known (two_dims {x = x} {y = y} {m = m} {c = c} {mid = mid} {rest = rest} d is e i) l =
    in_form d (note (excess_of known x) (m ∷ mid) (in_form e (note (excess_of (after_form known x) y) (c ∷ rest) l)))

abbrev pub in_decl : {d : DeclValue} {all rest : List Token} → ℕ → SizeNames → IsDecl d all rest → List TooMany → List TooMany
in_decl n known (a_decl {n = name} {b = b} {all = all} is i ds) l = begun (over item.Matrices n) (name ∷ b ∷ all) (in_dims known ds l)

-- further matrices, with their number before these and those that were read
abbrev pub in_more_decls : {ds : List DeclValue} {all rest : List Token} → ℕ → Bool → List DeclValue → Commas IsDecl ds all rest → List TooMany → List TooMany
in_more_decls n from found no_comma l = l
in_more_decls n from found (a_comma {x = d} is i ds) l =
    in_decl (n + length found) (counted from found) i (in_more_decls n from (found ++ d ∷ []) ds l)

abbrev pub in_decls : {ds : List DeclValue} {all rest : List Token} → ℕ → Bool → IsDecls ds all rest → List TooMany → List TooMany
in_decls n from (some_decls {d = d} i ds) l = in_decl n (counted from []) i (in_more_decls n from (d ∷ []) ds l)

abbrev pub in_through : {ds : List DeclValue} {all rest : List Token} → ℕ → IsThrough ds all rest → List TooMany → List TooMany
in_through n no_through l = l
in_through n (some_through is ds) l = in_decls n false ds l

abbrev pub in_view : {v : ViewText} {all rest : List Token} → IsView v all rest → List TooMany → List TooMany
in_view whole l = l
in_view (cell_x d w o x c) l = in_form x l
in_view (cell_xy d w o x m y c) l = in_form x (in_form y l)
in_view (row d w o y c) l = in_form y l
in_view (column d w o x c) l = in_form x l
in_view (region_2 d w o x m y c) l = in_form x (in_form y l)
in_view (region_4 d w o x m y p z q u c) l = in_form x (in_form y (in_form z (in_form u l)))

abbrev pub in_use : {u : UseText} {all rest : List Token} → IsUse u all rest → List TooMany → List TooMany
in_use (a_use m v b) l = in_view v l

abbrev pub in_reads : {us : List UseText} {all rest : List Token} → IsReads us all rest → List TooMany → List TooMany
in_reads no_reads l = l
in_reads (some_reads u us) l = in_use u (in_commas item.Reads (λ x a b. in_use) 1 us l)

abbrev pub in_cond : {c : CondText} {all rest : List Token} → IsCond c all rest → List TooMany → List TooMany
in_cond (a_cond a r b) l = in_form a (in_form b l)

abbrev pub in_conds : {cs : List CondText} {all rest : List Token} → IsConds cs all rest → List TooMany → List TooMany
in_conds no_conds l = l
in_conds (some_conds w c cs) l = in_cond c (in_commas item.Conditions (λ x a b. in_cond) 1 cs l)

abbrev pub in_mark : {m : MarkText} {all rest : List Token} → IsMark m all rest → List TooMany → List TooMany
in_mark unmarked l = l
in_mark (primary is) l = l
in_mark (secondary is) l = l
in_mark (priority {n = n} {c = c} {rest = rest} is o i j) l = note (too_great n) (n ∷ c ∷ rest) l

-- In a body, `d` brackets, `(` or `{`, are open.
abbrev mutual
  pub in_line : {p : Level} {x : ExprTree} {all rest : List Token} → ℕ → IsLine p x all rest → List TooMany → List TooMany
  in_line d (a_line x xs) l = in_operand d x (in_operands d xs l)

  pub in_operands : {p : Level} {xs : List (Operator × ExprTree)} {all rest : List Token} → ℕ → IsOperands p xs all rest → List TooMany → List TooMany
  in_operands d no_operand l = l
  in_operands d (an_operand is x xs) l = in_operand d x (in_operands d xs l)

  pub in_operand : {p : Level} {x : ExprTree} {all rest : List Token} → ℕ → IsOperand p x all rest → List TooMany → List TooMany
  in_operand d (a_conj x) l = in_line d x l
  in_operand d (a_comp x) l = in_comp d x l
  in_operand d (a_prod x) l = in_line d x l
  in_operand d (a_unary x) l = in_unary d x l

  pub in_comp : {x : ExprTree} {all rest : List Token} → ℕ → IsComp x all rest → List TooMany → List TooMany
  in_comp d (a_sum x) l = in_line d x l
  in_comp d (two_sums x is y) l = in_line d x (in_line d y l)

  pub in_unary : {x : ExprTree} {all rest : List Token} → ℕ → IsUnary x all rest → List TooMany → List TooMany
  in_unary d (unsigned x) l = in_prim d x l
  in_unary d (minus_prim is x) l = in_prim d x l
  in_unary d (not_prim is x) l = in_prim d x l

  pub in_prim : {x : ExprTree} {all rest : List Token} → ℕ → IsPrim x all rest → List TooMany → List TooMany
  in_prim d (a_number is) l = l
  in_prim d (the_name is) l = l
  in_prim d (call_of_none {o = o} {c = c} {rest = rest} is i j) l = begun (over item.Nesting d) (o ∷ c ∷ rest) l
  in_prim d (call_of {o = o} {all = all} is i xs) l = begun (over item.Nesting d) (o ∷ all) (in_arguments (suc d) 1 xs l)
  in_prim d (in_parentheses {o = o} {all = all} is x i) l = begun (over item.Nesting d) (o ∷ all) (in_line (suc d) x l)
  in_prim d (cell_of {o = o} {all = all} is i j k xs) l = begun (over item.Nesting d) (o ∷ all) (in_coordinates (suc d) xs l)
  in_prim d (width_of {o = o} {c = c} {rest = rest} is i j k m) l = begun (over item.Nesting d) (o ∷ c ∷ rest) l
  in_prim d (height_of {o = o} {c = c} {rest = rest} is i j k m) l = begun (over item.Nesting d) (o ∷ c ∷ rest) l

  pub in_arguments : {xs : List ExprTree} {all rest : List Token} → ℕ → ℕ → IsArguments xs all rest → List TooMany → List TooMany
  in_arguments d n (last_argument x is) l = in_line d x l
  in_arguments d n (an_argument {mid = mid} x is xs) l = in_line d x (begun (over item.Arguments n) mid (in_arguments d (suc n) xs l))

  pub in_coordinates : {xs : List ExprTree} {all rest : List Token} → ℕ → IsCoordinates xs all rest → List TooMany → List TooMany
  in_coordinates d (one_coordinate x is) l = in_line d x l
  in_coordinates d (two_coordinates x is y i) l = in_line d x (in_line d y l)

-- how many statements there are in one, itself and those nested in it
abbrev mutual
  pub statements_in : StmtTree → ℕ
  statements_in (let_number at n x) = 1
  statements_in (let_matrix at n ds) = 1
  statements_in (assign n x) = 1
  statements_in (call_stmt ns n xs) = 1
  statements_in (assign_cell n xs x) = 1
  statements_in (if_stmt at x ss) = 1 + statements_among ss
  statements_in (if_else at x ss others) = 1 + (statements_among ss + statements_among others)
  statements_in (for_stmt at n a b ss) = 1 + statements_among ss

  pub statements_among : StmtTrees → ℕ
  statements_among no_stmts = 0
  statements_among (a_stmt s ss) = statements_in s + statements_among ss

-- those of a list
abbrev pub among : List StmtTree → ℕ
among [] = 0
among (s ∷ ss) = statements_in s + among ss

-- and how many statements began before
abbrev mutual
  pub in_stmt : {s : StmtTree} {all rest : List Token} → ℕ → ℕ → IsStmt s all rest → List TooMany → List TooMany
  in_stmt d n (let_a_number i j k x m) l = in_line d x l
  in_stmt d n (let_a_matrix i j k ds m) l = in_dims None ds l
  in_stmt d n (an_assignment i j x k) l = in_line d x l
  in_stmt d n (a_call {f = f} {o = o} {mid = mid} i j k ns m p q xs r) l =
      in_commas item.Targets (λ x a b. in_name) 2 ns (begun (over item.Nesting d) (o ∷ mid) (in_arguments (suc d) 1 xs l))
  in_stmt d n (a_cell_assignment {o = o} {all = all} i j k m xs p x q) l =
      begun (over item.Nesting d) (o ∷ all) (in_coordinates (suc d) xs (in_line d x l))
  in_stmt d n (an_if {o = o} {all = all} i j x k ss) l = begun (over item.Nesting d) (o ∷ all) (in_line (suc d) x (in_block d (n + 1) ss l))
  in_stmt d n (an_if_else {ss = body} {o = o} {all = all} i j x k ss m others) l =
      begun (over item.Nesting d) (o ∷ all) (in_line (suc d) x (in_block d (n + 1) ss (in_block d ((n + 1) + among body) others l)))
  in_stmt d n (a_for {o = o} {n = name} {e = e} {all = all} i j k m a p b q ss) l =
      begun (over item.Nesting d) (o ∷ name ∷ e ∷ all) (in_line (suc d) a (in_line (suc d) b (in_block d (n + 1) ss l)))

  pub in_block : {ss : List StmtTree} {all rest : List Token} → ℕ → ℕ → IsBlock ss all rest → List TooMany → List TooMany
  in_block d n (a_block {o = o} {all = all} is ss) l = begun (over item.Nesting d) (o ∷ all) (in_stmts (suc d) n ss l)

  pub in_stmts : {ss : List StmtTree} {all rest : List Token} → ℕ → ℕ → IsStmts ss all rest → List TooMany → List TooMany
  in_stmts d n (no_stmt is) l = l
  in_stmts d n (one_stmt {s = s} {all = all} i ss) l = begun (over item.Statements n) all (in_stmt d n i (in_stmts d (n + statements_in s) ss l))

abbrev pub in_rule : {r : RuleTree} {all rest : List Token} → IsRule r all rest → List TooMany → List TooMany
in_rule (a_rule m t o u us c f p rs q cs ss) l =
    in_mark m (in_use u (in_commas item.Outputs (λ x a b. in_use) 1 us (in_reads rs (in_conds cs (in_block 0 0 ss l)))))

abbrev pub in_rules : {rs : List RuleTree} {all rest : List Token} → ℕ → IsRules rs all rest → List TooMany → List TooMany
in_rules n no_rules l = l
in_rules n (one_rule {all = all} r rs) l = begun (over item.Rules n) all (in_rule r (in_rules (suc n) rs l))

abbrev pub in_transform : {x : TransformTree} {all rest : List Token} → IsTransform x all rest → List TooMany → List TooMany
in_transform (a_transform {from = given} {kept = kept} t n ms f from through o to b r rs c) l =
    in_minimums ms (in_decls 0 true from (in_through (length given) through (in_decls (length given + length kept) false to (in_rule r (in_rules 1 rs l)))))

abbrev pub in_transforms : {xs : List TransformTree} {all rest : List Token} → ℕ → IsTransforms xs all rest → List TooMany → List TooMany
in_transforms n no_transforms l = l
in_transforms n (one_transform {all = all} x xs) l = begun (over item.Transforms n) all (in_transform x (in_transforms (suc n) xs l))

-- all items of a program that are too many
abbrev pub in_program : {xs : List TransformTree} {all : List Token} → IsProgram xs all → List TooMany
in_program (a_program x xs) = in_transform x (in_transforms 1 xs [])
