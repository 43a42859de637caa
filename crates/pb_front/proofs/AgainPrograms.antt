-- Bodies, rules, transforms and programs are spelled again.
use Rattle.std.proofs.Common.{◌≡◌, ℕ, suc, ◌+◌, List, [], ◌∷◌, ◌++◌, map, Option, Some, None, codes, refl, sym, ap, ap₂, ◌∙◌, subst, false, true, length}
use Rattle.std.proofs.lemmas.List.{append-nil}
use Rattle.std.proofs.lemmas.Option.{same_Some}
use Rattle.pb_values.specs.Name.{NameValue}
use Rattle.pb_syntax.specs.declared.token.Token.{Token}
use Rattle.pb_syntax.specs.declared.refusal.Item.TheVariants as item
use Rattle.pb_syntax.specs.declared.kind.TokenKind.{TokenKind}
use Rattle.pb_syntax.specs.declared.kind.TokenKind.TheVariants as k
use Rattle.pb_syntax.specs.declared.tree.expression.Level.{Level}
use Rattle.pb_syntax.specs.declared.tree.expression.Level.TheVariants as level
use Rattle.pb_syntax.specs.declared.tree.expression.Operator.{Operator}
use Rattle.pb_syntax.specs.declared.tree.expression.Relation.{Relation}
use Rattle.pb_syntax.specs.declared.tree.expression.Relation.TheVariants as relation
use Rattle.pb_syntax.specs.declared.tree.expression.UnarySign.TheVariants as sign
use Rattle.pb_syntax.specs.Kinds.{kind_of, sign_kind, Is, name_in, number_in}
use Rattle.pb_syntax.specs.Operators.{operator_of, relation_of}
use Rattle.pb_syntax.specs.Exprs.{ExprTree, number, name, call, parentheses, cell, width, height, signed, chain, chained, compare, exprs, operands}
use Rattle.pb_syntax.specs.Stmts.{StmtTree, StmtTrees, let_number, let_matrix, assign, call_stmt, assign_cell, if_stmt, if_else, for_stmt, stmts}
use Rattle.pb_prog.specs.Spelling.{comma, operator_sign, relation_sign, after_commas, with_commas, name_tokens, form_tokens, expr_tokens, operands_tokens, arguments_tokens, more_arguments_tokens, stmt_tokens, stmts_tokens, Written, in_order, minimums_tokens, use_tokens, conds_tokens, decl_tokens, through_tokens, mark_tokens, rule_tokens, transform_tokens, text_tokens}
use Rattle.pb_syntax.specs.Grammar.{IsName, a_name, IsLine, a_line, IsOperands, no_operand, an_operand, IsOperand, a_conj, a_comp, a_prod, a_unary, IsComp, a_sum, two_sums, IsUnary, unsigned, minus_prim, not_prim, IsPrim, a_number, the_name, call_of_none, call_of, in_parentheses, cell_of, width_of, height_of, IsArguments, last_argument, an_argument, IsCoordinates, one_coordinate, two_coordinates, IsStmt, let_a_number, let_a_matrix, an_assignment, a_call, a_cell_assignment, an_if, an_if_else, a_for, IsBlock, a_block, IsStmts, no_stmt, one_stmt, IsRule, a_rule, IsRules, no_rules, one_rule, IsTransform, a_transform, IsTransforms, no_transforms, one_transform, a_program}
use Rattle.pb_syntax.specs.Limits.{over}
use Rattle.pb_syntax.specs.TooMany.{in_name, in_line, in_operands, in_operand, in_comp, in_unary, in_prim, in_arguments, in_coordinates, in_stmt, in_block, in_stmts, statements_in, among, in_through, in_decls, in_use, in_rule, in_rules, in_transform, in_transforms}
use Rattle.pb_syntax.specs.Places.{unplaced_name, unplaced_expr, unplaced_exprs, unplaced_operands, unplaced_stmt, unplaced_stmts, unplaced_use, unplaced_decl, unplaced_rule, unplaced_transform, unplaced}
use Rattle.pb_front.proofs.Written.{Takes, nothing, one}
use Rattle.pb_front.proofs.Unplaced.{exprs_unplaced, same_statements, same_among, same_length}
use Rattle.pb_front.proofs.Again.{cut, split, is, number_is, is_name, same_name, is_word, Again, made, again_commas, Fewer, Adds, begun_fewer}
use Rattle.pb_syntax.specs.declared.tree.view.UseText.{UseText}
use Rattle.pb_syntax.specs.declared.tree.view.CondText.{CondText}
use Rattle.pb_syntax.specs.declared.tree.view.MarkText.{MarkText}
use Rattle.pb_syntax.specs.Forms.{DeclValue}
use Rattle.pb_syntax.specs.Trees.{RuleTree, TransformTree}
use Rattle.pb_syntax.specs.Faults.{Accepted}
use Rattle.pb_front.proofs.AgainParts.{again_dims, again_decls, again_use, again_minimums, again_through, again_reads, again_conds, again_mark}

back : {A : Type 0} {a b : A} (f : A → Option A) → Some a ≡ Some b → f a ≡ Some a → f b ≡ Some b
back {a = a} {b = b} f e h = subst (λ x. f x ≡ Some x) (same_Some a b e) h

operator_again : (p : Level) (kind : TokenKind) (o : Operator) → operator_of p kind ≡ Some o → operator_of p (sign_kind (operator_sign o)) ≡ Some o
operator_again level.Product k.Times o e = back (λ o. operator_of level.Product (sign_kind (operator_sign o))) e refl
operator_again level.Product k.Over o e = back (λ o. operator_of level.Product (sign_kind (operator_sign o))) e refl
operator_again level.Product k.Modulo o e = back (λ o. operator_of level.Product (sign_kind (operator_sign o))) e refl
operator_again level.Sum k.Plus o e = back (λ o. operator_of level.Sum (sign_kind (operator_sign o))) e refl
operator_again level.Sum k.Minus o e = back (λ o. operator_of level.Sum (sign_kind (operator_sign o))) e refl
operator_again level.Conjunction k.And o e = back (λ o. operator_of level.Conjunction (sign_kind (operator_sign o))) e refl
operator_again level.Disjunction k.Or o e = back (λ o. operator_of level.Disjunction (sign_kind (operator_sign o))) e refl
operator_again _ _ o e = absurd (cc)

relation_again : (r : Relation) → relation_of (sign_kind (relation_sign r)) ≡ Some r
relation_again relation.Less = refl
relation_again _ = refl

abbrev unplaced_operand : (Operator × ExprTree) → (Operator × ExprTree)
unplaced_operand o = (o.0, unplaced_expr o.1)

operands_unplaced : (xs : List (Operator × ExprTree)) → operands (map unplaced_operand xs) ≡ unplaced_operands (operands xs)
operands_unplaced [] = refl
operands_unplaced (x ∷ xs) = rw (operands_unplaced xs) refl

chained_unplaced : (p : Level) (x : ExprTree) (xs : List (Operator × ExprTree)) → unplaced_expr (chained p x xs) ≡ chained p (unplaced_expr x) (map unplaced_operand xs)
chained_unplaced p x [] = refl
chained_unplaced p x (y ∷ ys) = ap (chain p (unplaced_expr x)) (sym (operands_unplaced (y ∷ ys)))

same_chained : (p : Level) (x y : ExprTree) (xs ys : List (Operator × ExprTree)) → unplaced_expr y ≡ unplaced_expr x → map unplaced_operand ys ≡ map unplaced_operand xs
    → unplaced_expr (chained p y ys) ≡ unplaced_expr (chained p x xs)
same_chained p x y xs ys e f = chained_unplaced p y ys ∙ ap₂ (chained p) e f ∙ sym (chained_unplaced p x xs)

same_exprs : (xs ys : List ExprTree) → map unplaced_expr ys ≡ map unplaced_expr xs → unplaced_exprs (exprs ys) ≡ unplaced_exprs (exprs xs)
same_exprs xs ys e = sym (exprs_unplaced ys) ∙ ap exprs e ∙ exprs_unplaced xs

chained_tokens : (p : Level) (x : ExprTree) (xs : List (Operator × ExprTree)) → expr_tokens (chained p x xs) ≡ expr_tokens x ++ operands_tokens (operands xs)
unfolding expr_tokens
chained_tokens p x [] = sym (append-nil (expr_tokens x))
chained_tokens p x (y ∷ ys) = refl

more_tokens : {xs : List ExprTree} {all rest : List Token} → IsArguments xs all rest → more_arguments_tokens (exprs xs) ≡ comma ∷ arguments_tokens (exprs xs)
unfolding expr_tokens
more_tokens (last_argument d i) = refl
more_tokens (an_argument d i ds) = refl

mutual
  unfolding expr_tokens

  pub again_line : {p : Level} {x : ExprTree} {all rest all' rest' : List Token} (d : IsLine p x all rest) → Takes (expr_tokens x) all' rest'
      → Again (IsLine p) unplaced_expr x all' rest' (λ y d'. (n : ℕ) → Adds (in_line n d) (in_line n d'))
  again_line {all' = all'} {rest' = rest'} (a_line {l = p} {x = x} {xs = xs} d ds) t =
      elim (split {a = expr_tokens x} {b = operands_tokens (operands xs)} (subst (λ ws. Takes ws all' rest') (chained_tokens p x xs) t)) [
        | cut a b ↦ let r = again_operand d a in let s = again_operands ds b in made (chained p r.tree s.tree) (a_line r.spelled s.spelled)
            (same_chained p x r.tree xs s.tree r.same s.same) (λ n l m h. r.few n _ _ (s.few n l m h))
      ]

  again_operands : {p : Level} {xs : List (Operator × ExprTree)} {all rest all' rest' : List Token} (d : IsOperands p xs all rest) → Takes (operands_tokens (operands xs)) all' rest'
      → Again (IsOperands p) (map unplaced_operand) xs all' rest' (λ ys d'. (n : ℕ) → Adds (in_operands n d) (in_operands n d'))
  again_operands no_operand nothing = made [] no_operand refl (λ n l m h. h)
  again_operands (an_operand {l = p} {o = o} {x = x} {xs = xs} {t = t} i d ds) (one {t = u} e a) = elim (split {a = expr_tokens x} {b = operands_tokens (operands xs)} a) [
    | cut a b ↦ let r = again_operand d a in let s = again_operands ds b in made ((o, r.tree) ∷ s.tree)
        (an_operand (ap (operator_of p) (is u e) ∙ operator_again p (kind_of t) o i) r.spelled s.spelled) (ap₂ (λ y ys. (o, y) ∷ ys) r.same s.same)
        (λ n l m h. r.few n _ _ (s.few n l m h))
  ]

  again_operand : {p : Level} {x : ExprTree} {all rest all' rest' : List Token} (d : IsOperand p x all rest) → Takes (expr_tokens x) all' rest'
      → Again (IsOperand p) unplaced_expr x all' rest' (λ y d'. (n : ℕ) → Adds (in_operand n d) (in_operand n d'))
  again_operand (a_conj d) t = let r = again_line d t in made r.tree (a_conj r.spelled) r.same r.few
  again_operand (a_comp d) t = let r = again_comp d t in made r.tree (a_comp r.spelled) r.same r.few
  again_operand (a_prod d) t = let r = again_line d t in made r.tree (a_prod r.spelled) r.same r.few
  again_operand (a_unary d) t = let r = again_unary d t in made r.tree (a_unary r.spelled) r.same r.few

  again_comp : {x : ExprTree} {all rest all' rest' : List Token} (d : IsComp x all rest) → Takes (expr_tokens x) all' rest'
      → Again IsComp unplaced_expr x all' rest' (λ y d'. (n : ℕ) → Adds (in_comp n d) (in_comp n d'))
  again_comp (a_sum d) t = let r = again_line d t in made r.tree (a_sum r.spelled) r.same r.few
  again_comp (two_sums {x = x} {y = y} {r = o} d i e) t = elim (split {a = expr_tokens x} t) [
    | cut a (one {t = u} q b) ↦ let r = again_line d a in let s = again_line e b in made (compare r.tree o s.tree)
        (two_sums r.spelled (ap relation_of (is u q) ∙ relation_again o) s.spelled) (ap₂ (λ y z. compare y o z) r.same s.same) (λ n l m h. r.few n _ _ (s.few n l m h))
  ]

  again_unary : {x : ExprTree} {all rest all' rest' : List Token} (d : IsUnary x all rest) → Takes (expr_tokens x) all' rest'
      → Again IsUnary unplaced_expr x all' rest' (λ y d'. (n : ℕ) → Adds (in_unary n d) (in_unary n d'))
  again_unary (unsigned d) t = let r = again_prim d t in made r.tree (unsigned r.spelled) r.same r.few
  again_unary (minus_prim i d) (one {t = u} e t) = let r = again_prim d t in made (signed u.at sign.Minus r.tree) (minus_prim (is u e) r.spelled)
      (ap (signed 0 sign.Minus) r.same) r.few
  again_unary (not_prim i d) (one {t = u} e t) = let r = again_prim d t in made (signed u.at sign.Not r.tree) (not_prim (is u e) r.spelled) (ap (signed 0 sign.Not) r.same) r.few

  again_prim : {x : ExprTree} {all rest all' rest' : List Token} (d : IsPrim x all rest) → Takes (expr_tokens x) all' rest'
      → Again IsPrim unplaced_expr x all' rest' (λ y d'. (n : ℕ) → Adds (in_prim n d) (in_prim n d'))
  again_prim (a_number {t = t} i) (one {t = u} e nothing) = made (number u.at (number_in u)) (a_number (is u e)) (ap (number 0) (number_is u e)) (λ n l m h. h)
  again_prim (the_name {t = t} i) (one {t = u} e nothing) = made (name (name_in u)) (the_name (is_name t u i e)) (ap name (same_name t u e)) (λ n l m h. h)
  again_prim (call_of_none {n = t} {o = o} {c = c} {rest = old} i j k') (one {t = u} e (one {t = v} f (one {t = w} {all = new} g nothing))) = made (call (name_in u) (exprs []))
      (call_of_none (is_name t u i e) (is v f) (is w g)) (ap (λ y. call y (exprs [])) (same_name t u e))
      (λ n l m h. begun_fewer (over item.Nesting n) (o ∷ c ∷ old) (v ∷ w ∷ new) h)
  again_prim (call_of {xs = xs} {n = t} {o = o} {all = old} i j d) (one {t = u} e (one {t = v} {all = new} f a)) = elim (split {a = arguments_tokens (exprs xs)} a) [
    | cut a (one {t = w} g nothing) ↦ let r = again_arguments d a (is w g) in made (call (name_in u) (exprs r.tree)) (call_of (is_name t u i e) (is v f) r.spelled)
        (ap₂ call (same_name t u e) (same_exprs xs r.tree r.same)) (λ n l m h. begun_fewer (over item.Nesting n) (o ∷ old) (v ∷ new) (r.few (suc n) 1 l m h))
  ]
  again_prim (in_parentheses {x = x} {o = o} {all = old} i d j) (one {t = u} {all = new} e a) = elim (split {a = expr_tokens x} a) [
    | cut a (one {t = w} g nothing) ↦ let r = again_line d a in made (parentheses u.at r.tree) (in_parentheses (is u e) r.spelled (is w g)) (ap (parentheses 0) r.same)
        (λ n l m h. begun_fewer (over item.Nesting n) (o ∷ old) (u ∷ new) (r.few (suc n) l m h))
  ]
  again_prim (cell_of {xs = xs} {n = t} {o = o} {all = old} i j k' q d) (one {t = u} e (one {t = v} f (one {t = w} g (one {t = z} {all = new} h a)))) = elim (split {a = arguments_tokens (exprs xs)} a) [
    | cut a (one {t = y} c nothing) ↦ let r = again_coordinates d a (is y c) in made (cell (name_in u) (exprs r.tree))
        (cell_of (is_name t u i e) (is v f) (is_word (codes "cell") w refl g) (is z h) r.spelled) (ap₂ cell (same_name t u e) (same_exprs xs r.tree r.same))
        (λ n l m h. begun_fewer (over item.Nesting n) (o ∷ old) (z ∷ new) (r.few (suc n) l m h))
  ]
  again_prim (width_of {n = t} {o = o} {c = c} {rest = old} i j k' q s) (one {t = u} e (one {t = v} f (one {t = w} g (one {t = z} h (one {t = y} {all = new} p nothing))))) = made (width (name_in u))
      (width_of (is_name t u i e) (is v f) (is_word (codes "width") w refl g) (is z h) (is y p)) (ap width (same_name t u e))
      (λ n l m h. begun_fewer (over item.Nesting n) (o ∷ c ∷ old) (z ∷ y ∷ new) h)
  again_prim (height_of {n = t} {o = o} {c = c} {rest = old} i j k' q s) (one {t = u} e (one {t = v} f (one {t = w} g (one {t = z} h (one {t = y} {all = new} p nothing))))) = made (height (name_in u))
      (height_of (is_name t u i e) (is v f) (is_word (codes "height") w refl g) (is z h) (is y p)) (ap height (same_name t u e))
      (λ n l m h. begun_fewer (over item.Nesting n) (o ∷ c ∷ old) (z ∷ y ∷ new) h)

  -- arguments and coordinates, with the bracket that closes them
  again_arguments : {xs : List ExprTree} {all rest all' rest' : List Token} {c : Token} (d : IsArguments xs all rest) → Takes (arguments_tokens (exprs xs)) all' (c ∷ rest') → Is k.Close c
      → Again IsArguments (map unplaced_expr) xs all' rest' (λ ys d'. (n i : ℕ) → Adds (in_arguments n i d) (in_arguments n i d'))
  again_arguments (last_argument {x = x} d i) t j = elim (split {a = expr_tokens x} {b = []} t) [
    | cut a nothing ↦ let r = again_line d a in made (r.tree ∷ []) (last_argument r.spelled j) (ap (λ y. y ∷ []) r.same) (λ n i l m h. r.few n l m h)
  ]
  again_arguments {all' = all'} {rest' = rest'} {c = c} (an_argument {x = x} {xs = xs} {mid = old} d i ds) t j =
      elim (split {a = expr_tokens x} (subst (λ ws. Takes (expr_tokens x ++ ws) all' (c ∷ rest')) (more_tokens ds) t)) [
        | cut a (one {t = u} {all = new} e b) ↦ let r = again_line d a in let s = again_arguments ds b j in made (r.tree ∷ s.tree) (an_argument r.spelled (is u e) s.spelled)
            (ap₂ (λ y ys. y ∷ ys) r.same s.same) (λ n i l m h. r.few n _ _ (begun_fewer (over item.Arguments i) old new (s.few n (suc i) l m h)))
      ]

  again_coordinates : {xs : List ExprTree} {all rest all' rest' : List Token} {c : Token} (d : IsCoordinates xs all rest) → Takes (arguments_tokens (exprs xs)) all' (c ∷ rest') → Is k.Close c
      → Again IsCoordinates (map unplaced_expr) xs all' rest' (λ ys d'. (n : ℕ) → Adds (in_coordinates n d) (in_coordinates n d'))
  again_coordinates (one_coordinate {x = x} d i) t j = elim (split {a = expr_tokens x} {b = []} t) [
    | cut a nothing ↦ let r = again_line d a in made (r.tree ∷ []) (one_coordinate r.spelled j) (ap (λ y. y ∷ []) r.same) r.few
  ]
  again_coordinates (two_coordinates {x = x} {y = y} d i e o) t j = elim (split {a = expr_tokens x} t) [
    | cut a (one {t = u} q b) ↦ elim (split {a = expr_tokens y} {b = []} b) [
      | cut b nothing ↦ let r = again_line d a in let s = again_line e b in made (r.tree ∷ s.tree ∷ []) (two_coordinates r.spelled (is u q) s.spelled j)
          (ap₂ (λ y z. y ∷ z ∷ []) r.same s.same) (λ n l m h. r.few n _ _ (s.few n l m h))
    ]
  ]

again_name : (x : NameValue) (all rest all' rest' : List Token) (d : IsName x all rest) → Takes (name_tokens x) all' rest'
    → Again IsName unplaced_name x all' rest' (λ y d'. Adds (in_name d) (in_name d'))
again_name x all rest all' rest' (a_name {t = t} i) (one {t = u} e nothing) = made (name_in u) (a_name (is_name t u i e)) (same_name t u e) (λ l m h. h)

stmts_unplaced : (ss : List StmtTree) → stmts (map unplaced_stmt ss) ≡ unplaced_stmts (stmts ss)
stmts_unplaced [] = refl
stmts_unplaced (s ∷ ss) = rw (stmts_unplaced ss) refl

same_stmts : (xs ys : List StmtTree) → map unplaced_stmt ys ≡ map unplaced_stmt xs → unplaced_stmts (stmts ys) ≡ unplaced_stmts (stmts xs)
same_stmts xs ys e = sym (stmts_unplaced ys) ∙ ap stmts e ∙ stmts_unplaced xs

mutual
  unfolding stmt_tokens

  again_stmt : {s : StmtTree} {all rest all' rest' : List Token} (d : IsStmt s all rest) → Takes (stmt_tokens s) all' rest'
      → Again IsStmt unplaced_stmt s all' rest' (λ y d'. (n i : ℕ) → Adds (in_stmt n i d) (in_stmt n i d'))
  again_stmt (let_a_number {x = x} {n = t} i j k' d o) (one {t = z} e (one {t = u} f (one {t = v} g a))) = elim (split {a = expr_tokens x} a) [
    | cut a (one {t = w} c nothing) ↦ let r = again_line d a in made (let_number z.at (name_in u) r.tree)
        (let_a_number (is z e) (is_name t u j f) (is v g) r.spelled (is w c)) (ap₂ (let_number 0) (same_name t u f) r.same) (λ n i l m h. r.few n l m h)
  ]
  again_stmt (let_a_matrix {ds = ds} {n = t} i j k' d o) (one {t = z} e (one {t = u} f (one {t = v} g a))) = elim (split {a = with_commas form_tokens ds} a) [
    | cut a (one {t = w} c (one {t = y} q nothing)) ↦ let r = again_dims d a (is w c) in made (let_matrix z.at (name_in u) r.tree)
        (let_a_matrix (is z e) (is_name t u j f) (is v g) r.spelled (is y q)) (ap₂ (let_matrix 0) (same_name t u f) r.same) (λ n i l m h. r.few None l m h)
  ]
  again_stmt (an_assignment {x = x} {n = t} i j d o) (one {t = u} f (one {t = v} g a)) = elim (split {a = expr_tokens x} a) [
    | cut a (one {t = w} c nothing) ↦ let r = again_line d a in made (assign (name_in u) r.tree) (an_assignment (is_name t u i f) (is v g) r.spelled (is w c))
        (ap₂ assign (same_name t u f) r.same) (λ n i l m h. r.few n l m h)
  ]
  again_stmt (a_call {ns = ns} {xs = xs} {n = t} {p = p} {f = q} {o = o} {mid = old} i j k' ds d₁ d₂ d₃ args d₄) (one {t = u} e (one {t = v} f (one {t = w} g a))) =
      elim (split {a = after_commas name_tokens ns} a) [
        | cut a (one {t = z₁} e₁ (one {t = z₂} e₂ (one {t = z₃} {all = new} e₃ b))) ↦ elim (split {a = arguments_tokens (exprs xs)} b) [
          | cut b (one {t = z₄} e₄ (one {t = z₅} e₅ nothing)) ↦
              let r = again_commas unplaced_name name_tokens (λ x a b. in_name) again_name ds a in let s = again_arguments args b (is z₄ e₄) in
              made (call_stmt (name_in u ∷ name_in w ∷ r.tree) (name_in z₂) s.tree)
              (a_call (is_name t u i e) (is v f) (is_name p w k' g) r.spelled (is z₁ e₁) (is_name q z₂ d₂ e₂) (is z₃ e₃) s.spelled (is z₅ e₅))
              (ap₂ (λ (y : List NameValue × NameValue) z. call_stmt y.0 y.1 z) (ap₂ (λ y z. (y, z))
              (ap₂ (λ (y : NameValue × NameValue) ys. y.0 ∷ y.1 ∷ ys) (ap₂ (λ y z. (y, z)) (same_name t u e) (same_name p w g)) r.same) (same_name q z₂ e₂)) s.same)
              (λ n i l m h. r.few item.Targets 2 _ _ (begun_fewer (over item.Nesting n) (o ∷ old) (z₃ ∷ new) (s.few (suc n) 1 l m h)))
        ]
      ]
  again_stmt (a_cell_assignment {x = x} {xs = xs} {n = t} {o = o} {all = old} i j k' d₁ d d₂ d' d₃) (one {t = u} e (one {t = v} f (one {t = w} g (one {t = z} {all = new} q a)))) =
      elim (split {a = arguments_tokens (exprs xs)} a) [
        | cut a (one {t = z₁} e₁ (one {t = z₂} e₂ b)) ↦ elim (split {a = expr_tokens x} b) [
          | cut b (one {t = z₃} e₃ nothing) ↦ let r = again_coordinates d a (is z₁ e₁) in let s = again_line d' b in made (assign_cell (name_in u) r.tree s.tree)
              (a_cell_assignment (is_name t u i e) (is v f) (is_word (codes "cell") w refl g) (is z q) r.spelled (is z₂ e₂) s.spelled (is z₃ e₃))
              (ap₂ (λ (y : NameValue × List ExprTree) z. assign_cell y.0 y.1 z) (ap₂ (λ y z. (y, z)) (same_name t u e) r.same) s.same)
              (λ n i l m h. begun_fewer (over item.Nesting n) (o ∷ old) (z ∷ new) (r.few (suc n) _ _ (s.few n l m h)))
        ]
      ]
  again_stmt (an_if {x = x} {ss = ss} {o = o} {all = old} i j d k' ds) (one {t = u} e (one {t = v} {all = new} f a)) = elim (split {a = expr_tokens x} a) [
    | cut a (one {t = w} g (one {t = z} q b)) ↦ elim (split {a = stmts_tokens (stmts ss)} b) [
      | cut b (one {t = y} c nothing) ↦ let r = again_line d a in let s = again_block ds (is z q) b (is y c) in made (if_stmt u.at r.tree (stmts s.tree))
          (an_if (is u e) (is v f) r.spelled (is w g) s.spelled) (ap₂ (if_stmt 0) r.same (same_stmts ss s.tree s.same))
          (λ n i l m h. begun_fewer (over item.Nesting n) (o ∷ old) (v ∷ new) (r.few (suc n) _ _ (s.few n (i + 1) l m h)))
    ]
  ]
  again_stmt (an_if_else {x = x} {ss = ss} {others = others} {o = o} {all = old} i j d k' ds d₁ ds') (one {t = u} e (one {t = v} {all = new} f a)) = elim (split {a = expr_tokens x} a) [
    | cut a (one {t = w} g (one {t = z} q b)) ↦ elim (split {a = stmts_tokens (stmts ss)} b) [
      | cut b (one {t = z₁} e₁ (one {t = z₂} e₂ (one {t = z₃} e₃ c))) ↦ elim (split {a = stmts_tokens (stmts others)} c) [
        | cut c (one {t = z₄} e₄ nothing) ↦
            let r = again_line d a in let s = again_block ds (is z q) b (is z₁ e₁) in let s' = again_block ds' (is z₃ e₃) c (is z₄ e₄) in made (if_else u.at r.tree (stmts s.tree) (stmts s'.tree))
            (an_if_else (is u e) (is v f) r.spelled (is w g) s.spelled (is z₂ e₂) s'.spelled)
            (ap₂ (λ (y : ExprTree × StmtTrees) z. if_else 0 y.0 y.1 z) (ap₂ (λ y z. (y, z)) r.same (same_stmts ss s.tree s.same)) (same_stmts others s'.tree s'.same))
            (λ n i l m h. begun_fewer (over item.Nesting n) (o ∷ old) (v ∷ new) (r.few (suc n) _ _ (s.few n (i + 1) _ _
            (subst (λ k. Fewer (in_block n ((i + 1) + among ss) ds' l) (in_block n ((i + 1) + k) s'.spelled m)) (sym (same_among s.tree ss s.same)) (s'.few n ((i + 1) + among ss) l m h)))))
      ]
    ]
  ]
  again_stmt (a_for {a = x} {b = y} {ss = ss} {o = o} {n = t} {e = e'} {all = old} i j k' d₁ d d₂ d' d₃ ds)
      (one {t = u} e (one {t = v} f (one {t = w} g (one {t = z} {all = new} q a)))) = elim (split {a = expr_tokens x} a) [
        | cut a (one {t = z₁} e₁ b) ↦ elim (split {a = expr_tokens y} b) [
          | cut b (one {t = z₂} e₂ (one {t = z₃} e₃ c)) ↦ elim (split {a = stmts_tokens (stmts ss)} c) [
            | cut c (one {t = z₄} e₄ nothing) ↦
                let r = again_line d a in let s = again_line d' b in let s' = again_block ds (is z₃ e₃) c (is z₄ e₄) in made (for_stmt u.at (name_in w) r.tree s.tree (stmts s'.tree))
                (a_for (is u e) (is v f) (is_name t w k' g) (is z q) r.spelled (is z₁ e₁) s.spelled (is z₂ e₂) s'.spelled)
                (ap₂ (λ (p : NameValue × ExprTree) (q : ExprTree × StmtTrees). for_stmt 0 p.0 p.1 q.0 q.1) (ap₂ (λ y z. (y, z)) (same_name t w g) r.same) (ap₂ (λ y z. (y, z)) s.same (same_stmts ss s'.tree s'.same)))
                (λ n i l m h. begun_fewer (over item.Nesting n) (o ∷ t ∷ e' ∷ old) (v ∷ w ∷ z ∷ new) (r.few (suc n) _ _ (s.few (suc n) _ _ (s'.few n (i + 1) l m h))))
          ]
        ]
      ]

  -- statements in braces, between their braces
  pub again_block : {ss : List StmtTree} {all rest all' rest' : List Token} {o c : Token} (d : IsBlock ss all rest) → Is k.OpenBrace o
      → Takes (stmts_tokens (stmts ss)) all' (c ∷ rest') → Is k.CloseBrace c
      → Again IsBlock (map unplaced_stmt) ss (o ∷ all') rest' (λ ys d'. (n i : ℕ) → Adds (in_block n i d) (in_block n i d'))
  again_block {all' = new} {o = u} (a_block {o = o} {all = old} i d) j t q = let r = again_stmts d t q in made r.tree (a_block j r.spelled) r.same
      (λ n i l m h. begun_fewer (over item.Nesting n) (o ∷ old) (u ∷ new) (r.few (suc n) i l m h))

  again_stmts : {ss : List StmtTree} {all rest all' rest' : List Token} {c : Token} (d : IsStmts ss all rest) → Takes (stmts_tokens (stmts ss)) all' (c ∷ rest') → Is k.CloseBrace c
      → Again IsStmts (map unplaced_stmt) ss all' rest' (λ ys d'. (n i : ℕ) → Adds (in_stmts n i d) (in_stmts n i d'))
  again_stmts (no_stmt i) nothing q = made [] (no_stmt q) refl (λ n i l m h. h)
  again_stmts {all' = new} (one_stmt {s = s} {ss = ss} {all = old} d ds) t q = elim (split {a = stmt_tokens s} {b = stmts_tokens (stmts ss)} t) [
    | cut a b ↦ let r = again_stmt d a in let r' = again_stmts ds b q in made (r.tree ∷ r'.tree) (one_stmt r.spelled r'.spelled) (ap₂ (λ y ys. y ∷ ys) r.same r'.same)
        (λ n i l m h. begun_fewer (over item.Statements i) old new (r.few n i _ _
        (subst (λ k. Fewer (in_stmts n (i + statements_in s) ds l) (in_stmts n (i + k) r'.spelled m)) (sym (same_statements r.tree s r.same)) (r'.few n (i + statements_in s) l m h))))
  ]

body_tokens : (ss : List StmtTree) → in_order stmt_tokens ss ≡ stmts_tokens (stmts ss)
unfolding stmt_tokens
body_tokens [] = refl
body_tokens (s ∷ ss) = ap (λ ts. stmt_tokens s ++ ts) (body_tokens ss)

-- a rule of these parts
abbrev rule_of : MarkText → List UseText → List UseText → List CondText → List StmtTree → RuleTree
rule_of m os rs cs ss = record { mark = m; outs = os; reads = rs; conds = cs; body = ss }

same_parts : {m m' : MarkText} {os os' rs rs' : List UseText} {cs cs' : List CondText} {ss ss' : List StmtTree} → m' ≡ m → os' ≡ os → rs' ≡ rs → cs' ≡ cs → ss' ≡ ss
    → rule_of m' os' rs' cs' ss' ≡ rule_of m os rs cs ss
same_parts a b c d e = rw (a, b, c, d, e) refl

takes_same : {a b : List Written} {all rest : List Token} → a ≡ b → Takes a all rest → Takes b all rest
takes_same {all = all} {rest = rest} e t = subst (λ ws. Takes ws all rest) e t

again_rule : {x : RuleTree} {all rest all' rest' : List Token} (d : IsRule x all rest) → Takes (rule_tokens x) all' rest'
    → Again IsRule unplaced_rule x all' rest' (λ y d'. Adds (in_rule d) (in_rule d'))
unfolding rule_tokens
again_rule (a_rule {m = x} {u = u} {us = us} {rs = rs} {cs = cs} {ss = ss} m t o d ds c f p reads q conds body) a = elim (split {a = mark_tokens x} a) [
  | cut a (one {t = t₁} e₁ (one {t = t₂} e₂ b)) ↦ elim (split {a = with_commas use_tokens (u ∷ us)} b) [
    | cut b (one {t = t₃} e₃ (one {t = t₄} e₄ (one {t = t₅} e₅ c'))) ↦ elim (split {a = with_commas use_tokens rs} c') [
      | cut c' (one {t = t₆} e₆ d') ↦ elim (split {a = conds_tokens cs} d') [
        | cut d' (one {t = t₇} e₇ z) ↦ elim (split {a = in_order stmt_tokens ss} z) [
          | cut z (one {t = t₈} e₈ nothing) ↦ elim (split {a = use_tokens u} {b = after_commas use_tokens us} b) [
            | cut b₁ b₂ ↦
                let r₁ = again_mark m a in
                let r₂ = again_use _ _ _ _ _ d b₁ in
                let r₃ = again_commas unplaced_use use_tokens (λ x a b. in_use) again_use ds b₂ in
                let r₄ = again_reads reads c' in
                let r₅ = again_conds conds d' in
                let r₆ = again_block body (is t₇ e₇) (takes_same (body_tokens ss) z) (is t₈ e₈) in
                made (record { mark = r₁.tree; outs = r₂.tree ∷ r₃.tree; reads = r₄.tree; conds = r₅.tree; body = r₆.tree })
                (a_rule r₁.spelled (is t₁ e₁) (is t₂ e₂) r₂.spelled r₃.spelled (is t₃ e₃) (is t₄ e₄) (is t₅ e₅) r₄.spelled (is t₆ e₆) r₅.spelled r₆.spelled)
                (same_parts r₁.same (ap₂ (λ y ys. y ∷ ys) r₂.same r₃.same) r₄.same r₅.same r₆.same)
                (λ l m' h. r₁.few _ _ (r₂.few _ _ (r₃.few item.Outputs 1 _ _ (r₄.few _ _ (r₅.few _ _ (r₆.few 0 0 l m' h))))))
          ]
        ]
      ]
    ]
  ]
]

again_rules : {xs : List RuleTree} {all rest all' rest' : List Token} (d : IsRules xs all rest) → Takes (in_order rule_tokens xs) all' rest'
    → Again IsRules (map unplaced_rule) xs all' rest' (λ y d'. (n : ℕ) → Adds (in_rules n d) (in_rules n d'))
again_rules no_rules nothing = made [] no_rules refl (λ n l m h. h)
again_rules {all' = new} (one_rule {r = x} {rs = xs} {all = old} d ds) t = elim (split {a = rule_tokens x} {b = in_order rule_tokens xs} t) [
  | cut a b ↦ let r = again_rule d a in let s = again_rules ds b in made (r.tree ∷ s.tree) (one_rule r.spelled s.spelled) (ap₂ (λ y ys. y ∷ ys) r.same s.same)
      (λ n l m h. begun_fewer (over item.Rules n) old new (r.few _ _ (s.few (suc n) l m h)))
]

-- a transform of these parts
abbrev transform_of : NameValue → List (NameValue × ℕ) → List DeclValue → List DeclValue → List DeclValue → List RuleTree → TransformTree
transform_of n ms from kept to rs = record { name = n; minimums = ms; from = from; through = kept; to = to; rules = rs }

same_whole : {n n' : NameValue} {ms ms' : List (NameValue × ℕ)} {from from' kept kept' to to' : List DeclValue} {rs rs' : List RuleTree}
    → n' ≡ n → ms' ≡ ms → from' ≡ from → kept' ≡ kept → to' ≡ to → rs' ≡ rs → transform_of n' ms' from' kept' to' rs' ≡ transform_of n ms from kept to rs
same_whole a b c d e f = rw (a, b, c, d, e, f) refl

again_transform : {x : TransformTree} {all rest all' rest' : List Token} (d : IsTransform x all rest) → Takes (transform_tokens x) all' rest'
    → Again IsTransform unplaced_transform x all' rest' (λ y d'. Adds (in_transform d) (in_transform d'))
unfolding transform_tokens
again_transform (a_transform {ms = ms} {from = given} {kept = kept} {to = to'} {r = x} {rs = xs} {n = n'} t n minimums f from through o to b r rs c)
    (one {t = t₁} e₁ (one {t = t₂} e₂ a)) = elim (split {a = minimums_tokens ms} a) [
      | cut a₁ (one {t = t₃} e₃ a) ↦ elim (split {a = with_commas decl_tokens given} a) [
        | cut a₂ a ↦ elim (split {a = through_tokens kept} a) [
          | cut a₃ (one {t = t₄} e₄ a) ↦ elim (split {a = with_commas decl_tokens to'} a) [
            | cut a₄ (one {t = t₅} e₅ a) ↦ elim (split {a = in_order rule_tokens (x ∷ xs)} a) [
              | cut a₅ (one {t = t₆} e₆ nothing) ↦ elim (split {a = rule_tokens x} {b = in_order rule_tokens xs} a₅) [
                | cut b₁ b₂ ↦
                    let r₁ = again_minimums minimums a₁ in
                    let r₂ = again_decls from a₂ in
                    let r₃ = again_through through a₃ in
                    let r₄ = again_decls to a₄ in
                    let r₅ = again_rule r b₁ in
                    let r₆ = again_rules rs b₂ in made (record { name = name_in t₂; minimums = r₁.tree; from = r₂.tree; through = r₃.tree; to = r₄.tree; rules = r₅.tree ∷ r₆.tree })
                    (a_transform (is t₁ e₁) (is_name n' t₂ n e₂) r₁.spelled (is t₃ e₃) r₂.spelled r₃.spelled (is t₄ e₄) r₄.spelled (is t₅ e₅) r₅.spelled r₆.spelled (is t₆ e₆))
                    (same_whole (same_name n' t₂ e₂) r₁.same r₂.same r₃.same r₄.same (ap₂ (λ y ys. y ∷ ys) r₅.same r₆.same))
                    (λ l m h.
                    let later : Fewer (in_rule r (in_rules 1 rs l)) (in_rule r₅.spelled (in_rules 1 r₆.spelled m)) = r₅.few _ _ (r₆.few 1 l m h) in
                    let from_same = same_length unplaced_decl r₂.tree given r₂.same in
                    let kept_same = same_length unplaced_decl r₃.tree kept r₃.same in
                    let matrices = subst (λ k. Fewer (in_decls (length given + length kept) false to (in_rule r (in_rules 1 rs l)))
                    (in_decls k false r₄.spelled (in_rule r₅.spelled (in_rules 1 r₆.spelled m)))) (sym (ap₂ (λ a b. a + b) from_same kept_same))
                    (r₄.few (length given + length kept) false _ _ later) in
                    r₁.few _ _ (r₂.few 0 true _ _
                    (subst (λ k. Fewer (in_through (length given) through (in_decls (length given + length kept) false to (in_rule r (in_rules 1 rs l))))
                    (in_through k r₃.spelled (in_decls (length r₂.tree + length r₃.tree) false r₄.spelled (in_rule r₅.spelled (in_rules 1 r₆.spelled m)))))
                    (sym from_same) (r₃.few (length given) _ _ matrices))))
              ]
            ]
          ]
        ]
      ]
    ]

again_transforms : {xs : List TransformTree} {all rest all' rest' : List Token} (d : IsTransforms xs all rest) → Takes (in_order transform_tokens xs) all' rest'
    → Again IsTransforms (map unplaced_transform) xs all' rest' (λ y d'. (n : ℕ) → Adds (in_transforms n d) (in_transforms n d'))
again_transforms no_transforms nothing = made [] no_transforms refl (λ n l m h. h)
again_transforms {all' = new} (one_transform {x = x} {xs = xs} {all = old} d ds) t = elim (split {a = transform_tokens x} {b = in_order transform_tokens xs} t) [
  | cut a b ↦ let r = again_transform d a in let s = again_transforms ds b in made (r.tree ∷ s.tree) (one_transform r.spelled s.spelled) (ap₂ (λ y ys. y ∷ ys) r.same s.same)
      (λ n l m h. begun_fewer (over item.Transforms n) old new (r.few _ _ (s.few (suc n) l m h)))
]

-- a program in which nothing is too many
pub record AgainProgram (tree : List TransformTree) (tokens : List Token) : Type 0 where
  pub again : List TransformTree
  pub accepted : Accepted again tokens
  pub same : unplaced again ≡ unplaced tree

pub again_program : (tree : List TransformTree) (old new : List Token) → Accepted tree old → Takes (text_tokens tree) new [] → AgainProgram tree new
again_program tree old new (a_program {x = x} {xs = xs} d ds, few) t = elim (split {a = transform_tokens x} {b = in_order transform_tokens xs} t) [
  | cut a b ↦ let r = again_transform d a in let s = again_transforms ds b in record {
    again = r.tree ∷ s.tree;
    accepted = (a_program r.spelled s.spelled, (r.few _ _ (s.few 1 [] [] (record { holds = λ e. e }))).holds few);
    same = ap₂ (λ y ys. y ∷ ys) r.same s.same;
  }
]
