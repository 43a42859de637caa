-- Each token that is taken: what is spelled after it spells, with it, what was wanted.
use Rattle.std.proofs.Common.{ap₂, if◌then◌else◌, ◌≡◌, ℕ, suc, ◌+◌, ◌≤◌, Bool, true, false, ◌&&◌, nat_le, inl, inr, List, [], ◌∷◌, ◌++◌, length, Option, Some, None, codes, refl, sym, ◌∙◌, ap, subst, arith, append_assoc}
use Rattle.std.specs.Str.{bytes_eq}
use Rattle.std.proofs.lemmas.List.{append-nil}
use Rattle.std.proofs.lemmas.Bool.Decides.{nat_tests}
use Rattle.std.proofs.lemmas.Slice.Eq.{bytes_eq-Decides}
use Rattle.pb_values.specs.Name.{NameValue}
use Rattle.pb_syntax.specs.declared.token.Token.{Token}
use Rattle.pb_syntax.specs.declared.refusal.Item.{Item}
use Rattle.pb_syntax.specs.declared.refusal.Item.TheVariants as item
use Rattle.pb_syntax.specs.declared.kind.TokenKind.{TokenKind}
use Rattle.pb_syntax.specs.declared.kind.TokenKind.TheVariants as k
use Rattle.pb_syntax.specs.declared.tree.expression.Level.{Level}
use Rattle.pb_syntax.specs.declared.tree.expression.Operator.{Operator}
use Rattle.pb_syntax.specs.declared.tree.expression.Relation.{Relation}
use Rattle.pb_syntax.specs.declared.tree.expression.UnarySign.TheVariants as sign
use Rattle.pb_syntax.specs.declared.tree.form.TermText.{TermText}
use Rattle.pb_syntax.specs.declared.tree.view.ViewText.{ViewText}
use Rattle.pb_syntax.specs.declared.tree.view.ViewText.TheVariants as view
use Rattle.pb_syntax.specs.declared.tree.view.UseText.{UseText}
use Rattle.pb_syntax.specs.declared.tree.view.CondText.{CondText}
use Rattle.pb_syntax.specs.declared.tree.view.MarkText.TheVariants as mark
use Rattle.pb_syntax.specs.Kinds.{Is, kind_of, name_in, number_in}
use Rattle.pb_syntax.specs.Operators.{condition_relation, operator_of, relation_of}
use Rattle.pb_syntax.specs.Limits.{SizeNames, over, counted}
use Rattle.pb_syntax.specs.Forms.{FormValue, DeclValue}
use Rattle.pb_syntax.specs.Exprs.{ExprTree, number, name, call, parentheses, cell, width, height, signed, chained, compare, exprs}
use Rattle.pb_syntax.specs.Stmts.{StmtTree, let_number, let_matrix, assign, call_stmt, assign_cell, if_stmt, if_else, for_stmt, stmts}
use Rattle.pb_syntax.specs.Trees.{RuleTree, TransformTree}
use Rattle.pb_syntax.specs.Grammar.{no_comma, a_comma, IsWord, a_name, no_minimums, some_minimums, IsTerm, number_term, name_term, multiple, fraction, no_terms, plus, minus, IsForm, plain_form, minus_form, IsDims, one_dim, two_dims, IsDecls, no_through, some_through, IsView, whole, cell_x, cell_xy, row, column, region_2, region_4, a_use, no_reads, some_reads, no_conds, some_conds, unmarked, primary, secondary, priority, no_operand, an_operand, a_sum, two_sums, unsigned, minus_prim, not_prim, IsPrim, a_number, the_name, call_of_none, call_of, in_parentheses, cell_of, width_of, height_of, IsExpr, IsArguments, last_argument, an_argument, IsCoordinates, one_coordinate, two_coordinates, IsStmt, let_a_number, let_a_matrix, an_assignment, a_call, a_cell_assignment, an_if, an_if_else, a_for, no_stmt, one_stmt, no_rules, one_rule, one_transform}
use Rattle.pb_syntax.specs.Kinds.{same_kind}
use Rattle.pb_grammar.specs.Want as w
use Rattle.pb_grammar.specs.Want.{Want, a_sign, bracket, token, name_token, block, after_if, after_for, after_dot, called, dimensions, some_arguments, coordinates, expression, conjunction, compared, total, product}
use Rattle.pb_grammar.specs.Reading.{Step, take, refuse, marked, taken_if, step, or_else, related, mark_step, statement_step, term_step, signed_form, primary_step, factor_step, after_factor, term_of}
use Rattle.pb_grammar.proofs.Spelled.{put, FitsWord, Past, Spelled}
use Rattle.pb_grammar.proofs.Keeps.{kind_fits, one_kind, shut, closed, spelled_use, spelled_minimum, spelled_dims, spelled_decl, spelled_decls, spelled_condition, spelled_total, spelled_expression, spelled_operand, spelled_coordinates, spelled_arguments, spelled_block, spelled_after_mark, spelled_after_transform}

module _ (tree : List TransformTree) where
  abbrev pub Kept : Step → Want → Token → Type 0
  Kept (take m next) v t = (ts : List Token) → Spelled next ts tree → Spelled v (t ∷ ts) tree
  Kept refuse v t = Unit {0}

  kept_marked : (v : Want) (t : Token) (at : ℕ) (m : Option Item) (s : Step) → Kept s v t → Kept (marked at m s) v t
  kept_marked v t at None s h = h
  kept_marked v t at (Some x) (take m next) h = h
  kept_marked v t at (Some x) refuse h = tt

  kept_skip : (v other : Want) (t : Token) (s : Step) → ((ts : List Token) → Spelled other (t ∷ ts) tree → Spelled v (t ∷ ts) tree) → Kept s other t → Kept s v t
  kept_skip v other t (take m next) g h = λ ts s. g ts (h ts s)
  kept_skip v other t refuse g h = tt

  kept_if : (v : Want) (t : Token) (b : Bool) (x y : Step) → (b ≡ true → Kept x v t) → Kept y v t → Kept (if b then x else y) v t
  kept_if v t true x y g h = g refl
  kept_if v t false x y g h = h

  kept_taken : (v next : Want) (t : Token) (b : Bool) → (b ≡ true → Kept (take None next) v t) → Kept (taken_if b next) v t
  kept_taken v next t true g = g refl
  kept_taken v next t false g = tt

  in_minimums : (f : List (NameValue × ℕ) → Want) (kind : TokenKind) (t : Token) → Is kind t → Kept (step (w.minimums f) kind t) (w.minimums f) t
  in_minimums f k.Where t is = λ ts s. let x = spelled_minimum tree (λ m. w.more_minimums (m ∷ []) f) ts s in let xs = x.more in
      (put (x.value ∷ xs.value) xs.rest (some_minimums is x.part xs.part) xs.more)
  in_minimums f k.From t is = λ ts s. (put [] (t ∷ ts) no_minimums (is, s))
  in_minimums f _ t is = tt

  in_more_minimums : (ms : List (NameValue × ℕ)) (f : List (NameValue × ℕ) → Want) (kind : TokenKind) (t : Token) → Is kind t
      → Kept (step (w.more_minimums ms f) kind t) (w.more_minimums ms f) t
  in_more_minimums ms f k.Comma t is = λ ts s. let x = spelled_minimum tree (λ m. w.more_minimums (ms ++ m ∷ []) f) ts s in let xs = x.more in (put (x.value ∷ xs.value) xs.rest (a_comma is x.part xs.part) (subst (λ (b : List (NameValue × ℕ)). Past k.From (λ rest. Spelled (f b) rest tree) xs.rest) (append_assoc ms (x.value ∷ []) xs.value) xs.more))
  in_more_minimums ms f k.From t is = λ ts s.
      (put [] (t ∷ ts) no_comma (is, subst (λ (b : List (NameValue × ℕ)). Spelled (f b) ts tree) (sym (append-nil ms)) s))
  in_more_minimums ms f _ t is = tt

  in_more_decls : (n : ℕ) (from : Bool) (ds : List DeclValue) (f : List DeclValue → Want) (kind : TokenKind) (t : Token) → Is kind t
      → Kept (step (f ds) kind t) (f ds) t → Kept (step (w.more_decls n from ds f) kind t) (w.more_decls n from ds f) t
  in_more_decls n from ds f k.Comma t is further = λ ts s. let x = spelled_decl tree (counted from ds) (λ d. w.more_decls n from (ds ++ d ∷ []) f) ts s in let xs = x.more in
      (put (x.value ∷ xs.value) xs.rest (a_comma is x.part xs.part) (subst (λ (b : List DeclValue). Spelled (f b) xs.rest tree) (append_assoc ds (x.value ∷ []) xs.value) xs.more))
  in_more_decls n from ds f kind t is further = kept_skip (w.more_decls n from ds f) (f ds) t (step (f ds) kind t)
      (λ ts s. (put [] (t ∷ ts) no_comma (subst (λ (b : List DeclValue). Spelled (f b) (t ∷ ts) tree) (sym (append-nil ds)) s))) further

  in_through : (n : ℕ) (f : List DeclValue → Want) (kind : TokenKind) (t : Token) → Is kind t → Kept (step (w.through n f) kind t) (w.through n f) t
  in_through n f k.Through t is = λ ts s.
      let c = closed tree IsDecls ts tt (λ ds u. f ds) (spelled_decls tree n false (λ ds. a_sign k.To (f ds)) ts s) in
      (put c.x (c.end ∷ c.rest) (some_through is c.part) (c.close, c.then_on))
  in_through n f k.To t is = λ ts s. (put [] (t ∷ ts) no_through (is, s))
  in_through n f _ t is = tt

  in_after_dim : (known : SizeNames) (e : FormValue) (f : List FormValue → Want) (kind : TokenKind) (t : Token) → Is kind t
      → Kept (step (w.after_dim known e f) kind t) (w.after_dim known e f) t
  in_after_dim known e f k.Comma t is = λ ts s.
      let c = shut {K = λ y rest. Spelled (f (e ∷ y ∷ [])) rest tree} IsForm ts s in
      (put (e ∷ c.x ∷ []) c.rest (λ all i. two_dims i is c.part c.close) c.then_on)
  in_after_dim known e f k.CloseBracket t is = λ ts s. (put (e ∷ []) ts (λ all i. one_dim i is) s)
  in_after_dim known e f _ t is = tt

  in_last_dim : (known : SizeNames) (e : FormValue) (v : Want) (kind : TokenKind) (t : Token) → Is kind t → Kept (step (w.last_dim known e v) kind t) (w.last_dim known e v) t
  in_last_dim known e v k.CloseBracket t is = λ ts s. (is, s)
  in_last_dim known e v _ t is = tt

  a_primary : (f : RuleTree → Want) (t : Token) → Is k.Primary t → Kept (take None (a_sign k.To (w.after_mark mark.Primary f))) (w.rule f) t
  a_primary f t is [] s = absurd s
  a_primary f t is (u ∷ ts) s = let x = spelled_after_mark tree mark.Primary f ts s.1 in
      (put x.value x.rest (x.part (t ∷ u ∷ ts) u (primary is) (kind_fits u tt s.0)) x.more)

  a_secondary : (f : RuleTree → Want) (t : Token) → Is k.Secondary t → Kept (take None (a_sign k.To (w.after_mark mark.Secondary f))) (w.rule f) t
  a_secondary f t is [] s = absurd s
  a_secondary f t is (u ∷ ts) s = let x = spelled_after_mark tree mark.Secondary f ts s.1 in
      (put x.value x.rest (x.part (t ∷ u ∷ ts) u (secondary is) (kind_fits u tt s.0)) x.more)

  a_priority : (f : RuleTree → Want) (t : Token) → Is k.Priority t
      → Kept (take None (a_sign k.Open (w.small (λ n. a_sign k.Close (a_sign k.To (w.after_mark (mark.Priority n) f)))))) (w.rule f) t
  a_priority f t is [] s = absurd s
  a_priority f t is (o ∷ []) s = absurd s.1
  a_priority f t is (o ∷ n ∷ []) s = absurd s.1.1
  a_priority f t is (o ∷ n ∷ c ∷ []) s = absurd s.1.1.1
  a_priority f t is (o ∷ n ∷ c ∷ u ∷ ts) s = let x = spelled_after_mark tree (mark.Priority (number_in n)) f ts s.1.1.1.1 in
      (put x.value x.rest (x.part (t ∷ o ∷ n ∷ c ∷ u ∷ ts) u (priority is (kind_fits o tt s.0) s.1.0 (kind_fits c tt s.1.1.0)) (kind_fits u tt s.1.1.1.0)) x.more)

  in_rule : (f : RuleTree → Want) (kind : TokenKind) (t : Token) → Is kind t → Kept (step (w.rule f) kind t) (w.rule f) t
  in_rule f k.To t is = λ ts s. let x = spelled_after_mark tree mark.Unmarked f ts s in (put x.value x.rest (x.part (t ∷ ts) t unmarked is) x.more)
  in_rule f k.Primary t is = a_primary f t is
  in_rule f k.Secondary t is = a_secondary f t is
  in_rule f k.Priority t is = a_priority f t is
  in_rule f _ t is = tt

  in_more_rules : (rs : List RuleTree) (f : List RuleTree → Want) (kind : TokenKind) (t : Token) → Is kind t → Kept (step (w.more_rules rs f) kind t) (w.more_rules rs f) t
  in_more_rules rs f k.CloseBrace t is = λ ts s. (put [] (t ∷ ts) no_rules (is, subst (λ (b : List RuleTree). Spelled (f b) ts tree) (sym (append-nil rs)) s))
  in_more_rules rs f kind t is =
      kept_marked (w.more_rules rs f) t t.at (over item.Rules (length rs)) (mark_step (λ r. w.more_rules (rs ++ r ∷ []) f) kind)
      (kept_skip (w.more_rules rs f) (w.rule (λ r. w.more_rules (rs ++ r ∷ []) f)) t (mark_step (λ r. w.more_rules (rs ++ r ∷ []) f) kind)
      (λ ts x. let xs = x.more in (put (x.value ∷ xs.value) xs.rest (one_rule x.part xs.part) (subst (λ (b : List RuleTree). Past k.CloseBrace (λ rest. Spelled (f b) rest tree) xs.rest) (append_assoc rs (x.value ∷ []) xs.value) xs.more)))
      (in_rule (λ r. w.more_rules (rs ++ r ∷ []) f) kind t is))

  in_small : (f : ℕ → Want) (kind : TokenKind) (t : Token) → Is kind t → Kept (step (w.small f) kind t) (w.small f) t
  in_small f k.Number t is = λ ts s. (is, s)
  in_small f _ t is = tt

  in_more_uses : (what : Item) (us : List UseText) (f : List UseText → Want) (kind : TokenKind) (t : Token) → Is kind t
      → Kept (step (w.more_uses what us f) kind t) (w.more_uses what us f) t
  in_more_uses what us f k.Comma t is = λ ts s. let x = spelled_use tree (λ u. w.more_uses what (us ++ u ∷ []) f) ts s in let xs = x.more in (put (x.value ∷ xs.value) xs.rest (a_comma is x.part xs.part) (subst (λ (b : List UseText). Past k.Close (λ rest. Spelled (f b) rest tree) xs.rest) (append_assoc us (x.value ∷ []) xs.value) xs.more))
  in_more_uses what us f k.Close t is = λ ts s. (put [] (t ∷ ts) no_comma (is, subst (λ (b : List UseText). Spelled (f b) ts tree) (sym (append-nil us)) s))
  in_more_uses what us f _ t is = tt

  in_reads : (f : List UseText → Want) (kind : TokenKind) (t : Token) → Is kind t → Kept (step (w.reads f) kind t) (w.reads f) t
  in_reads f k.Name t is = λ ts s.
      let c = closed tree IsView ts tt (λ v b. w.more_uses item.Reads (record { matrix = name_in t; view = v; bound = name_in b } ∷ []) f) s in
      let us = c.then_on in
      (put (record { matrix = name_in t; view = c.x; bound = name_in c.end } ∷ us.value) us.rest (some_reads (a_use {b = c.end} is c.part c.close) us.part) us.more)
  in_reads f k.Close t is = λ ts s. (put [] (t ∷ ts) no_reads (is, s))
  in_reads f _ t is = tt

  in_conditions : (f : List CondText → Want) (kind : TokenKind) (t : Token) → Is kind t → Kept (step (w.conditions f) kind t) (w.conditions f) t
  in_conditions f k.Where t is = λ ts s. let x = spelled_condition tree (λ c. w.more_conditions (c ∷ []) f) ts s in let xs = x.more in
      (put (x.value ∷ xs.value) xs.rest (some_conds is x.part xs.part) xs.more)
  in_conditions f k.OpenBrace t is = λ ts s. (put [] (t ∷ ts) no_conds (is, s))
  in_conditions f _ t is = tt

  in_more_conditions : (cs : List CondText) (f : List CondText → Want) (kind : TokenKind) (t : Token) → Is kind t
      → Kept (step (w.more_conditions cs f) kind t) (w.more_conditions cs f) t
  in_more_conditions cs f k.Comma t is = λ ts s. let x = spelled_condition tree (λ c. w.more_conditions (cs ++ c ∷ []) f) ts s in let xs = x.more in (put (x.value ∷ xs.value) xs.rest (a_comma is x.part xs.part) (subst (λ (b : List CondText). Past k.OpenBrace (λ rest. Spelled (f b) rest tree) xs.rest) (append_assoc cs (x.value ∷ []) xs.value) xs.more))
  in_more_conditions cs f k.OpenBrace t is = λ ts s. (put [] (t ∷ ts) no_comma (is, subst (λ (b : List CondText). Spelled (f b) ts tree) (sym (append-nil cs)) s))
  in_more_conditions cs f _ t is = tt

  in_view_or_none : (f : ViewText → Want) (kind : TokenKind) (t : Token) → Is kind t → Kept (step (f view.Whole) kind t) (f view.Whole) t
      → Kept (step (w.view_or_none f) kind t) (w.view_or_none f) t
  in_view_or_none f k.Dot t is further = λ ts s. (put s.value s.rest (s.part t is) s.more)
  in_view_or_none f kind t is further = kept_skip (w.view_or_none f) (f view.Whole) t (step (f view.Whole) kind t) (λ ts s. (put view.Whole (t ∷ ts) whole s)) further

  spells : (a b : List ℕ) → bytes_eq a b ≡ true → a ≡ b
  spells a b e = (bytes_eq-Decides a b).0 e

  a_cell_view : (f : ViewText → Want) (t : Token) → IsWord (codes "cell") t → Kept (take None (a_sign k.Open (w.form (λ x. w.after_x x f)))) (w.view_name f) t
  a_cell_view f t is [] s = absurd s
  a_cell_view f t is (o ∷ ts) s = let x = s.1 in let y = x.more in
      (put y.value y.rest (λ d i. y.part d t o ts i is (kind_fits o tt s.0) x.part) y.more)

  a_row_view : (f : ViewText → Want) (t : Token) → IsWord (codes "row") t → Kept (take None (a_sign k.Open (w.form (λ y. a_sign k.Close (f (view.Row y)))))) (w.view_name f) t
  a_row_view f t is [] s = absurd s
  a_row_view f t is (o ∷ ts) s = let c = closed tree IsForm ts tt (λ y u. f (view.Row y)) s.1 in
      (put (view.Row c.x) c.rest (λ d i. row i is (kind_fits o tt s.0) c.part c.close) c.then_on)

  a_column_view : (f : ViewText → Want) (t : Token) → IsWord (codes "column") t → Kept (take None (a_sign k.Open (w.form (λ x. a_sign k.Close (f (view.Column x)))))) (w.view_name f) t
  a_column_view f t is [] s = absurd s
  a_column_view f t is (o ∷ ts) s = let c = closed tree IsForm ts tt (λ x u. f (view.Column x)) s.1 in
      (put (view.Column c.x) c.rest (λ d i. column i is (kind_fits o tt s.0) c.part c.close) c.then_on)

  a_region_view : (f : ViewText → Want) (t : Token) → IsWord (codes "region") t
      → Kept (take None (a_sign k.Open (w.form (λ a. a_sign k.Comma (w.form (λ b. w.after_high a b f)))))) (w.view_name f) t
  a_region_view f t is [] s = absurd s
  a_region_view f t is (o ∷ ts) s =
      let c = closed tree IsForm ts tt (λ a u. w.form (λ b. w.after_high a b f)) s.1 in
      let b = c.then_on in
      let h = b.more in
      (put h.value h.rest (λ d i. h.part d t o c.end ts c.rest i is (kind_fits o tt s.0) c.part c.close b.part) h.more)

  in_view_name : (f : ViewText → Want) (kind : TokenKind) (t : Token) → Is kind t → Kept (step (w.view_name f) kind t) (w.view_name f) t
  in_view_name f k.Name t is =
      let n = (name_in t).bytes in
      kept_if (w.view_name f) t (bytes_eq n (codes "cell")) _ _ (λ e. a_cell_view f t (is, spells n (codes "cell") e))
      (kept_if (w.view_name f) t (bytes_eq n (codes "row")) _ _ (λ e. a_row_view f t (is, spells n (codes "row") e))
      (kept_if (w.view_name f) t (bytes_eq n (codes "column")) _ _ (λ e. a_column_view f t (is, spells n (codes "column") e))
      (kept_if (w.view_name f) t (bytes_eq n (codes "region")) _ _ (λ e. a_region_view f t (is, spells n (codes "region") e)) tt)))
  in_view_name f _ t is = tt

  in_after_x : (x : FormValue) (f : ViewText → Want) (kind : TokenKind) (t : Token) → Is kind t → Kept (step (w.after_x x f) kind t) (w.after_x x f) t
  in_after_x x f k.Comma t is = λ ts s. let c = closed tree IsForm ts tt (λ y u. f (view.Cell x (Some y))) s in
      (put (view.Cell x (Some c.x)) c.rest (λ d n o all i j m a. cell_xy i j m a is c.part c.close) c.then_on)
  in_after_x x f k.Close t is = λ ts s. (put (view.Cell x None) ts (λ d n o all i j m a. cell_x i j m a is) s)
  in_after_x x f _ t is = tt

  in_after_high : (a b : FormValue) (f : ViewText → Want) (kind : TokenKind) (t : Token) → Is kind t → Kept (step (w.after_high a b f) kind t) (w.after_high a b f) t
  in_after_high a b f k.Comma t is = λ ts s.
      let c = closed tree IsForm ts tt (λ e u. w.form (λ g. a_sign k.Close (f (view.Region a b e g)))) s in
      let g = closed tree IsForm c.rest tt (λ g u. f (view.Region a b c.x g)) c.then_on in
      (put (view.Region a b c.x g.x) g.rest (λ d n o m all mid i j q x r y. region_4 i j q x r y is c.part c.close g.part g.close) g.then_on)
  in_after_high a b f k.Close t is = λ ts s. (put (view.Between a b) ts (λ d n o m all mid i j q x r y. region_2 i j q x r y is) s)
  in_after_high a b f _ t is = tt

  in_term : (m : Bool) (f : TermText → Want) (kind : TokenKind) (t : Token) → Is kind t → Kept (step (w.term m f) kind t) (w.term m f) t
  in_term m f k.Number t is = λ ts s. (put s.value s.rest (s.part t is refl) s.more)
  in_term m f k.Name t is = λ ts s. (put s.value s.rest (s.part t is refl) s.more)
  in_term m f _ t is = tt

  in_form : (f : FormValue → Want) (kind : TokenKind) (t : Token) → Is kind t → Kept (step (w.form f) kind t) (w.form f) t
  in_form f k.Minus t is = λ ts s. let xs = s.more in
      (put (record { minus = true; terms = s.value ∷ xs.value }) xs.rest (minus_form is s.part xs.part) xs.more)
  in_form f kind t is = kept_skip (w.form f) (w.term false (signed_form false f)) t (term_step false (signed_form false f) kind t)
      (λ ts s. let xs = s.more in (put (record { minus = false; terms = s.value ∷ xs.value }) xs.rest (plain_form s.part xs.part) xs.more))
      (in_term false (signed_form false f) kind t is)

  a_times : (m : Bool) (n : ℕ) (f : TermText → Want) (t : Token) → Is k.Times t → Kept (take None (token k.Name (λ x. f (term_of m n (Some (name_in x)) 0)))) (w.times m n f) t
  a_times m n f t is [] s = absurd s
  a_times m n f t is (x ∷ ts) s = put (term_of m n (Some (name_in x)) 0) ts (λ u i e. subst (λ (a : ℕ). IsTerm m (term_of m a (Some (name_in x)) 0) (u ∷ t ∷ x ∷ ts) ts) e (multiple i is (kind_fits x tt s.0))) s.1

  in_times : (m : Bool) (n : ℕ) (f : TermText → Want) (kind : TokenKind) (t : Token) → Is kind t
      → Kept (step (f (term_of m n None 0)) kind t) (f (term_of m n None 0)) t → Kept (step (w.times m n f) kind t) (w.times m n f) t
  in_times m n f k.Times t is further = a_times m n f t is
  in_times m n f kind t is further = kept_skip (w.times m n f) (f (term_of m n None 0)) t (step (f (term_of m n None 0)) kind t)
      (λ ts s. (put (term_of m n None 0) (t ∷ ts) (λ u i e. subst (λ (a : ℕ). IsTerm m (term_of m a None 0) (u ∷ t ∷ ts) (t ∷ ts)) e (number_term i)) s)) further

  a_quotient : (m : Bool) (n : NameValue) (f : TermText → Want) (t : Token) → Is k.Over t → Kept (take None (w.divisor (λ q. f (term_of m 1 (Some n) q)))) (w.quotient m n f) t
  a_quotient m n f t is [] s = absurd s
  a_quotient m n f t is (q ∷ ts) s = put (term_of m 1 (Some n) (number_in q)) ts (λ u i e. subst (λ (a : NameValue). IsTerm m (term_of m 1 (Some a) (number_in q)) (u ∷ t ∷ q ∷ ts) ts) e (fraction i is s.0 s.1 s.2)) s.3

  in_quotient : (m : Bool) (n : NameValue) (f : TermText → Want) (kind : TokenKind) (t : Token) → Is kind t
      → Kept (step (f (term_of m 1 (Some n) 0)) kind t) (f (term_of m 1 (Some n) 0)) t → Kept (step (w.quotient m n f) kind t) (w.quotient m n f) t
  in_quotient m n f k.Over t is further = a_quotient m n f t is
  in_quotient m n f kind t is further = kept_skip (w.quotient m n f) (f (term_of m 1 (Some n) 0)) t (step (f (term_of m 1 (Some n) 0)) kind t)
      (λ ts s. (put (term_of m 1 (Some n) 0) (t ∷ ts) (λ u i e. subst (λ (a : NameValue). IsTerm m (term_of m 1 (Some a) 0) (u ∷ t ∷ ts) (t ∷ ts)) e (name_term i)) s)) further

  low : (q : ℕ) → (nat_le 2 q && nat_le q 4) ≡ true → 2 ≤ q
  low q e = grind (arith, nat_tests)

  high : (q : ℕ) → (nat_le 2 q && nat_le q 4) ≡ true → q ≤ 4
  high q e = grind (arith, nat_tests)

  in_divisor : (f : ℕ → Want) (kind : TokenKind) (t : Token) → Is kind t → Kept (step (w.divisor f) kind t) (w.divisor f) t
  in_divisor f k.Number t is = kept_taken (w.divisor f) (f (number_in t)) t (nat_le 2 (number_in t) && nat_le (number_in t) 4)
      (λ e ts s. (is, low (number_in t) e, high (number_in t) e, s))
  in_divisor f _ t is = tt

  in_more_terms : (xs : List TermText) (f : List TermText → Want) (kind : TokenKind) (t : Token) → Is kind t → Kept (step (f xs) kind t) (f xs) t
      → Kept (step (w.more_terms xs f) kind t) (w.more_terms xs f) t
  in_more_terms xs f k.Plus t is further = λ ts s. let ys = s.more in
      (put (s.value ∷ ys.value) ys.rest (plus is s.part ys.part) (subst (λ (b : List TermText). Spelled (f b) ys.rest tree) (append_assoc xs (s.value ∷ []) ys.value) ys.more))
  in_more_terms xs f k.Minus t is further = λ ts s. let ys = s.more in
      (put (s.value ∷ ys.value) ys.rest (minus is s.part ys.part) (subst (λ (b : List TermText). Spelled (f b) ys.rest tree) (append_assoc xs (s.value ∷ []) ys.value) ys.more))
  in_more_terms xs f kind t is further = kept_skip (w.more_terms xs f) (f xs) t (step (f xs) kind t)
      (λ ts s. (put [] (t ∷ ts) no_terms (subst (λ (b : List TermText). Spelled (f b) (t ∷ ts) tree) (sym (append-nil xs)) s))) further

  in_relation : (f : Relation → Want) (t : Token) (o : Option Relation) → condition_relation (kind_of t) ≡ o → Kept (related f o) (w.relation f) t
  in_relation f t (Some r) e = λ ts s. (r, (e, s))
  in_relation f t None e = tt

  -- a statement before those that were read later
  a_statement : (d n m : ℕ) (found : List StmtTree) (f : List StmtTree → ℕ → Want) {s : StmtTree} {all mid : List Token} → IsStmt s all mid
      → Spelled (w.statements d m (found ++ s ∷ []) f) mid tree → Spelled (w.statements d n found f) all tree
  a_statement d n m found f {s = a} i s = put (a ∷ s.value) s.rest (one_stmt i s.part) (s.more.0, subst (λ (b : List StmtTree). Spelled (f b s.more.0) s.rest tree) (append_assoc found (a ∷ []) s.value) s.more.1)

  a_let : (d n : ℕ) (f : StmtTree → ℕ → Want) (t : Token) → Is k.Let t → Kept (take None (name_token (λ x. w.after_let d t.at x (λ s. f s (n + 1))))) (w.statement d n f) t
  unfolding name_token
  a_let d n f t is [] s = absurd s
  a_let d n f t is (x ∷ ts) s = let a = s.1 in (put a.value a.rest (a.part t x is refl (kind_fits x tt s.0) refl) (n + 1, a.more))

  an_if_statement : (d n : ℕ) (f : StmtTree → ℕ → Want) (t : Token) → Is k.If t → Kept (take None (after_if d n t.at f)) (w.statement d n f) t
  unfolding after_if
  an_if_statement d n f t is [] s = absurd s
  an_if_statement d n f t is (o ∷ ts) s =
      let g = λ (e : ExprTree) (u : Token). block d n (λ body m. w.otherwise d m t.at e body f) in
      let c = closed tree IsExpr ts tt g (spelled_expression tree (suc d) (λ e. a_sign k.Close (g e t)) ts s.1) in
      let b = spelled_block tree d n (λ body m. w.otherwise d m t.at c.x body f) c.rest c.then_on in
      let a = b.more.1 in
      (put a.value a.rest (a.part t o c.end ts c.rest is refl (kind_fits o tt s.0) c.part c.close b.part) a.more)

  a_for_statement : (d n : ℕ) (f : StmtTree → ℕ → Want) (t : Token) → Is k.For t → Kept (take None (after_for d n t.at f)) (w.statement d n f) t
  unfolding after_for name_token
  a_for_statement d n f t is [] s = absurd s
  a_for_statement d n f t is (o ∷ []) s = absurd s.1
  a_for_statement d n f t is (o ∷ x ∷ []) s = absurd s.1.1
  a_for_statement d n f t is (o ∷ x ∷ e ∷ ts) s =
      let h = λ (a b : ExprTree) (body : List StmtTree) (m : ℕ). f (for_stmt t.at (name_in x) a b (stmts body)) m in
      let g = λ (a : ExprTree) (u : Token). w.expression (suc d) (λ b. a_sign k.Close (block d n (h a b))) in
      let c = closed tree IsExpr ts tt g (spelled_expression tree (suc d) (λ a. a_sign k.Dots (g a t)) ts s.1.1.1) in
      let q = closed tree IsExpr c.rest tt (λ b u. block d n (h c.x b)) (spelled_expression tree (suc d) (λ b. a_sign k.Close (block d n (h c.x b))) c.rest c.then_on) in
      let b = spelled_block tree d n (h c.x q.x) q.rest q.then_on in (put (for_stmt t.at (name_in x) c.x q.x (stmts b.value)) b.rest (a_for is (kind_fits o tt s.0) (kind_fits x tt s.1.0) (kind_fits e tt s.1.1.0) c.part c.close q.part q.close b.part) b.more)

  in_statement : (d n : ℕ) (f : StmtTree → ℕ → Want) (kind : TokenKind) (t : Token) → Is kind t → Kept (statement_step d n f kind t) (w.statement d n f) t
  in_statement d n f k.Let t is = a_let d n f t is
  in_statement d n f k.Name t is = λ ts s. (put s.value s.rest (s.part t is refl) (n + 1, s.more))
  in_statement d n f k.If t is = an_if_statement d (n + 1) f t is
  in_statement d n f k.For t is = a_for_statement d (n + 1) f t is
  in_statement d n f _ t is = tt

  in_statements : (d n : ℕ) (found : List StmtTree) (f : List StmtTree → ℕ → Want) (kind : TokenKind) (t : Token) → Is kind t
      → Kept (step (w.statements d n found f) kind t) (w.statements d n found f) t
  in_statements d n found f k.CloseBrace t is = λ ts s.
      (put [] ts (no_stmt is) (n, subst (λ (b : List StmtTree). Spelled (f b n) ts tree) (sym (append-nil found)) s))
  in_statements d n found f kind t is = let g = λ (s : StmtTree) (m : ℕ). w.statements d m (found ++ s ∷ []) f in
      kept_marked (w.statements d n found f) t t.at (over item.Statements n) (statement_step d n g kind t)
      (kept_skip (w.statements d n found f) (w.statement d n g) t (statement_step d n g kind t)
      (λ ts s. a_statement d n s.more.0 found f s.part s.more.1) (in_statement d n g kind t is))

  in_after_let : (d at : ℕ) (n : NameValue) (f : StmtTree → Want) (kind : TokenKind) (t : Token) → Is kind t → Kept (step (w.after_let d at n f) kind t) (w.after_let d at n f) t
  unfolding dimensions
  in_after_let d at n f k.Assign t is = λ ts s.
      let c = closed tree IsExpr ts tt (λ e u. f (let_number at n e)) (spelled_expression tree d (λ e. a_sign k.Semicolon (f (let_number at n e))) ts s) in (put (let_number at n c.x) c.rest (λ u b i ea j en. subst (λ (a : StmtTree). IsStmt a (u ∷ b ∷ t ∷ ts) c.rest) (ap₂ (λ a m. let_number a m c.x) ea en) (let_a_number i j is c.part c.close)) c.then_on)
  in_after_let d at n f k.OpenBracket t is = λ ts s.
      let c = closed tree IsDims ts tt (λ ds u. f (let_matrix at n ds)) (spelled_dims tree None (λ ds. a_sign k.Semicolon (f (let_matrix at n ds))) ts s) in (put (let_matrix at n c.x) c.rest (λ u b i ea j en. subst (λ (a : StmtTree). IsStmt a (u ∷ b ∷ t ∷ ts) c.rest) (ap₂ (λ a m. let_matrix a m c.x) ea en) (let_a_matrix i j is c.part c.close)) c.then_on)
  in_after_let d at n f _ t is = tt

  two_targets : (d : ℕ) (n : NameValue) (f : StmtTree → Want) (t : Token) → Is k.Comma t
      → Kept (take None (name_token (λ x. w.more_targets d (n ∷ x ∷ []) f))) (w.after_target d n f) t
  unfolding name_token
  two_targets d n f t is [] s = absurd s
  two_targets d n f t is (p ∷ ts) s = let a = s.1 in let r = a.part in (put a.value a.rest (λ u i e. subst (λ (b : StmtTree). IsStmt b (u ∷ t ∷ p ∷ ts) a.rest) (ap (λ b. call_stmt (b ∷ name_in p ∷ r.ms) (name_in r.c) r.xs) e ∙ sym r.is) (a_call i is (kind_fits p tt s.0) r.more r.assign r.called r.opened r.given r.end)) a.more)

  is_cell : (t : Token) → FitsWord (codes "cell") t → IsWord (codes "cell") t
  is_cell t (inl i) = i
  is_cell t (inr e) = absurd (cc)

  a_cell_target : (d : ℕ) (n : NameValue) (f : StmtTree → Want) (t : Token) → Is k.Dot t → Kept (take None (after_dot d n f)) (w.after_target d n f) t
  unfolding after_dot coordinates
  a_cell_target d n f t is [] s = absurd s
  a_cell_target d n f t is (x ∷ []) s = absurd s.1
  a_cell_target d n f t is (x ∷ o ∷ ts) s =
      let g = λ (xs : List ExprTree) (u : Token). w.expression d (λ e. a_sign k.Semicolon (f (assign_cell n xs e))) in
      let c = closed tree IsCoordinates ts tt g (spelled_coordinates tree (suc d) (λ xs. a_sign k.Assign (g xs t)) ts s.1.1) in
      let q = closed tree IsExpr c.rest tt (λ e u. f (assign_cell n c.x e)) (spelled_expression tree d (λ e. a_sign k.Semicolon (f (assign_cell n c.x e))) c.rest c.then_on) in (put (assign_cell n c.x q.x) q.rest (λ u i e. subst (λ (a : NameValue). IsStmt (assign_cell a c.x q.x) (u ∷ t ∷ x ∷ o ∷ ts) q.rest) e (a_cell_assignment i is (is_cell x s.0) (kind_fits o tt s.1.0) c.part c.close q.part q.close)) q.then_on)

  in_after_target : (d : ℕ) (n : NameValue) (f : StmtTree → Want) (kind : TokenKind) (t : Token) → Is kind t → Kept (step (w.after_target d n f) kind t) (w.after_target d n f) t
  in_after_target d n f k.Assign t is = λ ts s.
      let c = closed tree IsExpr ts tt (λ e u. f (assign n e)) (spelled_expression tree d (λ e. a_sign k.Semicolon (f (assign n e))) ts s) in
      (put (assign n c.x) c.rest (λ u i e. subst (λ (a : NameValue). IsStmt (assign a c.x) (u ∷ t ∷ ts) c.rest) e (an_assignment i is c.part c.close)) c.then_on)
  in_after_target d n f k.Comma t is = two_targets d n f t is
  in_after_target d n f k.Dot t is = a_cell_target d n f t is
  in_after_target d n f _ t is = tt

  one_more_target : (d : ℕ) (ns : List NameValue) (f : StmtTree → Want) (t : Token) → Is k.Comma t
      → Kept (take None (w.begin (over item.Targets (length ns)) (name_token (λ x. w.more_targets d (ns ++ x ∷ []) f)))) (w.more_targets d ns f) t
  unfolding name_token
  one_more_target d ns f t is [] s = absurd s
  one_more_target d ns f t is (x ∷ ts) s = let a = s.1 in let r = a.part in (put a.value a.rest (record { ms = name_in x ∷ r.ms; xs = r.xs; e = r.e; c = r.c; o = r.o; q = r.q; mid = r.mid; more = a_comma is (a_name (kind_fits x tt s.0)) r.more; assign = r.assign; called = r.called; opened = r.opened; given = r.given; end = r.end; is = r.is ∙ ap (λ b. call_stmt b (name_in r.c) r.xs) (append_assoc ns (name_in x ∷ []) r.ms) }) a.more)

  the_call : (d : ℕ) (ns : List NameValue) (f : StmtTree → Want) (t : Token) → Is k.Assign t → Kept (take None (called d ns f)) (w.more_targets d ns f) t
  unfolding called name_token some_arguments
  the_call d ns f t is [] s = absurd s
  the_call d ns f t is (c ∷ []) s = absurd s.1
  the_call d ns f t is (c ∷ o ∷ ts) s =
      let q = closed tree IsArguments ts tt (λ es u. f (call_stmt ns (name_in c) es))
      (spelled_arguments tree (suc d) [] (λ es. a_sign k.Semicolon (f (call_stmt ns (name_in c) es))) ts s.1.1) in (put (call_stmt ns (name_in c) q.x) q.rest (record { ms = []; xs = q.x; e = t; c = c; o = o; q = q.end; mid = ts; more = no_comma; assign = is; called = kind_fits c tt s.0; opened = kind_fits o tt s.1.0; given = q.part; end = q.close; is = ap (λ b. call_stmt b (name_in c) q.x) (sym (append-nil ns)) }) q.then_on)

  in_more_targets : (d : ℕ) (ns : List NameValue) (f : StmtTree → Want) (kind : TokenKind) (t : Token) → Is kind t → Kept (step (w.more_targets d ns f) kind t) (w.more_targets d ns f) t
  in_more_targets d ns f k.Comma t is = one_more_target d ns f t is
  in_more_targets d ns f k.Assign t is = the_call d ns f t is
  in_more_targets d ns f _ t is = tt

  in_otherwise : (d n at : ℕ) (e : ExprTree) (ss : List StmtTree) (f : StmtTree → ℕ → Want) (kind : TokenKind) (t : Token) → Is kind t
      → Kept (step (f (if_stmt at e (stmts ss)) n) kind t) (f (if_stmt at e (stmts ss)) n) t → Kept (step (w.otherwise d n at e ss f) kind t) (w.otherwise d n at e ss f) t
  in_otherwise d n at e ss f k.Else t is further = λ ts s.
      let b = spelled_block tree d n (λ other m. f (if_else at e (stmts ss) (stmts other)) m) ts s in (put (if_else at e (stmts ss) (stmts b.value)) b.rest (λ u o c all mid i ea j x q body. subst (λ (a : ℕ). IsStmt (if_else a e (stmts ss) (stmts b.value)) (u ∷ o ∷ all) b.rest) ea (an_if_else i j x q body is b.part)) b.more)
  in_otherwise d n at e ss f kind t is further = kept_skip (w.otherwise d n at e ss f) (f (if_stmt at e (stmts ss)) n) t (step (f (if_stmt at e (stmts ss)) n) kind t)
      (λ ts s. (put (if_stmt at e (stmts ss)) (t ∷ ts) (λ u o c all mid i ea j x q body. subst (λ (a : ℕ). IsStmt (if_stmt a e (stmts ss)) (u ∷ o ∷ all) (t ∷ ts)) ea (an_if i j x q body)) (n, s))) further

  in_primary : (d : ℕ) (f : ExprTree → Want) (kind : TokenKind) (t : Token) → Is kind t → Kept (step (w.primary d f) kind t) (w.primary d f) t
  in_primary d f k.Number t is = λ ts s. (put (number t.at (number_in t)) ts (a_number is) s)
  in_primary d f k.Name t is = λ ts s. (put s.value s.rest (s.part t is refl) s.more)
  in_primary d f k.Open t is = kept_marked (w.primary d f) t t.at (over item.Nesting d) (take None (w.expression (suc d) (λ e. a_sign k.Close (f (parentheses t.at e)))))
      (λ ts s. let c = closed tree IsExpr ts tt (λ e u. f (parentheses t.at e)) (spelled_expression tree (suc d) (λ e. a_sign k.Close (f (parentheses t.at e))) ts s) in
      (put (parentheses t.at c.x) c.rest (in_parentheses is c.part c.close) c.then_on))
  in_primary d f _ t is = tt

  in_factor : (d : ℕ) (f : ExprTree → Want) (kind : TokenKind) (t : Token) → Is kind t → Kept (step (w.factor d f) kind t) (w.factor d f) t
  in_factor d f k.Minus t is = λ ts s. (put (signed t.at sign.Minus s.value) s.rest (minus_prim is s.part) s.more)
  in_factor d f k.Not t is = λ ts s. (put (signed t.at sign.Not s.value) s.rest (not_prim is s.part) s.more)
  in_factor d f kind t is = kept_skip (w.factor d f) (w.primary d f) t (primary_step d f kind t) (λ ts s. (put s.value s.rest (unsigned s.part) s.more)) (in_primary d f kind t is)

  in_after_name : (d : ℕ) (n : NameValue) (f : ExprTree → Want) (kind : TokenKind) (t : Token) → Is kind t → Kept (step (f (name n)) kind t) (f (name n)) t
      → Kept (step (w.after_name d n f) kind t) (w.after_name d n f) t
  in_after_name d n f k.Open t is further = kept_marked (w.after_name d n f) t t.at (over item.Nesting d) (take None (w.arguments (suc d) (λ es. f (call n (exprs es)))))
      (λ ts s. (put (call n (exprs s.value)) s.rest (λ u i e. subst (λ (a : NameValue). IsPrim (call a (exprs s.value)) (u ∷ t ∷ ts) s.rest) e (s.part u t i is)) s.more))
  in_after_name d n f k.Dot t is further = λ ts s. (put s.value s.rest (λ u i e. s.part u t i e is) s.more)
  in_after_name d n f kind t is further = kept_skip (w.after_name d n f) (f (name n)) t (step (f (name n)) kind t)
      (λ ts s. (put (name n) (t ∷ ts) (λ u i e. subst (λ (a : NameValue). IsPrim (name a) (u ∷ t ∷ ts) (t ∷ ts)) e (the_name i)) s)) further

  a_cell_member : (d : ℕ) (n : NameValue) (f : ExprTree → Want) (t : Token) → IsWord (codes "cell") t → Kept (take None (w.coordinates d (λ xs. f (cell n (exprs xs))))) (w.member d n f) t
  unfolding coordinates
  a_cell_member d n f t is [] s = absurd s
  a_cell_member d n f t is (o ∷ ts) s = let c = spelled_coordinates tree (suc d) (λ xs. f (cell n (exprs xs))) ts s.1 in (put (cell n (exprs c.value)) c.rest (λ u q i e j. subst (λ (a : NameValue). IsPrim (cell a (exprs c.value)) (u ∷ q ∷ t ∷ o ∷ ts) c.rest) e (cell_of i j is (kind_fits o tt s.0) c.part)) c.more)

  a_width : (d : ℕ) (n : NameValue) (f : ExprTree → Want) (t : Token) → IsWord (codes "width") t → Kept (take None (bracket d k.Open (a_sign k.Close (f (width n))))) (w.member d n f) t
  a_width d n f t is [] s = absurd s
  a_width d n f t is (o ∷ []) s = absurd s.1
  a_width d n f t is (o ∷ c ∷ ts) s = put (width n) ts (λ u q i e j. subst (λ (a : NameValue). IsPrim (width a) (u ∷ q ∷ t ∷ o ∷ c ∷ ts) ts) e (width_of i j is (kind_fits o tt s.0) (kind_fits c tt s.1.0))) s.1.1

  a_height : (d : ℕ) (n : NameValue) (f : ExprTree → Want) (t : Token) → IsWord (codes "height") t → Kept (take None (bracket d k.Open (a_sign k.Close (f (height n))))) (w.member d n f) t
  a_height d n f t is [] s = absurd s
  a_height d n f t is (o ∷ []) s = absurd s.1
  a_height d n f t is (o ∷ c ∷ ts) s = put (height n) ts (λ u q i e j. subst (λ (a : NameValue). IsPrim (height a) (u ∷ q ∷ t ∷ o ∷ c ∷ ts) ts) e (height_of i j is (kind_fits o tt s.0) (kind_fits c tt s.1.0))) s.1.1

  in_member : (d : ℕ) (n : NameValue) (f : ExprTree → Want) (kind : TokenKind) (t : Token) → Is kind t → Kept (step (w.member d n f) kind t) (w.member d n f) t
  in_member d n f k.Name t is =
      let m = (name_in t).bytes in
      kept_if (w.member d n f) t (bytes_eq m (codes "cell")) _ _ (λ e. a_cell_member d n f t (is, spells m (codes "cell") e))
      (kept_if (w.member d n f) t (bytes_eq m (codes "width")) _ _ (λ e. a_width d n f t (is, spells m (codes "width") e))
      (kept_if (w.member d n f) t (bytes_eq m (codes "height")) _ _ (λ e. a_height d n f t (is, spells m (codes "height") e)) tt))
  in_member d n f _ t is = tt

  in_arguments : (d : ℕ) (f : List ExprTree → Want) (kind : TokenKind) (t : Token) → Is kind t → Kept (step (w.arguments d f) kind t) (w.arguments d f) t
  unfolding expression conjunction compared total product
  in_arguments d f k.Close t is = λ ts s. (put [] ts (λ n o i j. call_of_none i j is) s)
  in_arguments d f kind t is = let g = after_factor d (λ e. w.more_arguments d (e ∷ []) f) in
      kept_skip (w.arguments d f) (w.factor d g) t (factor_step d g kind t)
      (λ ts s. let a = spelled_arguments tree d [] f (t ∷ ts) s in (put a.value a.rest (λ n o i j. call_of i j a.part) a.more)) (in_factor d g kind t is)

  in_more_arguments : (d : ℕ) (es : List ExprTree) (f : List ExprTree → Want) (kind : TokenKind) (t : Token) → Is kind t
      → Kept (step (w.more_arguments d es f) kind t) (w.more_arguments d es f) t
  in_more_arguments d es f k.Comma t is = λ ts s. let a = spelled_arguments tree d es f ts s in
      (put a.value a.rest (λ x all i. an_argument i is a.part) a.more)
  in_more_arguments d es f k.Close t is = λ ts s. (put [] ts (λ x all i. last_argument i is) (subst (λ (b : List ExprTree). Spelled (f b) ts tree) (sym (append-nil es)) s))
  in_more_arguments d es f _ t is = tt

  in_after_coordinate : (d : ℕ) (x : ExprTree) (f : List ExprTree → Want) (kind : TokenKind) (t : Token) → Is kind t
      → Kept (step (w.after_coordinate d x f) kind t) (w.after_coordinate d x f) t
  in_after_coordinate d x f k.Comma t is = λ ts s.
      let c = closed tree IsExpr ts tt (λ y u. f (x ∷ y ∷ [])) (spelled_expression tree d (λ y. a_sign k.Close (f (x ∷ y ∷ []))) ts s) in
      (put (x ∷ c.x ∷ []) c.rest (λ all i. two_coordinates i is c.part c.close) c.then_on)
  in_after_coordinate d x f k.Close t is = λ ts s. (put (x ∷ []) ts (λ all i. one_coordinate i is) s)
  in_after_coordinate d x f _ t is = tt

  in_more_operands : (p : Level) (d : ℕ) (x : ExprTree) (xs : List (Operator × ExprTree)) (f : ExprTree → Want) (t : Token) (kind : TokenKind) (q : Option Operator) → operator_of p (kind_of t) ≡ q
      → Kept (step (f (chained p x xs)) kind t) (f (chained p x xs)) t
      → Kept (or_else q (λ o. w.operand p d (λ y. w.more_operands p d x (xs ++ (o, y) ∷ []) f)) (step (f (chained p x xs)) kind t)) (w.more_operands p d x xs f) t
  in_more_operands p d x xs f t kind (Some o) e further = λ ts s.
      let y = spelled_operand tree p d (λ y. w.more_operands p d x (xs ++ (o, y) ∷ []) f) ts s in let ys = y.more in (put ((o, y.value) ∷ ys.value) ys.rest (an_operand e y.part ys.part) (subst (λ (b : List (Operator × ExprTree)). Spelled (f (chained p x b)) ys.rest tree) (append_assoc xs ((o, y.value) ∷ []) ys.value) ys.more))
  in_more_operands p d x xs f t kind None e further = kept_skip (w.more_operands p d x xs f) (f (chained p x xs)) t (step (f (chained p x xs)) kind t)
      (λ ts s. (put [] (t ∷ ts) no_operand (subst (λ (b : List (Operator × ExprTree)). Spelled (f (chained p x b)) (t ∷ ts) tree) (sym (append-nil xs)) s))) further

  in_comparison : (d : ℕ) (e : ExprTree) (f : ExprTree → Want) (t : Token) (kind : TokenKind) (q : Option Relation) → relation_of (kind_of t) ≡ q → Kept (step (f e) kind t) (f e) t
      → Kept (or_else q (λ r. w.total d (λ x. f (compare e r x))) (step (f e) kind t)) (w.comparison d e f) t
  in_comparison d e f t kind (Some r) i further = λ ts s. let y = spelled_total tree d (λ x. f (compare e r x)) ts s in
      (put (compare e r y.value) y.rest (λ all a. two_sums a i y.part) y.more)
  in_comparison d e f t kind None i further = kept_skip (w.comparison d e f) (f e) t (step (f e) kind t) (λ ts s. (put e (t ∷ ts) (λ all a. a_sum a) s)) further

  pub keeps : (v : Want) (kind : TokenKind) (t : Token) → Is kind t → Kept (step v kind t) v t
  keeps (w.token a f) kind t is = kept_taken (token a f) (f t) t (same_kind a kind) (λ e ts s. (inl (is ∙ one_kind a kind e), s))
  keeps (w.word n next) k.Name t is = kept_taken (w.word n next) next t (bytes_eq (name_in t).bytes n) (λ e ts s. (inl (is, spells (name_in t).bytes n e), s))
  keeps (w.word n next) _ t is = tt
  keeps (w.begin m v) kind t is = kept_skip (w.begin m v) v t (marked t.at m (step v kind t)) (λ ts s. s) (kept_marked v t t.at m (step v kind t) (keeps v kind t is))
  keeps (w.more_transforms xs) k.Transform t is = kept_marked (w.more_transforms xs) t t.at (over item.Transforms (length xs)) (take None (w.after_transform (λ x. w.more_transforms (xs ++ x ∷ []))))
      (λ ts s. let x = spelled_after_transform tree (λ y. w.more_transforms (xs ++ y ∷ [])) ts s in let ys = x.more in
      (x.value ∷ ys.0, (one_transform (x.part t is) ys.1.0, ys.1.1 ∙ append_assoc xs (x.value ∷ []) ys.0)))
  keeps (w.more_transforms xs) _ t is = tt
  keeps (w.minimums f) kind t is = in_minimums f kind t is
  keeps (w.more_minimums ms f) kind t is = in_more_minimums ms f kind t is
  keeps (w.more_decls n from ds f) kind t is = in_more_decls n from ds f kind t is (keeps (f ds) kind t is)
  keeps (w.through n f) kind t is = in_through n f kind t is
  keeps (w.after_dim known e f) kind t is = in_after_dim known e f kind t is
  keeps (w.last_dim known e v) kind t is = in_last_dim known e v kind t is
  keeps (w.rule f) kind t is = in_rule f kind t is
  keeps (w.more_rules rs f) kind t is = in_more_rules rs f kind t is
  keeps (w.small f) kind t is = in_small f kind t is
  keeps (w.more_uses what us f) kind t is = in_more_uses what us f kind t is
  keeps (w.reads f) kind t is = in_reads f kind t is
  keeps (w.conditions f) kind t is = in_conditions f kind t is
  keeps (w.more_conditions cs f) kind t is = in_more_conditions cs f kind t is
  keeps (w.view_or_none f) kind t is = in_view_or_none f kind t is (keeps (f view.Whole) kind t is)
  keeps (w.view_name f) kind t is = in_view_name f kind t is
  keeps (w.after_x x f) kind t is = in_after_x x f kind t is
  keeps (w.after_high a b f) kind t is = in_after_high a b f kind t is
  keeps (w.form f) kind t is = in_form f kind t is
  keeps (w.term m f) kind t is = in_term m f kind t is
  keeps (w.times m n f) kind t is = in_times m n f kind t is (keeps (f (term_of m n None 0)) kind t is)
  keeps (w.quotient m n f) kind t is = in_quotient m n f kind t is (keeps (f (term_of m 1 (Some n) 0)) kind t is)
  keeps (w.divisor f) kind t is = in_divisor f kind t is
  keeps (w.more_terms xs f) kind t is = in_more_terms xs f kind t is (keeps (f xs) kind t is)
  keeps (w.relation f) kind t is = in_relation f t (condition_relation kind) (ap condition_relation is)
  keeps (w.statements d n found f) kind t is = in_statements d n found f kind t is
  keeps (w.statement d n f) kind t is = in_statement d n f kind t is
  keeps (w.after_let d at n f) kind t is = in_after_let d at n f kind t is
  keeps (w.after_target d n f) kind t is = in_after_target d n f kind t is
  keeps (w.more_targets d ns f) kind t is = in_more_targets d ns f kind t is
  keeps (w.otherwise d n at e ss f) kind t is = in_otherwise d n at e ss f kind t is (keeps (f (if_stmt at e (stmts ss)) n) kind t is)
  keeps (w.factor d f) kind t is = in_factor d f kind t is
  keeps (w.primary d f) kind t is = in_primary d f kind t is
  keeps (w.after_name d n f) kind t is = in_after_name d n f kind t is (keeps (f (name n)) kind t is)
  keeps (w.member d n f) kind t is = in_member d n f kind t is
  keeps (w.arguments d f) kind t is = in_arguments d f kind t is
  keeps (w.more_arguments d es f) kind t is = in_more_arguments d es f kind t is
  keeps (w.after_coordinate d x f) kind t is = in_after_coordinate d x f kind t is
  keeps (w.more_operands p d x xs f) kind t is = in_more_operands p d x xs f t kind (operator_of p kind) (ap (operator_of p) is) (keeps (f (chained p x xs)) kind t is)
  keeps (w.comparison d e f) kind t is = in_comparison d e f t kind (relation_of kind) (ap relation_of is) (keeps (f e) kind t is)
