-- Whatever is wanted, some tokens spell it.
use Rattle.std.proofs.Common.{ap₂, ◌≡◌, ℕ, Bool, true, false, inl, inr, List, [], ◌∷◌, ◌++◌, Some, None, codes, refl, sym, subst, arith}
use Rattle.std.specs.Str.{bytes_eq}
use Rattle.std.proofs.lemmas.List.{append-nil}
use Rattle.std.proofs.lemmas.Slice.Eq.{bytes_eq-Decides}
use Rattle.pb_values.specs.Name.{NameValue}
use Rattle.pb_syntax.specs.declared.token.Token.{Token}
use Rattle.pb_syntax.specs.declared.kind.TokenKind.{TokenKind}
use Rattle.pb_syntax.specs.declared.kind.TokenKind.TheVariants as k
use Rattle.pb_syntax.specs.declared.tree.expression.Level.TheVariants as level
use Rattle.pb_syntax.specs.declared.tree.expression.Relation.TheVariants as relation
use Rattle.pb_syntax.specs.declared.tree.form.TermText.{TermText}
use Rattle.pb_syntax.specs.declared.tree.view.ViewText.TheVariants as view
use Rattle.pb_syntax.specs.declared.tree.view.UseText.{UseText}
use Rattle.pb_syntax.specs.declared.tree.view.MarkText.TheVariants as mark
use Rattle.pb_syntax.specs.Forms.{FormValue}
use Rattle.pb_syntax.specs.Exprs.{ExprTree, number, name, width, chained}
use Rattle.pb_syntax.specs.Stmts.{StmtTree, let_number, assign, call_stmt, if_stmt, stmts}
use Rattle.pb_syntax.specs.Trees.{RuleTree, TransformTree}
use Rattle.pb_syntax.specs.Grammar.{no_comma, no_minimums, IsTerm, number_term, name_term, no_terms, IsForm, plain_form, one_dim, no_through, whole, cell_x, row, region_2, IsUse, a_use, no_reads, no_conds, unmarked, IsLine, a_line, no_operand, a_conj, a_comp, a_prod, a_unary, a_sum, unsigned, IsPrim, a_number, the_name, call_of_none, width_of, IsExpr, last_argument, one_coordinate, IsStmt, let_a_number, an_assignment, an_if, a_block, no_stmt, IsRule, a_rule, no_rules, no_transforms}
use Rattle.pb_grammar.specs.Want as w
use Rattle.pb_grammar.specs.Want.{Want, a_sign, bracket, token}
use Rattle.pb_grammar.specs.Reading.{term_of}
use Rattle.pb_grammar.proofs.Spelled.{put, Fits, FitsWord, Spelled}
use Rattle.pb_syntax.specs.declared.token.TokenWhat.TheVariants as what

abbrev a_word : List ℕ → Token
a_word n = record { at = 0; what = what.Word (record { bytes = n; at = 0 }) }

abbrev a_number_token : ℕ → Token
a_number_token n = record { at = 0; what = what.Number n }

abbrev the_sign : ℕ → Token
the_sign n = record { at = 0; what = what.Sign n }

-- a token of each kind
abbrev token_of : TokenKind → Token
token_of k.Transform = a_word (codes "transform")
token_of k.From = a_word (codes "from")
token_of k.Through = a_word (codes "through")
token_of k.To = a_word (codes "to")
token_of k.Where = a_word (codes "where")
token_of k.Primary = a_word (codes "primary")
token_of k.Secondary = a_word (codes "secondary")
token_of k.Priority = a_word (codes "priority")
token_of k.Let = a_word (codes "let")
token_of k.If = a_word (codes "if")
token_of k.Else = a_word (codes "else")
token_of k.For = a_word (codes "for")
token_of k.Name = a_word (codes "x")
token_of k.Number = a_number_token 2
token_of k.Open = the_sign 0
token_of k.Close = the_sign 1
token_of k.OpenBrace = the_sign 2
token_of k.CloseBrace = the_sign 3
token_of k.OpenBracket = the_sign 4
token_of k.CloseBracket = the_sign 5
token_of k.Comma = the_sign 6
token_of k.Semicolon = the_sign 7
token_of k.Dot = the_sign 8
token_of k.Dots = the_sign 9
token_of k.Assign = the_sign 10
token_of k.Equal = the_sign 11
token_of k.Unequal = the_sign 12
token_of k.Less = the_sign 13
token_of k.LessOrEqual = the_sign 14
token_of k.Greater = the_sign 15
token_of k.GreaterOrEqual = the_sign 16
token_of k.Plus = the_sign 17
token_of k.Minus = the_sign 18
token_of k.Times = the_sign 19
token_of k.Over = the_sign 20
token_of k.Modulo = the_sign 21
token_of k.And = the_sign 22
token_of k.Or = the_sign 23
token_of k.Not = the_sign 24
token_of _ = the_sign 25

token_fits : (kind : TokenKind) → Fits kind (token_of kind)
token_fits k.End = inr refl
token_fits _ = inl refl

-- tokens that spell what is wanted, and the tree
pub record Ending (v : Want) : Type 0 where
  pub tokens : List Token
  pub tree : List TransformTree
  pub spelled : Spelled v tokens tree

abbrev x_name : NameValue
x_name = record { bytes = codes "x"; at = 0 }

abbrev x_token : Token
x_token = a_word (codes "x")

abbrev a_term : TermText
a_term = term_of false 2 None 0

one_term : {rest : List Token} → IsTerm false a_term (a_number_token 2 ∷ rest) rest
one_term = number_term refl

abbrev a_form : FormValue
a_form = record { minus = false; terms = a_term ∷ [] }

one_form : {rest : List Token} → IsForm a_form (a_number_token 2 ∷ rest) rest
one_form = plain_form one_term no_terms

abbrev the_use : UseText
the_use = record { matrix = x_name; view = view.Whole; bound = x_name }

one_use : {rest : List Token} → IsUse the_use (x_token ∷ x_token ∷ rest) rest
one_use = a_use {b = x_token} refl whole refl

abbrev the_rule : RuleTree
the_rule = record { mark = mark.Unmarked; outs = the_use ∷ []; reads = []; conds = []; body = [] }

abbrev rule_tokens : List Token → List Token
rule_tokens rest = token_of k.To ∷ the_sign 0 ∷ x_token ∷ x_token ∷ the_sign 1 ∷ token_of k.From ∷ the_sign 0 ∷ the_sign 1 ∷ the_sign 2 ∷ the_sign 3 ∷ rest

a_small_rule : {rest : List Token} → IsRule the_rule (rule_tokens rest) rest
a_small_rule = a_rule unmarked refl refl one_use no_comma refl refl refl no_reads refl no_conds (a_block refl (no_stmt refl))

abbrev one : ExprTree
one = number 0 2

one_prim : {rest : List Token} → IsPrim one (a_number_token 2 ∷ rest) rest
one_prim = a_number refl

one_sum : {rest : List Token} → IsLine level.Sum one (a_number_token 2 ∷ rest) rest
one_sum = a_line (a_prod (a_line (a_unary (unsigned one_prim)) no_operand)) no_operand

one_expr : {rest : List Token} → IsExpr one (a_number_token 2 ∷ rest) rest
one_expr = a_line (a_conj (a_line (a_comp (a_sum one_sum)) no_operand)) no_operand

word_fits : (n : List ℕ) (b : Bool) → bytes_eq n (codes "cell") ≡ b → FitsWord n (a_word (codes "cell"))
word_fits n true e = inl (refl, sym ((bytes_eq-Decides n (codes "cell")).0 e))
word_fits n false e = inr e

pub completes : (v : Want) → Ending v
completes (w.token a f) = let r = completes (f (token_of a)) in record { tokens = token_of a ∷ r.tokens; tree = r.tree; spelled = (token_fits a, r.spelled) }
completes (w.word n v) = let r = completes v in
    record { tokens = a_word (codes "cell") ∷ r.tokens; tree = r.tree; spelled = (word_fits n (bytes_eq n (codes "cell")) refl, r.spelled) }
completes (w.begin m v) = let r = completes v in record { tokens = r.tokens; tree = r.tree; spelled = r.spelled }
completes (w.more_transforms xs) = record { tokens = []; tree = xs; spelled = ([], (no_transforms, sym (append-nil xs))) }
completes (w.minimums f) = let r = completes (f []) in
    record { tokens = token_of k.From ∷ r.tokens; tree = r.tree; spelled = (put [] (token_of k.From ∷ r.tokens) no_minimums (refl, r.spelled)) }
completes (w.more_minimums xs f) = let r = completes (f (xs ++ [])) in
    record { tokens = token_of k.From ∷ r.tokens; tree = r.tree; spelled = (put [] (token_of k.From ∷ r.tokens) no_comma (refl, r.spelled)) }
completes (w.more_decls n from xs f) = let r = completes (f (xs ++ [])) in
    record { tokens = r.tokens; tree = r.tree; spelled = (put [] r.tokens no_comma r.spelled) }
completes (w.through n f) = let r = completes (f []) in
    record { tokens = token_of k.To ∷ r.tokens; tree = r.tree; spelled = (put [] (token_of k.To ∷ r.tokens) no_through (refl, r.spelled)) }
completes (w.after_dim known e f) = let r = completes (f (e ∷ [])) in
    record { tokens = the_sign 5 ∷ r.tokens; tree = r.tree; spelled = (put (e ∷ []) r.tokens (λ all i. one_dim i refl) r.spelled) }
completes (w.last_dim known e v) = let r = completes v in record { tokens = the_sign 5 ∷ r.tokens; tree = r.tree; spelled = (refl, r.spelled) }
completes (w.rule f) = let r = completes (f the_rule) in record { tokens = rule_tokens r.tokens; tree = r.tree; spelled = (put the_rule r.tokens a_small_rule r.spelled) }
completes (w.more_rules xs f) = let r = completes (f (xs ++ [])) in
    record { tokens = the_sign 3 ∷ r.tokens; tree = r.tree; spelled = (put [] (the_sign 3 ∷ r.tokens) no_rules (refl, r.spelled)) }
completes (w.small f) = let r = completes (f 2) in record { tokens = a_number_token 2 ∷ r.tokens; tree = r.tree; spelled = (refl, r.spelled) }
completes (w.more_uses what xs f) = let r = completes (f (xs ++ [])) in
    record { tokens = the_sign 1 ∷ r.tokens; tree = r.tree; spelled = (put [] (the_sign 1 ∷ r.tokens) no_comma (refl, r.spelled)) }
completes (w.reads f) = let r = completes (f []) in
    record { tokens = the_sign 1 ∷ r.tokens; tree = r.tree; spelled = (put [] (the_sign 1 ∷ r.tokens) no_reads (refl, r.spelled)) }
completes (w.conditions f) = let r = completes (f []) in
    record { tokens = the_sign 2 ∷ r.tokens; tree = r.tree; spelled = (put [] (the_sign 2 ∷ r.tokens) no_conds (refl, r.spelled)) }
completes (w.more_conditions xs f) = let r = completes (f (xs ++ [])) in
    record { tokens = the_sign 2 ∷ r.tokens; tree = r.tree; spelled = (put [] (the_sign 2 ∷ r.tokens) no_comma (refl, r.spelled)) }
completes (w.view_or_none f) = let r = completes (f view.Whole) in record { tokens = r.tokens; tree = r.tree; spelled = (put view.Whole r.tokens whole r.spelled) }
completes (w.view_name f) = let r = completes (f (view.Row a_form)) in
    record {
      tokens = a_word (codes "row") ∷ the_sign 0 ∷ a_number_token 2 ∷ the_sign 1 ∷ r.tokens;
      tree = r.tree;
      spelled = (put (view.Row a_form) r.tokens (λ d i. row i (refl, refl) refl one_form refl) r.spelled);
    }
completes (w.after_x x f) = let r = completes (f (view.Cell x None)) in
    record { tokens = the_sign 1 ∷ r.tokens; tree = r.tree; spelled = (put (view.Cell x None) r.tokens (λ d n o all i j m a. cell_x i j m a refl) r.spelled) }
completes (w.after_high a b f) = let r = completes (f (view.Between a b)) in
    record { tokens = the_sign 1 ∷ r.tokens; tree = r.tree; spelled = (put (view.Between a b) r.tokens (λ d n o m all mid i j q x c y. region_2 i j q x c y refl) r.spelled) }
completes (w.form f) = let r = completes (f a_form) in record { tokens = a_number_token 2 ∷ r.tokens; tree = r.tree; spelled = (put a_form r.tokens one_form r.spelled) }
completes (w.term m f) = let r = completes (f (term_of m 2 None 0)) in
    record { tokens = a_number_token 2 ∷ r.tokens; tree = r.tree; spelled = (put (term_of m 2 None 0) r.tokens (number_term refl) r.spelled) }
completes (w.times m n f) = let r = completes (f (term_of m n None 0)) in record {
  tokens = r.tokens;
  tree = r.tree;
  spelled = (put (term_of m n None 0) r.tokens (λ u i e. subst (λ (a : ℕ). IsTerm m (term_of m a None 0) (u ∷ r.tokens) r.tokens) e (number_term i)) r.spelled);
}
completes (w.quotient m n f) = let r = completes (f (term_of m 1 (Some n) 0)) in record {
  tokens = r.tokens;
  tree = r.tree;
  spelled = (put (term_of m 1 (Some n) 0) r.tokens (λ u i e. subst (λ (a : NameValue). IsTerm m (term_of m 1 (Some a) 0) (u ∷ r.tokens) r.tokens) e (name_term i)) r.spelled);
}
completes (w.divisor f) = let r = completes (f 2) in record { tokens = a_number_token 2 ∷ r.tokens; tree = r.tree; spelled = (refl, omega arith, omega arith, r.spelled) }
completes (w.more_terms xs f) = let r = completes (f (xs ++ [])) in record { tokens = r.tokens; tree = r.tree; spelled = (put [] r.tokens no_terms r.spelled) }
completes (w.relation f) = let r = completes (f relation.Less) in record { tokens = the_sign 13 ∷ r.tokens; tree = r.tree; spelled = (relation.Less, (refl, r.spelled)) }
completes (w.statements d n found f) = let r = completes (f (found ++ []) n) in
    record { tokens = the_sign 3 ∷ r.tokens; tree = r.tree; spelled = (put [] r.tokens (no_stmt refl) (n, r.spelled)) }
completes (w.statement d n f) = let r = completes (f (assign x_name one) n) in
    record {
      tokens = x_token ∷ the_sign 10 ∷ a_number_token 2 ∷ the_sign 7 ∷ r.tokens;
      tree = r.tree;
      spelled = (put (assign x_name one) r.tokens (an_assignment {n = x_token} refl refl one_expr refl) (n, r.spelled));
    }
completes (w.after_let d at n f) = let r = completes (f (let_number at n one)) in
    record {
      tokens = the_sign 10 ∷ a_number_token 2 ∷ the_sign 7 ∷ r.tokens;
      tree = r.tree;
      spelled = (put (let_number at n one) r.tokens (λ u b i ea j en. subst (λ (a : StmtTree). IsStmt a (u ∷ b ∷ the_sign 10 ∷ a_number_token 2 ∷ the_sign 7 ∷ r.tokens) r.tokens) (ap₂ (λ a m. let_number a m one) ea en) (let_a_number i j refl one_expr refl)) r.spelled);
    }
completes (w.after_target d n f) = let r = completes (f (assign n one)) in
    record {
      tokens = the_sign 10 ∷ a_number_token 2 ∷ the_sign 7 ∷ r.tokens;
      tree = r.tree;
      spelled = (put (assign n one) r.tokens (λ u i e. subst (λ (a : NameValue). IsStmt (assign a one) (u ∷ the_sign 10 ∷ a_number_token 2 ∷ the_sign 7 ∷ r.tokens) r.tokens) e (an_assignment i refl one_expr refl)) r.spelled);
    }
completes (w.more_targets d ns f) = let r = completes (f (call_stmt (ns ++ []) x_name (one ∷ []))) in
    record {
      tokens = the_sign 10 ∷ x_token ∷ the_sign 0 ∷ a_number_token 2 ∷ the_sign 1 ∷ the_sign 7 ∷ r.tokens;
      tree = r.tree;
      spelled = (put (call_stmt (ns ++ []) x_name (one ∷ [])) r.tokens (record { ms = []; xs = one ∷ []; e = the_sign 10; c = x_token; o = the_sign 0; q = the_sign 7; mid = a_number_token 2 ∷ the_sign 1 ∷ the_sign 7 ∷ r.tokens; more = no_comma; assign = refl; called = refl; opened = refl; given = last_argument {c = the_sign 1} one_expr refl; end = refl; is = refl }) r.spelled);
    }
completes (w.otherwise d n at e ss f) = let r = completes (f (if_stmt at e (stmts ss)) n) in
    record {
      tokens = r.tokens;
      tree = r.tree;
      spelled = (put (if_stmt at e (stmts ss)) r.tokens (λ u o c all mid i ea j x q body. subst (λ (a : ℕ). IsStmt (if_stmt a e (stmts ss)) (u ∷ o ∷ all) r.tokens) ea (an_if i j x q body)) (n, r.spelled));
    }
completes (w.factor d f) = let r = completes (f one) in record { tokens = a_number_token 2 ∷ r.tokens; tree = r.tree; spelled = (put one r.tokens (unsigned one_prim) r.spelled) }
completes (w.primary d f) = let r = completes (f one) in record { tokens = a_number_token 2 ∷ r.tokens; tree = r.tree; spelled = (put one r.tokens one_prim r.spelled) }
completes (w.after_name d n f) = let r = completes (f (name n)) in record {
  tokens = r.tokens;
  tree = r.tree;
  spelled = (put (name n) r.tokens (λ u i e. subst (λ (a : NameValue). IsPrim (name a) (u ∷ r.tokens) r.tokens) e (the_name i)) r.spelled);
}
completes (w.member d n f) = let r = completes (f (width n)) in
    record {
      tokens = a_word (codes "width") ∷ the_sign 0 ∷ the_sign 1 ∷ r.tokens;
      tree = r.tree;
      spelled = (put (width n) r.tokens (λ u q i e j. subst (λ (a : NameValue). IsPrim (width a) (u ∷ q ∷ a_word (codes "width") ∷ the_sign 0 ∷ the_sign 1 ∷ r.tokens) r.tokens) e (width_of i j (refl, refl) refl refl)) r.spelled);
    }
completes (w.arguments d f) = let r = completes (f []) in
    record { tokens = the_sign 1 ∷ r.tokens; tree = r.tree; spelled = (put [] r.tokens (λ n o i j. call_of_none i j refl) r.spelled) }
completes (w.more_arguments d xs f) = let r = completes (f (xs ++ [])) in
    record { tokens = the_sign 1 ∷ r.tokens; tree = r.tree; spelled = (put [] r.tokens (λ x all i. last_argument i refl) r.spelled) }
completes (w.after_coordinate d x f) = let r = completes (f (x ∷ [])) in
    record { tokens = the_sign 1 ∷ r.tokens; tree = r.tree; spelled = (put (x ∷ []) r.tokens (λ all i. one_coordinate i refl) r.spelled) }
completes (w.more_operands p d x xs f) = let r = completes (f (chained p x (xs ++ []))) in
    record { tokens = r.tokens; tree = r.tree; spelled = (put [] r.tokens no_operand r.spelled) }
completes (w.comparison d e f) = let r = completes (f e) in record { tokens = r.tokens; tree = r.tree; spelled = (put e r.tokens (λ all a. a_sum a) r.spelled) }
