-- The tokens of a tree are plain where the tokens that spell it are tokens of a text.
use Rattle.std.proofs.Common.{◌≡◌, ℕ, ◌≤◌, Bool, true, false, nat_lt, ◌&&◌, ◌==◌, not, List, [], ◌∷◌, ◌++◌, cond, refl, subst, arith, append-nil}
use Rattle.std.specs.List.{list_all}
use Rattle.std.proofs.lemmas.Bool.{ltb-true, not-true}
use Rattle.pb_values.specs.Name.{NameValue}
use Rattle.pb_syntax.proofs.TestLemmas.{and_parts, each}
use Rattle.pb_syntax.specs.declared.token.Token.{Token}
use Rattle.pb_syntax.specs.declared.token.TokenWhat.{TokenWhat}
use Rattle.pb_syntax.specs.declared.token.TokenWhat.TheVariants as what
use Rattle.pb_syntax.specs.declared.kind.TokenKind.{TokenKind}
use Rattle.pb_syntax.specs.declared.kind.TokenKind.TheVariants as k
use Rattle.pb_syntax.specs.declared.tree.expression.Operator.{Operator}
use Rattle.pb_syntax.specs.declared.tree.expression.Operator.TheVariants as operator
use Rattle.pb_syntax.specs.declared.tree.expression.Relation.{Relation}
use Rattle.pb_syntax.specs.declared.tree.expression.Relation.TheVariants as relation
use Rattle.pb_syntax.specs.declared.tree.expression.Level.{Level}
use Rattle.pb_syntax.specs.declared.tree.form.TermText.{TermText}
use Rattle.pb_syntax.specs.declared.tree.view.ViewText.{ViewText}
use Rattle.pb_syntax.specs.declared.tree.view.UseText.{UseText}
use Rattle.pb_syntax.specs.declared.tree.view.CondText.{CondText}
use Rattle.pb_syntax.specs.declared.tree.view.MarkText.{MarkText}
use Rattle.pb_syntax.specs.Bytes.{begins_name, is_in_name}
use Rattle.pb_syntax.specs.Kinds.{sign_kind, Is, name_in, name_in_what, number_in, number_in_what, kind_of_what}
use Rattle.pb_syntax.specs.Lexemes.{IsLexemeAt, AreLexemes, IsWordText}
use Rattle.pb_syntax.specs.Grammar as g
use Rattle.pb_syntax.specs.Grammar.{Commas, no_comma, a_comma, IsTerm, IsTerms, IsForm, IsDims, IsDecl, IsDecls, IsView, IsUse, IsCond, IsMark, IsLine, IsOperands, IsOperand, IsComp, IsUnary, IsPrim, IsArguments, IsCoordinates, IsStmt, IsBlock, IsStmts, IsRule, IsRules, IsTransform, IsTransforms, IsProgram}
use Rattle.pb_syntax.specs.Forms.{FormValue, DeclValue}
use Rattle.pb_syntax.specs.Exprs.{ExprTree, exprs, operands, chained}
use Rattle.pb_syntax.specs.Stmts.{StmtTree, stmts}
use Rattle.pb_syntax.specs.Trees.{RuleTree, TransformTree}
use Rattle.pb_prog.specs.Spelling.{Written, word, numeral, sign_at, relation_sign, operator_sign, term_sign, after_commas, with_commas, in_order, name_tokens, minimum_tokens, minimums_tokens, factor_tokens, quotient_tokens, term_tokens, next_term_tokens, sum_tokens, form_tokens, decl_tokens, through_tokens, view_tokens, use_tokens, cond_tokens, conds_tokens, mark_tokens, expr_tokens, operands_tokens, arguments_tokens, more_arguments_tokens, stmt_tokens, stmts_tokens, rule_tokens, transform_tokens, text_tokens}
use Rattle.pb_front.proofs.Written.{written_as, CanBe, Plain, none, plain, member}

-- a token that a text can have
abbrev pub Good : Token → Type 0
Good t = CanBe (written_as t.what)

abbrev pub AllGood : List Token → Type 0
AllGood [] = Unit
AllGood (t ∷ ts) = Good t × AllGood ts

good : (at : ℕ) (w : TokenWhat) → IsLexemeAt at w → CanBe (written_as w)
good at (what.Word n) h = h.0
good at (what.Number n) h = h
good at (what.Sign p) h = h

-- the tokens of a text
pub goods : (ts : List Token) → AreLexemes ts → AllGood ts
goods [] h = tt
goods (t ∷ ts) h = (good t.at t.what h.0, goods ts h.1)

-- names and numbers among them
abbrev is_name : TokenKind → Bool
is_name k.Name = true
is_name _ = false

name_in_good : (w : TokenWhat) → kind_of_what w ≡ k.Name → CanBe (written_as w) → IsWordText (name_in_what w).bytes
name_in_good (what.Word n) is good = good
name_in_good (what.Number n) is good = absurd (cc)
name_in_good (what.Sign p) is good = let other = each (λ q. not (is_name (sign_kind q))) 25 p refl good in absurd (cc)

number_in_good : (w : TokenWhat) → CanBe (written_as w) → number_in_what w ≤ 9223372036854775807
number_in_good (what.Word n) good = omega arith
number_in_good (what.Number n) good = good
number_in_good (what.Sign p) good = omega arith

-- keywords, and signs but the dot
abbrev is_text : List ℕ → Bool
is_text [] = false
is_text (b ∷ more) = begins_name b && list_all is_in_name more

text_is : (w : List ℕ) → is_text w ≡ true → IsWordText w
text_is [] e = absurd (cc)
text_is (b ∷ more) e = and_parts _ _ e

abbrev is_fixed : Written → Bool
is_fixed (word w) = is_text w
is_fixed (numeral n) = false
is_fixed (sign_at p) = nat_lt p 25 && not (p == 8)

fix : {ws : List Written} (w : Written) → is_fixed w ≡ true → Plain ws → Plain (w ∷ ws)
fix (word w) e p = plain (text_is w e) refl p
fix (numeral n) e p = absurd (cc)
fix (sign_at q) e p = let both = and_parts _ _ e in plain (ltb-true q 25 both.0) (not-true _ both.1) p

append : {a b : List Written} → Plain a → Plain b → Plain (a ++ b)
append none q = q
append (plain c n p) q = plain c n (append p q)
append (member c p) q = member c (append p q)

-- where all tokens of a list are good, these are plain, and those of the rest are good
record Keeps (ws : List Written) (all rest : List Token) : Type 0 where
  kept : AllGood all → Plain ws × AllGood rest

module _ {ws : List Written} {all rest : List Token} where
  skip : {t : Token} → Keeps ws all rest → Keeps ws (t ∷ all) rest
  skip i = record { kept = λ g. i.kept g.1 }

  free : {w : Written} → is_fixed w ≡ true → Keeps ws all rest → Keeps (w ∷ ws) all rest
  free {w} e i = record { kept = λ g. let r = i.kept g in (fix w e r.0, r.1) }

  fixed : {w : Written} {t : Token} → is_fixed w ≡ true → Keeps ws all rest → Keeps (w ∷ ws) (t ∷ all) rest
  fixed {w} e i = record { kept = λ g. let r = i.kept g.1 in (fix w e r.0, r.1) }

  named : {t : Token} → Is k.Name t → Keeps ws all rest → Keeps (word (name_in t).bytes ∷ ws) (t ∷ all) rest
  named {t} is i = record { kept = λ g. let r = i.kept g.1 in (plain (name_in_good t.what is g.0) refl r.0, r.1) }

  counted : {t : Token} → Keeps ws all rest → Keeps (numeral (number_in t) ∷ ws) (t ∷ all) rest
  counted {t} i = record { kept = λ g. let r = i.kept g.1 in (plain (number_in_good t.what g.0) refl r.0, r.1) }

  dotted : {w : List ℕ} {d t : Token} → is_text w ≡ true → Keeps ws all rest → Keeps (sign_at 8 ∷ word w ∷ ws) (d ∷ t ∷ all) rest
  dotted {w} e i = record { kept = λ g. let r = i.kept g.1.1 in (member (text_is w e) r.0, r.1) }

done : {rest : List Token} → Keeps [] rest rest
done = record { kept = λ g. (none, g) }

both : {a b : List Written} {all mid rest : List Token} → Keeps a all mid → Keeps b mid rest → Keeps (a ++ b) all rest
both f g = record { kept = λ h. let r = f.kept h in let s = g.kept r.1 in (append r.0 s.0, s.1) }

-- by the lines of the grammar, in its order
commas : {A : Type 0} {Item : A → List Token → List Token → Type 0} {tokens : A → List Written} {xs : List A} {all rest : List Token}
    → ((x : A) (all rest : List Token) → Item x all rest → Keeps (tokens x) all rest) → Commas Item xs all rest → Keeps (after_commas tokens xs) all rest
commas item no_comma = done
commas item (a_comma is x xs) = fixed refl (both (item _ _ _ x) (commas item xs))

a_name : {n : NameValue} {all rest : List Token} → g.IsName n all rest → Keeps (name_tokens n) all rest
a_name (g.a_name is) = named is done

minimum : {m : NameValue × ℕ} {all rest : List Token} → g.IsMinimum m all rest → Keeps (minimum_tokens m) all rest
unfolding minimum_tokens
minimum (g.a_minimum n i j) = named n (fixed refl (counted done))

minimums : {ms : List (NameValue × ℕ)} {all rest : List Token} → g.IsMinimums ms all rest → Keeps (minimums_tokens ms) all rest
minimums g.no_minimums = done
minimums (g.some_minimums w m ms) = fixed refl (both (minimum m) (commas (λ x all rest. minimum) ms))

optional : {ws : List Written} {all rest : List Token} (b : Bool) → Keeps [] all rest → Keeps ws all rest → Keeps (cond b [] ws) all rest
optional true i j = i
optional false i j = j

term : {m : Bool} {x : TermText} {all rest : List Token} → IsTerm m x all rest → Keeps (term_tokens x) all rest
unfolding term_tokens factor_tokens quotient_tokens
term (g.number_term is) = counted done
term (g.name_term is) = named is done
term (g.multiple {t = t} i s n) = both (optional {ws = numeral (number_in t) ∷ sign_at 19 ∷ []} (number_in t == 1) (skip (skip done)) (counted (fixed refl done))) (named n done)
term (g.fraction {q = q} n s i least most) = named n (optional (number_in q == 0) (skip (skip done)) (fixed refl (counted done)))

sign_fixed : (b : Bool) → is_fixed (sign_at (term_sign b)) ≡ true
sign_fixed true = refl
sign_fixed false = refl

terms : {xs : List TermText} {all rest : List Token} → IsTerms xs all rest → Keeps (in_order next_term_tokens xs) all rest
unfolding next_term_tokens
terms g.no_terms = done
terms (g.plus {x = x} is t ts) = fixed (sign_fixed x.minus) (both (term t) (terms ts))
terms (g.minus {x = x} is t ts) = fixed (sign_fixed x.minus) (both (term t) (terms ts))

form : {f : FormValue} {all rest : List Token} → IsForm f all rest → Keeps (form_tokens f) all rest
unfolding form_tokens sum_tokens
form (g.plain_form t ts) = both (term t) (terms ts)
form (g.minus_form is t ts) = fixed refl (both (term t) (terms ts))

-- the bracket after them isn't among their tokens
dims : {ds : List FormValue} {all rest : List Token} → IsDims ds all rest → Keeps (with_commas form_tokens ds) all rest
dims (g.one_dim x c) = both (form x) (skip done)
dims (g.two_dims x m y c) = both (form x) (fixed refl (both (form y) (skip done)))

decl : {d : DeclValue} {all rest : List Token} → IsDecl d all rest → Keeps (decl_tokens d) all rest
unfolding decl_tokens
decl (g.a_decl n b ds) = named n (fixed refl (both (dims ds) (free refl done)))

decls : {ds : List DeclValue} {all rest : List Token} → IsDecls ds all rest → Keeps (with_commas decl_tokens ds) all rest
decls (g.some_decls d ds) = both (decl d) (commas (λ x all rest. decl) ds)

through : {ds : List DeclValue} {all rest : List Token} → g.IsThrough ds all rest → Keeps (through_tokens ds) all rest
through g.no_through = done
through (g.some_through is (g.some_decls d ds)) = fixed refl (both (decl d) (commas (λ x all rest. decl) ds))

view : {v : ViewText} {all rest : List Token} → IsView v all rest → Keeps (view_tokens v) all rest
unfolding view_tokens
view g.whole = done
view (g.cell_x d w o x c) = dotted refl (fixed refl (both (form x) (fixed refl done)))
view (g.cell_xy d w o x m y c) = dotted refl (fixed refl (both (form x) (fixed refl (both (form y) (fixed refl done)))))
view (g.row d w o y c) = dotted refl (fixed refl (both (form y) (fixed refl done)))
view (g.column d w o x c) = dotted refl (fixed refl (both (form x) (fixed refl done)))
view (g.region_2 d w o a m b c) = dotted refl (fixed refl (both (form a) (fixed refl (both (form b) (fixed refl done)))))
view (g.region_4 d w o a m b p e q f c) =
    dotted refl (fixed refl (both (form a) (fixed refl (both (form b) (fixed refl (both (form e) (fixed refl (both (form f) (fixed refl done)))))))))

a_use : {u : UseText} {all rest : List Token} → IsUse u all rest → Keeps (use_tokens u) all rest
unfolding use_tokens
a_use (g.a_use m v b) = named m (both (view v) (named b done))

reads : {us : List UseText} {all rest : List Token} → g.IsReads us all rest → Keeps (with_commas use_tokens us) all rest
reads g.no_reads = done
reads (g.some_reads u us) = both (a_use u) (commas (λ x all rest. a_use) us)

relation_fixed : (r : Relation) → is_fixed (sign_at (relation_sign r)) ≡ true
relation_fixed relation.Equal = refl
relation_fixed _ = refl

operator_fixed : (o : Operator) → is_fixed (sign_at (operator_sign o)) ≡ true
operator_fixed operator.Plus = refl
operator_fixed _ = refl

a_cond : {c : CondText} {all rest : List Token} → IsCond c all rest → Keeps (cond_tokens c) all rest
unfolding cond_tokens
a_cond (g.a_cond {r = r} a is b) = both (form a) (fixed (relation_fixed r) (form b))

conds : {cs : List CondText} {all rest : List Token} → g.IsConds cs all rest → Keeps (conds_tokens cs) all rest
conds g.no_conds = done
conds (g.some_conds w c cs) = fixed refl (both (a_cond c) (commas (λ x all rest. a_cond) cs))

mark : {m : MarkText} {all rest : List Token} → IsMark m all rest → Keeps (mark_tokens m) all rest
unfolding mark_tokens
mark g.unmarked = done
mark (g.primary t) = fixed refl done
mark (g.secondary t) = fixed refl done
mark (g.priority t o n c) = fixed refl (fixed refl (counted (fixed refl done)))

line_of : (l : Level) (x : ExprTree) (xs : List (Operator × ExprTree)) {all mid rest : List Token} → Keeps (expr_tokens x) all mid
    → Keeps (operands_tokens (operands xs)) mid rest → Keeps (expr_tokens (chained l x xs)) all rest
unfolding expr_tokens operands_tokens
line_of l x [] {all = all} {rest = rest} f g = subst (λ ws. Keeps ws all rest) (append-nil (expr_tokens x)) (both f g)
line_of l x (o ∷ xs) f g = both f g

mutual
  unfolding expr_tokens operands_tokens arguments_tokens more_arguments_tokens

  line : {l : Level} {x : ExprTree} {all rest : List Token} → IsLine l x all rest → Keeps (expr_tokens x) all rest
  line (g.a_line {l = l} {xs = xs} x os) = line_of l _ xs (operand x) (more_operands os)

  more_operands : {l : Level} {xs : List (Operator × ExprTree)} {all rest : List Token} → IsOperands l xs all rest → Keeps (operands_tokens (operands xs)) all rest
  more_operands g.no_operand = done
  more_operands (g.an_operand {o = o} is x xs) = fixed (operator_fixed o) (both (operand x) (more_operands xs))

  operand : {l : Level} {x : ExprTree} {all rest : List Token} → IsOperand l x all rest → Keeps (expr_tokens x) all rest
  operand (g.a_conj x) = line x
  operand (g.a_comp x) = comp x
  operand (g.a_prod x) = line x
  operand (g.a_unary x) = unary x

  comp : {x : ExprTree} {all rest : List Token} → IsComp x all rest → Keeps (expr_tokens x) all rest
  comp (g.a_sum x) = line x
  comp (g.two_sums {r = r} x is y) = both (line x) (fixed (relation_fixed r) (line y))

  unary : {x : ExprTree} {all rest : List Token} → IsUnary x all rest → Keeps (expr_tokens x) all rest
  unary (g.unsigned x) = prim x
  unary (g.minus_prim is x) = fixed refl (prim x)
  unary (g.not_prim is x) = fixed refl (prim x)

  prim : {x : ExprTree} {all rest : List Token} → IsPrim x all rest → Keeps (expr_tokens x) all rest
  prim (g.a_number is) = counted done
  prim (g.the_name is) = named is done
  prim (g.call_of_none n o c) = named n (fixed refl (fixed refl done))
  prim (g.call_of n o xs) = named n (fixed refl (both (arguments xs) (free refl done)))
  prim (g.in_parentheses o x c) = fixed refl (both (line x) (fixed refl done))
  prim (g.cell_of n d w o xs) = named n (dotted refl (fixed refl (both (coordinates xs) (free refl done))))
  prim (g.width_of n d w o c) = named n (dotted refl (fixed refl (fixed refl done)))
  prim (g.height_of n d w o c) = named n (dotted refl (fixed refl (fixed refl done)))

  -- the bracket after them isn't among their tokens
  arguments : {xs : List ExprTree} {all rest : List Token} → IsArguments xs all rest → Keeps (arguments_tokens (exprs xs)) all rest
  arguments (g.last_argument x c) = both (line x) (skip done)
  arguments (g.an_argument x m xs) = both (line x) (skip (more_arguments xs))

  more_arguments : {xs : List ExprTree} {all rest : List Token} → IsArguments xs all rest → Keeps (more_arguments_tokens (exprs xs)) all rest
  more_arguments (g.last_argument x c) = free refl (both (line x) (skip done))
  more_arguments (g.an_argument x m xs) = free refl (both (line x) (skip (more_arguments xs)))

  coordinates : {xs : List ExprTree} {all rest : List Token} → IsCoordinates xs all rest → Keeps (arguments_tokens (exprs xs)) all rest
  coordinates (g.one_coordinate x c) = both (line x) (skip done)
  coordinates (g.two_coordinates x m y c) = both (line x) (fixed refl (both (line y) (skip done)))

mutual
  unfolding stmt_tokens stmts_tokens

  stmt : {s : StmtTree} {all rest : List Token} → IsStmt s all rest → Keeps (stmt_tokens s) all rest
  stmt (g.let_a_number t n e x s) = fixed refl (named n (fixed refl (both (line x) (fixed refl done))))
  stmt (g.let_a_matrix t n b ds s) = fixed refl (named n (fixed refl (both (dims ds) (free refl (fixed refl done)))))
  stmt (g.an_assignment n e x s) = named n (fixed refl (both (line x) (fixed refl done)))
  stmt (g.a_call n m p ns e f o xs s) =
      named n (fixed refl (named p (both (commas (λ x all rest. a_name) ns) (fixed refl (named f (fixed refl (both (arguments xs) (free refl (fixed refl done)))))))))
  stmt (g.a_cell_assignment n d w o xs e x s) =
      named n (dotted refl (fixed refl (both (coordinates xs) (free refl (fixed refl (both (line x) (fixed refl done)))))))
  stmt (g.an_if t o x c (g.a_block b ss)) = fixed refl (fixed refl (both (line x) (fixed refl (fixed refl (both (body ss) (free refl done))))))
  stmt (g.an_if_else t o x c (g.a_block b ss) l (g.a_block d others)) =
      fixed refl (fixed refl (both (line x) (fixed refl (fixed refl (both (body ss) (free refl (fixed refl (fixed refl (both (body others) (free refl done))))))))))
  stmt (g.a_for t o n e a d b c (g.a_block p ss)) =
      fixed refl (fixed refl (named n (fixed refl (both (line a) (fixed refl (both (line b) (fixed refl (fixed refl (both (body ss) (free refl done))))))))))

  -- the brace after them isn't among their tokens
  body : {ss : List StmtTree} {all rest : List Token} → IsStmts ss all rest → Keeps (stmts_tokens (stmts ss)) all rest
  body (g.no_stmt c) = skip done
  body (g.one_stmt s ss) = both (stmt s) (body ss)

rule_body : {ss : List StmtTree} {all rest : List Token} → IsStmts ss all rest → Keeps (in_order stmt_tokens ss) all rest
rule_body (g.no_stmt c) = skip done
rule_body (g.one_stmt s ss) = both (stmt s) (rule_body ss)

rule : {r : RuleTree} {all rest : List Token} → IsRule r all rest → Keeps (rule_tokens r) all rest
unfolding rule_tokens
rule (g.a_rule m t o u us c f p rs q cs (g.a_block b ss)) =
    both (mark m) (fixed refl (fixed refl (both (both (a_use u) (commas (λ x all rest. a_use) us)) (fixed refl (fixed refl (fixed refl
    (both (reads rs) (fixed refl (both (conds cs) (fixed refl (both (rule_body ss) (free refl done))))))))))))

rules : {rs : List RuleTree} {all rest : List Token} → IsRules rs all rest → Keeps (in_order rule_tokens rs) all rest
rules g.no_rules = done
rules (g.one_rule r rs) = both (rule r) (rules rs)

transform : {x : TransformTree} {all rest : List Token} → IsTransform x all rest → Keeps (transform_tokens x) all rest
unfolding transform_tokens
transform (g.a_transform t n ms f from kept o to b r rs c) =
    fixed refl (named n (both (minimums ms) (fixed refl (both (decls from) (both (through kept) (fixed refl (both (decls to) (fixed refl
    (both (both (rule r) (rules rs)) (fixed refl done))))))))))

transforms : {xs : List TransformTree} {all rest : List Token} → IsTransforms xs all rest → Keeps (in_order transform_tokens xs) all rest
transforms g.no_transforms = done
transforms (g.one_transform x xs) = both (transform x) (transforms xs)

pub plain_program : (tree : List TransformTree) (tokens : List Token) → IsProgram tree tokens → AllGood tokens → Plain (text_tokens tree)
plain_program tree tokens (g.a_program x xs) good = ((both (transform x) (transforms xs)).kept good).0
