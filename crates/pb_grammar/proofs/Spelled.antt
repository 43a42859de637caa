-- What is wanted is spelled by tokens, in the words of the grammar; and no token that is taken loses this.
use Rattle.std.proofs.Common.{◌≡◌, ℕ, ◌≤◌, Bool, false, ◌⊎◌, List, [], ◌∷◌, ◌++◌, Some, codes}
use Rattle.std.specs.Str.{bytes_eq}
use Rattle.pb_values.specs.Name.{NameValue}
use Rattle.pb_syntax.specs.declared.token.Token.{Token}
use Rattle.pb_syntax.specs.declared.kind.TokenKind.{TokenKind}
use Rattle.pb_syntax.specs.declared.kind.TokenKind.TheVariants as k
use Rattle.pb_syntax.specs.declared.tree.expression.Level.TheVariants as level
use Rattle.pb_syntax.specs.declared.tree.expression.Relation.{Relation}
use Rattle.pb_syntax.specs.declared.tree.form.TermText.{TermText}
use Rattle.pb_syntax.specs.declared.tree.view.ViewText.{ViewText}
use Rattle.pb_syntax.specs.Kinds.{Is, kind_of, name_in, number_in}
use Rattle.pb_syntax.specs.Operators.{condition_relation}
use Rattle.pb_syntax.specs.Forms.{FormValue}
use Rattle.pb_syntax.specs.Exprs.{ExprTree, chained, call, exprs}
use Rattle.pb_syntax.specs.Stmts.{StmtTree, call_stmt}
use Rattle.pb_syntax.specs.Trees.{TransformTree}
use Rattle.pb_syntax.specs.Grammar.{Commas, IsWord, IsName, IsMinimum, IsMinimums, IsTerm, IsTerms, IsForm, IsDims, IsDecl, IsThrough, IsView, IsUse, IsReads, IsCond, IsConds, IsLine, IsOperands, IsComp, IsUnary, IsPrim, IsExpr, IsArguments, IsCoordinates, IsStmt, IsBlock, IsStmts, IsRule, IsRules, IsTransforms}
use Rattle.pb_grammar.specs.Want.{Want, token, word, begin, more_transforms, minimums, more_minimums, more_decls, through, after_dim, last_dim, rule, more_rules, small, more_uses, reads, conditions, more_conditions, view_or_none, view_name, after_x, after_high, form, term, times, quotient, divisor, more_terms, relation, statements, statement, after_let, after_target, more_targets, otherwise, factor, primary, after_name, member, arguments, more_arguments, after_coordinate, more_operands, comparison}

-- a token of a kind; the end of the text is no token, and wants none
abbrev pub Fits : TokenKind → Token → Type 0
Fits kind t = Is kind t ⊎ (kind ≡ k.End)

-- the one word that is wanted as such
abbrev pub FitsWord : List ℕ → Token → Type 0
FitsWord w t = IsWord w t ⊎ (bytes_eq w (codes "cell") ≡ false)

-- something is spelled, and then something else
pub record Then {A : Type 0} (is : A → List Token → List Token → Type 0) (further : A → List Token → Type 0) (ts : List Token) : Type 0 where
  pub value : A
  pub rest : List Token
  pub part : is value ts rest
  pub more : further value rest

abbrev pub put : {A : Type 0} {is : A → List Token → List Token → Type 0} {further : A → List Token → Type 0} {ts : List Token}
    (x : A) (rest : List Token) → is x ts rest → further x rest → Then is further ts
put x rest i h = record { value = x; rest = rest; part = i; more = h }

-- something is spelled, then a token of a kind, and then something else
abbrev pub Past : TokenKind → (List Token → Type 0) → List Token → Type 0
Past kind further [] = ⊥
Past kind further (t ∷ rest) = Is kind t × further rest

abbrev pub ThenPast : {A : Type 0} → (A → List Token → List Token → Type 0) → TokenKind → (A → List Token → Type 0) → List Token → Type 0
ThenPast is kind further ts = Then is (λ x. Past kind (further x)) ts

-- What is spelled after some parts of a line.
abbrev pub AfterDim : FormValue → List FormValue → List Token → List Token → Type 0
AfterDim e ds ts rest = (all : List Token) → IsForm e all ts → IsDims ds all rest

abbrev pub AfterDot : ViewText → List Token → List Token → Type 0
AfterDot v ts rest = (d : Token) → Is k.Dot d → IsView v (d ∷ ts) rest

abbrev pub AfterX : FormValue → ViewText → List Token → List Token → Type 0
AfterX x v ts rest = (d w o : Token) (all : List Token) → Is k.Dot d → IsWord (codes "cell") w → Is k.Open o → IsForm x all ts → IsView v (d ∷ w ∷ o ∷ all) rest

abbrev pub AfterHigh : FormValue → FormValue → ViewText → List Token → List Token → Type 0
AfterHigh a b v ts rest = (d w o m : Token) (all mid : List Token) → Is k.Dot d → IsWord (codes "region") w → Is k.Open o
    → IsForm a all (m ∷ mid) → Is k.Comma m → IsForm b mid ts → IsView v (d ∷ w ∷ o ∷ all) rest

abbrev pub AfterNumber : Bool → ℕ → TermText → List Token → List Token → Type 0
AfterNumber m n x ts rest = (t : Token) → Is k.Number t → number_in t ≡ n → IsTerm m x (t ∷ ts) rest

abbrev pub AfterTermName : Bool → NameValue → TermText → List Token → List Token → Type 0
AfterTermName m n x ts rest = (t : Token) → Is k.Name t → name_in t ≡ n → IsTerm m x (t ∷ ts) rest

abbrev pub AfterLet : ℕ → NameValue → StmtTree → List Token → List Token → Type 0
AfterLet at n s ts rest = (t b : Token) → Is k.Let t → t.at ≡ at → Is k.Name b → name_in b ≡ n → IsStmt s (t ∷ b ∷ ts) rest

abbrev pub AfterTarget : NameValue → StmtTree → List Token → List Token → Type 0
AfterTarget n s ts rest = (t : Token) → Is k.Name t → name_in t ≡ n → IsStmt s (t ∷ ts) rest

pub record AfterTargets (ns : List NameValue) (s : StmtTree) (ts rest : List Token) : Type 0 where
  pub ms : List NameValue
  pub xs : List ExprTree
  pub e : Token
  pub c : Token
  pub o : Token
  pub q : Token
  pub mid : List Token
  pub more : Commas IsName ms ts (e ∷ c ∷ o ∷ mid)
  pub assign : Is k.Assign e
  pub called : Is k.Name c
  pub opened : Is k.Open o
  pub given : IsArguments xs mid (q ∷ rest)
  pub end : Is k.Semicolon q
  pub is : s ≡ call_stmt (ns ++ ms) (name_in c) xs

abbrev pub AfterThen : ℕ → ExprTree → List StmtTree → StmtTree → List Token → List Token → Type 0
AfterThen at e ss s ts rest = (t o c : Token) (all mid : List Token) → Is k.If t → t.at ≡ at → Is k.Open o → IsExpr e all (c ∷ mid) → Is k.Close c
    → IsBlock ss mid ts → IsStmt s (t ∷ o ∷ all) rest

abbrev pub AfterName : NameValue → ExprTree → List Token → List Token → Type 0
AfterName n x ts rest = (t : Token) → Is k.Name t → name_in t ≡ n → IsPrim x (t ∷ ts) rest

abbrev pub AfterNameDot : NameValue → ExprTree → List Token → List Token → Type 0
AfterNameDot n x ts rest = (t d : Token) → Is k.Name t → name_in t ≡ n → Is k.Dot d → IsPrim x (t ∷ d ∷ ts) rest

abbrev pub InCall : List ExprTree → List Token → List Token → Type 0
InCall xs ts rest = (n o : Token) → Is k.Name n → Is k.Open o → IsPrim (call (name_in n) (exprs xs)) (n ∷ o ∷ ts) rest

abbrev pub AfterArgument : List ExprTree → List Token → List Token → Type 0
AfterArgument xs ts rest = (x : ExprTree) (all : List Token) → IsExpr x all ts → IsArguments (x ∷ xs) all rest

abbrev pub AfterCoordinate : ExprTree → List ExprTree → List Token → List Token → Type 0
AfterCoordinate x xs ts rest = (all : List Token) → IsExpr x all ts → IsCoordinates xs all rest

abbrev pub AfterSum : ExprTree → ExprTree → List Token → List Token → Type 0
AfterSum e x ts rest = (all : List Token) → IsLine level.Sum e all ts → IsComp x all rest

-- these tokens spell what is wanted, and then this is the tree
abbrev pub Spelled : Want → List Token → List TransformTree → Type 0
Spelled (token kind f) [] tree = ⊥
Spelled (token kind f) (t ∷ ts) tree = Fits kind t × Spelled (f t) ts tree
Spelled (word w next) [] tree = ⊥
Spelled (word w next) (t ∷ ts) tree = FitsWord w t × Spelled next ts tree
Spelled (begin m w) ts tree = Spelled w ts tree
Spelled (more_transforms found) ts tree = (xs : List TransformTree) × (IsTransforms xs ts [] × (tree ≡ found ++ xs))
Spelled (minimums f) ts tree = ThenPast IsMinimums k.From (λ x rest. Spelled (f x) rest tree) ts
Spelled (more_minimums found f) ts tree = ThenPast (Commas IsMinimum) k.From (λ x rest. Spelled (f (found ++ x)) rest tree) ts
Spelled (more_decls n from found f) ts tree = Then (Commas IsDecl) (λ x rest. Spelled (f (found ++ x)) rest tree) ts
Spelled (through n f) ts tree = ThenPast IsThrough k.To (λ x rest. Spelled (f x) rest tree) ts
Spelled (after_dim known e f) ts tree = Then (AfterDim e) (λ x rest. Spelled (f x) rest tree) ts
Spelled (last_dim known e w) ts tree = Past k.CloseBracket (λ rest. Spelled w rest tree) ts
Spelled (rule f) ts tree = Then IsRule (λ x rest. Spelled (f x) rest tree) ts
Spelled (more_rules found f) ts tree = ThenPast IsRules k.CloseBrace (λ x rest. Spelled (f (found ++ x)) rest tree) ts
Spelled (small f) [] tree = ⊥
Spelled (small f) (t ∷ ts) tree = Is k.Number t × Spelled (f (number_in t)) ts tree
Spelled (more_uses what found f) ts tree = ThenPast (Commas IsUse) k.Close (λ x rest. Spelled (f (found ++ x)) rest tree) ts
Spelled (reads f) ts tree = ThenPast IsReads k.Close (λ x rest. Spelled (f x) rest tree) ts
Spelled (conditions f) ts tree = ThenPast IsConds k.OpenBrace (λ x rest. Spelled (f x) rest tree) ts
Spelled (more_conditions found f) ts tree = ThenPast (Commas IsCond) k.OpenBrace (λ x rest. Spelled (f (found ++ x)) rest tree) ts
Spelled (view_or_none f) ts tree = Then IsView (λ x rest. Spelled (f x) rest tree) ts
Spelled (view_name f) ts tree = Then AfterDot (λ x rest. Spelled (f x) rest tree) ts
Spelled (after_x x f) ts tree = Then (AfterX x) (λ y rest. Spelled (f y) rest tree) ts
Spelled (after_high a b f) ts tree = Then (AfterHigh a b) (λ y rest. Spelled (f y) rest tree) ts
Spelled (form f) ts tree = Then IsForm (λ x rest. Spelled (f x) rest tree) ts
Spelled (term m f) ts tree = Then (IsTerm m) (λ x rest. Spelled (f x) rest tree) ts
Spelled (times m n f) ts tree = Then (AfterNumber m n) (λ x rest. Spelled (f x) rest tree) ts
Spelled (quotient m n f) ts tree = Then (AfterTermName m n) (λ x rest. Spelled (f x) rest tree) ts
Spelled (divisor f) [] tree = ⊥
Spelled (divisor f) (t ∷ ts) tree = Is k.Number t × (2 ≤ number_in t) × (number_in t ≤ 4) × Spelled (f (number_in t)) ts tree
Spelled (more_terms found f) ts tree = Then IsTerms (λ x rest. Spelled (f (found ++ x)) rest tree) ts
Spelled (relation f) [] tree = ⊥
Spelled (relation f) (t ∷ ts) tree = (r : Relation) × ((condition_relation (kind_of t) ≡ Some r) × Spelled (f r) ts tree)
Spelled (statements d n found f) ts tree = Then IsStmts (λ x rest. (m : ℕ) × Spelled (f (found ++ x) m) rest tree) ts
Spelled (statement d n f) ts tree = Then IsStmt (λ x rest. (m : ℕ) × Spelled (f x m) rest tree) ts
Spelled (after_let d at n f) ts tree = Then (AfterLet at n) (λ x rest. Spelled (f x) rest tree) ts
Spelled (after_target d n f) ts tree = Then (AfterTarget n) (λ x rest. Spelled (f x) rest tree) ts
Spelled (more_targets d ns f) ts tree = Then (AfterTargets ns) (λ x rest. Spelled (f x) rest tree) ts
Spelled (otherwise d n at e ss f) ts tree = Then (AfterThen at e ss) (λ x rest. (m : ℕ) × Spelled (f x m) rest tree) ts
Spelled (factor d f) ts tree = Then IsUnary (λ x rest. Spelled (f x) rest tree) ts
Spelled (primary d f) ts tree = Then IsPrim (λ x rest. Spelled (f x) rest tree) ts
Spelled (after_name d n f) ts tree = Then (AfterName n) (λ x rest. Spelled (f x) rest tree) ts
Spelled (member d n f) ts tree = Then (AfterNameDot n) (λ x rest. Spelled (f x) rest tree) ts
Spelled (arguments d f) ts tree = Then InCall (λ x rest. Spelled (f x) rest tree) ts
Spelled (more_arguments d found f) ts tree = Then AfterArgument (λ x rest. Spelled (f (found ++ x)) rest tree) ts
Spelled (after_coordinate d x f) ts tree = Then (AfterCoordinate x) (λ y rest. Spelled (f y) rest tree) ts
Spelled (more_operands p d x found f) ts tree = Then (IsOperands p) (λ y rest. Spelled (f (chained p x (found ++ y))) rest tree) ts
Spelled (comparison d e f) ts tree = Then (AfterSum e) (λ x rest. Spelled (f x) rest tree) ts
