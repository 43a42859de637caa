-- The grammar: which trees spell which tokens. Each relation says that a tree is spelled by the tokens of a list up to
-- the rest of it. One relation for each line of the grammar, in its order, one case for each alternative; where a
-- line has a part that may be missing or repeats, that part has a relation beside it.
use Rattle.std.specs.Prelude.{◌≡◌, ℕ, ◌≤◌, Bool, true, false, List, [], ◌∷◌, Some, None, codes}
use Rattle.pb_values.specs.Name.{NameValue}
use Rattle.pb_syntax.specs.declared.token.Token.{Token}
use Rattle.pb_syntax.specs.declared.kind.TokenKind.TheVariants as k
use Rattle.pb_syntax.specs.declared.tree.expression.Level.{Level}
use Rattle.pb_syntax.specs.declared.tree.expression.Level.TheVariants as level
use Rattle.pb_syntax.specs.declared.tree.expression.Operator.{Operator}
use Rattle.pb_syntax.specs.declared.tree.expression.Relation.{Relation}
use Rattle.pb_syntax.specs.declared.tree.expression.UnarySign.TheVariants as sign
use Rattle.pb_syntax.specs.declared.tree.form.TermText.{TermText}
use Rattle.pb_syntax.specs.declared.tree.view.ViewText.{ViewText}
use Rattle.pb_syntax.specs.declared.tree.view.ViewText.TheVariants as view
use Rattle.pb_syntax.specs.declared.tree.view.UseText.{UseText}
use Rattle.pb_syntax.specs.declared.tree.view.CondText.{CondText}
use Rattle.pb_syntax.specs.declared.tree.view.MarkText.{MarkText}
use Rattle.pb_syntax.specs.declared.tree.view.MarkText.TheVariants as mark
use Rattle.pb_syntax.specs.Kinds.{kind_of, Is, name_in, number_in}
use Rattle.pb_syntax.specs.Operators.{operator_of, relation_of, condition_relation}
use Rattle.pb_syntax.specs.Forms.{FormValue, DeclValue}
use Rattle.pb_syntax.specs.Exprs.{ExprTree, number, name, call, parentheses, cell, width, height, signed, chained, compare, exprs}
use Rattle.pb_syntax.specs.Stmts.{StmtTree, let_number, let_matrix, assign, call_stmt, assign_cell, if_stmt, if_else, for_stmt, stmts}
use Rattle.pb_syntax.specs.Trees.{RuleTree, TransformTree}

-- a name that is spelled just so
abbrev pub IsWord : List ℕ → Token → Type 0
IsWord w t = Is k.Name t × ((name_in t).bytes ≡ w)

-- { "," item }
pub data Commas {A : Type 0} (Item : A → List Token → List Token → Type 0) : List A → List Token → List Token → Type 0 where
  no_comma : {rest : List Token} → Commas Item [] rest rest
  a_comma : {x : A} {xs : List A} {t : Token} {all mid rest : List Token}
      → Is k.Comma t → Item x all mid → Commas Item xs mid rest → Commas Item (x ∷ xs) (t ∷ all) rest

-- NAME
pub data IsName : NameValue → List Token → List Token → Type 0 where
  a_name : {t : Token} {rest : List Token} → Is k.Name t → IsName (name_in t) (t ∷ rest) rest

-- minimum = NAME ">=" NUMBER
pub data IsMinimum : (NameValue × ℕ) → List Token → List Token → Type 0 where
  a_minimum : {n g v : Token} {rest : List Token} → Is k.Name n → Is k.GreaterOrEqual g → Is k.Number v
      → IsMinimum (name_in n, number_in v) (n ∷ g ∷ v ∷ rest) rest

-- [ "where" minimum { "," minimum } ]
pub data IsMinimums : List (NameValue × ℕ) → List Token → List Token → Type 0 where
  no_minimums : {rest : List Token} → IsMinimums [] rest rest
  some_minimums : {x : NameValue × ℕ} {xs : List (NameValue × ℕ)} {w : Token} {all mid rest : List Token}
      → Is k.Where w → IsMinimum x all mid → Commas IsMinimum xs mid rest → IsMinimums (x ∷ xs) (w ∷ all) rest

-- term = NUMBER | NAME | NUMBER "*" NAME | NAME "/" K; a factor 1 isn't kept. Whether `-` stands before it, if it isn't
-- the first, is the argument `m`
pub data IsTerm : Bool → TermText → List Token → List Token → Type 0 where
  number_term : {m : Bool} {t : Token} {rest : List Token} → Is k.Number t
      → IsTerm m (record { minus = m; factor = number_in t; name = None; quotient = 0 }) (t ∷ rest) rest
  name_term : {m : Bool} {t : Token} {rest : List Token} → Is k.Name t
      → IsTerm m (record { minus = m; factor = 1; name = Some (name_in t); quotient = 0 }) (t ∷ rest) rest
  multiple : {m : Bool} {t s n : Token} {rest : List Token} → Is k.Number t → Is k.Times s → Is k.Name n
      → IsTerm m (record { minus = m; factor = number_in t; name = Some (name_in n); quotient = 0 }) (t ∷ s ∷ n ∷ rest) rest
  fraction : {m : Bool} {n s q : Token} {rest : List Token} → Is k.Name n → Is k.Over s → Is k.Number q
      → 2 ≤ number_in q → number_in q ≤ 4
      → IsTerm m (record { minus = m; factor = 1; name = Some (name_in n); quotient = number_in q }) (n ∷ s ∷ q ∷ rest) rest

-- { ( "+" | "-" ) term }
pub data IsTerms : List TermText → List Token → List Token → Type 0 where
  no_terms : {rest : List Token} → IsTerms [] rest rest
  plus : {x : TermText} {xs : List TermText} {t : Token} {all mid rest : List Token}
      → Is k.Plus t → IsTerm false x all mid → IsTerms xs mid rest → IsTerms (x ∷ xs) (t ∷ all) rest
  minus : {x : TermText} {xs : List TermText} {t : Token} {all mid rest : List Token}
      → Is k.Minus t → IsTerm true x all mid → IsTerms xs mid rest → IsTerms (x ∷ xs) (t ∷ all) rest

-- form = [ "-" ] term { ( "+" | "-" ) term }
pub data IsForm : FormValue → List Token → List Token → Type 0 where
  plain_form : {x : TermText} {xs : List TermText} {all mid rest : List Token}
      → IsTerm false x all mid → IsTerms xs mid rest → IsForm (record { minus = false; terms = x ∷ xs }) all rest
  minus_form : {x : TermText} {xs : List TermText} {t : Token} {all mid rest : List Token}
      → Is k.Minus t → IsTerm false x all mid → IsTerms xs mid rest → IsForm (record { minus = true; terms = x ∷ xs }) (t ∷ all) rest

-- form [ "," form ] "]", after its "["
pub data IsDims : List FormValue → List Token → List Token → Type 0 where
  one_dim : {x : FormValue} {c : Token} {all rest : List Token} → IsForm x all (c ∷ rest) → Is k.CloseBracket c → IsDims (x ∷ []) all rest
  two_dims : {x y : FormValue} {m c : Token} {all mid rest : List Token} → IsForm x all (m ∷ mid) → Is k.Comma m
      → IsForm y mid (c ∷ rest) → Is k.CloseBracket c → IsDims (x ∷ y ∷ []) all rest

-- decl = NAME "[" form [ "," form ] "]"
pub data IsDecl : DeclValue → List Token → List Token → Type 0 where
  a_decl : {ds : List FormValue} {n b : Token} {all rest : List Token} → Is k.Name n → Is k.OpenBracket b → IsDims ds all rest
      → IsDecl (record { name = name_in n; dims = ds }) (n ∷ b ∷ all) rest

-- decls = decl { "," decl }
pub data IsDecls : List DeclValue → List Token → List Token → Type 0 where
  some_decls : {d : DeclValue} {ds : List DeclValue} {all mid rest : List Token}
      → IsDecl d all mid → Commas IsDecl ds mid rest → IsDecls (d ∷ ds) all rest

-- [ "through" decls ]
pub data IsThrough : List DeclValue → List Token → List Token → Type 0 where
  no_through : {rest : List Token} → IsThrough [] rest rest
  some_through : {ds : List DeclValue} {t : Token} {all rest : List Token} → Is k.Through t → IsDecls ds all rest → IsThrough ds (t ∷ all) rest

-- view = "cell" "(" form [ "," form ] ")" | "row" "(" form ")" | "column" "(" form ")"
--      | "region" "(" form "," form [ "," form "," form ] ")", after a ".", or nothing at all
pub data IsView : ViewText → List Token → List Token → Type 0 where
  whole : {rest : List Token} → IsView view.Whole rest rest
  cell_x : {x : FormValue} {d w o c : Token} {all rest : List Token} → Is k.Dot d → IsWord (codes "cell") w → Is k.Open o
      → IsForm x all (c ∷ rest) → Is k.Close c → IsView (view.Cell x None) (d ∷ w ∷ o ∷ all) rest
  cell_xy : {x y : FormValue} {d w o m c : Token} {all mid rest : List Token} → Is k.Dot d → IsWord (codes "cell") w → Is k.Open o
      → IsForm x all (m ∷ mid) → Is k.Comma m → IsForm y mid (c ∷ rest) → Is k.Close c
      → IsView (view.Cell x (Some y)) (d ∷ w ∷ o ∷ all) rest
  row : {y : FormValue} {d w o c : Token} {all rest : List Token} → Is k.Dot d → IsWord (codes "row") w → Is k.Open o
      → IsForm y all (c ∷ rest) → Is k.Close c → IsView (view.Row y) (d ∷ w ∷ o ∷ all) rest
  column : {x : FormValue} {d w o c : Token} {all rest : List Token} → Is k.Dot d → IsWord (codes "column") w → Is k.Open o
      → IsForm x all (c ∷ rest) → Is k.Close c → IsView (view.Column x) (d ∷ w ∷ o ∷ all) rest
  region_2 : {a b : FormValue} {d w o m c : Token} {all mid rest : List Token} → Is k.Dot d → IsWord (codes "region") w → Is k.Open o
      → IsForm a all (m ∷ mid) → Is k.Comma m → IsForm b mid (c ∷ rest) → Is k.Close c
      → IsView (view.Between a b) (d ∷ w ∷ o ∷ all) rest
  region_4 : {a b e f : FormValue} {d w o m p q c : Token} {all mid₁ mid₂ mid₃ rest : List Token} → Is k.Dot d → IsWord (codes "region") w → Is k.Open o
      → IsForm a all (m ∷ mid₁) → Is k.Comma m → IsForm b mid₁ (p ∷ mid₂) → Is k.Comma p
      → IsForm e mid₂ (q ∷ mid₃) → Is k.Comma q → IsForm f mid₃ (c ∷ rest) → Is k.Close c
      → IsView (view.Region a b e f) (d ∷ w ∷ o ∷ all) rest

-- use = NAME [ "." view ] NAME
pub data IsUse : UseText → List Token → List Token → Type 0 where
  a_use : {v : ViewText} {m b : Token} {all rest : List Token} → Is k.Name m → IsView v all (b ∷ rest) → Is k.Name b
      → IsUse (record { matrix = name_in m; view = v; bound = name_in b }) (m ∷ all) rest

-- [ use { "," use } ]
pub data IsReads : List UseText → List Token → List Token → Type 0 where
  no_reads : {rest : List Token} → IsReads [] rest rest
  some_reads : {u : UseText} {us : List UseText} {all mid rest : List Token}
      → IsUse u all mid → Commas IsUse us mid rest → IsReads (u ∷ us) all rest

-- cond = form ( "<" | "<=" | ">" | ">=" | "==" ) form
pub data IsCond : CondText → List Token → List Token → Type 0 where
  a_cond : {a b : FormValue} {t : Token} {all mid rest : List Token} {r : Relation}
      → IsForm a all (t ∷ mid) → condition_relation (kind_of t) ≡ Some r → IsForm b mid rest
      → IsCond (record { left = a; relation = r; right = b }) all rest

-- [ "where" cond { "," cond } ]
pub data IsConds : List CondText → List Token → List Token → Type 0 where
  no_conds : {rest : List Token} → IsConds [] rest rest
  some_conds : {c : CondText} {cs : List CondText} {w : Token} {all mid rest : List Token}
      → Is k.Where w → IsCond c all mid → Commas IsCond cs mid rest → IsConds (c ∷ cs) (w ∷ all) rest

-- mark = "primary" | "secondary" | "priority" "(" NUMBER ")", or nothing at all
pub data IsMark : MarkText → List Token → List Token → Type 0 where
  unmarked : {rest : List Token} → IsMark mark.Unmarked rest rest
  primary : {t : Token} {rest : List Token} → Is k.Primary t → IsMark mark.Primary (t ∷ rest) rest
  secondary : {t : Token} {rest : List Token} → Is k.Secondary t → IsMark mark.Secondary (t ∷ rest) rest
  priority : {t o n c : Token} {rest : List Token} → Is k.Priority t → Is k.Open o → Is k.Number n → Is k.Close c
      → IsMark (mark.Priority (number_in n)) (t ∷ o ∷ n ∷ c ∷ rest) rest

mutual
  -- expr = conj { "||" conj }; conj = comp { "&&" comp }; sum = prod { ( "+" | "-" ) prod };
  -- prod = unary { ( "*" | "/" | "%" ) unary }
  pub data IsLine : Level → ExprTree → List Token → List Token → Type 0 where
    a_line : {l : Level} {x : ExprTree} {xs : List (Operator × ExprTree)} {all mid rest : List Token}
        → IsOperand l x all mid → IsOperands l xs mid rest → IsLine l (chained l x xs) all rest

  -- { operator operand }
  pub data IsOperands : Level → List (Operator × ExprTree) → List Token → List Token → Type 0 where
    no_operand : {l : Level} {rest : List Token} → IsOperands l [] rest rest
    an_operand : {l : Level} {o : Operator} {x : ExprTree} {xs : List (Operator × ExprTree)} {t : Token} {all mid rest : List Token}
        → operator_of l (kind_of t) ≡ Some o → IsOperand l x all mid → IsOperands l xs mid rest
        → IsOperands l ((o, x) ∷ xs) (t ∷ all) rest

  pub data IsOperand : Level → ExprTree → List Token → List Token → Type 0 where
    a_conj : {x : ExprTree} {all rest : List Token} → IsLine level.Conjunction x all rest → IsOperand level.Disjunction x all rest
    a_comp : {x : ExprTree} {all rest : List Token} → IsComp x all rest → IsOperand level.Conjunction x all rest
    a_prod : {x : ExprTree} {all rest : List Token} → IsLine level.Product x all rest → IsOperand level.Sum x all rest
    a_unary : {x : ExprTree} {all rest : List Token} → IsUnary x all rest → IsOperand level.Product x all rest

  -- comp = sum [ ( "<" | "<=" | ">" | ">=" | "==" | "!=" ) sum ]
  pub data IsComp : ExprTree → List Token → List Token → Type 0 where
    a_sum : {x : ExprTree} {all rest : List Token} → IsLine level.Sum x all rest → IsComp x all rest
    two_sums : {x y : ExprTree} {t : Token} {all mid rest : List Token} {r : Relation}
        → IsLine level.Sum x all (t ∷ mid) → relation_of (kind_of t) ≡ Some r → IsLine level.Sum y mid rest
        → IsComp (compare x r y) all rest

  -- unary = [ "-" | "!" ] prim
  pub data IsUnary : ExprTree → List Token → List Token → Type 0 where
    unsigned : {x : ExprTree} {all rest : List Token} → IsPrim x all rest → IsUnary x all rest
    minus_prim : {x : ExprTree} {t : Token} {all rest : List Token} → Is k.Minus t → IsPrim x all rest → IsUnary (signed t.at sign.Minus x) (t ∷ all) rest
    not_prim : {x : ExprTree} {t : Token} {all rest : List Token} → Is k.Not t → IsPrim x all rest → IsUnary (signed t.at sign.Not x) (t ∷ all) rest

  -- prim = NUMBER | NAME | NAME "(" [ expr { "," expr } ] ")" | "(" expr ")" | NAME "." "cell" "(" expr [ "," expr ] ")"
  --      | NAME "." "width" "(" ")" | NAME "." "height" "(" ")"
  pub data IsPrim : ExprTree → List Token → List Token → Type 0 where
    a_number : {t : Token} {rest : List Token} → Is k.Number t → IsPrim (number t.at (number_in t)) (t ∷ rest) rest
    the_name : {t : Token} {rest : List Token} → Is k.Name t → IsPrim (name (name_in t)) (t ∷ rest) rest
    call_of_none : {n o c : Token} {rest : List Token} → Is k.Name n → Is k.Open o → Is k.Close c
        → IsPrim (call (name_in n) (exprs [])) (n ∷ o ∷ c ∷ rest) rest
    call_of : {xs : List ExprTree} {n o : Token} {all rest : List Token} → Is k.Name n → Is k.Open o → IsArguments xs all rest
        → IsPrim (call (name_in n) (exprs xs)) (n ∷ o ∷ all) rest
    in_parentheses : {x : ExprTree} {o c : Token} {all rest : List Token} → Is k.Open o → IsLine level.Disjunction x all (c ∷ rest) → Is k.Close c
        → IsPrim (parentheses o.at x) (o ∷ all) rest
    cell_of : {xs : List ExprTree} {n d w o : Token} {all rest : List Token} → Is k.Name n → Is k.Dot d → IsWord (codes "cell") w → Is k.Open o
        → IsCoordinates xs all rest → IsPrim (cell (name_in n) (exprs xs)) (n ∷ d ∷ w ∷ o ∷ all) rest
    width_of : {n d w o c : Token} {rest : List Token} → Is k.Name n → Is k.Dot d → IsWord (codes "width") w → Is k.Open o → Is k.Close c
        → IsPrim (width (name_in n)) (n ∷ d ∷ w ∷ o ∷ c ∷ rest) rest
    height_of : {n d w o c : Token} {rest : List Token} → Is k.Name n → Is k.Dot d → IsWord (codes "height") w → Is k.Open o → Is k.Close c
        → IsPrim (height (name_in n)) (n ∷ d ∷ w ∷ o ∷ c ∷ rest) rest

  -- expr { "," expr } ")"
  pub data IsArguments : List ExprTree → List Token → List Token → Type 0 where
    last_argument : {x : ExprTree} {c : Token} {all rest : List Token} → IsLine level.Disjunction x all (c ∷ rest) → Is k.Close c
        → IsArguments (x ∷ []) all rest
    an_argument : {x : ExprTree} {xs : List ExprTree} {m : Token} {all mid rest : List Token} → IsLine level.Disjunction x all (m ∷ mid) → Is k.Comma m
        → IsArguments xs mid rest → IsArguments (x ∷ xs) all rest

  -- expr [ "," expr ] ")"
  pub data IsCoordinates : List ExprTree → List Token → List Token → Type 0 where
    one_coordinate : {x : ExprTree} {c : Token} {all rest : List Token} → IsLine level.Disjunction x all (c ∷ rest) → Is k.Close c
        → IsCoordinates (x ∷ []) all rest
    two_coordinates : {x y : ExprTree} {m c : Token} {all mid rest : List Token} → IsLine level.Disjunction x all (m ∷ mid) → Is k.Comma m
        → IsLine level.Disjunction y mid (c ∷ rest) → Is k.Close c → IsCoordinates (x ∷ y ∷ []) all rest

abbrev pub IsExpr : ExprTree → List Token → List Token → Type 0
IsExpr = IsLine level.Disjunction

mutual
  pub data IsStmt : StmtTree → List Token → List Token → Type 0 where
    -- "let" NAME "=" expr ";"
    let_a_number : {x : ExprTree} {t n e s : Token} {all rest : List Token} → Is k.Let t → Is k.Name n → Is k.Assign e
        → IsExpr x all (s ∷ rest) → Is k.Semicolon s → IsStmt (let_number t.at (name_in n) x) (t ∷ n ∷ e ∷ all) rest
    -- "let" NAME "[" form [ "," form ] "]" ";"
    let_a_matrix : {ds : List FormValue} {t n b s : Token} {all rest : List Token} → Is k.Let t → Is k.Name n → Is k.OpenBracket b
        → IsDims ds all (s ∷ rest) → Is k.Semicolon s → IsStmt (let_matrix t.at (name_in n) ds) (t ∷ n ∷ b ∷ all) rest
    -- NAME "=" expr ";"
    an_assignment : {x : ExprTree} {n e s : Token} {all rest : List Token} → Is k.Name n → Is k.Assign e
        → IsExpr x all (s ∷ rest) → Is k.Semicolon s → IsStmt (assign (name_in n) x) (n ∷ e ∷ all) rest
    -- NAME "," NAME { "," NAME } "=" NAME "(" expr { "," expr } ")" ";"
    a_call : {ns : List NameValue} {xs : List ExprTree} {n m p e f o s : Token} {all mid rest : List Token} → Is k.Name n → Is k.Comma m → Is k.Name p
        → Commas IsName ns all (e ∷ f ∷ o ∷ mid) → Is k.Assign e → Is k.Name f → Is k.Open o
        → IsArguments xs mid (s ∷ rest) → Is k.Semicolon s
        → IsStmt (call_stmt (name_in n ∷ name_in p ∷ ns) (name_in f) xs) (n ∷ m ∷ p ∷ all) rest
    -- NAME "." "cell" "(" expr [ "," expr ] ")" "=" expr ";"
    a_cell_assignment : {x : ExprTree} {xs : List ExprTree} {n d w o e s : Token} {all mid rest : List Token} → Is k.Name n → Is k.Dot d → IsWord (codes "cell") w
        → Is k.Open o → IsCoordinates xs all (e ∷ mid) → Is k.Assign e → IsExpr x mid (s ∷ rest) → Is k.Semicolon s
        → IsStmt (assign_cell (name_in n) xs x) (n ∷ d ∷ w ∷ o ∷ all) rest
    -- "if" "(" expr ")" block [ "else" block ]
    an_if : {x : ExprTree} {ss : List StmtTree} {t o c : Token} {all mid rest : List Token} → Is k.If t → Is k.Open o → IsExpr x all (c ∷ mid) → Is k.Close c
        → IsBlock ss mid rest → IsStmt (if_stmt t.at x (stmts ss)) (t ∷ o ∷ all) rest
    an_if_else : {x : ExprTree} {ss others : List StmtTree} {t o c l : Token} {all mid₁ mid₂ rest : List Token} → Is k.If t → Is k.Open o
        → IsExpr x all (c ∷ mid₁) → Is k.Close c → IsBlock ss mid₁ (l ∷ mid₂) → Is k.Else l → IsBlock others mid₂ rest
        → IsStmt (if_else t.at x (stmts ss) (stmts others)) (t ∷ o ∷ all) rest
    -- "for" "(" NAME "=" expr ".." expr ")" block
    a_for : {a b : ExprTree} {ss : List StmtTree} {t o n e d c : Token} {all mid₁ mid₂ rest : List Token} → Is k.For t → Is k.Open o → Is k.Name n → Is k.Assign e
        → IsExpr a all (d ∷ mid₁) → Is k.Dots d → IsExpr b mid₁ (c ∷ mid₂) → Is k.Close c → IsBlock ss mid₂ rest
        → IsStmt (for_stmt t.at (name_in n) a b (stmts ss)) (t ∷ o ∷ n ∷ e ∷ all) rest

  -- block = "{" { stmt } "}"
  pub data IsBlock : List StmtTree → List Token → List Token → Type 0 where
    a_block : {ss : List StmtTree} {o : Token} {all rest : List Token} → Is k.OpenBrace o → IsStmts ss all rest → IsBlock ss (o ∷ all) rest

  -- { stmt } "}"
  pub data IsStmts : List StmtTree → List Token → List Token → Type 0 where
    no_stmt : {c : Token} {rest : List Token} → Is k.CloseBrace c → IsStmts [] (c ∷ rest) rest
    one_stmt : {s : StmtTree} {ss : List StmtTree} {all mid rest : List Token} → IsStmt s all mid → IsStmts ss mid rest → IsStmts (s ∷ ss) all rest

-- rule = [ mark ] "to" "(" use { "," use } ")" "from" "(" [ use { "," use } ] ")" [ "where" cond { "," cond } ] "{" { stmt } "}"
pub data IsRule : RuleTree → List Token → List Token → Type 0 where
  a_rule : {m : MarkText} {u : UseText} {us rs : List UseText} {cs : List CondText} {ss : List StmtTree} {t o c f p q : Token}
      {all mid₁ mid₂ mid₃ mid₄ mid₅ rest : List Token}
      → IsMark m all (t ∷ o ∷ mid₁) → Is k.To t → Is k.Open o → IsUse u mid₁ mid₂ → Commas IsUse us mid₂ (c ∷ f ∷ p ∷ mid₃) → Is k.Close c
      → Is k.From f → Is k.Open p → IsReads rs mid₃ (q ∷ mid₄) → Is k.Close q → IsConds cs mid₄ mid₅ → IsBlock ss mid₅ rest
      → IsRule (record { mark = m; outs = u ∷ us; reads = rs; conds = cs; body = ss }) all rest

-- { rule }
pub data IsRules : List RuleTree → List Token → List Token → Type 0 where
  no_rules : {rest : List Token} → IsRules [] rest rest
  one_rule : {r : RuleTree} {rs : List RuleTree} {all mid rest : List Token} → IsRule r all mid → IsRules rs mid rest → IsRules (r ∷ rs) all rest

-- transform = "transform" NAME [ "where" minimum { "," minimum } ] "from" decls [ "through" decls ] "to" decls "{" rule { rule } "}"
pub data IsTransform : TransformTree → List Token → List Token → Type 0 where
  a_transform : {ms : List (NameValue × ℕ)} {from kept to : List DeclValue} {r : RuleTree} {rs : List RuleTree} {t n f o b c : Token}
      {all mid₁ mid₂ mid₃ mid₄ mid₅ rest : List Token}
      → Is k.Transform t → Is k.Name n → IsMinimums ms all (f ∷ mid₁) → Is k.From f → IsDecls from mid₁ mid₂ → IsThrough kept mid₂ (o ∷ mid₃)
      → Is k.To o → IsDecls to mid₃ (b ∷ mid₄) → Is k.OpenBrace b → IsRule r mid₄ mid₅ → IsRules rs mid₅ (c ∷ rest) → Is k.CloseBrace c
      → IsTransform (record { name = name_in n; minimums = ms; from = from; through = kept; to = to; rules = r ∷ rs }) (t ∷ n ∷ all) rest

-- { transform }
pub data IsTransforms : List TransformTree → List Token → List Token → Type 0 where
  no_transforms : {rest : List Token} → IsTransforms [] rest rest
  one_transform : {x : TransformTree} {xs : List TransformTree} {all mid rest : List Token}
      → IsTransform x all mid → IsTransforms xs mid rest → IsTransforms (x ∷ xs) all rest

-- program = transform { transform }: these tokens, and no others, spell this tree
pub data IsProgram : List TransformTree → List Token → Type 0 where
  a_program : {x : TransformTree} {xs : List TransformTree} {all mid : List Token} → IsTransform x all mid → IsTransforms xs mid [] → IsProgram (x ∷ xs) all
