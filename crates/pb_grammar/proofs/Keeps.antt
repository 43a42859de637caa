-- A token that is taken before what is then spelled spells what was wanted.
use Rattle.std.proofs.Common.{◌≡◌, ℕ, ◌+◌, Bool, true, false, inl, inr, List, [], ◌∷◌, ◌++◌, length, refl, sym, ◌∙◌, ap, subst, append_assoc}
use Rattle.pb_values.specs.Name.{NameValue}
use Rattle.pb_syntax.specs.declared.token.Token.{Token}
use Rattle.pb_syntax.specs.declared.kind.TokenKind.{TokenKind}
use Rattle.pb_syntax.specs.declared.kind.TokenKind.TheVariants as k
use Rattle.pb_syntax.specs.declared.tree.expression.Level.{Level}
use Rattle.pb_syntax.specs.declared.tree.expression.Level.TheVariants as level
use Rattle.pb_syntax.specs.declared.tree.view.UseText.{UseText}
use Rattle.pb_syntax.specs.declared.tree.view.CondText.{CondText}
use Rattle.pb_syntax.specs.declared.tree.view.MarkText.{MarkText}
use Rattle.pb_syntax.specs.Kinds.{Is, name_in, number_in, same_kind}
use Rattle.pb_syntax.specs.Limits.{SizeNames, counted}
use Rattle.pb_syntax.specs.Forms.{FormValue, DeclValue}
use Rattle.pb_syntax.specs.Exprs.{ExprTree, chained}
use Rattle.pb_syntax.specs.Stmts.{StmtTree}
use Rattle.pb_syntax.specs.Trees.{RuleTree, TransformTree}
use Rattle.pb_syntax.specs.Grammar.{Commas, IsMinimum, a_minimum, IsMinimums, IsForm, IsDims, IsDecl, a_decl, IsDecls, some_decls, IsThrough, IsView, IsUse, a_use, IsReads, IsCond, a_cond, IsConds, IsMark, IsLine, a_line, IsOperand, a_conj, a_comp, a_prod, a_unary, IsComp, IsExpr, IsArguments, IsCoordinates, IsBlock, a_block, IsRule, a_rule, IsRules, IsTransform, a_transform, IsProgram, a_program}
use denote.Enum.Bare.{same_true}
use Rattle.pb_syntax.specs.contracts.kind.TokenKind.{the_type}
use Rattle.pb_grammar.specs.Want as w
use Rattle.pb_grammar.specs.Want.{Want, a_sign, bracket, token, block, after_mark, expression, conjunction, compared, total, product}
use Rattle.pb_grammar.proofs.Spelled.{put, Fits, Then, Past, ThenPast, Spelled}

pub one_kind : (a b : TokenKind) → same_kind a b ≡ true → b ≡ a
one_kind a b e = sym (same_true the_type tt a b e)

-- something that is spelled, the token of a kind after it, and what comes then
pub record Closed {A : Type 0} (is : A → List Token → List Token → Type 0) (kind : TokenKind) (further : A → Token → List Token → Type 0) (ts : List Token) : Type 0 where
  pub x : A
  pub end : Token
  pub rest : List Token
  pub part : is x ts (end ∷ rest)
  pub close : Is kind end
  pub then_on : further x end rest

-- a kind that tokens have
abbrev pub Real : TokenKind → Type 0
Real k.End = ⊥
Real _ = Unit {0}

pub kind_fits : {kind : TokenKind} (t : Token) → Real kind → Fits kind t → Is kind t
kind_fits t n (inl is) = is
kind_fits t n (inr e) = absurd (subst Real e n)

pub shut : {A : Type 0} {kind : TokenKind} {K : A → List Token → Type 0} (is : A → List Token → List Token → Type 0) (ts : List Token)
    → ThenPast is kind K ts → Closed is kind (λ x t. K x) ts
shut {kind = kind} {K = K} is ts s = go s.rest s.part s.more
  where
    go : (rest : List Token) → is s.value ts rest → Past kind (K s.value) rest → Closed is kind (λ x t. K x) ts
    go [] i h = absurd h
    go (t ∷ rest) i h = record { x = s.value; end = t; rest = rest; part = i; close = h.0; then_on = h.1 }

module _ (tree : List TransformTree) where
  pub closed : {A : Type 0} {kind : TokenKind} (is : A → List Token → List Token → Type 0) (ts : List Token) (n : Real kind) (g : A → Token → Want)
      → Then is (λ x rest. Spelled (token kind (g x)) rest tree) ts → Closed is kind (λ x t rest. Spelled (g x t) rest tree) ts
  closed {kind = kind} is ts n g s = go s.rest s.part s.more
    where
      go : (rest : List Token) → is s.value ts rest → Spelled (token kind (g s.value)) rest tree → Closed is kind (λ x t rest. Spelled (g x t) rest tree) ts
      go [] i h = absurd h
      go (t ∷ rest) i h = record { x = s.value; end = t; rest = rest; part = i; close = kind_fits t n h.0; then_on = h.1 }

  -- a token that is wanted, and what is spelled after it
  pub record First (kind : TokenKind) (g : Token → Want) (ts : List Token) : Type 0 where
    pub first : Token
    pub others : List Token
    pub all : ts ≡ first ∷ others
    pub fits : Is kind first
    pub after : Spelled (g first) others tree

  pub first_of : {kind : TokenKind} {ts : List Token} (n : Real kind) (g : Token → Want) → Spelled (token kind g) ts tree → First kind g ts
  first_of {ts = []} n g s = absurd s
  first_of {ts = t ∷ ts} n g s = record { first = t; others = ts; all = refl; fits = kind_fits t n s.0; after = s.1 }

  pub spelled_use : (f : UseText → Want) (ts : List Token) → Spelled (w.use_line f) ts tree → Then IsUse (λ u rest. Spelled (f u) rest tree) ts
  spelled_use f [] s = absurd s
  spelled_use f (m ∷ ts) s =
      let c = closed IsView ts tt (λ v b. f (record { matrix = name_in m; view = v; bound = name_in b })) s.1 in
      (put (record { matrix = name_in m; view = c.x; bound = name_in c.end }) c.rest (a_use {b = c.end} (kind_fits m tt s.0) c.part c.close) c.then_on)

  pub spelled_minimum : (f : NameValue × ℕ → Want) (ts : List Token) → Spelled (w.minimum_line f) ts tree → Then IsMinimum (λ x rest. Spelled (f x) rest tree) ts
  spelled_minimum f [] s = absurd s
  spelled_minimum f (n ∷ []) s = absurd s.1
  spelled_minimum f (n ∷ g ∷ []) s = absurd s.1.1
  spelled_minimum f (n ∷ g ∷ v ∷ ts) s =
      (put (name_in n, number_in v) ts (a_minimum (kind_fits n tt s.0) (kind_fits g tt s.1.0) s.1.1.0) s.1.1.1)

  pub spelled_dims : (known : SizeNames) (f : List FormValue → Want) (ts : List Token) → Spelled (w.form (λ e. w.after_dim known e f)) ts tree
      → Then IsDims (λ ds rest. Spelled (f ds) rest tree) ts
  spelled_dims known f ts s = let d = s.more in (put d.value d.rest (d.part ts s.part) d.more)

  pub spelled_decl : (known : SizeNames) (f : DeclValue → Want) (ts : List Token) → Spelled (w.decl_line known f) ts tree → Then IsDecl (λ d rest. Spelled (f d) rest tree) ts
  spelled_decl known f [] s = absurd s
  spelled_decl known f (n ∷ []) s = absurd s.1
  spelled_decl known f (n ∷ b ∷ ts) s =
      let d = spelled_dims known (λ ds. f (record { name = name_in n; dims = ds })) ts s.1.1 in
      (put (record { name = name_in n; dims = d.value }) d.rest (a_decl (kind_fits n tt s.0) (kind_fits b tt s.1.0) d.part) d.more)

  pub spelled_decls : (n : ℕ) (from : Bool) (f : List DeclValue → Want) (ts : List Token) → Spelled (w.decls n from f) ts tree → Then IsDecls (λ ds rest. Spelled (f ds) rest tree) ts
  spelled_decls n from f ts s =
      let d = spelled_decl (counted from []) (λ d. w.more_decls n from (d ∷ []) f) ts s in
      let ds = d.more in
      (put (d.value ∷ ds.value) ds.rest (some_decls d.part ds.part) ds.more)

  pub spelled_condition : (f : CondText → Want) (ts : List Token) → Spelled (w.condition_line f) ts tree → Then IsCond (λ c rest. Spelled (f c) rest tree) ts
  spelled_condition f ts s = go s.rest s.part s.more
    where
      a : FormValue
      a = s.value

      go : (rest : List Token) → IsForm a ts rest → Spelled (w.relation (λ r. w.form (λ b. f (record { left = a; relation = r; right = b })))) rest tree
          → Then IsCond (λ c rest. Spelled (f c) rest tree) ts
      go [] i h = absurd h
      go (t ∷ mid) i h = let b = h.1.1 in
          (put (record { left = a; relation = h.0; right = b.value }) b.rest (a_cond i h.1.0 b.part) b.more)

  -- after a first factor
  line_on : (p : Level) (d : ℕ) (f : ExprTree → Want) {x : ExprTree} {all mid : List Token} → IsOperand p x all mid → Spelled (w.more_operands p d x [] f) mid tree
      → Then (IsLine p) (λ y rest. Spelled (f y) rest tree) all
  line_on p d f {x = x} i s = put (chained p x s.value) s.rest (a_line i s.part) s.more

  pub spelled_product : (d : ℕ) (f : ExprTree → Want) (ts : List Token) → Spelled (w.product d f) ts tree → Then (IsLine level.Product) (λ y rest. Spelled (f y) rest tree) ts
  unfolding product
  spelled_product d f ts s = line_on level.Product d f (a_unary s.part) s.more

  pub spelled_total : (d : ℕ) (f : ExprTree → Want) (ts : List Token) → Spelled (w.total d f) ts tree → Then (IsLine level.Sum) (λ y rest. Spelled (f y) rest tree) ts
  unfolding total product
  spelled_total d f ts s = let x = spelled_product d (λ e. w.more_operands level.Sum d e [] f) ts s in line_on level.Sum d f (a_prod x.part) x.more

  pub spelled_compared : (d : ℕ) (f : ExprTree → Want) (ts : List Token) → Spelled (w.compared d f) ts tree → Then IsComp (λ y rest. Spelled (f y) rest tree) ts
  unfolding compared
  spelled_compared d f ts s =
      let x = spelled_total d (λ e. w.comparison d e f) ts s in
      let c = x.more in
      (put c.value c.rest (c.part ts x.part) c.more)

  pub spelled_conjunction : (d : ℕ) (f : ExprTree → Want) (ts : List Token) → Spelled (w.conjunction d f) ts tree
      → Then (IsLine level.Conjunction) (λ y rest. Spelled (f y) rest tree) ts
  unfolding conjunction
  spelled_conjunction d f ts s =
      let x = spelled_compared d (λ e. w.more_operands level.Conjunction d e [] f) ts s in line_on level.Conjunction d f (a_comp x.part) x.more

  pub spelled_expression : (d : ℕ) (f : ExprTree → Want) (ts : List Token) → Spelled (w.expression d f) ts tree → Then IsExpr (λ y rest. Spelled (f y) rest tree) ts
  unfolding expression
  spelled_expression d f ts s =
      let x = spelled_conjunction d (λ e. w.more_operands level.Disjunction d e [] f) ts s in line_on level.Disjunction d f (a_conj x.part) x.more

  pub spelled_operand : (p : Level) (d : ℕ) (f : ExprTree → Want) (ts : List Token) → Spelled (w.operand p d f) ts tree → Then (IsOperand p) (λ y rest. Spelled (f y) rest tree) ts
  spelled_operand level.Product d f ts s = put s.value s.rest (a_unary s.part) s.more
  spelled_operand level.Sum d f ts s = let x = spelled_product d f ts s in (put x.value x.rest (a_prod x.part) x.more)
  spelled_operand level.Conjunction d f ts s = let x = spelled_compared d f ts s in (put x.value x.rest (a_comp x.part) x.more)
  spelled_operand level.Disjunction d f ts s = let x = spelled_conjunction d f ts s in (put x.value x.rest (a_conj x.part) x.more)

  pub spelled_coordinates : (d : ℕ) (f : List ExprTree → Want) (ts : List Token) → Spelled (w.expression d (λ x. w.after_coordinate d x f)) ts tree
      → Then IsCoordinates (λ xs rest. Spelled (f xs) rest tree) ts
  spelled_coordinates d f ts s =
      let x = spelled_expression d (λ x. w.after_coordinate d x f) ts s in
      let c = x.more in
      (put c.value c.rest (c.part ts x.part) c.more)

  pub spelled_arguments : (d : ℕ) (found : List ExprTree) (f : List ExprTree → Want) (ts : List Token) → Spelled (w.expression d (λ e. w.more_arguments d (found ++ e ∷ []) f)) ts tree
      → Then IsArguments (λ xs rest. Spelled (f (found ++ xs)) rest tree) ts
  spelled_arguments d found f ts s =
      let x = spelled_expression d (λ e. w.more_arguments d (found ++ e ∷ []) f) ts s in
      let a = x.more in
      (put (x.value ∷ a.value) a.rest (a.part x.value ts x.part) (subst (λ (b : List ExprTree). Spelled (f b) a.rest tree) (append_assoc found (x.value ∷ []) a.value) a.more))

  pub spelled_block : (d n : ℕ) (f : List StmtTree → ℕ → Want) (ts : List Token) → Spelled (block d n f) ts tree
      → Then IsBlock (λ ss rest. (m : ℕ) × Spelled (f ss m) rest tree) ts
  unfolding block
  spelled_block d n f [] s = absurd s
  spelled_block d n f (o ∷ ts) s = let b = s.1 in (put b.value b.rest (a_block (kind_fits o tt s.0) b.part) b.more)

  pub spelled_after_mark : (m : MarkText) (f : RuleTree → Want) (ts : List Token) → Spelled (w.after_mark m f) ts tree
      → Then (λ r ts rest. ((all : List Token) (t : Token) → IsMark m all (t ∷ ts) → Is k.To t → IsRule r all rest)) (λ r rest. Spelled (f r) rest tree) ts
  unfolding after_mark
  spelled_after_mark m f [] s = absurd s
  spelled_after_mark m f (o ∷ ts) s =
      let u = spelled_use (w.with_out m f) ts s.1 in
      let us = shut {K = λ x rest. Spelled (w.with_outs m f (u.value ∷ x)) rest tree} (Commas IsUse) u.rest u.more in
      let from = first_of tt (λ t. a_sign k.Open (w.reads (w.with_reads m f (u.value ∷ us.x)))) us.then_on in
      let open₂ = first_of tt (λ t. w.reads (w.with_reads m f (u.value ∷ us.x))) from.after in
      let rs = shut {K = λ x rest. Spelled (w.with_reads m f (u.value ∷ us.x) x) rest tree} IsReads open₂.others open₂.after in
      let cs = shut {K = λ x rest. Spelled (w.with_conditions m f (u.value ∷ us.x) rs.x x) rest tree} IsConds rs.rest rs.then_on in
      let ss = cs.then_on in
      let both = subst (λ (r : List Token). Commas IsUse us.x u.rest (us.end ∷ r)) (from.all ∙ ap (λ (r : List Token). from.first ∷ r) open₂.all) us.part in (put (record { mark = m; outs = u.value ∷ us.x; reads = rs.x; conds = cs.x; body = ss.value }) ss.rest (λ all t i is. a_rule i is (kind_fits o tt s.0) u.part both us.close from.fits open₂.fits rs.part rs.close cs.part (a_block cs.close ss.part)) ss.more.1)

  pub spelled_after_transform : (f : TransformTree → Want) (ts : List Token) → Spelled (w.after_transform f) ts tree
      → Then (λ x ts rest. ((t : Token) → Is k.Transform t → IsTransform x (t ∷ ts) rest)) (λ x rest. Spelled (f x) rest tree) ts
  spelled_after_transform f [] s = absurd s
  spelled_after_transform f (n ∷ ts) s =
      let z = name_in n in
      let ms = shut {K = λ x rest. Spelled (w.with_minimums z f x) rest tree} IsMinimums ts s.1 in
      let from = spelled_decls 0 true (w.with_from z ms.x f) ms.rest ms.then_on in
      let kept = shut {K = λ x rest. Spelled (w.with_kept z ms.x from.value f x) rest tree} IsThrough from.rest from.more in
      let to = closed IsDecls kept.rest tt (λ to t. w.rules (w.with_rules z ms.x from.value kept.x to f))
      (spelled_decls (length from.value + length kept.x) false (w.with_to z ms.x from.value kept.x f) kept.rest kept.then_on) in
      let r = to.then_on in
      let rs = shut {K = λ x rest. Spelled (f (record { name = z; minimums = ms.x; from = from.value; through = kept.x; to = to.x; rules = r.value ∷ x })) rest tree} IsRules r.rest r.more in (put (record { name = z; minimums = ms.x; from = from.value; through = kept.x; to = to.x; rules = r.value ∷ rs.x }) rs.rest (λ t i. a_transform i (kind_fits n tt s.0) ms.part ms.close from.part kept.part kept.close to.part to.close r.part rs.part rs.close) rs.then_on)

  pub spelled_program : (ts : List Token) → Spelled w.program ts tree → IsProgram tree ts
  spelled_program [] s = absurd s
  spelled_program (t ∷ ts) s =
      let x = spelled_after_transform (λ y. w.more_transforms (y ∷ [])) ts s.1 in
      let xs = x.more in
      subst (λ (a : List TransformTree). IsProgram a (t ∷ ts)) (sym xs.1.1) (a_program (x.part t (kind_fits t tt s.0)) xs.1.0)
