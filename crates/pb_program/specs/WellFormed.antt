-- What is true of each program that `resolve` answers.
use Rattle.std.specs.Prelude.{◌≡◌, ◌≢◌, ℕ, ◌+◌, ◌^◌, ◌≤◌, ◌<◌, ℤ, pos, unsigned_abs, Bool, false, IsTrue, nat_le, ◌==◌, if◌then◌else◌, List, [], ◌∷◌, length, drop, take, map, Option, Some, None, ◌⊎◌, slice_index, slice_get}
use Rattle.std.specs.List.{AllByRecursion, flat_map, list_all}
use Rattle.pb_linear.specs.Numbers.{Numbers, coefficient}
use Rattle.pb_linear.specs.declared.sizes.Ranges.{Ranges}
use Rattle.pb_linear.specs.declared.sizes.TheConstants.{SIZE_TOP}
use Rattle.pb_values.specs.Name.{NameValue}
use Rattle.pb_syntax.specs.declared.limits.TheConstants.{MOST_TRANSFORMS, MOST_RULES, MOST_MATRICES, MOST_SIZES, MOST_VIEWS, MOST_CONDITIONS, MOST_STATEMENTS, MOST_TERMS, MOST_NUMBER}
use Rattle.pb_syntax.specs.declared.tree.expression.Relation.TheVariants.{Unequal}
use Rattle.pb_syntax.specs.Limits.{is_known}
use Rattle.pb_syntax.specs.WithinLimits.{IsNamed, Counts}
use Rattle.pb_program.specs.declared.meaning.Meaning.{Meaning}
use Rattle.pb_program.specs.declared.meaning.Meaning.TheVariants as meaning
use Rattle.pb_program.specs.declared.meaning.Named.{Named}
use Rattle.pb_program.specs.declared.meaning.Callee.{Callee}
use Rattle.pb_program.specs.declared.meaning.Callee.TheVariants as callee
use Rattle.pb_program.specs.declared.plan.Slot.{Slot}
use Rattle.pb_program.specs.declared.plan.Slot.TheVariants as slot
use Rattle.pb_program.specs.declared.rule.RuleKind.{RuleKind}
use Rattle.pb_program.specs.declared.rule.RuleKind.TheVariants as kind
use Rattle.pb_program.specs.declared.statement.LocalTerm.{LocalTerm}
use Rattle.pb_program.specs.declared.view.Cond.{Cond}
use Rattle.pb_program.specs.declared.view.Read.{Read}
use Rattle.pb_program.specs.declared.view.ReadView.TheVariants as view
use Rattle.pb_program.specs.Forms.{CoordinateValue, DeclValue, LocalFormValue, constant_numbers}
use Rattle.pb_program.specs.Exprs.{ExprValue, ExprValues, OperandValues, no_exprs, an_expr, no_operands, an_operand}
use Rattle.pb_program.specs.Exprs as e
use Rattle.pb_program.specs.Stmts.{StmtValue, StmtValues, no_stmts, a_stmt}
use Rattle.pb_program.specs.Stmts as s
use Rattle.pb_program.specs.Plans.{PlanValue, PlanCallValue, calls_of, declared_dims}
use Rattle.pb_program.specs.Trees.{ProgRule, ProgTransform}

-- a number of a form: at most 2^23 in absolute value
abbrev pub is_small : ℤ → Bool
is_small z = nat_le (unsigned_abs z) (2 ^ 23)

-- small coefficients, none of them past the sizes
abbrev pub IsRow : ℕ → List ℤ → Type 0
IsRow sizes row = IsTrue (list_all is_small row) × AllByRecursion (λ z. z ≡ pos 0) (drop sizes row)

pub record IsForm (sizes : ℕ) (n : Numbers) : Type 0 where
  pub constant : IsTrue (is_small n.constant)
  pub whole : IsRow sizes n.whole
  pub half : IsRow sizes n.half
  pub third : IsRow sizes n.third
  pub quarter : IsRow sizes n.quarter

-- a coordinate where so many rule variables are there
pub record IsCoordinate (sizes variables : ℕ) (c : CoordinateValue) : Type 0 where
  pub x : IsTrue (is_small c.x)
  pub y : IsTrue (is_small c.y)
  pub none : variables ≡ 0 → c.x ≡ pos 0
  pub one : variables ≤ 1 → c.y ≡ pos 0
  pub rest : IsForm sizes c.rest

pub record IsDecl (sizes : ℕ) (d : DeclValue) : Type 0 where
  pub name : IsNamed d.name
  pub dims : Counts 1 2 d.dims
  pub w : IsForm sizes d.w
  pub h : IsForm sizes d.h
  pub flat : d.dims ≡ 1 → d.h ≡ constant_numbers (pos 1)

pub record IsView (sizes variables matrices : ℕ) (r : Read) : Type 0 where
  pub matrix : r.matrix < matrices
  pub dims : Counts 1 2 r.dims
  pub x0 : IsCoordinate sizes variables r.x0
  pub y0 : IsCoordinate sizes variables r.y0
  pub x1 : IsCoordinate sizes variables r.x1
  pub y1 : IsCoordinate sizes variables r.y1

pub record IsCondition (sizes variables : ℕ) (c : Cond) : Type 0 where
  pub left : IsCoordinate sizes variables c.left
  pub relation : c.relation ≢ Unequal
  pub right : IsCoordinate sizes variables c.right

abbrev pub just_x : CoordinateValue
just_x = record { x = pos 1; y = pos 0; rest = constant_numbers (pos 0); quotient = false }

abbrev pub just_y : CoordinateValue
just_y = record { x = pos 0; y = pos 1; rest = constant_numbers (pos 0); quotient = false }

-- an output whose coordinates are the rule variables, each once
pub record Binds (r : Read) : Type 0 where
  pub cell : r.view ≡ view.Cell
  pub x : r.x0 ≡ just_x
  pub y : r.dims ≡ 2 → r.y0 ≡ just_y

-- the coordinates have no rule variables
abbrev pub IsFree : Read → Type 0
IsFree r = (r.x0.x ≡ pos 0) × (r.x0.y ≡ pos 0) × (r.y0.x ≡ pos 0) × (r.y0.y ≡ pos 0)
    × (r.x1.x ≡ pos 0) × (r.x1.y ≡ pos 0) × (r.y1.x ≡ pos 0) × (r.y1.y ≡ pos 0)

-- an output is no matrix that is given, no row and no column, and binds rule variables only where it stands alone
pub record IsOutput (inputs outputs : ℕ) (r : Read) : Type 0 where
  pub made : inputs ≤ r.matrix
  pub no_row : r.view ≢ view.Row
  pub no_column : r.view ≢ view.Column
  pub variables : IsFree r ⊎ (Binds r × (outputs ≡ 1))

-- how many rule variables the outputs bind
abbrev pub by_output : ℤ → ℕ → ℕ
by_output (pos k) dims = if k == 1 then dims else 0
by_output _ dims = 0

abbrev pub variables : List Read → ℕ
variables (r ∷ []) = by_output r.x0.x r.dims
variables _ = 0

-- how many sizes, rule variables, outputs, reads and transforms a body may name
pub record Around : Type 0 where
  pub sizes : ℕ
  pub variables : ℕ
  pub outputs : ℕ
  pub reads : ℕ
  pub transforms : ℕ

module _ (a : Around) where
  -- what a name names is there, where so many locals are visible
  abbrev pub IsThere : ℕ → Meaning → Type 0
  IsThere locals (meaning.Size k) = k < a.sizes
  IsThere locals meaning.RuleX = 1 ≤ a.variables
  IsThere locals meaning.RuleY = 2 ≤ a.variables
  IsThere locals (meaning.Output k) = k < a.outputs
  IsThere locals (meaning.Read k) = k < a.reads
  IsThere locals (meaning.Number k) = k < locals
  IsThere locals (meaning.Matrix k) = k < locals

  abbrev pub IsCallee : Callee → Type 0
  IsCallee (callee.Function f) = Unit {0}
  IsCallee (callee.Transform t) = t < a.transforms

  abbrev mutual
    pub IsExpr : ℕ → ExprValue → Type 0
    IsExpr l (e.number at n) = Unit {0}
    IsExpr l (e.name n) = IsThere l n.what
    IsExpr l (e.call c xs) = IsCallee c.what × AreExprs l xs
    IsExpr l (e.parentheses at x) = IsExpr l x
    IsExpr l (e.cell v xs) = IsThere l v.what × AreExprs l xs
    IsExpr l (e.width v) = IsThere l v.what
    IsExpr l (e.height v) = IsThere l v.what
    IsExpr l (e.signed at sign x) = IsExpr l x
    IsExpr l (e.chain level x rest) = IsExpr l x × AreOperands l rest
    IsExpr l (e.compare x relation y) = IsExpr l x × IsExpr l y

    pub AreExprs : ℕ → ExprValues → Type 0
    AreExprs l no_exprs = Unit {0}
    AreExprs l (an_expr x rest) = IsExpr l x × AreExprs l rest

    pub AreOperands : ℕ → OperandValues → Type 0
    AreOperands l no_operands = Unit {0}
    AreOperands l (an_operand o x rest) = IsExpr l x × AreOperands l rest

  abbrev pub NameIsThere : ℕ → Option Named → Type 0
  NameIsThere l None = Unit {0}
  NameIsThere l (Some n) = IsThere l n.what

  -- a term of a dimension of a local, within the limits
  pub record IsTerm (l : ℕ) (t : LocalTerm) : Type 0 where
    pub factor : t.factor ≤ MOST_NUMBER
    pub quotient : (t.quotient ≡ 0) ⊎ Counts 2 4 t.quotient
    pub name : NameIsThere l t.name

  pub record IsDim (l : ℕ) (f : LocalFormValue) : Type 0 where
    pub few : Counts 1 MOST_TERMS (length f.terms)
    pub terms : AllByRecursion (IsTerm l) f.terms

  -- how many locals are visible after a statement
  abbrev pub after : ℕ → StmtValue → ℕ
  after l (s.let_number at n x) = l + 1
  after l (s.let_matrix at n dims) = l + 1
  after l _ = l

  abbrev mutual
    pub IsStmt : ℕ → StmtValue → Type 0
    IsStmt l (s.let_number at n x) = (n.what ≡ meaning.Number l) × IsExpr l x
    IsStmt l (s.let_matrix at n dims) = (n.what ≡ meaning.Matrix l) × Counts 1 2 (length dims) × AllByRecursion (IsDim l) dims
    IsStmt l (s.assign n x) = IsThere l n.what × IsExpr l x
    IsStmt l (s.call_stmt ns c xs) = AllByRecursion (λ n. IsThere l n.what) ns × IsCallee c.what × AllByRecursion (IsExpr l) xs
    IsStmt l (s.assign_cell n xs x) = IsThere l n.what × AllByRecursion (IsExpr l) xs × IsExpr l x
    IsStmt l (s.if_stmt at x ss) = IsExpr l x × AreStmts l ss
    IsStmt l (s.if_else at x ss others) = IsExpr l x × AreStmts l ss × AreStmts l others
    IsStmt l (s.for_stmt at n x y ss) = (n.what ≡ meaning.Number l) × IsExpr l x × IsExpr l y × AreStmts (l + 1) ss

    pub AreStmts : ℕ → StmtValues → Type 0
    AreStmts l no_stmts = Unit {0}
    AreStmts l (a_stmt x rest) = IsStmt l x × AreStmts (after l x) rest

  abbrev pub SlotIsThere : ℕ → Slot → Type 0
  SlotIsThere locals (slot.Out k) = k < a.outputs
  SlotIsThere locals (slot.Read k) = k < a.reads
  SlotIsThere locals (slot.Local k) = k < locals

  pub record IsPlanCall (locals : ℕ) (c : PlanCallValue) : Type 0 where
    pub transform : c.transform < a.transforms
    pub targets : AllByRecursion (SlotIsThere locals) c.targets
    pub arguments : AllByRecursion (SlotIsThere locals) c.arguments

  pub record IsPlan (p : PlanValue) : Type 0 where
    pub locals : AllByRecursion (IsDecl a.sizes) p.locals
    pub calls : AllByRecursion (IsPlanCall (length p.locals)) p.calls

  -- a plan is there exactly where the rule is one and each statement is a declaration or a call; its calls are these,
  -- and its locals have the dimensions that are declared
  abbrev pub PlanFits : RuleKind → List StmtValue → Option PlanValue → Type 0
  PlanFits kind.Plan body None = calls_of body ≡ None
  PlanFits kind.Plan body (Some p) = (calls_of body ≡ Some p.calls) × (map (λ d. d.dims) p.locals ≡ flat_map declared_dims body) × IsPlan p
  PlanFits _ body None = Unit {0}
  PlanFits _ body (Some p) = ⊥

-- how many statements there are, nested ones too
abbrev mutual
  pub statements_in : StmtValue → ℕ
  statements_in (s.if_stmt at x ss) = 1 + statements_among ss
  statements_in (s.if_else at x ss others) = 1 + (statements_among ss + statements_among others)
  statements_in (s.for_stmt at n x y ss) = 1 + statements_among ss
  statements_in _ = 1

  pub statements_among : StmtValues → ℕ
  statements_among no_stmts = 0
  statements_among (a_stmt x rest) = statements_in x + statements_among rest

-- the kind of a rule and its outputs: a rule of kind Cell has just one, whose coordinates are the rule variables
abbrev pub KindFits : RuleKind → List Read → Type 0
KindFits kind.Cell (r ∷ []) = Binds r
KindFits kind.Cell _ = ⊥
KindFits kind.Wide outs = AllByRecursion IsFree outs
KindFits kind.Plan outs = Unit {0}

-- what is there around a rule's body
abbrev pub around : ℕ → ℕ → ProgRule → Around
around sizes transforms r =
    record { sizes = sizes; variables = variables r.outs; outputs = length r.outs; reads = length r.reads; transforms = transforms }

pub record IsRule (sizes inputs matrices transforms : ℕ) (r : ProgRule) : Type 0 where
  pub some_output : Counts 1 MOST_VIEWS (length r.outs)
  pub names : length r.names ≡ length r.outs
  pub few_reads : length r.reads ≤ MOST_VIEWS
  pub few_conditions : length r.conds ≤ MOST_CONDITIONS
  pub few_statements : statements_among (s.stmts r.body) ≤ MOST_STATEMENTS
  pub outs : AllByRecursion (IsView sizes (variables r.outs) matrices) r.outs
  pub outputs : AllByRecursion (IsOutput inputs (length r.outs)) r.outs
  pub reads : AllByRecursion (IsView sizes (variables r.outs) matrices) r.reads
  pub conds : AllByRecursion (IsCondition sizes (variables r.outs)) r.conds
  pub kind : KindFits r.kind r.outs
  pub body : AreStmts (around sizes transforms r) 0 (s.stmts r.body)
  pub plan : PlanFits (around sizes transforms r) r.kind r.body r.plan

-- no two of these names have the same bytes
abbrev pub AreDistinct : List NameValue → Type 0
AreDistinct [] = Unit {0}
AreDistinct (n ∷ rest) = (is_known n.bytes (map (λ m. m.bytes) rest) ≡ false) × AreDistinct rest

-- the form of a size variable alone
abbrev pub size_numbers : ℕ → Numbers → Type 0
size_numbers k n = (n.constant ≡ pos 0) × (coefficient n.whole k ≡ pos 1) × AllByRecursion (λ z. z ≡ pos 0) (take k n.whole)
    × AllByRecursion (λ z. z ≡ pos 0) (drop (k + 1) n.whole) × AllByRecursion (λ z. z ≡ pos 0) n.half
    × AllByRecursion (λ z. z ≡ pos 0) n.third × AllByRecursion (λ z. z ≡ pos 0) n.quarter

-- the size variable stands alone as a dimension of one of these matrices
pub record IsBound (given : List DeclValue) (k : ℕ) : Type 0 where
  pub place : ℕ
  pub decl : DeclValue
  pub there : slice_get given place ≡ Some decl
  pub alone : size_numbers k decl.w ⊎ size_numbers k decl.h

pub record AreRanges (sizes : ℕ) (r : Ranges) : Type 0 where
  pub counted : r.count ≡ sizes
  pub low : (k : ℕ) → k < sizes → (1 ≤ slice_index r.least k) × (slice_index r.least k ≤ SIZE_TOP)

pub record IsTransform (transforms : ℕ) (t : ProgTransform) : Type 0 where
  pub name : IsNamed t.name
  pub few_sizes : length t.sizes ≤ MOST_SIZES
  pub few_matrices : length t.matrices ≤ MOST_MATRICES
  pub few_rules : length t.rules ≤ MOST_RULES
  pub parts : t.inputs + t.middles ≤ length t.matrices
  pub ranges : AreRanges (length t.sizes) t.ranges
  pub size_names : AllByRecursion IsNamed t.sizes
  pub bound : (k : ℕ) → k < length t.sizes → IsBound (take t.inputs t.matrices) k
  pub matrices : AllByRecursion (IsDecl (length t.sizes)) t.matrices
  pub distinct : AreDistinct (map (λ d. d.name) t.matrices)
  pub rules : AllByRecursion (IsRule (length t.sizes) t.inputs (length t.matrices) transforms) t.rules

-- a program is well formed
pub record IsWellFormed (ts : List ProgTransform) : Type 0 where
  pub few : length ts ≤ MOST_TRANSFORMS
  pub distinct : AreDistinct (map (λ t. t.name) ts)
  pub transforms : AllByRecursion (IsTransform (length ts)) ts
