-- What is wrong in a plan.
use Rattle.std.specs.Prelude.{ℕ, zero, suc, ◌+◌, Bool, true, false, not, ◌&&◌, ◌==◌, List, [], ◌∷◌, ◌++◌, length, map, take, drop, Option, Some, None, slice_get}
use Rattle.std.specs.List.{flat_map}
use Rattle.std.specs.Option.{option_and_then, option_map, option_map_or}
use Rattle.pb_program.specs.declared.meaning.Meaning.{Meaning}
use Rattle.pb_program.specs.declared.meaning.Meaning.TheVariants as meaning
use Rattle.pb_program.specs.declared.meaning.Named.{Named}
use Rattle.pb_program.specs.declared.meaning.Callee.{Callee}
use Rattle.pb_program.specs.declared.meaning.Callee.TheVariants as callee
use Rattle.pb_program.specs.declared.statement.LocalTerm.{LocalTerm}
use Rattle.pb_program.specs.declared.view.Read.{Read}
use Rattle.pb_program.specs.Forms.{DeclValue, LocalFormValue}
use Rattle.pb_program.specs.Exprs.{ExprValue}
use Rattle.pb_program.specs.Exprs as e
use Rattle.pb_program.specs.Stmts.{StmtValue}
use Rattle.pb_program.specs.Stmts as s
use Rattle.pb_program.specs.Plans.{items}
use Rattle.pb_program.specs.Trees.{ProgTransform, ProgRule}
use Rattle.pb_types.specs.declared.known.Target.{Target}
use Rattle.pb_types.specs.Least.{unless}
use Rattle.pb_types.specs.Sorts.{place_of, lone_name}
use Rattle.pb_types.specs.Views.{is_cell, view_dims}

-- What a plan knows before a statement: its reads; and its outputs and the locals that are declared, by their numbers,
-- each with the place of its name, its number of dimensions, and whether it was the target of a call.
pub record Known : Type 0 where
  pub reads : List Read
  pub outs : List Target
  pub locals : List Target

-- an output before the first statement
abbrev pub out_target : Read → Target
out_target r = record { at = r.at; dims = view_dims r; made = false }

-- what is known before the first statement
abbrev pub at_first : ProgRule → Known
at_first r = record { reads = r.reads; outs = map out_target r.outs; locals = [] }

-- the output or local that a name names
abbrev pub target_of : Known → Meaning → Option Target
target_of k (meaning.Output i) = slice_get k.outs i
target_of k (meaning.Matrix i) = slice_get k.locals i
target_of k _ = None

-- the number of dimensions of the matrix that a name names
abbrev pub known_dims : Known → Meaning → Option ℕ
known_dims k (meaning.Read i) = option_and_then view_dims (slice_get k.reads i)
known_dims k m = option_and_then (λ t. t.dims) (target_of k m)

-- what may be passed on: a read, or a local that was a target
abbrev pub is_given : Known → Meaning → Bool
is_given k (meaning.Read i) = true
is_given k (meaning.Matrix i) = option_map_or (λ t. t.made) (slice_get k.locals i) false
is_given k _ = false

-- what may be a target: an output or a local that wasn't one
abbrev pub is_free : Known → Meaning → Bool
is_free k m = option_map_or (λ t. not t.made) (target_of k m) false

-- the target with this number was made
abbrev pub made_at : List Target → ℕ → List Target
made_at [] i = []
made_at (t ∷ ts) zero = record t { made = true } ∷ ts
made_at (t ∷ ts) (suc i) = t ∷ made_at ts i

-- what is known once a name was a target
abbrev pub make : Known → Meaning → Known
make k (meaning.Output i) = record k { outs = made_at k.outs i }
make k (meaning.Matrix i) = record k { locals = made_at k.locals i }
make k _ = k

-- once all of these were targets
abbrev pub make_all : Known → List Named → Known
make_all k [] = k
make_all k (n ∷ ns) = make_all (make k n.what) ns

-- with one more local
abbrev pub declare : Known → Target → Known
declare k t = record k { locals = k.locals ++ t ∷ [] }

-- an argument is the name alone of what may be passed on; to blame is the argument
abbrev pub argument_broken : Known → ExprValue → List ℕ
argument_broken k x = option_map_or (λ n. unless (is_given k n.what) n.at) (lone_name x) (place_of x ∷ [])

-- the dimensions of the matrix that an argument names
abbrev pub argument_dims : Known → ExprValue → Option ℕ
argument_dims k x = option_and_then (λ n. known_dims k n.what) (lone_name x)

-- where there are both, a matrix has the dimensions of the one of the called transform; to blame is its name
abbrev pub misfit : ℕ → Option ℕ → Option ℕ → List ℕ
misfit at (Some d) (Some wanted) = unless (d == wanted) at
misfit at _ _ = []

-- the dimensions of the matrix with this number, where there are so many
abbrev pub wanted : List DeclValue → ℕ → Option ℕ
wanted matrices i = option_map (λ d. d.dims) (slice_get matrices i)

-- the places of a list's items, each with its number
abbrev pub numbered : {A : Type 0} → (ℕ → A → List ℕ) → ℕ → List A → List ℕ
numbered places i [] = []
numbered places i (x ∷ xs) = places i x ++ numbered places (i + 1) xs

-- an argument, and the matrix of the called transform that has its number
abbrev pub argument_misfit : Known → List DeclValue → ℕ → ExprValue → List ℕ
argument_misfit k takes i x = argument_broken k x ++ misfit (place_of x) (argument_dims k x) (wanted takes i)

-- a target, and the matrix of the called transform that has its number
unfoldable pub target_misfit : Known → List DeclValue → ℕ → Named → List ℕ
target_misfit k gives i n = misfit n.at (known_dims k n.what) (wanted gives i)

-- a target is an output or a local, and was none before; to blame is the target
abbrev pub targets_broken : Known → List Named → List ℕ
targets_broken k [] = []
targets_broken k (n ∷ ns) = unless (is_free k n.what) n.at ++ targets_broken (make k n.what) ns

-- the matrices that a transform takes, and those that it gives
abbrev pub takes : Option ProgTransform → List DeclValue
takes None = []
takes (Some t) = take t.inputs t.matrices

abbrev pub gives : Option ProgTransform → List DeclValue
gives None = []
gives (Some t) = drop (t.inputs + t.middles) t.matrices

-- there are as many arguments and targets as the called transform has; to blame is the called name
abbrev pub count_broken : ℕ → ℕ → ℕ → List DeclValue → List DeclValue → List ℕ
count_broken at targets arguments takes gives = unless ((arguments == length takes) && (targets == length gives)) at

-- the call of a transform that takes and gives these matrices
abbrev pub transform_call : Known → List DeclValue → List DeclValue → List Named → ℕ → List ExprValue → List ℕ
transform_call k takes gives ns at xs = count_broken at (length ns) (length xs) takes gives ++ (numbered (argument_misfit k takes) 0 xs
    ++ (numbered (target_misfit k gives) 0 ns ++ targets_broken k ns))

-- a size variable in a dimension of a local; to blame is the name
abbrev pub is_size : Meaning → Bool
is_size (meaning.Size k) = true
is_size _ = false

unfoldable pub term_broken : LocalTerm → List ℕ
term_broken t = option_map_or (λ n. unless (is_size n.what) n.at) t.name []

-- the names in a dimension of a local
unfoldable pub dim_broken : LocalFormValue → List ℕ
dim_broken f = flat_map term_broken f.terms

-- what is known after a call
abbrev pub made_by : Callee → Known → List Named → Known
made_by (callee.Transform t) k ns = make_all k ns
made_by (callee.Function f) k ns = k

-- what is known after an assignment
abbrev pub made_assigned : Known → Named → ExprValue → Known
made_assigned k n (e.call c xs) = made_by c.what k (n ∷ [])
made_assigned k n _ = k

-- what is known after a statement; a number of the body counts among the locals, and nothing has to make it
abbrev pub after : Known → StmtValue → Known
after k (s.let_number at n x) = declare k (record { at = n.at; dims = None; made = true })
after k (s.let_matrix at n dims) = declare k (record { at = n.at; dims = Some (length dims); made = false })
after k (s.assign n x) = made_assigned k n x
after k (s.call_stmt ns c xs) = made_by c.what k ns
after k _ = k

-- an output or a local that is no target; to blame is its name in the view or the `let`
unfoldable pub unmade : Target → List ℕ
unmade t = unless t.made t.at

-- of all outputs and locals
abbrev pub never_made : Known → List ℕ
never_made k = flat_map unmade k.outs ++ flat_map unmade k.locals

-- no view is a cell; to blame is the matrix's name. An output with rule variables is a cell
unfoldable pub plan_view_broken : Read → List ℕ
plan_view_broken r = unless (not (is_cell r.view)) r.at

module _ (ts : List ProgTransform) where
  -- a call of a transform is as it has to be; where a function is called, `at` is to blame
  abbrev pub call_broken : Known → ℕ → List Named → ℕ → Callee → List ExprValue → List ℕ
  call_broken k at ns name (callee.Transform t) xs = transform_call k (takes (slice_get ts t)) (gives (slice_get ts t)) ns name xs
  call_broken k at ns name (callee.Function f) xs = at ∷ []

  -- an assignment of anything but a call is to blame; in parentheses it is no call
  abbrev pub assign_broken : Known → Named → ExprValue → List ℕ
  assign_broken k n (e.call c xs) = call_broken k n.at (n ∷ []) c.at c.what (items xs)
  assign_broken k n _ = n.at ∷ []

  -- each statement declares a matrix, over sizes, or is the call of a transform; to blame is the statement. One with several targets is a call,
  -- and to blame is the called name where it names a function
  abbrev pub plan_stmt_broken : Known → StmtValue → List ℕ
  plan_stmt_broken k (s.let_matrix at n dims) = flat_map dim_broken dims
  plan_stmt_broken k (s.assign n x) = assign_broken k n x
  plan_stmt_broken k (s.call_stmt ns c xs) = call_broken k c.at ns c.at c.what xs
  plan_stmt_broken k (s.let_number at n x) = at ∷ []
  plan_stmt_broken k (s.assign_cell n xs x) = n.at ∷ []
  plan_stmt_broken k (s.if_stmt at x ss) = at ∷ []
  plan_stmt_broken k (s.if_else at x ss others) = at ∷ []
  plan_stmt_broken k (s.for_stmt at n x y ss) = at ∷ []

  -- statement by statement, and then what no call has made
  abbrev pub plan_stmts_broken : Known → List StmtValue → List ℕ
  plan_stmts_broken k [] = never_made k
  plan_stmts_broken k (x ∷ rest) = plan_stmt_broken k x ++ plan_stmts_broken (after k x) rest

  -- a whole plan
  abbrev pub plan_broken : ProgRule → List ℕ
  plan_broken r = flat_map plan_view_broken r.outs ++ (flat_map plan_view_broken r.reads ++ plan_stmts_broken (at_first r) r.body)
