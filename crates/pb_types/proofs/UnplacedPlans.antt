-- What is wrong with types doesn't depend on the places of a program: plans and whole programs.
use Rattle.std.proofs.Common.{◌≡◌, ℕ, zero, suc, ◌+◌, ◌==◌, true, false, not, List, [], ◌∷◌, length, map, Option, Some, None, refl, sym, ap, ◌∙◌}
use Rattle.std.specs.Prelude.{slice_get}
use Rattle.std.specs.Option.{option_map, option_map_or, option_and_then}
use Rattle.std.proofs.lemmas.Option.{slice_get-map}
use Rattle.std.proofs.lemmas.List.{take-map, drop-map, map-append}
use Rattle.pb_program.specs.declared.meaning.Meaning.{Meaning}
use Rattle.pb_program.specs.declared.meaning.Meaning.TheVariants as meaning
use Rattle.pb_program.specs.declared.meaning.Named.{Named}
use Rattle.pb_program.specs.declared.meaning.Callee.{Callee}
use Rattle.pb_program.specs.declared.meaning.Callee.TheVariants as callee
use Rattle.pb_program.specs.declared.rule.RuleKind.{RuleKind}
use Rattle.pb_program.specs.declared.rule.RuleKind.TheVariants as kind
use Rattle.pb_program.specs.declared.statement.LocalTerm.{LocalTerm}
use Rattle.pb_program.specs.declared.view.Read.{Read}
use Rattle.pb_program.specs.Forms.{DeclValue, LocalFormValue}
use Rattle.pb_program.specs.Exprs.{ExprValue, number, name, call, parentheses, cell, width, height, signed, chain, compare}
use Rattle.pb_program.specs.Stmts.{StmtValue, let_number, let_matrix, assign, call_stmt, assign_cell, if_stmt, if_else, for_stmt, stmts}
use Rattle.pb_program.specs.Plans.{items}
use Rattle.pb_program.specs.Trees.{ProgRule, ProgTransform}
use Rattle.pb_program.specs.Places.{unplaced_local_form, unplaced_local_term, unplaced_named, unplaced_value, unplaced_statement, unplaced_matrix, unplaced_read, unplaced_prog_rule, unplaced_prog_transform, unplaced_prog}
use Rattle.pb_program.proofs.Kept.{joined, flat_kept, length_kept, made_kept}
use Rattle.pb_program.proofs.UnplacedLists.{items_kept, listed_kept}
use Rattle.pb_types.specs.declared.known.Target.{Target}
use Rattle.pb_types.specs.Least.{unless}
use Rattle.pb_types.specs.Sorts.{place_of, lone_name}
use Rattle.pb_types.specs.Views.{is_cell, view_broken, view_dims}
use Rattle.pb_types.specs.Bodies.{stmts_broken}
use Rattle.pb_types.specs.Plans.{Known, after, argument_broken, argument_dims, argument_misfit, assign_broken, at_first, call_broken, count_broken, declare, dim_broken, gives, is_free, is_given, is_size, known_dims, made_assigned, made_at, made_by, make, make_all, misfit, never_made, numbered, out_target, plan_broken, plan_stmt_broken, plan_stmts_broken, plan_view_broken, takes, target_misfit, target_of, targets_broken, term_broken, transform_call, unmade, wanted}
use Rattle.pb_types.specs.Types.{body_broken, bound_of, broken, rule_broken, transform_broken}
use Rattle.pb_types.proofs.UnplacedTypes.{no_place, unless_kept, option_kept, then_kept, view_kept, place_kept, lone_kept, stmts_kept}

abbrev unplaced_target : Target → Target
unplaced_target t = record { at = 0; dims = t.dims; made = t.made }

abbrev unplaced_known : Known → Known
unplaced_known k = record { reads = map unplaced_read k.reads; outs = map unplaced_target k.outs; locals = map unplaced_target k.locals }

-- what is known
target_kept : (k : Known) (m : Meaning) → target_of (unplaced_known k) m ≡ option_map unplaced_target (target_of k m)
target_kept k (meaning.Size i) = refl
target_kept k meaning.RuleX = refl
target_kept k meaning.RuleY = refl
target_kept k (meaning.Output i) = slice_get-map unplaced_target k.outs i
target_kept k (meaning.Read i) = refl
target_kept k (meaning.Number i) = refl
target_kept k (meaning.Matrix i) = slice_get-map unplaced_target k.locals i

target_dims_kept : (k : Known) (m : Meaning) → option_and_then (λ (t : Target). t.dims) (target_of (unplaced_known k) m) ≡ option_and_then (λ (t : Target). t.dims) (target_of k m)
target_dims_kept k m = ap (option_and_then (λ (t : Target). t.dims)) (target_kept k m) ∙ then_kept unplaced_target (λ t. t.dims) (λ t. refl) (target_of k m)

dims_kept : (k : Known) (m : Meaning) → known_dims (unplaced_known k) m ≡ known_dims k m
dims_kept k (meaning.Size i) = refl
dims_kept k meaning.RuleX = refl
dims_kept k meaning.RuleY = refl
dims_kept k (meaning.Output i) = target_dims_kept k (meaning.Output i)
dims_kept k (meaning.Read i) = ap (option_and_then view_dims) (slice_get-map unplaced_read k.reads i) ∙ then_kept unplaced_read view_dims (λ r. refl) (slice_get k.reads i)
dims_kept k (meaning.Number i) = refl
dims_kept k (meaning.Matrix i) = target_dims_kept k (meaning.Matrix i)

given_kept : (k : Known) (m : Meaning) → is_given (unplaced_known k) m ≡ is_given k m
given_kept k (meaning.Size i) = refl
given_kept k meaning.RuleX = refl
given_kept k meaning.RuleY = refl
given_kept k (meaning.Output i) = refl
given_kept k (meaning.Read i) = refl
given_kept k (meaning.Number i) = refl
given_kept k (meaning.Matrix i) =
    ap (λ o. option_map_or (λ (t : Target). t.made) o false) (slice_get-map unplaced_target k.locals i) ∙ option_kept unplaced_target (λ t. t.made) false (λ t. refl) (slice_get k.locals i)

free_kept : (k : Known) (m : Meaning) → is_free (unplaced_known k) m ≡ is_free k m
free_kept k m = ap (λ o. option_map_or (λ (t : Target). not t.made) o false) (target_kept k m) ∙ option_kept unplaced_target (λ t. not t.made) false (λ t. refl) (target_of k m)

made_at_kept : (ts : List Target) (i : ℕ) → made_at (map unplaced_target ts) i ≡ map unplaced_target (made_at ts i)
made_at_kept [] i = refl
made_at_kept (t ∷ ts) zero = refl
made_at_kept (t ∷ ts) (suc i) = rw (made_at_kept ts i) refl

make_kept : (k : Known) (m : Meaning) → make (unplaced_known k) m ≡ unplaced_known (make k m)
make_kept k (meaning.Size i) = refl
make_kept k meaning.RuleX = refl
make_kept k meaning.RuleY = refl
make_kept k (meaning.Output i) = rw (made_at_kept k.outs i) refl
make_kept k (meaning.Read i) = refl
make_kept k (meaning.Number i) = refl
make_kept k (meaning.Matrix i) = rw (made_at_kept k.locals i) refl

make_all_kept : (k : Known) (ns : List Named) → make_all (unplaced_known k) (map unplaced_named ns) ≡ unplaced_known (make_all k ns)
make_all_kept k [] = refl
make_all_kept k (n ∷ ns) = ap (λ j. make_all j (map unplaced_named ns)) (make_kept k n.what) ∙ make_all_kept (make k n.what) ns

declare_kept : (k : Known) (t : Target) → declare (unplaced_known k) (unplaced_target t) ≡ unplaced_known (declare k t)
declare_kept k t = rw (map-append unplaced_target k.locals (t ∷ [])) refl

made_by_kept : (c : Callee) (k : Known) (ns : List Named) → made_by c (unplaced_known k) (map unplaced_named ns) ≡ unplaced_known (made_by c k ns)
made_by_kept (callee.Transform t) k ns = make_all_kept k ns
made_by_kept (callee.Function f) k ns = refl

assigned_kept : (k : Known) (n : Named) (x : ExprValue) → made_assigned (unplaced_known k) (unplaced_named n) (unplaced_value x) ≡ unplaced_known (made_assigned k n x)
assigned_kept k n (number at m) = refl
assigned_kept k n (name m) = refl
assigned_kept k n (call c xs) = made_by_kept c.what k (n ∷ [])
assigned_kept k n (parentheses at x) = refl
assigned_kept k n (cell v xs) = refl
assigned_kept k n (width v) = refl
assigned_kept k n (height v) = refl
assigned_kept k n (signed at sign x) = refl
assigned_kept k n (chain level x rest) = refl
assigned_kept k n (compare x relation y) = refl

after_kept : (k : Known) (s : StmtValue) → after (unplaced_known k) (unplaced_statement s) ≡ unplaced_known (after k s)
after_kept k (let_number at n x) = declare_kept k (record { at = n.at; dims = None; made = true })
after_kept k (let_matrix at n dims) = rw (length_kept unplaced_local_form dims) (declare_kept k (record { at = n.at; dims = Some (length dims); made = false }))
after_kept k (assign n x) = assigned_kept k n x
after_kept k (call_stmt ns c xs) = made_by_kept c.what k ns
after_kept k (assign_cell n xs x) = refl
after_kept k (if_stmt at x ss) = refl
after_kept k (if_else at x ss others) = refl
after_kept k (for_stmt at n x y ss) = refl

-- arguments and targets
lone_given : (k : Known) (n : Option Named) (at : ℕ)
    → option_map_or (λ (n : Named). unless (is_given (unplaced_known k) n.what) n.at) (option_map unplaced_named n) (0 ∷ []) ≡ map no_place (option_map_or (λ (n : Named). unless (is_given k n.what) n.at) n (at ∷ []))
lone_given k None at = refl
lone_given k (Some n) at = rw (given_kept k n.what) (unless_kept _ n.at)

argument_kept : (k : Known) (x : ExprValue) → argument_broken (unplaced_known k) (unplaced_value x) ≡ map no_place (argument_broken k x)
argument_kept k x = rw (lone_kept x, place_kept x) (lone_given k (lone_name x) (place_of x))

argument_dims_kept : (k : Known) (x : ExprValue) → argument_dims (unplaced_known k) (unplaced_value x) ≡ argument_dims k x
argument_dims_kept k x = rw (lone_kept x) (lone_dims (lone_name x))
  where
    lone_dims : (n : Option Named) → option_and_then (λ (n : Named). known_dims (unplaced_known k) n.what) (option_map unplaced_named n) ≡ option_and_then (λ (n : Named). known_dims k n.what) n
    lone_dims None = refl
    lone_dims (Some n) = dims_kept k n.what

misfit_kept : (at : ℕ) (a b : Option ℕ) → misfit 0 a b ≡ map no_place (misfit at a b)
misfit_kept at None b = refl
misfit_kept at (Some d) None = refl
misfit_kept at (Some d) (Some w) = unless_kept (d == w) at

wanted_kept : (ms : List DeclValue) (i : ℕ) → wanted (map unplaced_matrix ms) i ≡ wanted ms i
wanted_kept ms i = ap (option_map (λ (d : DeclValue). d.dims)) (slice_get-map unplaced_matrix ms i) ∙ same (slice_get ms i)
  where
    same : (o : Option DeclValue) → option_map (λ (d : DeclValue). d.dims) (option_map unplaced_matrix o) ≡ option_map (λ (d : DeclValue). d.dims) o
    same None = refl
    same (Some d) = refl

numbered_kept : {A : Type 0} (u : A → A) (f g : ℕ → A → List ℕ) → ((i : ℕ) (x : A) → f i (u x) ≡ map no_place (g i x)) → (i : ℕ) (xs : List A) → numbered f i (map u xs) ≡ map no_place (numbered g i xs)
numbered_kept u f g e i [] = refl
numbered_kept u f g e i (x ∷ xs) = joined no_place _ _ (e i x) (numbered_kept u f g e (i + 1) xs)

misfits_kept : (k : Known) (ms : List DeclValue) (i : ℕ) (x : ExprValue) → argument_misfit (unplaced_known k) (map unplaced_matrix ms) i (unplaced_value x) ≡ map no_place (argument_misfit k ms i x)
misfits_kept k ms i x = joined no_place _ _ (argument_kept k x) (rw (place_kept x, argument_dims_kept k x, wanted_kept ms i) (misfit_kept (place_of x) (argument_dims k x) (wanted ms i)))

target_misfit_kept : (k : Known) (ms : List DeclValue) (i : ℕ) (n : Named) → target_misfit (unplaced_known k) (map unplaced_matrix ms) i (unplaced_named n) ≡ map no_place (target_misfit k ms i n)
unfolding target_misfit
target_misfit_kept k ms i n = rw (dims_kept k n.what, wanted_kept ms i) (misfit_kept n.at (known_dims k n.what) (wanted ms i))

targets_kept : (k : Known) (ns : List Named) → targets_broken (unplaced_known k) (map unplaced_named ns) ≡ map no_place (targets_broken k ns)
targets_kept k [] = refl
targets_kept k (n ∷ ns) =
    joined no_place _ _ (rw (free_kept k n.what) (unless_kept _ n.at)) (ap (λ j. targets_broken j (map unplaced_named ns)) (make_kept k n.what) ∙ targets_kept (make k n.what) ns)

count_kept : (at i j : ℕ) (a b : List DeclValue) → count_broken 0 i j (map unplaced_matrix a) (map unplaced_matrix b) ≡ map no_place (count_broken at i j a b)
count_kept at i j a b = rw (length_kept unplaced_matrix a, length_kept unplaced_matrix b) (unless_kept _ at)

transform_call_kept : (k : Known) (a b : List DeclValue) (ns : List Named) (at : ℕ) (xs : List ExprValue)
    → transform_call (unplaced_known k) (map unplaced_matrix a) (map unplaced_matrix b) (map unplaced_named ns) 0 (map unplaced_value xs) ≡ map no_place (transform_call k a b ns at xs)
transform_call_kept k a b ns at xs = rw (length_kept unplaced_named ns, length_kept unplaced_value xs)
    (joined no_place _ _ (count_kept at (length ns) (length xs) a b)
    (joined no_place _ _ (numbered_kept unplaced_value (argument_misfit (unplaced_known k) (map unplaced_matrix a)) (argument_misfit k a) (misfits_kept k a) 0 xs)
    (joined no_place _ _ (numbered_kept unplaced_named (target_misfit (unplaced_known k) (map unplaced_matrix b)) (target_misfit k b) (target_misfit_kept k b) 0 ns) (targets_kept k ns))))

takes_kept : (t : Option ProgTransform) → takes (option_map unplaced_prog_transform t) ≡ map unplaced_matrix (takes t)
takes_kept None = refl
takes_kept (Some t) = take-map unplaced_matrix t.inputs t.matrices

gives_kept : (t : Option ProgTransform) → gives (option_map unplaced_prog_transform t) ≡ map unplaced_matrix (gives t)
gives_kept None = refl
gives_kept (Some t) = drop-map unplaced_matrix (t.inputs + t.middles) t.matrices

-- dimensions of locals
term_kept : (t : LocalTerm) → term_broken (unplaced_local_term t) ≡ map no_place (term_broken t)
unfolding term_broken
term_kept t = by_name t.name
  where
    by_name : (n : Option Named) → option_map_or (λ (n : Named). unless (is_size n.what) n.at) (option_map unplaced_named n) [] ≡ map no_place (option_map_or (λ (n : Named). unless (is_size n.what) n.at) n [])
    by_name None = refl
    by_name (Some n) = unless_kept (is_size n.what) n.at

dim_kept : (f : LocalFormValue) → dim_broken (unplaced_local_form f) ≡ map no_place (dim_broken f)
unfolding dim_broken
dim_kept f = flat_kept unplaced_local_term no_place term_broken term_broken term_kept f.terms

-- what no call has made
unmade_kept : (t : Target) → unmade (unplaced_target t) ≡ map no_place (unmade t)
unfolding unmade
unmade_kept t = unless_kept t.made t.at

never_kept : (k : Known) → never_made (unplaced_known k) ≡ map no_place (never_made k)
never_kept k = joined no_place _ _ (flat_kept unplaced_target no_place unmade unmade unmade_kept k.outs) (flat_kept unplaced_target no_place unmade unmade unmade_kept k.locals)

plan_view_kept : (r : Read) → plan_view_broken (unplaced_read r) ≡ map no_place (plan_view_broken r)
unfolding plan_view_broken
plan_view_kept r = unless_kept (not (is_cell r.view)) r.at

first_kept : (r : ProgRule) → at_first (unplaced_prog_rule r) ≡ unplaced_known (at_first r)
first_kept r = rw (made_kept unplaced_read unplaced_target out_target out_target (λ r. refl) r.outs) refl

module _ (ts : List ProgTransform) where
  transform_in : (k : Known) (t at : ℕ) (ns : List Named) (xs : List ExprValue)
      → transform_call (unplaced_known k) (takes (slice_get (unplaced_prog ts) t)) (gives (slice_get (unplaced_prog ts) t)) (map unplaced_named ns) 0 (map unplaced_value xs)
      ≡ map no_place (transform_call k (takes (slice_get ts t)) (gives (slice_get ts t)) ns at xs)
  transform_in k t at ns xs = rw (slice_get-map unplaced_prog_transform ts t, takes_kept (slice_get ts t), gives_kept (slice_get ts t))
      (transform_call_kept k (takes (slice_get ts t)) (gives (slice_get ts t)) ns at xs)

  call_kept : (k : Known) (place : ℕ) (ns : List Named) (at : ℕ) (c : Callee) (xs : List ExprValue)
      → call_broken (unplaced_prog ts) (unplaced_known k) 0 (map unplaced_named ns) 0 c (map unplaced_value xs) ≡ map no_place (call_broken ts k place ns at c xs)
  call_kept k place ns at (callee.Transform t) xs = transform_in k t at ns xs
  call_kept k place ns at (callee.Function f) xs = refl

  assign_kept : (k : Known) (n : Named) (x : ExprValue) → assign_broken (unplaced_prog ts) (unplaced_known k) (unplaced_named n) (unplaced_value x) ≡ map no_place (assign_broken ts k n x)
  assign_kept k n (number at m) = refl
  assign_kept k n (name m) = refl
  assign_kept k n (call c xs) = rw (items_kept xs) (call_kept k n.at (n ∷ []) c.at c.what (items xs))
  assign_kept k n (parentheses at x) = refl
  assign_kept k n (cell v xs) = refl
  assign_kept k n (width v) = refl
  assign_kept k n (height v) = refl
  assign_kept k n (signed at sign x) = refl
  assign_kept k n (chain level x rest) = refl
  assign_kept k n (compare x relation y) = refl

  stmt_kept : (k : Known) (s : StmtValue) → plan_stmt_broken (unplaced_prog ts) (unplaced_known k) (unplaced_statement s) ≡ map no_place (plan_stmt_broken ts k s)
  stmt_kept k (let_number at n x) = refl
  stmt_kept k (let_matrix at n dims) = flat_kept unplaced_local_form no_place dim_broken dim_broken dim_kept dims
  stmt_kept k (assign n x) = assign_kept k n x
  stmt_kept k (call_stmt ns c xs) = call_kept k c.at ns c.at c.what xs
  stmt_kept k (assign_cell n xs x) = refl
  stmt_kept k (if_stmt at x ss) = refl
  stmt_kept k (if_else at x ss others) = refl
  stmt_kept k (for_stmt at n x y ss) = refl

  plan_stmts_kept : (k : Known) (ss : List StmtValue) → plan_stmts_broken (unplaced_prog ts) (unplaced_known k) (map unplaced_statement ss) ≡ map no_place (plan_stmts_broken ts k ss)
  plan_stmts_kept k [] = never_kept k
  plan_stmts_kept k (s ∷ ss) =
      joined no_place _ _ (stmt_kept k s) (ap (λ j. plan_stmts_broken (unplaced_prog ts) j (map unplaced_statement ss)) (after_kept k s) ∙ plan_stmts_kept (after k s) ss)

  plan_kept : (r : ProgRule) → plan_broken (unplaced_prog ts) (unplaced_prog_rule r) ≡ map no_place (plan_broken ts r)
  plan_kept r = rw (first_kept r) (joined no_place _ _ (flat_kept unplaced_read no_place plan_view_broken plan_view_broken plan_view_kept r.outs)
      (joined no_place _ _ (flat_kept unplaced_read no_place plan_view_broken plan_view_broken plan_view_kept r.reads) (plan_stmts_kept (at_first r) r.body)))

  other_kept : (r : ProgRule) → stmts_broken (bound_of (unplaced_prog_rule r)) [] (stmts (map unplaced_statement r.body)) ≡ map no_place (stmts_broken (bound_of r) [] (stmts r.body))
  other_kept r = rw (listed_kept r.body) (stmts_kept (bound_of r) [] (stmts r.body))

  body_kept : (k : RuleKind) (r : ProgRule) → body_broken (unplaced_prog ts) k (unplaced_prog_rule r) ≡ map no_place (body_broken ts k r)
  body_kept kind.Cell r = other_kept r
  body_kept kind.Wide r = other_kept r
  body_kept kind.Plan r = plan_kept r

  rule_kept : (ms : List DeclValue) (r : ProgRule) → rule_broken (unplaced_prog ts) (map unplaced_matrix ms) (unplaced_prog_rule r) ≡ map no_place (rule_broken ts ms r)
  rule_kept ms r = joined no_place _ _ (joined no_place _ _ (flat_kept unplaced_read no_place (view_broken (map unplaced_matrix ms)) (view_broken ms) (view_kept ms) r.outs)
      (flat_kept unplaced_read no_place (view_broken (map unplaced_matrix ms)) (view_broken ms) (view_kept ms) r.reads)) (body_kept r.kind r)

  transform_kept : (t : ProgTransform) → transform_broken (unplaced_prog ts) (unplaced_prog_transform t) ≡ map no_place (transform_broken ts t)
  transform_kept t = flat_kept unplaced_prog_rule no_place (rule_broken (unplaced_prog ts) (map unplaced_matrix t.matrices)) (rule_broken ts t.matrices) (rule_kept t.matrices) t.rules

all_kept : (ts : List ProgTransform) → broken (unplaced_prog ts) ≡ map no_place (broken ts)
all_kept ts = flat_kept unplaced_prog_transform no_place (transform_broken (unplaced_prog ts)) (transform_broken ts) (transform_kept ts) ts

-- programs that differ in places alone have as many places at which their types are wrong
pub same_broken : (q p : List ProgTransform) → unplaced_prog q ≡ unplaced_prog p → length (broken q) ≡ length (broken p)
same_broken q p e = sym (length_kept no_place (broken q)) ∙ ap length (sym (all_kept q) ∙ ap broken e ∙ all_kept p) ∙ length_kept no_place (broken p)
