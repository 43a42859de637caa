-- Plans: the matrices that their calls name are there, and the matrices that they declare are as they have to be.
use Rattle.std.proofs.Common.{◌≡◌, ℕ, ◌+◌, ◌<◌, ◌≤◌, Bool, true, false, List, [], ◌∷◌, Option, Some, None, length, map, refl, arith}
use Rattle.std.specs.List.{AllByRecursion, flat_map}
use Rattle.std.proofs.lemmas.List.{length-map}
use Rattle.std.specs.Option.{IfSome}
use Rattle.pb_syntax.specs.Forms.{FormValue}
use Rattle.pb_syntax.specs.Stmts.{StmtTree}
use Rattle.pb_syntax.specs.Stmts as text
use Rattle.pb_syntax.specs.WithinLimits.{DimsWithin, IsNamed, StmtWithin}
use Rattle.pb_values.specs.Name.{NameValue}
use Rattle.pb_program.specs.declared.meaning.Meaning.{Meaning}
use Rattle.pb_program.specs.declared.meaning.Meaning.TheVariants as meaning
use Rattle.pb_program.specs.declared.meaning.Named.{Named}
use Rattle.pb_program.specs.declared.meaning.Callee.{Callee}
use Rattle.pb_program.specs.declared.meaning.Callee.TheVariants as callee
use Rattle.pb_program.specs.declared.plan.Slot.{Slot}
use Rattle.pb_program.specs.declared.plan.Slot.TheVariants as slot
use Rattle.pb_program.specs.Exprs.{ExprValue, ExprValues, no_exprs, an_expr}
use Rattle.pb_program.specs.Exprs as e
use Rattle.pb_program.specs.Stmts.{StmtValue, stmts}
use Rattle.pb_program.specs.Stmts as s
use Rattle.pb_program.specs.Forms.{DeclValue}
use Rattle.pb_program.specs.Plans.{PlanCallValue, all_some, argument_slot, argument_slots, call_by, call_of, called_by, calls_of, declared_dims, items, put, slot_of, target_slots, transform_call}
use Rattle.pb_program.specs.WellFormed.{Around, AreExprs, AreStmts, IsCallee, IsDecl, IsExpr, IsPlanCall, IsStmt, IsThere, PlanFits, SlotIsThere}
use Rattle.pb_names.specs.Bodies.{Visible, after, declare, local_form, stmt_of}
use Rattle.pb_names.specs.Rules.{body_of, decl_of, kind_by, locals_of, plan_by}
use Rattle.pb_names.proofs.ListFits.{all_same}
use Rattle.pb_names.proofs.FormsFit.{Fit, collected_fits, constant_fits}

module _ (a : Around) (l : ℕ) (names : List (List ℕ × Meaning)) (fit : Fit a l names) where
  pub decl_fits : (n : NameValue) (dims : List FormValue) → IsNamed n → DimsWithin dims → IsDecl a.sizes (decl_of names n dims)
  decl_fits n [] named w = let none = w.0.0 in absurd (omega arith)
  decl_fits n (f ∷ []) named w = record {
    name = named;
    dims = (omega arith, omega arith);
    w = (collected_fits a l names fit f w.1.0).rest;
    h = constant_fits a.sizes 1 (omega arith);
    flat = λ e. refl;
  }
  decl_fits n (f ∷ g ∷ rest) named w = record {
    name = named;
    dims = (omega arith, omega arith);
    w = (collected_fits a l names fit f w.1.0).rest;
    h = (collected_fits a l names fit g w.1.1.0).rest;
    flat = λ e. absurd (omega arith);
  }

  -- as many dimensions as the statements declare
  decl_dims : (n : NameValue) (dims : List FormValue) → DimsWithin dims → (decl_of names n dims).dims ≡ length dims
  decl_dims n [] w = let none = w.0.0 in absurd (omega arith)
  decl_dims n (f ∷ []) w = refl
  decl_dims n (f ∷ g ∷ []) w = refl
  decl_dims n (f ∷ g ∷ h ∷ rest) w = let many = w.0.1 in absurd (omega arith)

  locals_dims : (v : Visible) (ss : List StmtTree) → AllByRecursion (StmtWithin 1) ss → map (λ d. d.dims) (locals_of names ss) ≡ flat_map declared_dims (body_of v ss)
  locals_dims v [] w = refl
  locals_dims v (text.let_matrix at n dims ∷ ss) w =
      rw (decl_dims n dims w.0.1, locals_dims (declare v n meaning.Matrix) ss w.1, length-map dims (local_form v)) refl
  locals_dims v (x ∷ ss) w = locals_dims (after v x) ss w.1

  locals_fit : (ss : List StmtTree) → AllByRecursion (StmtWithin 1) ss → AllByRecursion (IsDecl a.sizes) (locals_of names ss)
  locals_fit [] w = tt {0}
  locals_fit (text.let_matrix at n dims ∷ ss) w = (decl_fits n dims w.0.0 w.0.1, locals_fit ss w.1)
  locals_fit (s ∷ ss) w = locals_fit ss w.1

module _ (a : Around) where
  -- the matrices that names name
  slot_there : (l : ℕ) (m : Meaning) → IsThere a l m → IfSome (slot_of m) (SlotIsThere a l)
  slot_there l (meaning.Output k) h = h
  slot_there l (meaning.Read k) h = h
  slot_there l (meaning.Matrix k) h = h
  slot_there l m h = tt {0}

  argument_there : (l : ℕ) (x : ExprValue) → IsExpr a l x → IfSome (argument_slot x) (SlotIsThere a l)
  argument_there l (e.name n) h = slot_there l n.what h
  argument_there l x h = tt {0}

  put_there : {B : Type 0} (P : B → Type 0) (o : Option B) (rest : Option (List B)) → IfSome o P → IfSome rest (AllByRecursion P)
      → IfSome (put o rest) (AllByRecursion P)
  put_there P (Some x) (Some rest) h k = (h, k)
  put_there P (Some x) None h k = tt {0}
  put_there P None rest h k = tt {0}

  some_there : {A B : Type 0} (f : A → Option B) (W : A → Type 0) (P : B → Type 0) → ((x : A) → W x → IfSome (f x) P) → (xs : List A) → AllByRecursion W xs
      → IfSome (all_some f xs) (AllByRecursion P)
  some_there f W P h [] w = tt {0}
  some_there f W P h (x ∷ xs) w = put_there P (f x) (all_some f xs) (h x w.0) (some_there f W P h xs w.1)

  module _ (l : ℕ) where
    items_there : (xs : ExprValues) → AreExprs a l xs → AllByRecursion (IsExpr a l) (items xs)
    items_there no_exprs h = tt {0}
    items_there (an_expr x rest) h = (h.0, items_there rest h.1)

    call_by_there : (t : ℕ) (targets arguments : Option (List Slot)) → t < a.transforms → IfSome targets (AllByRecursion (SlotIsThere a l))
        → IfSome arguments (AllByRecursion (SlotIsThere a l))
        → IfSome (call_by t targets arguments) (IsPlanCall a l)
    call_by_there t (Some ts) (Some xs) there h k = record { transform = there; targets = h; arguments = k }
    call_by_there t (Some ts) None there h k = tt {0}
    call_by_there t None arguments there h k = tt {0}

    transform_there : (c : Callee) (ns : List Named) (xs : List ExprValue) → IsCallee a c → AllByRecursion (λ n. IsThere a l n.what) ns
        → AllByRecursion (IsExpr a l) xs
        → IfSome (transform_call c (target_slots ns) (argument_slots xs)) (IsPlanCall a l)
    transform_there (callee.Function f) ns xs there h k = tt {0}
    transform_there (callee.Transform t) ns xs there h k = call_by_there t (target_slots ns) (argument_slots xs) there
        (some_there (λ n. slot_of n.what) (λ n. IsThere a l n.what) (SlotIsThere a l) (λ n there. slot_there l n.what there) ns h)
        (some_there argument_slot (IsExpr a l) (SlotIsThere a l) (argument_there l) xs k)

    assigned_there : (n : Named) (x : ExprValue) → IsThere a l n.what → IsExpr a l x → IfSome (called_by n x) (IsPlanCall a l)
    assigned_there n (e.call c xs) h k = transform_there c.what (n ∷ []) (items xs) k.0 (h, tt {0}) (items_there xs k.1)
    assigned_there n x h k = tt {0}

    call_there : (x : StmtValue) → IsStmt a l x → IfSome (call_of x) (IsPlanCall a l)
    call_there (s.assign n x) h = assigned_there n x h.0 h.1
    call_there (s.call_stmt ns c xs) h = transform_there c.what ns xs h.1 h.0 h.2
    call_there x h = tt {0}

  -- with more locals
  slot_still : (l m : ℕ) → l ≤ m → (s : Slot) → SlotIsThere a l s → SlotIsThere a m s
  slot_still l m most (slot.Local k) h = omega arith
  slot_still l m most s h = h

  call_still : (l m : ℕ) → l ≤ m → (o : Option PlanCallValue) → IfSome o (IsPlanCall a l) → IfSome o (IsPlanCall a m)
  call_still l m most None h = tt {0}
  call_still l m most (Some c) h = record {
    transform = h.transform;
    targets = all_same (SlotIsThere a l) (SlotIsThere a m) (slot_still l m most) c.targets h.targets;
    arguments = all_same (SlotIsThere a l) (SlotIsThere a m) (slot_still l m most) c.arguments h.arguments;
  }

  module _ (names : List (List ℕ × Meaning)) (m : ℕ) where
    next_call : (v : Visible) (x : StmtTree) (rest : Option (List PlanCallValue)) → v.locals ≤ m → IsStmt a v.locals (stmt_of v x)
        → IfSome rest (AllByRecursion (IsPlanCall a m))
        → IfSome (put (call_of (stmt_of v x)) rest) (AllByRecursion (IsPlanCall a m))
    next_call v x rest few h others =
        let o = call_of (stmt_of v x) in
        put_there (IsPlanCall a m) o rest (call_still v.locals m few o (call_there v.locals (stmt_of v x) h)) others

    calls_there : (v : Visible) (ss : List StmtTree) → v.locals + length (locals_of names ss) ≤ m → AreStmts a v.locals (stmts (body_of v ss))
        → IfSome (calls_of (body_of v ss)) (AllByRecursion (IsPlanCall a m))
    calls_there v [] few h = tt {0}
    calls_there v (text.let_matrix at n dims ∷ ss) few h = calls_there (declare v n meaning.Matrix) ss (omega arith) h.1
    calls_there v (text.assign n x ∷ ss) few h = next_call v (text.assign n x) (calls_of (body_of v ss)) (omega arith) h.0 (calls_there v ss few h.1)
    calls_there v (text.call_stmt ns n xs ∷ ss) few h =
        next_call v (text.call_stmt ns n xs) (calls_of (body_of v ss)) (omega arith) h.0 (calls_there v ss few h.1)
    calls_there v (x ∷ ss) few h = tt {0}

  plan_by_fits : (body : List StmtValue) (locals : List DeclValue) (planned cell : Bool) (o : Option (List PlanCallValue)) → calls_of body ≡ o
      → map (λ d. d.dims) locals ≡ flat_map declared_dims body → AllByRecursion (IsDecl a.sizes) locals
      → IfSome o (AllByRecursion (IsPlanCall a (length locals))) → PlanFits a (kind_by planned cell) body (plan_by planned locals o)
  plan_by_fits body locals true cell (Some calls) e same h k = (e, same, record { locals = h; calls = k })
  plan_by_fits body locals true cell None e same h k = e
  plan_by_fits body locals false true o e same h k = tt {0}
  plan_by_fits body locals false false o e same h k = tt {0}

  -- the plan of a rule
  pub plan_fits : (v : Visible) → Fit a v.locals v.names → v.locals ≡ 0 → (ss : List StmtTree) (planned cell : Bool) → AllByRecursion (StmtWithin 1) ss
      → AreStmts a v.locals (stmts (body_of v ss))
      → PlanFits a (kind_by planned cell) (body_of v ss) (plan_by planned (locals_of v.names ss) (calls_of (body_of v ss)))
  plan_fits v fit none ss planned cell w h =
      plan_by_fits (body_of v ss) (locals_of v.names ss) planned cell (calls_of (body_of v ss)) refl (locals_dims a v.locals v.names fit v ss w) (locals_fit a v.locals v.names fit ss w)
      (calls_there v.names (length (locals_of v.names ss)) v ss (omega arith) h)
