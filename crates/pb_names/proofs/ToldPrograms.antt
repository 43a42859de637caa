-- The faults of a program are told in the order of its tokens.
use Rattle.std.proofs.Common.{◌≡◌, ℕ, ◌≤◌, Bool, true, false, ◌&&◌, ◌||◌, ◌==◌, not, if◌then◌else◌, List, [], ◌∷◌, ◌++◌, map, Option, Some, None, is_some, refl, ap, subst, sym, ◌∙◌, arith}
use Rattle.std.specs.List.{AllByRecursion, flat_map}
use Rattle.pb_values.specs.Name.{NameValue}
use Rattle.pb_syntax.specs.declared.refusal.Refusal.{Refusal}
use Rattle.pb_syntax.specs.declared.token.Token.{Token}
use Rattle.pb_syntax.specs.declared.tree.form.TermText.{TermText}
use Rattle.pb_syntax.specs.declared.tree.view.CondText.{CondText}
use Rattle.pb_syntax.specs.declared.tree.view.MarkText.{MarkText}
use Rattle.pb_syntax.specs.declared.tree.view.UseText.{UseText}
use Rattle.pb_syntax.specs.declared.tree.view.ViewText.{ViewText}
use Rattle.pb_syntax.specs.Forms.{FormValue, DeclValue}
use Rattle.pb_syntax.specs.Kinds.{name_in}
use Rattle.pb_syntax.specs.Lexemes.{AreLexemes, RiseBetween}
use Rattle.pb_syntax.specs.Limits.{alone}
use Rattle.pb_syntax.specs.Trees.{RuleTree, TransformTree}
use Rattle.pb_syntax.specs.Grammar.{Commas, IsCond, IsConds, IsDecl, IsDecls, IsForm, IsMark, IsMinimum, IsMinimums, IsProgram, IsReads, IsRule, IsRules, IsTerm, IsThrough, IsTransform, IsTransforms, IsUse, IsView}
use Rattle.pb_syntax.specs.Grammar as g
use Rattle.pb_program.specs.declared.meaning.Meaning.TheVariants as meaning
use Rattle.pb_names.specs.declared.fault.Fault.{Fault}
use Rattle.pb_names.specs.declared.fault.Fault.TheVariants as fault
use Rattle.pb_names.specs.declared.matrices.Matrix.{Matrix}
use Rattle.pb_names.specs.Faults.{bad_output, duplicate, unknown}
use Rattle.pb_names.specs.Names.{look}
use Rattle.pb_names.specs.Places.{NeverFalls, place_of, told_at}
use Rattle.pb_names.specs.Turns.{turn_faults}
use Rattle.pb_names.specs.Bodies.{Visible, function_of, is_visible}
use Rattle.pb_names.specs.Views.{Matrices, Place, after_out, after_outs, after_read, are_free, bind, binders, binders_in, bound_faults, cond_faults, coordinate_names, coordinates_faults, forms_of, is_bad_output, is_in_views, is_matrix, is_size, out_faults_at, out_scope, put_name, read_faults_at, reads_faults, start, view_form_faults, view_name_faults}
use Rattle.pb_names.specs.Rules.{inner, is_single, rule_faults}
use Rattle.pb_names.specs.Transforms.{IsRefused, IsRefusedFor, Minimums, all_names, between, faults_of, given, header_faults, matrices_of, matrix_faults, minimum_faults, named_faults, next_matrix, next_minimum, next_transform, refusal_of, seen}
use Rattle.pb_names.proofs.ToldLemmas.{Of, Told, bad_output_of, dims_told, duplicate_of, form_told, in_order, items_told, join, named, not_bound_of, nothing, past, skip, stay, turns_told, unknown_of}
use Rattle.pb_names.proofs.ToldBodies.{body_told}

-- faults of the name that a form is
module _ (n : NameValue) (fs : List Fault) (of : Of n fs) where
  same_name : (k : NameValue) → Some k ≡ Some n → Of k fs
  same_name k e = let is : n ≡ k = cc in subst (λ m. Of m fs) is of

  term_alone : {m : Bool} {t : TermText} {all rest : List Token} → IsTerm m t all rest → (b : Bool) → (if b then t.name else None) ≡ Some n → Told fs all rest
  term_alone (g.number_term i) true e = cc
  term_alone (g.name_term {t = t} i) true e = named fs i (same_name (name_in t) e)
  term_alone (g.multiple {n = t} i j l) true e = skip (skip (named fs l (same_name (name_in t) e)))
  term_alone (g.fraction {n = t} i j l least most) true e = past (past (named fs i (same_name (name_in t) e)))
  term_alone i false e = cc

  form_alone : {f : FormValue} {all rest : List Token} → IsForm f all rest → alone f ≡ Some n → Told fs all rest
  form_alone (g.plain_form {x = x} {xs = []} t g.no_terms) e = term_alone t (x.factor == 1 && (x.quotient == 0)) e
  form_alone (g.plain_form {xs = x ∷ xs} t ts) e = cc
  form_alone (g.minus_form i t ts) e = cc

module _ (v : Visible) where
  view_name_of : (n : NameValue) → Of n (view_name_faults v n)
  view_name_of n = unknown_of (not (is_in_views (look n.bytes v.names))) n

  view_form_told : {f : FormValue} {all rest : List Token} → IsForm f all rest → Told (view_form_faults v f) all rest
  view_form_told i = form_told (view_name_faults v) view_name_of i

  view_told : {w : ViewText} {all rest : List Token} → IsView w all rest → Told (flat_map (view_form_faults v) (forms_of w)) all rest
  view_told g.whole = nothing
  view_told (g.cell_x d w o x c) = skip (skip (skip (join (view_form_told x) (skip nothing))))
  view_told (g.cell_xy d w o x m y c) = skip (skip (skip (join (view_form_told x) (skip (join (view_form_told y) (skip nothing))))))
  view_told (g.row d w o y c) = skip (skip (skip (join (view_form_told y) (skip nothing))))
  view_told (g.column d w o x c) = skip (skip (skip (join (view_form_told x) (skip nothing))))
  view_told (g.region_2 d w o a m b c) = skip (skip (skip (join (view_form_told a) (skip (join (view_form_told b) (skip nothing))))))
  view_told (g.region_4 d w o a m b p e q f c) =
      let second = join (view_form_told e) (skip (join (view_form_told f) (skip nothing))) in
      skip (skip (skip (join (view_form_told a) (skip (join (view_form_told b) (skip second))))))

  cond_told : (c : CondText) (all rest : List Token) → IsCond c all rest → Told (cond_faults v c) all rest
  cond_told c all rest (g.a_cond a r b) = join (view_form_told a) (skip (view_form_told b))

  conds_told : {cs : List CondText} {all rest : List Token} → IsConds cs all rest → Told (flat_map (cond_faults v) cs) all rest
  conds_told g.no_conds = nothing
  conds_told (g.some_conds {c = c} {all = all} {mid = mid} i h more) = skip (join (cond_told c all mid h) (items_told (cond_faults v) cond_told more))

module _ (ms : Matrices) where
  bound_of : (v : Visible) (n : NameValue) → Of n (bound_faults ms v n)
  bound_of v n = duplicate_of (is_matrix ms n.bytes || is_visible v n) n

  -- the coordinates of an output, where they are names alone and where they aren't
  module _ (v : Visible) (u : UseText) (all rest : List Token) (plain : Told (flat_map (view_form_faults v) (forms_of u.view)) all rest) where
    one_by : (x : FormValue) → ((n : NameValue) (fs : List Fault) → alone x ≡ Some n → Of n fs → Told fs all rest) → (o : Option NameValue) → alone x ≡ o
        → Told (coordinates_faults ms v u (binders_in v (put_name o (Some [])))) all rest
    one_by x names None e = plain
    one_by x names (Some n) e = by (are_free v (n ∷ []))
      where
        by : (b : Bool) → Told (coordinates_faults ms v u (if b then n ∷ [] else [])) all rest
        by true = names n (bound_faults ms v n) e (bound_of v n)
        by false = plain

    two_by : (x y : FormValue) → ((n m : NameValue) (fs gs : List Fault) → alone x ≡ Some n → alone y ≡ Some m → Of n fs → Of m gs → Told (fs ++ gs) all rest)
        → (o p : Option NameValue) → alone x ≡ o → alone y ≡ p → Told (coordinates_faults ms v u (binders_in v (put_name o (put_name p (Some []))))) all rest
    two_by x y names None None e d = plain
    two_by x y names None (Some m) e d = plain
    two_by x y names (Some n) None e d = plain
    two_by x y names (Some n) (Some m) e d = by (are_free v (n ∷ m ∷ []))
      where
        by : (b : Bool) → Told (coordinates_faults ms v u (if b then n ∷ m ∷ [] else [])) all rest
        by true = names n m (bound_faults ms v n) (bound_faults ms (bind v n meaning.RuleX) m) e d (bound_of v n) (bound_of (bind v n meaning.RuleX) m)
        by false = plain

  coordinates_told : (v : Visible) (n b : NameValue) (w : ViewText) (all rest : List Token) → IsView w all rest
      → Told (coordinates_faults ms v (record { matrix = n; view = w; bound = b }) (binders_in v (coordinate_names w))) all rest
  coordinates_told v n b w all rest (g.cell_x {x = x} d i o h c) =
      one_by v (record { matrix = n; view = w; bound = b }) all rest (view_told v (g.cell_x d i o h c)) x
      (λ n fs e of. skip (skip (skip (past (form_alone n fs of h e))))) (alone x) refl
  coordinates_told v n b w all rest (g.cell_xy {x = x} {y = y} d i o h m k c) =
      two_by v (record { matrix = n; view = w; bound = b }) all rest (view_told v (g.cell_xy d i o h m k c)) x y
      (λ n m fs gs e d of og. skip (skip (skip (join (form_alone n fs of h e) (skip (past (form_alone m gs og k d))))))) (alone x) (alone y) refl refl
  coordinates_told v n b w all rest g.whole = view_told v g.whole
  coordinates_told v n b w all rest (g.row d i o y c) = view_told v (g.row d i o y c)
  coordinates_told v n b w all rest (g.column d i o x c) = view_told v (g.column d i o x c)
  coordinates_told v n b w all rest (g.region_2 d i o x m y c) = view_told v (g.region_2 d i o x m y c)
  coordinates_told v n b w all rest (g.region_4 d i o x m y p e q f c) = view_told v (g.region_4 d i o x m y p e q f c)

  out_told : (single : Bool) (p : Place) (u : UseText) (all rest : List Token) → IsUse u all rest → Told (out_faults_at ms single p u) all rest
  out_told single p u whole rest (g.a_use {v = w} {m = m} {b = b} {all = all} i h j) =
      let n = name_in m in
      let bad = is_bad_output ms single u (binders p.visible u) in
      join (stay (unknown (not (is_matrix ms n.bytes)) n) i (unknown_of (not (is_matrix ms n.bytes)) n)
      (stay (bad_output bad n) i (bad_output_of bad n) (skip (coordinates_told p.visible n (name_in b) w all (b ∷ rest) h))))
      (named (bound_faults ms (out_scope p.visible u) (name_in b)) j (bound_of (out_scope p.visible u) (name_in b)))

  read_told : (p : Place) (u : UseText) (all rest : List Token) → IsUse u all rest → Told (read_faults_at ms p u) all rest
  read_told p u whole rest (g.a_use {m = m} {b = b} i h j) =
      let n = name_in m in
      join (stay (unknown (not (is_matrix ms n.bytes)) n) i (unknown_of (not (is_matrix ms n.bytes)) n) (skip (view_told p.visible h)))
      (named (bound_faults ms p.visible (name_in b)) j (bound_of p.visible (name_in b)))

  reads_told : (v : Visible) {us : List UseText} {all rest : List Token} → IsReads us all rest → Told (reads_faults ms v us) all rest
  reads_told v g.no_reads = nothing
  reads_told v (g.some_reads {u = u} {all = all} {mid = mid} h more) =
      join (read_told (start v) u all mid h) (turns_told after_read (read_faults_at ms) read_told (after_read (start v) u) more)

  mark_told : {m : MarkText} {all rest : List Token} → IsMark m all rest → Told [] all rest
  mark_told g.unmarked = nothing
  mark_told (g.primary i) = skip nothing
  mark_told (g.secondary i) = skip nothing
  mark_told (g.priority i o n c) = skip (skip (skip (skip nothing)))

  rule_told : (v : Visible) (r : RuleTree) (all rest : List Token) → IsRule r all rest → Told (rule_faults ms v r) all rest
  rule_told v r whole rest (g.a_rule {u = u} {us = us} {mid₁ = mid1} {mid₂ = mid2} m t o h more c f p rs q cs ss) =
      let single = is_single r.outs in
      join (mark_told m) (skip (skip (join
      (join (out_told single (start v) u mid1 mid2 h) (turns_told after_out (out_faults_at ms single) (out_told single) (after_out (start v) u) more))
      (skip (skip (skip (join (reads_told (after_outs v r.outs) rs) (skip (join (conds_told (inner v r) cs) (body_told (inner v r) ss))))))))))

  rules_told : (v : Visible) {rs : List RuleTree} {all rest : List Token} → IsRules rs all rest → Told (flat_map (rule_faults ms v) rs) all rest
  rules_told v g.no_rules = nothing
  rules_told v (g.one_rule {r = r} {all = all} {mid = mid} h more) = join (rule_told v r all mid h) (rules_told v more)

-- headers
module _ (v : Visible) where
  header_of : (n : NameValue) → Of n (header_faults v n)
  header_of n = not_bound_of (not (is_size (look n.bytes v.names))) n

  minimum_told : (known : Minimums) (m : NameValue × ℕ) (all rest : List Token) → IsMinimum m all rest → Told (minimum_faults v known m) all rest
  minimum_told known m all rest (g.a_minimum {n = t} i j l) =
      let n = name_in t in
      let d = is_some (look n.bytes known) in
      past (past (stay (duplicate d n) i (duplicate_of d n) (named (header_faults v n) i (header_of n))))

  minimums_told : {ms : List (NameValue × ℕ)} {all rest : List Token} → IsMinimums ms all rest
      → Told (turn_faults next_minimum (minimum_faults v) [] ms) all rest
  minimums_told g.no_minimums = nothing
  minimums_told (g.some_minimums {x = x} {all = all} {mid = mid} w i more) =
      skip (join (minimum_told [] x all mid i) (turns_told next_minimum (minimum_faults v) minimum_told (next_minimum [] x) more))

  decl_told : (known : List (List ℕ × Matrix)) (d : DeclValue) (all rest : List Token) → IsDecl d all rest → Told (matrix_faults v known d) all rest
  decl_told known d all rest (g.a_decl {n = t} i o ds) =
      let n = name_in t in
      let b = is_size (look n.bytes v.names) || is_some (look n.bytes known) in
      stay (duplicate b n) i (duplicate_of b n) (skip (skip (dims_told (header_faults v) header_of ds)))

  decls_told : (known : List (List ℕ × Matrix)) {ds : List DeclValue} {all rest : List Token} → IsDecls ds all rest
      → Told (turn_faults next_matrix (matrix_faults v) known ds) all rest
  decls_told known (g.some_decls {d = d} {all = all} {mid = mid} i more) =
      join (decl_told known d all mid i) (turns_told next_matrix (matrix_faults v) decl_told (next_matrix known d) more)

  through_told : (known : List (List ℕ × Matrix)) {ds : List DeclValue} {all rest : List Token} → IsThrough ds all rest
      → Told (turn_faults next_matrix (matrix_faults v) known ds) all rest
  through_told known g.no_through = nothing
  through_told known (g.some_through i ds) = skip (decls_told known ds)

module _ (transforms : List (List ℕ × ℕ)) where
  transform_told : (known : List (List ℕ × ℕ)) (t : TransformTree) (all rest : List Token) → IsTransform t all rest
      → Told (named_faults transforms known t) all rest
  transform_told known t whole rest (g.a_transform {r = r} {n = token} {mid₄ = mid4} {mid₅ = mid5} i j ms f from kept o to b h more c) =
      let n = name_in token in
      let v = seen transforms t in
      let d = is_some (function_of n.bytes) || is_some (look n.bytes known) in
      skip (stay (duplicate d n) j (duplicate_of d n) (skip (join (minimums_told v ms) (skip (join
      (join (decls_told v [] from) (join (through_told v (given t) kept) (skip (decls_told v (between t) to))))
      (skip (join (rule_told (matrices_of t) v r mid4 mid5 h) (past (rules_told (matrices_of t) v more)))))))))

  transforms_told : (known : List (List ℕ × ℕ)) {ts : List TransformTree} {all rest : List Token} → IsTransforms ts all rest
      → Told (turn_faults next_transform (named_faults transforms) known ts) all rest
  transforms_told known g.no_transforms = nothing
  transforms_told known (g.one_transform {x = x} {all = all} {mid = mid} i more) =
      join (transform_told known x all mid i) (transforms_told (next_transform known x) more)

program_told : (tree : List TransformTree) (ts : List Token) → IsProgram tree ts → Told (faults_of tree) ts []
program_told tree ts (g.a_program {x = x} {mid = mid} i more) =
    join (transform_told (all_names tree) [] x ts mid i) (transforms_told (all_names tree) (next_transform [] x) more)

-- the faults of a program stand in the order of its text
pub faults_in_order : (tree : List TransformTree) (ts : List Token) (least end : ℕ) → IsProgram tree ts → AreLexemes ts → RiseBetween least end ts
    → NeverFalls (map place_of (faults_of tree))
faults_in_order tree ts least end is are rise = (in_order least end (program_told tree ts is) are rise).1

told_is : (f : Fault) → told_at (refusal_of f) ≡ place_of f
told_is (fault.Duplicate n) = refl
told_is (fault.Unknown n) = refl
told_is (fault.NotBound n) = refl
told_is (fault.BadOutput at) = refl
told_is fault.Memory = refl

not_before : (p : ℕ) (fs : List Fault) → AllByRecursion (λ q. p ≤ q) (map place_of fs) → AllByRecursion (λ f. p ≤ place_of f) fs
not_before p [] h = tt {0}
not_before p (f ∷ fs) h = (h.0, not_before p fs h.1)

least_by : (fs : List Fault) (e : Refusal) → NeverFalls (map place_of fs) → IsRefusedFor fs e → AllByRecursion (λ f. told_at e ≤ place_of f) fs
least_by [] e order is = elim is [ ]
least_by (f ∷ fs) e order is =
    let at : place_of f ≡ told_at e = sym (ap told_at is ∙ told_is f) in
    (omega arith, subst (λ p. AllByRecursion (λ f. p ≤ place_of f) fs) at (not_before (place_of f) fs order.0))

-- and the one that is told stands at the least place
pub least_told : (tree : List TransformTree) (ts : List Token) (least end : ℕ) (e : Refusal) → IsProgram tree ts → AreLexemes ts → RiseBetween least end ts
    → IsRefused tree e
    → AllByRecursion (λ f. told_at e ≤ place_of f) (faults_of tree)
least_told tree ts least end e is are rise told = least_by (faults_of tree) e (faults_in_order tree ts least end is are rise) told
