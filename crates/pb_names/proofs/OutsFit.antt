-- The outputs of a rule: which rule variables each binds, and what it may be.
use Rattle.std.proofs.Common.{◌≡◌, ◌≢◌, ℕ, suc, ◌+◌, ◌≤◌, pos, Bool, true, false, ◌&&◌, ◌||◌, not, if◌then◌else◌, List, [], ◌∷◌, Option, Some, None, is_some, ◌⊎◌, inl, inr, length, refl, ap, subst, sym, ◌∙◌, arith}
use Rattle.std.specs.List.{AllByRecursion}
use Rattle.std.proofs.lemmas.Bool.{ltb-false, or_parts}
use Rattle.pb_values.specs.Name.{NameValue}
use Rattle.pb_syntax.specs.declared.tree.view.UseText.{UseText}
use Rattle.pb_syntax.specs.declared.tree.view.ViewText.{ViewText}
use Rattle.pb_syntax.specs.declared.tree.view.ViewText.TheVariants as text
use Rattle.pb_syntax.specs.Forms.{FormValue}
use Rattle.pb_syntax.specs.Limits.{alone}
use Rattle.pb_syntax.specs.WithinLimits.{UseWithin}
use Rattle.pb_program.specs.declared.meaning.Meaning.{Meaning}
use Rattle.pb_program.specs.declared.meaning.Meaning.TheVariants as meaning
use Rattle.pb_program.specs.declared.view.Read.{Read}
use Rattle.pb_program.specs.declared.view.ReadView.TheVariants as to
use Rattle.pb_program.specs.Forms.{nothing}
use Rattle.pb_program.specs.WellFormed.{Around, Binds, IsFree, IsOutput, IsView, KindFits, by_output, just_x, just_y, variables}
use Rattle.pb_names.specs.declared.matrices.Matrix.{Matrix}
use Rattle.pb_names.specs.Faults.{unknown}
use Rattle.pb_names.specs.Names.{look}
use Rattle.pb_names.specs.Sums.{add_found, collected}
use Rattle.pb_names.specs.Turns.{after_turns}
use Rattle.pb_names.specs.Bodies.{Visible, is_visible}
use Rattle.pb_names.specs.Views.{Matrices, Place, after_out, after_outs, are_free, bind, binders, binders_in, bound_faults, coordinate_names, coordinates_faults, dims_of, has_names, is_bad_output, is_given, is_matrix, is_row, kind_of, matrix_or, out_at, out_faults, out_faults_at, out_of, out_scope, outs_faults, outs_of, put_name, repeats, start, with_variables, x0_of, y0_of}
use Rattle.pb_names.specs.Rules.{is_cell, is_single, kind_by}
use Rattle.pb_names.proofs.ListFits.{all_same, all_three, both, turns_fit}
use Rattle.pb_names.proofs.LookLemmas.{alone_is, look_kept, look_last, none_bad, none_duplicate, none_found, none_unknown}
use Rattle.pb_names.proofs.BodiesFit.{Sees}
use Rattle.pb_names.proofs.ViewsFit.{MatrixThere, bound, read_there}

-- a view is a cell whose coordinates are names
record One (w : ViewText) (bs : List NameValue) : Type 0 where
  form : FormValue
  x : NameValue
  view : w ≡ text.Cell form None
  is_x : alone form ≡ Some x
  names : bs ≡ x ∷ []

record Two (w : ViewText) (bs : List NameValue) : Type 0 where
  first : FormValue
  second : FormValue
  x : NameValue
  y : NameValue
  view : w ≡ text.Cell first (Some second)
  is_x : alone first ≡ Some x
  is_y : alone second ≡ Some y
  names : bs ≡ x ∷ y ∷ []

abbrev Shape : ViewText → List NameValue → Type 0
Shape w bs = (bs ≡ []) ⊎ (One w bs ⊎ Two w bs)

module _ (v : Visible) where
  one_by : (f : FormValue) (o : Option NameValue) → alone f ≡ o → Shape (text.Cell f None) (binders_in v (put_name o (Some [])))
  one_by f None e = inl refl
  one_by f (Some n) e = by (are_free v (n ∷ []))
    where
      by : (b : Bool) → Shape (text.Cell f None) (if b then n ∷ [] else [])
      by true = inr (inl (record { form = f; x = n; view = refl; is_x = e; names = refl }))
      by false = inl refl

  two_by : (f g : FormValue) (o p : Option NameValue) → alone f ≡ o → alone g ≡ p
      → Shape (text.Cell f (Some g)) (binders_in v (put_name o (put_name p (Some []))))
  two_by f g None None e d = inl refl
  two_by f g None (Some m) e d = inl refl
  two_by f g (Some n) None e d = inl refl
  two_by f g (Some n) (Some m) e d = by (are_free v (n ∷ m ∷ []))
    where
      by : (b : Bool) → Shape (text.Cell f (Some g)) (if b then n ∷ m ∷ [] else [])
      by true = inr (inr (record { first = f; second = g; x = n; y = m; view = refl; is_x = e; is_y = d; names = refl }))
      by false = inl refl

  shape : (w : ViewText) → Shape w (binders_in v (coordinate_names w))
  shape (text.Cell x None) = one_by x (alone x) refl
  shape (text.Cell x (Some y)) = two_by x y (alone x) (alone y) refl refl
  shape w = inl refl

-- a name alone that is a rule variable
module _ (names : List (List ℕ × Meaning)) (f : FormValue) (n : NameValue) (e : alone f ≡ Some n) where
  x_alone : look n.bytes names ≡ Some meaning.RuleX → collected names f ≡ just_x
  x_alone is = alone_is names n f e ∙ ap (λ o. add_found nothing o 0 (pos 1)) is

  y_alone : look n.bytes names ≡ Some meaning.RuleY → collected names f ≡ just_y
  y_alone is = alone_is names n f e ∙ ap (λ o. add_found nothing o 0 (pos 1)) is

no_row : (w : ViewText) → is_row w ≡ false → (kind_of w ≢ to.Row) × (kind_of w ≢ to.Column)
no_row (text.Row y) e = cc
no_row (text.Column x) e = cc
no_row w e = (λ d. cc, λ d. cc)

not_given : (ms : Matrices) (o : Option Matrix) → is_some o ≡ true → is_given ms o ≡ false → ms.inputs ≤ (matrix_or o).number
not_given ms (Some m) there e = ltb-false m.number ms.inputs e
not_given ms None there e = cc

single_by : (single : Bool) (bs : List NameValue) → has_names bs ≡ true → (not single && has_names bs) ≡ false → single ≡ true
single_by true bs some e = refl
single_by false bs some e = cc

module _ (a : Around) (ms : Matrices) (matrices : ℕ) (known : AllByRecursion (λ e. MatrixThere matrices e.1) ms.names) where
  -- with so many rule variables
  abbrev with_count : ℕ → Around
  with_count k = record a { variables = k }

  -- nothing is a rule variable yet, so this is so for any count of them
  abbrev pub Free : Visible → Type 0
  Free v = ((k : ℕ) → Sees (with_count k) v) × (v.locals ≡ 0)

  no_name : (v : Visible) (n : NameValue) → bound_faults ms v n ≡ [] → look n.bytes v.names ≡ None
  no_name v n e =
      let b = is_matrix ms n.bytes in
      none_found (look n.bytes v.names) (or_parts b (is_visible v n) (none_duplicate (b || is_visible v n) n e)).1

  -- an output has no rule variables, or it stands alone and they are its coordinates
  abbrev Outcome : Bool → Visible → UseText → Type 0
  Outcome single v u = (IsFree (out_of ms v u) × (binders v u ≡ [])) ⊎ (Binds (out_of ms v u) × (single ≡ true) × (has_names (binders v u) ≡ true))

  -- `k` is how many they are
  record OutFits (single : Bool) (v : Visible) (u : UseText) : Type 0 where
    k : ℕ
    count : by_output (out_of ms v u).x0.x (out_of ms v u).dims ≡ k
    sees : Sees (with_count k) (out_scope v u)
    locals : (out_scope v u).locals ≡ v.locals
    view : IsView a.sizes k matrices (out_of ms v u)
    made : ms.inputs ≤ (out_of ms v u).matrix
    rows : ((out_of ms v u).view ≢ to.Row) × ((out_of ms v u).view ≢ to.Column)
    binds : Outcome single v u

  module _ (single : Bool) (v : Visible) (free : Free v) (u : UseText) (w : UseWithin u) (e : out_faults ms single v u ≡ []) where
    parts : (unknown (not (is_matrix ms u.matrix.bytes)) u.matrix ≡ []) × (is_bad_output ms single u (binders v u) ≡ false)
        × (coordinates_faults ms v u (binders v u) ≡ [])
    parts = all_three (λ d. d) (none_bad (is_bad_output ms single u (binders v u)) u.matrix) (λ d. d) e

    bad : (is_given ms (look u.matrix.bytes ms.names) ≡ false) × (is_row u.view ≡ false) × ((not single && has_names (binders v u)) ≡ false)
    bad =
        let g = is_given ms (look u.matrix.bytes ms.names) in
        let b = not single && has_names (binders v u) in
        let p = or_parts (g || is_row u.view) b (or_parts (g || is_row u.view || b) (repeats (binders v u)) parts.1).0 in
        let q = or_parts g (is_row u.view) p.0 in
        (q.0, q.1, p.1)

    abbrev dims : ℕ
    dims = (matrix_or (look u.matrix.bytes ms.names)).dims

    clean : (bs : List NameValue) → binders v u ≡ bs → coordinates_faults ms v u bs ≡ []
    clean bs is = subst (λ l. coordinates_faults ms v u l ≡ []) is parts.2

    fits : (k : ℕ) (bs : List NameValue) → binders v u ≡ bs → Sees (with_count k) (with_variables v bs) → (with_variables v bs).locals ≡ v.locals
        → (IsView a.sizes k matrices (out_of ms v u) → (by_output (out_of ms v u).x0.x (out_of ms v u).dims ≡ k) × Outcome single v u) → OutFits single v u
    fits k bs names sees same is =
        let scope : out_scope v u ≡ with_variables v bs = ap (with_variables v) names in
        let seen = subst (Sees (with_count k)) (sym scope) sees in
        let view = read_there (with_count k) ms matrices known (out_scope v u) seen u w parts.0 in
        record {
          k = k;
          count = (is view).0;
          sees = seen;
          locals = ap (λ s. s.locals) scope ∙ same;
          view = view;
          made = not_given ms (look u.matrix.bytes ms.names) (none_unknown (look u.matrix.bytes ms.names) u.matrix parts.0) bad.0;
          rows = no_row u.view bad.1;
          binds = (is view).1;
        }

    none_bound : binders v u ≡ [] → IsView a.sizes 0 matrices (out_of ms v u) → (by_output (out_of ms v u).x0.x (out_of ms v u).dims ≡ 0) × Outcome single v u
    none_bound none h =
        let free : IsFree (out_of ms v u) = (
          h.x0.none refl,
          h.x0.one (omega arith),
          h.y0.none refl,
          h.y0.one (omega arith),
          h.x1.none refl,
          h.x1.one (omega arith),
          h.y1.none refl,
          h.y1.one (omega arith),
        ) in
        (ap (λ z. by_output z (out_of ms v u).dims) free.0, inl (free, none))

    bound_there : (k : ℕ) → (out_of ms v u).view ≡ to.Cell → (out_of ms v u).x0 ≡ just_x → ((out_of ms v u).dims ≡ 2 → (out_of ms v u).y0 ≡ just_y)
        → (out_of ms v u).dims ≡ k → has_names (binders v u) ≡ true → (by_output (out_of ms v u).x0.x (out_of ms v u).dims ≡ k) × Outcome single v u
    bound_there k cell x y d some =
        ((λ i. by_output (x i).x (d i)), inr (record { cell = cell; x = x; y = y }, single_by single (binders v u) some bad.2, some))

    one_fits : One u.view (binders v u) → OutFits single v u
    one_fits c =
        let found = look_last c.x.bytes meaning.RuleX v.names (no_name v c.x (clean (c.x ∷ []) c.names)) in
        let x : (out_of ms v u).x0 ≡ just_x
        = (λ i. x0_of (with_variables v (c.names i)).names (c.view i)) ∙ x_alone (bind v c.x meaning.RuleX).names c.form c.x c.is_x found in
        let d : (out_of ms v u).dims ≡ 1 = ap (λ z. dims_of z dims) c.view in
        fits 1 (c.x ∷ []) c.names (bound (with_count 1) v (free.0 1) c.x meaning.RuleX (omega arith)) refl
        (λ h. bound_there 1 (ap kind_of c.view) x (λ e. absurd (omega arith)) d (ap has_names c.names))

    two_fit : Two u.view (binders v u) → OutFits single v u
    two_fit c =
        let t = bind v c.x meaning.RuleX in
        let s = bind t c.y meaning.RuleY in
        let none : (bound_faults ms v c.x ≡ []) × (bound_faults ms t c.y ≡ []) = both (λ d. d) (λ d. d) (clean (c.x ∷ c.y ∷ []) c.names) in
        let first = look_last c.x.bytes meaning.RuleX v.names (no_name v c.x none.0) in
        let found = look_kept c.x.bytes meaning.RuleX t.names ((c.y.bytes, meaning.RuleY) ∷ []) first in
        let last = look_last c.y.bytes meaning.RuleY t.names (no_name t c.y none.1) in
        let x : (out_of ms v u).x0 ≡ just_x = (λ i. x0_of (with_variables v (c.names i)).names (c.view i)) ∙ x_alone s.names c.first c.x c.is_x found in
        let y : (out_of ms v u).y0 ≡ just_y = (λ i. y0_of (with_variables v (c.names i)).names (c.view i)) ∙ y_alone s.names c.second c.y c.is_y last in
        let sees = bound (with_count 2) t (bound (with_count 2) v (free.0 2) c.x meaning.RuleX (omega arith)) c.y meaning.RuleY (omega arith) in
        fits 2 (c.x ∷ c.y ∷ []) c.names sees refl (λ h. bound_there 2 (ap kind_of c.view) x (λ e. y) (ap (λ z. dims_of z dims) c.view) (ap has_names c.names))

    fits_by : Shape u.view (binders v u) → OutFits single v u
    fits_by (inl none) = fits 0 [] none (free.0 0) refl (none_bound none)
    fits_by (inr (inl c)) = one_fits c
    fits_by (inr (inr c)) = two_fit c

    out_fits : OutFits single v u
    out_fits = fits_by (shape v u.view)

  -- before so many outputs, of which there are several
  record OutsLeft (n : ℕ) (p : Place) : Type 0 where
    free : Free p.visible
    room : p.number + n ≤ a.outputs

  record Plain (r : Read) : Type 0 where
    view : IsView a.sizes 0 matrices r
    free : IsFree r
    made : ms.inputs ≤ r.matrix
    rows : (r.view ≢ to.Row) × (r.view ≢ to.Column)

  plain : (v : Visible) (u : UseText) → OutFits false v u → Plain (out_of ms v u) × (binders v u ≡ [])
  plain v u h = by h.binds
    where
      by : Outcome false v u → Plain (out_of ms v u) × (binders v u ≡ [])
      by (inl f) =
          let none : h.k ≡ 0 = sym h.count ∙ ap (λ z. by_output z (out_of ms v u).dims) f.0.0 in
          (record { view = subst (λ k. IsView a.sizes k matrices (out_of ms v u)) none h.view; free = f.0; made = h.made; rows = h.rows }, f.1)
      by (inr b) = let e : false ≡ true = b.1 in cc

  outs_step : (n : ℕ) (p : Place) (u : UseText) → OutsLeft (suc n) p → UseWithin u → out_faults_at ms false p u ≡ []
      → Plain (out_at ms p u) × OutsLeft n (after_out p u)
  outs_step n p u h w e =
      let v = p.visible in
      let done = plain v u (both (out_fits false v h.free u w) (λ d. d) e).0 in
      let scope : v ≡ out_scope v u = sym (ap (with_variables v) done.1) in
      let room = h.room in
      let free = subst Free scope h.free in
      let named = λ (k : ℕ). bound (with_count k) (out_scope v u) (free.0 k) u.bound (meaning.Output p.number) (omega arith) in
      (done.0, record { free = (named, free.1); room = omega arith })

  -- the outputs of a rule, and what is seen after them
  pub record OutsFit (v : Visible) (us : List UseText) : Type 0 where
    pub sees : Sees (with_count (variables (outs_of ms v us))) (after_outs v us)
    pub locals : (after_outs v us).locals ≡ 0
    pub views : AllByRecursion (IsView a.sizes (variables (outs_of ms v us)) matrices) (outs_of ms v us)
    pub outputs : AllByRecursion (IsOutput ms.inputs (length (outs_of ms v us))) (outs_of ms v us)
    pub kind : KindFits (kind_by false (is_cell v us)) (outs_of ms v us)

  module _ (v : Visible) (free : Free v) where
    alone_fits : (u : UseText) → 1 ≤ a.outputs → OutFits true v u → OutsFit v (u ∷ [])
    alone_fits u some h = record {
      sees = subst (λ k. Sees (with_count k) (after_outs v (u ∷ []))) (sym h.count)
          (bound (with_count h.k) (out_scope v u) h.sees u.bound (meaning.Output 0) (omega arith));
      locals = h.locals ∙ free.1;
      views = (subst (λ k. IsView a.sizes k matrices (out_of ms v u)) (sym h.count) h.view, tt {0});
      outputs = (record { made = h.made; no_row = h.rows.0; no_column = h.rows.1; variables = output_by h.binds }, tt {0});
      kind = kind_fits h.binds;
    }
      where
        output_by : Outcome true v u → IsFree (out_of ms v u) ⊎ (Binds (out_of ms v u) × (length (outs_of ms v (u ∷ [])) ≡ 1))
        output_by (inl f) = inl f.0
        output_by (inr b) = inr (b.0, refl)

        kind_fits : Outcome true v u → KindFits (kind_by false (is_cell v (u ∷ []))) (outs_of ms v (u ∷ []))
        kind_fits (inl f) = subst (λ b. KindFits (kind_by false b) (outs_of ms v (u ∷ []))) (sym (ap has_names f.1)) (f.0, tt {0})
        kind_fits (inr b) = subst (λ c. KindFits (kind_by false c) (outs_of ms v (u ∷ []))) (sym b.2) b.0

    several_fit : (u w : UseText) (us : List UseText) → AllByRecursion Plain (outs_of ms v (u ∷ w ∷ us))
        → OutsLeft 0 (after_turns after_out (start v) (u ∷ w ∷ us)) → OutsFit v (u ∷ w ∷ us)
    several_fit u w us h left =
        let outs = outs_of ms v (u ∷ w ∷ us) in
        record {
          sees = left.free.0 0;
          locals = left.free.1;
          views = all_same Plain (IsView a.sizes 0 matrices) (λ r p. p.view) outs h;
          outputs = all_same Plain (IsOutput ms.inputs (length outs))
              (λ r p. record { made = p.made; no_row = p.rows.0; no_column = p.rows.1; variables = inl p.free }) outs h;
          kind = all_same Plain IsFree (λ r p. p.free) outs h;
        }

    pub outs_fit : (us : List UseText) → 1 ≤ length us → length us ≤ a.outputs → AllByRecursion UseWithin us → outs_faults ms (is_single us) v us ≡ []
        → OutsFit v us
    outs_fit [] some few w e = absurd (omega arith)
    outs_fit (u ∷ []) some few w e = alone_fits u few (both (both (out_fits true v free u w.0) (λ d. d)) (λ d. d) e).0.0
    outs_fit (u ∷ x ∷ us) some few w e =
        let left : OutsLeft (length (u ∷ x ∷ us)) (start v) = record { free = free; room = omega arith } in
        let h = turns_fit after_out (out_at ms) (out_faults_at ms false) OutsLeft UseWithin Plain outs_step (start v) (u ∷ x ∷ us) left w e in
        several_fit u x us h.0 h.1
