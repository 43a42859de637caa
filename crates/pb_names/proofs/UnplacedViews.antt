-- What names are, and what is wrong with them, doesn't depend on the places of a tree: views and conditions.
use Rattle.std.proofs.Common.{◌≡◌, ℕ, ◌&&◌, ◌==◌, Bool, true, false, if◌then◌else◌, List, [], ◌∷◌, map, Option, Some, None, refl, ap, ◌∙◌}
use Rattle.std.specs.List.{flat_map}
use Rattle.std.specs.Option.{option_map}
use Rattle.pb_values.specs.Name.{NameValue}
use Rattle.pb_syntax.specs.Limits.{alone, alone_in}
use Rattle.pb_syntax.specs.Forms.{FormValue}
use Rattle.pb_syntax.specs.declared.tree.form.TermText.{TermText}
use Rattle.pb_syntax.specs.declared.tree.view.CondText.{CondText}
use Rattle.pb_syntax.specs.declared.tree.view.UseText.{UseText}
use Rattle.pb_syntax.specs.declared.tree.view.ViewText.{ViewText}
use Rattle.pb_syntax.specs.declared.tree.view.ViewText.TheVariants as view
use Rattle.pb_syntax.specs.Places.{unplaced_name, unplaced_option, unplaced_term, unplaced_form, unplaced_view, unplaced_use, unplaced_cond}
use Rattle.pb_program.specs.declared.meaning.Meaning.{Meaning}
use Rattle.pb_program.specs.declared.meaning.Meaning.TheVariants as meaning
use Rattle.pb_program.specs.Forms.{CoordinateValue, nothing}
use Rattle.pb_program.specs.Places.{unplaced_read}
use Rattle.pb_names.specs.declared.matrices.Matrix.{Matrix}
use Rattle.pb_names.specs.Unplaced.{unplaced_fault}
use Rattle.pb_names.specs.Sums.{add_by_name, add_term, add_terms, collected, sum_of_terms}
use Rattle.pb_names.specs.Bodies.{Visible}
use Rattle.pb_names.specs.Views.{Matrices, Place, after_out, after_outs, after_read, after_reads, are_free, binders, binders_in, bind, bound_faults, cond_faults, cond_of, coordinate_names, coordinates_faults, dims_of, forms_of, has_names, is_bad_output, is_row, kind_of, out_at, out_faults, out_faults_at, out_scope, outs_faults, outs_of, put_name, read_at, read_faults, read_faults_at, reads_faults, reads_of, repeats, start, variables_faults, view_form_faults, view_name_faults, view_of, view_term_faults, with_variables, x0_of, x1_of, y0_of, y1_of}
use Rattle.pb_program.proofs.Kept.{joined, flat_kept}
use Rattle.pb_names.proofs.UnplacedBodies.{after_kept, turns_kept, faults_kept, duplicate_kept, unknown_kept, bad_output_kept, optional_faults}

-- sums
module _ (names : List (List ℕ × Meaning)) where
  named_term : (c : CoordinateValue) (n : Option NameValue) (q : ℕ) (d : _) → add_by_name names c (unplaced_option n) q d ≡ add_by_name names c n q d
  named_term c None q d = refl
  named_term c (Some n) q d = refl

  term_added : (c : CoordinateValue) (minus : Bool) (t : TermText) → add_term names c minus (unplaced_term t) ≡ add_term names c minus t
  term_added c minus t = named_term c t.name t.quotient _

  terms_added : (c : CoordinateValue) (ts : List TermText) → add_terms names c (map unplaced_term ts) ≡ add_terms names c ts
  terms_added c [] = refl
  terms_added c (t ∷ ts) = ap (λ d. add_terms names d (map unplaced_term ts)) (term_added c t.minus t) ∙ terms_added (add_term names c t.minus t) ts

  sum_kept : (minus : Bool) (ts : List TermText) → sum_of_terms names minus (map unplaced_term ts) ≡ sum_of_terms names minus ts
  sum_kept minus [] = refl
  sum_kept minus (t ∷ ts) = ap (λ d. add_terms names d (map unplaced_term ts)) (term_added nothing minus t) ∙ terms_added (add_term names nothing minus t) ts

  pub collected_kept : (f : FormValue) → collected names (unplaced_form f) ≡ collected names f
  collected_kept f = sum_kept f.minus f.terms

  x0_kept : (w : ViewText) → x0_of names (unplaced_view w) ≡ x0_of names w
  x0_kept view.Whole = refl
  x0_kept (view.Cell x None) = collected_kept x
  x0_kept (view.Cell x (Some y)) = collected_kept x
  x0_kept (view.Row y) = refl
  x0_kept (view.Column x) = collected_kept x
  x0_kept (view.Between a b) = collected_kept a
  x0_kept (view.Region a b c d) = collected_kept a

  y0_kept : (w : ViewText) → y0_of names (unplaced_view w) ≡ y0_of names w
  y0_kept view.Whole = refl
  y0_kept (view.Cell x None) = refl
  y0_kept (view.Cell x (Some y)) = collected_kept y
  y0_kept (view.Row y) = collected_kept y
  y0_kept (view.Column x) = refl
  y0_kept (view.Between a b) = refl
  y0_kept (view.Region a b c d) = collected_kept b

  x1_kept : (w : ViewText) → x1_of names (unplaced_view w) ≡ x1_of names w
  x1_kept view.Whole = refl
  x1_kept (view.Cell x None) = refl
  x1_kept (view.Cell x (Some y)) = refl
  x1_kept (view.Row y) = refl
  x1_kept (view.Column x) = refl
  x1_kept (view.Between a b) = collected_kept b
  x1_kept (view.Region a b c d) = collected_kept c

  y1_kept : (w : ViewText) → y1_of names (unplaced_view w) ≡ y1_of names w
  y1_kept view.Whole = refl
  y1_kept (view.Cell x None) = refl
  y1_kept (view.Cell x (Some y)) = refl
  y1_kept (view.Row y) = refl
  y1_kept (view.Column x) = refl
  y1_kept (view.Between a b) = refl
  y1_kept (view.Region a b c d) = collected_kept d

forms_kept : (w : ViewText) → forms_of (unplaced_view w) ≡ map unplaced_form (forms_of w)
forms_kept view.Whole = refl
forms_kept (view.Cell x None) = refl
forms_kept (view.Cell x (Some y)) = refl
forms_kept (view.Row y) = refl
forms_kept (view.Column x) = refl
forms_kept (view.Between a b) = refl
forms_kept (view.Region a b c d) = refl

kind_kept : (w : ViewText) → kind_of (unplaced_view w) ≡ kind_of w
kind_kept view.Whole = refl
kind_kept (view.Cell x None) = refl
kind_kept (view.Cell x (Some y)) = refl
kind_kept (view.Row y) = refl
kind_kept (view.Column x) = refl
kind_kept (view.Between a b) = refl
kind_kept (view.Region a b c d) = refl

dims_kept : (dims : ℕ) (w : ViewText) → dims_of (unplaced_view w) dims ≡ dims_of w dims
dims_kept dims view.Whole = refl
dims_kept dims (view.Cell x None) = refl
dims_kept dims (view.Cell x (Some y)) = refl
dims_kept dims (view.Row y) = refl
dims_kept dims (view.Column x) = refl
dims_kept dims (view.Between a b) = refl
dims_kept dims (view.Region a b c d) = refl

row_kept : (w : ViewText) → is_row (unplaced_view w) ≡ is_row w
row_kept view.Whole = refl
row_kept (view.Cell x None) = refl
row_kept (view.Cell x (Some y)) = refl
row_kept (view.Row y) = refl
row_kept (view.Column x) = refl
row_kept (view.Between a b) = refl
row_kept (view.Region a b c d) = refl

view_kept : (names : List (List ℕ × Meaning)) (m : Matrix) (u : UseText) → view_of names m (unplaced_use u) ≡ unplaced_read (view_of names m u)
view_kept names m u = rw (kind_kept u.view, dims_kept m.dims u.view, x0_kept names u.view, y0_kept names u.view, x1_kept names u.view, y1_kept names u.view) refl

-- faults of forms
name_kept : (v : Visible) (n : NameValue) → view_name_faults v (unplaced_name n) ≡ map unplaced_fault (view_name_faults v n)
name_kept v n = unknown_kept _ n

term_kept : (v : Visible) (t : TermText) → view_term_faults v (unplaced_term t) ≡ map unplaced_fault (view_term_faults v t)
term_kept v t = optional_faults (view_name_faults v) (name_kept v) t.name

form_kept : (v : Visible) (f : FormValue) → view_form_faults v (unplaced_form f) ≡ map unplaced_fault (view_form_faults v f)
form_kept v f = flat_kept unplaced_term unplaced_fault (view_term_faults v) (view_term_faults v) (term_kept v) f.terms

view_forms_kept : (v : Visible) (w : ViewText) → flat_map (view_form_faults v) (forms_of (unplaced_view w)) ≡ map unplaced_fault (flat_map (view_form_faults v) (forms_of w))
view_forms_kept v w = ap (flat_map (view_form_faults v)) (forms_kept w) ∙ flat_kept unplaced_form unplaced_fault (view_form_faults v) (view_form_faults v) (form_kept v) (forms_of w)

bound_kept : (ms : Matrices) (v : Visible) (n : NameValue) → bound_faults ms v (unplaced_name n) ≡ map unplaced_fault (bound_faults ms v n)
bound_kept ms v n = duplicate_kept _ n

-- reads
read_faults_kept : (ms : Matrices) (v : Visible) (u : UseText) → read_faults ms v (unplaced_use u) ≡ map unplaced_fault (read_faults ms v u)
read_faults_kept ms v u = joined unplaced_fault _ _ (unknown_kept _ u.matrix) (view_forms_kept v u.view)

next_read_kept : (p : Place) (u : UseText) → after_read p (unplaced_use u) ≡ after_read p u
next_read_kept p u = refl

pub reads_kept : (ms : Matrices) (v : Visible) (us : List UseText) → reads_of ms v (map unplaced_use us) ≡ map unplaced_read (reads_of ms v us)
reads_kept ms v us = turns_kept unplaced_use after_read next_read_kept unplaced_read (read_at ms) (λ p u. view_kept p.visible.names _ u) (start v) us

pub reads_faults_kept : (ms : Matrices) (v : Visible) (us : List UseText) → reads_faults ms v (map unplaced_use us) ≡ map unplaced_fault (reads_faults ms v us)
reads_faults_kept ms v us =
    faults_kept unplaced_use after_read next_read_kept (read_faults_at ms) (λ p u. joined unplaced_fault _ _ (read_faults_kept ms p.visible u) (bound_kept ms p.visible u.bound)) (start v) us

pub seen_after_reads : (v : Visible) (us : List UseText) → after_reads v (map unplaced_use us) ≡ after_reads v us
seen_after_reads v us = ap (λ p. p.visible) (after_kept unplaced_use after_read next_read_kept (start v) us)

-- the rule variables of an output
when_true : (b : Bool) (n : Option NameValue) → (if b then unplaced_option n else None) ≡ unplaced_option (if b then n else None)
when_true true n = refl
when_true false n = refl

alone_kept : (minus : Bool) (ts : List TermText) → alone_in minus (map unplaced_term ts) ≡ unplaced_option (alone_in minus ts)
alone_kept true ts = refl
alone_kept false [] = refl
alone_kept false (t ∷ []) = when_true (t.factor == 1 && (t.quotient == 0)) t.name
alone_kept false (t ∷ u ∷ ts) = refl

pub alone_is : (f : FormValue) → alone (unplaced_form f) ≡ unplaced_option (alone f)
alone_is f = alone_kept f.minus f.terms

put_kept : (n : Option NameValue) (rest : Option (List NameValue)) → put_name (unplaced_option n) (option_map (map unplaced_name) rest) ≡ option_map (map unplaced_name) (put_name n rest)
put_kept None None = refl
put_kept None (Some ns) = refl
put_kept (Some n) None = refl
put_kept (Some n) (Some ns) = refl

coordinates_kept : (w : ViewText) → coordinate_names (unplaced_view w) ≡ option_map (map unplaced_name) (coordinate_names w)
coordinates_kept view.Whole = refl
coordinates_kept (view.Cell x None) = rw (alone_is x) (put_kept (alone x) (Some []))
coordinates_kept (view.Cell x (Some y)) = rw (alone_is x, alone_is y, put_kept (alone y) (Some [])) (put_kept (alone x) (put_name (alone y) (Some [])))
coordinates_kept (view.Row y) = refl
coordinates_kept (view.Column x) = refl
coordinates_kept (view.Between a b) = refl
coordinates_kept (view.Region a b c d) = refl

free_kept : (v : Visible) (ns : List NameValue) → are_free v (map unplaced_name ns) ≡ are_free v ns
free_kept v [] = refl
free_kept v (n ∷ ns) = rw (free_kept v ns) refl

names_when : (b : Bool) (ns : List NameValue) → (if b then map unplaced_name ns else []) ≡ map unplaced_name (if b then ns else [])
names_when true ns = refl
names_when false ns = refl

binders_by : (v : Visible) (ns : Option (List NameValue)) → binders_in v (option_map (map unplaced_name) ns) ≡ map unplaced_name (binders_in v ns)
binders_by v None = refl
binders_by v (Some ns) = rw (free_kept v ns) (names_when (are_free v ns) ns)

pub binders_kept : (v : Visible) (u : UseText) → binders v (unplaced_use u) ≡ map unplaced_name (binders v u)
binders_kept v u = ap (binders_in v) (coordinates_kept u.view) ∙ binders_by v (coordinate_names u.view)

with_kept : (v : Visible) (ns : List NameValue) → with_variables v (map unplaced_name ns) ≡ with_variables v ns
with_kept v [] = refl
with_kept v (x ∷ []) = refl
with_kept v (x ∷ y ∷ ns) = refl

scope_kept : (v : Visible) (u : UseText) → out_scope v (unplaced_use u) ≡ out_scope v u
scope_kept v u = ap (with_variables v) (binders_kept v u) ∙ with_kept v (binders v u)

pub has_kept : (ns : List NameValue) → has_names (map unplaced_name ns) ≡ has_names ns
has_kept [] = refl
has_kept (n ∷ ns) = refl

repeats_kept : (ns : List NameValue) → repeats (map unplaced_name ns) ≡ repeats ns
repeats_kept [] = refl
repeats_kept (x ∷ []) = refl
repeats_kept (x ∷ y ∷ ns) = refl

variables_kept : (ms : Matrices) (v : Visible) (n : NameValue) (ns : List NameValue) → variables_faults ms v (map unplaced_name (n ∷ ns)) ≡ map unplaced_fault (variables_faults ms v (n ∷ ns))
variables_kept ms v x [] = bound_kept ms v x
variables_kept ms v x (y ∷ ns) = joined unplaced_fault _ _ (bound_kept ms v x) (bound_kept ms (bind v x meaning.RuleX) y)

-- outputs
bad_kept : (ms : Matrices) (single : Bool) (u : UseText) (ns : List NameValue) → is_bad_output ms single (unplaced_use u) (map unplaced_name ns) ≡ is_bad_output ms single u ns
bad_kept ms single u ns = rw (row_kept u.view, has_kept ns, repeats_kept ns) refl

coordinate_faults_kept : (ms : Matrices) (v : Visible) (u : UseText) (ns : List NameValue) → coordinates_faults ms v (unplaced_use u) (map unplaced_name ns) ≡ map unplaced_fault (coordinates_faults ms v u ns)
coordinate_faults_kept ms v u [] = view_forms_kept v u.view
coordinate_faults_kept ms v u (n ∷ ns) = variables_kept ms v n ns

out_faults_kept : (ms : Matrices) (single : Bool) (v : Visible) (u : UseText) → out_faults ms single v (unplaced_use u) ≡ map unplaced_fault (out_faults ms single v u)
out_faults_kept ms single v u =
    rw (binders_kept v u, bad_kept ms single u (binders v u), coordinate_faults_kept ms v u (binders v u))
    (joined unplaced_fault _ _ (unknown_kept _ u.matrix) (joined unplaced_fault _ _ (bad_output_kept _ u.matrix) refl))

next_out_kept : (p : Place) (u : UseText) → after_out p (unplaced_use u) ≡ after_out p u
next_out_kept p u = rw (scope_kept p.visible u) refl

out_kept : (ms : Matrices) (p : Place) (u : UseText) → out_at ms p (unplaced_use u) ≡ unplaced_read (out_at ms p u)
out_kept ms p u = rw (scope_kept p.visible u) (view_kept (out_scope p.visible u).names _ u)

out_at_kept : (ms : Matrices) (single : Bool) (p : Place) (u : UseText) → out_faults_at ms single p (unplaced_use u) ≡ map unplaced_fault (out_faults_at ms single p u)
out_at_kept ms single p u = joined unplaced_fault _ _ (out_faults_kept ms single p.visible u) (rw (scope_kept p.visible u) (bound_kept ms (out_scope p.visible u) u.bound))

pub outs_kept : (ms : Matrices) (v : Visible) (us : List UseText) → outs_of ms v (map unplaced_use us) ≡ map unplaced_read (outs_of ms v us)
outs_kept ms v us = turns_kept unplaced_use after_out next_out_kept unplaced_read (out_at ms) (out_kept ms) (start v) us

pub outs_faults_kept : (ms : Matrices) (single : Bool) (v : Visible) (us : List UseText) → outs_faults ms single v (map unplaced_use us) ≡ map unplaced_fault (outs_faults ms single v us)
outs_faults_kept ms single v us = faults_kept unplaced_use after_out next_out_kept (out_faults_at ms single) (out_at_kept ms single) (start v) us

pub seen_after_outs : (v : Visible) (us : List UseText) → after_outs v (map unplaced_use us) ≡ after_outs v us
seen_after_outs v us = ap (λ p. p.visible) (after_kept unplaced_use after_out next_out_kept (start v) us)

-- conditions
pub cond_kept : (v : Visible) (c : CondText) → cond_of v (unplaced_cond c) ≡ cond_of v c
cond_kept v c = rw (collected_kept v.names c.left, collected_kept v.names c.right) refl

pub cond_faults_kept : (v : Visible) (c : CondText) → cond_faults v (unplaced_cond c) ≡ map unplaced_fault (cond_faults v c)
cond_faults_kept v c = joined unplaced_fault _ _ (form_kept v c.left) (form_kept v c.right)
