-- Views and conditions of a rule: the matrices and the names in them are there.
use Rattle.std.proofs.Common.{◌≡◌, ℕ, suc, ◌+◌, ◌<◌, ◌≤◌, true, not, List, [], Option, Some, None, is_some, map, length, arith}
use Rattle.std.specs.List.{AllByRecursion}
use Rattle.std.specs.Option.{IfSome}
use Rattle.pb_values.specs.Name.{NameValue}
use Rattle.pb_syntax.specs.declared.tree.view.CondText.{CondText}
use Rattle.pb_syntax.specs.declared.tree.view.UseText.{UseText}
use Rattle.pb_syntax.specs.declared.tree.view.ViewText.{ViewText}
use Rattle.pb_syntax.specs.declared.tree.view.ViewText.TheVariants as text
use Rattle.pb_syntax.specs.Forms.{FormValue}
use Rattle.pb_syntax.specs.WithinLimits.{CondWithin, FormWithin, Counts, UseWithin, ViewWithin}
use Rattle.pb_program.specs.declared.meaning.Meaning.{Meaning}
use Rattle.pb_program.specs.declared.meaning.Meaning.TheVariants as meaning
use Rattle.pb_program.specs.Forms.{CoordinateValue, nothing}
use Rattle.pb_program.specs.WellFormed.{Around, IsCondition, IsCoordinate, IsThere, IsView}
use Rattle.pb_names.specs.declared.matrices.Matrix.{Matrix}
use Rattle.pb_names.specs.Faults.{unknown}
use Rattle.pb_names.specs.Names.{look}
use Rattle.pb_names.specs.Sums.{collected}
use Rattle.pb_names.specs.Turns.{after_turns}
use Rattle.pb_names.specs.Bodies.{Visible}
use Rattle.pb_names.specs.Views.{Matrices, Place, after_read, bind, cond_of, dims_of, is_matrix, matrix_or, read_at, read_faults_at, read_of, reads_faults, reads_of, start, view_of, x0_of, x1_of, y0_of, y1_of}
use Rattle.pb_names.proofs.ListFits.{all_push, all_mapped, both, found_fits, turns_fit}
use Rattle.pb_names.proofs.LookLemmas.{none_unknown}
use Rattle.pb_names.proofs.FormsFit.{Fit, collected_fits, nothing_there}
use Rattle.pb_names.proofs.BodiesFit.{Sees}

-- a matrix of so many
pub record MatrixThere (matrices : ℕ) (m : Matrix) : Type 0 where
  pub number : m.number < matrices
  pub dims : Counts 1 2 m.dims

matrix_there : (matrices : ℕ) (o : Option Matrix) → IfSome o (MatrixThere matrices) → is_some o ≡ true → MatrixThere matrices (matrix_or o)
matrix_there matrices (Some m) h e = h
matrix_there matrices None h e = cc

dims_there : (w : ViewText) (d : ℕ) → Counts 1 2 d → Counts 1 2 (dims_of w d)
dims_there text.Whole d h = h
dims_there (text.Cell x None) d h = (omega arith, omega arith)
dims_there w d h = (omega arith, omega arith)

module _ (a : Around) where
  abbrev Fits : CoordinateValue → Type 0
  Fits c = IsCoordinate a.sizes a.variables c

  module _ (l : ℕ) (names : List (List ℕ × Meaning)) (fit : Fit a l names) where
    of : (f : FormValue) → FormWithin f → Fits (collected names f)
    of f h = collected_fits a l names fit f h

    z : Fits nothing
    z = nothing_there a.sizes a.variables

    coordinates_fit : (w : ViewText) → ViewWithin w → Fits (x0_of names w) × Fits (y0_of names w) × Fits (x1_of names w) × Fits (y1_of names w)
    coordinates_fit text.Whole h = (z, z, z, z)
    coordinates_fit (text.Cell x None) h = (of x h, z, z, z)
    coordinates_fit (text.Cell x (Some y)) h = (of x h.0, of y h.1, z, z)
    coordinates_fit (text.Row y) h = (z, of y h, z, z)
    coordinates_fit (text.Column x) h = (of x h, z, z, z)
    coordinates_fit (text.Between b c) h = (of b h.0, z, of c h.1, z)
    coordinates_fit (text.Region b c d e) h = (of b h.0, of c h.1, of d h.2, of e h.3)

    view_there : (matrices : ℕ) (m : Matrix) (u : UseText) → UseWithin u → MatrixThere matrices m → IsView a.sizes a.variables matrices (view_of names m u)
    view_there matrices m u w there =
        let c = coordinates_fit u.view w.view in
        record { matrix = there.number; dims = dims_there u.view m.dims there.dims; x0 = c.0; y0 = c.1; x1 = c.2; y1 = c.3 }

  pub bound : (v : Visible) → Sees a v → (n : NameValue) (m : Meaning) → IsThere a v.locals m → Sees a (bind v n m)
  bound v s n m there = record { names = all_push (λ e. IsThere a v.locals e.1) v.names (n.bytes, m) s.names there; transforms = s.transforms }

  pub conds_there : (v : Visible) → Sees a v → (cs : List CondText) → AllByRecursion CondWithin cs
      → AllByRecursion (IsCondition a.sizes a.variables) (map (cond_of v) cs)
  conds_there v s cs w = all_mapped (cond_of v) CondWithin (IsCondition a.sizes a.variables) cond_there cs w
    where
      cond_there : (c : CondText) → CondWithin c → IsCondition a.sizes a.variables (cond_of v c)
      cond_there c w = record { left = of v.locals v.names s.names c.left w.left; relation = w.relation; right = of v.locals v.names s.names c.right w.right }

  module _ (ms : Matrices) (matrices : ℕ) (known : AllByRecursion (λ e. MatrixThere matrices e.1) ms.names) where
    pub read_there : (v : Visible) → Sees a v → (u : UseText) → UseWithin u → unknown (not (is_matrix ms u.matrix.bytes)) u.matrix ≡ []
        → IsView a.sizes a.variables matrices (read_of ms v u)
    read_there v s u w e =
        let o = look u.matrix.bytes ms.names in
        let there = matrix_there matrices o (found_fits (MatrixThere matrices) u.matrix.bytes ms.names known) (none_unknown o u.matrix e) in
        view_there v.locals v.names s.names matrices (matrix_or o) u w there

    -- before so many reads
    pub record ReadsLeft (n : ℕ) (p : Place) : Type 0 where
      pub sees : Sees a p.visible
      pub locals : p.visible.locals ≡ 0
      pub room : p.number + n ≤ a.reads

    read_step : (n : ℕ) (p : Place) (u : UseText) → ReadsLeft (suc n) p → UseWithin u → read_faults_at ms p u ≡ []
        → IsView a.sizes a.variables matrices (read_at ms p u) × ReadsLeft n (after_read p u)
    read_step n p u h w e =
        let parts = both (both (read_there p.visible h.sees u w) (λ d. d)) (λ d. d) e in
        let room = h.room in
        (parts.0.0, record { sees = bound p.visible h.sees u.bound (meaning.Read p.number) (omega arith); locals = h.locals; room = omega arith })

    pub reads_there : (v : Visible) → Sees a v → v.locals ≡ 0 → (us : List UseText) → length us ≤ a.reads → AllByRecursion UseWithin us
        → reads_faults ms v us ≡ []
        → AllByRecursion (IsView a.sizes a.variables matrices) (reads_of ms v us) × ReadsLeft 0 (after_turns after_read (start v) us)
    reads_there v s none us few w e =
        turns_fit after_read (read_at ms) (read_faults_at ms) ReadsLeft UseWithin (IsView a.sizes a.variables matrices) read_step (start v) us
        (record { sees = s; locals = none; room = omega arith }) w e
