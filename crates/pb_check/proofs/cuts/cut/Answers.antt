use Rattle.std.proofs.Common.{◌≡◌, ◌⊎◌, ap, subst}
use Rattle.pb_grid.specs.declared.refusal.GridRefusal.TheVariants.{Memory}
use Rattle.pb_grid.specs.Grids.{IsGrid, IsRefused, matrix_of}
use Rattle.pb_program.specs.Forms.{DeclValue}
use Rattle.pb_program.specs.Transforms.{TransformValue}
use Rattle.pb_program.specs.Trees.{bare_prog, bare_transform}
use Rattle.pb_check.proofs.CutLemmas.{cut_is, small_height, small_width, uncut_is}
use Rattle.pb_check.proofs.cuts.cut.Goals as goal

pub grid-requires-clause-width : goal.grid-requires-clause-width
grid-requires-clause-width c =
    small_width (bare_prog c.args.p.now) c.args.t (bare_transform c.args.transform.now) c.requires.well_formed c.requires.there c.args.matrix c.args.decl.now c.decl.inside.w c.requires.decl (ap (λ (d : DeclValue). d.w) c.decl.view_is)

pub grid-requires-clause-height : goal.grid-requires-clause-height
grid-requires-clause-height c =
    small_height (bare_prog c.args.p.now) c.args.t (bare_transform c.args.transform.now) c.requires.well_formed c.requires.there c.args.matrix c.args.decl.now c.decl.inside.h c.requires.decl (ap (λ (d : DeclValue). d.h) c.decl.view_is)

pub returns-in-Ok-clause-found : goal.returns-in-Ok-clause-found
returns-in-Ok-clause-found c =
    cut_is (bare_transform c.args.transform.now) c.args.matrix c.args.decl.now c.in_ok-boxes.boxes.items c.decl.inside.w c.decl.inside.h c.requires.decl (ap (λ (d : DeclValue). d.w) c.decl.view_is) (ap (λ (d : DeclValue). d.h) c.decl.view_is) c.in_ok-boxes.ensures.found c.in-Ok.segments.items
    (subst (λ bs. IsGrid (matrix_of c.args.transform.now.ranges bs c.decl.inside.w c.decl.inside.h) c.in-Ok.segments.items) c.deref.ensures.value
    (subst (λ r. IsGrid (matrix_of r c.deref.result.now c.decl.inside.w c.decl.inside.h) c.in-Ok.segments.items) (ap (λ (t : TransformValue). t.ranges) c.transform.view_is) c.in-Ok.ensures.found))

pub returns-clause-refused : goal.returns-clause-refused
returns-clause-refused c =
    uncut_is (bare_transform c.args.transform.now) c.args.matrix c.args.decl.now c.in_ok-boxes.boxes.items c.decl.inside.w c.decl.inside.h c.requires.decl (ap (λ (d : DeclValue). d.w) c.decl.view_is) (ap (λ (d : DeclValue). d.h) c.decl.view_is) c.in_ok-boxes.ensures.found c.args.t c.in-Err.refusal c.refusal_of.result
    (subst (λ bs. (c.in-Err.refusal ≡ Memory) ⊎ IsRefused (matrix_of c.args.transform.now.ranges bs c.decl.inside.w c.decl.inside.h) c.in-Err.refusal) c.deref.ensures.value
    (subst (λ r. (c.in-Err.refusal ≡ Memory) ⊎ IsRefused (matrix_of r c.deref.result.now c.decl.inside.w c.decl.inside.h) c.in-Err.refusal) (ap (λ (t : TransformValue). t.ranges) c.transform.view_is) c.in-Err.ensures.refused)) c.refusal_of.ensures
