use Rattle.std.proofs.Common.{◌≡◌, ◌∙◌, ◌&&◌, [], ap, sym}
use Rattle.std.specs.Prelude.{◌==◌, if◌then◌else◌}
use Rattle.std.specs.List.{list_all}
use Rattle.pb_linear.specs.Sizes.{sizes_of}
use Rattle.pb_program.specs.Conditions.{region_conditions}
use Rattle.pb_program.specs.Forms.{DeclValue}
use Rattle.pb_frame.specs.Choices.{is_met}
use Rattle.pb_frame.proofs.GuardLemmas.{all_append}
use Rattle.pb_frame.proofs.guard.meets_rect.Goals as goal

pub returns : goal.returns
returns c =
    let r = c.args.read.now in
    let p = is_met (sizes_of c.args.s.now) in
    let d = c.args.decl.now in
    let xs = region_conditions r.x0 r.x1 d.w in
    let ys = if r.dims == 1 then [] else region_conditions r.y0 r.y1 d.h in
    let on_x : c.meets_region.result ≡ list_all p xs = c.meets_region.ensures ∙ ap (λ (e : DeclValue). list_all p (region_conditions r.x0 r.x1 e.w)) c.decl.view_is in
    c.both.ensures ∙ ap (λ k. k && c.meets_region_y.result) on_x ∙ ap (λ k. list_all p xs && k) c.meets_region_y.ensures ∙ sym (all_append p xs ys)
