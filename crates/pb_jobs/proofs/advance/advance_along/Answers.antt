use Rattle.std.proofs.Common.{◌<◌, arith}
use Rattle.pb_views.specs.Windows.{IsRect}
use Rattle.pb_jobs.specs.Advances.{area_on}
use Rattle.pb_jobs.proofs.AdvanceLemmas.{advances_if, rect_on}
use Rattle.pb_jobs.proofs.advance.advance_along.Goals as goal

pub returns-in_default : goal.returns-in_default
returns-in_default c =
    let w = c.args.window.now in
    let m = c.args.matrix.now in
    let s = c.args.stretch.now in
    let some : 1 < s.count = omega (arith, c.if-stretch-lt2.false) in
    let first : IsRect (area_on w m s 0) c.rect-here.result = rect_on w m s 0 c.place-x.result.0 c.place-x.result.1 c.rect-here.result c.place-x.ensures.x c.place-x.ensures.y c.rect-here.ensures in
    let second : IsRect (area_on w m s 1) c.rect-next.result = rect_on w m s 1 c.place-a.result.0 c.place-a.result.1 c.rect-next.result c.place-a.ensures.x c.place-a.ensures.y c.rect-next.ensures in
    advances_if s w m some c.in_default.not-Column c.rect-here.result c.rect-next.result first second c.advance_between.result c.advance_between.ensures
