use Rattle.pb_linear.specs.Sizes.{sizes_of}
use Rattle.pb_program.specs.Trees.{bare_transform}
use Rattle.pb_recursion.proofs.ShapeLemmas.{map_get}
use Rattle.pb_cost.proofs.LimitLemmas.{few_told, has_range, many_told}
use Rattle.pb_cost.proofs.limits.has_few_counts.Goals as goal

pub check_counts-requires-clause-sizes : goal.check_counts-requires-clause-sizes
check_counts-requires-clause-sizes c =
    let v = c.args.a.now in
    has_range v c.prog.ensures.accepted c.args.c.now c.requires.valid c.args.t (bare_transform c.args.transform.now) (map_get bare_transform v.program.transforms c.args.t c.args.transform.now c.requires.there) (sizes_of c.args.s.now) c.requires.range

pub returns-in-Ok : goal.returns-in-Ok
returns-in-Ok c =
    let v = c.args.a.now in
    few_told v c.prog.ensures.accepted c.args.c.now c.requires.valid c.args.t (bare_transform c.args.transform.now) (map_get bare_transform v.program.transforms c.args.t c.args.transform.now c.requires.there) (sizes_of c.args.s.now) c.requires.range c.in-Ok.ensures.few

pub returns-in_ok-unless_memory-in-Err : goal.returns-in_ok-unless_memory-in-Err
returns-in_ok-unless_memory-in-Err c =
    let v = c.args.a.now in
    many_told v c.prog.ensures.accepted c.args.c.now c.requires.valid c.args.t (bare_transform c.args.transform.now) (map_get bare_transform v.program.transforms c.args.t c.args.transform.now c.requires.there) (sizes_of c.args.s.now) c.requires.range
    c.in-Err.refusal c.in_ok-unless_memory-in-Err.ensures c.in-Err.ensures.many
