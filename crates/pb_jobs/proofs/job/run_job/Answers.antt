use Rattle.pb_program.specs.Trees.{bare_prog}
use Rattle.pb_jobs.specs.Instances.{of_sizes}
use Rattle.pb_jobs.specs.Rooms.{rooms_of}
use Rattle.pb_jobs.proofs.JobLemmas.{as_block, as_whole, pieces_fit, rule_fits, rules_fit}
use Rattle.pb_jobs.proofs.job.run_job.Goals as goal

pub run_block-requires-clause-block : goal.run_block-requires-clause-block
run_block-requires-clause-block g c = as_block c.args.job.now _ c.job.view_is c.args.instance.now (g.C.CellReader.turn c.args.port.now) c.requires.can c.in-None.is

pub run_block-requires-clause-pieces : goal.run_block-requires-clause-pieces
run_block-requires-clause-pieces g c =
    let v = c.args.instance.now in
    pieces_fit c.args.job.now _ c.job.view_is (bare_prog v.program) v.number (of_sizes v) (rooms_of c.args.scratch.now) c.requires.room

pub run_block-requires-clause-room : goal.run_block-requires-clause-room
run_block-requires-clause-room g c =
    let v = c.args.instance.now in
    rules_fit c.args.job.now _ c.job.view_is (bare_prog v.program) v.number (of_sizes v) (rooms_of c.args.scratch.now) c.requires.room c.in-None.is

pub run_whole-requires-clause-whole : goal.run_whole-requires-clause-whole
run_whole-requires-clause-whole g c = as_whole c.args.job.now _ c.job.view_is c.args.instance.now (g.C.CellReader.turn c.args.port.now) c.requires.can c.in-Some.rule c.in-Some.is

pub run_whole-requires-clause-pieces : goal.run_whole-requires-clause-pieces
run_whole-requires-clause-pieces g c =
    let v = c.args.instance.now in
    pieces_fit c.args.job.now _ c.job.view_is (bare_prog v.program) v.number (of_sizes v) (rooms_of c.args.scratch.now) c.requires.room

pub run_whole-requires-clause-room : goal.run_whole-requires-clause-room
run_whole-requires-clause-room g c =
    let v = c.args.instance.now in
    rule_fits c.args.job.now _ c.job.view_is (bare_prog v.program) v.number (of_sizes v) (rooms_of c.args.scratch.now) c.requires.room c.in-Some.rule c.in-Some.is
