use Rattle.pb_jobs.proofs.GiveLemmas.{gives_over, locals_fit, numbers_fit, reads_are, runs, sizes_top}
use Rattle.pb_jobs.proofs.instance.Instance.run_over.Goals as goal

pub run_body-requires-clause-sizes : goal.run_body-requires-clause-sizes
run_body-requires-clause-sizes g c = sizes_top c.args.self.now c.requires.ready c.args.rule c.args.x c.args.y _ c.requires.can c.program.result.now c.program.ensures c.transform_number.result c.transform_number.ensures c.sizes.result.now c.sizes.ensures

pub run_body-requires-clause-runnable : goal.run_body-requires-clause-runnable
run_body-requires-clause-runnable g c = runs c.args.self.now c.requires.ready c.args.rule c.args.x c.args.y _ c.requires.can c.program.result.now c.program.ensures c.transform_number.result c.transform_number.ensures c.sizes.result.now c.sizes.ensures

pub run_body-requires-clause-reads : goal.run_body-requires-clause-reads
run_body-requires-clause-reads g c =
    reads_are c.args.self.now c.requires.ready c.args.rule c.args.x c.args.y _ c.requires.can c.program.result.now c.program.ensures c.transform_number.result c.transform_number.ensures c.sizes.result.now c.sizes.ensures c.args.views.now c.requires.reads

pub run_body-requires-clause-locals : goal.run_body-requires-clause-locals
run_body-requires-clause-locals g c =
    locals_fit c.args.self.now c.requires.ready c.args.rule c.args.x c.args.y _ c.requires.can c.program.result.now c.program.ensures c.transform_number.result c.transform_number.ensures c.sizes.result.now c.sizes.ensures c.args.scratch.now c.requires.room

pub run_body-requires-clause-numbers : goal.run_body-requires-clause-numbers
run_body-requires-clause-numbers g c =
    numbers_fit c.args.self.now c.requires.ready c.args.rule c.args.x c.args.y _ c.requires.can c.program.result.now c.program.ensures c.transform_number.result c.transform_number.ensures c.sizes.result.now c.sizes.ensures c.args.scratch.now c.requires.room

pub returns-clause-found : goal.returns-clause-found
returns-clause-found g c =
    gives_over c.args.self.now c.requires.ready c.args.rule c.args.x c.args.y _ c.requires.can c.program.result.now c.program.ensures c.transform_number.result c.transform_number.ensures c.sizes.result.now c.sizes.ensures
    c.args.views.now c.run_body.result c.run_body.new.scratch c.run_body.ensures.found
