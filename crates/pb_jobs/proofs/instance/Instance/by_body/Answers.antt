use Rattle.std.proofs.Common.{◌∙◌, ap, refl, subst, w64}
use Rattle.std.proofs.lemmas.Int.{to_z-of_z}
use Rattle.pb_values.specs.declared.outcome.Outcome.TheVariants.{Value}
use Rattle.pb_eval.specs.Running.{Gives}
use Rattle.pb_jobs.specs.Instances.{given_by}
use Rattle.pb_jobs.proofs.CellLemmas.{one_number, one_room, one_trap}
use Rattle.pb_jobs.proofs.GiveLemmas.{gives_told, reads_told}
use Rattle.pb_jobs.proofs.instance.Instance.by_body.Goals as goal

pub run_over-requires-clause-reads : goal.run_over-requires-clause-reads
run_over-requires-clause-reads g c =
    let can = c.requires.can in
    let s = c.requires.shown can.rule can.there in
    reads_told c.args.self.now c.requires.ready c.args.rule c.args.x c.args.y _ can can.rule.reads refl s.windows s.are c.args.self.now.views refl c.args.views.now s.shown

pub out-requires : goal.out-requires
out-requires g c =
    let can = c.requires.can in
    let s = c.requires.shown can.rule can.there in
    let told = gives_told c.args.self.now c.requires.ready c.args.rule c.args.x c.args.y _ can can.rule.reads refl s.windows s.are c.args.self.now.views refl c.args.views.now s.shown c.run_over.result c.run_over.new.scratch c.run_over.ensures.found in
    let found = subst (λ r. Gives (given_by c.args.self.now c.args.rule can.rule c.args.x c.args.y (g.C.CellReader.turn c.args.port.now)) r c.run_over.new.scratch) c.in-Ok.is (told can.rule can.there) in
    one_room c.args.self.now c.requires.ready c.args.rule c.args.x c.args.y _ can c.requires.one c.run_over.new.scratch c.in-Ok.field-0 found

pub returns-in-Ok-clause-outcome : goal.returns-in-Ok-clause-outcome
returns-in-Ok-clause-outcome g c =
    let can = c.requires.can in
    let s = c.requires.shown can.rule can.there in
    let told = gives_told c.args.self.now c.requires.ready c.args.rule c.args.x c.args.y _ can can.rule.reads refl s.windows s.are c.args.self.now.views refl c.args.views.now s.shown c.run_over.result c.run_over.new.scratch c.run_over.ensures.found in
    let found = subst (λ r. Gives (given_by c.args.self.now c.args.rule can.rule c.args.x c.args.y (g.C.CellReader.turn c.args.port.now)) r c.run_over.new.scratch) c.in-Ok.is (told can.rule can.there) in
    λ r at. ap (λ z. Value z) (to_z-of_z w64 c.out.result (record { sfits = c.out.type_inv })) ∙ one_number c.args.self.now c.requires.ready c.args.rule c.args.x c.args.y _ can c.requires.one c.run_over.new.scratch c.in-Ok.field-0 c.out.result found c.out.ensures r at

pub returns-in-Err-clause-outcome : goal.returns-in-Err-clause-outcome
returns-in-Err-clause-outcome g c =
    let can = c.requires.can in
    let s = c.requires.shown can.rule can.there in
    let told = gives_told c.args.self.now c.requires.ready c.args.rule c.args.x c.args.y _ can can.rule.reads refl s.windows s.are c.args.self.now.views refl c.args.views.now s.shown c.run_over.result c.run_over.new.scratch c.run_over.ensures.found in
    let found = subst (λ r. Gives (given_by c.args.self.now c.args.rule can.rule c.args.x c.args.y (g.C.CellReader.turn c.args.port.now)) r c.run_over.new.scratch) c.in-Err.is (told can.rule can.there) in
    one_trap c.args.self.now c.requires.ready c.args.rule c.args.x c.args.y _ can c.requires.one c.run_over.new.scratch c.in-Err.trap found
