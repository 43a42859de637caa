use Rattle.std.proofs.Common.{inl, length, slice_get}
use Rattle.pb_program.specs.Trees.{bare_prog}
use Rattle.pb_top.proofs.InputLemmas.{as_many, inputs_count}
use Rattle.pb_top.proofs.prepare.prepare_inputs.Goals as goal

pub returns-clause-prepares : goal.returns-clause-prepares
returns-clause-prepares c pool tail reply more = inl (c.in_ok-inputs.inputs.items, c.in_ok-inputs.ensures.gives, more)

pub returns-clause-ready : goal.returns-clause-ready
returns-clause-ready c = record {
  valid = c.requires.valid;
  count =
      as_many (slice_get (bare_prog c.args.a.program) c.args.t) (length c.args.r.now.files.now) (length c.in_ok-inputs.inputs.items)
      (inputs_count c.args.r.now.files.now c.args.r.now.texts.now c.requires.texts c.in_ok-inputs.inputs.items c.in_ok-inputs.ensures.gives) c.requires.count;
  whole = c.in_ok-inputs.ensures.whole;
}
