use Rattle.std.proofs.lemmas.List.Elements.{All-push, All-same}
use Rattle.std.proofs.lemmas.Result.{err_from_is_err_and}
use Rattle.pb_unroll.specs.Handed.{IsWhole}
use Rattle.pb_top.proofs.InputLemmas.{inputs_done, inputs_next, inputs_stop}
use Rattle.pb_top.proofs.steps.read_inputs.Goals as goal

pub returns-in_err-read_input-clause-gives : goal.returns-in_err-read_input-clause-gives
returns-in_err-read_input-clause-gives c =
    let p = err_from_is_err_and c.from_residual-in_err-read_input.result c.from_residual-in_err-read_input.ensures.1 in
    rw (p.1, p.2) (inputs_stop c.args.files.now c.args.texts.now c.requires c.loop-i.i c.index-files-i.result c.index-texts-i.result c.loop-i-test.true c.index-files-i.is c.index-texts-i.is
    c.as_str.result.now c.deref.result.now c.as_str.ensures.value c.deref.ensures.value c.loop-i.found.items c.loop-i.invariant.0 c.in_err-read_input.field-0.0 c.in_err-read_input.ensures.gives)

pub loop-i-preserved : goal.loop-i-preserved
loop-i-preserved c = (
  inputs_next c.args.files.now c.args.texts.now c.requires c.loop-i.i c.index-files-i.result c.index-texts-i.result c.loop-i-test.true c.index-files-i.is c.index-texts-i.is
      c.as_str.result.now c.deref.result.now c.as_str.ensures.value c.deref.ensures.value c.loop-i.found.items c.loop-i.invariant.0 c.in_ok-read_input.field-0 c.push.new.self.items c.in_ok-push.ensures.items c.in_ok-read_input.ensures.gives,
  All-same IsWhole c.push.new.self.items _ c.in_ok-push.ensures.items (All-push IsWhole c.loop-i.found.items c.in_ok-read_input.field-0 c.loop-i.invariant.1 c.in_ok-read_input.ensures.whole),
)

pub returns-clause-gives : goal.returns-clause-gives
returns-clause-gives c = inputs_done c.args.files.now c.args.texts.now c.requires c.loop-i.i c.loop-i.found.items c.loop-i-test.false c.loop-i.invariant.0
