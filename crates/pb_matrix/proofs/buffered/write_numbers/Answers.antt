use Rattle.std.proofs.Common.{◌++◌, ◌-◌, ◌∙◌, ap, arith}
use Rattle.pb_matrix.proofs.BufferLemmas.{to_end}
use Rattle.pb_matrix.proofs.TextLemmas.{numbers_more, rest_fits}
use Rattle.pb_matrix.proofs.buffered.write_numbers.Goals as goal

pub loop-rest-preserved : goal.loop-rest-preserved
loop-rest-preserved c =
    let cut = c.split_at in
    record {
      text = numbers_more c.loop-rest.text.items _ c.extend_from_slice.new.self.items c.loop-rest.rest.now cut.result.0.now cut.result.1.now _ cut.ensures.front cut.ensures.back c.put_numbers-start.ensures.written (c.in_ok-extend_from_slice.ensures.items ∙ ap (λ l. c.loop-rest.text.items ++ l) (to_end c.put_numbers-start.new.buffer c.put_numbers-start.result (1008 - c.put_numbers-start.result) (omega arith))) ∙ c.loop-rest.invariant.text;
      fits = λ later. c.loop-rest.invariant.fits (rest_fits _ c.loop-rest.rest.now cut.result.0.now cut.result.1.now cut.ensures.front cut.ensures.back c.put_numbers-start.ensures.fits later);
    }
