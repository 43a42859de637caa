use Rattle.std.proofs.Common.{◌∙◌, ap, ◌++◌, [], ◌∷◌}
use Rattle.std.specs.Int.{div_ceil}
use Rattle.pb_frame.specs.Frames.{block_at, number_by}
use Rattle.pb_frame.proofs.ListLemmas.{map_next}
use Rattle.pb_frame.proofs.blocks.cut_spans.Goals as goal

pub loop-place-preserved : goal.loop-place-preserved
loop-place-preserved c =
    map_next (λ place. block_at c.args.side c.args.top (number_by c.args.sign (div_ceil c.args.top c.args.side) place)) c.loop-place.place c.loop-place.found.items c.push.new.self.items c.loop-place.invariant
    (c.in_ok-push.ensures.items ∙ ap (λ s. c.loop-place.found.items ++ s ∷ []) (c.block_at.ensures ∙ ap (block_at c.args.side c.args.top) (c.number_by.ensures.value ∙ ap (λ n. number_by c.args.sign n c.loop-place.place) c.div_ceil-count.ensures)))
