use Rattle.pb_linear.specs.Sizes.{sizes_of}
use Rattle.pb_frame.proofs.FoundLemmas.{if_ok}
use Rattle.pb_run_graph.proofs.MadeLemmas.{are_laid}
use Rattle.pb_run_graph.proofs.places.views_for.Goals as goal

pub returns : goal.returns
returns c = if_ok c.views_of.result c.views_of.ensures (λ views h. are_laid c.args.decls.now c.args.seats.now (sizes_of c.args.s.now) c.requires views.items h)
