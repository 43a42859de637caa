use Rattle.std.proofs.Common.{◌∙◌, List, ap}
use Rattle.std.specs.List.{enumerate_from, flat_map}
use Rattle.pb_frame.specs.Frames.{in_layer, layer_jobs}
use Rattle.pb_frame.specs.declared.part.FramePart.{FramePart}
use Rattle.pb_plan.proofs.place_laws.a_frame_has_the_jobs_of_its_instance.Goals as goal

pub returns : goal.returns
returns c = λ config number t a grain f is. is.jobs ∙ ap (λ (ps : List FramePart). flat_map (λ l. layer_jobs t grain (in_layer a.order ps l.0) l) (enumerate_from 0 a.order.layers)) is.parts
