use Rattle.std.proofs.Common.{◌∙◌, ap, Err, List, Some, inl, inr, subst}
use Rattle.std.proofs.lemmas.Result.{err_from_is_err_and}
use Rattle.pb_gen.specs.Examples.{example_of}
use Rattle.pb_gen.specs.Texts.{text_of}
use Rattle.pb_front.specs.Reading.{IsRead}
use Rattle.pb_matrix.specs.Value.{MatrixValue}
use Rattle.pb_syntax.specs.Trees.{bare_text}
use Rattle.pb_demo.specs.Demonstrations.{demo_config, demo_transform}
use Rattle.pb_top.specs.Demos.{DemoRun, Summarizes, demo_name}
use Rattle.pb_top.specs.Runs.{AfterAcceptWith}
use Rattle.pb_top.specs.Steps.{AfterResolved, OfProgram, Reads}
use Rattle.pb_top.specs.Working.{Replies, StopsWith}
use Rattle.pb_top.proofs.DemoLemmas.{are_whole, few_inputs}
use Rattle.pb_top.proofs.LineLemmas.{read_within}
use Rattle.pb_top.proofs.StepLemmas.{replies_map, stops_map}
use Rattle.pb_top.proofs.demo.demo_run.Goals as goal

pub demo_resolved-requires-clause-few : goal.demo_resolved-requires-clause-few
demo_resolved-requires-clause-few g c κs within = few_inputs c.args.which c.from.result c.args.size c.in_ok-inputs.inputs.items c.in_ok-inputs.ensures.matrices

pub demo_resolved-requires-clause-within : goal.demo_resolved-requires-clause-within
demo_resolved-requires-clause-within g c κs within = read_within _ (bare_text c.in_ok-tree.tree) c.in_ok-tree.ensures

pub demo_resolved-requires-clause-whole : goal.demo_resolved-requires-clause-whole
demo_resolved-requires-clause-whole g c κs within = are_whole c.in_ok-inputs.inputs.items c.in_ok-inputs.ensures.inputs

pub returns-in_err-tree : goal.returns-in_err-tree
returns-in_err-tree g c =
    let which = c.args.which in
    let stop = c.in_err-tree.field-0.0 in
    let of_text = subst (λ t. StopsWith (λ reply. Reads t (Err reply)) stop) c.text.ensures c.in_err-tree.ensures in
    let e = err_from_is_err_and c.from_residual-in_err-tree.result c.from_residual-in_err-tree.ensures.1 in
    rw (e.1, e.2) (stops_map (λ reply. Reads (text_of which) (Err reply)) (DemoRun which c.args.seed c.args.size) (λ reply s. inr s) stop of_text)

pub returns : goal.returns
returns g c =
    let which = c.args.which in
    let tree = bare_text c.in_ok-tree.tree in
    let inputs = example_of which c.args.seed c.args.size in
    let Next : List MatrixValue → OfProgram = λ ms tree p found. AfterAcceptWith (demo_transform which) 64 16 (Summarizes (demo_name which)) p found (Some (demo_config which)) ms in
    let is_read = subst (λ t. IsRead t tree) c.text.ensures c.in_ok-tree.ensures in
    let drawn = c.in_ok-inputs.ensures.matrices ∙ ap (λ seed. example_of which seed c.args.size) c.from.ensures in
    let ends = subst (λ ms. Replies (AfterResolved (Next ms) tree) c.demo_resolved.result) drawn c.demo_resolved.ensures in
    replies_map (AfterResolved (Next inputs) tree) (DemoRun which c.args.seed c.args.size) (λ reply more. inl (tree, is_read, more)) c.demo_resolved.result ends
