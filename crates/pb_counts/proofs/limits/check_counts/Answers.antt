use Rattle.std.proofs.Common.{◌≡◌, ◌∙◌, ap, subst, inr, ℕ, List, length, map, take, Some, None, arith}
use Rattle.pb_linear.specs.Sizes.{sizes_of}
use Rattle.pb_program.specs.Forms.{DeclValue}
use Rattle.pb_program.specs.Transforms.{ProgValue, TransformValue}
use Rattle.pb_program.specs.Trees.{bare_prog, bare_transform}
use Rattle.pb_model.specs.Calls.{Outcomes}
use Rattle.pb_calls.specs.Given.{AreGiven}
use Rattle.pb_entry.specs.declared.refusal.Count.TheVariants.{Calls}
use Rattle.pb_entry.specs.declared.refusal.RunRefusal.TheVariants.{TooLarge}
use Rattle.pb_recursion.specs.Counts.{Counted, all_of, matrix_of, run_count}
use Rattle.pb_recursion.specs.Depths.{sides_of_matrix}
use Rattle.pb_recursion.specs.Shapes.{sides_of_decl}
use Rattle.pb_counts.specs.Limits.{AreFew, AreMany, OfRun}
use Rattle.pb_counts.specs.Sized.{sized_count}
use Rattle.pb_counts.specs.Tallies.{capped, counted}
use Rattle.pb_counts.specs.Told.{Tells}
use Rattle.pb_counts.proofs.PlaceLemmas.{of_this, ranged, some_found, there, top, well}
use Rattle.pb_counts.proofs.RunLemmas.{counted_run, if_err, on_ok, tally_is}
use Rattle.pb_counts.proofs.limits.check_counts.Goals as goal

pub of_decls-inputs-requires : goal.of_decls-inputs-requires
of_decls-inputs-requires c =
    let q = some_found c.args.a.now c.args.t _ c.requires.sizes in
    top c.args.a.now c.prog.ensures.accepted c.args.t c.args.s.now c.requires.sizes c.behind-a.inside.transforms.items (ap (λ (p : ProgValue). p.transforms) (c.behind-a.view_is ∙ c.prog.ensures.program)) c.index-transform.result.now c.index-transform.ensures q.0 q.1

pub returns-in_default-clause-many : goal.returns-in_default-clause-many
returns-in_default-clause-many c =
    let q = some_found c.args.a.now c.args.t _ c.requires.sizes in
    let p = bare_prog c.args.a.now.program in
    let x = bare_transform c.index-transform.result.now in
    let sizes = sizes_of c.args.s.now in
    let mats = λ (n : ℕ) (ds : List DeclValue). all_of (map (λ d. matrix_of (sides_of_decl sizes d)) (take n ds)) in
    let run_is = λ (ins : List Outcomes) (given : AreGiven x sizes ins). counted_run p c.args.c.now c.args.depth c.args.t (length p) x sizes ins (there c.args.a.now c.prog.ensures.accepted c.args.t c.args.s.now c.requires.sizes c.behind-a.inside.transforms.items (ap (λ (p : ProgValue). p.transforms) (c.behind-a.view_is ∙ c.prog.ensures.program)) c.index-transform.result.now c.index-transform.ensures q.0 q.1) (well c.args.a.now c.prog.ensures.accepted c.args.t c.args.s.now c.requires.sizes c.behind-a.inside.transforms.items (ap (λ (p : ProgValue). p.transforms) (c.behind-a.view_is ∙ c.prog.ensures.program)) c.index-transform.result.now c.index-transform.ensures q.0 q.1) (c.given_matrices_can_enter.ensures.sizes p c.args.t x sizes ins c.prog.ensures.accepted.well_formed c.prog.ensures.accepted.sound (there c.args.a.now c.prog.ensures.accepted c.args.t c.args.s.now c.requires.sizes c.behind-a.inside.transforms.items (ap (λ (p : ProgValue). p.transforms) (c.behind-a.view_is ∙ c.prog.ensures.program)) c.index-transform.result.now c.index-transform.ensures q.0 q.1) (ranged c.args.a.now c.prog.ensures.accepted c.args.t c.args.s.now c.requires.sizes c.behind-a.inside.transforms.items (ap (λ (p : ProgValue). p.transforms) (c.behind-a.view_is ∙ c.prog.ensures.program)) c.index-transform.result.now c.index-transform.ensures q.0 q.1) given) given in
    let told : Tells 0 (sized_count p c.args.c.now c.args.depth c.args.t sizes) None = subst (Tells 0 (sized_count p c.args.c.now c.args.depth c.args.t sizes)) c.in_default.is c.in_ok-call.ensures.told in
    inr (of_this c.args.a.now c.prog.ensures.accepted c.args.t c.args.s.now c.requires.sizes c.behind-a.inside.transforms.items (ap (λ (p : ProgValue). p.transforms) (c.behind-a.view_is ∙ c.prog.ensures.program)) c.index-transform.result.now c.index-transform.ensures q.0 q.1 (λ transform found. OfRun p c.args.c.now c.args.depth c.args.t transform sizes (λ n. AreMany n (TooLarge Calls)))
    (λ ins given. let calls = ap (λ (z : Counted). z.calls) (run_is ins given) in omega (arith, calls, told)))

pub returns-clause-few : goal.returns-clause-few
returns-clause-few c =
    let q = some_found c.args.a.now c.args.t _ c.requires.sizes in
    let p = bare_prog c.args.a.now.program in
    let x = bare_transform c.index-transform.result.now in
    let sizes = sizes_of c.args.s.now in
    let mats = λ (n : ℕ) (ds : List DeclValue). all_of (map (λ d. matrix_of (sides_of_decl sizes d)) (take n ds)) in
    let run_is = λ (ins : List Outcomes) (given : AreGiven x sizes ins). counted_run p c.args.c.now c.args.depth c.args.t (length p) x sizes ins (there c.args.a.now c.prog.ensures.accepted c.args.t c.args.s.now c.requires.sizes c.behind-a.inside.transforms.items (ap (λ (p : ProgValue). p.transforms) (c.behind-a.view_is ∙ c.prog.ensures.program)) c.index-transform.result.now c.index-transform.ensures q.0 q.1) (well c.args.a.now c.prog.ensures.accepted c.args.t c.args.s.now c.requires.sizes c.behind-a.inside.transforms.items (ap (λ (p : ProgValue). p.transforms) (c.behind-a.view_is ∙ c.prog.ensures.program)) c.index-transform.result.now c.index-transform.ensures q.0 q.1) (c.given_matrices_can_enter.ensures.sizes p c.args.t x sizes ins c.prog.ensures.accepted.well_formed c.prog.ensures.accepted.sound (there c.args.a.now c.prog.ensures.accepted c.args.t c.args.s.now c.requires.sizes c.behind-a.inside.transforms.items (ap (λ (p : ProgValue). p.transforms) (c.behind-a.view_is ∙ c.prog.ensures.program)) c.index-transform.result.now c.index-transform.ensures q.0 q.1) (ranged c.args.a.now c.prog.ensures.accepted c.args.t c.args.s.now c.requires.sizes c.behind-a.inside.transforms.items (ap (λ (p : ProgValue). p.transforms) (c.behind-a.view_is ∙ c.prog.ensures.program)) c.index-transform.result.now c.index-transform.ensures q.0 q.1) given) given in
    let inputs : counted c.of_decls-inputs.result ≡ capped (mats x.inputs x.matrices) =
    c.of_decls-inputs.ensures ∙ ap (λ (ds : List DeclValue). capped (mats c.transform.inside.inputs ds)) c.deref.ensures.value ∙ ap (λ (v : TransformValue). capped (mats v.inputs v.matrices)) c.transform.view_is in
    let told : Tells 0 (sized_count p c.args.c.now c.args.depth c.args.t sizes) (Some c.in-Some.call) = subst (Tells 0 (sized_count p c.args.c.now c.args.depth c.args.t sizes)) c.in-Some.is c.in_ok-call.ensures.told in
    let sum_is = λ (ins : List Outcomes) (given : AreGiven x sizes ins). tally_is (mats x.inputs x.matrices) (sized_count p c.args.c.now c.args.depth c.args.t sizes) (run_count p c.args.c.now c.args.depth c.args.t (map sides_of_matrix ins)) (counted c.of_decls-inputs.result) (counted c.in-Some.call) (counted c.both.result) (run_is ins given) inputs told.0 c.both.ensures in
    on_ok c.check_tally.result c.check_tally.ensures.few (λ h. of_this c.args.a.now c.prog.ensures.accepted c.args.t c.args.s.now c.requires.sizes c.behind-a.inside.transforms.items (ap (λ (p : ProgValue). p.transforms) (c.behind-a.view_is ∙ c.prog.ensures.program)) c.index-transform.result.now c.index-transform.ensures q.0 q.1 (λ transform found. OfRun p c.args.c.now c.args.depth c.args.t transform sizes AreFew) (λ ins given. h (run_count p c.args.c.now c.args.depth c.args.t (map sides_of_matrix ins)) (sum_is ins given)))

pub returns-clause-many : goal.returns-clause-many
returns-clause-many c =
    let q = some_found c.args.a.now c.args.t _ c.requires.sizes in
    let p = bare_prog c.args.a.now.program in
    let x = bare_transform c.index-transform.result.now in
    let sizes = sizes_of c.args.s.now in
    let mats = λ (n : ℕ) (ds : List DeclValue). all_of (map (λ d. matrix_of (sides_of_decl sizes d)) (take n ds)) in
    let run_is = λ (ins : List Outcomes) (given : AreGiven x sizes ins). counted_run p c.args.c.now c.args.depth c.args.t (length p) x sizes ins (there c.args.a.now c.prog.ensures.accepted c.args.t c.args.s.now c.requires.sizes c.behind-a.inside.transforms.items (ap (λ (p : ProgValue). p.transforms) (c.behind-a.view_is ∙ c.prog.ensures.program)) c.index-transform.result.now c.index-transform.ensures q.0 q.1) (well c.args.a.now c.prog.ensures.accepted c.args.t c.args.s.now c.requires.sizes c.behind-a.inside.transforms.items (ap (λ (p : ProgValue). p.transforms) (c.behind-a.view_is ∙ c.prog.ensures.program)) c.index-transform.result.now c.index-transform.ensures q.0 q.1) (c.given_matrices_can_enter.ensures.sizes p c.args.t x sizes ins c.prog.ensures.accepted.well_formed c.prog.ensures.accepted.sound (there c.args.a.now c.prog.ensures.accepted c.args.t c.args.s.now c.requires.sizes c.behind-a.inside.transforms.items (ap (λ (p : ProgValue). p.transforms) (c.behind-a.view_is ∙ c.prog.ensures.program)) c.index-transform.result.now c.index-transform.ensures q.0 q.1) (ranged c.args.a.now c.prog.ensures.accepted c.args.t c.args.s.now c.requires.sizes c.behind-a.inside.transforms.items (ap (λ (p : ProgValue). p.transforms) (c.behind-a.view_is ∙ c.prog.ensures.program)) c.index-transform.result.now c.index-transform.ensures q.0 q.1) given) given in
    let inputs : counted c.of_decls-inputs.result ≡ capped (mats x.inputs x.matrices) =
    c.of_decls-inputs.ensures ∙ ap (λ (ds : List DeclValue). capped (mats c.transform.inside.inputs ds)) c.deref.ensures.value ∙ ap (λ (v : TransformValue). capped (mats v.inputs v.matrices)) c.transform.view_is in
    let told : Tells 0 (sized_count p c.args.c.now c.args.depth c.args.t sizes) (Some c.in-Some.call) = subst (Tells 0 (sized_count p c.args.c.now c.args.depth c.args.t sizes)) c.in-Some.is c.in_ok-call.ensures.told in
    let sum_is = λ (ins : List Outcomes) (given : AreGiven x sizes ins). tally_is (mats x.inputs x.matrices) (sized_count p c.args.c.now c.args.depth c.args.t sizes) (run_count p c.args.c.now c.args.depth c.args.t (map sides_of_matrix ins)) (counted c.of_decls-inputs.result) (counted c.in-Some.call) (counted c.both.result) (run_is ins given) inputs told.0 c.both.ensures in
    if_err c.check_tally.result c.check_tally.ensures.many (λ e h. inr (of_this c.args.a.now c.prog.ensures.accepted c.args.t c.args.s.now c.requires.sizes c.behind-a.inside.transforms.items (ap (λ (p : ProgValue). p.transforms) (c.behind-a.view_is ∙ c.prog.ensures.program)) c.index-transform.result.now c.index-transform.ensures q.0 q.1 (λ transform found. OfRun p c.args.c.now c.args.depth c.args.t transform sizes (λ n. AreMany n e)) (λ ins given. h (run_count p c.args.c.now c.args.depth c.args.t (map sides_of_matrix ins)) (sum_is ins given))))
