use Rattle.std.proofs.Common.{◌≡◌, ◌∙◌, ◌<◌, ◌^◌, sym, ap, subst, true, List, ◌++◌, [], ◌∷◌, length, map, arith}
use Rattle.pb_linear.specs.Sizes.{sizes_of}
use Rattle.pb_program.specs.Transforms.{ProgValue}
use Rattle.pb_program.specs.Trees.{bare_transform}
use Rattle.pb_frame.specs.Frames.{FrameValue}
use Rattle.pb_recursion.specs.Shapes.{can_enter, sizes_from}
use Rattle.pb_views.specs.Seats.{sides_of_seat}
use Rattle.pb_views.specs.declared.seat.Seat.{Seat}
use Rattle.pb_counts.specs.Handed.{after_call, after_matrices, own_sides, seats_from}
use Rattle.pb_steps.specs.Runs.{UnrolledValue}
use Rattle.pb_steps.specs.Stands.{AreSeated, IsEnteredAs, met_of}
use Rattle.pb_steps.specs.Values.{InstanceValue}
use Rattle.pb_steps.proofs.EnterLemmas.{all_seated, callable, entered, inputs, ranged, top}
use Rattle.pb_steps.proofs.unrolling.Unrolled.enter.Goals as goal

pub sized-requires-clause-transform : goal.sized-requires-clause-transform
sized-requires-clause-transform c = callable c.args.a.now c.prog.ensures.accepted c.args.t c.requires.there c.behind-a.inside.transforms.items (ap (λ (p : ProgValue). p.transforms) (c.behind-a.view_is ∙ c.prog.ensures.program)) c.index-transform.result.now c.index-transform.ensures

pub own_seats-requires-clause-sizes : goal.own_seats-requires-clause-sizes
own_seats-requires-clause-sizes c = top c.args.a.now c.prog.ensures.accepted c.args.t c.requires.there c.behind-a.inside.transforms.items (ap (λ (p : ProgValue). p.transforms) (c.behind-a.view_is ∙ c.prog.ensures.program)) c.index-transform.result.now c.index-transform.ensures c.in_ok-sizes.sizes c.args.given.items (c.in_ok-sizes.ensures.sizes ∙ ap (λ (l : List Seat). sizes_from (bare_transform c.index-transform.result.now) (map sides_of_seat l)) c.deref.ensures.value) (subst (λ (l : List Seat). can_enter (bare_transform c.index-transform.result.now) (map sides_of_seat l) ≡ true) c.deref.ensures.value c.in_ok-sizes.ensures.enters)

pub own_seats-requires-clause-inputs : goal.own_seats-requires-clause-inputs
own_seats-requires-clause-inputs c = inputs c.args.a.now c.prog.ensures.accepted c.args.t c.requires.there c.behind-a.inside.transforms.items (ap (λ (p : ProgValue). p.transforms) (c.behind-a.view_is ∙ c.prog.ensures.program)) c.index-transform.result.now c.index-transform.ensures

pub frame-requires-clause-sizes : goal.frame-requires-clause-sizes
frame-requires-clause-sizes c = ranged c.args.a.now c.prog.ensures.accepted c.args.t c.requires.there c.behind-a.inside.transforms.items (ap (λ (p : ProgValue). p.transforms) (c.behind-a.view_is ∙ c.prog.ensures.program)) c.index-transform.result.now c.index-transform.ensures c.in_ok-sizes.sizes c.args.given.items (c.in_ok-sizes.ensures.sizes ∙ ap (λ (l : List Seat). sizes_from (bare_transform c.index-transform.result.now) (map sides_of_seat l)) c.deref.ensures.value) (subst (λ (l : List Seat). can_enter (bare_transform c.index-transform.result.now) (map sides_of_seat l) ≡ true) c.deref.ensures.value c.in_ok-sizes.ensures.enters)

abbrev before : (c : goal.In_ok-push) → UnrolledValue
before c = record { instances = c.self.inside.instances.items; steps = c.self.inside.steps.items; met = c.self.inside.met }

owned : (c : goal.In_ok-push) → c.in_ok-own.own.items ≡ seats_from (after_call (met_of c.self.inside.met)) (own_sides (bare_transform c.index-transform.result.now) (sizes_of c.in_ok-sizes.sizes))
owned c = c.in_ok-own.ensures.seats ∙ ap (λ n. seats_from n (own_sides (bare_transform c.index-transform.result.now) (sizes_of c.in_ok-sizes.sizes))) c.in_ok-call.ensures.met

few : (c : goal.In_ok-push) → length c.in_ok-jobs.field-0.jobs < 2 ^ 32
few c = omega (arith, c.in_ok-numbered.ensures.few, c.len-2.ensures, ap (λ (f : FrameValue). length f.jobs) c.jobs.view_is)

abbrev added_value : (c : goal.In_ok-push) → InstanceValue
added_value c = record { call = c.in_ok-call.call; transform = c.args.t; sizes = c.in_ok-sizes.sizes; seats = c.args.given.items ++ c.in_ok-own.own.items; jobs = c.in_ok-jobs.field-0.jobs }

added : (c : goal.In_ok-push) → c.push.new.self.items ≡ c.self.inside.instances.items ++ added_value c ∷ []
added c =
    let seats : c.in_ok-seats.seats.items ≡ c.args.given.items ++ c.in_ok-own.own.items = c.in_ok-seats.ensures ∙ ap (λ l. c.args.given.items ++ l) c.deref-2.ensures.value in
    c.in_ok-push.ensures.items ∙ (λ k. c.self.inside.instances.items ++ (record { call = c.in_ok-call.call; transform = c.args.t; sizes = c.in_ok-sizes.sizes; seats = seats k; jobs = ap (λ (f : FrameValue). f.jobs) c.jobs.view_is k }) ∷ [])

pub returns-clause-entered : goal.returns-clause-entered
returns-clause-entered c =
    subst (λ (u : UnrolledValue). IsEnteredAs c.args.a.now c.args.c.now c.args.grain c.args.t c.args.given.items u (record { instances = c.push.new.self.items; steps = c.self.inside.steps.items; met = c.own_seats.new.met }) c.in_ok-number.number c.in_ok-own.own.items) c.self.view_is
    (entered c.args.a.now c.prog.ensures.accepted c.args.t c.requires.there c.behind-a.inside.transforms.items (ap (λ (p : ProgValue). p.transforms) (c.behind-a.view_is ∙ c.prog.ensures.program)) c.index-transform.result.now c.index-transform.ensures c.in_ok-sizes.sizes c.args.given.items (c.in_ok-sizes.ensures.sizes ∙ ap (λ (l : List Seat). sizes_from (bare_transform c.index-transform.result.now) (map sides_of_seat l)) c.deref.ensures.value) (subst (λ (l : List Seat). can_enter (bare_transform c.index-transform.result.now) (map sides_of_seat l) ≡ true) c.deref.ensures.value c.in_ok-sizes.ensures.enters) c.args.c.now c.args.grain (before c) c.in_ok-call.call c.in_ok-call.ensures.number c.in_ok-own.own.items (owned c) c.requires.given c.in_ok-own.ensures.small c.in_ok-jobs.field-0 c.in_ok-jobs.ensures.sizes c.in_ok-jobs.ensures.frame (few c)
    c.own_seats.new.met (c.in_ok-own.ensures.met ∙ ap (λ n. after_matrices n (own_sides (bare_transform c.index-transform.result.now) (sizes_of c.in_ok-sizes.sizes))) c.in_ok-call.ensures.met) c.in_ok-number.number (omega (arith, c.in_ok-number.ensures.number, c.len.ensures)) c.push.new.self.items (added c))

pub returns-clause-seated : goal.returns-clause-seated
returns-clause-seated c =
    all_seated c.args.a.now c.prog.ensures.accepted c.args.t c.requires.there c.behind-a.inside.transforms.items (ap (λ (p : ProgValue). p.transforms) (c.behind-a.view_is ∙ c.prog.ensures.program)) c.index-transform.result.now c.index-transform.ensures c.in_ok-sizes.sizes c.args.given.items (c.in_ok-sizes.ensures.sizes ∙ ap (λ (l : List Seat). sizes_from (bare_transform c.index-transform.result.now) (map sides_of_seat l)) c.deref.ensures.value) (subst (λ (l : List Seat). can_enter (bare_transform c.index-transform.result.now) (map sides_of_seat l) ≡ true) c.deref.ensures.value c.in_ok-sizes.ensures.enters) c.args.c.now c.args.grain (before c) c.in_ok-call.call c.in_ok-call.ensures.number c.in_ok-own.own.items (owned c) c.requires.given c.in_ok-own.ensures.small c.in_ok-jobs.field-0 c.in_ok-jobs.ensures.sizes c.in_ok-jobs.ensures.frame (few c)
    c.push.new.self.items (added c) (subst (λ (u : UnrolledValue). AreSeated c.args.a.now c.args.c.now c.args.grain u.instances) (sym c.self.view_is) c.requires.seated)
