use Rattle.std.proofs.Common.{◌≡◌, ◌∙◌, ◌<◌, ◌≤◌, ◌⊎◌, ⊎_elim, List, ap, arith, inl, inr, length, map, subst, sym}
use Rattle.std.specs.List.{All}
use Rattle.std.proofs.lemmas.Result.{IfErr-weaker, IfOk-weaker}
use Rattle.pb_program.specs.Trees.{bare_prog}
use Rattle.pb_entry.specs.declared.refusal.Count.TheVariants.{Links as too_many_links}
use Rattle.pb_entry.specs.declared.refusal.RunRefusal.TheVariants.{Memory, TooLarge}
use Rattle.pb_links.specs.Links.{all_predecessors, all_successors, link_count}
use Rattle.pb_links.specs.Spots.{AllWithin, PlacesValue}
use Rattle.pb_taskgraph.specs.declared.limits.TheConstants.{MOST_LINKS, MOST_TASKS}
use Rattle.pb_steps.specs.Handed.{Step, places_of}
use Rattle.pb_steps.specs.Runs.{UnrolledValue}
use Rattle.pb_steps.specs.Stands.{AreSteps}
use Rattle.pb_run_graph.specs.Linking.{IsTooMany}
use Rattle.pb_run_graph.proofs.GraphLemmas.{are_as_many, are_within, count_of, places_is}
use Rattle.pb_run_graph.proofs.StepLemmas.{all_can}
use Rattle.pb_run_graph.proofs.graph.run_links.Goals as goal

pub returns-then-len-gt-MOST_TASKS-clause-refused : goal.returns-then-len-gt-MOST_TASKS-clause-refused
returns-then-len-gt-MOST_TASKS-clause-refused c = inr (λ steps h. omega (arith, c.if-len-gt-MOST_TASKS.true, c.len.ensures, ap (λ (q : UnrolledValue). length q.steps) c.run.view_is, count_of c.args.a.now c.args.run.now steps h))

pub all_places-requires : goal.all_places-requires
all_places-requires c = all_can c.args.a.now c.args.run.now c.requires.ready.0 c.requires.ready.1

pub links_of-requires-clause-bases : goal.links_of-requires-clause-bases
links_of-requires-clause-bases c =
    let u = c.args.run.now in
    subst (λ n. All (AllWithin n) c.deref.result.now) (sym (ap (λ (q : UnrolledValue). q.met.matrices) c.run.view_is))
    (subst (All (AllWithin u.met.matrices)) (sym c.deref.ensures.value) (are_within c.args.a.now u c.requires.ready.0 c.requires.ready.1 c.in_ok-places.places.items c.in_ok-places.ensures))

pub links_of-requires-clause-few : goal.links_of-requires-clause-few
links_of-requires-clause-few c =
    omega (arith, c.if-len-gt-MOST_TASKS.false, c.len.ensures, ap (λ (q : UnrolledValue). length q.steps) c.run.view_is, ap length c.deref.ensures.value, are_as_many c.args.a.now c.args.run.now c.requires.ready.0 c.requires.ready.1 c.in_ok-places.places.items c.in_ok-places.ensures)

pub returns-clause-found : goal.returns-clause-found
returns-clause-found c = IfOk-weaker c.links_of.result (λ l. l ≡ record { before = all_predecessors c.deref.result.now; after = all_successors c.deref.result.now }) (λ l. (steps : List Step) → AreSteps (bare_prog c.args.a.now.program) c.args.a.now.found c.args.run.now steps → l ≡ record { before = all_predecessors (map places_of steps); after = all_successors (map places_of steps) })
    (λ l is steps h. is ∙ ap (λ (qs : List PlacesValue). record { before = all_predecessors qs; after = all_successors qs }) (c.deref.ensures.value ∙ places_is c.args.a.now c.args.run.now c.requires.ready.0 c.requires.ready.1 c.in_ok-places.places.items c.in_ok-places.ensures steps h)) c.links_of.ensures.found

pub returns-clause-within : goal.returns-clause-within
returns-clause-within c = IfOk-weaker c.links_of.result (λ _. link_count c.deref.result.now ≤ MOST_LINKS) (λ _. (steps : List Step) → AreSteps (bare_prog c.args.a.now.program) c.args.a.now.found c.args.run.now steps → (length steps ≤ MOST_TASKS) × (link_count (map places_of steps) ≤ MOST_LINKS))
    (λ l few steps h.
    let places = c.deref.ensures.value ∙ places_is c.args.a.now c.args.run.now c.requires.ready.0 c.requires.ready.1 c.in_ok-places.places.items c.in_ok-places.ensures steps h in
    (omega (arith, c.if-len-gt-MOST_TASKS.false, c.len.ensures, ap (λ (q : UnrolledValue). length q.steps) c.run.view_is, count_of c.args.a.now c.args.run.now steps h), omega (arith, few, ap link_count places))) c.links_of.ensures.within

pub returns-clause-refused : goal.returns-clause-refused
returns-clause-refused c =
    let a = c.args.a.now in
    let u = c.args.run.now in
    IfErr-weaker c.links_of.result (λ e. (e ≡ Memory) ⊎ ((e ≡ TooLarge too_many_links) × (MOST_LINKS < link_count c.deref.result.now))) (λ e. (e ≡ Memory) ⊎ ((steps : List Step) → AreSteps (bare_prog a.program) a.found u steps → IsTooMany steps e))
    (λ e. ⊎_elim (λ none. inl none) (λ many. inr (λ steps h.
    let places = c.deref.ensures.value ∙ places_is a u c.requires.ready.0 c.requires.ready.1 c.in_ok-places.places.items c.in_ok-places.ensures steps h in
    subst (IsTooMany steps) (sym many.0) (omega (arith, c.if-len-gt-MOST_TASKS.false, c.len.ensures, ap (λ (q : UnrolledValue). length q.steps) c.run.view_is, count_of a u steps h), omega (arith, many.1, ap link_count places))))) c.links_of.ensures.refused
