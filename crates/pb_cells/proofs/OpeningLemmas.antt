-- The first words and the first seat meet the rule.
use Rattle.std.proofs.Common.{◌≡◌, ◌∙◌, refl, sym, ap, subst, ⊎_elim, ℕ, zero, suc, ◌%◌, ◌<◌, ◌≤◌, ◌&&◌, eqb, ltb, Bool, true, false, List, [], ◌∷◌, length, get_or, Some, None, IsSome, arith}
use Rattle.std.specs.List.{Contains, range_with_len}
use Rattle.std.proofs.Math.Bool.{cond}
use Rattle.std.proofs.lemmas.Bool.{and_parts, cases_lt, eq-eqb, eqb-true}
use Rattle.std.proofs.lemmas.Bool.Decides.{nat_tests}
use Rattle.std.proofs.lemmas.List.FromFn.{get_or-range_with_len, length-range_with_len}
use Rattle.std.proofs.lemmas.Option.{cond_some}
use mathlib.Core.Option.{some, some-injective, some-ne-none}
use lib.ListN.{get_elem?}
use Rattle.pb_base.proofs.ListLemmas.{filter_in, in_filter, in_none, in_range, range_in}
use Rattle.pb_taskgraph.specs.Graphs.{EachOnce, before_of}
use Rattle.pb_taskgraph.specs.Plans.{IsPlan, Plan, outcome_at}
use Rattle.pb_core.specs.States.{first_state}
use Rattle.pb_core.proofs.CountLemmas.{once-filter}
use Rattle.pb_core.proofs.FirstLemmas.{first-sound}
use Rattle.pb_core.proofs.WithLemmas.{not-none}
use Rattle.pb_cells.specs.declared.view.View.{View}
use Rattle.pb_cells.specs.Banks.{Bank, bank_of}
use Rattle.pb_cells.specs.Openings.{IsFirst}
use Rattle.pb_cells.specs.Stories.{Fits, Holds, Story, TellsCell}
use Rattle.pb_cells.specs.Steps.{Me}
use Rattle.pb_cells.specs.Views.{first_view, ready_tasks, turns_view}
use Rattle.pb_cells.proofs.SeatLemmas.{none-some}

range-once : (n : ℕ) → EachOnce (range_with_len 0 n)
range-once n i j below inside same =
    let long = length-range_with_len 0 n in
    let first : get_or (range_with_len 0 n) i 0 ≡ i = omega (arith, get_or-range_with_len 0 n i 0 (omega arith)) in
    let second : get_or (range_with_len 0 n) j 0 ≡ j = omega (arith, get_or-range_with_len 0 n j 0 (omega arith)) in
    omega arith

module _ (p : Plan) where
  abbrev is_open : ℕ → Bool
  is_open t = eqb (length (before_of p.graph t)) 0

  pub open-in : (t : ℕ) → Contains (ready_tasks p) t → (t < length p.graph.tasks) × (length (before_of p.graph t) ≡ 0)
  unfolding ready_tasks
  open-in t h = let parts = filter_in is_open (range_with_len 0 (length p.graph.tasks)) t h in (range_in (length p.graph.tasks) t parts.0, eqb-true (length (before_of p.graph t)) 0 parts.1)

  pub in-open : (t : ℕ) → t < length p.graph.tasks → length (before_of p.graph t) ≡ 0 → Contains (ready_tasks p) t
  unfolding ready_tasks
  in-open t below none = in_filter is_open (range_with_len 0 (length p.graph.tasks)) t (in_range (length p.graph.tasks) t below) (eq-eqb (length (before_of p.graph t)) 0 none)

  pub open-once : EachOnce (ready_tasks p)
  unfolding ready_tasks
  open-once = once-filter is_open (range_with_len 0 (length p.graph.tasks)) (range-once (length p.graph.tasks))

  abbrev pub first_story : Story
  first_story = record { core = first_state p 1; wrote = λ t. 0; opener = λ t. None; taker = λ t. None; kept = λ t. false; filed = [] }

  no-value : {A : Type 0} (x : A) → None ≡ Some x → ⊥
  no-value x e = none-some None x refl e

  first-holder : (t id : ℕ) → first_story.core.holder t ≡ Some id → (id ≡ 0) × (t < length p.graph.tasks) × (length (before_of p.graph t) ≡ 0)
  first-holder t id e =
      let there = cond_some (ltb t (length p.graph.tasks) && is_open t) (t % 1) id e in
      let parts = and_parts (ltb t (length p.graph.tasks)) (is_open t) there.0 in
      (omega (arith, there.1), grind (arith, nat_tests), eqb-true (length (before_of p.graph t)) 0 parts.1)

  holder-first : (t : ℕ) → t < length p.graph.tasks → length (before_of p.graph t) ≡ 0 → first_story.core.holder t ≡ Some 0
  holder-first t below none = let zero_left : t % 1 ≡ 0 = omega arith in grind (arith, nat_tests)

  module _ (is : IsPlan p) (words : List ℕ) (first : IsFirst p words) where
    abbrev b : Bank
    b = bank_of p.graph words

    first-cells : (c : ℕ) → c < p.graph.cells → TellsCell (first_story.core.value c) (b.mark c) (b.value c)
    first-cells c below = ⊎_elim
        (λ (input : c < p.graph.inputs). let is_input : true ≡ ltb c p.graph.inputs = grind (arith, nat_tests) in
        subst (λ x. TellsCell (cond x (Some (outcome_at p.solution c)) None) (b.mark c) (b.value c)) is_input (first.told.cells.told c input))
        (λ (past : p.graph.inputs ≤ c). let is_other : false ≡ ltb c p.graph.inputs = grind (arith, nat_tests) in
        subst (λ x. TellsCell (cond x (Some (outcome_at p.solution c)) None) (b.mark c) (b.value c)) is_other (first.told.cells.blank c past below))
        (cases_lt c p.graph.inputs)

    first-order : (t c : ℕ) → t < length p.graph.tasks → Contains (p.order t) c → IsSome (first_story.core.value c) → ⊥
    first-order t c below h there = let past = (is.graph.partition.past t c ((is.listed t c below).0 h)).0 in
        let none : first_story.core.value c ≡ None = grind (arith, nat_tests) in not-none (first_story.core.value c) none there

    first-fits : Fits p b first_story 0 (first_view p)
    unfolding first_view
    first-fits = record {
      job = λ t h. no-value 0 h.0;
      turns = record {
        each = λ t. (
          λ h. let there = open-in t h in (holder-first t there.0 there.1, refl),
          λ h. let there = first-holder t 0 h.0 in in-open t there.1 there.2,
        );
        once = open-once;
      };
      opened = record { each = λ t. (λ h. absurd (in_none t h), λ h. absurd (no-value h.0 h.1)); once = λ i k below. absurd (omega arith) };
      left = tt;
      ran = record { each = λ t n. (λ h. absurd (in_none (t, n) h), λ h. absurd (no-value 0 h.0)); once = λ i k below. absurd (omega arith) };
      seen = omega arith;
    }

    only-seat : (id : ℕ) (v w : View) → get_elem? (v ∷ []) id ≡ some w → (id ≡ 0) × (v ≡ w)
    only-seat zero v w e = (refl, some-injective v w e)
    only-seat (suc id) v w e = absurd (some-ne-none w (sym e))

    pub first-holds : Holds p (record { words = words; homes = []; views = first_view p ∷ [] })
    first-holds = record {
      plan = is;
      width = first.told.width;
      story = first_story;
      is = record {
        tells = record {
          sound = first-sound p is 1;
          counts = first.counts;
          finish = first.told.finish;
          cells = first-cells;
          order = λ t below c h. (λ there. absurd (first-order t c below h there), λ h. absurd (in_none c h));
          unbegun = λ t e. (refl, refl);
          opened = λ t u e. absurd (no-value u e);
          opens = λ t below waits some_before. absurd (omega arith);
          taken = λ t id e. absurd (no-value id e);
          numbers = record {
            stored = λ t e. absurd (let wrong : false ≡ true = e in cc);
            count_is = first.told.filed;
            once = λ i k below. absurd (omega arith);
            kept = λ t h. absurd (in_none t h);
          };
        };
        seats = record {
          holders = λ t id e. let there = first-holder t id e in omega (arith, there.0);
          runners = λ t id e. absurd (no-value id e);
          takers = λ t id e. absurd (no-value id e);
        };
        fits = λ id v e. let there = only-seat id (first_view p) v e in subst (λ k. Fits p b first_story k v) (sym there.0) (subst (Fits p b first_story 0) there.1 first-fits);
      };
    }

-- ---- what is asked where a table is made
pub opening-asks : (p q : Plan) → p ≡ q → IsPlan p → (words given : List ℕ) → given ≡ words → IsFirst p words → Holds q (record { words = given; homes = []; views = first_view q ∷ [] })
opening-asks p q name is words given same first = subst (λ (r : Plan). Holds r (record { words = given; homes = []; views = first_view r ∷ [] })) name
    (subst (λ (l : List ℕ). Holds p (record { words = l; homes = []; views = first_view p ∷ [] })) (sym same) (first-holds p is words first))

pub turns-asks : (p q : Plan) → p ≡ q → (me : Me) → me ≡ (first_view q, []) → (ready given : List ℕ) → given ≡ ready → ready ≡ ready_tasks p → me ≡ (turns_view given, [])
unfolding first_view
turns-asks p q name me first ready given same all = first ∙ (λ i. (turns_view (sym (same ∙ (all ∙ ap ready_tasks name)) i), []))

pub tasks-asks : (p q : Plan) → p ≡ q → (ready given : List ℕ) → given ≡ ready → ready ≡ ready_tasks p → (t : ℕ) → Contains given t → t < length q.graph.tasks
tasks-asks p q name ready given same all t h = (open-in q t (subst (λ (l : List ℕ). Contains l t) (same ∙ (all ∙ ap ready_tasks name)) h)).0
