-- The state before any event is sound.
use Rattle.std.proofs.Common.{◌≡◌, ◌∙◌, refl, sym, ℕ, ◌<◌, ◌%◌, ◌&&◌, eqb, ltb, Bool, true, false, length, Option, Some, None, IsSome, arith}
use Rattle.std.proofs.Math.Bool.{cond}
use Rattle.std.proofs.lemmas.Bool.{and_parts}
use Rattle.std.proofs.lemmas.Bool.Decides.{nat_tests}
use Rattle.std.proofs.lemmas.Option.{cond_some}
use Rattle.pb_taskgraph.specs.Graphs.{before_of}
use Rattle.pb_taskgraph.specs.Plans.{IsPlan, Plan, outcome_at}
use Rattle.pb_core.specs.States.{first_state}
use Rattle.pb_core.specs.Sound.{IsSound}
use Rattle.pb_core.proofs.CountLemmas.{count-all}
use Rattle.pb_core.proofs.WithLemmas.{not-none, of-some}

none-is : {X : Type 0} (o : Option X) (x : X) → o ≡ None → o ≡ Some x → ⊥
none-is o x none is = let wrong : None ≡ Some x = sym none ∙ is in cc

cond-true : {X : Type 0} (b : Bool) (x : X) → IsSome (cond b (Some x) None) → b ≡ true
cond-true b x some = let there = of-some (cond b (Some x) None) some in (cond_some b x there.0 there.1).0

module _ (p : Plan) (is : IsPlan p) (hands : ℕ) where
  waits : (t : ℕ) → ltb t (length p.graph.tasks) && eqb (length (before_of p.graph t)) 0 ≡ true → (t < length p.graph.tasks) × (length (before_of p.graph t) ≡ 0)
  waits t e = let parts = and_parts (ltb t (length p.graph.tasks)) (eqb (length (before_of p.graph t)) 0) e in (grind (arith, nat_tests), grind (arith, nat_tests))

  pub first-sound : IsSound p (first_state p hands)
  first-sound = record {
    counts = record {
      counts = λ t. sym (count-all (λ u. true) (before_of p.graph t) (λ u h. refl));
      releases = λ u t e. let wrong : false ≡ true = e in absurd (cc);
    };
    held = record {
      tasks = λ t some. waits t (cond-true (ltb t (length p.graph.tasks) && eqb (length (before_of p.graph t)) 0) (t % hands) some);
      ready = λ t below none. grind (arith, nat_tests);
      started = λ t some. absurd (not-none {X = ℕ} None refl some);
      ended = λ t some. some;
    };
    written = record {
      inputs = λ c input. grind (arith, nat_tests);
      whole = λ t c some own. absurd (not-none {X = ℕ} None refl some);
      begun = λ t c some own. let input = cond-true (ltb c p.graph.inputs) (outcome_at p.solution c) some in let past = (is.graph.partition.past t c own).0 in absurd (grind (arith, nat_tests));
      cells = λ c some. let input = cond-true (ltb c p.graph.inputs) (outcome_at p.solution c) some in let all = is.graph.partition.inputs in grind (arith, nat_tests);
      right = λ c v e. sym (cond_some (ltb c p.graph.inputs) (outcome_at p.solution c) v e).1;
    };
    numbers = record {
      below = λ t n e. absurd (none-is None n refl e);
      drawn = λ n less. absurd (omega arith);
      once = λ t u n e f. absurd (none-is None n refl e);
      after = λ t u n h e. absurd (none-is None n refl e);
    };
  }
