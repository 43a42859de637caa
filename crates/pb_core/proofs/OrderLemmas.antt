-- The finished tasks by number.
use Rattle.std.proofs.Common.{◌≡◌, ◌∙◌, refl, sym, ap, ⊎_elim, ℕ, zero, suc, ◌<◌, Bool, true, false, length, get_or, Option, Some, None, IsSome, zero-add, arith}
use Rattle.std.specs.List.{Contains}
use Rattle.std.proofs.Math.Bool.{cond}
use Rattle.std.proofs.lemmas.Bool.{cases_eq, eq-eqb, eqb-true}
use Rattle.std.proofs.lemmas.List.{get_or_default}
use Rattle.std.proofs.lemmas.List.FromFn.{get_or-map-range_with_len, length-map-range_with_len}
use Rattle.pb_taskgraph.specs.Plans.{Plan}
use Rattle.pb_taskgraph.specs.Orders.{IsLawful}
use Rattle.pb_core.specs.States.{State}
use Rattle.pb_core.specs.Events.{AllFinished, IsFinishedOrder, by_number, has_number, task_numbered}
use Rattle.pb_core.specs.Sound.{IsSound}
use Rattle.pb_core.proofs.WithLemmas.{of-some, some-of}

has-is : (o : Option ℕ) (n : ℕ) → has_number o n ≡ true → o ≡ Some n
has-is None n e = absurd (cc)
has-is (Some m) n e = ap (λ k. Some k) (eqb-true m n e)

is-has : (o : Option ℕ) (n : ℕ) → o ≡ Some n → has_number o n ≡ true
is-has o n is = ap (λ x. has_number x n) is ∙ eq-eqb n n refl

module _ (number : ℕ → Option ℕ) (n : ℕ) where
  -- what is found has the number
  pub numbered : (bound t : ℕ) → t < bound → number t ≡ Some n → number (task_numbered number bound n) ≡ Some n
  numbered zero t below is = absurd (omega arith)
  numbered (suc bound) t below is = go (has_number (number bound) n) refl (λ before. numbered bound t before is)
    where
      go : (b : Bool) → has_number (number bound) n ≡ b → (t < bound → number (task_numbered number bound n) ≡ Some n) → number (cond b bound (task_numbered number bound n)) ≡ Some n
      go true e rest = has-is (number bound) n e
      go false e rest = rest (⊎_elim
          (λ (same : t ≡ bound). let wrong : false ≡ true = sym e ∙ is-has (number bound) n (ap number (sym same) ∙ is) in absurd (cc))
          (λ (other : t ≡ bound → ⊥). omega arith)
          (cases_eq t bound))

module _ (p : Plan) (s : State) (sound : IsSound p s) where
  pub is-task : (t : ℕ) → IsSome (s.number t) → t < length p.graph.tasks
  is-task t some = (sound.held.tasks t (sound.held.started t (sound.held.ended t some))).0

  pub numbered-is : (n : ℕ) → n < s.finished → s.number (task_numbered s.number (length p.graph.tasks) n) ≡ Some n
  numbered-is n below = let there = sound.numbers.drawn n below in numbered s.number n (length p.graph.tasks) there.0 (is-task there.0 (some-of (s.number there.0) n there.1)) there.1

  size : length (by_number p.graph s.number s.finished) ≡ s.finished
  size = length-map-range_with_len (task_numbered s.number (length p.graph.tasks)) 0 s.finished

  at-number : (i : ℕ) → i < s.finished → s.number (get_or (by_number p.graph s.number s.finished) i 0) ≡ Some i
  at-number i below = ap s.number (get_or-map-range_with_len (task_numbered s.number (length p.graph.tasks)) 0 s.finished i i 0 below (zero-add i)) ∙ numbered-is i below

  pub finished-order : IsFinishedOrder p.graph s (by_number p.graph s.number s.finished)
  finished-order = record {
    number = λ i below. at-number i (omega (arith, size));
    only = λ t h. let some = some-of (s.number t) h.0 (ap s.number (sym h.2 ∙ get_or_default (by_number p.graph s.number s.finished) h.0 t 0 h.1) ∙ at-number h.0 (omega (arith, size, h.1))) in (is-task t some, some);
    each = λ t some. let there = of-some (s.number t) some in place t there.0 there.1;
    once = λ i j below inside same. let one : Some i ≡ Some j = sym (at-number i (omega (arith, size))) ∙ ap s.number same ∙ at-number j (omega (arith, size)) in cc;
    after = λ i u below h.
        let there = sound.numbers.after (get_or (by_number p.graph s.number s.finished) i 0) u i h (at-number i (omega (arith, size))) in
        (there.0, there.2, sound.numbers.once (get_or (by_number p.graph s.number s.finished) there.0 0) u there.0 (at-number there.0 (omega (arith, size, there.2))) there.1);
  }
    where
      place : (t n : ℕ) → s.number t ≡ Some n → Contains (by_number p.graph s.number s.finished) t
      place t n is =
          let below = sound.numbers.below t n is in
          let inside : n < length (by_number p.graph s.number s.finished) = omega (arith, size) in
          (n, inside, get_or_default (by_number p.graph s.number s.finished) n t 0 inside ∙ sound.numbers.once (get_or (by_number p.graph s.number s.finished) n 0) t n (at-number n below) is)

-- where all tasks are finished, that is a lawful order of them
pub lawful-order : (p : Plan) (s : State) → IsSound p s → AllFinished p.graph s → IsLawful p.graph (by_number p.graph s.number s.finished)
lawful-order p s sound all =
    let is = finished-order p s sound in
    record {
      only = λ t h. (is.only t h).0;
      each = λ t below. is.each t (all t below);
      once = is.once;
      after = λ i j below inside h.
          let there = is.after i (get_or (by_number p.graph s.number s.finished) j 0) below h in
          let same : there.0 ≡ j = is.once there.0 j (omega (arith, there.1)) inside there.2 in omega (arith, same, there.1);
    }
