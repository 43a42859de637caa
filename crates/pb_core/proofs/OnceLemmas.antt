-- Lists of enabled events: each cell is written at most once, with the right outcome, after those that it may read.
use Rattle.std.proofs.Common.{◌≡◌, ◌∙◌, sym, ap, subst, ⊎_elim, ℕ, ◌+◌, ◌<◌, ◌≤◌, eqb, Bool, List, [], ◌∷◌, ◌++◌, Option, Some, None, IsSome, arith}
use Rattle.std.specs.Prelude.{is_some}
use Rattle.std.specs.List.{Contains}
use Rattle.std.proofs.lemmas.Bool.{cases_eq}
use Rattle.std.proofs.lemmas.Bool.Decides.{nat_tests}
use Rattle.pb_base.proofs.ListLemmas.{in_head, in_tail}
use Rattle.pb_values.specs.declared.outcome.Outcome.{Outcome}
use Rattle.pb_taskgraph.specs.Graphs.{before_of, cells_of}
use Rattle.pb_taskgraph.specs.Plans.{IsPlan, Plan, outcome_at}
use Rattle.pb_core.specs.declared.event.Event.{Event}
use Rattle.pb_core.specs.declared.event.Event.TheVariants.{Finish, Give, Release, Start, Write}
use Rattle.pb_core.specs.States.{State, counted, first_state, happens}
use Rattle.pb_core.specs.Events.{AllEnabled, AllFinished, all_happen, writes}
use Rattle.pb_core.specs.Sound.{IsSound}
use Rattle.pb_core.proofs.CountLemmas.{one_if}
use Rattle.pb_core.proofs.FirstLemmas.{first-sound}
use Rattle.pb_core.proofs.KeepLemmas.{finished-before, keeps, started-count}
use Rattle.pb_core.proofs.WithLemmas.{some-of, with-other, with-same}

abbrev pub is_this : ℕ → ℕ → Bool
is_this c x = eqb x c

pub counted-in : (xs : List ℕ) (c : ℕ) → 0 < counted (is_this c) xs → Contains xs c
counted-in [] c some = absurd (omega arith)
counted-in (x ∷ xs) c some = ⊎_elim
    (λ (same : x ≡ c). subst (Contains (x ∷ xs)) same (in_head x xs))
    (λ (other : x ≡ c → ⊥). in_tail x c xs (counted-in xs c (grind (arith, nat_tests))))
    (cases_eq x c)

abbrev one : {X : Type 0} → Option X → ℕ
one o = one_if (is_some o)

one-some : {X : Type 0} (o : Option X) → IsSome o → one o ≡ 1
one-some o some = ap one_if some

one-most : {X : Type 0} (o : Option X) → one o ≤ 1
one-most None = omega arith
one-most (Some x) = omega arith

module _ (p : Plan) where
  pub all-sound : IsPlan p → (es : List Event) (s : State) → IsSound p s → AllEnabled p s es → IsSound p (all_happen p s es)
  all-sound is [] s sound enabled = sound
  all-sound is (e ∷ es) s sound enabled = all-sound is es (happens p s e) (keeps p is s sound e enabled.0) enabled.1

  pub all-early : (es fs : List Event) (s : State) → AllEnabled p s (es ++ fs) → AllEnabled p s es
  all-early [] fs s enabled = tt
  all-early (e ∷ es) fs s enabled = (enabled.0, all-early es fs (happens p s e) enabled.1)

  pub all-late : (es fs : List Event) (s : State) → AllEnabled p s (es ++ fs) → AllEnabled p (all_happen p s es) fs
  all-late [] fs s enabled = enabled
  all-late (e ∷ es) fs s enabled = all-late es fs (happens p s e) enabled.1

  -- a cell is written by an event where it wasn't written before and is afterwards
  pub written-count : (c : ℕ) (es : List Event) (s : State) → AllEnabled p s es → counted (is_this c) (writes es) + one (s.value c) ≡ one ((all_happen p s es).value c)
  written-count c [] s enabled = omega arith
  written-count c (Start hand task ∷ es) s enabled = written-count c es (happens p s (Start hand task)) enabled.1
  written-count c (Write hand cell ∷ es) s (enabled, rest) = ⊎_elim
      (λ (same : cell ≡ c).
      let none : s.value c ≡ None = ap s.value (sym same) ∙ enabled.4 in
      let some : (happens p s (Write hand cell)).value c ≡ Some (outcome_at p.solution cell) = with-same s.value cell (Some (outcome_at p.solution cell)) c (sym same) in
      omega (arith, ap (λ (o : Option Outcome). one o) none, ap (λ (o : Option Outcome). one o) some, written-count c es (happens p s (Write hand cell)) rest, this same))
      (λ (other : cell ≡ c → ⊥).
      let kept : (happens p s (Write hand cell)).value c ≡ s.value c = with-other s.value cell (Some (outcome_at p.solution cell)) c (λ e. other (sym e)) in
      omega (arith, ap (λ (o : Option Outcome). one o) kept, written-count c es (happens p s (Write hand cell)) rest, that other))
      (cases_eq cell c)
    where
      this : cell ≡ c → one_if (eqb cell c) ≡ 1
      this same = grind (arith, nat_tests)

      that : (cell ≡ c → ⊥) → one_if (eqb cell c) ≡ 0
      that other = grind (arith, nat_tests)
  written-count c (Finish hand task ∷ es) s enabled = written-count c es (happens p s (Finish hand task)) enabled.1
  written-count c (Release hand task next ∷ es) s enabled = written-count c es (happens p s (Release hand task next)) enabled.1
  written-count c (Give giver taker task ∷ es) s enabled = written-count c es (happens p s (Give giver taker task)) enabled.1

  module _ (is : IsPlan p) (hands : ℕ) where
    past-none : (c : ℕ) → p.graph.inputs ≤ c → one ((first_state p hands).value c) ≡ 0
    past-none c past = grind (arith, nat_tests)

    module _ (es : List Event) (enabled : AllEnabled p (first_state p hands) es) where
      pub end-sound : IsSound p (all_happen p (first_state p hands) es)
      end-sound = all-sound is es (first_state p hands) (first-sound p is hands) enabled

      pub once : (c : ℕ) → counted (is_this c) (writes es) ≤ 1
      once c = omega (arith, written-count c es (first_state p hands) enabled, one-most ((all_happen p (first_state p hands) es).value c))

      pub never : (c : ℕ) → c < p.graph.inputs → counted (is_this c) (writes es) ≡ 0
      never c input = omega (arith, written-count c es (first_state p hands) enabled, one-most ((all_happen p (first_state p hands) es).value c), one-some ((first_state p hands).value c) ((first-sound p is hands).written.inputs c input))

      pub is-written : (c : ℕ) → p.graph.inputs ≤ c → IsSome ((all_happen p (first_state p hands) es).value c) → counted (is_this c) (writes es) ≡ 1
      is-written c past some = omega (arith, written-count c es (first_state p hands) enabled, past-none c past, one-some ((all_happen p (first_state p hands) es).value c) some)

      pub whole : AllFinished p.graph (all_happen p (first_state p hands) es) → (c : ℕ) → p.graph.inputs ≤ c → c < p.graph.cells → counted (is_this c) (writes es) ≡ 1
      whole all c past below = let there = is.graph.partition.some c past below in is-written c past (end-sound.written.whole there.0 c (all there.0 there.1) there.2)

    pub after : (es fs : List Event) (hand c t u d : ℕ) → AllEnabled p (first_state p hands) (es ++ Write hand c ∷ fs)
        → Contains (cells_of p.graph t) c → Contains (before_of p.graph t) u → Contains (cells_of p.graph u) d → Contains (writes es) d
    after es fs hand c t u d enabled own h there =
        let early = all-early es (Write hand c ∷ fs) (first_state p hands) enabled in
        let late = (all-late es (Write hand c ∷ fs) (first_state p hands) enabled).0 in
        let sound = end-sound es early in
        let same : late.0 ≡ t = is.graph.partition.one late.0 t c late.1 own in
        let runs : IsSome ((all_happen p (first_state p hands) es).runner t) = subst (λ w. IsSome ((all_happen p (first_state p hands) es).runner w)) same (some-of ((all_happen p (first_state p hands) es).runner late.0) hand late.2) in
        let ended = finished-before p is (all_happen p (first_state p hands) es) sound t u (started-count p is (all_happen p (first_state p hands) es) sound t runs) h in
        let times = is-written es early d (is.graph.partition.past u d there).0 (sound.written.whole u d ended there) in
        counted-in (writes es) d (omega arith)
