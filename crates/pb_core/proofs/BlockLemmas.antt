-- The events of one task, one after another.
use Rattle.std.proofs.Common.{◌≡◌, ◌∙◌, refl, sym, subst, inl, inr, ◌⊎◌, ⊎_elim, ℕ, zero, suc, ◌-◌, true, false, List, [], ◌∷◌, ◌++◌, map, Some, None, IsSome}
use Rattle.std.specs.List.{Contains}
use Rattle.std.proofs.lemmas.Bool.{cases_eq}
use Rattle.pb_base.proofs.ListLemmas.{in_cases, in_head, in_none, in_tail}
use Rattle.pb_taskgraph.specs.Graphs.{EachOnce, after_of, cells_of}
use Rattle.pb_taskgraph.specs.Plans.{Plan, outcome_at}
use Rattle.pb_core.specs.declared.event.Event.{Event}
use Rattle.pb_core.specs.declared.event.Event.TheVariants.{Release, Write}
use Rattle.pb_core.specs.States.{State, happens, holder_at, with}
use Rattle.pb_core.specs.Events.{AllEnabled, all_happen}
use Rattle.pb_core.proofs.CountLemmas.{once-head, once-rest}
use Rattle.pb_core.proofs.WithLemmas.{link-column, link-new, link-row, some-stays, some-was, with-each, with-other, with_link}

-- lists of events, one after the other
module _ (p : Plan) where
  pub both-enabled : (es fs : List Event) (s : State) → AllEnabled p s es → AllEnabled p (all_happen p s es) fs → AllEnabled p s (es ++ fs)
  both-enabled [] fs s a b = b
  both-enabled (e ∷ es) fs s a b = (a.0, both-enabled es fs (happens p s e) a.1 b)

  pub both-happen : (es fs : List Event) (s : State) → all_happen p s (es ++ fs) ≡ all_happen p (all_happen p s es) fs
  both-happen [] fs s = refl
  both-happen (e ∷ es) fs s = both-happen es fs (happens p s e)

-- all but runners and values stays
pub record IsQuiet (s now : State) : Type 0 where
  pub count : now.count ≡ s.count
  pub holder : now.holder ≡ s.holder
  pub number : now.number ≡ s.number
  pub released : now.released ≡ s.released
  pub finished : now.finished ≡ s.finished
  pub given : now.given ≡ s.given

pub quiet-same : (s : State) → IsQuiet s s
quiet-same s = record { count = refl; holder = refl; number = refl; released = refl; finished = refl; given = refl }

pub quiet-both : (s t u : State) → IsQuiet s t → IsQuiet t u → IsQuiet s u
quiet-both s t u a b = record { count = b.count ∙ a.count; holder = b.holder ∙ a.holder; number = b.number ∙ a.number; released = b.released ∙ a.released; finished = b.finished ∙ a.finished; given = b.given ∙ a.given }

-- the writes of a task
abbrev pub write_all : ℕ → List ℕ → List Event
write_all hand cells = map (λ c. Write hand c) cells

pub record HasWritten (s now : State) (cells : List ℕ) : Type 0 where
  pub quiet : IsQuiet s now
  pub runner : now.runner ≡ s.runner
  pub new : (c : ℕ) → Contains cells c → IsSome (now.value c)
  pub kept : (c : ℕ) → IsSome (s.value c) → IsSome (now.value c)
  pub was : (c : ℕ) → IsSome (now.value c) → Contains cells c ⊎ IsSome (s.value c)

module _ (p : Plan) (hand : ℕ) where
  pub writes-enabled : (t : ℕ) (cells : List ℕ) (s : State) → ((c : ℕ) → Contains cells c → Contains (cells_of p.graph t) c) → EachOnce cells → s.runner t ≡ Some hand → s.number t ≡ None
      → ((c : ℕ) → Contains cells c → s.value c ≡ None) → AllEnabled p s (write_all hand cells)
  writes-enabled t [] s own once runs open_ empty = tt
  writes-enabled t (c ∷ cells) s own once runs open_ empty = (
    (t, own c (in_head c cells), runs, open_, empty c (in_head c cells)),
    writes-enabled t cells (happens p s (Write hand c)) (λ d h. own d (in_tail c d cells h)) (once-rest c cells once) runs open_
        (λ d h. with-other s.value c (Some (outcome_at p.solution c)) d (λ e. once-head c cells once (subst (Contains cells) e h)) ∙ empty d (in_tail c d cells h)),
  )

  pub writes-done : (cells : List ℕ) (s : State) → HasWritten s (all_happen p s (write_all hand cells)) cells
  writes-done [] s = record { quiet = quiet-same s; runner = refl; new = λ c h. absurd (in_none c h); kept = λ c some. some; was = λ c some. inr some }
  writes-done (c ∷ cells) s =
      let rest = writes-done cells (happens p s (Write hand c)) in
      let v = outcome_at p.solution c in
      record {
        quiet = quiet-both s (happens p s (Write hand c)) (all_happen p (happens p s (Write hand c)) (write_all hand cells)) (record { count = refl; holder = refl; number = refl; released = refl; finished = refl; given = refl }) rest.quiet;
        runner = rest.runner;
        new = λ d h. ⊎_elim
            (λ (same : c ≡ d). rest.kept d (with-each s.value c (Some v) d IsSome (λ e. refl) (λ other. absurd (other (sym same)))))
            (λ (later : Contains cells d). rest.new d later)
            (in_cases c d cells h);
        kept = λ d some. rest.kept d (some-stays s.value c v d some);
        was = λ d some. ⊎_elim
            (λ (later : Contains cells d). inl (in_tail c d cells later))
            (λ (before : IsSome (with s.value c (Some v) d)). ⊎_elim
            (λ (same : d ≡ c). inl (subst (Contains (c ∷ cells)) (sym same) (in_head c cells)))
            (λ (old : IsSome (s.value d)). inr old)
            (some-was s.value c v d before))
            (rest.was d some);
      }

-- the releases of a task
abbrev pub release_all : ℕ → ℕ → List ℕ → List Event
release_all hand t nexts = map (λ next. Release hand t next) nexts

-- no other hand holds a task
abbrev pub IsAlone : ℕ → State → Type 0
IsAlone hand s = (t other : ℕ) → s.holder t ≡ Some other → other ≡ hand

pub record HasReleased (hand : ℕ) (s now : State) (t : ℕ) (nexts : List ℕ) : Type 0 where
  pub runner : now.runner ≡ s.runner
  pub number : now.number ≡ s.number
  pub value : now.value ≡ s.value
  pub finished : now.finished ≡ s.finished
  pub given : now.given ≡ s.given
  pub alone : IsAlone hand s → IsAlone hand now
  pub new : (v : ℕ) → Contains nexts v → now.released t v ≡ true
  pub kept : (u v : ℕ) → s.released u v ≡ true → now.released u v ≡ true
  pub was : (u v : ℕ) → now.released u v ≡ true → (s.released u v ≡ true) ⊎ ((u ≡ t) × Contains nexts v)

module _ (p : Plan) (hand t : ℕ) where
  pub releases-enabled : (nexts : List ℕ) (s : State) → EachOnce nexts → ((v : ℕ) → Contains nexts v → Contains (after_of p.graph t) v) → ((v : ℕ) → Contains nexts v → s.released t v ≡ false)
      → IsSome (s.number t) → s.runner t ≡ Some hand → AllEnabled p s (release_all hand t nexts)
  releases-enabled [] s once after open_ done runs = tt
  releases-enabled (v ∷ nexts) s once after open_ done runs = (
    (done, runs, after v (in_head v nexts), open_ v (in_head v nexts)),
    releases-enabled nexts (happens p s (Release hand t v)) (once-rest v nexts once) (λ w h. after w (in_tail v w nexts h))
        (λ w h. link-column s.released t v t w (λ e. once-head v nexts once (subst (Contains nexts) e h)) ∙ open_ w (in_tail v w nexts h)) done runs,
  )

  alone-more : (v : ℕ) (s : State) → IsAlone hand s → IsAlone hand (happens p s (Release hand t v))
  alone-more v s alone u other = with-each s.holder v (holder_at (s.count v - 1) hand (s.holder v)) u (λ o. o ≡ Some other → other ≡ hand)
      (λ same e. held (s.count v - 1) e)
      (λ apart e. alone u other e)
    where
      held : (n : ℕ) → holder_at n hand (s.holder v) ≡ Some other → other ≡ hand
      held zero e = let first : Some hand ≡ Some other = e in cc
      held (suc n) e = alone v other e

  pub releases-done : (nexts : List ℕ) (s : State) → HasReleased hand s (all_happen p s (release_all hand t nexts)) t nexts
  releases-done [] s = record { runner = refl; number = refl; value = refl; finished = refl; given = refl; alone = λ alone. alone; new = λ v h. absurd (in_none v h); kept = λ u v e. e; was = λ u v e. inl e }
  releases-done (v ∷ nexts) s =
      let rest = releases-done nexts (happens p s (Release hand t v)) in
      record {
        runner = rest.runner;
        number = rest.number;
        value = rest.value;
        finished = rest.finished;
        given = rest.given;
        alone = λ alone. rest.alone (alone-more v s alone);
        new = λ w h. ⊎_elim
            (λ (same : v ≡ w). rest.kept t w (subst (λ x. with_link s.released t v t x ≡ true) same (link-new s.released t v)))
            (λ (later : Contains nexts w). rest.new w later)
            (in_cases v w nexts h);
        kept = λ u w e. rest.kept u w (stays u w e);
        was = λ u w e. ⊎_elim
            (λ (before : with_link s.released t v u w ≡ true). came u w before)
            (λ (later : (u ≡ t) × Contains nexts w). inr (later.0, in_tail v w nexts later.1))
            (rest.was u w e);
      }
    where
      stays : (u w : ℕ) → s.released u w ≡ true → with_link s.released t v u w ≡ true
      stays u w e = ⊎_elim
          (λ (column : w ≡ v). ⊎_elim
          (λ (row : u ≡ t). subst (λ x. with_link s.released t v x w ≡ true) (sym row) (subst (λ x. with_link s.released t v t x ≡ true) (sym column) (link-new s.released t v)))
          (λ (other : u ≡ t → ⊥). link-row s.released t v u w other ∙ e)
          (cases_eq u t))
          (λ (other : w ≡ v → ⊥). link-column s.released t v u w other ∙ e)
          (cases_eq w v)

      came : (u w : ℕ) → with_link s.released t v u w ≡ true → (s.released u w ≡ true) ⊎ ((u ≡ t) × Contains (v ∷ nexts) w)
      came u w e = ⊎_elim
          (λ (column : w ≡ v). ⊎_elim
          (λ (row : u ≡ t). inr (row, subst (Contains (v ∷ nexts)) (sym column) (in_head v nexts)))
          (λ (other : u ≡ t → ⊥). inl (sym (link-row s.released t v u w other) ∙ e))
          (cases_eq u t))
          (λ (other : w ≡ v → ⊥). inl (sym (link-column s.released t v u w other) ∙ e))
          (cases_eq w v)
