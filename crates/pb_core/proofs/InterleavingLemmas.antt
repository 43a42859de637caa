-- The listed events of a sound snapshot write the cells of each task in its own order.
use Rattle.std.proofs.Common.{◌≡◌, ◌∙◌, refl, sym, ap, subst, ⊎_elim, ℕ, ◌<◌, eqb, Bool, true, false, not, List, [], ◌∷◌, ◌++◌, length, take, Option, Some, None, arith}
use Rattle.std.specs.Prelude.{filter, is_some}
use Rattle.std.specs.List.{Contains, flat_map, list_any, range_with_len}
use Rattle.std.proofs.Math.Bool.{cond}
use Rattle.std.proofs.Math.Path.{fun_ext}
use Rattle.std.proofs.lemmas.List.{append-nil, take_all}
use Rattle.pb_base.proofs.ListLemmas.{filter_in, in_cases, in_filter, in_head, in_range, in_tail}
use Rattle.pb_taskgraph.specs.Graphs.{EachOnce, after_of, cells_of}
use Rattle.pb_taskgraph.specs.Plans.{IsPlan, Plan}
use Rattle.pb_core.specs.declared.event.Event.{Event}
use Rattle.pb_core.specs.declared.event.Event.TheVariants.{Finish, Give, Release, Start, Write}
use Rattle.pb_core.specs.Events.{IsFinishedOrder, by_number, writes}
use Rattle.pb_core.specs.Listed.{IsInterleaving, WritesInOrder, begun_events, finished_events, is_begun, listed_events, writes_of}
use Rattle.pb_core.specs.Snapshots.{IsSoundSnapshot, Snapshot}
use Rattle.pb_core.proofs.BlockLemmas.{release_all, write_all}
use Rattle.pb_core.proofs.CountLemmas.{once-head, once-rest}
use Rattle.pb_core.proofs.ListedLemmas.{all, begun, begun-each, begun-once, listed-enabled, not-true, number-0, s0}
use Rattle.pb_core.proofs.OrderLemmas.{finished-order}
use Rattle.pb_core.proofs.SnapshotLemmas.{any-in, in-any}
use Rattle.pb_core.proofs.WithLemmas.{not-none, some-of}

-- the writes of lists one after the other
writes-both : (es fs : List Event) → writes (es ++ fs) ≡ writes es ++ writes fs
writes-both [] fs = refl
writes-both (Start hand task ∷ es) fs = writes-both es fs
writes-both (Write hand cell ∷ es) fs = ap (λ l. cell ∷ l) (writes-both es fs)
writes-both (Finish hand task ∷ es) fs = writes-both es fs
writes-both (Release hand task next ∷ es) fs = writes-both es fs
writes-both (Give giver taker task ∷ es) fs = writes-both es fs

writes-all : (cells : List ℕ) → writes (write_all 0 cells) ≡ cells
writes-all [] = refl
writes-all (c ∷ cells) = ap (λ l. c ∷ l) (writes-all cells)

writes-none : (t : ℕ) (nexts : List ℕ) → writes (release_all 0 t nexts) ≡ []
writes-none t [] = refl
writes-none t (n ∷ nexts) = writes-none t nexts

filter-both : (test : ℕ → Bool) (xs ys : List ℕ) → filter test (xs ++ ys) ≡ filter test xs ++ filter test ys
filter-both test [] ys = refl
filter-both test (x ∷ xs) ys = go (test x) (filter-both test xs ys)
  where
    go : (b : Bool) → filter test (xs ++ ys) ≡ filter test xs ++ filter test ys → cond b (x ∷ filter test (xs ++ ys)) (filter test (xs ++ ys)) ≡ cond b (x ∷ filter test xs) (filter test xs) ++ filter test ys
    go true e = ap (λ l. x ∷ l) e
    go false e = e

filter-all : (test : ℕ → Bool) (xs : List ℕ) → ((x : ℕ) → Contains xs x → test x ≡ true) → filter test xs ≡ xs
filter-all test [] passes = refl
filter-all test (x ∷ xs) passes = ap (λ b. cond b (x ∷ filter test xs) (filter test xs)) (passes x (in_head x xs)) ∙ ap (λ l. x ∷ l) (filter-all test xs (λ y h. passes y (in_tail x y xs h)))

filter-none : (test : ℕ → Bool) (xs : List ℕ) → ((x : ℕ) → Contains xs x → test x ≡ false) → filter test xs ≡ []
filter-none test [] fails = refl
filter-none test (x ∷ xs) fails = ap (λ b. cond b (x ∷ filter test xs) (filter test xs)) (fails x (in_head x xs)) ∙ filter-none test xs (λ y h. fails y (in_tail x y xs h))

-- lists that are empty but for one number
module _ (f : ℕ → List ℕ) (t : ℕ) (own : List ℕ) where
  flat-none : (us : List ℕ) → ((u : ℕ) → Contains us u → (u ≡ t → ⊥) → f u ≡ []) → (Contains us t → ⊥) → flat_map f us ≡ []
  flat-none [] others never = refl
  flat-none (u ∷ us) others never =
      ap (λ l. l ++ flat_map f us) (others u (in_head u us) (λ e. never (subst (Contains (u ∷ us)) e (in_head u us))))
      ∙ flat-none us (λ v h. others v (in_tail u v us h)) (λ h. never (in_tail u t us h))

  flat-one : (us : List ℕ) → EachOnce us → ((u : ℕ) → Contains us u → (u ≡ t → ⊥) → f u ≡ []) → f t ≡ own → Contains us t → flat_map f us ≡ own
  flat-one [] once others this h = absurd (omega (arith, h.1))
  flat-one (u ∷ us) once others this h = ⊎_elim
      (λ (same : u ≡ t).
      ap (λ l. l ++ flat_map f us) (ap f same ∙ this)
      ∙ ap (λ l. own ++ l) (flat-none us (λ v k. others v (in_tail u v us k)) (λ k. once-head u us once (subst (Contains us) (sym same) k)))
      ∙ append-nil own)
      (λ (later : Contains us t).
      ap (λ l. l ++ flat_map f us) (others u (in_head u us) (λ e. once-head u us once (subst (Contains us) (sym e) later)))
      ∙ flat-one us (once-rest u us once) (λ v k. others v (in_tail u v us k)) this later)
      (in_cases u t us h)

module _ (p : Plan) (is : IsPlan p) (t : ℕ) (task : t < length p.graph.tasks) where
  of-both : (es fs : List Event) → writes_of p t (es ++ fs) ≡ writes_of p t es ++ writes_of p t fs
  of-both es fs = ap (filter (λ c. list_any (λ d. eqb d c) (cells_of p.graph t))) (writes-both es fs) ∙ filter-both (λ c. list_any (λ d. eqb d c) (cells_of p.graph t)) (writes es) (writes fs)

  of-flat : (block : ℕ → List Event) (us : List ℕ) → writes_of p t (flat_map block us) ≡ flat_map (λ u. writes_of p t (block u)) us
  of-flat block [] = refl
  of-flat block (u ∷ us) = of-both (block u) (flat_map block us) ∙ ap (λ l. writes_of p t (block u) ++ l) (of-flat block us)

  -- cells of a task's own order pass, and those of another don't
  mine : (cells : List ℕ) → ((c : ℕ) → Contains cells c → Contains (p.order t) c) → filter (λ c. list_any (λ d. eqb d c) (cells_of p.graph t)) cells ≡ cells
  mine cells own = filter-all (λ c. list_any (λ d. eqb d c) (cells_of p.graph t)) cells (λ c h. in-any (cells_of p.graph t) c ((is.listed t c task).0 (own c h)))

  other : (u : ℕ) → u < length p.graph.tasks → (u ≡ t → ⊥) → (cells : List ℕ) → ((c : ℕ) → Contains cells c → Contains (p.order u) c) → filter (λ c. list_any (λ d. eqb d c) (cells_of p.graph t)) cells ≡ []
  other u below apart cells own = filter-none (λ c. list_any (λ d. eqb d c) (cells_of p.graph t)) cells (λ c h.
      not-true (list_any (λ d. eqb d c) (cells_of p.graph t)) (λ e. apart (is.graph.partition.one u t c ((is.listed u c below).0 (own c h)) (any-in (cells_of p.graph t) c e))))

  module _ (q : Snapshot) (good : IsSoundSnapshot p q) where
    finished-writes : (u : ℕ) → writes (finished_events p q u) ≡ p.order u
    finished-writes u =
        let nexts = filter (λ next. not (q.owed u next)) (after_of p.graph u) in
        writes-both (write_all 0 (p.order u)) (Finish 0 u ∷ release_all 0 u nexts)
        ∙ ap (λ l. l ++ writes (release_all 0 u nexts)) (writes-all (p.order u)) ∙ ap (λ l. p.order u ++ l) (writes-none u nexts) ∙ append-nil (p.order u)

    begun-writes : (u : ℕ) → writes (begun_events p q u) ≡ filter (λ c. is_some (q.value c)) (p.order u)
    begun-writes u = writes-all (filter (λ c. is_some (q.value c)) (p.order u))

    abbrev done : List ℕ
    done = by_number p.graph q.number q.finished

    order-q : IsFinishedOrder p.graph (s0 p is q good) done
    order-q = subst (λ (l : List ℕ). IsFinishedOrder p.graph (s0 p is q good) l)
        (ap (λ (g : ℕ → Option ℕ). by_number p.graph g (s0 p is q good).finished) (fun_ext (number-0 p is q good)) ∙ ap (by_number p.graph q.number) (all p is q good).finished)
        (finished-order p (s0 p is q good) (all p is q good).sound)

    done-others : (u : ℕ) → Contains done u → (u ≡ t → ⊥) → writes_of p t (finished_events p q u) ≡ []
    done-others u h apart = ap (filter (λ c. list_any (λ d. eqb d c) (cells_of p.graph t))) (finished-writes u) ∙ other u (order-q.only u h).0 apart (p.order u) (λ c k. k)

    done-this : writes_of p t (finished_events p q t) ≡ p.order t
    done-this = ap (filter (λ c. list_any (λ d. eqb d c) (cells_of p.graph t))) (finished-writes t) ∙ mine (p.order t) (λ c k. k)

    abbrev some_own : ℕ → List ℕ
    some_own u = filter (λ c. is_some (q.value c)) (p.order u)

    begun-others : (u : ℕ) → Contains (begun p is q good) u → (u ≡ t → ⊥) → writes_of p t (begun_events p q u) ≡ []
    begun-others u h apart = ap (filter (λ c. list_any (λ d. eqb d c) (cells_of p.graph t))) (begun-writes u)
        ∙ other u (begun-each p is q good u h).task apart (some_own u) (λ c k. (filter_in (λ d. is_some (q.value d)) (p.order u) c k).0)

    begun-this : writes_of p t (begun_events p q t) ≡ some_own t
    begun-this = ap (filter (λ c. list_any (λ d. eqb d c) (cells_of p.graph t))) (begun-writes t) ∙ mine (some_own t) (λ c k. (filter_in (λ d. is_some (q.value d)) (p.order t) c k).0)

    parts : writes_of p t (listed_events p q) ≡ flat_map (λ u. writes_of p t (finished_events p q u)) done ++ flat_map (λ u. writes_of p t (begun_events p q u)) (begun p is q good)
    parts = of-both (flat_map (finished_events p q) done) (flat_map (begun_events p q) (begun p is q good))
        ∙ ap (λ l. l ++ writes_of p t (flat_map (begun_events p q) (begun p is q good))) (of-flat (finished_events p q) done)
        ∙ ap (λ l. flat_map (λ u. writes_of p t (finished_events p q u)) done ++ l) (of-flat (begun_events p q) (begun p is q good))

    joined : (xs ys zs : List ℕ) → flat_map (λ u. writes_of p t (finished_events p q u)) done ≡ xs → flat_map (λ u. writes_of p t (begun_events p q u)) (begun p is q good) ≡ ys → xs ++ ys ≡ zs
        → writes_of p t (listed_events p q) ≡ zs
    joined xs ys zs a b c = parts ∙ ap (λ l. l ++ flat_map (λ u. writes_of p t (begun_events p q u)) (begun p is q good)) a ∙ ap (λ l. xs ++ l) b ∙ c

    in-order : (k : ℕ) → some_own t ≡ take k (p.order t) → (n : ℕ) × (writes_of p t (listed_events p q) ≡ take n (p.order t))
    in-order k first = go (q.number t) refl (is_begun p q t) refl
      where
        no-done : q.number t ≡ None → flat_map (λ u. writes_of p t (finished_events p q u)) done ≡ []
        no-done e = flat-none (λ u. writes_of p t (finished_events p q u)) t [] done done-others (λ h. not-none ((s0 p is q good).number t) (number-0 p is q good t ∙ e) (order-q.only t h).1)

        go : (o : Option ℕ) → q.number t ≡ o → (b : Bool) → is_begun p q t ≡ b → (n : ℕ) × (writes_of p t (listed_events p q) ≡ take n (p.order t))
        go (Some m) e b f = (
          length (p.order t),
          joined (p.order t) [] (take (length (p.order t)) (p.order t))
              (flat-one (λ u. writes_of p t (finished_events p q u)) t (p.order t) done order-q.once done-others done-this
              (order-q.each t (some-of ((s0 p is q good).number t) m (number-0 p is q good t ∙ e))))
              (flat-none (λ u. writes_of p t (begun_events p q u)) t [] (begun p is q good) begun-others (λ h. not-none (q.number t) (begun-each p is q good t h).open_ (some-of (q.number t) m e)))
              (append-nil (p.order t) ∙ sym (take_all (length (p.order t)) (p.order t) (omega arith))),
        )
        go None e true f = (
          k,
          joined [] (some_own t) (take k (p.order t)) (no-done e)
              (flat-one (λ u. writes_of p t (begun_events p q u)) t (some_own t) (begun p is q good) (begun-once p is q good) begun-others begun-this
              (in_filter (is_begun p q) (range_with_len 0 (length p.graph.tasks)) t (in_range (length p.graph.tasks) t task) f))
              first,
        )
        go None e false f = (
          0,
          joined [] [] [] (no-done e)
              (flat-none (λ u. writes_of p t (begun_events p q u)) t [] (begun p is q good) begun-others
              (λ h. let there = (filter_in (is_begun p q) (range_with_len 0 (length p.graph.tasks)) t h).1 in let wrong : true ≡ false = sym there ∙ f in cc)) refl,
        )

pub interleaves : (p : Plan) (is : IsPlan p) (q : Snapshot) → IsSoundSnapshot p q → WritesInOrder p q → IsInterleaving p 1 (listed_events p q)
interleaves p is q good prefixes = record {
  enabled = listed-enabled p is q good;
  order = λ t task. let own = prefixes t task in in-order p is t task q good own.0 own.1;
}
