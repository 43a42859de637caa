-- Tasks in a heap.
use Rattle.std.proofs.Common.{◌≡◌, ◌∙◌, refl, sym, ap, subst, inl, inr, ◌⊎◌, ⊎_elim, ◌↔◌, ℕ, ◌<◌, ◌≤◌, ◌+◌, eqb, ltb, Bool, true, false, List, [], ◌∷◌, ◌++◌, length, map, take, drop, get_or, Result, Ok, Err, arith}
use Rattle.std.specs.Prelude.{IsOk, OnOk}
use Rattle.std.specs.BinaryHeap.{IsUpperBound}
use Rattle.std.specs.List.{All, AllByRecursion, Contains, IsDistinct}
use Rattle.std.specs.List.Sorted.{IsPermutation}
use Rattle.std.specs.Ordering.{is_lt, nat_cmp}
use Rattle.std.specs.declared.cmp.Ordering.TheVariants.{Equal, Greater, Less}
use Rattle.std.specs.declared.cmp.Reverse.{Reverse}
use Rattle.std.proofs.Math.Bool.{cond}
use Rattle.std.proofs.lemmas.Bool.{cases_lt, eq-eqb, eqb-true}
use Rattle.std.proofs.lemmas.List.{get_or-take, get_or_default, length-take, take-append-drop, take_more}
use Rattle.pb_taskgraph.specs.Graphs.{EachOnce, GraphValue, TaskValue, before_of}
use Rattle.pb_taskgraph.proofs.GraphLemmas.{before-at}
use Rattle.std.proofs.lemmas.Bool.Decides.{nat_tests}
use Rattle.std.proofs.lemmas.List.Elements.{All-cons, All-nil, Contains-append_cases, Contains-append_left, Contains-append_right}
use Rattle.std.proofs.lemmas.List.Sorted.{Contains-permutation, IsPermutation-sym}
use Rattle.std.proofs.lemmas.Map.Keys.{IsDistinct-IsPermutation}
use Rattle.std.proofs.lemmas.Map.Steps.{length-le_from_distinct_below}
use Rattle.std.proofs.lemmas.Map.Views.{Contains-from_any}
use Rattle.pb_base.proofs.ListLemmas.{in_cases, in_head, in_none, in_tail}
use Rattle.pb_taskgraph.specs.Plans.{Plan}
use Rattle.pb_core.specs.declared.progress.Progress.{Progress}
use Rattle.pb_core.specs.Cores.{CoreValue, state_of, untouched}
use Rattle.pb_locked.specs.Ready.{Holds, ReadyValue}

pub on-ok : {T E P : Type 0} (r : Result T E) → IsOk r → OnOk r P → P
on-ok (Ok x) ok h = h
on-ok (Err e) ok h = absurd (cc)

-- what a heap's order says of the least number
not-less : (a b : ℕ) → is_lt (nat_cmp a b) ≡ false → b ≤ a
not-less a b e = go (ltb a b) refl e
  where
    go : (c : Bool) → ltb a b ≡ c → is_lt (cond c Less (cond (eqb a b) Equal Greater)) ≡ false → b ≤ a
    go true less wrong = absurd (cc)
    go false more wrong = grind (arith, nat_tests)

pub least-below : (x : Reverse ℕ) (xs : List (Reverse ℕ)) → IsUpperBound (λ (a b : Reverse ℕ). nat_cmp b.0 a.0) x xs → All (λ u. x.0 ≤ u) (map (λ (y : Reverse ℕ). y.0) xs)
least-below x [] bound = All-nil (λ u. x.0 ≤ u)
least-below x (y ∷ ys) bound = All-cons (λ u. x.0 ≤ u) y.0 (map (λ (z : Reverse ℕ). z.0) ys) (not-less y.0 x.0 bound.0) (least-below x ys bound.1)

module _ (P : ℕ → Type 0) (most : ℕ) (v : ReadyValue) (h : Holds P most v) where
  flips : (x y : ℕ) → eqb x y ≡ eqb y x
  flips x y = grind (arith, nat_tests)

  differ : (x y : ℕ) → (x ≡ y → ⊥) → eqb x y ≡ false
  differ x y other = grind (arith, nat_tests)

  apart : (t : ℕ) (xs : List ℕ) → ((u : ℕ) → Contains xs u → t ≡ u → ⊥) → AllByRecursion (λ y. eqb t y ≡ false) xs
  apart t [] never = tt
  apart t (x ∷ xs) never = (differ t x (never x (in_head x xs)), apart t xs (λ u c. never u (in_tail x u xs c)))

  distinct-more : (t : ℕ) → (P t → ⊥) → IsDistinct eqb (t ∷ v.tasks)
  unfolding IsDistinct
  distinct-more t out = (apart t v.tasks (λ u c e. out (subst P (sym e) ((h.each u).0 c))), h.once)

  pub more-room : (t : ℕ) → (P t → ⊥) → ((u : ℕ) → P u → u < most) → t < most → length v.tasks < v.room
  more-room t out below inside =
      let few = length-le_from_distinct_below (t ∷ v.tasks) most (distinct-more t out) (λ q found. ⊎_elim
      (λ (this : t ≡ q). omega (arith, this, inside))
      (λ (rest : Contains v.tasks q). below q ((h.each q).0 rest))
      (in_cases t q v.tasks (Contains-from_any eqb-true q (t ∷ v.tasks) found))) in
      omega (arith, few, h.room)

  -- one more
  pub holds-more : (new : ReadyValue) (t : ℕ) → (P t → ⊥) → IsPermutation (t ∷ v.tasks) new.tasks → v.room ≤ new.room → Holds (λ u. P u ⊎ (u ≡ t)) most new
  holds-more new t out moved room = record {
    each = λ u. (
      (λ c. ⊎_elim
          (λ (this : t ≡ u). inr (sym this))
          (λ (rest : Contains v.tasks u). inl ((h.each u).0 rest))
          (in_cases t u v.tasks (Contains-permutation new.tasks (t ∷ v.tasks) u (IsPermutation-sym (t ∷ v.tasks) new.tasks moved) c))),
      (λ one. Contains-permutation (t ∷ v.tasks) new.tasks u moved (⊎_elim
          (λ (old : P u). in_tail t u v.tasks ((h.each u).1 old))
          (λ (this : u ≡ t). subst (λ w. Contains (t ∷ v.tasks) w) (sym this) (in_head t v.tasks))
          one)),
    );
    once = IsDistinct-IsPermutation eqb flips (t ∷ v.tasks) new.tasks moved (distinct-more t out);
    room = omega (arith, h.room, room);
  }

  pub holds-same : (Q : ℕ → Type 0) → ((t : ℕ) → P t ↔ Q t) → Holds Q most v
  holds-same Q same = record {
    each = λ t. ((λ c. (same t).0 ((h.each t).0 c)), (λ q. (h.each t).1 ((same t).1 q)));
    once = h.once;
    room = h.room;
  }

  -- one less
  pub holds-less : (new : ReadyValue) (t : ℕ) → IsPermutation v.tasks (t ∷ new.tasks) → new.room ≡ v.room → P t × Holds (λ u. P u × (u ≡ t → ⊥)) most new
  unfolding IsDistinct
  holds-less new t moved room = (
    (h.each t).0 (back t (in_head t new.tasks)),
    record {
      each = λ u. (
        (λ c. ((h.each u).0 (back u (in_tail t u new.tasks c)), away new.tasks distinct.0 u c)),
        (λ one. ⊎_elim
            (λ (this : t ≡ u). absurd (one.1 (sym this)))
            (λ (rest : Contains new.tasks u). rest)
            (in_cases t u new.tasks (Contains-permutation v.tasks (t ∷ new.tasks) u moved ((h.each u).1 one.0)))),
      );
      once = distinct.1;
      room = omega (arith, h.room, room);
    },
  )
    where
      distinct : IsDistinct eqb (t ∷ new.tasks)
      distinct = IsDistinct-IsPermutation eqb flips v.tasks (t ∷ new.tasks) moved h.once

      back : (u : ℕ) → Contains (t ∷ new.tasks) u → Contains v.tasks u
      back u c = Contains-permutation (t ∷ new.tasks) v.tasks u (IsPermutation-sym v.tasks (t ∷ new.tasks) moved) c

      away : (xs : List ℕ) → AllByRecursion (λ y. eqb t y ≡ false) xs → (u : ℕ) → Contains xs u → u ≡ t → ⊥
      away [] all u c same = in_none u c
      away (x ∷ xs) all u c same = ⊎_elim
          (λ (this : x ≡ u). let wrong : true ≡ false = sym (eq-eqb t x (sym same ∙ sym this)) ∙ all.0 in absurd (cc))
          (λ (rest : Contains xs u). away xs all.1 u rest same)
          (in_cases x u xs c)

-- nothing is held
pub holds-none : (P : ℕ → Type 0) (most : ℕ) (v : ReadyValue) → ((t : ℕ) → P t → ⊥) → v.tasks ≡ [] → most ≤ v.room → Holds P most v
unfolding IsDistinct
holds-none P most v never empty room = record {
  each = λ t. ((λ c. absurd (in_none t (subst (λ l. Contains l t) empty c))), (λ one. absurd (never t one)));
  once = subst (λ l. IsDistinct eqb l) (sym empty) tt;
  room = room;
}

-- the tasks without predecessors, up to one more
module _ (g : GraphValue) (k most : ℕ) (v : ReadyValue) (h : Holds (λ t. (t < k) × (length (before_of g t) ≡ 0)) most v) where
  abbrev Upto : ℕ → ℕ → Type 0
  Upto n t = (t < n) × (length (before_of g t) ≡ 0)

  pub first-room : k < most → length v.tasks < v.room
  first-room below = more-room (Upto k) most v h k (λ one. omega (arith, one.0)) (λ u one. omega (arith, one.0, below)) below

  pub first-more : (new : ReadyValue) → length (before_of g k) ≡ 0 → IsPermutation (k ∷ v.tasks) new.tasks → v.room ≤ new.room → Holds (Upto (k + 1)) most new
  first-more new free moved room =
      holds-same (λ u. Upto k u ⊎ (u ≡ k)) most new (holds-more (Upto k) most v h new k (λ one. omega (arith, one.0)) moved room) (Upto (k + 1)) (λ u. (
        (λ one. ⊎_elim
            (λ (old : Upto k u). (omega (arith, old.0), old.1))
            (λ (this : u ≡ k). (omega (arith, this), ap (λ w. length (before_of g w)) this ∙ free))
            one),
        (λ all. ⊎_elim (λ (less : u < k). inl (less, all.1)) (λ (past : k ≤ u). inr (omega (arith, past, all.0))) (cases_lt u k)),
      ))

  pub first-kept : (length (before_of g k) ≡ 0 → ⊥) → Holds (Upto (k + 1)) most v
  first-kept bound = holds-same (Upto k) most v h (Upto (k + 1)) (λ u. (
    (λ old. (omega (arith, old.0), old.1)),
    (λ all. ⊎_elim (λ (less : u < k). (less, all.1)) (λ (past : k ≤ u). absurd (bound (let e : k ≡ u = omega (arith, past, all.0) in ap (λ w. length (before_of g w)) e ∙ all.1))) (cases_lt u k)),
  ))

-- some of some tasks are added, up to one more
module _ (Zero : ℕ → Type 0) (old new : List ℕ) (most k x : ℕ) (v : ReadyValue) (below : k < length new) (at : x ≡ get_or new k x) (h : Holds (λ t. Contains old t ⊎ (Contains (take k new) t × Zero t)) most v) where
  abbrev Added : ℕ → ℕ → Type 0
  Added n t = Contains old t ⊎ (Contains (take n new) t × Zero t)

  next : take (k + 1) new ≡ take k new ++ x ∷ []
  next = take_more new k x below ∙ ap (λ y. take k new ++ y ∷ []) (sym at)

  more : (u : ℕ) → Added k u → Added (k + 1) u
  more u (inl c) = inl c
  more u (inr (c, zero)) = inr (subst (λ l. Contains l u) (sym next) (Contains-append_left (take k new) (x ∷ []) u c), zero)

  less : (u : ℕ) → Added (k + 1) u → Added k u ⊎ ((u ≡ x) × Zero u)
  less u (inl c) = inl (inl c)
  less u (inr (c, zero)) = ⊎_elim
      (λ (before : Contains (take k new) u). inl (inr (before, zero)))
      (λ (last : Contains (x ∷ []) u). ⊎_elim (λ (this : x ≡ u). inr (sym this, zero)) (λ (none : Contains [] u). absurd (in_none u none)) (in_cases x u [] last))
      (Contains-append_cases (take k new) (x ∷ []) u (subst (λ l. Contains l u) next c))

  here : Contains (take (k + 1) new) x
  here = subst (λ l. Contains l x) (sym next) (Contains-append_right (take k new) (x ∷ []) x (in_head x []))

  pub add-kept : (Zero x → ⊥) → Holds (Added (k + 1)) most v
  add-kept other = holds-same (Added k) most v h (Added (k + 1)) (λ u. (more u, λ all. ⊎_elim (λ (old : Added k u). old) (λ (this : (u ≡ x) × Zero u). absurd (other (subst Zero this.0 this.1))) (less u all)))

  module _ (out : Contains old x → ⊥) (one : EachOnce new) where
    absent : Added k x → ⊥
    absent (inl c) = out c
    absent (inr (c, zero)) =
        let place : c.0 < k = omega (arith, c.1, length-take k new) in
        let is : get_or new c.0 x ≡ x = sym (get_or-take k new c.0 x place) ∙ c.2 in
        let same : c.0 ≡ k = one c.0 k (omega (arith, place, below)) below (sym (get_or_default new c.0 x 0 (omega (arith, place, below))) ∙ is ∙ at ∙ get_or_default new k x 0 below) in
        omega (arith, place, same)

    pub add-room : ((u : ℕ) → Added k u → u < most) → x < most → length v.tasks < v.room
    add-room under inside = more-room (Added k) most v h x absent under inside

    pub add-more : (now : ReadyValue) → Zero x → IsPermutation (x ∷ v.tasks) now.tasks → v.room ≤ now.room → Holds (Added (k + 1)) most now
    add-more now zero moved room = holds-same (λ u. Added k u ⊎ (u ≡ x)) most now (holds-more (Added k) most v h now x absent moved room) (Added (k + 1)) (λ u. (
      (λ either. ⊎_elim (λ (old : Added k u). more u old) (λ (this : u ≡ x). inr (subst (λ w. Contains (take (k + 1) new) w × Zero w) (sym this) (here, zero))) either),
      (λ all. ⊎_elim (λ (old : Added k u). inl old) (λ (this : (u ≡ x) × Zero u). inr this.0) (less u all)),
    ))

-- whether a task has predecessors
module _ (g : GraphValue) (k : ℕ) (task : TaskValue) (below : k < length g.tasks) (is : task ≡ get_or g.tasks k task) (before : List ℕ) (same : before ≡ task.before) (n : ℕ) (count : n ≡ length before) where
  size : length (before_of g k) ≡ n
  size = ap (λ (l : List ℕ). length l) (before-at g k task below is ∙ sym same) ∙ sym count

  pub is-free : (b : Bool) → b ≡ eqb n 0 → b ≡ true → length (before_of g k) ≡ 0
  is-free b test yes_ = size ∙ grind (arith, nat_tests)

  pub is-bound : (b : Bool) → b ≡ eqb n 0 → b ≡ false → length (before_of g k) ≡ 0 → ⊥
  is-bound b test no_ none = let e : n ≡ 0 = sym size ∙ none in let wrong : true ≡ false = sym (eq-eqb n 0 e) ∙ sym test ∙ no_ in cc

pub added-below : (Zero : ℕ → Type 0) (old new : List ℕ) (most k : ℕ) → ((t : ℕ) → Contains old t → t < most) → ((t : ℕ) → Contains new t → t < most) → (u : ℕ) → Contains old u ⊎ (Contains (take k new) u × Zero u) → u < most
added-below Zero old new most k tasks fresh u (inl c) = tasks u c
added-below Zero old new most k tasks fresh u (inr (c, zero)) = fresh u (subst (λ l. Contains l u) (take-append-drop k new) (Contains-append_left (take k new) (drop k new) u c))

-- what a machine tells of a task's count
module _ (p : Plan) (core : CoreValue) (t : ℕ) (at : Progress) (is : at ≡ get_or core.tasks t untouched) where
  pub count-at : at.count ≡ (state_of p core).count t
  unfolding state_of
  count-at = ap (λ (a : Progress). a.count) is

  pub now-zero : at.count ≡ 0 → (state_of p core).count t ≡ 0
  now-zero zero = sym count-at ∙ zero

  pub not-zero : (at.count ≡ 0 → ⊥) → (state_of p core).count t ≡ 0 → ⊥
  not-zero other zero = other (count-at ∙ zero)
