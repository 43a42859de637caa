-- Releases of successors, one after another.
use Rattle.std.proofs.Common.{◌≡◌, ◌∙◌, ◌↔◌, refl, ap, sym, subst, ⊎_elim, ℕ, ◌+◌, ◌<◌, ◌≤◌, Bool, true, false, List, [], ◌∷◌, ◌++◌, ◌==◌, length, take, get_or, arith}
use Rattle.std.specs.List.{Contains}
use Rattle.std.proofs.Math.Bool.{cond}
use Rattle.std.proofs.Math.ListN.{get_or-append}
use Rattle.std.proofs.Math.Seq.{get_or-append_seam}
use Rattle.std.proofs.lemmas.Bool.{cases_eq}
use Rattle.std.proofs.lemmas.List.{length-append, take_more}
use Rattle.std.proofs.lemmas.List.Elements.{Contains-append_left, Contains-push, Contains-push_cases}
use Rattle.pb_base.proofs.ListLemmas.{in_cases, in_head, in_tail}
use Rattle.pb_taskgraph.specs.Plans.{Plan}
use Rattle.pb_cells.specs.Handles.{JobValue}
use Rattle.pb_cells.specs.Steps.{WaitsFor}
use Rattle.pb_cells.specs.Views.{job_view, released_view}
use Rattle.pb_steal.specs.Turns.{LeavesAt, Opens, opened_of}

-- what a release tells
pub leaves : (p : Plan) (old : JobValue) (next left : ℕ) → WaitsFor p (released_view (left + 1) next (job_view old.at old.opened)) next left → LeavesAt p old.at.task next left
leaves p old next left waits = record {
  view = released_view (left + 1) next (job_view old.at old.opened);
  others = old.at.released;
  by = (refl, omega arith, refl);
  waits = waits;
}

pub put : (b c : Bool) (x u : ℕ) (xs : List ℕ) → cond b (x ∷ cond c (xs ++ u ∷ []) xs) (cond c (xs ++ u ∷ []) xs) ≡ cond c (cond b (x ∷ xs) xs ++ u ∷ []) (cond b (x ∷ xs) xs)
put true true x u xs = refl
put true false x u xs = refl
put false true x u xs = refl
put false false x u xs = refl

opened-more : (nexts lefts : List ℕ) (u n : ℕ) → length lefts ≡ length nexts → opened_of (nexts ++ u ∷ []) (lefts ++ n ∷ []) ≡ cond (n == 0) (opened_of nexts lefts ++ u ∷ []) (opened_of nexts lefts)
opened-more [] [] u n size = refl
opened-more [] (m ∷ ms) u n size = absurd (omega (arith, size))
opened-more (x ∷ xs) [] u n size = absurd (omega (arith, size))
opened-more (x ∷ xs) (m ∷ ms) u n size =
    ap (λ l. cond (m == 0) (x ∷ l) l) (opened-more xs ms u n (omega (arith, size))) ∙ put (m == 0) (n == 0) x u (opened_of xs ms)

module _ (p : Plan) (t : ℕ) where
  pub opens-none : Opens p t [] []
  opens-none = record { lefts = []; size = refl; each = λ k below. absurd (omega arith); those = refl }

  -- one more is released
  pub opens-more : (nexts opened : List ℕ) (u n : ℕ) → Opens p t nexts opened → LeavesAt p t u n → Opens p t (nexts ++ u ∷ []) (cond (n == 0) (opened ++ u ∷ []) opened)
  opens-more nexts opened u n h leaves = record {
    lefts = h.lefts ++ n ∷ [];
    size = omega (arith, length-append h.lefts (n ∷ []), length-append nexts (u ∷ []), h.size);
    each = λ k below. ⊎_elim
        (λ (this : k ≡ length nexts). subst (λ j. LeavesAt p t (get_or (nexts ++ u ∷ []) j 0) (get_or (h.lefts ++ n ∷ []) j 0)) (sym this)
        (subst (λ j. LeavesAt p t j (get_or (h.lefts ++ n ∷ []) (length nexts) 0)) (sym (get_or-append_seam nexts u [] 0))
        (subst (LeavesAt p t u) (sym (ap (λ j. get_or (h.lefts ++ n ∷ []) j 0) (sym h.size) ∙ get_or-append_seam h.lefts n [] 0)) leaves)))
        (λ (other : k ≡ length nexts → ⊥).
        let before : k < length nexts = omega (arith, below, length-append nexts (u ∷ []), other) in
        subst (λ j. LeavesAt p t j (get_or (h.lefts ++ n ∷ []) k 0)) (sym (get_or-append nexts (u ∷ []) 0 k before))
        (subst (LeavesAt p t (get_or nexts k 0)) (sym (get_or-append h.lefts (n ∷ []) 0 k (omega (arith, before, h.size)))) (h.each k before)))
        (cases_eq k (length nexts));
    those = ap (λ l. cond (n == 0) (l ++ u ∷ []) l) h.those ∙ sym (opened-more nexts h.lefts u n h.size);
  }

-- the released ones are the first successors, one more of them
pub released-more : (nexts released : List ℕ) (k : ℕ) → k < length nexts → ((u : ℕ) → Contains released u ↔ Contains (take k nexts) u) → (u : ℕ) → Contains (get_or nexts k 0 ∷ released) u ↔ Contains (take (k + 1) nexts) u
released-more nexts released k below h u =
    let more = take_more nexts k 0 below in (
      λ c. subst (λ l. Contains l u) (sym more) (⊎_elim
          (λ (this : get_or nexts k 0 ≡ u). subst (Contains (take k nexts ++ get_or nexts k 0 ∷ [])) this (Contains-push (take k nexts) (get_or nexts k 0)))
          (λ (old : Contains released u). Contains-append_left (take k nexts) (get_or nexts k 0 ∷ []) u ((h u).0 old))
          (in_cases (get_or nexts k 0) u released c)),
      λ c. ⊎_elim
          (λ (old : Contains (take k nexts) u). in_tail (get_or nexts k 0) u released ((h u).1 old))
          (λ (this : get_or nexts k 0 ≡ u). subst (Contains (get_or nexts k 0 ∷ released)) this (in_head (get_or nexts k 0) released))
          (Contains-push_cases (take k nexts) (get_or nexts k 0) u (subst (λ l. Contains l u) more c)),
    )

-- a ticket more at most
pub cond-few : (b : Bool) (row row' : List ℕ) (u k : ℕ) → row' ≡ cond b (row ++ u ∷ []) row → length row ≤ k → length row' ≤ k + 1
cond-few true row row' u k is few = omega (arith, ap length is, length-append row (u ∷ []), few)
cond-few false row row' u k is few = omega (arith, ap length is, few)
