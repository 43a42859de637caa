-- Items that are read in turn.
use Rattle.std.proofs.Common.{◌≡◌, ℕ, ◌+◌, ◌<◌, ◌≤◌, List, [], ◌∷◌, ◌++◌, length, get_or, drop, refl, ap, subst, ◌∙◌, sym, arith, add-one, append_assoc}
use Rattle.std.proofs.Math.Seq.{drop-cons}
use Rattle.std.proofs.lemmas.List.{append-nil, drop_all, length-append}
use Rattle.pb_names.specs.declared.fault.Fault.{Fault}
use Rattle.pb_names.specs.Faults.{Fails}
use Rattle.pb_names.specs.Turns.{after_turns, turns, turn_faults}
use Rattle.pb_resolve.proofs.FaultLemmas.{fails_left}

module _ {S A B : Type 0} (next : S → A → S) (made : S → A → B) (faults : S → A → List Fault) where
  -- the items before a place are read: what is made, the faults and what is seen, with those of the items that are left
  pub record Turned (first now : S) (found : List B) (xs : List A) (i : ℕ) : Type 0 where
    pub built : found ++ turns next made now (drop i xs) ≡ turns next made first xs
    pub clean : turn_faults next faults now (drop i xs) ≡ turn_faults next faults first xs
    pub seen : after_turns next now (drop i xs) ≡ after_turns next first xs

  pub none_turned : (s : S) (xs : List A) → Turned s s [] xs 0
  none_turned s xs = record { built = refl; clean = refl; seen = refl }

  module _ (first now : S) (found : List B) (xs : List A) (i : ℕ) (t : Turned first now found xs i) where
    module _ (x : A) (within : i < length xs) (here : x ≡ get_or xs i x) where
      next_is : drop i xs ≡ x ∷ drop (i + 1) xs
      next_is = rw (add-one, drop-cons xs i x) (rw (← here) refl)

      pub turn_fails : (f : Fault) → Fails f (faults now x) → Fails f (turn_faults next faults first xs)
      turn_fails f fails = subst (Fails f) (sym (ap (turn_faults next faults now) next_is) ∙ t.clean)
          (fails_left f (faults now x) (turn_faults next faults (next now x) (drop (i + 1) xs)) fails)

      pub turned : (later : S) (more : List B) → later ≡ next now x → more ≡ found ++ made now x ∷ [] → faults now x ≡ [] → Turned first later more xs (i + 1)
      turned later more after put none = record {
        built = ap (λ l. l ++ turns next made later (drop (i + 1) xs)) put ∙ append_assoc found (made now x ∷ []) (turns next made later (drop (i + 1) xs))
            ∙ ap (λ z. found ++ made now x ∷ turns next made z (drop (i + 1) xs)) after ∙ ap (λ l. found ++ turns next made now l) (sym next_is) ∙ t.built;
        clean = ap (λ z. turn_faults next faults z (drop (i + 1) xs)) after ∙ sym (ap (λ l. l ++ turn_faults next faults (next now x) (drop (i + 1) xs)) none)
            ∙ ap (turn_faults next faults now) (sym next_is) ∙ t.clean;
        seen = ap (λ z. after_turns next z (drop (i + 1) xs)) after ∙ ap (after_turns next now) (sym next_is) ∙ t.seen;
      }

    module _ (end : length xs ≤ i) where
      none_left : drop i xs ≡ []
      none_left = drop_all i xs end

      pub all_built : found ≡ turns next made first xs
      all_built = sym (append-nil found) ∙ ap (λ l. found ++ turns next made now l) (sym none_left) ∙ t.built

      pub all_clean : turn_faults next faults first xs ≡ []
      all_clean = sym t.clean ∙ ap (turn_faults next faults now) none_left

      pub all_seen : now ≡ after_turns next first xs
      all_seen = sym (ap (after_turns next now) none_left) ∙ t.seen

-- the same where nothing is made
module _ {S A : Type 0} (next : S → A → S) (faults : S → A → List Fault) where
  pub record Passed (first now : S) (xs : List A) (i : ℕ) : Type 0 where
    pub clean : turn_faults next faults now (drop i xs) ≡ turn_faults next faults first xs
    pub seen : after_turns next now (drop i xs) ≡ after_turns next first xs

  pub none_passed : (s : S) (xs : List A) → Passed s s xs 0
  none_passed s xs = record { clean = refl; seen = refl }

  module _ (first now : S) (xs : List A) (i : ℕ) (t : Passed first now xs i) where
    module _ (x : A) (within : i < length xs) (here : x ≡ get_or xs i x) where
      passes : drop i xs ≡ x ∷ drop (i + 1) xs
      passes = rw (add-one, drop-cons xs i x) (rw (← here) refl)

      pub pass_fails : (f : Fault) → Fails f (faults now x) → Fails f (turn_faults next faults first xs)
      pass_fails f fails = subst (Fails f) (sym (ap (turn_faults next faults now) passes) ∙ t.clean) (fails_left f (faults now x) (turn_faults next faults (next now x) (drop (i + 1) xs)) fails)

      pub passed : (later : S) → later ≡ next now x → faults now x ≡ [] → Passed first later xs (i + 1)
      passed later after none = record {
        clean = ap (λ z. turn_faults next faults z (drop (i + 1) xs)) after ∙ sym (ap (λ l. l ++ turn_faults next faults (next now x) (drop (i + 1) xs)) none) ∙ ap (turn_faults next faults now) (sym passes) ∙ t.clean;
        seen = ap (λ z. after_turns next z (drop (i + 1) xs)) after ∙ ap (after_turns next now) (sym passes) ∙ t.seen;
      }

    pub pass_clean : length xs ≤ i → turn_faults next faults first xs ≡ []
    pass_clean end = sym t.clean ∙ ap (turn_faults next faults now) (drop_all i xs end)

    pub pass_seen : length xs ≤ i → now ≡ after_turns next first xs
    pass_seen end = sym (ap (after_turns next now) (drop_all i xs end)) ∙ t.seen

-- the same where what is made is added to what there was
module _ {S A B : Type 0} (next : S → A → S) (made : S → A → B) (faults : S → A → List Fault) where
  pub record Added (first now : S) (old found : List B) (xs : List A) (i : ℕ) : Type 0 where
    pub built : found ++ turns next made now (drop i xs) ≡ old ++ turns next made first xs
    pub pass : Passed next faults first now xs i

  pub none_added : (s : S) (old : List B) (xs : List A) → Added s s old old xs 0
  none_added s old xs = record { built = refl; pass = none_passed next faults s xs }

  module _ (first now : S) (old found : List B) (xs : List A) (i : ℕ) (t : Added first now old found xs i) where
    module _ (x : A) (within : i < length xs) (here : x ≡ get_or xs i x) where
      added_is : drop i xs ≡ x ∷ drop (i + 1) xs
      added_is = rw (add-one, drop-cons xs i x) (rw (← here) refl)

      pub add_fails : (f : Fault) → Fails f (faults now x) → Fails f (turn_faults next faults first xs)
      add_fails f fails = pass_fails next faults first now xs i t.pass x within here f fails

      pub added : (later : S) (more : List B) → later ≡ next now x → more ≡ found ++ made now x ∷ [] → faults now x ≡ [] → Added first later old more xs (i + 1)
      added later more after put none = record {
        built = ap (λ l. l ++ turns next made later (drop (i + 1) xs)) put ∙ append_assoc found (made now x ∷ []) (turns next made later (drop (i + 1) xs))
            ∙ ap (λ z. found ++ made now x ∷ turns next made z (drop (i + 1) xs)) after ∙ ap (λ l. found ++ turns next made now l) (sym added_is) ∙ t.built;
        pass = passed next faults first now xs i t.pass x within here later after none;
      }

    module _ (end : length xs ≤ i) where
      pub add_built : found ≡ old ++ turns next made first xs
      add_built = sym (append-nil found) ∙ ap (λ l. found ++ turns next made now l) (sym (drop_all i xs end)) ∙ t.built

      pub add_clean : turn_faults next faults first xs ≡ []
      add_clean = pass_clean next faults first now xs i t.pass end

      pub add_seen : now ≡ after_turns next first xs
      add_seen = pass_seen next faults first now xs i t.pass end

pub next_length : {B : Type 0} (xs : List B) (y : B) → length (xs ++ y ∷ []) ≡ length xs + 1
next_length xs y = simp length-append (omega arith)
