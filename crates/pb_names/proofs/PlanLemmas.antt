-- What a function gives of each item, one after the other.
use Rattle.std.proofs.Common.{◌≡◌, ℕ, ◌+◌, ◌<◌, ◌≤◌, Bool, true, false, List, [], ◌∷◌, ◌++◌, Option, Some, None, length, get_or, drop, map, filter, refl, ap, ◌∙◌, sym, add-one, append_assoc}
use Rattle.std.proofs.Math.Seq.{drop-cons}
use Rattle.std.proofs.lemmas.List.{append-nil, drop_all}
use Rattle.std.proofs.Common.{if◌then◌else◌}
use Rattle.pb_program.specs.declared.expression.Expr.{Expr}
use Rattle.pb_program.specs.declared.statement.Stmt.{Stmt}
use Rattle.pb_program.specs.Exprs.{ExprValue, exprs, bare}
use Rattle.pb_program.specs.Stmts.{bare_stmt}
use Rattle.pb_program.specs.Plans.{PlanCallValue, put, all_some, argument_slot, argument_slots, items, call_of, is_call, calls_of}
use Rattle.pb_program.specs.declared.plan.Slot.{Slot}
use Rattle.pb_names.specs.Slots.{arg_slots_in, item_slots_in, call_in, is_call_in}

-- what is found so far, before what is left, if that is there
abbrev pub before : {B : Type 0} → List B → Option (List B) → Option (List B)
before found None = None
before found (Some rest) = Some (found ++ rest)

module _ {A B : Type 0} (f : A → Option B) where
  before_put : (found : List B) (y : B) (rest : Option (List B)) → before (found ++ y ∷ []) rest ≡ before found (put (Some y) rest)
  before_put found y None = refl
  before_put found y (Some rest) = ap Some (append_assoc found (y ∷ []) rest)

  before_none : (found : List B) (rest : Option (List B)) → before found (put None rest) ≡ None
  before_none found rest = refl

  module _ (xs : List A) (i : ℕ) (found : List B) (left : before found (all_some f (drop i xs)) ≡ all_some f xs) where
    module _ (x : A) (within : i < length xs) (here : x ≡ get_or xs i x) where
      next_is : drop i xs ≡ x ∷ drop (i + 1) xs
      next_is = rw (add-one, drop-cons xs i x) (rw (← here) refl)

      pub some_next : (y : B) (new : List B) → f x ≡ Some y → new ≡ found ++ y ∷ [] → before new (all_some f (drop (i + 1) xs)) ≡ all_some f xs
      some_next y new is pushed = ap (λ l. before l (all_some f (drop (i + 1) xs))) pushed ∙ before_put found y (all_some f (drop (i + 1) xs))
          ∙ ap (λ o. before found (put o (all_some f (drop (i + 1) xs)))) (sym is) ∙ ap (λ l. before found (all_some f l)) (sym next_is) ∙ left

      pub some_none : f x ≡ None → None ≡ all_some f xs
      some_none is = ap (λ o. before found (put o (all_some f (drop (i + 1) xs)))) (sym is) ∙ ap (λ l. before found (all_some f l)) (sym next_is) ∙ left

    pub some_end : length xs ≤ i → Some found ≡ all_some f xs
    some_end end = ap Some (sym (append-nil found)) ∙ ap (λ l. before found (all_some f l)) (sym (drop_all i xs end)) ∙ left

all_some-map : {A B C : Type 0} (f : B → Option C) (h : A → B) (xs : List A) → all_some f (map h xs) ≡ all_some (λ x. f (h x)) xs
all_some-map f h [] = refl
all_some-map f h (x ∷ xs) = ap (put (f (h x))) (all_some-map f h xs)

items_are : (xs : List ExprValue) → items (exprs xs) ≡ xs
items_are [] = refl
items_are (x ∷ xs) = ap (λ l. x ∷ l) (items_are xs)

arguments_listed : (xs : List Expr) → all_some (λ e. argument_slot (bare e)) xs ≡ arg_slots_in xs
unfolding arg_slots_in
arguments_listed xs = sym (all_some-map argument_slot bare xs)

items_listed : (xs : List Expr) → all_some (λ e. argument_slot (bare e)) xs ≡ item_slots_in xs
unfolding item_slots_in
items_listed xs = sym (all_some-map argument_slot bare xs) ∙ ap argument_slots (sym (items_are (map bare xs)))

-- the arguments of a call, one after the other
module _ (xs : List Expr) (i : ℕ) (found : List Slot) (left : before found (all_some (λ e. argument_slot (bare e)) (drop i xs)) ≡ all_some (λ e. argument_slot (bare e)) xs) where
  pub arguments_end : length xs ≤ i → Some found ≡ arg_slots_in xs
  arguments_end end = some_end (λ e. argument_slot (bare e)) xs i found left end ∙ arguments_listed xs

  pub items_end : length xs ≤ i → Some found ≡ item_slots_in xs
  items_end end = some_end (λ e. argument_slot (bare e)) xs i found left end ∙ items_listed xs

  module _ (x : Expr) (within : i < length xs) (here : x ≡ get_or xs i x) (is : argument_slot (bare x) ≡ None) where
    pub arguments_none : None ≡ arg_slots_in xs
    arguments_none = some_none (λ e. argument_slot (bare e)) xs i found left x within here is ∙ arguments_listed xs

    pub items_none : None ≡ item_slots_in xs
    items_none = some_none (λ e. argument_slot (bare e)) xs i found left x within here is ∙ items_listed xs

-- the calls of a plan, one after the other
calls_are : (ss : List Stmt) → all_some call_in (filter is_call_in ss) ≡ calls_of (map bare_stmt ss)
unfolding call_in is_call_in
calls_are [] = refl
calls_are (s ∷ ss) = by (is_call (bare_stmt s)) (calls_are ss)
  where
    by : (b : Bool) → all_some call_in (filter is_call_in ss) ≡ calls_of (map bare_stmt ss)
        → all_some call_in (if b then s ∷ filter is_call_in ss else filter is_call_in ss) ≡ all_some call_of (if b then bare_stmt s ∷ filter is_call (map bare_stmt ss) else filter is_call (map bare_stmt ss))
    by true e = ap (put (call_of (bare_stmt s))) e
    by false e = e

module _ (ss : List Stmt) (i : ℕ) (found : List PlanCallValue) (left : before found (all_some call_in (filter is_call_in (drop i ss))) ≡ all_some call_in (filter is_call_in ss)) where
  module _ (x : Stmt) (within : i < length ss) (here : x ≡ get_or ss i x) where
    filter_at : filter is_call_in (drop i ss) ≡ (if is_call_in x then x ∷ filter is_call_in (drop (i + 1) ss) else filter is_call_in (drop (i + 1) ss))
    filter_at = rw (add-one, drop-cons ss i x) (rw (← here) refl)

    kept : is_call_in x ≡ true → filter is_call_in (drop i ss) ≡ x ∷ filter is_call_in (drop (i + 1) ss)
    kept is = filter_at ∙ ap (λ b. if b then x ∷ filter is_call_in (drop (i + 1) ss) else filter is_call_in (drop (i + 1) ss)) is

    pub call_skipped : is_call_in x ≡ false → before found (all_some call_in (filter is_call_in (drop (i + 1) ss))) ≡ all_some call_in (filter is_call_in ss)
    call_skipped is = ap (λ l. before found (all_some call_in l)) (sym (filter_at ∙ ap (λ b. if b then x ∷ filter is_call_in (drop (i + 1) ss) else filter is_call_in (drop (i + 1) ss)) is)) ∙ left

    pub call_next : (y : PlanCallValue) (new : List PlanCallValue) → is_call_in x ≡ true → Some y ≡ call_in x → new ≡ found ++ y ∷ []
        → before new (all_some call_in (filter is_call_in (drop (i + 1) ss))) ≡ all_some call_in (filter is_call_in ss)
    call_next y new is this pushed = ap (λ l. before l (all_some call_in (filter is_call_in (drop (i + 1) ss)))) pushed ∙ before_put call_in found y (all_some call_in (filter is_call_in (drop (i + 1) ss)))
        ∙ ap (λ o. before found (put o (all_some call_in (filter is_call_in (drop (i + 1) ss))))) this ∙ ap (λ l. before found (all_some call_in l)) (sym (kept is)) ∙ left

    pub call_none : is_call_in x ≡ true → None ≡ call_in x → None ≡ calls_of (map bare_stmt ss)
    call_none is this = ap (λ o. before found (put o (all_some call_in (filter is_call_in (drop (i + 1) ss))))) this ∙ ap (λ l. before found (all_some call_in l)) (sym (kept is)) ∙ left ∙ calls_are ss

  pub calls_end : length ss ≤ i → Some found ≡ calls_of (map bare_stmt ss)
  calls_end end = ap Some (sym (append-nil found)) ∙ ap (λ l. before found (all_some call_in (filter is_call_in l))) (sym (drop_all i ss end)) ∙ left ∙ calls_are ss
