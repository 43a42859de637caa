-- What is gathered, one after the other.
use Rattle.std.proofs.Common.{◌≡◌, ◌∙◌, sym, ap, ℕ, ◌+◌, ◌<◌, ◌≤◌, Bool, List, [], ◌∷◌, ◌++◌, length, map, take, get_or, Option, arith}
use Rattle.std.proofs.lemmas.List.{map_more, take_all}
use Rattle.pb_program.specs.Trees.{ProgTransform}
use Rattle.pb_recursion.specs.Counts.{Counted, Counter, all_of, both, nothing}
use Rattle.pb_counts.specs.Tallies.{capped}
use Rattle.pb_runs.proofs.TallyLemmas.{all_append, same_counted}
use Rattle.pb_counts.specs.Gathered.{Entered, GatheredValue, IsMore, all_next, whole}
use Rattle.pb_counts.specs.Sized.{Sized, counter_of}

-- ---- sums
pub both_none : (a : Counted) → a ≡ both a nothing
both_none a = same_counted a (both a nothing) (omega arith) (omega arith) (omega arith)

pub both_nested : (a b c : Counted) → both (both a b) c ≡ both a (both b c)
both_nested a b c = same_counted (both (both a b) c) (both a (both b c)) (omega arith) (omega arith) (omega arith)

both_later : (a b c : Counted) → both (both a b) c ≡ both (both a c) b
both_later a b c = same_counted (both (both a b) c) (both (both a c) b) (omega arith) (omega arith) (omega arith)

pub capped_left : (a b : Counted) → capped (both (capped a) b) ≡ capped (both a b)
capped_left a b = grind arith

pub capped_right : (a b : Counted) → capped (both a (capped b)) ≡ capped (both a b)
capped_right a b = grind arith

pub capped_twice : (a : Counted) → capped (capped a) ≡ capped a
capped_twice a = grind arith

pub capped_with : (a b c : Counted) → capped a ≡ capped b → capped (both a c) ≡ capped (both b c)
capped_with a b c e = sym (capped_left a c) ∙ ap (λ z. capped (both z c)) e ∙ capped_left b c

pub all_push : (xs : List Counted) (y : Counted) → all_of (xs ++ y ∷ []) ≡ both (all_of xs) y
all_push xs y = all_append xs (y ∷ []) ∙ ap (both (all_of xs)) (sym (both_none y))

-- ---- more is gathered
module _ (p : List ProgTransform) (deep : Bool) where
  pub more_none : (g : GatheredValue) → IsMore p deep g g (λ d. nothing)
  more_none g f = ap capped (both_none (whole f g))

  pub more_more : (g h k : GatheredValue) (a b : Option Counter → Counted) → IsMore p deep g h a → IsMore p deep h k b → IsMore p deep g k (λ d. both (a d) (b d))
  more_more g h k a b one two f =
      let d = counter_of p deep f in
      two f ∙ capped_with (whole f h) (both (whole f g) (a d)) (b d) (one f) ∙ ap capped (both_nested (whole f g) (a d) (b d))

  pub more_is : (g h : GatheredValue) (a b : Option Counter → Counted) → ((d : Option Counter) → a d ≡ b d) → IsMore p deep g h a → IsMore p deep g h b
  more_is g h a b same is f = is f ∙ ap (λ z. capped (both (whole f g) z)) (same (counter_of p deep f))

  -- the next item of a list
  module _ {A : Type 0} (f : Option Counter → A → Counted) (xs : List A) (i : ℕ) where
    pub more_next : (x : A) → i < length xs → (g h k : GatheredValue) → IsMore p deep g h (λ d. all_of (map (f d) (take i xs))) → IsMore p deep h k (λ d. f d (get_or xs i x)) → IsMore p deep g k (λ d. all_of (map (f d) (take (i + 1) xs)))
    more_next x below g h k before next =
        more_is g k (λ d. both (all_of (map (f d) (take i xs))) (f d (get_or xs i x))) (λ d. all_of (map (f d) (take (i + 1) xs)))
        (λ d. sym (ap all_of (map_more (f d) xs i x below) ∙ all_push (map (f d) (take i xs)) (f d (get_or xs i x))))
        (more_more g h k (λ d. all_of (map (f d) (take i xs))) (λ d. f d (get_or xs i x)) before next)

    pub more_item : (x : A) → x ≡ get_or xs i x → (h k : GatheredValue) → IsMore p deep h k (λ d. f d x) → IsMore p deep h k (λ d. f d (get_or xs i x))
    more_item x at h k more = more_is h k (λ d. f d x) (λ d. f d (get_or xs i x)) (λ d. ap (f d) at) more

    pub more_end : length xs ≤ i → (g h : GatheredValue) → IsMore p deep g h (λ d. all_of (map (f d) (take i xs))) → IsMore p deep g h (λ d. all_of (map (f d) xs))
    more_end past g h before = more_is g h (λ d. all_of (map (f d) (take i xs))) (λ d. all_of (map (f d) xs)) (λ d. ap (λ l. all_of (map (f d) l)) (take_all i xs past)) before

-- a count is added
pub whole_added : (f : Sized) (g h : GatheredValue) (one c : Counted) → one ≡ capped c → h.tally ≡ capped (both g.tally one) → h.next ≡ g.next → capped (whole f h) ≡ capped (both (whole f g) c)
whole_added f g h one c is tally next =
    let n = all_next f g.next in
    ap (λ l. capped (both h.tally (all_next f l))) next ∙ ap (λ z. capped (both z n)) (tally ∙ ap (λ z. capped (both g.tally z)) is)
    ∙ capped_left (both g.tally (capped c)) n ∙ ap capped (both_later g.tally (capped c) n) ∙ capped_right (both g.tally n) c

-- a call to come is added
next_push : (f : Sized) (ns : List Entered) (n : Entered) → all_next f (ns ++ n ∷ []) ≡ both (all_next f ns) (f n.0 n.1)
next_push f [] n = same_counted (both (f n.0 n.1) nothing) (both nothing (f n.0 n.1)) (omega arith) (omega arith) (omega arith)
next_push f (m ∷ ns) n = ap (both (f m.0 m.1)) (next_push f ns n) ∙ sym (both_nested (f m.0 m.1) (all_next f ns) (f n.0 n.1))

pub whole_pushed : (f : Sized) (g h : GatheredValue) (n : Entered) → h.tally ≡ g.tally → h.next ≡ g.next ++ n ∷ [] → whole f h ≡ both (whole f g) (f n.0 n.1)
whole_pushed f g h n tally next = (λ z. both (tally z) (all_next f (next z))) ∙ ap (both g.tally) (next_push f g.next n) ∙ sym (both_nested g.tally (all_next f g.next) (f n.0 n.1))
