-- Hands to which tasks are dealt.
use Rattle.std.proofs.Common.{◌≡◌, ◌∙◌, refl, ap, sym, subst, ⊎_elim, ℕ, ◌+◌, ◌-◌, ◌%◌, ◌<◌, ◌≤◌, ◌==◌, Bool, true, false, List, [], ◌∷◌, ◌++◌, length, map, drop, take, get_or, set, length-set, append-nil, append_assoc, arith}
use Rattle.std.specs.List.{Contains, sum_by}
use Rattle.std.proofs.Math.Bool.{cond}
use Rattle.std.proofs.Math.ListN.{get_or-append}
use Rattle.std.proofs.Math.Seq.{get_or-append_seam, map-set_same}
use Rattle.std.proofs.lemmas.Bool.{cases_eq, cases_lt}
use Rattle.std.proofs.lemmas.Bool.Decides.{nat_tests}
use Rattle.std.proofs.lemmas.List.{drop_more, get_or-drop, get_or-map, get_or-set_other, get_or-set_same, length-append, length-drop, length-map, length-take, map-append, take_more}
use Rattle.std.proofs.lemmas.List.Elements.{Contains-push_cases}
use Rattle.std.proofs.lemmas.List.Sums.{sum_by-append, sum_by-cons}
use Rattle.atomic_blocks.specs.Lent.{RowsId}
use Rattle.atomic_table.specs.Seated.{TableId}
use Rattle.pb_base.proofs.ListLemmas.{in_cases, in_head, in_none, in_tail}
use Rattle.pb_taskgraph.specs.Graphs.{EachOnce, GraphValue, after_of, before_of}
use Rattle.pb_taskgraph.specs.Plans.{Plan}
use Rattle.pb_taskgraph.proofs.GraphLemmas.{after-past}
use Rattle.pb_core.proofs.FinishLemmas.{few}
use Rattle.pb_cells.specs.Handles.{HandValue, JobValue, new_hand, new_job}
use Rattle.pb_cells.proofs.ReleaseLemmas.{once-push}
use Rattle.pb_cells.proofs.TaskLemmas.{not-before}
use Rattle.pb_steal.specs.Crews.{AreDealtTo, IsDealt, IsEmpty, dealt_from, dealt_to, deques_of, others_after}
use Rattle.pb_steal.specs.Deques.{OwnValue, SourceValue}
use Rattle.pb_steal.specs.Hands.{AreDealt, CrewHandValue, IsCrewHand, RunnerValue}
use Rattle.pb_steal.proofs.ReleaseLemmas.{put}
use Rattle.pb_steal.proofs.TakeLemmas.{took}

-- what bounds the successors of the first tasks bounds those of all
pub most-all : (g : GraphValue) (first most : ℕ) → length g.tasks ≤ first → ((t : ℕ) → t < first → length (after_of g t) ≤ most) → (t : ℕ) → length (after_of g t) ≤ most
most-all g first most past below t = ⊎_elim
    (λ (inside : t < first). below t inside)
    (λ (outside : first ≤ t). let none = ap length (after-past g t (omega (arith, past, outside))) in omega (arith, none))
    (cases_lt t first)

-- the deque of the element at a place
module _ {A : Type 0} (f : A → RowsId) where
  deque-at : (all : List A) (k : ℕ) (x : A) (d : RowsId) → k < length all → x ≡ get_or all k x → d ≡ f x → d ≡ get_or (map f all) k d
  deque-at all k x d below is same = same ∙ ap f is ∙ sym (get_or-map f all k x d below)

pub own-at : (owns : List OwnValue) (k : ℕ) (o : OwnValue) (d : RowsId) → k < length owns → o ≡ get_or owns k o → d ≡ o.deque → d ≡ get_or (map (λ o. o.deque) owns) k d
own-at = deque-at (λ (o : OwnValue). o.deque)

pub source-at : (sources : List SourceValue) (k : ℕ) (s : SourceValue) (d : RowsId) → k < length sources → s ≡ get_or sources k s → d ≡ s.deque → d ≡ get_or (deques_of sources) k d
source-at = deque-at (λ (s : SourceValue). s.deque)

-- one more of some whose deques are the first ones
pub deque-more : {A : Type 0} (f : A → RowsId) (xs : List A) (x : A) (ds : List RowsId) (k : ℕ) → k < length ds → map f xs ≡ take k ds → f x ≡ get_or ds k (f x) → map f (xs ++ x ∷ []) ≡ take (k + 1) ds
deque-more f xs x ds k below before at = map-append f xs (x ∷ []) ∙ ap (λ l. l ++ f x ∷ []) before ∙ ap (λ d. take k ds ++ d ∷ []) at ∙ sym (take_more ds k (f x) below)

-- one more of some that begin at a place
pub part-more : (start : List RowsId) (xs : List SourceValue) (s : SourceValue) (ds : List RowsId) (first k : ℕ) → first ≤ k → k < length ds → deques_of xs ≡ start ++ take (k - first) (drop first ds) → s.deque ≡ get_or ds k s.deque
    → deques_of (xs ++ s ∷ []) ≡ start ++ take (k + 1 - first) (drop first ds)
part-more start xs s ds first k past below before at =
    let j : ℕ = k - first in
    let next : s.deque ≡ get_or (drop first ds) j s.deque = at ∙ ap (λ i. get_or ds i s.deque) (let same : k ≡ first + j = omega (arith, past) in same) ∙ sym (get_or-drop first ds j s.deque) in
    let more = take_more (drop first ds) j s.deque (omega (arith, length-drop first ds, past, below)) in
    map-append (λ (x : SourceValue). x.deque) xs (s ∷ []) ∙ ap (λ l. l ++ s.deque ∷ []) before ∙ append_assoc start (take j (drop first ds)) (s.deque ∷ [])
    ∙ ap (λ l. start ++ l) (ap (λ d. take j (drop first ds) ++ d ∷ []) next ∙ sym more)
    ∙ ap (λ n. start ++ take n (drop first ds)) (let same : j + 1 ≡ k + 1 - first = omega (arith, past) in same)

-- the first of what is left of a list is removed
pub removed : {A : Type 0} (xs l m : List A) (k : ℕ) (d : A) → k < length xs → l ≡ drop k xs → m ≡ drop 1 l → m ≡ drop (k + 1) xs
removed xs l m k d below is rest = rest ∙ ap (drop 1) (is ∙ drop_more xs k d below)

pub first-left : {A : Type 0} (xs l : List A) (k : ℕ) (x : A) → l ≡ drop k xs → x ≡ get_or l 0 x → x ≡ get_or xs k x
first-left xs l k x is at = at ∙ ap (λ ys. get_or ys 0 x) is ∙ get_or-drop k xs 0 x ∙ ap (λ i. get_or xs i x) (let same : k + 0 ≡ k = omega arith in same)

pub took-more : (xs : List SourceValue) (s : SourceValue) → s.took ≡ 0 → sum_by took (xs ++ s ∷ []) ≡ sum_by took xs
took-more xs s none = sum_by-append took xs (s ∷ []) ∙ omega (arith, sum_by-cons took s [], none)

-- ---- a hand to which nothing was dealt
pub new-is : (p : Plan) (name : TableId) (own : OwnValue) (others : List SourceValue) → IsEmpty (length p.graph.tasks) own → sum_by took others ≡ 0
    → (r : RunnerValue) → r ≡ record { seat = new_hand name; ran = []; row = [] } → IsCrewHand p name (record { seat = r.seat; ran = r.ran; own = own; others = others; done = false })
new-is p name own others empty none r is =
    subst (λ (x : RunnerValue). IsCrewHand p name (record { seat = x.seat; ran = x.ran; own = own; others = others; done = false })) (sym is) record {
      table = refl;
      told = record { opened = λ t h. absurd (in_none t h); opened_once = λ i j below _ _. absurd (omega arith); ran = λ t n h. absurd (in_none (t, n) h); ran_once = λ i j below _ _. absurd (omega arith) };
      ran = refl;
      took = omega (arith, empty.took, none);
      dealt = [];
      dealt_are = record { once = λ i j below _ _. absurd (omega arith); ready = λ t h. absurd (in_none t h) };
      pushed = empty.pushed;
      room = omega (arith, empty.room_is);
      done = λ wrong. absurd (cc);
    }

-- such a hand more
pub hand-more : (ds : List RowsId) (hands : List CrewHandValue) (k : ℕ) (name : TableId) (own : OwnValue) (others : List SourceValue) (h : CrewHandValue) → length hands ≡ k → h ≡ record { seat = new_hand name; ran = []; own = own; others = others; done = false }
    → own.pushed ≡ [] → deques_of others ≡ others_after k ds
    → ((number : ℕ) (d : CrewHandValue) → number < k → IsDealt [] ds (get_or hands number d) number)
    → (number : ℕ) (d : CrewHandValue) → number < k + 1 → IsDealt [] ds (get_or (hands ++ h ∷ []) number d) number
hand-more ds hands k name own others h size is none after before number d within = ⊎_elim
    (λ (this : number ≡ k). subst (λ (x : CrewHandValue). IsDealt [] ds x number) (sym (ap (λ i. get_or (hands ++ h ∷ []) i d) (this ∙ sym size) ∙ get_or-append_seam hands h [] d))
    (subst (λ i. IsDealt [] ds h i) (sym this) (subst (λ (x : CrewHandValue). IsDealt [] ds x k) (sym is) record { seat = refl; ran = refl; pushed = none; others = after; done = refl })))
    (λ (other : number ≡ k → ⊥).
    let inside : number < length hands = omega (arith, within, other, size) in
    subst (λ (x : CrewHandValue). IsDealt [] ds x number) (sym (get_or-append hands (h ∷ []) d number inside)) (before number d (omega (arith, within, other))))
    (cases_eq number k)

-- ---- a task is dealt
module _ (p : Plan) (name : TableId) (old : CrewHandValue) (is : IsCrewHand p name old) (t : ℕ) (new : old.seat.opened ≡ []) (fresh : Contains old.own.pushed t → ⊥) (below : t < length p.graph.tasks) (ready : length (before_of p.graph t) ≡ 0) where
  same : old.own.pushed ≡ is.dealt
  same = is.pushed ∙ ap (λ ts. is.dealt ++ ts) new ∙ append-nil is.dealt

  dealt-are : AreDealt p (old.own.pushed ++ t ∷ [])
  dealt-are = record {
    once = once-push old.own.pushed t (subst EachOnce (sym same) is.dealt_are.once) fresh;
    ready = λ u h. ⊎_elim
        (λ (before : Contains old.own.pushed u). is.dealt_are.ready u (subst (λ ts. Contains ts u) same before))
        (λ (this : t ≡ u). subst (λ v. (v < length p.graph.tasks) × (length (before_of p.graph v) ≡ 0)) this (below, ready))
        (Contains-push_cases old.own.pushed t u h);
  }

  pub deal-room : length old.own.pushed < old.own.room
  deal-room =
      let most = few (old.own.pushed ++ t ∷ []) (length p.graph.tasks) dealt-are.once (λ u h. (dealt-are.ready u h).0) in
      omega (arith, most, length-append old.own.pushed (t ∷ []), is.room)

  pub deal-is : IsCrewHand p name (record old { own = record old.own { pushed = old.own.pushed ++ t ∷ [] } })
  deal-is = record {
    table = is.table;
    told = is.told;
    ran = is.ran;
    took = is.took;
    dealt = old.own.pushed ++ t ∷ [];
    dealt_are = dealt-are;
    pushed = sym (ap (λ ts. (old.own.pushed ++ t ∷ []) ++ ts) new ∙ append-nil (old.own.pushed ++ t ∷ []));
    room = is.room;
    done = is.done;
  }

-- ---- tasks in turn
dealt-in : (place n i : ℕ) (ts : List ℕ) (u : ℕ) → Contains (dealt_from place n i ts) u → Contains ts u
dealt-in place n i [] u h = h
dealt-in place n i (t ∷ ts) u h = go (place % n == i) (dealt-in (place + 1) n i ts u) h
  where
    go : (b : Bool) → (Contains (dealt_from (place + 1) n i ts) u → Contains ts u) → Contains (cond b (t ∷ dealt_from (place + 1) n i ts) (dealt_from (place + 1) n i ts)) u → Contains (t ∷ ts) u
    go true later c = ⊎_elim (λ (this : t ≡ u). subst (Contains (t ∷ ts)) this (in_head t ts)) (λ (rest : Contains (dealt_from (place + 1) n i ts) u). in_tail t u ts (later rest)) (in_cases t u (dealt_from (place + 1) n i ts) c)
    go false later c = in_tail t u ts (later c)

dealt-more : (place n i : ℕ) (ts : List ℕ) (t at : ℕ) → at ≡ place + length ts → dealt_from place n i (ts ++ t ∷ []) ≡ cond (at % n == i) (dealt_from place n i ts ++ t ∷ []) (dealt_from place n i ts)
dealt-more place n i [] t at is = ap (λ k. cond (k % n == i) (t ∷ []) []) (let here : place ≡ at = omega (arith, is) in here)
dealt-more place n i (u ∷ ts) t at is =
    ap (λ l. cond (place % n == i) (u ∷ l) l) (dealt-more (place + 1) n i ts t at (omega (arith, is))) ∙ put (place % n == i) (at % n == i) u t (dealt_from (place + 1) n i ts)

-- the first Job of those that are left
pub first-job : (table : TableId) (ready : List ℕ) (k : ℕ) (job : JobValue) (rest : List JobValue) → map (new_job table) (drop k ready) ≡ job ∷ rest
    → (k < length ready) × (job ≡ new_job table (get_or ready k 0)) × (rest ≡ map (new_job table) (drop (k + 1) ready))
first-job table ready k job rest is = ⊎_elim
    (λ (below : k < length ready).
    let both : new_job table (get_or ready k 0) ∷ map (new_job table) (drop (k + 1) ready) ≡ job ∷ rest = sym (ap (map (new_job table)) (drop_more ready k 0 below)) ∙ is in
    (below, sym (ap (λ (l : List JobValue). get_or l 0 job) both), sym (ap (λ (l : List JobValue). drop 1 l) both)))
    (λ (past : length ready ≤ k). let size = ap length is in absurd (omega (arith, size, length-map (drop k ready) (new_job table), length-drop k ready, past)))
    (cases_lt k (length ready))

module _ (p : Plan) (ready : List ℕ) (once : EachOnce ready) (deques : List RowsId) (hands : List CrewHandValue) (k i : ℕ) (below : k < length ready) (inside : i < length hands) (turn : i ≡ k % length deques)
    (are : AreDealtTo (take k ready) deques hands) (old : CrewHandValue) (is : old ≡ get_or hands i old) where
  abbrev next : ℕ
  next = get_or ready k 0

  abbrev now : CrewHandValue
  now = record old { own = record old.own { pushed = old.own.pushed ++ next ∷ [] } }

  before : IsDealt (take k ready) deques old i
  before = subst (λ (h : CrewHandValue). IsDealt (take k ready) deques h i) (sym is) (are.each i old inside)

  pub turn-new : old.seat.opened ≡ []
  turn-new = ap (λ (s : HandValue). s.opened) before.seat

  pub turn-fresh : Contains old.own.pushed next → ⊥
  turn-fresh h = not-before ready k once below (dealt-in 0 (length deques) i (take k ready) next (subst (λ ts. Contains ts next) before.pushed h))

  more : (j : ℕ) → dealt_to (length deques) j (take (k + 1) ready) ≡ cond (k % length deques == j) (dealt_to (length deques) j (take k ready) ++ next ∷ []) (dealt_to (length deques) j (take k ready))
  more j = ap (dealt_to (length deques) j) (take_more ready k 0 below) ∙ dealt-more 0 (length deques) j (take k ready) next k (omega (arith, below, length-take k ready))

  here : IsDealt (take (k + 1) ready) deques now i
  here = record {
    seat = before.seat;
    ran = before.ran;
    pushed =
        let yes' : (k % length deques == i) ≡ true = grind (arith, nat_tests, turn) in
        ap (λ ts. ts ++ next ∷ []) before.pushed ∙ sym (more i ∙ ap (λ b. cond b (dealt_to (length deques) i (take k ready) ++ next ∷ []) (dealt_to (length deques) i (take k ready))) yes');
    others = before.others;
    done = before.done;
  }

  there : (h : CrewHandValue) (j : ℕ) → (j ≡ i → ⊥) → IsDealt (take k ready) deques h j → IsDealt (take (k + 1) ready) deques h j
  there h j other d = record {
    seat = d.seat;
    ran = d.ran;
    pushed =
        let no' : (k % length deques == j) ≡ false = grind (arith, nat_tests, turn, other) in
        d.pushed ∙ sym (more j ∙ ap (λ b. cond b (dealt_to (length deques) j (take k ready) ++ next ∷ []) (dealt_to (length deques) j (take k ready))) no');
    others = d.others;
    done = d.done;
  }

  pub turn-dealt : AreDealtTo (take (k + 1) ready) deques (set hands i now)
  turn-dealt = record {
    deques_are = map-set_same (λ (h : CrewHandValue). h.own.deque) hands i now old (ap (λ (h : CrewHandValue). h.own.deque) is) ∙ are.deques_are;
    each = λ j d within. ⊎_elim
        (λ (this : j ≡ i). subst (λ (m : ℕ). IsDealt (take (k + 1) ready) deques (get_or (set hands i now) m d) m) (sym this)
        (subst (λ (h : CrewHandValue). IsDealt (take (k + 1) ready) deques h i) (sym (get_or-set_same hands i now d inside)) here))
        (λ (other : j ≡ i → ⊥). subst (λ (h : CrewHandValue). IsDealt (take (k + 1) ready) deques h j) (sym (get_or-set_other hands i j now d other))
        (there (get_or hands j d) j other (are.each j d (omega (arith, within, length-set hands i now)))))
        (cases_eq j i);
  }
