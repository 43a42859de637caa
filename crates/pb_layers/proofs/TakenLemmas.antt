-- There and back within what is left.
use Rattle.std.proofs.Common.{◌≡◌, ◌∙◌, sym, subst, ⊎_elim, ℕ, ◌<◌, Bool, true, false, List, length, get_or, slice_index, arith}
use Rattle.std.specs.List.{All, Contains}
use Rattle.std.proofs.lemmas.Bool.{cases_Bool, false≢true}
use Rattle.std.proofs.lemmas.List.{get_or_default}
use Rattle.std.proofs.lemmas.List.Elements.{All-contains, Contains-get_or}
use Rattle.pb_base.specs.Reach.{Reach, Together}
use Rattle.pb_base.specs.Reach.Reach.{here, along}
use Rattle.pb_base.proofs.ReachLemmas.{reach-keeps_back, reach-trans, reach-turned, together-sym, together-trans}
use Rattle.pb_layers.specs.Graphs.{IsFilled, IsMarked, IsReached, Out, marked}
use Rattle.pb_layers.specs.Components.{IsClosed, IsTaken, IsTurned, NoneMarked}
use Rattle.pb_layers.proofs.ListLemmas.{contains-some, count-less, marked-inside, marks-same}

unmarked : (marks : List Bool) (v : ℕ) → (IsMarked marks v → ⊥) → marked marks v ≡ false
unmarked marks v h = ⊎_elim (λ (on : marked marks v ≡ true). absurd (h on)) (λ off. off) (cases_Bool (marked marks v))

not-both : (marks : List Bool) (v : ℕ) → marked marks v ≡ false → IsMarked marks v → ⊥
not-both marks v off on = false≢true (sym off ∙ on)

-- ---- all that links lead to within the marked nodes
module _ (Leads : ℕ → ℕ → Type 0) (within rest : List Bool) (start : ℕ) (found : List ℕ) (r : IsReached Leads within start (length found) rest found) where
  pub found-next : (u v : ℕ) → Contains found u → Leads u v → IsMarked within v → Contains found v
  found-next u v c l on =
      let P : ℕ → Type 0 = λ w. Leads w v in
      r.kept v on (r.closed c.0 v c.1 (subst P (sym (index-is u c)) l))
    where
      index-is : (u : ℕ) (c : Contains found u) → slice_index found c.0 ≡ u
      index-is u c = get_or_default found c.0 0 u c.1 ∙ c.2

  -- a marked node is found where each way to it stays among the marked
  pub found-all : ((u v : ℕ) → Leads u v → IsMarked within v → IsMarked within u) → (v : ℕ) → Reach ℕ Leads start v → IsMarked within v → Contains found v
  found-all back v p on = follow start v p r.started on
    where
      follow : (u v : ℕ) → Reach ℕ Leads u v → Contains found u → IsMarked within v → Contains found v
      follow u v here c on = c
      follow u v (along {v = w} l q) c on = follow w v q (found-next u w c l (reach-keeps_back Leads (IsMarked within) back w v q on)) on

-- ---- there and back: `there` are the nodes to which `from` leads within what is left, and `back` those of them that lead back
module _ (down up : List (List ℕ)) (nodes : ℕ) (turned : IsTurned nodes down up) (left rest : List Bool) (closed : IsClosed (Out down) left) (from : ℕ) (there : List ℕ) (r : IsReached (Out down) left from (length there) rest there) where
  pub there-all : (v : ℕ) → Reach ℕ (Out down) from v → IsMarked left v → Contains there v
  there-all = found-all (Out down) left rest from there r closed

  module _ (clear ahead after : List Bool) (none : NoneMarked clear) (room : length clear ≡ length left) (filled : IsFilled Bool clear ahead there true) (back : List ℕ) (b : IsReached (Out up) ahead from (length back) after back) where
    ahead-there : (v : ℕ) → Contains there v → IsMarked ahead v
    ahead-there v c = let inside = marked-inside left v (r.taken v c) in filled.written v false (omega (arith, room)) c

    -- a node ahead isn't one that isn't there
    there-ahead : (v : ℕ) → IsMarked ahead v → Contains there v
    there-ahead v on = ⊎_elim
        (λ (is : marked rest v ≡ true). absurd (not-both ahead v (filled.kept v false (λ c. not-both rest v (r.gone v c) is) ∙ none v) on))
        (λ (off : marked rest v ≡ false). ⊎_elim
        (λ (is : marked left v ≡ true). r.kept v is off)
        (λ (out : marked left v ≡ false). absurd (not-both ahead v (filled.kept v false (λ c. not-both left v out (r.taken v c)) ∙ none v) on))
        (cases_Bool (marked left v)))
        (cases_Bool (marked rest v))

    leads-back : (v : ℕ) → Contains back v → Reach ℕ (Out down) v from
    leads-back v c = reach-turned (Out down) (Out up) (λ x y l. (turned.turned y x).0 l) from v (b.reach v c)

    -- each node there that leads back is found
    back-all : (v : ℕ) → Contains there v → Reach ℕ (Out down) v from → Contains back v
    back-all v c p = follow v from p c (r.taken from r.started) b.started
      where
        follow : (v u : ℕ) → Reach ℕ (Out down) v u → Contains there v → IsMarked left u → Contains back u → Contains back v
        follow v u here c on d = d
        follow v u (along {v = w} l q) c on d =
            let next = found-next (Out down) left rest from there r v w c l (reach-keeps_back (Out down) (IsMarked left) closed w u q on) in
            found-next (Out up) ahead after from back b w v (follow w u q next on d) ((turned.turned v w).1 l) (ahead-there v c)

    pub back-there : (v : ℕ) → Contains back v → Contains there v
    back-there v c = there-ahead v (b.taken v c)

    back-together : (v : ℕ) → Contains back v → Together (Out down) from v
    back-together v c = (r.reach v (back-there v c), leads-back v c)

    together-back : (v : ℕ) → Together (Out down) from v → Contains back v
    together-back v t =
        let on = reach-keeps_back (Out down) (IsMarked left) closed v from t.1 (r.taken from r.started) in
        back-all v (there-all v t.0 on) t.1

    -- all that is there leads back: it is the component, and no link leaves it to the rest
    pub taken-all : All (λ v. marked after v ≡ false) there → IsTaken (Out down) left rest back
    taken-all all = record {
      room = r.room;
      smaller = let some = contains-some there from r.started in omega (arith, r.size);
      some = contains-some back from b.started;
      together = λ u v c d. together-trans (Out down) u from v (together-sym (Out down) from u (back-together u c)) (back-together v d);
      whole = λ u v c t. together-back v (together-trans (Out down) from u v (back-together u c) t);
      taken = λ v c. r.taken v (back-there v c);
      gone = λ v c. r.gone v (back-there v c);
      fewer = r.fewer;
      kept = λ v on off. there-back v (r.kept v on off);
      closed = λ u v l on. ⊎_elim
          (λ (is : marked rest u ≡ true). is)
          (λ (off : marked rest u ≡ false).
          let was = closed u v l (r.fewer v on) in
          absurd (not-both rest v (r.gone v (found-next (Out down) left rest from there r u v (r.kept u was off) l (r.fewer v on))) on))
          (cases_Bool (marked rest u));
    }
      where
        there-back : (v : ℕ) → Contains there v → Contains back v
        there-back v c = b.kept v (ahead-there v c) (All-contains (λ w. marked after w ≡ false) there v all c)

    pub clear-all : All (λ v. marked after v ≡ false) there → NoneMarked after
    clear-all all = λ v. unmarked after v (λ on. not-both after v (All-contains (λ w. marked after w ≡ false) there v all (there-ahead v (b.fewer v on))) on)

    -- once the marks there are gone, none is left
    pub clear-again : (new : List Bool) → IsFilled Bool after new there false → NoneMarked new
    clear-again new f = λ v. unmarked new v (λ on. ⊎_elim
        (λ (is : marked rest v ≡ true). out v on (λ c. not-both rest v (r.gone v c) is))
        (λ (off : marked rest v ≡ false). ⊎_elim
        (λ (is : marked left v ≡ true). let c = r.kept v is off in not-both new v (f.written v false (inside v c) c) on)
        (λ (never : marked left v ≡ false). out v on (λ c. not-both left v never (r.taken v c)))
        (cases_Bool (marked left v)))
        (cases_Bool (marked rest v)))
      where
        inside : (v : ℕ) → Contains there v → v < length after
        inside v c = let below = marked-inside left v (r.taken v c) in omega (arith, b.room, filled.room, room)

        out : (v : ℕ) → IsMarked new v → (Contains there v → ⊥) → ⊥
        out v on no_there = no_there (there-ahead v (b.fewer v (sym (f.kept v false no_there) ∙ on)))

    -- and what was there is left again
    pub left-again : (new : List Bool) → IsFilled Bool rest new there true → new ≡ left
    left-again new f = marks-same new left (f.room ∙ r.room)
        (λ v on. ⊎_elim
        (λ (is : marked rest v ≡ true). r.fewer v is)
        (λ (off : marked rest v ≡ false). ⊎_elim
        (λ (is : marked left v ≡ true). is)
        (λ (never : marked left v ≡ false). absurd (not-both new v (f.kept v false (λ c. not-both left v never (r.taken v c)) ∙ off) on))
        (cases_Bool (marked left v)))
        (cases_Bool (marked rest v)))
        (λ v on. ⊎_elim
        (λ (is : marked rest v ≡ true). f.kept v false (λ c. not-both rest v (r.gone v c) is) ∙ is)
        (λ (off : marked rest v ≡ false). let below = marked-inside left v on in f.written v false (omega (arith, r.room)) (r.kept v on off))
        (cases_Bool (marked rest v)))

    -- fewer nodes are there from a node that doesn't lead back
    pub there-fewer : (other : ℕ) (rest' : List Bool) (there' : List ℕ) → Contains there other → IsMarked after other → IsReached (Out down) left other (length there') rest' there' → length there' < length there
    there-fewer other rest' there' c on s =
        let less = count-less rest rest' from (r.room ∙ sym s.room) fewer (r.gone from r.started) from_left in
        omega (arith, r.size, s.size)
      where
        fewer : (w : ℕ) → IsMarked rest w → IsMarked rest' w
        fewer w is = ⊎_elim (λ (h : marked rest' w ≡ true). h)
            (λ (off : marked rest' w ≡ false).
            let d = s.kept w (r.fewer w is) off in
            absurd (not-both rest w (r.gone w (there-all w (reach-trans (Out down) from other w (r.reach other c) (s.reach w d)) (r.fewer w is))) is))
            (cases_Bool (marked rest' w))

        from_left : IsMarked rest' from
        from_left = ⊎_elim (λ (h : marked rest' from ≡ true). h)
            (λ (off : marked rest' from ≡ false).
            let d = s.kept from (r.taken from r.started) off in
            absurd (not-both after other (b.gone other (back-all other c (s.reach from d))) on))
            (cases_Bool (marked rest' from))

-- ---- the steps of the search, as the code has them
pub up-inside : (nodes : ℕ) (down up targets : List (List ℕ)) → IsTurned nodes down up → targets ≡ up → (u v : ℕ) → Out targets u v → v < nodes
up-inside nodes down up targets t e u v out =
    let P : List (List ℕ) → Type 0 = λ l. Out l u v in
    (t.inside v u ((t.turned v u).0 (subst P e out))).0

pub down-inside : (nodes : ℕ) (down up targets : List (List ℕ)) → IsTurned nodes down up → targets ≡ down → (u v : ℕ) → Out targets u v → v < nodes
down-inside nodes down up targets t e u v out =
    let P : List (List ℕ) → Type 0 = λ l. Out l u v in
    (t.inside u v (subst P e out)).1

pub list-inside : (Leads : ℕ → ℕ → Type 0) (within rest : List Bool) (start followed : ℕ) (found nodes : List ℕ) (n : ℕ) → IsReached Leads within start followed rest found → nodes ≡ found → n ≡ length within → (k d : ℕ) → k < length nodes → get_or nodes k d < n
list-inside Leads within rest start followed found nodes n r e same k d below =
    let P : List ℕ → Type 0 = λ l. Contains l (get_or nodes k d) in
    let inside = marked-inside within (get_or nodes k d) (r.taken (get_or nodes k d) (subst P e (Contains-get_or nodes k d below))) in
    omega arith

pub reached-as : (targets held : List (List ℕ)) (within other rest : List Bool) (start followed : ℕ) (found : List ℕ) → targets ≡ held → within ≡ other → IsReached (Out targets) within start followed rest found → IsReached (Out held) other start followed rest found
reached-as targets held within other rest start followed found e f r =
    let P : List (List ℕ) → Type 0 = λ l. IsReached (Out l) other start followed rest found in
    let Q : List Bool → Type 0 = λ l. IsReached (Out targets) l start followed rest found in
    subst P e (subst Q f r)

pub filled-as : (old new : List Bool) (nodes held : List ℕ) (value : Bool) → nodes ≡ held → IsFilled Bool old new nodes value → IsFilled Bool old new held value
filled-as old new nodes held value e f = let P : List ℕ → Type 0 = λ l. IsFilled Bool old new l value in subst P e f

pub all-as : (marks other : List Bool) (nodes held : List ℕ) → marks ≡ other → nodes ≡ held → All (λ v. marked marks v ≡ false) nodes → All (λ v. marked other v ≡ false) held
all-as marks other nodes held e f all =
    let P : List Bool → Type 0 = λ l. All (λ v. marked l v ≡ false) held in
    let Q : List ℕ → Type 0 = λ l. All (λ v. marked marks v ≡ false) l in
    subst P e (subst Q f all)

pub marked-as : (marks other : List Bool) (v : ℕ) → marks ≡ other → IsMarked marks v → IsMarked other v
marked-as marks other v e on = let P : List Bool → Type 0 = λ l. IsMarked l v in subst P e on

pub contains-as : (nodes held : List ℕ) (v : ℕ) → nodes ≡ held → Contains nodes v → Contains held v
contains-as nodes held v e c = let P : List ℕ → Type 0 = λ l. Contains l v in subst P e c

-- there and back once
pub record IsRound (down up : List (List ℕ)) (left rest clear ahead after : List Bool) (from : ℕ) (there back : List ℕ) : Type 0 where
  pub turned : IsTurned (length left) down up
  pub closed : IsClosed (Out down) left
  pub room : length clear ≡ length left
  pub none : NoneMarked clear
  pub there_is : IsReached (Out down) left from (length there) rest there
  pub filled : IsFilled Bool clear ahead there true
  pub back_is : IsReached (Out up) ahead from (length back) after back

module _ (down up : List (List ℕ)) (left rest clear ahead after : List Bool) (from : ℕ) (there back : List ℕ) (r : IsRound down up left rest clear ahead after from there back) where
  pub round-taken : All (λ v. marked after v ≡ false) there → IsTaken (Out down) left rest back
  round-taken = taken-all down up (length left) r.turned left rest r.closed from there r.there_is clear ahead after r.none r.room r.filled back r.back_is

  pub round-cleared : All (λ v. marked after v ≡ false) there → NoneMarked after
  round-cleared = clear-all down up (length left) r.turned left rest r.closed from there r.there_is clear ahead after r.none r.room r.filled back r.back_is

  pub round-clear_again : (new : List Bool) → IsFilled Bool after new there false → NoneMarked new
  round-clear_again = clear-again down up (length left) r.turned left rest r.closed from there r.there_is clear ahead after r.none r.room r.filled back r.back_is

  pub round-left_again : (new : List Bool) → IsFilled Bool rest new there true → new ≡ left
  round-left_again = left-again down up (length left) r.turned left rest r.closed from there r.there_is clear ahead after r.none r.room r.filled back r.back_is

  pub round-fewer : (other : ℕ) (rest' : List Bool) (there' : List ℕ) → Contains there other → IsMarked after other → IsReached (Out down) left other (length there') rest' there' → length there' < length there
  round-fewer = there-fewer down up (length left) r.turned left rest r.closed from there r.there_is clear ahead after r.none r.room r.filled back r.back_is

pub start-ahead : (down : List (List ℕ)) (left rest clear ahead : List Bool) (from : ℕ) (there : List ℕ) → length clear ≡ length left → IsReached (Out down) left from (length there) rest there → IsFilled Bool clear ahead there true → IsMarked ahead from
start-ahead down left rest clear ahead from there room r f = let inside = marked-inside left from (r.taken from r.started) in f.written from false (omega (arith, room)) r.started
