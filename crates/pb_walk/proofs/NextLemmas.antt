-- What is left of a walk, before its first place and after each.
use Rattle.std.proofs.Common.{◌≡◌, ◌∙◌, refl, sym, ap, subst, inl, inr, ◌⊎◌, ℕ, zero, suc, ◌+◌, ◌<◌, ◌==◌, Bool, true, false, not, ◌||◌, if◌then◌else◌, List, [], ◌∷◌, ◌++◌, drop, length, get_or, slice_get, Option, Some, None, eqb-true}
use Rattle.std.proofs.lemmas.Bool.{eqb-false}
use Rattle.std.proofs.Math.ListN.{set}
use Rattle.std.proofs.Math.Seq.{map-set_same}
use Rattle.std.specs.Prelude.{filter}
use Rattle.std.specs.List.{All, Contains}
use Rattle.std.specs.Ordering.{is_le, is_lt, ordering_reverse}
use Rattle.std.specs.declared.cmp.Ordering.TheVariants.{Less, Equal, Greater}
use Rattle.std.proofs.lemmas.Cmp.{tied_itself}
use Rattle.std.proofs.lemmas.List.{append_assoc, drop_more, map-append}
use Rattle.std.proofs.lemmas.List.Elements.{All-push}
use Rattle.std.proofs.lemmas.Option.{get_or_from_slice_get, slice_get_within, slice_get-map}
use Rattle.pb_linear.specs.declared.boxes.Step.{Step}
use Rattle.pb_links.specs.declared.places.Spot.{Spot}
use Rattle.pb_walk.specs.declared.course.Course.{Course}
use Rattle.pb_walk.specs.declared.course.Course.TheVariants.{Any}
use Rattle.pb_walk.specs.declared.cursor.Cursor.{Cursor}
use Rattle.pb_walk.specs.declared.stop.Stop.{Stop}
use Rattle.pb_walk.specs.Cursors.{IsBegun, IsBest, IsFirstOf, IsMoved, has_passed, head, is_ahead, is_ahead_of, left_of, spots, steps_of, whole}
use Rattle.pb_walk.specs.Orders.{compare}
use Rattle.pb_walk.specs.Walks.{IsIn, IsPlace, WalkValue, stop, walk_of}
use Rattle.pb_walk.proofs.BestLemmas.{before_too}
use Rattle.pb_walk.proofs.OrderLemmas.{compare_total}
use Rattle.pb_walk.proofs.SortLemmas.{filter_all, filter_first, filter_none}
use Rattle.pb_walk.proofs.WalkLemmas.{in_walk, walk_in, walk_sorted}

-- the piece of a place of the walk
pub record OfCursor (cs : List Cursor) (s : Stop) : Type 0 where
  pub cursor : Cursor
  pub there : slice_get cs s.piece ≡ Some cursor
  pub inside : IsIn cursor.spot s

cursor_of : (cs : List Cursor) (s : Stop) (o : Option Cursor) → slice_get cs s.piece ≡ o → IsPlace (spots cs) s → OfCursor cs s
cursor_of cs s None e h = absurd (rw (slice_get-map (λ (c : Cursor). c.spot) cs s.piece, e) at h)
cursor_of cs s (Some c) e h = record { cursor = c; there = e; inside = rw (slice_get-map (λ (c : Cursor). c.spot) cs s.piece, e) at h }

found : (course : Course) (cs : List Cursor) (s : Stop) → Contains (whole course cs) s → OfCursor cs s
found course cs s h = cursor_of cs s (slice_get cs s.piece) refl (walk_in (steps_of course) (spots cs) s h)

its_base : (s : Stop) (b : ℕ) → s.base ≡ b → stop s.piece b s.x s.y ≡ s
its_base s b e = λ i. stop s.piece (sym e i) s.x s.y

-- ---- before the first place
pub all_left : (course : Course) (cs : List Cursor) → All (IsBegun (steps_of course)) cs → left_of course cs ≡ whole course cs
unfolding left_of
all_left course cs begun = filter_all (is_ahead (steps_of course) cs) (whole course cs) (λ s h.
    let f = found course cs s h in
    let is : get_or cs s.piece f.cursor ≡ f.cursor = get_or_from_slice_get cs s.piece f.cursor f.cursor f.there in
    let start : IsBegun (steps_of course) f.cursor = subst (IsBegun (steps_of course)) is (begun s.piece f.cursor (slice_get_within cs s.piece f.cursor f.there)) in
    let ahead : has_passed (steps_of course) f.cursor s ≡ false = subst (λ (z : Stop). has_passed (steps_of course) f.cursor z ≡ false) (its_base s f.cursor.spot.base f.inside.0) (start s.piece s.x s.y f.inside.1) in
    rw (f.there, ahead) refl)

-- ---- after the last
pub none_left : (course : Course) (cs : List Cursor) → IsBest course cs (length cs) None → left_of course cs ≡ []
unfolding left_of
none_left course cs none = filter_none (is_ahead (steps_of course) cs) (whole course cs) (λ s h.
    let f = found course cs s h in
    rw (f.there, none s.piece f.cursor (slice_get_within cs s.piece f.cursor f.there) f.there) refl)

-- ---- and between
pub get_set_same : (cs : List Cursor) (k : ℕ) (c x : Cursor) → slice_get cs k ≡ Some c → slice_get (set cs k x) k ≡ Some x
get_set_same [] k c x e = let wrong : None ≡ Some c = e in absurd (cc)
get_set_same (y ∷ cs) zero c x e = refl
get_set_same (y ∷ cs) (suc k) c x e = get_set_same cs k c x e

pub get_set_other : (cs : List Cursor) (k j : ℕ) (x : Cursor) → (j ≡ k → ⊥) → slice_get (set cs k x) j ≡ slice_get cs j
get_set_other [] k j x n = refl
get_set_other (y ∷ cs) zero zero x n = absurd (n refl)
get_set_other (y ∷ cs) zero (suc j) x n = refl
get_set_other (y ∷ cs) (suc k) zero x n = refl
get_set_other (y ∷ cs) (suc k) (suc j) x n = get_set_other cs k j x (λ e. n (ap suc e))

module _ (course : Course) (cs : List Cursor) (k : ℕ) (f : IsFirstOf course cs (length cs) k) (x : Cursor) (moved : IsMoved (steps_of course) f.cursor x) where
  abbrev steps : List Step
  steps = steps_of course

  abbrev next : Stop
  next = head k f.cursor

  abbrev later : List Cursor
  later = set cs k x

  same_spots : spots later ≡ spots cs
  same_spots = map-set_same (λ (c : Cursor). c.spot) cs k x f.cursor (moved.spot ∙ ap (λ (c : Cursor). c.spot) (sym (get_or_from_slice_get cs k f.cursor f.cursor f.there)))

  pub same_whole : whole course later ≡ whole course cs
  same_whole = ap (walk_of steps) same_spots

  own_before : (s : Stop) → s.piece ≡ k → is_ahead steps cs s ≡ not (is_lt (compare steps s next))
  own_before s e =
      let there : slice_get cs s.piece ≡ Some f.cursor = ap (slice_get cs) e ∙ f.there in
      let same : head s.piece f.cursor ≡ next = ap (λ (j : ℕ). head j f.cursor) e in
      ap (λ (o : Option Cursor). is_ahead_of steps o s) there ∙ ap (λ (d : Bool). not (d || is_lt (compare steps s (head s.piece f.cursor)))) f.left ∙ ap (λ (z : Stop). not (is_lt (compare steps s z))) same

  own_after : (s : Stop) → s.piece ≡ k → IsIn f.cursor.spot s → is_ahead steps later s ≡ not (is_le (compare steps s next))
  own_after s e h =
      let there : slice_get later s.piece ≡ Some x = ap (slice_get later) e ∙ get_set_same cs k f.cursor x f.there in
      let same : head s.piece f.cursor ≡ next = ap (λ (j : ℕ). head j f.cursor) e in
      let passed : has_passed steps x s ≡ is_le (compare steps s (head s.piece f.cursor)) =
      subst (λ (z : Stop). has_passed steps x z ≡ is_le (compare steps z (head s.piece f.cursor))) (its_base s f.cursor.spot.base h.0) (moved.passed s.piece s.x s.y h.1)
      in
      ap (λ (o : Option Cursor). is_ahead_of steps o s) there ∙ ap not passed ∙ ap (λ (z : Stop). not (is_le (compare steps s z))) same

  other : (s : Stop) → (s.piece ≡ k → ⊥) → is_ahead steps later s ≡ is_ahead steps cs s
  other s n = ap (λ (o : Option Cursor). is_ahead_of steps o s) (get_set_other cs k s.piece x n)

  own_or_other : (s : Stop) → (s.piece ≡ k) ⊎ (s.piece ≡ k → ⊥)
  own_or_other s = by (s.piece == k) refl
    where
      by : (t : Bool) → (s.piece == k) ≡ t → (s.piece ≡ k) ⊎ (s.piece ≡ k → ⊥)
      by true e = inl (eqb-true s.piece k e)
      by false e = inr (eqb-false s.piece k e)

  own_inside : (s : Stop) → s.piece ≡ k → OfCursor cs s → IsIn f.cursor.spot s
  own_inside s e of =
      let both : Some of.cursor ≡ Some f.cursor = sym of.there ∙ ap (slice_get cs) e ∙ f.there in
      let same : of.cursor ≡ f.cursor = cc in
      subst (λ (c : Cursor). IsIn c.spot s) same of.inside

  before_other : (s : Stop) (of : OfCursor cs s) → compare steps s next ≡ Less → (t : Bool) → of.cursor.done ≡ t → is_ahead steps cs s ≡ false
  before_other s of l true e = rw (of.there, e) refl
  before_other s of l false e =
      let first = f.first s.piece of.cursor (slice_get_within cs s.piece of.cursor of.there) of.there e in
      rw (of.there, e, before_too (compare_total steps) s (head s.piece of.cursor) next l first) refl

  before_next : (s : Stop) → Contains (whole course cs) s → compare steps s next ≡ Less → (is_ahead steps cs s ≡ false) × (is_ahead steps later s ≡ false)
  before_next s h l =
      let of = found course cs s h in
      elim (own_or_other s) [
        | inl own ↦ (own_before s own ∙ ap (λ o. not (is_lt o)) l, own_after s own (own_inside s own of) ∙ ap (λ o. not (is_le o)) l)
        | inr not_own ↦ let old = before_other s of l of.cursor.done refl in (old, other s not_own ∙ old)
      ]

  after_next : (s : Stop) → Contains (whole course cs) s → compare steps next s ≡ Less → is_ahead steps later s ≡ is_ahead steps cs s
  after_next s h l =
      let of = found course cs s h in
      let back : compare steps s next ≡ Greater = (compare_total steps).antisymm s next ∙ ap ordering_reverse l in
      elim (own_or_other s) [
        | inl own ↦ own_after s own (own_inside s own of) ∙ ap (λ o. not (is_le o)) back ∙ sym (own_before s own ∙ ap (λ o. not (is_lt o)) back)
        | inr not_own ↦ other s not_own
      ]

  next_inside : IsIn f.cursor.spot next
  next_inside = (refl, f.cursor.inside f.left)

  next_there : Contains (whole course cs) next
  next_there = in_walk steps (spots cs) next (rw (slice_get-map (λ (c : Cursor). c.spot) cs k, f.there) next_inside)

  pub next_left : left_of course cs ≡ next ∷ left_of course later
  unfolding left_of
  next_left =
      let tied : compare steps next next ≡ Equal = tied_itself (compare_total steps) next in
      filter_first (compare steps) (is_ahead steps cs) (is_ahead steps later) next (whole course cs) (walk_sorted steps (spots cs)) next_there
      (own_before next refl ∙ ap (λ o. not (is_lt o)) tied) (own_after next refl next_inside ∙ ap (λ o. not (is_le o)) tied) before_next after_next
      ∙ ap (λ all. next ∷ filter (is_ahead steps later) all) (sym same_whole)

-- ---- the same of walks
abbrev pub value_of : Course → List Cursor → ℕ → WalkValue
value_of course cs room = record { all = whole course cs; left = left_of course cs; room = room }

pub nothing_begun : (cs : List Cursor) (room : ℕ) → cs ≡ [] → value_of Any cs room ≡ record { all = []; left = []; room = room }
unfolding left_of walk_of
nothing_begun cs room none = ap (λ (l : List Cursor). value_of Any l room) none

pub begun_walk : (course : Course) (cs : List Cursor) (room : ℕ) (steps_ : List Step) (pieces : List Spot) (v : WalkValue) → ((ps : List Spot) → walk_of (steps_of course) ps ≡ walk_of steps_ ps) → spots cs ≡ pieces → All (IsBegun (steps_of course)) cs → room ≡ v.room
    → value_of course cs room ≡ record { all = walk_of steps_ pieces; left = walk_of steps_ pieces; room = v.room }
begun_walk course cs room steps_ pieces v same of begun held =
    let all : whole course cs ≡ walk_of steps_ pieces = same (spots cs) ∙ ap (walk_of steps_) of in
    let left : left_of course cs ≡ walk_of steps_ pieces = all_left course cs begun ∙ all in
    λ i. record { all = all i; left = left i; room = held i }

pub ended : (course : Course) (cs : List Cursor) (room : ℕ) (v : WalkValue) → v ≡ value_of course cs room → IsBest course cs (length cs) None → (None ≡ slice_get v.left 0) × (v ≡ record { all = v.all; left = drop 1 v.left; room = v.room })
ended course cs room v is none =
    let nothing : v.left ≡ [] = ap (λ (w : WalkValue). w.left) is ∙ none_left course cs none in
    let rest : v.left ≡ drop 1 v.left = nothing ∙ sym (ap (drop 1) nothing) in
    (sym (ap (λ (l : List Stop). slice_get l 0) nothing), λ i. record { all = v.all; left = rest i; room = v.room })

pub read_cursor : (course : Course) (cs : List Cursor) (k : ℕ) (f : IsFirstOf course cs (length cs) k) (c : Cursor) → c ≡ get_or cs k c → f.cursor ≡ c
read_cursor course cs k f c is = sym (is ∙ get_or_from_slice_get cs k f.cursor c f.there)

pub went_on : (course : Course) (cs : List Cursor) (room : ℕ) (k : ℕ) (f : IsFirstOf course cs (length cs) k) (c x : Cursor) (v : WalkValue) → c ≡ get_or cs k c → IsMoved (steps_of course) c x → v ≡ value_of course cs room
    → (Some (head k c) ≡ slice_get v.left 0) × (value_of course (set cs k x) room ≡ record { all = v.all; left = drop 1 v.left; room = v.room })
went_on course cs room k f c x v at moved is =
    let same = read_cursor course cs k f c at in
    let m : IsMoved (steps_of course) f.cursor x = subst (λ (d : Cursor). IsMoved (steps_of course) d x) (sym same) moved in
    let left : v.left ≡ head k c ∷ left_of course (set cs k x) = ap (λ (w : WalkValue). w.left) is ∙ next_left course cs k f x m ∙ ap (λ (d : Cursor). head k d ∷ left_of course (set cs k x)) same in
    let all : whole course (set cs k x) ≡ v.all = same_whole course cs k f x m ∙ ap (λ (w : WalkValue). w.all) (sym is) in
    let rest : left_of course (set cs k x) ≡ drop 1 v.left = sym (ap (drop 1) left) in
    let held : room ≡ v.room = ap (λ (w : WalkValue). w.room) (sym is) in
    (sym (ap (λ (l : List Stop). slice_get l 0) left), λ i. record { all = all i; left = rest i; room = held i })

-- ---- one piece more, before its first place
pub pushed : (t : Bool) (cs new : List Cursor) (x : Cursor) → new ≡ (if t then cs ++ x ∷ [] else cs) → t ≡ true → new ≡ cs ++ x ∷ []
pushed t cs new x e there = e ∙ ap (λ (b : Bool). if b then cs ++ x ∷ [] else cs) there

pub more_begun : (course : Course) (cs new : List Cursor) (x : Cursor) (pieces : List Spot) (i : ℕ) (d : Spot) → i < length pieces → x.spot ≡ get_or pieces i d → IsBegun (steps_of course) x → new ≡ cs ++ x ∷ []
    → spots cs ++ drop i pieces ≡ pieces → All (IsBegun (steps_of course)) cs → (spots new ++ drop (i + 1) pieces ≡ pieces) × All (IsBegun (steps_of course)) new
more_begun course cs new x pieces i d below is begun n rest all =
    let r : Spot = get_or pieces i d in
    let cut : drop i pieces ≡ r ∷ drop (i + 1) pieces = drop_more pieces i d below in
    let one : spots (cs ++ x ∷ []) ≡ spots cs ++ r ∷ [] = map-append (λ (c : Cursor). c.spot) cs (x ∷ []) ∙ ap (λ (p : Spot). spots cs ++ p ∷ []) is in (
      ap (λ (l : List Cursor). spots l ++ drop (i + 1) pieces) n ∙ ap (λ (l : List Spot). l ++ drop (i + 1) pieces) one ∙ append_assoc (spots cs) (r ∷ []) (drop (i + 1) pieces) ∙ ap (λ (l : List Spot). spots cs ++ l) (sym cut) ∙ rest,
      subst (All (IsBegun (steps_of course))) (sym n) (All-push (IsBegun (steps_of course)) cs x all begun),
    )
