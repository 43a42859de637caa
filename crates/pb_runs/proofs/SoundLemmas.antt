-- Steps that are right, one after another.
use Rattle.std.proofs.Common.{◌≡◌, ◌∙◌, refl, sym, ap, subst, inl, inr, ◌⊎◌, ⊎_elim, ℕ, zero, suc, ◌<◌, List, [], ◌∷◌, ◌++◌, slice_get, Some, None, arith}
use Rattle.std.specs.List.{AllZip, Contains, range_with_len}
use Rattle.std.proofs.lemmas.List.Elements.{Contains-append_cases}
use Rattle.pb_links.specs.declared.places.Spot.{Spot}
use Rattle.pb_values.specs.Views.{HasPlace}
use Rattle.pb_program.specs.Configs.{ConfigValue}
use Rattle.pb_model.specs.Calls.{Outcomes}
use Rattle.pb_base.proofs.ListLemmas.{in_none}
use Rattle.pb_runs.specs.Right.{IsRight, ReadsNumber}
use Rattle.pb_views.specs.declared.seat.Seat.{Seat}
use Rattle.pb_runs.specs.Steps.{Step, boxes_of, cells_in, cells_of, parts_of}
use Rattle.pb_runs.specs.Unrolled.{Met, Unrolled}
use Rattle.pb_runs.proofs.BaseLemmas.{Reaches}
use Rattle.pb_runs.proofs.OriginLemmas.{AreGivenKnown, ComesFrom, IsOneByOne, given_more}
use Rattle.pb_runs.proofs.CountLemmas.{counted, counted_in, in_counted}
use Rattle.pb_runs.proofs.SeatLemmas.{HasCell}
use Rattle.pb_runs.proofs.SpotLemmas.{IsCellAt}
use Rattle.pb_runs.specs.Placed.{IsPlaced, SpotCell, total}

-- some cells, by their numbers
abbrev pub Cells : Type 1
Cells = ℕ → Type 0

abbrev pub with_cells : Cells → List ℕ → Cells
with_cells known xs c = known c ⊎ Contains xs c

pub cells_append : (xs ys : List Step) → cells_in (xs ++ ys) ≡ cells_in xs ++ cells_in ys
cells_append [] ys = refl
cells_append (s ∷ xs) ys = ap (λ l. cells_of s ++ l) (cells_append xs ys) ∙ sym (assoc (cells_of s) (cells_in xs) (cells_in ys))
  where
    assoc : (xs ys zs : List ℕ) → (xs ++ ys) ++ zs ≡ xs ++ (ys ++ zs)
    assoc [] ys zs = refl
    assoc (x ∷ xs) ys zs = ap (λ l. x ∷ l) (assoc xs ys zs)

module _ (config : ConfigValue) (ms : List Outcomes) where
  -- what a step reads is in its boxes, these are there, and the places of its parts are its cells
  pub record IsLaid (s : Step) : Type 0 where
    pub shown : (b : Spot) → Contains (boxes_of s) b → (x y : ℕ) → HasPlace b.rect x y → (c : ℕ) × IsCellAt ms b.base x y c
    pub parts : (b : Spot) → Contains (parts_of s) b → (x y : ℕ) → HasPlace b.rect x y → (c : ℕ) × IsCellAt ms b.base x y c × Contains (cells_of s) c
    pub reads : (c : ℕ) → ReadsNumber config s c → (b : Spot) × Contains (boxes_of s) b × (x : ℕ) × (y : ℕ) × HasPlace b.rect x y × IsCellAt ms b.base x y c
    pub held : (c : ℕ) → Contains (cells_of s) c → (b : Spot) × Contains (parts_of s) b × (x : ℕ) × (y : ℕ) × HasPlace b.rect x y × IsCellAt ms b.base x y c

  -- a step is right, and reads what is known or, one by one, what it makes
  pub record IsMade (known : Cells) (s : Step) : Type 0 where
    pub from : ComesFrom config ms s
    pub given : AreGivenKnown known s
    pub reads : (b : Spot) → Contains (boxes_of s) b → (c : ℕ) → SpotCell ms b c → known c ⊎ (IsOneByOne s × Contains (cells_of s) c)
    pub right : IsRight config ms s
    pub laid : IsLaid s

  -- each step, one after another
  abbrev pub Sound : Cells → List Step → Type 0
  Sound known [] = Unit {0}
  Sound known (s ∷ rest) = IsMade known s × Sound (with_cells known (cells_of s)) rest

  pub made_more : (known more : Cells) (s : Step) → ((c : ℕ) → known c → more c) → IsMade known s → IsMade more s
  made_more known more s to h = record { from = h.from; given = given_more known more s to h.given; reads = λ b in_boxes c cell. ⊎_elim (λ k. inl (to c k)) (λ own. inr own) (h.reads b in_boxes c cell); right = h.right; laid = h.laid }

  pub sound_more : (known more : Cells) (xs : List Step) → ((c : ℕ) → known c → more c) → Sound known xs → Sound more xs
  sound_more known more [] to h = tt
  sound_more known more (s ∷ xs) to h = (made_more known more s to h.0, sound_more (with_cells known (cells_of s)) (with_cells more (cells_of s)) xs (λ c. ⊎_elim (λ k. inl (to c k)) (λ own. inr own)) h.1)

  pub sound_append : (known : Cells) (xs ys : List Step) → Sound known xs → Sound (with_cells known (cells_in xs)) ys → Sound known (xs ++ ys)
  sound_append known [] ys h l = sound_more (with_cells known []) known ys (λ c. ⊎_elim (λ k. k) (λ none. absurd (in_none c none))) l
  sound_append known (s ∷ xs) ys h l = (
    h.0,
    sound_append (with_cells known (cells_of s)) xs ys h.1 (sound_more (with_cells known (cells_in (s ∷ xs))) (with_cells (with_cells known (cells_of s)) (cells_in xs)) ys
        (λ c. ⊎_elim (λ k. inl (inl k)) (λ own. ⊎_elim (λ here. inl (inr here)) (λ later. inr later) (Contains-append_cases (cells_of s) (cells_in xs) c own))) l),
  )

  -- made by a step with a smaller number
  abbrev pub MadeBefore : List Step → ℕ → Cells
  MadeBefore xs k c = (u : ℕ) × (s : Step) × (u < k) × (slice_get xs u ≡ Some s) × Contains (cells_of s) c

  pub sound_at : (known : Cells) (xs : List Step) (k : ℕ) (s : Step) → Sound known xs → slice_get xs k ≡ Some s → IsMade (λ c. known c ⊎ MadeBefore xs k c) s
  sound_at known [] k s h e = absurd (let wrong : None ≡ Some s = e in cc)
  sound_at known (r ∷ xs) zero s h e =
      let some : Some r ≡ Some s = e in
      let same : r ≡ s = cc in
      made_more known (λ c. known c ⊎ MadeBefore (r ∷ xs) 0 c) s (λ c k. inl k) (subst (λ (q : Step). IsMade known q) same h.0)
  sound_at known (r ∷ xs) (suc k) s h e =
      made_more (λ c. with_cells known (cells_of r) c ⊎ MadeBefore xs k c) (λ c. known c ⊎ MadeBefore (r ∷ xs) (suc k) c) s
      (λ c. ⊎_elim
      (⊎_elim (λ k. inl k) (λ own. inr (0, r, omega arith, refl, own)))
      (λ m. inr (suc m.0, m.1, omega (arith, m.2), m.3, m.4)))
      (sound_at (with_cells known (cells_of r)) xs k s h.1 e)

  -- ---- a call that is unrolled
  -- its steps are right over what is known, and make just the cells of these matrices, which stand after what is met; and its own
  -- matrices are placed among them
  pub record IsDeep (known : Cells) (n : Met) (u : Unrolled) (all own : List Outcomes) : Type 0 where
    pub placed : AllZip (IsPlaced ms) u.seats own
    pub within : (s : Seat) → Contains u.seats s → (c : ℕ) → HasCell s c → Contains (range_with_len n.cells (total all)) c
    pub sound : Sound known u.steps
    pub counts : (c : ℕ) → counted c (cells_in u.steps) ≡ counted c (range_with_len n.cells (total all))
    pub reaches : Reaches ms n all u.next

  -- the cells of its matrices are made
  pub deep_made : (known : Cells) (n : Met) (u : Unrolled) (all own : List Outcomes) → IsDeep known n u all own → (s : Seat) → Contains u.seats s → (c : ℕ) → HasCell s c → Contains (cells_in u.steps) c
  deep_made known n u all own h s there c has =
      let counts = h.counts c in
      let some = in_counted c (range_with_len n.cells (total all)) (h.within s there c has) in
      counted_in c (cells_in u.steps) (omega (arith, counts, some))
