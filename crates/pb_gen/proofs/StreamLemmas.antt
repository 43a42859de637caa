-- The words of a generator, cut in two: those after the first k are the words of the generator after k steps.
use Rattle.std.proofs.Common.{◌≡◌, ℕ, zero, suc, ◌+◌, ◌-◌, ◌*◌, ◌<◌, ◌≤◌, List, [], ◌∷◌, ◌++◌, length, map, drop, All, unsigned_abs, ℤ, refl, sym, ap, ◌∙◌, zero-add, suc-add, append_assoc, append-nil, w64, to_z, of_z, arith}
use Rattle.std.proofs.lemmas.List.{map-append, length-map}
use Rattle.std.proofs.lemmas.List.Elements.{All-map}
use Rattle.std.proofs.lemmas.Int.{ints}
use Rattle.std.proofs.Math.Seq.{drop-append_seam}
use Rattle.rand_core.specs.Steps.{first_words}
use Rattle.rand_pcg.specs.Lcg.{Lcg, next, advance, state_after}
use Rattle.rand_pcg.specs.Pcg.{multiplier_64, pcg32}
use Rattle.pb_gen.specs.Stream.{cell_of, drawn, generator_of, cells_of, cells_after}

length-words : (n : ℕ) (g : Lcg) → length (first_words pcg32 n g) ≡ n
unfolding first_words
length-words zero g = refl
length-words (suc n) g = ap suc (length-words n (next 64 multiplier_64 g))

words_split : (k n : ℕ) (g : Lcg) → first_words pcg32 (k + n) g ≡ first_words pcg32 k g ++ first_words pcg32 n (advance 64 multiplier_64 k g)
unfolding first_words state_after
words_split zero n g = rw zero-add refl
words_split (suc k) n g = rw suc-add (ap (λ (ws : List ℕ). (pcg32 g).0 ∷ ws) (words_split k n (next 64 multiplier_64 g)))

pub length-drawn : (n : ℕ) (g : Lcg) → length (drawn n g) ≡ n
length-drawn n g = length-map _ cell_of ∙ length-words n g

pub drawn_split : (k n : ℕ) (g : Lcg) → drawn (k + n) g ≡ drawn k g ++ drawn n (advance 64 multiplier_64 k g)
drawn_split k n g = ap (map cell_of) (words_split k n g) ∙ map-append cell_of _ _

-- what is drawn after k steps stands after the first k cells
pub drawn_after : (k n : ℕ) (g : Lcg) → drawn n (advance 64 multiplier_64 k g) ≡ drop k (drawn (k + n) g)
drawn_after k n g =
    let seam = drop-append_seam (drawn k g) (drawn n (advance 64 multiplier_64 k g)) in
    sym (ap (drop k) (drawn_split k n g) ∙ (rw (length-drawn k g) at seam))

pub cells_split : (seed k n : ℕ) → cells_of seed (k + n) ≡ cells_of seed k ++ cells_after seed k n
cells_split seed k n = drawn_split k n (generator_of seed) ∙ ap (λ cs. cells_of seed k ++ cs) (drawn_after k n (generator_of seed))

-- the first k cells, the next k, and n after both
pub three_pieces : (seed k n : ℕ) → cells_after seed 0 k ++ (cells_after seed k k ++ (cells_after seed (2 * k) n ++ [])) ≡ cells_of seed (2 * k + n)
three_pieces seed k n =
    let twice : 2 * k ≡ k + k = omega arith in
    rw (zero-add k, append-nil (cells_after seed (2 * k) n), ← append_assoc (cells_of seed k) (cells_after seed k k) (cells_after seed (2 * k) n), ← cells_split seed k k, ← twice) (sym (cells_split seed (2 * k) n))

-- no step is taken
pub not_advanced : (g : Lcg) → g ≡ advance 64 multiplier_64 0 g
unfolding state_after
not_advanced g = refl

-- one more word is drawn
drawn_more : (d : ℕ) (g h : Lcg) (cells : List ℤ) (word : ℕ) → (word, h) ≡ pcg32 g → (cells ++ (cell_of word ∷ [])) ++ drawn d h ≡ cells ++ drawn (suc d) g
unfolding first_words
drawn_more d g h cells word e =
    append_assoc cells _ _ ∙ ap (λ (p : ℕ × Lcg). cells ++ (cell_of p.0 ∷ drawn d p.1)) e

advance_more : (d : ℕ) (g h : Lcg) (word : ℕ) → (word, h) ≡ pcg32 g → advance 64 multiplier_64 d h ≡ advance 64 multiplier_64 (suc d) g
unfolding state_after
advance_more d g h word e = ap (λ (p : ℕ × Lcg). advance 64 multiplier_64 d p.1) e

small_cell : (word : ℕ) → unsigned_abs (cell_of word) ≤ 9
small_cell word = omega (arith, ints)

pub small_drawn : (n : ℕ) (g : Lcg) → All (λ z. unsigned_abs z ≤ 9) (drawn n g)
small_drawn n g = All-map (λ z. unsigned_abs z ≤ 9) cell_of (first_words pcg32 n g) (λ k d within. small_cell _)

stored : (z : ℤ) → unsigned_abs z ≤ 9 → to_z w64 (of_z w64 z) ≡ z
stored z small = omega (arith, ints)

-- ---- the loop that draws n words, after i of them
module _ (n i : ℕ) (g h : Lcg) (word : ℕ) (within : i < n) (step : (word, h) ≡ pcg32 g) where
  left : n - i ≡ suc (n - (i + 1))
  left = omega arith

  pub cells_on : (cells more all : List ℤ) (z : ℤ) → z ≡ cell_of word → more ≡ cells ++ (to_z w64 (of_z w64 z) ∷ []) → cells ++ drawn (n - i) g ≡ all → more ++ drawn (n - (i + 1)) h ≡ all
  cells_on cells more all z is put before =
      rw (put, is, stored (cell_of word) (small_cell word)) (drawn_more (n - (i + 1)) g h cells word step ∙ (rw left at before))

  pub generator_on : (last : Lcg) → advance 64 multiplier_64 (n - i) g ≡ last → advance 64 multiplier_64 (n - (i + 1)) h ≡ last
  generator_on last before = advance_more (n - (i + 1)) g h word step ∙ (rw left at before)

module _ (n i : ℕ) (g : Lcg) (over : n ≤ i) where
  none : n - i ≡ 0
  none = omega arith

  pub cells_end : (cells all : List ℤ) → cells ++ drawn (n - i) g ≡ all → cells ≡ all
  unfolding first_words
  cells_end cells all before = sym (append-nil cells) ∙ (rw none at before)

  pub generator_end : (last : Lcg) → advance 64 multiplier_64 (n - i) g ≡ last → g ≡ last
  unfolding state_after
  generator_end last before = rw none at before
