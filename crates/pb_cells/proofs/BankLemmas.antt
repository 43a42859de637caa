-- The words of a table by what they are, where one is set.
use Rattle.std.proofs.Common.{◌≡◌, ◌∙◌, refl, sym, ap, subst, inl, inr, ◌⊎◌, ⊎_elim, ℕ, ◌+◌, ◌<◌, ◌≤◌, List, length, get_or, set, zero-add, arith}
use Rattle.std.proofs.Math.Path.{fun_ext}
use Rattle.std.proofs.lemmas.Bool.{cases_eq, cases_lt}
use Rattle.std.proofs.lemmas.Bool.Decides.{nat_tests}
use Rattle.std.proofs.lemmas.List.{get_or-set_other, get_or-set_same}
use Rattle.pb_taskgraph.specs.Graphs.{GraphValue}
use Rattle.pb_core.specs.States.{with}
use Rattle.pb_core.proofs.WithLemmas.{with-other, with-same}
use Rattle.pb_cells.specs.Banks.{Bank, bank_of, count_at, filed_at, finish_at, mark_at, number_at, stretch, value_at, width}

module _ (first size : ℕ) (words : List ℕ) where
  inside : (k : ℕ) → k < size → stretch first size words k ≡ get_or words (first + k) 0
  unfolding stretch
  inside k below = grind (arith, nat_tests)

  past : (k : ℕ) → size ≤ k → stretch first size words k ≡ 0
  unfolding stretch
  past k above = grind (arith, nat_tests)

module _ (first size : ℕ) (words : List ℕ) (n : ℕ) where
  hit : (k : ℕ) → k < size → first + k < length words → stretch first size (set words (first + k) n) ≡ with (stretch first size words) k n
  hit k below there = fun_ext (λ d. ⊎_elim
      (λ (same : d ≡ k). subst (λ e. stretch first size (set words (first + k) n) e ≡ with (stretch first size words) k n e) (sym same)
      (inside first size (set words (first + k) n) k below ∙ (get_or-set_same words (first + k) n 0 there ∙ sym (with-same (stretch first size words) k n k refl))))
      (λ (other : d ≡ k → ⊥). ⊎_elim
      (λ (low : d < size). inside first size (set words (first + k) n) d low ∙ (get_or-set_other words (first + k) (first + d) n 0 (λ e. other (omega arith)) ∙ (sym (inside first size words d low) ∙ sym (with-other (stretch first size words) k n d other))))
      (λ (high : size ≤ d). past first size (set words (first + k) n) d high ∙ (sym (past first size words d high) ∙ sym (with-other (stretch first size words) k n d other)))
      (cases_lt d size))
      (cases_eq d k))

  miss : (i : ℕ) → ((d : ℕ) → d < size → i ≡ first + d → ⊥) → stretch first size (set words i n) ≡ stretch first size words
  miss i apart = fun_ext (λ d. ⊎_elim
      (λ (low : d < size). inside first size (set words i n) d low ∙ (get_or-set_other words i (first + d) n 0 (λ e. apart d low (omega arith)) ∙ sym (inside first size words d low)))
      (λ (high : size ≤ d). past first size (set words i n) d high ∙ sym (past first size words d high))
      (cases_lt d size))

abbrev bank : (ℕ → ℕ) → (ℕ → ℕ) → (ℕ → ℕ) → (ℕ → ℕ) → ℕ → ℕ → Bank
bank value mark count number finish filed = record { value = value; mark = mark; count = count; number = number; finish = finish; filed = filed }

module _ (g : GraphValue) (words : List ℕ) (wide : length words ≡ width g) where
  abbrev counts_from : ℕ
  counts_from = g.cells + g.cells

  abbrev numbers_from : ℕ
  numbers_from = g.cells + g.cells + length g.tasks

  pub get-value : (c : ℕ) → c < g.cells → get_or words (value_at g c) 0 ≡ (bank_of g words).value c
  unfolding bank_of
  get-value c below = ap (λ i. get_or words i 0) (omega arith) ∙ sym (inside 0 g.cells words c below)

  pub get-mark : (c : ℕ) → c < g.cells → get_or words (mark_at g c) 0 ≡ (bank_of g words).mark c
  unfolding bank_of
  get-mark c below = sym (inside g.cells g.cells words c below)

  pub get-count : (t : ℕ) → t < length g.tasks → get_or words (count_at g t) 0 ≡ (bank_of g words).count t
  unfolding bank_of
  get-count t below = sym (inside counts_from (length g.tasks) words t below)

  pub get-number : (t : ℕ) → t < length g.tasks → get_or words (number_at g t) 0 ≡ (bank_of g words).number t
  unfolding bank_of
  get-number t below = sym (inside numbers_from (length g.tasks) words t below)

  pub get-finish : get_or words (finish_at g) 0 ≡ (bank_of g words).finish
  unfolding bank_of
  get-finish = refl

  pub get-filed : get_or words (filed_at g) 0 ≡ (bank_of g words).filed
  unfolding bank_of
  get-filed = refl

  -- the bank with other words of one kind, where the others stay
  module _ (i n : ℕ) where
    abbrev new : List ℕ
    new = set words i n

    same-values : g.cells ≤ i → stretch 0 g.cells new ≡ stretch 0 g.cells words
    same-values past = miss 0 g.cells words n i (λ d low e. omega arith)

    same-marks : (i < g.cells) ⊎ (counts_from ≤ i) → stretch g.cells g.cells new ≡ stretch g.cells g.cells words
    same-marks out = miss g.cells g.cells words n i (λ d low e. ⊎_elim (λ (l : i < g.cells). omega arith) (λ (h : counts_from ≤ i). omega arith) out)

    same-counts : (i < counts_from) ⊎ (numbers_from ≤ i) → stretch counts_from (length g.tasks) new ≡ stretch counts_from (length g.tasks) words
    same-counts out = miss counts_from (length g.tasks) words n i (λ d low e. ⊎_elim (λ (l : i < counts_from). omega arith) (λ (h : numbers_from ≤ i). omega arith) out)

    same-numbers : (i < numbers_from) ⊎ (finish_at g ≤ i) → stretch numbers_from (length g.tasks) new ≡ stretch numbers_from (length g.tasks) words
    same-numbers out = miss numbers_from (length g.tasks) words n i (λ d low e. ⊎_elim (λ (l : i < numbers_from). omega arith) (λ (h : finish_at g ≤ i). omega arith) out)

    same-word : (j : ℕ) → (j ≡ i → ⊥) → get_or new j 0 ≡ get_or words j 0
    same-word j other = get_or-set_other words i j n 0 (λ e. other e)

  pub set-value : (c n : ℕ) → c < g.cells → bank_of g (set words (value_at g c) n) ≡ record (bank_of g words) { value = with (bank_of g words).value c n }
  unfolding bank_of
  set-value c n below =
      let v : stretch 0 g.cells (set words c n) ≡ with (stretch 0 g.cells words) c n = ap (λ j. stretch 0 g.cells (set words j n)) (sym (zero-add c)) ∙ hit 0 g.cells words n c below (omega arith) in
      λ i. bank (v i) (same-marks c n (inl below) i) (same-counts c n (inl (omega arith)) i) (same-numbers c n (inl (omega arith)) i)
      (same-word c n (finish_at g) (λ e. omega arith) i) (same-word c n (filed_at g) (λ e. omega arith) i)

  pub set-mark : (c n : ℕ) → c < g.cells → bank_of g (set words (mark_at g c) n) ≡ record (bank_of g words) { mark = with (bank_of g words).mark c n }
  unfolding bank_of
  set-mark c n below =
      let at = g.cells + c in
      λ i. bank (same-values at n (omega arith) i) (hit g.cells g.cells words n c below (omega arith) i) (same-counts at n (inl (omega arith)) i) (same-numbers at n (inl (omega arith)) i)
      (same-word at n (finish_at g) (λ e. omega arith) i) (same-word at n (filed_at g) (λ e. omega arith) i)

  pub set-count : (t n : ℕ) → t < length g.tasks → bank_of g (set words (count_at g t) n) ≡ record (bank_of g words) { count = with (bank_of g words).count t n }
  unfolding bank_of
  set-count t n below =
      let at = counts_from + t in
      λ i. bank (same-values at n (omega arith) i) (same-marks at n (inr (omega arith)) i) (hit counts_from (length g.tasks) words n t below (omega arith) i) (same-numbers at n (inl (omega arith)) i)
      (same-word at n (finish_at g) (λ e. omega arith) i) (same-word at n (filed_at g) (λ e. omega arith) i)

  pub set-number : (t n : ℕ) → t < length g.tasks → bank_of g (set words (number_at g t) n) ≡ record (bank_of g words) { number = with (bank_of g words).number t n }
  unfolding bank_of
  set-number t n below =
      let at = numbers_from + t in
      λ i. bank (same-values at n (omega arith) i) (same-marks at n (inr (omega arith)) i) (same-counts at n (inr (omega arith)) i) (hit numbers_from (length g.tasks) words n t below (omega arith) i)
      (same-word at n (finish_at g) (λ e. omega arith) i) (same-word at n (filed_at g) (λ e. omega arith) i)

  pub set-finish : (n : ℕ) → bank_of g (set words (finish_at g) n) ≡ record (bank_of g words) { finish = n }
  unfolding bank_of
  set-finish n =
      let at = finish_at g in
      λ i. bank (same-values at n (omega arith) i) (same-marks at n (inr (omega arith)) i) (same-counts at n (inr (omega arith)) i) (same-numbers at n (inr (omega arith)) i)
      (get_or-set_same words at n 0 (omega arith) i) (same-word at n (filed_at g) (λ e. omega arith) i)

  pub set-filed : (n : ℕ) → bank_of g (set words (filed_at g) n) ≡ record (bank_of g words) { filed = n }
  unfolding bank_of
  set-filed n =
      let at = filed_at g in
      λ i. bank (same-values at n (omega arith) i) (same-marks at n (inr (omega arith)) i) (same-counts at n (inr (omega arith)) i) (same-numbers at n (inr (omega arith)) i)
      (same-word at n (finish_at g) (λ e. omega arith) i) (get_or-set_same words at n 0 (omega arith) i)
