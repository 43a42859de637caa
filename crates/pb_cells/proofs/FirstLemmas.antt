-- The words of a table before any step, and what is dealt.
use Rattle.std.proofs.Common.{◌≡◌, ◌∙◌, refl, sym, ap, subst, ℕ, ℤ, zero, suc, ◌+◌, ◌<◌, ◌==◌, eqb, not, Some, Bool, true, false, List, [], ◌∷◌, ◌++◌, length, get_or, replicate, set, zero-add, arith}
use Rattle.std.specs.Prelude.{filter, IsTrue}
use Rattle.std.proofs.lemmas.Bool.{eqb-false, eqb-true}
use Rattle.pb_values.specs.Cells.{is_number}
use Rattle.pb_values.specs.declared.outcome.Outcome.TheVariants.{Value}
use Rattle.std.specs.List.{range_with_len}
use Rattle.std.proofs.Math.Bool.{cond}
use Rattle.std.proofs.Math.ListN.{length-set}
use Rattle.std.proofs.lemmas.List.{append-nil, length-replicate}
use Rattle.std.proofs.lemmas.List.Elements.{filter-append}
use Rattle.pb_taskgraph.specs.Graphs.{TaskValue, before_of}
use Rattle.pb_taskgraph.specs.Plans.{IsPlan, Plan, outcome_at}
use Rattle.pb_taskgraph.proofs.GraphLemmas.{before-at}
use Rattle.pb_core.specs.States.{with}
use Rattle.pb_core.proofs.WithLemmas.{with-each}
use Rattle.pb_cells.specs.Banks.{Bank, bank_of, count_at, filed_at, finish_at, mark_at, width}
use Rattle.pb_cells.specs.Handles.{ArePlain}
use Rattle.pb_cells.specs.Openings.{AreCells, AreCounts, AreTold}
use Rattle.pb_cells.specs.Views.{ready_tasks}
use Rattle.pb_cells.specs.Words.{mark_of, word_of}
use Rattle.pb_cells.proofs.BankLemmas.{get-filed, get-finish, get-mark, set-count, set-mark, set-value}
use Rattle.pb_cells.proofs.SeatLemmas.{with-both}

-- one more cell has a number
pub plain-more : (p : Plan) (k : ℕ) (n : ℤ) → ArePlain p k → outcome_at p.solution k ≡ Value n → ArePlain p (k + 1)
plain-more p k n old is c below = at (eqb c k) refl
  where
    at : (b : Bool) → eqb c k ≡ b → IsTrue (is_number (Some (outcome_at p.solution c)))
    at true e = let here : outcome_at p.solution c ≡ Value n = ap (outcome_at p.solution) (eqb-true c k e) ∙ is in ap (λ o. is_number (Some o)) here
    at false e = let other : c ≡ k → ⊥ = eqb-false c k e in old c (omega arith)

-- a task that doesn't wait has no predecessors
pub none-before : (b : Bool) (xs : List ℕ) (n : ℕ) → n ≡ length xs → b ≡ (n == 0) → not b ≡ false → xs ≡ []
none-before b [] n size is h = refl
none-before true (x ∷ xs) n size is h = let none = eqb-true n 0 (sym is) in absurd (omega (arith, none, size))
none-before false (x ∷ xs) n size is h = absurd (let wrong : true ≡ false = h in cc)

last-range : (a n j : ℕ) → a + n ≡ j → range_with_len a (suc n) ≡ range_with_len a n ++ j ∷ []
last-range a zero j e = let same : a ≡ j = omega arith in ap (λ k. k ∷ []) same
last-range a (suc n) j e = ap (λ l. a ∷ l) (last-range (a + 1) n j (omega arith))

filter-range : (test : ℕ → Bool) (a n j : ℕ) → a + n ≡ j → filter test (range_with_len a (n + 1)) ≡ filter test (range_with_len a n) ++ cond (test j) (j ∷ []) []
filter-range test a n j e = let more : n + 1 ≡ suc n = omega arith in ap (λ m. filter test (range_with_len a m)) more ∙ (ap (filter test) (last-range a n j e) ∙ filter-append test (range_with_len a n) (j ∷ []))

zeros : (n i : ℕ) → ◌≡◌ {A = ℕ} (get_or (replicate n 0) i 0) 0
zeros zero i = refl
zeros (suc n) zero = refl
zeros (suc n) (suc i) = zeros n i

module _ (p : Plan) where
  pub told-none : (words : List ℕ) (n : ℕ) → words ≡ replicate n 0 → n ≡ width p.graph → AreTold p 0 words
  told-none words n is wide =
      let long : length words ≡ width p.graph = ap (λ (l : List ℕ). length l) is ∙ (length-replicate n 0 ∙ wide) in
      record {
        width = long;
        cells = record {
          told = λ c below. absurd (omega arith);
          blank = λ c first below. sym (get-mark p.graph words long c below) ∙ (ap (λ l. get_or l (mark_at p.graph c) 0) is ∙ zeros n (mark_at p.graph c));
        };
        finish = sym (get-finish p.graph words long) ∙ (ap (λ l. get_or l (finish_at p.graph) 0) is ∙ zeros n (finish_at p.graph));
        filed = sym (get-filed p.graph words long) ∙ (ap (λ l. get_or l (filed_at p.graph) 0) is ∙ zeros n (filed_at p.graph));
      }

  module _ (is : IsPlan p) (words : List ℕ) (first : ℕ) (told : AreTold p first words) where
    abbrev b : Bank
    b = bank_of p.graph words

    -- one input cell more
    pub told-more : (cells word mark : ℕ) → first < p.graph.inputs → cells ≡ p.graph.cells → word ≡ word_of (outcome_at p.solution first) → mark ≡ mark_of (outcome_at p.solution first)
        → AreTold p (first + 1) (set (set words first word) (cells + first) mark)
    told-more cells word mark input all is_word is_mark = subst (λ i. AreTold p (first + 1) (set (set words first word) i mark)) (omega (arith, all)) record {
      width = length-set (set words first word) (mark_at p.graph first) mark ∙ long;
      cells = subst (AreCells p (first + 1)) (sym bank) record {
        told = λ c below. with-both b.mark b.value first mark word c (λ m w. (m ≡ mark_of (outcome_at p.solution c)) × (w ≡ word_of (outcome_at p.solution c)))
            (λ same. (is_mark ∙ ap (λ d. mark_of (outcome_at p.solution d)) (sym same), is_word ∙ ap (λ d. word_of (outcome_at p.solution d)) (sym same)))
            (λ other. told.cells.told c (omega arith));
        blank = λ c above below. with-each b.mark first mark c (λ m. m ≡ 0) (λ same. absurd (omega arith)) (λ other. told.cells.blank c (omega arith) below);
      };
      finish = ap (λ (d : Bank). d.finish) bank ∙ told.finish;
      filed = ap (λ (d : Bank). d.filed) bank ∙ told.filed;
    }
      where
        inside : first < p.graph.cells
        inside = let few = is.graph.partition.inputs in omega arith

        long : length (set words first word) ≡ width p.graph
        long = length-set words first word ∙ told.width

        bank : bank_of p.graph (set (set words first word) (mark_at p.graph first) mark) ≡ record b { value = with b.value first word; mark = with b.mark first mark }
        bank = set-mark p.graph (set words first word) long first mark inside ∙ (λ i. record (set-value p.graph words told.width first word inside i) { mark = with (set-value p.graph words told.width first word inside i).mark first mark })

    -- one count more
    module _ (cells t n : ℕ) (below : t < length p.graph.tasks) (all : cells ≡ p.graph.cells) (count : n ≡ length (before_of p.graph t)) where
      place : cells + cells + t ≡ count_at p.graph t
      place = omega (arith, all)

      bank : bank_of p.graph (set words (cells + cells + t) n) ≡ record b { count = with b.count t n }
      bank = ap (λ i. bank_of p.graph (set words i n)) place ∙ set-count p.graph words told.width t n below

      pub told-count : AreTold p first (set words (cells + cells + t) n)
      told-count = record {
        width = length-set words (cells + cells + t) n ∙ told.width;
        cells = subst (AreCells p first) (sym bank) record { told = told.cells.told; blank = told.cells.blank };
        finish = ap (λ (d : Bank). d.finish) bank ∙ told.finish;
        filed = ap (λ (d : Bank). d.filed) bank ∙ told.filed;
      }

      pub count-more : AreCounts p t b.count → AreCounts p (t + 1) (bank_of p.graph (set words (cells + cells + t) n)).count
      count-more counts = subst (λ (d : Bank). AreCounts p (t + 1) d.count) (sym bank) (λ u less. with-each b.count t n u (λ m. m ≡ length (before_of p.graph u))
          (λ same. count ∙ ap (λ v. length (before_of p.graph v)) (sym same))
          (λ other. counts u (omega arith)))

-- ---- the tasks without predecessors
module _ (p : Plan) (k : ℕ) (xs : List ℕ) (task : TaskValue) (below : k < length p.graph.tasks) (is : task ≡ get_or p.graph.tasks k task) where
  abbrev is_ready : ℕ → Bool
  is_ready t = eqb (length (before_of p.graph t)) 0

  count-is : length (before_of p.graph k) ≡ length task.before
  count-is = ap (λ (l : List ℕ). length l) (before-at p.graph k task below is)

  pub ready-more : (n : ℕ) (empty : Bool) (now : List ℕ) → n ≡ length task.before → empty ≡ eqb n 0 → empty ≡ true → xs ≡ filter is_ready (range_with_len 0 k) → now ≡ xs ++ k ∷ [] → now ≡ filter is_ready (range_with_len 0 (k + 1))
  ready-more n empty now size tests yes_ was pushed =
      let this : is_ready k ≡ true = ap (λ m. eqb m 0) (count-is ∙ sym size) ∙ (sym tests ∙ yes_) in
      pushed ∙ (ap (λ l. l ++ k ∷ []) was ∙ (ap (λ b. filter is_ready (range_with_len 0 k) ++ cond b (k ∷ []) []) (sym this) ∙ sym (filter-range is_ready 0 k k (zero-add k))))

  pub ready-same : (n : ℕ) (empty : Bool) → n ≡ length task.before → empty ≡ eqb n 0 → empty ≡ false → xs ≡ filter is_ready (range_with_len 0 k) → xs ≡ filter is_ready (range_with_len 0 (k + 1))
  ready-same n empty size tests no_ was =
      let this : is_ready k ≡ false = ap (λ m. eqb m 0) (count-is ∙ sym size) ∙ (sym tests ∙ no_) in
      was ∙ (sym (append-nil (filter is_ready (range_with_len 0 k))) ∙ (ap (λ b. filter is_ready (range_with_len 0 k) ++ cond b (k ∷ []) []) (sym this) ∙ sym (filter-range is_ready 0 k k (zero-add k))))

pub ready-all : (p : Plan) (n : ℕ) (xs : List ℕ) → n ≡ length p.graph.tasks → xs ≡ filter (λ t. eqb (length (before_of p.graph t)) 0) (range_with_len 0 n) → xs ≡ ready_tasks p
unfolding ready_tasks
ready-all p n xs e was = was ∙ ap (λ m. filter (λ t. eqb (length (before_of p.graph t)) 0) (range_with_len 0 m)) e
