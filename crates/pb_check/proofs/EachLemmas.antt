-- What is made of the transforms of a program, one after the other.
use Rattle.std.proofs.Common.{◌≡◌, ◌∙◌, sym, ap, ℕ, zero, suc, ◌+◌, ◌≤◌, List, [], ◌∷◌, ◌++◌, append_assoc, length, take, slice_get, Some, None, arith}
use Rattle.std.proofs.lemmas.List.{append-nil, take_all}
use Rattle.pb_program.specs.Trees.{ProgTransform}
use Rattle.pb_check.specs.Orders.{AnalysisValue, of_each}
use Rattle.pb_check.proofs.FirstLemmas.{some_same}

module _ {B : Type 0} (make : ℕ → ProgTransform → AnalysisValue → List B) where
  more_from : (n k : ℕ) (p : List ProgTransform) (found : List AnalysisValue) (x : ProgTransform) (a : AnalysisValue) → slice_get p k ≡ Some x → slice_get found k ≡ Some a → of_each make n (take (suc k) p) found ≡ of_each make n (take k p) found ++ make (n + k) x a
  more_from n k [] found x a there is = absurd (let e : None ≡ Some x = there in cc)
  more_from n k (y ∷ p) [] x a there is = absurd (let e : None ≡ Some a = is in cc)
  more_from n zero (y ∷ p) (b ∷ found) x a there is =
      let e : n ≡ n + 0 = omega arith in
      append-nil (make n y b) ∙ (λ i. make (e i) (some_same y x there i) (some_same b a is i))
  more_from n (suc k) (y ∷ p) (b ∷ found) x a there is =
      let e : (n + 1) + k ≡ n + suc k = omega arith in
      ap (λ l. make n y b ++ l) (more_from (n + 1) k p found x a there is ∙ ap (λ m. of_each make (n + 1) (take k p) found ++ make m x a) e)
      ∙ sym (append_assoc (make n y b) (of_each make (n + 1) (take k p) found) (make (n + suc k) x a))

  pub more_made : (k : ℕ) (p : List ProgTransform) (found : List AnalysisValue) (x : ProgTransform) (a : AnalysisValue) (l m : List B) → slice_get p k ≡ Some x → slice_get found k ≡ Some a → l ≡ of_each make 0 (take k p) found
      → m ≡ l ++ make k x a → m ≡ of_each make 0 (take (k + 1) p) found
  more_made k p found x a l m there is e pushed =
      let n : 0 + k ≡ k = omega arith in
      let next : suc k ≡ k + 1 = omega arith in
      pushed ∙ ap (λ z. z ++ make k x a) e ∙ ap (λ z. of_each make 0 (take k p) found ++ make z x a) (sym n) ∙ sym (more_from 0 k p found x a there is) ∙ ap (λ z. of_each make 0 (take z p) found) next

  pub all_made : (k : ℕ) (p : List ProgTransform) (found : List AnalysisValue) (l : List B) → length p ≤ k → l ≡ of_each make 0 (take k p) found → l ≡ of_each make 0 p found
  all_made k p found l end e = e ∙ ap (λ q. of_each make 0 q found) (take_all k p end)
