-- Matrices one after the other.
use Rattle.std.proofs.Common.{◌≡◌, ◌∙◌, refl, sym, ap, subst, ℕ, zero, suc, ◌+◌, ◌≤◌, ◌<◌, List, [], ◌∷◌, ◌++◌, length, take, take_all, get_or, arith}
use Rattle.std.proofs.Math.Seq.{take-suc}
use Rattle.pb_values.specs.declared.view.View.{View}
use Rattle.pb_program.specs.Forms.{DeclValue}
use Rattle.pb_views.specs.Layouts.{AreInARow, IsWhole, area_at, cell_count}

module _ (sizes : List ℕ) where
  count_more : (ds : List DeclValue) (d : DeclValue) → cell_count sizes (ds ++ d ∷ []) ≡ cell_count sizes ds + area_at sizes d
  count_more [] d = omega arith
  count_more (e ∷ ds) d = omega (arith, count_more ds d)

  count_append : (ds es : List DeclValue) → cell_count sizes (ds ++ es) ≡ cell_count sizes ds + cell_count sizes es
  count_append [] es = omega arith
  count_append (d ∷ ds) es = omega (arith, count_append ds es)

  laid_append : (first : ℕ) (ds : List DeclValue) (vs : List View) (d : DeclValue) (v : View) → AreInARow first sizes ds vs → IsWhole (first + cell_count sizes ds) sizes d v → AreInARow first sizes (ds ++ d ∷ []) (vs ++ v ∷ [])
  laid_append first [] vs d v h w = subst (λ l. AreInARow first sizes (d ∷ []) (l ++ v ∷ [])) (sym h) (subst (λ n. IsWhole n sizes d v) (omega arith) w, refl)
  laid_append first (e ∷ ds) [] d v h w = absurd h
  laid_append first (e ∷ ds) (u ∷ vs) d v h w = (h.0, laid_append (first + area_at sizes e) ds vs d v h.1 (subst (λ n. IsWhole n sizes d v) (omega arith) w))

  -- ---- the next of some matrices
  module _ (first : ℕ) (ds : List DeclValue) (k : ℕ) (d : DeclValue) (below : k < length ds) (is : d ≡ get_or ds k d) where
    next_taken : take (k + 1) ds ≡ take k ds ++ d ∷ []
    next_taken = let one : k + 1 ≡ suc k = omega arith in ap (λ n. take n ds) one ∙ take-suc ds k d below ∙ ap (λ e. take k ds ++ e ∷ []) (sym is)

    pub count_next : cell_count sizes (take (k + 1) ds) ≡ cell_count sizes (take k ds) + area_at sizes d
    count_next = ap (cell_count sizes) next_taken ∙ count_more (take k ds) d

    pub count_within : (j : ℕ) → cell_count sizes (take j ds) ≤ cell_count sizes ds
    count_within j = within j ds
      where
        within : (j : ℕ) (es : List DeclValue) → cell_count sizes (take j es) ≤ cell_count sizes es
        within zero es = omega arith
        within (suc j) [] = omega arith
        within (suc j) (e ∷ es) = omega (arith, within j es)

    pub laid_next : (vs us : List View) (v : View) (next : ℕ) → next ≡ first + cell_count sizes (take k ds) → AreInARow first sizes (take k ds) vs → us ≡ vs ++ v ∷ [] → IsWhole next sizes d v → AreInARow first sizes (take (k + 1) ds) us
    laid_next vs us v next at h more w =
        subst (λ l. AreInARow first sizes (take (k + 1) ds) l) (sym more) (subst (λ l. AreInARow first sizes l (vs ++ v ∷ [])) (sym next_taken) (laid_append first (take k ds) vs d v h (subst (λ n. IsWhole n sizes d v) at w)))

  pub laid_all : (first : ℕ) (ds : List DeclValue) (vs : List View) (k : ℕ) → length ds ≤ k → AreInARow first sizes (take k ds) vs → AreInARow first sizes ds vs
  laid_all first ds vs k end h = subst (λ l. AreInARow first sizes l vs) (take_all k ds end) h
