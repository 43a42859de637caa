-- The windows of views, one more.
use Rattle.std.proofs.Common.{◌≡◌, refl, sym, ap, subst, ℕ, ◌+◌, ◌<◌, List, [], ◌∷◌, ◌++◌, length, map, take, get_or}
use Rattle.pb_program.specs.declared.view.Read.{Read}
use Rattle.pb_views.specs.Windows.{IsWindow}
use Rattle.pb_views.specs.declared.window.Window.{Window}
use Rattle.pb_jobs.specs.Shown.{AreWindows}
use Rattle.pb_jobs.proofs.ListLemmas.{zip_next}

map_same : {A : Type 0} (xs : List A) → map (λ x. x) xs ≡ xs
map_same [] = refl
map_same (x ∷ xs) = ap (λ l. x ∷ l) (map_same xs)

pub next_window : (sizes : List ℕ) (views : List Read) (i : ℕ) (view : Read) (old : List Window) (w : Window) (new : List Window) → i < length views → view ≡ get_or views i view → IsWindow view sizes w → AreWindows sizes (take i views) old → new ≡ old ++ w ∷ [] → AreWindows sizes (take (i + 1) views) new
next_window sizes views i view old w new below is window h e =
    subst (λ l. AreWindows sizes l new) (map_same (take (i + 1) views))
    (zip_next (λ x. x) (λ r v. IsWindow r sizes v) views i view old w new below is window (subst (λ l. AreWindows sizes l old) (sym (map_same (take i views))) h) e)
