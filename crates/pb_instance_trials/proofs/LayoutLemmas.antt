-- Two matrices that are laid.
use Rattle.std.proofs.Common.{◌≡◌, ap, subst, sym, ℕ, ◌≤◌, List, [], ◌∷◌, arith}
use Rattle.std.specs.List.{All}
use Rattle.std.proofs.lemmas.List.Elements.{All-cons, All-nil}
use Rattle.pb_program.specs.Forms.{DeclValue}
use Rattle.pb_views.specs.Layouts.{HasShortSides, area_at, cell_count}

pub short_pair : (sizes : List ℕ) (ds : List DeclValue) (d e : DeclValue) → ds ≡ d ∷ e ∷ [] → HasShortSides sizes d → HasShortSides sizes e → All (HasShortSides sizes) ds
short_pair sizes ds d e is a b = subst (λ (l : List DeclValue). All (HasShortSides sizes) l) (sym is) (All-cons (HasShortSides sizes) d (e ∷ []) a (All-cons (HasShortSides sizes) e [] b (All-nil (HasShortSides sizes))))

pub few_pair : (sizes : List ℕ) (ds : List DeclValue) (d e : DeclValue) → ds ≡ d ∷ e ∷ [] → area_at sizes d ≤ 1000000 → area_at sizes e ≤ 1000000 → cell_count sizes ds ≤ 2000000
few_pair sizes ds d e is a b = omega (arith, ap (cell_count sizes) is, a, b)
