-- Where traps stand.
use Rattle.std.proofs.Common.{◌≡◌, ◌≢◌, refl, ℕ, zero, suc, ◌<◌, List, [], ◌∷◌, length, Some, None, Option, pos, arith}
use Rattle.std.specs.Prelude.{slice_get}
use Rattle.std.specs.List.{All}
use Rattle.std.specs.Option.{option_map_or}
use Rattle.pb_program.specs.declared.rule.RuleKind.{RuleKind}
use Rattle.pb_program.specs.declared.rule.RuleKind.TheVariants as kind
use Rattle.pb_program.specs.declared.view.Read.{Read}
use Rattle.pb_program.specs.Areas.{area_of, from_start}
use Rattle.pb_program.specs.Forms.{DeclValue}
use Rattle.pb_program.specs.WellFormed.{KindFits}
use Rattle.pb_model.specs.Cells.{Cell, natural}
use Rattle.pb_model.specs.Equations.{trap_place}
use Rattle.pb_statements.specs.Outputs.{low_by}
use Rattle.pb_eval.proofs.CutLemmas.{lows_are}

some : (l : List DeclValue) (i : ℕ) → i < length l → (d : DeclValue) × (slice_get l i ≡ Some d)
some [] i below = absurd (omega arith)
some (d ∷ l) zero below = (d, refl)
some (d ∷ l) (suc i) below = some l i (omega (arith, below))

pub corner_is : (matrices : List DeclValue) (sizes : List ℕ) (c : Cell) (k : RuleKind) (o : Read) (rest : List Read) → k ≢ kind.Cell → k ≢ kind.Plan → KindFits k (o ∷ rest) → All (λ p. p.matrix < length matrices) (o ∷ rest)
    → ◌≡◌ {A = ℕ × ℕ} (trap_place matrices sizes c k (o ∷ rest)) (low_by o.view sizes o)
corner_is matrices sizes c kind.Cell o rest n m h there = absurd (n refl)
corner_is matrices sizes c kind.Plan o rest n m h there = absurd (m refl)
corner_is matrices sizes c kind.Wide o rest n m h there = by (slice_get matrices o.matrix) (some matrices o.matrix (there 0 o (omega arith)))
  where
    by : (q : Option DeclValue) → (d : DeclValue) × (q ≡ Some d)
        → ◌≡◌ {A = ℕ × ℕ} (natural (option_map_or (area_of sizes (pos c.x) (pos c.y) o) q (record { x = from_start (pos 0); y = from_start (pos 0) })).x.low, natural (option_map_or (area_of sizes (pos c.x) (pos c.y) o) q (record { x = from_start (pos 0); y = from_start (pos 0) })).y.low) (low_by o.view sizes o)
    by (Some d) p = lows_are sizes (pos c.x) (pos c.y) o d o.view h.0
    by None p = absurd (none p.0 p.1)
      where
        none : (d : DeclValue) → ◌≡◌ {A = Option DeclValue} None (Some d) → ⊥
        none d e = cc
