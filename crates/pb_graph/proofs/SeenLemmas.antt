-- What is known of reads, and what the definitions of edges say of them.
use Rattle.std.proofs.Common.{◌≡◌, refl, ap, ℕ, Bool, true, false, ◌&&◌, not, List, [], ◌∷◌, map}
use Rattle.std.specs.Prelude.{◌==◌}
use Rattle.std.specs.List.{list_all, list_any}
use Rattle.pb_linear.specs.declared.boxes.ReadBox.{ReadBox}
use Rattle.pb_linear.specs.declared.boxes.Sign.{Sign}
use Rattle.pb_linear.specs.declared.boxes.Sign.TheVariants.{Plus, Minus}
use Rattle.pb_linear.specs.declared.boxes.Step.{Step}
use Rattle.pb_linear.specs.declared.vform.SymBox.{SymBox}
use Rattle.pb_graph.specs.declared.seen.Seen.{Seen}
use Rattle.pb_graph.specs.Edges.{Choices, all_at, all_before, at_or_before_by, before_by, between, fits, is_wide, mark, serves}
use Rattle.pb_graph.specs.Nodes.{NodeValue}
use Rattle.pb_graph.specs.Seen.{all_at_by, all_before_by, fits_by, is_wide_by, mark_by, seen_at, serves_by, standing_at, standing_by}
use Rattle.pb_graph.proofs.ListLemmas.{all_mapped, any_mapped}

module _ (leasts : List ℕ) (area : SymBox) where
  standing_is : (r : ReadBox) (axis : ℕ) (sign : Sign) → standing_by (seen_at leasts area r) axis sign ≡ standing_at leasts area r axis sign
  unfolding seen_at
  standing_is r axis Plus = by_test (axis == 0) refl
    where
      by_test : (b : Bool) → (axis == 0) ≡ b → standing_by (seen_at leasts area r) axis Plus ≡ standing_at leasts area r axis Plus
      by_test true e = rw e refl
      by_test false e = rw e refl
  standing_is r axis Minus = by_test (axis == 0) refl
    where
      by_test : (b : Bool) → (axis == 0) ≡ b → standing_by (seen_at leasts area r) axis Minus ≡ standing_at leasts area r axis Minus
      by_test true e = rw e refl
      by_test false e = rw e refl

  wide_is : (r : ReadBox) → (seen_at leasts area r).wide ≡ r.wide
  unfolding seen_at
  wide_is r = refl

  fits_is : (r : ReadBox) (list : List Step) → fits_by (seen_at leasts area r) list ≡ fits leasts area r list
  fits_is r [] = refl
  fits_is r (a ∷ []) = ap (λ s. s.before) (standing_is r a.axis a.sign)
  fits_is r (a ∷ b ∷ more) = rw (standing_is r a.axis a.sign, standing_is r b.axis b.sign) refl

  module _ (rs : List ReadBox) where
    serves_is : (list : List Step) → serves_by (map (seen_at leasts area) rs) list ≡ list_all (λ r. not r.wide && fits leasts area r list) rs
    serves_is list = all_mapped (seen_at leasts area) _ _ (λ r. rw (wide_is r, fits_is r list) refl) rs

    all_at_is : (axis : ℕ) (sign : Sign) → all_at_by (map (seen_at leasts area) rs) axis sign ≡ list_all (λ r. at_or_before_by leasts area r axis sign) rs
    all_at_is axis sign = all_mapped (seen_at leasts area) _ _ (λ r. ap (λ s. s.at_or_before) (standing_is r axis sign)) rs

    all_before_is : (axis : ℕ) (sign : Sign) → all_before_by (map (seen_at leasts area) rs) axis sign ≡ list_all (λ r. before_by leasts area r axis sign) rs
    all_before_is axis sign = all_mapped (seen_at leasts area) _ _ (λ r. ap (λ s. s.before) (standing_is r axis sign)) rs

    is_wide_is : is_wide_by (map (seen_at leasts area) rs) ≡ list_any (λ r. r.wide) rs
    is_wide_is = any_mapped (seen_at leasts area) _ _ wide_is rs

module _ (c : Choices) (reader source : NodeValue) (seen : List Seen) (is : seen ≡ map (seen_at c.leasts reader.area) (between c reader source)) where
  pub seen_serves : (list : List Step) → serves_by seen list ≡ serves c reader source list
  seen_serves list = rw is (serves_is c.leasts reader.area (between c reader source) list)

  pub seen_all_at : (axis : ℕ) (sign : Sign) → all_at_by seen axis sign ≡ all_at c reader source axis sign
  seen_all_at axis sign = rw is (all_at_is c.leasts reader.area (between c reader source) axis sign)

  seen_all_before : (axis : ℕ) (sign : Sign) → all_before_by seen axis sign ≡ all_before c reader source axis sign
  seen_all_before axis sign = rw is (all_before_is c.leasts reader.area (between c reader source) axis sign)

  pub seen_is_wide : is_wide_by seen ≡ is_wide c reader source
  seen_is_wide = rw is (is_wide_is c.leasts reader.area (between c reader source))

  pub seen_mark : (axis : ℕ) → mark_by seen axis ≡ mark c reader source axis
  unfolding mark_by
  seen_mark axis = rw (seen_is_wide, seen_all_at axis Plus, seen_all_at axis Minus, seen_all_before axis Plus, seen_all_before axis Minus) refl
