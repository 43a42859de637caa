-- The edges of a segment by its rows, and by their definition.
use Rattle.std.proofs.Common.{◌≡◌, ◌∙◌, refl, sym, ap, ℕ, ◌+◌, Bool, true, false, ◌||◌, List, [], ◌∷◌, ◌++◌, length, map, slice_get, Some, arith}
use Rattle.std.specs.Prelude.{filter}
use Rattle.std.specs.List.{flat_map, list_any}
use Rattle.std.proofs.lemmas.List.{map-append}
use Rattle.std.proofs.Math.Bool.{cond}
use Rattle.pb_linear.specs.declared.boxes.ReadBox.{ReadBox}
use Rattle.pb_linear.specs.declared.boxes.Sign.TheVariants.{Plus, Minus}
use Rattle.pb_graph.specs.Edges.{Choices, between, by_rule, edge, is_some, link, lists, reads_by, rules_between, sources, touches}
use Rattle.pb_graph.specs.Nodes.{NodeValue}
use Rattle.pb_graph.specs.Rows.{AreGroups, AreOwn, GroupValue, IsGroup, OwnValue, edge_by, is_touched, link_by, met_by, met_reads, met_rules, side_by, sides_of, sources_by}
use Rattle.pb_graph.specs.Seen.{seen_at}
use Rattle.pb_graph.proofs.SeenLemmas.{seen_all_at, seen_is_wide, seen_mark, seen_serves}
use Rattle.pb_graph.proofs.ListLemmas.{map_filtered, same_map}
use Rattle.pb_graph.proofs.NumberedLemmas.{same_numbered}

-- ---- lists
some_step : {A B : Type 0} (f : A → B) (x : A) (l : List A) (rest b : Bool) → rest ≡ is_some (map f l) → (b || rest) ≡ is_some (map f (cond b (x ∷ l) l))
some_step f x l rest true e = refl
some_step f x l rest false e = e

pub any_some : {A B : Type 0} (p : A → Bool) (f : A → B) (xs : List A) → list_any p xs ≡ is_some (map f (filter p xs))
any_some p f [] = refl
any_some p f (x ∷ xs) = some_step f x (filter p xs) (list_any p xs) (p x) (any_some p f xs)

some_mapped : {A B : Type 0} (f : A → B) (xs : List A) → is_some (map f xs) ≡ is_some xs
some_mapped f [] = refl
some_mapped f (x ∷ xs) = refl

-- ---- a reader and one of the others
module _ (c : Choices) (x y : NodeValue) (s : ℕ) (at : slice_get c.nodes s ≡ Some y) where
  met_by_is : (rs : List ReadBox) (os : List OwnValue) → AreOwn c.leasts c.nodes x.area rs os → map (λ o. o.seen) (filter (is_touched s) os) ≡ map (seen_at c.leasts x.area) (filter (touches c x y) rs)
  met_by_is [] [] are = refl
  met_by_is [] (o ∷ os) are = absurd are
  met_by_is (r ∷ rs) [] are = absurd are
  met_by_is (r ∷ rs) (o ∷ os) are =
      map_filtered (λ o. o.seen) (is_touched s) o os (is_touched s o)
      ∙ ap (λ (t : Bool). cond t (o.seen ∷ map (λ o. o.seen) (filter (is_touched s) os)) (map (λ o. o.seen) (filter (is_touched s) os))) (are.0.touched s y at)
      ∙ ap (λ z. cond (touches c x y r) (z ∷ map (λ o. o.seen) (filter (is_touched s) os)) (map (λ o. o.seen) (filter (is_touched s) os))) are.0.seen
      ∙ ap (λ l. cond (touches c x y r) (seen_at c.leasts x.area r ∷ l) l) (met_by_is rs os are.1)
      ∙ sym (map_filtered (seen_at c.leasts x.area) (touches c x y) r rs (touches c x y r))

  group_met : (rule : ℕ) (g : GroupValue) → IsGroup c.leasts c.nodes x.area c.reads rule g → met_by s g ≡ map (seen_at c.leasts x.area) (by_rule c x y rule)
  group_met rule g is = met_by_is (reads_by c rule) g.reads is.own

  all_met : (rules : List ℕ) (gs : List GroupValue) → AreGroups c.leasts c.nodes x.area c.reads rules gs → met_reads s gs ≡ map (seen_at c.leasts x.area) (flat_map (by_rule c x y) rules)
  all_met [] [] are = refl
  all_met [] (g ∷ gs) are = absurd are
  all_met (rule ∷ rules) [] are = absurd are
  all_met (rule ∷ rules) (g ∷ gs) are =
      ap (λ l. l ++ met_reads s gs) (group_met rule g are.0) ∙ ap (λ l. map (seen_at c.leasts x.area) (by_rule c x y rule) ++ l) (all_met rules gs are.1)
      ∙ sym (map-append (seen_at c.leasts x.area) (by_rule c x y rule) (flat_map (by_rule c x y) rules))

  is_met_is : (rule : ℕ) (g : GroupValue) → IsGroup c.leasts c.nodes x.area c.reads rule g → list_any (is_touched s) g.reads ≡ is_some (by_rule c x y rule)
  is_met_is rule g is = any_some (is_touched s) (λ o. o.seen) g.reads ∙ ap is_some (group_met rule g is) ∙ some_mapped (seen_at c.leasts x.area) (by_rule c x y rule)

  rules_step : (rules : List ℕ) (gs : List GroupValue) → AreGroups c.leasts c.nodes x.area c.reads rules gs → met_rules s gs ≡ filter (λ rule. is_some (by_rule c x y rule)) rules
  rules_step [] [] are = refl
  rules_step [] (g ∷ gs) are = absurd are
  rules_step (rule ∷ rules) [] are = absurd are
  rules_step (rule ∷ rules) (g ∷ gs) are =
      map_filtered (λ g. g.rule) (λ g. list_any (is_touched s) g.reads) g gs (list_any (is_touched s) g.reads)
      ∙ ap (λ (t : Bool). cond t (g.rule ∷ met_rules s gs) (met_rules s gs)) (is_met_is rule g are.0)
      ∙ ap (λ k. cond (is_some (by_rule c x y rule)) (k ∷ met_rules s gs) (met_rules s gs)) are.0.rule
      ∙ ap (λ l. cond (is_some (by_rule c x y rule)) (rule ∷ l) l) (rules_step rules gs are.1)

-- ---- a reader and one of the others, by its groups
module _ (c : Choices) (x y : NodeValue) (s : ℕ) (at : slice_get c.nodes s ≡ Some y) (gs : List GroupValue) (are : AreGroups c.leasts c.nodes x.area c.reads x.rules gs) where
  met_reads_are : met_reads s gs ≡ map (seen_at c.leasts x.area) (between c x y)
  unfolding between
  met_reads_are = all_met c x y s at x.rules gs are

  met_rules_are : met_rules s gs ≡ rules_between c x y
  met_rules_are = rules_step c x y s at x.rules gs are

  some_are : is_some (met_reads s gs) ≡ is_some (between c x y)
  some_are = ap is_some met_reads_are ∙ some_mapped (seen_at c.leasts x.area) (between c x y)

  side_is : (u : ℕ) → side_by u gs s ≡ sides_of c (u, x) (s, y)
  side_is u = let at = seen_all_at c x y _ met_reads_are in rw (at 0 Plus, at 0 Minus, at 1 Plus, at 1 Minus) refl

  edge_is : (u : ℕ) → edge_by u gs s ≡ edge c (u, x) (s, y)
  edge_is u = rw (met_rules_are, seen_mark c x y _ met_reads_are 0, seen_mark c x y _ met_reads_are 1, seen_is_wide c x y _ met_reads_are) refl

  link_is : (u : ℕ) → link_by u gs s ≡ link c (u, x) (s, y)
  link_is u = ap (λ (l : List Bool). record { reader = u; source = s; serves = l }) (same_map _ _ (seen_serves c x y _ met_reads_are) lists)

-- ---- a reader and all others
module _ (c : Choices) (u : ℕ) (x : NodeValue) (gs : List GroupValue) (count : ℕ) (are : AreGroups c.leasts c.nodes x.area c.reads x.rules gs) (all : count ≡ length c.nodes) where
  all_sources : {B : Type 0} (f : ℕ → B) (g : ℕ × NodeValue → B) → ((s : ℕ) (y : NodeValue) → slice_get c.nodes s ≡ Some y → f s ≡ g (s, y)) → map f (sources_by gs count) ≡ map g (sources c (u, x))
  all_sources f g each =
      rw all (same_numbered (λ s. is_some (met_reads s gs)) f (λ v. is_some (between c x v.1)) g 0 c.nodes (λ s y at. let here : 0 + s ≡ s = omega arith in rw here (some_are c x y s at gs are, each s y at)))

  pub edges_are : map (edge_by u gs) (sources_by gs count) ≡ map (edge c (u, x)) (sources c (u, x))
  edges_are = all_sources (edge_by u gs) (edge c (u, x)) (λ s y at. edge_is c x y s at gs are u)

  pub links_are : map (link_by u gs) (sources_by gs count) ≡ map (link c (u, x)) (sources c (u, x))
  links_are = all_sources (link_by u gs) (link c (u, x)) (λ s y at. link_is c x y s at gs are u)

  pub sides_are : map (side_by u gs) (sources_by gs count) ≡ map (sides_of c (u, x)) (sources c (u, x))
  sides_are = all_sources (side_by u gs) (sides_of c (u, x)) (λ s y at. side_is c x y s at gs are u)
