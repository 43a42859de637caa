-- The cells of a segment have the same lawful rules.
use Rattle.std.proofs.Common.{◌≡◌, ◌∙◌, refl, sym, ap, subst, ◌≢◌, ℕ, ℤ, pos, ◌*ℤ◌, Bool, true, false, List, [], ◌∷◌, length, slice_get, Some, arith}
use Rattle.std.specs.Prelude.{filter}
use Rattle.std.specs.List.{AllByRecursion, Contains, range_with_len}
use Rattle.std.proofs.Math.IntN.{zero-*ℤ}
use Rattle.std.proofs.lemmas.Bool.{and_parts}
use Rattle.std.proofs.lemmas.Int.{ints}
use Rattle.pb_graph.specs.Nodes.{NodeValue}
use Rattle.pb_program.specs.Conditions.{Condition, Holds, conditions}
use Rattle.pb_program.specs.Configs.{ConfigValue, chosen}
use Rattle.pb_program.specs.Trees.{ProgRule, ProgTransform}
use Rattle.pb_program.specs.WellFormed.{IsWellFormed}
use Rattle.pb_region.specs.Boxes.{is_zero}
use Rattle.pb_region.specs.Gaps.{gap}
use Rattle.pb_region.specs.Inside.{is_guarding}
use Rattle.pb_region.proofs.InsideLemmas.{all_filter, gap_holds, zero_is}
use Rattle.pb_model.specs.Cells.{Cell}
use Rattle.pb_model.specs.Chosen.{chosen_rule, instance_size}
use Rattle.pb_model.specs.Lawful.{CanMake, IsLawful, is_lawful, lawful}
use Rattle.pb_model.proofs.LawfulLemmas.{in_lawful, lawful_in}
use Rattle.pb_base.proofs.ListLemmas.{filter_in, in_filter, in_head, in_tail}
use Rattle.pb_check.specs.Orders.{AnalysisValue, IsAnalysis}
use Rattle.pb_check.specs.Phases.{IsSound}
use Rattle.pb_check.specs.Ranked.{IsIn, IsMadeCell}
use Rattle.pb_check.proofs.CoverLemmas.{has_lawful}
use Rattle.pb_check.proofs.FirstLemmas.{some_same}
use Rattle.pb_check.proofs.LawfulLemmas.{can_guards}
use Rattle.pb_check.proofs.RankedLemmas.{among_can, are, lawful_among}

-- ---- guards don't depend on the rule variables
guard_anywhere : (c : Condition) (sizes : List ℕ) (x y u v : ℤ) → is_guarding c ≡ true → Holds sizes x y c → Holds sizes u v c
guard_anywhere c sizes x y u v free h =
    let g = gap c in
    let parts = and_parts (is_zero g.x) (is_zero g.y) free in
    let below = (gap_holds c sizes x y).0 h in
    (gap_holds c sizes u v).1 (omega (arith, ints, below, ap (λ k. k *ℤ x) (zero_is g.x parts.0), ap (λ k. k *ℤ y) (zero_is g.y parts.1), ap (λ k. k *ℤ u) (zero_is g.x parts.0), ap (λ k. k *ℤ v) (zero_is g.y parts.1), zero-*ℤ x, zero-*ℤ y, zero-*ℤ u, zero-*ℤ v))

pub guards_anywhere : (cs : List Condition) (sizes : List ℕ) (x y u v : ℤ) → AllByRecursion (Holds sizes x y) (filter is_guarding cs) → AllByRecursion (Holds sizes u v) (filter is_guarding cs)
guards_anywhere [] sizes x y u v h = tt
guards_anywhere (c ∷ cs) sizes x y u v h =
    let here = (all_filter (Holds sizes x y) is_guarding (is_guarding c) c cs refl).0 h in
    (all_filter (Holds sizes u v) is_guarding (is_guarding c) c cs refl).1 (λ free. guard_anywhere c sizes x y u v free (here.0 free), guards_anywhere cs sizes x y u v here.1)

-- ---- lists by their members
pub some_member : {A : Type 0} (xs : List A) → xs ≢ [] → (x : A) × Contains xs x
some_member [] other = absurd (other refl)
some_member (x ∷ xs) other = (x, in_head x xs)

pub same_filter : {A : Type 0} (p q : A → Bool) (xs : List A) → ((x : A) → Contains xs x → p x ≡ q x) → filter p xs ≡ filter q xs
same_filter p q [] same = refl
same_filter p q (x ∷ xs) same = rw (same x (in_head x xs), same_filter p q xs (λ y h. same y (in_tail x y xs h))) refl

pub same_test : (a b : Bool) → (a ≡ true → b ≡ true) → (b ≡ true → a ≡ true) → a ≡ b
same_test true b to from = sym (to refl)
same_test false true to from = from refl
same_test false false to from = refl

module _ (p : List ProgTransform) (number : ℕ) (t : ProgTransform) (a : AnalysisValue) (sizes : List ℕ) (well : IsWellFormed p) (sound : IsSound p) (at : slice_get p number ≡ Some t) (found : IsAnalysis t a) where
  -- a rule of the segment that can make one of its cells can make another
  can_there : (u : ℕ) (c d : Cell) (mc : IsMadeCell t sizes c) (md : IsMadeCell t sizes d) (hc : IsIn a.nodes sizes c u) (hd : IsIn a.nodes sizes d u) (k : ℕ) (r : ProgRule) → slice_get t.rules k ≡ Some r → Contains hc.node.rules k
      → CanMake t.matrices sizes c r → CanMake t.matrices sizes d r
  can_there u c d mc md hc hd k r there may can =
      let held = can_guards p number t c sizes well sound at mc.cell k r there can in
      let same : hc.node ≡ hd.node = some_node hc.node hd.node (sym hc.there ∙ hd.there) in
      among_can p number t sizes well sound at d md.cell a.nodes (are p number t sizes well sound at a found) u hd k r there (subst (λ (n : NodeValue). Contains n.rules k) same may)
      (guards_anywhere (conditions t.matrices r) sizes (pos c.x) (pos c.y) (pos d.x) (pos d.y) held)
    where
      some_node : (m n : NodeValue) → Some m ≡ Some n → m ≡ n
      some_node m n e = cc

  pub lawful_there : (u : ℕ) (c d : Cell) → IsMadeCell t sizes c → IsMadeCell t sizes d → IsIn a.nodes sizes c u → IsIn a.nodes sizes d u → (k : ℕ) → IsLawful t sizes c k → IsLawful t sizes d k
  lawful_there u c d mc md hc hd k h =
      let nodes = are p number t sizes well sound at a found in
      let among = lawful_among p number t sizes well sound at c mc.cell a.nodes nodes u hc k (in_lawful t sizes c k h) in
      record {
        rule = h.rule;
        there = h.there;
        can = can_there u c d mc md hc hd k h.rule h.there among h.can;
        least = λ j other there can.
            let i = some_member (lawful t sizes d) (has_lawful p number t d sizes well sound at md.cell md.made) in
            let first = lawful_in t sizes d i.0 i.1 in
            let back = can_there u d c md mc hd hc i.0 first.rule first.there (lawful_among p number t sizes well sound at d md.cell a.nodes nodes u hd i.0 i.1) first.can in
            omega (arith, h.least i.0 first.rule first.there back, first.least j other there can);
      }

  pub one_lawful : (u : ℕ) (c d : Cell) → IsMadeCell t sizes c → IsMadeCell t sizes d → IsIn a.nodes sizes c u → IsIn a.nodes sizes d u → lawful t sizes c ≡ lawful t sizes d
  unfolding lawful
  one_lawful u c d mc md hc hd =
      same_filter (is_lawful t sizes c) (is_lawful t sizes d) (range_with_len 0 (length t.rules)) (λ k h. same_test (is_lawful t sizes c k) (is_lawful t sizes d k)
      (λ e. (filter_in (is_lawful t sizes d) (range_with_len 0 (length t.rules)) k (in_lawful t sizes d k (lawful_there u c d mc md hc hd k (lawful_in t sizes c k (in_filter (is_lawful t sizes c) (range_with_len 0 (length t.rules)) k h e))))).1)
      (λ e. (filter_in (is_lawful t sizes c) (range_with_len 0 (length t.rules)) k (in_lawful t sizes c k (lawful_there u d c md mc hd hc k (lawful_in t sizes d k (in_filter (is_lawful t sizes d) (range_with_len 0 (length t.rules)) k h e))))).1))

  pub one_choice : (config : ConfigValue) (u : ℕ) (c d : Cell) → IsMadeCell t sizes c → IsMadeCell t sizes d → IsIn a.nodes sizes c u → IsIn a.nodes sizes d u → chosen_rule config number t sizes c ≡ chosen_rule config number t sizes d
  unfolding chosen_rule
  one_choice config u c d mc md hc hd =
      let node : hc.node ≡ hd.node = some_same hc.node hd.node (sym hc.there ∙ hd.there) in
      let matrix : c.matrix ≡ d.matrix = sym hc.matrix ∙ ap (λ (n : NodeValue). n.matrix) node ∙ hd.matrix in
      ap (λ m. chosen config (record { transform = number; matrix = m; set = lawful t sizes c }) (instance_size sizes)) matrix
      ∙ ap (λ l. chosen config (record { transform = number; matrix = d.matrix; set = l }) (instance_size sizes)) (one_lawful u c d mc md hc hd)
