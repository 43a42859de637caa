-- The sites of a transform, segment by segment.
use Rattle.std.proofs.Common.{◌≡◌, ◌∙◌, sym, ap, ℕ, ◌+◌, ◌<◌, Bool, true, false, ◌&&◌, List, [], ◌∷◌, ◌++◌, length, map, take, get_or, arith}
use Rattle.std.specs.Prelude.{◌==◌, filter}
use Rattle.std.specs.List.{list_any}
use Rattle.std.specs.Str.{bytes_eq}
use Rattle.std.proofs.lemmas.Bool.{and_parts, eq-eqb, eqb-true, le-ltb, lt-ltb}
use Rattle.std.proofs.lemmas.List.{map-append}
use Rattle.std.proofs.lemmas.Slice.Eq.{bytes_eq-Decides}
use Rattle.pb_grid.specs.Lists.{firsts}
use Rattle.pb_grid.proofs.ListLemmas.{filter_dropped, filter_kept, firsts_known, firsts_new}
use Rattle.pb_graph.specs.Nodes.{NodeValue}
use Rattle.pb_program.specs.Configs.{SiteValue, same_site}
use Rattle.pb_program.specs.Trees.{ProgTransform}
use Rattle.pb_check.specs.Sites.{has_choice, least_of, site_of}
use Rattle.pb_check.proofs.LawfulLemmas.{both}

same_same : (a b c : SiteValue) → same_site a b ≡ true → same_site b c ≡ true → same_site a c ≡ true
same_same a b c h k =
    let first = and_parts (a.transform == b.transform && a.matrix == b.matrix) (bytes_eq a.set b.set) h in
    let second = and_parts (b.transform == c.transform && b.matrix == c.matrix) (bytes_eq b.set c.set) k in
    let p = and_parts (a.transform == b.transform) (a.matrix == b.matrix) first.0 in
    let q = and_parts (b.transform == c.transform) (b.matrix == c.matrix) second.0 in
    both _ _
    (both _ _ (eq-eqb a.transform c.transform (eqb-true a.transform b.transform p.0 ∙ eqb-true b.transform c.transform q.0)) (eq-eqb a.matrix c.matrix (eqb-true a.matrix b.matrix p.1 ∙ eqb-true b.matrix c.matrix q.1)))
    ((bytes_eq-Decides a.set c.set).1 ((bytes_eq-Decides a.set b.set).0 first.1 ∙ (bytes_eq-Decides b.set c.set).0 second.1))

-- the sites of the first segments
abbrev pub sites_to : ℕ → ProgTransform → List NodeValue → ℕ → List SiteValue
sites_to number t nodes k = firsts same_site (map (site_of number t) (filter (has_choice t) (take k nodes)))

module _ (number : ℕ) (t : ProgTransform) (nodes : List NodeValue) (k : ℕ) (node : NodeValue) (here : k < length nodes) (is : node ≡ get_or nodes k node) where
  pub no_choice : (l : List SiteValue) → l ≡ sites_to number t nodes k → has_choice t node ≡ false → l ≡ sites_to number t nodes (k + 1)
  no_choice l e none = e ∙ ap (λ ns. firsts same_site (map (site_of number t) ns)) (sym (filter_dropped nodes k node here is (has_choice t) none))

  kept : has_choice t node ≡ true → map (site_of number t) (filter (has_choice t) (take (k + 1) nodes)) ≡ map (site_of number t) (filter (has_choice t) (take k nodes)) ++ site_of number t node ∷ []
  kept some = ap (map (site_of number t)) (filter_kept nodes k node here is (has_choice t) some) ∙ map-append (site_of number t) (filter (has_choice t) (take k nodes)) (node ∷ [])

  module _ (l listed : List SiteValue) (matrix : ℕ) (set : List ℕ) (same : listed ≡ l) (of : matrix ≡ node.matrix) (is_set : set ≡ least_of t node.rules) (e : l ≡ sites_to number t nodes k) (more : 1 < length set)
      (known : Bool) (test : known ≡ list_any (λ site. same_site site (record { transform = number; matrix = matrix; set = set })) listed) where
    some : has_choice t node ≡ true
    some = lt-ltb 1 (length (least_of t node.rules)) (omega (arith, ap length is_set, more))

    tested : known ≡ list_any (λ site. same_site site (site_of number t node)) l
    tested = test ∙ (λ i. list_any (λ site. same_site site (record { transform = number; matrix = of i; set = is_set i })) (same i))

    pub known_site : known ≡ true → l ≡ sites_to number t nodes (k + 1)
    known_site h = firsts_known same_site same_same (map (site_of number t) (filter (has_choice t) (take k nodes))) (site_of number t node) l e (sym tested ∙ h) ∙ ap (firsts same_site) (sym (kept some))

    pub new_site : (m : List SiteValue) → known ≡ false → m ≡ l ++ (record { transform = number; matrix = matrix; set = set }) ∷ [] → m ≡ sites_to number t nodes (k + 1)
    new_site m h pushed =
        firsts_new same_site same_same (map (site_of number t) (filter (has_choice t) (take k nodes))) (site_of number t node) l m e (sym tested ∙ h) (pushed ∙ (λ i. l ++ (record { transform = number; matrix = of i; set = is_set i }) ∷ []))
        ∙ ap (firsts same_site) (sym (kept some))

pub few_choices : (t : ProgTransform) (node : NodeValue) (set : List ℕ) → set ≡ least_of t node.rules → length set < 2 → has_choice t node ≡ false
few_choices t node set e few = le-ltb 1 (length (least_of t node.rules)) (omega (arith, ap length e, few))

abbrev pub listed_by : ℕ → ℕ → List ℕ → List SiteValue → Bool
listed_by number matrix set sites = list_any (λ site. same_site site (record { transform = number; matrix = matrix; set = set })) sites
