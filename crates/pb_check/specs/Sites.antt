-- The sites of a program: the sets of rules among which a configuration chooses.
use Rattle.std.specs.Prelude.{ℕ, nat_le, nat_lt, Bool, List, length, filter, map, slice_get}
use Rattle.std.specs.List.{list_all}
use Rattle.std.specs.Option.{option_map_or}
use Rattle.pb_grid.specs.Lists.{firsts}
use Rattle.pb_graph.specs.Nodes.{NodeValue}
use Rattle.pb_program.specs.Configs.{SiteValue, same_site}
use Rattle.pb_program.specs.Trees.{ProgTransform}
use Rattle.pb_check.specs.Orders.{AnalysisValue, of_each}

-- the priority of the rule with a number
abbrev pub priority : ProgTransform → ℕ → ℕ
priority t rule = option_map_or (λ r. r.priority) (slice_get t.rules rule) 0

-- none of these rules has a smaller priority
abbrev pub is_least : ProgTransform → List ℕ → ℕ → Bool
is_least t rules rule = list_all (λ other. nat_le (priority t rule) (priority t other)) rules

-- those rules whose priority is the least among them
unfoldable pub least_of : ProgTransform → List ℕ → List ℕ
least_of t rules = filter (is_least t rules) rules

-- a segment has two such rules or more
abbrev pub has_choice : ProgTransform → NodeValue → Bool
has_choice t node = nat_lt 1 (length (least_of t node.rules))

abbrev pub site_of : ℕ → ProgTransform → NodeValue → SiteValue
site_of number t node = record { transform = number; matrix = node.matrix; set = least_of t node.rules }

-- the sites of a transform with this number, in the order of its segments: each set of each matrix once
abbrev pub sites_of : ℕ → ProgTransform → List NodeValue → List SiteValue
sites_of number t nodes = firsts same_site (map (site_of number t) (filter (has_choice t) nodes))

-- those of all transforms, one after the other
abbrev pub all_sites : List ProgTransform → List AnalysisValue → List SiteValue
all_sites p found = of_each (λ number t a. sites_of number t a.nodes) 0 p found
