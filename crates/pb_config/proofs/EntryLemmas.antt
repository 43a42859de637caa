-- Entries in a map by their sites.
use Rattle.std.proofs.Common.{◌≡◌, Bool, true, false, ◌&&◌, ◌||◌, ◌==◌, if◌then◌else◌, List, [], ◌∷◌, ◌++◌, map, Some, is_some, refl, ap}
use Rattle.std.specs.Map.{lookup}
use Rattle.std.specs.Str.{bytes_eq}
use Rattle.indexmap.specs.IndexMap.{insert_entry}
use Rattle.pb_program.specs.Configs.{SelectorValue, has_site}
use Rattle.pb_config.specs.Keys.{Key, site, entry}

abbrev pub is_same : Key → Key → Bool
is_same a b = (a.0 == b.0 && a.1 == b.1) && bytes_eq a.2.items b.2.items

pub found : (k : Key) (es : List (Key × SelectorValue)) → is_some (lookup (is_same k) es) ≡ has_site (site k) (map entry es)
found k [] = refl
found k (e ∷ es) = step (is_same k e.0) (found k es)
  where
    step : (b : Bool) → is_some (lookup (is_same k) es) ≡ has_site (site k) (map entry es)
        → is_some (if b then Some e.1 else lookup (is_same k) es) ≡ (b || has_site (site k) (map entry es))
    step true h = refl
    step false h = h

pub added : (k : Key) (v : SelectorValue) (es : List (Key × SelectorValue)) → has_site (site k) (map entry es) ≡ false
    → map entry (insert_entry is_same es k v) ≡ map entry es ++ entry (k, v) ∷ []
added k v [] none = refl
added k v (e ∷ es) none = step (is_same k e.0) none (added k v es)
  where
    step : (b : Bool) → (b || has_site (site k) (map entry es)) ≡ false
        → (has_site (site k) (map entry es) ≡ false → map entry (insert_entry is_same es k v) ≡ map entry es ++ entry (k, v) ∷ [])
        → map entry (if b then (e.0, v) ∷ es else e ∷ insert_entry is_same es k v) ≡ map entry (e ∷ es) ++ entry (k, v) ∷ []
    step true none rest = absurd (cc)
    step false none rest = ap (λ l. entry e ∷ l) (rest none)
