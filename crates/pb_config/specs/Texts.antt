-- The text of a configuration: one line for each entry, as `choose T.M {0,1} = 0 until 4 then 1`.
use Rattle.std.specs.Prelude.{ℕ, List, [], ◌++◌, map, codes, decimal, Option, Some, None, slice_get}
use Rattle.std.specs.List.{flat_map, join_with_byte}
use Rattle.pb_program.specs.Forms.{DeclValue}
use Rattle.pb_program.specs.Trees.{ProgTransform}
use Rattle.pb_program.specs.Configs.{SiteValue, SelectorValue, EntryValue, ConfigValue}

abbrev pub matrix_name : Option DeclValue → List ℕ
matrix_name None = []
matrix_name (Some d) = d.name.bytes

abbrev pub named : ℕ → Option ProgTransform → List ℕ
named matrix None = codes "."
named matrix (Some t) = t.name.bytes ++ (codes "." ++ matrix_name (slice_get t.matrices matrix))

-- `T.M`
abbrev pub names_text : List ProgTransform → ℕ → ℕ → List ℕ
names_text p transform matrix = named matrix (slice_get p transform)

-- `T.M {0,1}`
abbrev pub site_text : List ProgTransform → SiteValue → List ℕ
site_text p s = names_text p s.transform s.matrix ++ (codes " {" ++ (join_with_byte 44 (map decimal s.set) ++ codes "}"))

abbrev pub level_text : ℕ × ℕ → List ℕ
level_text l = codes " until " ++ (decimal l.0 ++ (codes " then " ++ decimal l.1))

abbrev pub selector_text : SelectorValue → List ℕ
selector_text s = decimal s.first ++ flat_map level_text s.levels

abbrev pub entry_text : List ProgTransform → EntryValue → List ℕ
entry_text p e = codes "choose " ++ (site_text p e.site ++ (codes " = " ++ (selector_text e.selector ++ codes "\n")))

abbrev pub config_text : List ProgTransform → ConfigValue → List ℕ
config_text p c = flat_map (entry_text p) c.entries
