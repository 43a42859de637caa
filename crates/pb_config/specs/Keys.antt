-- The site and the entry that a key of the map stands for.
use Rattle.std.specs.Prelude.{ℕ, Vec}
use Rattle.std.specs.Global.{Global}
use Rattle.pb_program.specs.Configs.{SiteValue, SelectorValue, EntryValue}

abbrev pub Key : Type 0
Key = ℕ × ℕ × Vec ℕ Global

abbrev pub site : Key → SiteValue
site k = record { transform = k.0; matrix = k.1; set = k.2.items }

abbrev pub entry : Key × SelectorValue → EntryValue
entry e = record { site = site e.0; selector = e.1 }
