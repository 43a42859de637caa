-- The configurations are valid.
use Rattle.std.proofs.Common.{◌≡◌, refl, Bool, true, false, Result, Ok, Err}
use Rattle.pb_program.specs.Configs.{ConfigValue}
use Rattle.pb_config.specs.Choices.{levels_of, rules_next}
use Rattle.pb_config.specs.Reading.{config_read}
use Rattle.pb_config.specs.declared.refusal.ConfigRefusal.{ConfigRefusal}
use Rattle.pb_grammar.specs.Want.{after_mark, expression, conjunction, compared, total, product, name_token, dimensions}
use Rattle.pb_demo.specs.Demonstrations.{demo_config}
use Rattle.pb_demo.proofs.Trees.{program}

abbrev is_ok : Result ConfigValue ConfigRefusal → Bool
is_ok (Ok config) = true
is_ok (Err why) = false

is_valid : (r : Result ConfigValue ConfigRefusal) → is_ok r ≡ true → (config : ConfigValue) × (r ≡ Ok config)
is_valid (Ok config) e = (config, refl)
is_valid (Err why) e = absurd (cc)

pub roll_config : (config : ConfigValue) × (config_read (program 1) (demo_config 1) ≡ Ok config)
unfolding after_mark expression conjunction compared total product name_token dimensions rules_next levels_of
roll_config = is_valid (config_read (program 1) (demo_config 1)) refl

pub multiply_config : (config : ConfigValue) × (config_read (program 0) (demo_config 0) ≡ Ok config)
unfolding after_mark expression conjunction compared total product name_token dimensions rules_next levels_of
multiply_config = is_valid (config_read (program 0) (demo_config 0)) refl
