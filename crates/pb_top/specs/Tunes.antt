-- What `tune` answers to a program and the name of a transform.
use Rattle.std.specs.Prelude.{◌≡◌, ℕ, List, Some, Result, Ok, Err}
use Rattle.pb_program.specs.Configs.{ConfigValue}
use Rattle.pb_program.specs.Trees.{ProgTransform}
use Rattle.pb_config.specs.Texts.{config_text}
use Rattle.pb_check.specs.Accepting.{HasName, IsNowhere}
use Rattle.pb_check.specs.Orders.{AnalysisValue}
use Rattle.pb_check.specs.Sites.{all_sites}
use Rattle.pb_unroll.specs.Handed.{cost}
use Rattle.pb_entry.specs.declared.refusal.RunRefusal.TheVariants.{UnknownTransform}
use Rattle.pb_run_lines.specs.RunLines.{run_line}
use Rattle.pb_tuner.specs.Judged.{Costs}
use Rattle.pb_tuner.specs.Tuned.{AreTold, IsTuned}
use Rattle.pb_tuner.specs.declared.journal.Asked.{Asked}
use Rattle.pb_top.specs.Reply.{Reply, done_reply, refusal_reply}
use Rattle.pb_top.specs.Steps.{AfterProgram, OfProgram, Then}
use Rattle.pb_top.specs.declared.reply.Status.TheVariants.{Input}

-- the number of the transform of this name, or the line that there is none
abbrev pub FindsNamed : List ProgTransform → List ℕ → Result ℕ Reply → Type 0
FindsNamed p name (Ok t) = HasName p name t
FindsNamed p name (Err reply) = IsNowhere p name × (reply ≡ refusal_reply Input (run_line p 0 name UnknownTransform))

-- what configurations of a program cost for the transform with a number
abbrev pub costs_for : List ProgTransform → List AnalysisValue → ℕ → Costs
costs_for p found number c size = cost p found c number size

-- a configuration that is tuned by these costs up to a size, over the program's sites, as a journal of them shows
pub record IsTunedFor (p : List ProgTransform) (found : List AnalysisValue) (up_to number : ℕ) (c : ConfigValue) : Type 0 where
  pub asked : List Asked
  pub tuned : IsTuned (all_sites p found) up_to asked c
  pub told : AreTold (Some (costs_for p found number)) asked

-- the text of such a configuration
abbrev pub PrintsTuned : List ProgTransform → List AnalysisValue → ℕ → ℕ → Reply → Type 0
PrintsTuned p found up_to number reply = (c : ConfigValue) × IsTunedFor p found up_to number c × (reply ≡ done_reply (config_text p c))

-- of an accepted program, for the transform of this name
abbrev pub Tunes : List ℕ → ℕ → OfProgram
Tunes name up_to tree p found = Then (FindsNamed p name) (PrintsTuned p found up_to)

-- the same over the program's text, if no phase refuses it
abbrev pub TunesProgram : List ℕ → ℕ → List ℕ → Reply → Type 0
TunesProgram name up_to = AfterProgram (Tunes name up_to)
