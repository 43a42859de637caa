use Rattle.std.proofs.Common.{◌≡◌, map, None, string_bytes, length}
use Rattle.pb_words.specs.Options.{no_settings}
use Rattle.pb_words.specs.Ranges.{HaveRanges}
use Rattle.pb_words.specs.Reading.{options_read}
use Rattle.pb_words.proofs.options.read_options.Given as goal

abbrev pub invariant-loop-rest : goal.invariant-loop-rest
invariant-loop-rest l =
    HaveRanges l.settings × (options_read l.settings None (map string_bytes l.rest) ≡ options_read no_settings None (map string_bytes l.words))

abbrev pub decreases-loop-rest : goal.decreases-loop-rest
decreases-loop-rest l = length l.rest
