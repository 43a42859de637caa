use Rattle.std.proofs.Common.{◌∙◌, arith, map, refl, string_bytes, subst, take}
use Rattle.pb_top.specs.Answer.{content_at}
use Rattle.pb_top.specs.Tunes.{TunesProgram}
use Rattle.pb_top.specs.Working.{Replies, contents_of}
use Rattle.pb_top.proofs.CommandLemmas.{first_content, word_is}
use Rattle.pb_top.proofs.work.tune_line.Goals as goal

pub returns : goal.returns
returns c =
    let words = c.args.others.now in
    let first = first_content words (take 1 (map string_bytes words)) c.args.contents.now c.index-contents-0.result 1 (omega (arith, c.requires.enough)) refl refl c.requires.all c.index-contents-0.is in
    let second = word_is words 1 c.index-others-1.result (omega (arith, c.requires.enough)) c.index-others-1.is in
    let of_program = subst (λ t. Replies (TunesProgram c.as_str.result.now c.args.up_to t) c.tune.result) (c.deref.ensures.value ∙ first) c.tune.ensures in
    subst (λ n. Replies (TunesProgram n c.args.up_to (content_at (contents_of c.args.contents.now) 0)) c.tune.result) (c.as_str.ensures.value ∙ second) of_program
