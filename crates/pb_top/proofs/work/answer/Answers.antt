use Rattle.std.proofs.Common.{◌≡◌, ◌∙◌, ap, false, map, string_bytes, subst, sym}
use Rattle.pb_words.specs.Line.{least_others}
use Rattle.pb_words.specs.Files.{file_words}
use Rattle.pb_words.specs.declared.ask.Pool.TheVariants.{Serial}
use Rattle.pb_top.specs.Answer.{Runs, WorkWrites, content_at, needs_threads, run_line, tuned_name}
use Rattle.pb_top.specs.Check.{CheckAnswers, ChoicesAnswers}
use Rattle.pb_top.specs.Runs.{RunWrites}
use Rattle.pb_top.specs.Tunes.{TunesProgram}
use Rattle.pb_top.specs.Working.{Replies, Writes, contents_of}
use Rattle.pb_top.proofs.CommandLemmas.{first_content}
use Rattle.pb_top.proofs.WorkLemmas.{serial_alone, writes_alone}
use Rattle.pb_top.proofs.work.answer.Goals as goal

pub returns-in-Check : goal.returns-in-Check
returns-in-Check c =
    let words = map string_bytes c.args.others.now in
    let contents = contents_of c.args.contents.now in
    let first = first_content c.args.others.now (file_words c.args.ask words) c.args.contents.now c.index-contents-0.result (least_others c.args.ask) c.requires.enough (ap least_others c.in-Check.is) (ap (λ a. file_words a words) c.in-Check.is) c.requires.all c.index-contents-0.is in
    subst (λ a. Writes (λ tail. WorkWrites a words tail contents) c.check.result) (sym c.in-Check.is)
    (writes_alone (CheckAnswers (content_at contents 0)) c.check.result (subst (λ t. Replies (CheckAnswers t) c.check.result) (c.deref.ensures.value ∙ first) c.check.ensures))

pub returns-in-Choices : goal.returns-in-Choices
returns-in-Choices c =
    let words = map string_bytes c.args.others.now in
    let contents = contents_of c.args.contents.now in
    let first = first_content c.args.others.now (file_words c.args.ask words) c.args.contents.now c.index-contents-0-in-Choices.result (least_others c.args.ask) c.requires.enough (ap least_others c.in-Choices.is) (ap (λ a. file_words a words) c.in-Choices.is) c.requires.all c.index-contents-0-in-Choices.is in
    subst (λ a. Writes (λ tail. WorkWrites a words tail contents) c.choices.result) (sym c.in-Choices.is)
    (writes_alone (ChoicesAnswers (content_at contents 0)) c.choices.result (subst (λ t. Replies (ChoicesAnswers t) c.choices.result) (c.deref-in-Choices.ensures.value ∙ first) c.choices.ensures))

pub returns-in-Tune : goal.returns-in-Tune
returns-in-Tune c =
    let words = map string_bytes c.args.others.now in
    let contents = contents_of c.args.contents.now in
    subst (λ a. Writes (λ tail. WorkWrites a words tail contents) c.tune_line.result) (sym c.in-Tune.is)
    (writes_alone (TunesProgram (tuned_name words) c.in-Tune.up_to (content_at contents 0)) c.tune_line.result c.tune_line.ensures)

pub returns-in-Run : goal.returns-in-Run
returns-in-Run c =
    let words = map string_bytes c.args.others.now in
    let contents = contents_of c.args.contents.now in
    let run = c.in-Run in
    let serial = serial_alone run.workers run.depth run.grain run.pool run.trace (subst (λ a. needs_threads a ≡ false) run.is c.requires.alone) in
    subst (λ a. Writes (λ tail. WorkWrites a words tail contents) c.run_line.result) (sym run.is)
    (subst (λ p. Writes (λ tail. Runs run.depth run.grain (RunWrites p run.trace tail) (run_line words) contents) c.run_line.result) (sym serial)
    (subst (λ l. Writes (λ tail. Runs run.depth run.grain (RunWrites Serial run.trace tail) l contents) c.run_line.result) c.read_run.ensures c.run_line.ensures))
