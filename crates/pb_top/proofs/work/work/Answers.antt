use Rattle.std.proofs.Common.{Ok, length, map, ap, subst, ◌∙◌, string_bytes}
use Rattle.pb_top.specs.Sinks.{shelf_change}
use Rattle.pb_top.specs.Steps.{Takes}
use Rattle.pb_words.specs.Files.{file_words}
use Rattle.pb_top.specs.Answer.{limited, WorkWrites}
use Rattle.pb_top.specs.Working.{Writes, contents_of, texts_of}
use Rattle.pb_top.proofs.CommandLemmas.{taken_length}
use Rattle.pb_top.proofs.WorkLemmas.{files_write}
use Rattle.pb_top.proofs.work.work.Goals as goal

pub returns-clause-answer : goal.returns-clause-answer
returns-clause-answer g c =
    let others = map string_bytes c.args.others.now in
    let contents = contents_of c.in_ok-contents.contents.items in
    let taken = c.in_ok-contents.ensures.taken in
    files_write c.args.ask others contents (shelf_change g.S.Shelf.files g.S.Shelf.faults g.S.Shelf.taken g.S.Shelf.asked c.args.shelf.now c.fetch_all.new.shelf)
    (subst (λ names. Takes (g.S.Shelf.files c.args.shelf.now) (limited names) (Ok contents)) (ap texts_of c.deref.ensures.value ∙ c.in_ok-names.ensures) taken.1)
    c.answer.result taken.0
    (subst (λ items. Writes (λ tail. WorkWrites c.args.ask others tail (contents_of items)) c.answer.result) c.deref-2.ensures.value c.answer.ensures)

pub answer-requires-clause-all : goal.answer-requires-clause-all
answer-requires-clause-all g c =
    let names = subst (λ names. Takes (g.S.Shelf.files c.args.shelf.now) (limited names) (Ok (contents_of c.in_ok-contents.contents.items))) (ap texts_of c.deref.ensures.value ∙ c.in_ok-names.ensures) c.in_ok-contents.ensures.taken.1 in
    ap length c.deref-2.ensures.value ∙ taken_length (g.S.Shelf.files c.args.shelf.now) (file_words c.args.ask (map string_bytes c.args.others.now)) c.in_ok-contents.contents.items names
