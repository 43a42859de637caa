use Rattle.std.proofs.Common.{◌≡◌, ◌+◌, [], ◌∷◌, length, take, Ok, refl, sym, ap, ◌∙◌, get_or, subst, arith}
use Rattle.pb_outside.specs.Shelf.{asked_after}
use Rattle.pb_outside.specs.declared.shelf.TheConstants.{FILE_LIMIT}
use Rattle.pb_top.specs.Sinks.{shelf_change}
use Rattle.pb_top.specs.Steps.{TakesFile}
use Rattle.pb_top.specs.Working.{contents_of, texts_of}
use Rattle.pb_top.proofs.FileLemmas.{Reading, no_slice, turn, reads_on, asks_more, asked_both, all_stop, all_read, stop_taken, contents_more}
use Rattle.pb_top.proofs.files.fetch_all.Goals as goal

pub returns-in_err-fetch-clause-taken : goal.returns-in_err-fetch-clause-taken
returns-in_err-fetch-clause-taken g c =
    let change = shelf_change g.S.Shelf.files g.S.Shelf.faults g.S.Shelf.taken g.S.Shelf.asked in
    let whole = change c.args.shelf.now c.fetch.new.shelf in
    stop_taken (texts_of c.args.names.now) whole c.from_residual.result c.in_err-fetch.field-0.0 c.from_residual.ensures.1
    (all_stop whole (change c.loop-name.shelf c.fetch.new.shelf) (texts_of c.args.names.now) c.loop-name.name-index
    (get_or c.args.names.now c.loop-name.name-index no_slice).now (contents_of c.loop-name.contents.items) c.in_err-fetch.field-0.0
    (turn c.args.names.now c.loop-name.name-index c.loop-name-test.true) c.loop-name.invariant.stays c.loop-name.invariant.sound refl
    c.loop-name.invariant.asked refl c.loop-name.invariant.read c.in_err-fetch.ensures.taken)

pub returns-in_err-fetch-clause-asked : goal.returns-in_err-fetch-clause-asked
returns-in_err-fetch-clause-asked g c =
    asks_more (texts_of c.args.names.now) c.loop-name.name-index (get_or c.args.names.now c.loop-name.name-index no_slice).now _ _ _
    (turn c.args.names.now c.loop-name.name-index c.loop-name-test.true) c.loop-name.invariant.asked c.fetch.ensures.asked

pub returns-in_err-push-clause-asked : goal.returns-in_err-push-clause-asked
returns-in_err-push-clause-asked g c =
    asks_more (texts_of c.args.names.now) c.loop-name.name-index (get_or c.args.names.now c.loop-name.name-index no_slice).now _ _ _
    (turn c.args.names.now c.loop-name.name-index c.loop-name-test.true) c.loop-name.invariant.asked c.fetch.ensures.asked

pub loop-name-preserved : goal.loop-name-preserved
loop-name-preserved g c =
    let names = texts_of c.args.names.now in
    let i = c.loop-name.name-index in
    let name = (get_or c.args.names.now i no_slice).now in
    let at = turn c.args.names.now i c.loop-name-test.true in
    let told = g.S.Shelf.files c.args.shelf.now in
    let taken = c.in_ok-fetch.ensures.taken in
    let more = contents_more c.loop-name.contents.items c.push.new.self.items c.in_ok-fetch.field-0 c.in_ok-push.ensures.items in
    record {
      stays = c.fetch.ensures.stays ∙ c.loop-name.invariant.stays;
      sound = taken.0 ∙ c.loop-name.invariant.sound;
      asked = taken.2 ∙ ap (asked_after (name ∷ [])) c.loop-name.invariant.asked ∙ asked_both (take i names) (name ∷ []) (g.S.Shelf.asked c.args.shelf.now)
          ∙ ap (λ t. asked_after t (g.S.Shelf.asked c.args.shelf.now)) (sym at.more);
      untaken = λ none. absurd (omega arith);
      read = subst (Reading told names (i + 1)) (sym more)
          (reads_on told names i name c.in_ok-fetch.field-0.items (contents_of c.loop-name.contents.items) at
          (subst (λ f. TakesFile f name FILE_LIMIT (Ok c.in_ok-fetch.field-0.items)) c.loop-name.invariant.stays taken.1.0) c.loop-name.invariant.read);
    }

pub returns-clause-taken : goal.returns-clause-taken
returns-clause-taken g c =
    let names = texts_of c.args.names.now in
    let told = g.S.Shelf.files c.args.shelf.now in
    let all : c.loop-name.name-index ≡ length c.args.names.now = omega arith in (
      c.loop-name.invariant.sound,
      all_read told c.args.names.now (contents_of c.loop-name.contents.items)
          (subst (λ i. Reading told names i (contents_of c.loop-name.contents.items)) all c.loop-name.invariant.read),
    )
