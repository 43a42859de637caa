use Rattle.std.proofs.Common.{◌-◌, ◌∙◌, sym, ap, arith, drop, length, map, string_bytes, take, refl}
use Rattle.std.proofs.lemmas.List.{length-map}
use Rattle.pb_top.specs.Sinks.{shelf_change, sink_change}
use Rattle.pb_top.proofs.EndLemmas.{few_others, no_threads, usage_ends, work_ends, texts_after}
use Rattle.pb_top.proofs.command.pb_alone.Goals as goal

pub returns-in_default-clause-ends : goal.returns-in_default-clause-ends
returns-in_default-clause-ends g c =
    usage_ends (map string_bytes c.args.words.now) (shelf_change g.S.Shelf.files g.S.Shelf.faults g.S.Shelf.taken g.S.Shelf.asked c.args.shelf.now c.args.shelf.now)
    (sink_change g.O.Sink.written g.O.Sink.faults c.args.out.now c.write_line.new.out)
    (sink_change g.E.Sink.written g.E.Sink.faults c.args.err.now c.write_line.new.err)
    c.usage.result c.write_line.result (λ inside. c.in_default.ensures.none inside.0 inside.1 inside.2)
    (record { files = refl; faults = refl; bytes = refl; asked = refl }) c.usage.ensures c.write_line.ensures

pub returns-clause-ends : goal.returns-clause-ends
returns-clause-ends g c =
    work_ends (map string_bytes c.args.words.now) c.in-Some.ask c.in-Some.place c.in-Some.ensures.found
    (shelf_change g.S.Shelf.files g.S.Shelf.faults g.S.Shelf.taken g.S.Shelf.asked c.args.shelf.now c.work-found.new.shelf)
    (sink_change g.O.Sink.written g.O.Sink.faults c.args.out.now c.write.new.out)
    (sink_change g.E.Sink.written g.E.Sink.faults c.args.err.now c.write.new.err)
    _ c.work-found.result c.write.result (texts_after c.args.words.now c.in-Some.place) c.work-found.ensures.stays c.work-found.ensures.asked
    c.work-found.ensures.untaken c.work-found.ensures.answer c.write.ensures

pub work-found-requires-clause-few : goal.work-found-requires-clause-few
work-found-requires-clause-few g c =
    let words = c.args.words.now in
    let place = c.in-Some.place in
    let after = take (length words - place) (drop place words) in
    omega (arith, length-map after string_bytes, ap length (texts_after words place), few_others (map string_bytes words) c.in-Some.ask place c.in-Some.ensures.found)

pub returns-clause-some : goal.returns-clause-some
returns-clause-some g c = no_threads (map string_bytes c.args.words.now) c.in-Some.ask c.in-Some.place c.in-Some.ensures.found (sym c.needs_threads.ensures ∙ c.if-needs_threads.false)

pub returns-in_default-clause-some : goal.returns-in_default-clause-some
returns-in_default-clause-some g c need = c.in_default.ensures.none need.0 need.1 need.2
