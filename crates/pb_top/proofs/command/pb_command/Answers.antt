use Rattle.std.proofs.Common.{map, refl, string_bytes}
use Rattle.pb_top.specs.Sinks.{shelf_change, sink_change}
use Rattle.pb_top.proofs.EndLemmas.{ends_after}
use Rattle.pb_top.proofs.command.pb_command.Goals as goal

pub returns-in-None : goal.returns-in-None
returns-in-None g c =
    let shelf = shelf_change g.S.Shelf.files g.S.Shelf.faults g.S.Shelf.taken g.S.Shelf.asked in
    let out = sink_change g.O.Sink.written g.O.Sink.faults in
    let err = sink_change g.E.Sink.written g.E.Sink.faults in
    record {
      ends = ends_after (map string_bytes c.args.words.now) c.with_threads.result (shelf c.args.shelf.now c.pb_alone.new.shelf) (shelf c.pb_alone.new.shelf c.with_threads.new.shelf)
          (out c.args.out.now c.pb_alone.new.out) (out c.pb_alone.new.out c.with_threads.new.out) (err c.args.err.now c.pb_alone.new.err) (err c.pb_alone.new.err c.with_threads.new.err)
          c.in-None.ensures.untaken c.in-None.ensures.unwritten.0 c.in-None.ensures.unwritten.1 (refl, refl, refl, refl) (refl, refl) (refl, refl) c.with_threads.ensures;
    }
