use Rattle.pb_prog.proofs.FormLemmas.{four_parts}
use Rattle.pb_prog.proofs.form.write_parts.Goals as goal

pub returns : goal.returns
returns c = four_parts c.write_share-3.result c.args.text.now.items c.write_part.new.text.items c.write_share.new.text.items c.write_share-2.new.text.items
    c.write_share-3.new.text.items _ _ _ _ c.in_ok-write_part.ensures c.in_ok-write_share.ensures c.in_ok-write_share-2.ensures c.write_share-3.ensures
