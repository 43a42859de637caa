use Rattle.std.proofs.Common.{◌≡◌, [], ◌∷◌, OnOk, codes, ap, sym, subst}
use Rattle.pb_prog.specs.Spelling.{word, mark_tokens}
use Rattle.pb_prog.specs.Writing.{puts}
use Rattle.pb_prog.proofs.print.writer.Writer.mark.Goals as goal

pub returns-in-Secondary : goal.returns-in-Secondary
unfolding mark_tokens
returns-in-Secondary c =
    let tokens : mark_tokens c.args.mark ≡ word (codes "secondary") ∷ [] = ap mark_tokens c.in-Secondary.is in
    subst (λ z. OnOk c.keyword-in-Secondary.result (c.keyword-in-Secondary.new.self ≡ puts c.args.self.now z)) (sym tokens) c.keyword-in-Secondary.ensures
