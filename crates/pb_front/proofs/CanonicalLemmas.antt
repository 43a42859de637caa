-- A canonical text is read as the tree that it was printed of.
use Rattle.std.proofs.Common.{◌≡◌, ℕ, ◌≤◌, List, length, None, ap, ◌∙◌}
use Rattle.pb_syntax.specs.Trees.{TransformTree}
use Rattle.pb_prog.specs.Spelling.{text_tokens}
use Rattle.pb_prog.specs.Canonical.{layout, canonical}
use Rattle.pb_syntax.specs.Places.{unplaced}
use Rattle.pb_syntax.specs.declared.limits.TheConstants.{MOST_BYTES}
use Rattle.pb_front.specs.Reading.{IsRead}
use Rattle.pb_front.proofs.ReadLemmas.{one_tree}
use Rattle.pb_front.proofs.Unplaced.{same_tokens}
use Rattle.pb_front.proofs.LayoutLemmas.{laid}
use Rattle.pb_lexer.proofs.LexemeLemmas.{lexemes}
use Rattle.pb_front.proofs.Plains.{goods, plain_program}
use Rattle.pb_front.proofs.AgainPrograms.{again_program}

pub read_again : (text : List ℕ) (tree : List TransformTree) → IsRead text tree → length (canonical tree) ≤ MOST_BYTES
    → (again : List TransformTree) × IsRead (canonical tree) again × (unplaced again ≡ unplaced tree)
read_again text tree r short =
    let l = laid (text_tokens tree) (plain_program tree r.tokens r.accepted.0 (goods r.tokens (lexemes text r.tokens r.spelled))) in
    let a = again_program tree r.tokens l.tokens r.accepted l.written in
    (a.again, record { short = short; tokens = l.tokens; spelled = l.spelled; accepted = a.accepted }, a.same)

pub its_own : (text : List ℕ) (tree again : List TransformTree) → IsRead text tree → IsRead (canonical tree) again → canonical again ≡ canonical tree
its_own text tree again r s =
    let a = read_again text tree r s.short in
    ap (layout 0 None) (same_tokens again tree (ap unplaced (one_tree (canonical tree) again a.0 s a.1) ∙ a.2))
