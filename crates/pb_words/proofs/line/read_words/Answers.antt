use Rattle.std.proofs.Common.{◌≡◌, ◌-◌, ◌≤◌, None, map, length, string_bytes, refl, sym, ◌∙◌, ap, arith}
use Rattle.std.proofs.lemmas.List.{length-map}
use Rattle.pb_words.specs.Line.{Line}
use Rattle.pb_words.proofs.LineLemmas.{fewer_others, line_found, line_enough, no_line}
use Rattle.pb_words.proofs.line.read_words.Goals as goal
use Rattle.pb_words.proofs.line.read_words.Goals.{In_ok-ask}

pub returns-in_err-settings-clause-none : goal.returns-in_err-settings-clause-none
returns-in_err-settings-clause-none c =
    rw c.from_residual-in_err-settings.ensures
    (no_line _ _ _ None (ap (map string_bytes) c.in_ok-command.ensures.cases.0) c.in_err-settings.ensures.read refl)

pub returns-in_err-ask-clause-none : goal.returns-in_err-ask-clause-none
returns-in_err-ask-clause-none c =
    let none = rw c.as_str.ensures.value at (sym c.read_ask.ensures.asked ∙ c.in_err-ask.was) in
    rw c.from_residual-in_err-ask.ensures
    (no_line _ _ _ _ (ap (map string_bytes) c.in_ok-command.ensures.cases.0) c.in_ok-settings.ensures.read (rw none refl))

pub overflow_sub-result : goal.overflow_sub-result
overflow_sub-result c =
    let fewer : length (map string_bytes c.in_ok-settings.others.now) ≤ length (map string_bytes c.in_ok-command.after.now) =
    fewer_others _ _ _ _ c.in_ok-settings.ensures.read in
    omega (arith, c.in_ok-command.ensures.cases.1, simp length-map at fewer)

line : (c : In_ok-ask) → Line (map string_bytes c.args.words.now) c.in_ok-ask.ask (length c.args.words.now - length c.in_ok-settings.others.now)
line c =
    let counted : length c.args.words.now ≡ length (map string_bytes c.args.words.now) = simp length-map in
    rw (← length-map c.in_ok-settings.others.now string_bytes)
    (line_found _ _ _ _ _ _ _ (ap (map string_bytes) c.in_ok-command.ensures.cases.0) counted c.in_ok-settings.ensures.read
    (rw c.as_str.ensures.value at (sym c.read_ask.ensures.asked ∙ c.in_ok-ask.was)))

pub returns-clause-found : goal.returns-clause-found
returns-clause-found c = line c

pub returns-clause-enough : goal.returns-clause-enough
returns-clause-enough c = simp length-map at (line_enough (line c))
