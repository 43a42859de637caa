-- Puts, one after the other.
use Rattle.std.proofs.Common.{◌≡◌, ℕ, ◌+◌, ◌-◌, List, ◌++◌, length, take, drop, Option, Some, None, refl, ap, sym, append_assoc, append-nil, arith}
use Rattle.std.proofs.lemmas.List.{take_all, length-drop}
use Rattle.std.proofs.Math.Seq.{take-add}
use Rattle.pb_outside.specs.Sink.{told_with}

take_all-drop : (n : ℕ) (text : List ℕ) → take (length text - n) (drop n text) ≡ drop n text
take_all-drop n text = take_all (length text - n) (drop n text) (omega (arith, length-drop n text))

-- the first n bytes and then the first m of the rest are the first n + m
pub gains_more : (text : List ℕ) (n m : ℕ) (before mid now : Option (List ℕ)) → mid ≡ told_with (take n text) before
    → now ≡ told_with (take m (take (length text - n) (drop n text))) mid → now ≡ told_with (take (n + m) text) before
gains_more text n m None mid now first then = cc
gains_more text n m (Some written) mid now first then =
    let rest : take (length text - n) (drop n text) ≡ drop n text = take_all-drop n text in
    let parts : take (n + m) text ≡ take n text ++ take m (drop n text) = take-add n m text in
    let whole = append_assoc written (take n text) (take m (drop n text)) in
    cc

pub gains_nothing : (text : List ℕ) (before : Option (List ℕ)) → before ≡ told_with (take 0 text) before
gains_nothing text None = refl
gains_nothing text (Some written) = ap Some (sym (append-nil written))
