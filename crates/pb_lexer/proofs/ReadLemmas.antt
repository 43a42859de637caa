-- What the pass over a text keeps, and what follows from its answer.
use Rattle.std.proofs.Common.{◌≡◌, ℕ, ◌+◌, ◌-◌, ◌<◌, ◌≤◌, List, [], ◌∷◌, ◌++◌, length, take, drop, Some, None, refl, sym, ◌∙◌, ap, subst, arith, append_assoc, length-append, length-take, length-drop, take_all}
use Rattle.std.proofs.Math.Seq.{take-append_seam, drop-append_seam}
use Rattle.std.proofs.lemmas.List.{take-append-drop}
use Rattle.pb_syntax.specs.declared.token.Token.{Token}
use Rattle.pb_syntax.specs.Tokens.{Piece, Pieces, none, BadTokenAt}
use Rattle.pb_lexer.specs.declared.piece.Front.{Front}
use Rattle.pb_lexer.specs.Reading.{piece_read, tokens_of}
use Rattle.pb_lexer.proofs.PieceLemmas.{found}
use Rattle.pb_lexer.proofs.EndLemmas.{begins_none, one_after}

pub at_start : (text : List ℕ) (tokens : List Token) → tokens ≡ [] → Pieces 0 [] text tokens
at_start text tokens e = subst (λ (t : List Token). Pieces 0 [] text t) (sym e) none

front_length : (text : List ℕ) (at : ℕ) → at ≤ length text → length (take at text) ≡ at
front_length text at h = omega (arith, length-take at text)

-- the rest of a text, cut from it by its bounds
whole_rest : (text : List ℕ) (at : ℕ) → take (length text - at) (drop at text) ≡ drop at text
whole_rest text at = take_all (length text - at) (drop at text) (omega (arith, length-drop at text))

-- the pass ends where nothing can be read
pub at_fault : (text : List ℕ) (at : ℕ) (tokens : List Token) → at < length text → Pieces 0 (take at text) (drop at text) tokens
    → piece_read (take (length text - at) (drop at text)) ≡ None → BadTokenAt text at
at_fault text at tokens more before nothing = step (drop at text) refl
  where
    e : piece_read (drop at text) ≡ None
    e = sym (ap piece_read (whole_rest text at)) ∙ nothing

    step : (rest : List ℕ) → drop at text ≡ rest → BadTokenAt text at
    step [] d = absurd (omega (arith, length-drop at text, ap length d))
    step (b ∷ after) d = record {
      front = take at text;
      fault = b;
      after = after;
      tokens = tokens;
      parts = sym (take-append-drop at text) ∙ ap (λ (l : List ℕ). take at text ++ l) d;
      before = subst (λ (l : List ℕ). Pieces 0 (take at text) l tokens) d before;
      place = sym (front_length text at (omega arith));
      begins_none = begins_none at (b ∷ after) (sym (ap piece_read d) ∙ e);
    }

seam : (P : List ℕ → List ℕ → Type 0) (text front back : List ℕ) (n : ℕ) → text ≡ front ++ back → n ≡ length front → P front back → P (take n text) (drop n text)
seam P text front back n parts size h = rw (parts, size, take-append_seam, drop-append_seam) h

-- the pass goes on after what stands first
pub at_next : (text : List ℕ) (at : ℕ) (f : Front) (tokens new : List Token) → at ≤ length text → Pieces 0 (take at text) (drop at text) tokens
    → piece_read (take (length text - at) (drop at text)) ≡ Some f
    → new ≡ tokens ++ tokens_of at (take f.size (take (length text - at) (drop at text))) f.kind
    → Pieces 0 (take (at + f.size) text) (drop (at + f.size) text) new
at_next text at f tokens new few before read put =
    let e : piece_read (drop at text) ≡ Some f = sym (ap piece_read (whole_rest text at)) ∙ read in
    let now : new ≡ tokens ++ tokens_of at (take f.size (drop at text)) f.kind =
    put ∙ ap (λ (l : List ℕ). tokens ++ tokens_of at (take f.size l) f.kind) (whole_rest text at) in
    let g = found at (drop at text) f e in
    let spelled : take f.size (drop at text) ≡ g.spelled = ap (λ (n : ℕ). take n (drop at text)) g.size ∙ ap (take (length g.spelled)) g.parts ∙ take-append_seam g.spelled g.after in
    let place : at ≡ 0 + length (take at text) = omega (arith, front_length text at few) in
    let whole = one_after before g.parts (subst (λ (n : ℕ). Piece n g.spelled g.after (tokens_of at g.spelled f.kind)) place g.piece) in
    let says : new ≡ tokens ++ tokens_of at g.spelled f.kind = now ∙ ap (λ (l : List ℕ). tokens ++ tokens_of at l f.kind) spelled in
    let parts : text ≡ (take at text ++ g.spelled) ++ g.after =
    sym (take-append-drop at text) ∙ ap (λ (l : List ℕ). take at text ++ l) g.parts ∙ sym (append_assoc (take at text) g.spelled g.after) in
    let size : at + f.size ≡ length (take at text ++ g.spelled) = omega (arith, place, g.size, length-append (take at text) g.spelled) in
    subst (λ (t : List Token). Pieces 0 (take (at + f.size) text) (drop (at + f.size) text) t) (sym says)
    (seam (λ (a b : List ℕ). Pieces 0 a b (tokens ++ tokens_of at g.spelled f.kind)) text (take at text ++ g.spelled) g.after (at + f.size) parts size whole)
