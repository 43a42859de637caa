-- Pieces one after the other: how one more is put after them, and that a text has them in one way alone.
use Rattle.std.proofs.Common.{◌≡◌, ℕ, zero, suc, ◌+◌, ◌<◌, ◌≤◌, ◌⊎◌, inl, inr, List, [], ◌∷◌, ◌++◌, length, take, drop, Option, Some, None, refl, sym, ◌∙◌, ap, subst, arith, append_assoc, append-nil, length-append}
use Rattle.std.proofs.Math.Seq.{take-append_seam, drop-append_seam}
use Rattle.std.proofs.lemmas.Option.{none-some, same_Some}
use Rattle.pb_syntax.specs.declared.token.Token.{Token}
use Rattle.pb_syntax.specs.Tokens.{Piece, blank, Pieces, none, one_more, Spells, BadTokenAt}
use Rattle.pb_lexer.specs.declared.piece.Front.{Front}
use Rattle.pb_lexer.specs.Reading.{piece_read, tokens_of}
use Rattle.pb_lexer.proofs.PieceLemmas.{taken, found}

-- where something stands first, nothing is read only if it is no piece
pub stops : (at : ℕ) (x : List ℕ) → ((first rest : List ℕ) (here : List Token) → x ≡ first ++ rest → Piece at first rest here → ⊥) → piece_read x ≡ None
stops at x h = step (piece_read x) refl
  where
    step : (o : Option Front) → piece_read x ≡ o → o ≡ None
    step None e = refl
    step (Some f) e = let g = found at x f e in absurd (h g.spelled g.after _ g.parts g.piece)

pub begins_none : (at : ℕ) (x : List ℕ) → piece_read x ≡ None → (first rest : List ℕ) (here : List Token) → x ≡ first ++ rest → Piece at first rest here → ⊥
begins_none at x e first rest here parts piece = none-some _ (sym e ∙ ap piece_read parts ∙ (taken piece).read)

pub one_after : {at : ℕ} {a b first rest : List ℕ} {ts here : List Token} → Pieces at a b ts → b ≡ first ++ rest → Piece (at + length a) first rest here
    → Pieces at (a ++ first) rest (ts ++ here)
one_after {at = at} {first = first} {rest = rest} {here = here} none e p =
    let whole : Pieces at (first ++ []) rest (here ++ []) = one_more (subst (λ (n : ℕ). Piece n first rest here) (omega arith) p) none in
    subst (λ (l : List ℕ). Pieces at l rest here) (append-nil first) (subst (λ (t : List Token). Pieces at (first ++ []) rest t) (append-nil here) whole)
one_after {at = at} {first = first} {rest = rest} {here = here} (one_more {first = f} {rest = r} {after = b} {here = h} {later = l} q qs) e p =
    let place : at + length (f ++ r) ≡ at + length f + length r = omega (arith, length-append f r) in
    let after : r ++ b ≡ (r ++ first) ++ rest = ap (λ (m : List ℕ). r ++ m) e ∙ sym (append_assoc r first rest) in
    let more : Pieces (at + length f) (r ++ first) rest (l ++ here) = one_after qs e (subst (λ (n : ℕ). Piece n first rest here) place p) in
    rw (append_assoc f r first, append_assoc h l here) (one_more (subst (λ (m : List ℕ). Piece at f m h) after q) more)

-- two ways to read one text, each up to where nothing can be read, are the same
pub one_end : {at other : ℕ} {a b x y : List ℕ} {ts us : List Token} → Pieces at a x ts → Pieces other b y us → at ≡ other
    → piece_read x ≡ None → piece_read y ≡ None → a ++ x ≡ b ++ y → (a ≡ b) × (ts ≡ us) × (x ≡ y)
one_end none none s f g e = (refl, refl, e)
one_end none (one_more {first = first} {rest = rest} {after = after} p ps) s f g e =
    absurd (none-some _ (sym f ∙ ap piece_read (e ∙ append_assoc first rest after) ∙ (taken p).read))
one_end (one_more {first = first} {rest = rest} {after = after} p ps) none s f g e =
    absurd (none-some _ (sym g ∙ ap piece_read (sym e ∙ append_assoc first rest after) ∙ (taken p).read))
one_end {at = at} {other = other} (one_more {first = c} {rest = r} {after = x} p ps) (one_more {first = d} {rest = s} {after = y} q qs) w f g e =
    let t = taken p in
    let u = taken q in
    let texts : c ++ (r ++ x) ≡ d ++ (s ++ y) = sym (append_assoc c r x) ∙ e ∙ append_assoc d s y in
    let fronts = same_Some _ _ (sym t.read ∙ ap piece_read texts ∙ u.read) in
    let kinds : t.kind ≡ u.kind = ap (λ (i : Front). i.kind) fronts in
    let sizes : length c ≡ length d = ap (λ (i : Front). i.size) fronts in
    let firsts : c ≡ d = sym (take-append_seam c (r ++ x)) ∙ ap (take (length c)) texts ∙ ap (λ (n : ℕ). take n (d ++ (s ++ y))) sizes ∙ take-append_seam d (s ++ y) in
    let rests : r ++ x ≡ s ++ y = sym (drop-append_seam c (r ++ x)) ∙ ap (drop (length c)) texts ∙ ap (λ (n : ℕ). drop n (d ++ (s ++ y))) sizes ∙ drop-append_seam d (s ++ y) in
    let here = t.says ∙ ap (tokens_of at c) kinds ∙ ap (λ (l : List ℕ). tokens_of at l u.kind) firsts ∙ ap (λ (n : ℕ). tokens_of n d u.kind) w ∙ sym u.says in
    let later = one_end ps qs (omega (arith, w, sizes)) f g rests in
    (ap (λ (l : List ℕ). l ++ r) firsts ∙ ap (λ (l : List ℕ). d ++ l) later.0, rw (here, later.1) refl, later.2)

pub one_list : (text : List ℕ) (first second : List Token) → Spells text first → Spells text second → first ≡ second
one_list text first second one two = (one_end one two refl refl refl refl).1

pub no_fault : (text : List ℕ) (tokens : List Token) (at : ℕ) → Spells text tokens → BadTokenAt text at → ⊥
no_fault text tokens at one bad =
    let both = one_end one bad.before refl refl (stops at (bad.fault ∷ bad.after) bad.begins_none) (append-nil text ∙ bad.parts) in
    absurd (cc)

pub one_fault : (text : List ℕ) (at other : ℕ) → BadTokenAt text at → BadTokenAt text other → at ≡ other
one_fault text at other bad worse =
    let both = one_end bad.before worse.before refl (stops at _ bad.begins_none) (stops other _ worse.begins_none) (sym bad.parts ∙ worse.parts) in
    bad.place ∙ ap length both.0 ∙ sym worse.place

-- a text has a list of tokens, or a byte that begins none
not_empty : {at : ℕ} {first after : List ℕ} {here : List Token} → Piece at first after here → 0 < length first
not_empty (blank i) = omega arith
not_empty _ = omega arith

abbrev Said : List ℕ → Type 0
Said text = ((tokens : List Token) × Spells text tokens) ⊎ ((at : ℕ) × BadTokenAt text at)

said_after : (n : ℕ) (front rest : List ℕ) (ts : List Token) → length rest ≤ n → Pieces 0 front rest ts → Said (front ++ rest)
said_after n front [] ts few p = inl (ts, subst (λ l. Pieces 0 l [] ts) (sym (append-nil front)) p)
said_after zero front (b ∷ rest) ts few p = absurd (omega arith)
said_after (suc n) front (b ∷ rest) ts few p = step (piece_read (b ∷ rest)) refl (λ f g ts h q. said_after n f g ts h q)
  where
    step : (o : Option Front) → piece_read (b ∷ rest) ≡ o
        → ((f g : List ℕ) (ts : List Token) → length g ≤ n → Pieces 0 f g ts → Said (f ++ g)) → Said (front ++ (b ∷ rest))
    step None e further =
        let none_here = begins_none (length front) (b ∷ rest) e in
        inr (length front, record { front = front; fault = b; after = rest; tokens = ts; parts = refl; before = p; place = refl; begins_none = none_here })
    step (Some f) e further =
        let g = found (0 + length front) (b ∷ rest) f e in
        let less : length g.after ≤ n = omega (arith, few, not_empty g.piece, ap length g.parts, length-append g.spelled g.after) in
        subst Said (append_assoc front g.spelled g.after ∙ ap (λ l. front ++ l) (sym g.parts))
        (further (front ++ g.spelled) g.after _ less (one_after p g.parts g.piece))

pub tokens_or_fault : (text : List ℕ) → Said text
tokens_or_fault text = said_after (length text) [] text [] (omega arith) none
