-- The tokens of a text are lexemes, and their places rise.
use Rattle.std.proofs.Common.{◌≡◌, ℕ, ◌+◌, ◌<◌, ◌≤◌, List, [], ◌∷◌, ◌++◌, length, get_or, inl, inr, refl, arith, length-append}
use Rattle.std.proofs.lemmas.Bool.{cases_lt}
use Rattle.std.proofs.lemmas.List.{get_or_past}
use Rattle.pb_syntax.specs.declared.token.Token.{Token}
use Rattle.pb_syntax.specs.Signs.{signs}
use Rattle.pb_syntax.specs.Tokens as piece
use Rattle.pb_syntax.specs.Tokens.{Piece, Pieces, Spells}
use Rattle.pb_syntax.specs.Lexemes.{AreLexemes, RiseBetween}
use Rattle.pb_syntax.proofs.SignLemmas.{long_listed, short_listed}

listed : (p b : ℕ) (s : List ℕ) → get_or signs p [] ≡ b ∷ s → p < 25
listed p b s e = elim (cases_lt p 25) [ inl less ↦ less | inr past ↦ let none_there = get_or_past signs p [] past in absurd (cc) ]

lexeme : {at : ℕ} {bytes after : List ℕ} {ts : List Token} → Piece at bytes after ts → AreLexemes ts
lexeme (piece.blank e) = tt
lexeme (piece.line_comment h e) = tt
lexeme (piece.block_comment inside h) = tt
lexeme (piece.word b h e) = (((b, h), refl), tt)
lexeme (piece.number d h e most) = (most, tt)
lexeme (piece.two_byte_sign {a = a} {b = b} {place = p} e) = (listed p _ _ (long_listed a b p e), tt)
lexeme (piece.one_byte_sign {a = a} {place = p} e ends) = (listed p _ _ (short_listed a p e), tt)

both : (a b : List Token) → AreLexemes a → AreLexemes b → AreLexemes (a ++ b)
both [] b g h = h
both (t ∷ a) b g h = (g.0, both a b g.1 h)

lexemes_from : {at : ℕ} {text after : List ℕ} {ts : List Token} → Pieces at text after ts → AreLexemes ts
lexemes_from piece.none = tt
lexemes_from (piece.one_more {here = here} {later = later} p ps) = both here later (lexeme p) (lexemes_from ps)

pub lexemes : (text : List ℕ) (tokens : List Token) → Spells text tokens → AreLexemes tokens
lexemes text tokens s = lexemes_from s

-- from an earlier place, up to a later end
wider : (least at end last : ℕ) (ts : List Token) → least ≤ at → end ≤ last → RiseBetween at end ts → RiseBetween least last ts
wider least at end last [] l m r = tt
wider least at end last (t ∷ ts) l m r = (omega (arith, r.0), omega (arith, r.1), wider (t.at + 1) (t.at + 1) end last ts (omega arith) m r.2)

-- those of a piece come before those after it
joined : {at : ℕ} {bytes after : List ℕ} {ts : List Token} (end : ℕ) (later : List Token) → Piece at bytes after ts → at + length bytes ≤ end
    → RiseBetween (at + length bytes) end later → RiseBetween at end (ts ++ later)
joined end later (piece.blank e) l r = wider _ _ end end later (omega arith) (omega arith) r
joined end later (piece.line_comment h e) l r = wider _ _ end end later (omega arith) (omega arith) r
joined end later (piece.block_comment inside h) l r = wider _ _ end end later (omega arith) (omega arith) r
joined end later (piece.word {more = more} b h e) l r = (omega arith, omega (arith, l), wider _ _ end end later (omega arith) (omega arith) r)
joined end later (piece.number {more = more} d h e most) l r = (omega arith, omega (arith, l), wider _ _ end end later (omega arith) (omega arith) r)
joined end later (piece.two_byte_sign e) l r = (omega arith, omega (arith, l), wider _ _ end end later (omega arith) (omega arith) r)
joined end later (piece.one_byte_sign e ends) l r = (omega arith, omega (arith, l), wider _ _ end end later (omega arith) (omega arith) r)

rise_from : {at : ℕ} {text after : List ℕ} {ts : List Token} → Pieces at text after ts → RiseBetween at (at + length text) ts
rise_from piece.none = tt
rise_from (piece.one_more {at = at} {first = first} {rest = rest} {later = later} p ps) =
    joined (at + length (first ++ rest)) later p (omega (arith, length-append first rest))
    (wider _ _ ((at + length first) + length rest) (at + length (first ++ rest)) later (omega arith) (omega (arith, length-append first rest)) (rise_from ps))

pub rise : (text : List ℕ) (tokens : List Token) → Spells text tokens → RiseBetween 0 (length text) tokens
rise text tokens s = wider 0 0 (0 + length text) (length text) tokens (omega arith) (omega arith) (rise_from s)
