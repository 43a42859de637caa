-- What is known of the next token, and how reading goes on after it.
use denote.Enum.Bare.{true_same, false_same}
use Rattle.pb_syntax.specs.contracts.kind.TokenKind.{the_type}
use Rattle.std.proofs.Common.{◌≡◌, ◌≢◌, ℕ, ◌<◌, List, [], ◌∷◌, length, Err, refl, sym, subst, ◌∙◌, arith}
use Rattle.pb_syntax.specs.declared.token.Token.{Token}
use Rattle.pb_syntax.specs.declared.kind.TokenKind.{TokenKind}
use Rattle.pb_syntax.specs.declared.kind.TokenKind.TheVariants.{End}
use Rattle.pb_form_parser.specs.declared.fault.Fault.TheVariants.{BadSyntax}
use Rattle.pb_syntax.specs.Kinds.{kind_of}
use Rattle.pb_grammar.specs.Next.{next_kind, next_place, Sees}
use Rattle.pb_grammar.specs.Want.{Want, token}
use Rattle.pb_grammar.specs.Reading.{read}
use Rattle.pb_form_parser.specs.Leads.{told}

pub not_end : (ts : List Token) → next_kind ts ≢ End → 0 < length ts
not_end [] h = absurd (h refl)
not_end (t ∷ ts) h = omega arith

pub bad_kind : (end : ℕ) (ts : List Token) (kind : TokenKind) (f : Token → Want) →
    ¬ Sees kind ts → told (read end ts (token kind f)) ≡ Err (BadSyntax (next_place end ts))
bad_kind end [] kind f s = refl
bad_kind end (t ∷ ts) kind f s = rw (false_same the_type tt kind (kind_of t) (λ e. s (sym e))) refl

pub seen_kind : (end : ℕ) (ts rest : List Token) (t : Token) (kind : TokenKind) (f : Token → Want) →
    Sees kind ts → ts ≡ t ∷ rest → read end ts (token kind f) ≡ read end rest (f t)
seen_kind end ts rest t kind f s e =
    let seen : kind_of t ≡ kind = subst (Sees kind) e s in
    rw e (rw (true_same the_type kind (kind_of t) (sym seen)) refl)

pub seen_next : (kind : TokenKind) (ts : List Token) → Sees kind ts → kind ≢ End → next_kind ts ≢ End
seen_next kind [] s h = absurd s
seen_next kind (t ∷ ts) s h = λ e. h (sym s ∙ e)
