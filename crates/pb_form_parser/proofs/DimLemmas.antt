-- The tokens after a dimension.
use Rattle.std.proofs.Common.{◌≡◌, ◌≢◌, ℕ, List, [], ◌∷◌, Option, Some, None, length, drop, refl, ap, arith}
use Rattle.pb_syntax.specs.declared.token.Token.{Token}
use Rattle.pb_syntax.specs.declared.kind.TokenKind.{TokenKind}
use Rattle.pb_syntax.specs.declared.kind.TokenKind.TheVariants.{Comma, CloseBracket}
use Rattle.pb_syntax.specs.Kinds.{kind_of}
use Rattle.pb_syntax.specs.Forms.{FormValue}
use Rattle.pb_grammar.specs.Next.{next_kind}
use Rattle.pb_grammar.specs.Want.{Want, form, after_dim, last_dim}
use Rattle.pb_syntax.specs.Limits.{SizeNames, after_form}
use Rattle.pb_grammar.specs.Reading.{Step, Verdict, take, step, on, read}
use Rattle.pb_syntax.specs.Limits.{Excess, excess_of}
use Rattle.pb_form_parser.specs.Dims.{excess_told}
use Rattle.pb_form_parser.specs.Leads.{told}

dim_step : (t : Token) (known : SizeNames) (e : FormValue) (f : List FormValue → Want) (kind : TokenKind) → kind ≢ Comma
    → step (after_dim known e f) kind t ≡ step (last_dim known e (f (e ∷ []))) kind t
dim_step t known e f Comma h = absurd (h refl)
dim_step t known e f _ h = refl

pub dim_last : (end : ℕ) (ts : List Token) (known : SizeNames) (e : FormValue) (f : List FormValue → Want) → next_kind ts ≢ Comma
    → read end ts (after_dim known e f) ≡ read end ts (last_dim known e (f (e ∷ [])))
dim_last end [] known e f h = refl
dim_last end (t ∷ ts) known e f h = ap (λ (s : Step). on s (length (t ∷ ts)) t.at (read end ts)) (dim_step t known e f (kind_of t) h)

excess_step : (x : Option Excess) (left at : ℕ) (w : Want) (further : Want → Verdict)
    → told (on (take x w) left at further) ≡ excess_told x (told (further w))
excess_step None left at w further = refl
excess_step (Some x) left at w further = refl

pub close_over : (end : ℕ) (ts : List Token) (known : SizeNames) (e : FormValue) (w : Want) → next_kind ts ≡ CloseBracket
    → told (read end ts (last_dim known e w)) ≡ excess_told (excess_of known e) (told (read end (drop 1 ts) w))
close_over end [] known e w n = grind arith
close_over end (t ∷ ts) known e w n = rw n (excess_step (excess_of known e) (length (t ∷ ts)) t.at w (read end ts))

pub comma_over : (end : ℕ) (ts : List Token) (known : SizeNames) (e : FormValue) (f : List FormValue → Want) → next_kind ts ≡ Comma
    → told (read end ts (after_dim known e f)) ≡ excess_told (excess_of known e) (told (read end (drop 1 ts) (form (λ y. last_dim (after_form known e) y (f (e ∷ y ∷ []))))))
comma_over end [] known e f n = grind arith
comma_over end (t ∷ ts) known e f n = rw n (excess_step (excess_of known e) (length (t ∷ ts)) t.at _ (read end ts))
