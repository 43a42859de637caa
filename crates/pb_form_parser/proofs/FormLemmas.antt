-- The tokens of forms.
use Rattle.std.proofs.Common.{◌≡◌, ◌≢◌, ℕ, Bool, false, List, [], ◌∷◌, length, refl, ap}
use Rattle.pb_syntax.specs.declared.token.Token.{Token}
use Rattle.pb_syntax.specs.declared.kind.TokenKind.{TokenKind}
use Rattle.pb_syntax.specs.declared.kind.TokenKind.TheVariants.{Number, Minus}
use Rattle.pb_syntax.specs.declared.tree.form.TermText.{TermText}
use Rattle.pb_syntax.specs.Kinds.{kind_of}
use Rattle.pb_syntax.specs.Forms.{FormValue}
use Rattle.pb_grammar.specs.Next.{next_kind}
use Rattle.pb_grammar.specs.Want.{Want, form, term, small, times}
use Rattle.pb_grammar.specs.Reading.{Step, step, on, read, form_step, signed_form}

pub term_number : (end : ℕ) (ts : List Token) (m : Bool) (f : TermText → Want) → next_kind ts ≡ Number
    → read end ts (term m f) ≡ read end ts (small (λ n. times m n f))
term_number end [] m f h = refl
term_number end (t ∷ ts) m f h = rw h refl

form_step_else : (t : Token) (f : FormValue → Want) (kind : TokenKind) → kind ≢ Minus → form_step f kind t ≡ step (term false (signed_form false f)) kind t
form_step_else t f Minus h = absurd (h refl)
form_step_else t f _ h = refl

pub form_else : (end : ℕ) (ts : List Token) (f : FormValue → Want) → next_kind ts ≢ Minus
    → read end ts (form f) ≡ read end ts (term false (signed_form false f))
form_else end [] f h = refl
form_else end (t ∷ ts) f h = ap (λ (s : Step). on s (length (t ∷ ts)) t.at (read end ts)) (form_step_else t f (kind_of t) h)
