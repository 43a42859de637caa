-- How reading goes on after a mark, and what a refusal says.
use denote.Enum.Bare.{true_same, false_same}
use Rattle.pb_syntax.specs.contracts.kind.TokenKind.{the_type}
use Rattle.std.proofs.Common.{◌≡◌, ◌≢◌, ℕ, true, false, ◌≤◌, List, [], ◌∷◌, length, Some, None, Result, Ok, Err, Option, refl, sym, ap, ◌∙◌, arith}
use Rattle.std.proofs.lemmas.Bool.Decides.{nat_tests}
use Rattle.pb_syntax.specs.declared.token.Token.{Token}
use Rattle.pb_syntax.specs.declared.kind.TokenKind.{TokenKind}
use Rattle.pb_syntax.specs.declared.kind.TokenKind.TheVariants as k
use Rattle.pb_syntax.specs.declared.refusal.Item.{Item}
use Rattle.pb_form_parser.specs.declared.fault.Fault.{Fault}
use Rattle.pb_form_parser.specs.declared.fault.Fault.TheVariants.{BadSyntax, OverLimit, Memory}
use Rattle.pb_syntax.specs.Kinds.{kind_of}
use Rattle.pb_grammar.specs.Next.{next_kind, next_place, next_is, word_is, Sees}
use Rattle.pb_grammar.specs.Want.{Want, begin, token, word}
use Rattle.pb_syntax.specs.Limits.{limited}
use Rattle.pb_grammar.specs.Reading.{Step, take, refuse, read, step, on, taken_if}
use Rattle.pb_form_parser.specs.Leads.{Fails, Leads, from, told}
use Rattle.pb_form_parser.specs.declared.cursor.Cursor.{Cursor}

pub fails_then : (e : Fault) {P Q : Type 0} → Fails e P → (P → Q) → Fails e Q
fails_then Memory p f = tt
fails_then _ p f = f p

pub is_some : (most before : ℕ) (what : Item) → most ≤ before → limited most before what ≡ Some what
is_some most before what l = grind (arith, nat_tests)

pub over_token : (end : ℕ) (ts : List Token) (most before : ℕ) (what : Item) (kind : TokenKind) (f : Token → Want) → most ≤ before →
    Sees kind ts → told (read end ts (begin (limited most before what) (token kind f))) ≡ Err (OverLimit what (next_place end ts))
over_token end [] most before what kind f l s = absurd s
over_token end (t ∷ ts) most before what kind f l s = rw (is_some most before what l, true_same the_type kind (kind_of t) (sym s)) refl

pub bad_token : (end : ℕ) (ts : List Token) (m : Option Item) (kind : TokenKind) (f : Token → Want) →
    ¬ Sees kind ts → told (read end ts (begin m (token kind f))) ≡ Err (BadSyntax (next_place end ts))
bad_token end [] m kind f s = refl
bad_token end (t ∷ ts) None kind f s = rw (false_same the_type tt kind (kind_of t) (λ e. s (sym e))) refl
bad_token end (t ∷ ts) (Some what) kind f s = rw (false_same the_type tt kind (kind_of t) (λ e. s (sym e))) refl

-- what is wanted from here on is what is wanted from further on
pub leads_on : {A B : Type 0} (view : A → B) (r : Result A Fault) (want later : (B → Want) → Want) (before middle after : Cursor) →
    ((f : B → Want) → from before (want f) ≡ from middle (later f)) → Leads view r later middle after → Leads view r want before after
leads_on view (Ok x) want later before middle after e h = λ f. e f ∙ h f
leads_on view (Err r) want later before middle after e h = fails_then r h (λ p f. ap told (e f) ∙ p f)

-- a step that is the same whatever the kind, the kinds named apart
pub same_step : (end : ℕ) (t : Token) (ts : List Token) {x y : Step} → x ≡ y → on x (length (t ∷ ts)) t.at (read end ts) ≡ on y (length (t ∷ ts)) t.at (read end ts)
same_step end t ts e = ap (λ (s : Step). on s (length (t ∷ ts)) t.at (read end ts)) e

pub next_is_not_end : (w : List ℕ) (ts : List Token) → next_is w ts ≡ true → next_kind ts ≢ k.End
next_is_not_end w [] h = absurd (cc)
next_is_not_end w (t ∷ ts) h = not_end (kind_of t) t h
  where
    not_end : (kind : TokenKind) (t : Token) → word_is w kind t ≡ true → kind ≢ k.End
    not_end k.End t h = absurd (cc)
    not_end _ t h = λ e. absurd (cc)

word_step : (w : List ℕ) (further : Want) (kind : TokenKind) (t : Token) → step (word w further) kind t ≡ taken_if (word_is w kind t) further
word_step w further k.Name t = refl
word_step w further _ t = refl

pub word_taken : (end : ℕ) (ts : List Token) (t : Token) (rest : List Token) (w : List ℕ) (further : Want) →
    ts ≡ t ∷ rest → next_is w ts ≡ true → read end ts (word w further) ≡ read end rest further
word_taken end ts t rest w further e h = rw e (same_step end t rest {y = take None further} (word_step w further (kind_of t) t ∙ rw (rw e at h) refl))

pub word_else : (end : ℕ) (ts : List Token) (w : List ℕ) (further : Want) → next_is w ts ≡ false →
    told (read end ts (word w further)) ≡ Err (BadSyntax (next_place end ts))
word_else end [] w further h = refl
word_else end (t ∷ ts) w further h = ap told (same_step end t ts {y = refuse} (word_step w further (kind_of t) t ∙ rw h refl))
