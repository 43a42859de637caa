-- What the tokens of a text and their tree say of the text.
use Rattle.std.proofs.Common.{◌≡◌, ℕ, ◌≤◌, ◌<◌, ◌⊎◌, inl, inr, List, length, Result, Ok, Err, refl, ap, ap₂, subst, arith}
use Rattle.std.specs.Result.{IfOk, IfErr, MatchResult}
use Rattle.std.proofs.lemmas.Bool.{cases_lt}
use Rattle.pb_syntax.specs.declared.token.Token.{Token}
use Rattle.pb_syntax.specs.declared.refusal.Item.{Item}
use Rattle.pb_syntax.specs.declared.refusal.Refusal.{Refusal}
use Rattle.pb_syntax.specs.declared.refusal.Refusal.TheVariants.{TooLong, BadToken, BadSyntax, OverLimit, Memory}
use Rattle.pb_syntax.specs.Tokens.{Spells, BadTokenAt}
use Rattle.pb_syntax.specs.Transforms.{TextValue}
use Rattle.pb_syntax.specs.Trees.{TransformTree, bare_text}
use Rattle.pb_syntax.specs.Faults.{Accepted, AreRefused, BadSyntaxAt, OverLimitAt}
use Rattle.pb_syntax.specs.declared.limits.TheConstants.{MOST_BYTES}
use Rattle.pb_lexer.specs.Lexing.{IsLexed, IsUnlexed}
use Rattle.pb_lexer.proofs.EndLemmas.{tokens_or_fault, one_list, no_fault, one_fault}
use Rattle.pb_parser.proofs.Handed.{some_answer, one_tree as one_tree_of, one_place, one_item, not_both as apart, no_bad_program, no_large_program}
use Rattle.pb_front.specs.Reading.{IsRead, HasFault, IsRefused}

-- a text without tokens is refused
unlexed : (text : List ℕ) (why : Refusal) → IsUnlexed text why → IsRefused text why
unlexed text TooLong long = long
unlexed text (BadToken at) bad = bad
unlexed text other no_cause = absurd no_cause

pub lexed : (text : List ℕ) (why : Refusal) → (why ≡ Memory) ⊎ IsUnlexed text why → (why ≡ Memory) ⊎ IsRefused text why
lexed text why (inl e) = inl e
lexed text why (inr h) = inr (unlexed text why h)

-- the answer to the tokens of a text is that to the text
pub parsed_tree : (text : List ℕ) (tokens : List Token) (r : Result TextValue Refusal) → IsLexed text tokens
    → IfOk r (λ t. Accepted (bare_text t) tokens) → IfOk r (λ t. IsRead text (bare_text t))
parsed_tree text tokens (Ok t) l accepted = record { short = l.short; tokens = tokens; spelled = l.spelled; accepted = accepted }
parsed_tree text tokens (Err e) l accepted = tt

refused_so : (text : List ℕ) (tokens : List Token) (why : Refusal) → IsLexed text tokens → AreRefused tokens (length text) why → IsRefused text why
refused_so text tokens (BadSyntax at) l bad = record { short = l.short; tokens = tokens; spelled = l.spelled; faulty = bad }
refused_so text tokens (OverLimit what at) l over = record { short = l.short; tokens = tokens; spelled = l.spelled; faulty = over }
refused_so text tokens other l no_cause = absurd no_cause

refused_or : (text : List ℕ) (tokens : List Token) (why : Refusal) → IsLexed text tokens
    → (why ≡ Memory) ⊎ AreRefused tokens (length text) why → (why ≡ Memory) ⊎ IsRefused text why
refused_or text tokens why l (inl e) = inl e
refused_or text tokens why l (inr h) = inr (refused_so text tokens why l h)

pub parsed_refusal : (text : List ℕ) (tokens : List Token) (r : Result TextValue Refusal) → IsLexed text tokens
    → IfErr r (λ e. (e ≡ Memory) ⊎ AreRefused tokens (length text) e) → IfErr r (λ e. (e ≡ Memory) ⊎ IsRefused text e)
parsed_refusal text tokens (Ok t) l refused = tt
parsed_refusal text tokens (Err e) l refused = refused_or text tokens e l refused

-- a text has one reading
pub one_tree : (text : List ℕ) (first second : List TransformTree) → IsRead text first → IsRead text second → first ≡ second
one_tree text first second a b =
    one_tree_of b.tokens first second (subst (λ l. Accepted first l) (one_list text a.tokens b.tokens a.spelled b.spelled) a.accepted).0 b.accepted.0

-- a fault of a text's tokens, whichever list they are
moved : {F : List Token → Type 0} (text : List ℕ) (tokens : List Token) → Spells text tokens → HasFault text F → F tokens
moved {F} text tokens spelled a = subst F (one_list text a.tokens tokens a.spelled spelled) a.faulty

no_tokens : {F : List Token → Type 0} (text : List ℕ) (at : ℕ) → (length text ≤ MOST_BYTES) × BadTokenAt text at → HasFault text F → ⊥
no_tokens text at bad a = no_fault text a.tokens at a.spelled bad.1

pub not_both : (text : List ℕ) (tree : List TransformTree) (why : Refusal) → IsRead text tree → IsRefused text why → ⊥
not_both text tree TooLong a long = absurd (omega (arith, a.short, long))
not_both text tree (BadToken at) a bad = no_fault text a.tokens at a.spelled bad.1
not_both text tree (BadSyntax at) a bad = no_bad_program a.tokens (length text) at tree (moved text a.tokens a.spelled bad) a.accepted
not_both text tree (OverLimit what at) a over = no_large_program a.tokens what at tree (moved text a.tokens a.spelled over) a.accepted
not_both text tree other a no_cause = no_cause

one_length : (text : List ℕ) (second : Refusal) → MOST_BYTES < length text → IsRefused text second → TooLong ≡ second
one_length text TooLong a b = refl
one_length text (BadToken at) a b = absurd (omega (arith, a, b.0))
one_length text (BadSyntax at) a b = absurd (omega (arith, a, b.short))
one_length text (OverLimit what at) a b = absurd (omega (arith, a, b.short))
one_length text other a no_cause = absurd no_cause

one_byte : (text : List ℕ) (at : ℕ) (second : Refusal) → (length text ≤ MOST_BYTES) × BadTokenAt text at → IsRefused text second → BadToken at ≡ second
one_byte text at TooLong a b = absurd (omega (arith, b, a.0))
one_byte text at (BadToken other) a b = ap BadToken (one_fault text at other a.1 b.1)
one_byte text at (BadSyntax other) a b = absurd (no_tokens text at a b)
one_byte text at (OverLimit what other) a b = absurd (no_tokens text at a b)
one_byte text at other a no_cause = absurd no_cause

one_end : (text : List ℕ) (at : ℕ) (second : Refusal) → HasFault text (λ tokens. BadSyntaxAt tokens (length text) at) → IsRefused text second → BadSyntax at ≡ second
one_end text at TooLong a b = absurd (omega (arith, b, a.short))
one_end text at (BadToken other) a b = absurd (no_tokens text other b a)
one_end text at (BadSyntax other) a b = ap BadSyntax (one_place b.tokens (length text) at other (moved text b.tokens b.spelled a) b.faulty)
one_end text at (OverLimit what other) a b = absurd (apart b.tokens (length text) at what other (moved text b.tokens b.spelled a) b.faulty)
one_end text at other a no_cause = absurd no_cause

one_excess : (text : List ℕ) (what : Item) (at : ℕ) (second : Refusal) → HasFault text (λ tokens. OverLimitAt tokens what at) → IsRefused text second → OverLimit what at ≡ second
one_excess text what at TooLong a b = absurd (omega (arith, b, a.short))
one_excess text what at (BadToken other) a b = absurd (no_tokens text other b a)
one_excess text what at (BadSyntax other) a b = absurd (apart a.tokens (length text) other what at (moved text a.tokens a.spelled b) a.faulty)
one_excess text what at (OverLimit item other) a b = let e = one_item b.tokens what item at other (moved text b.tokens b.spelled a) b.faulty in ap₂ OverLimit e.0 e.1
one_excess text what at other a no_cause = absurd no_cause

pub one_refusal : (text : List ℕ) (first second : Refusal) → IsRefused text first → IsRefused text second → first ≡ second
one_refusal text TooLong second a b = one_length text second a b
one_refusal text (BadToken at) second a b = one_byte text at second a b
one_refusal text (BadSyntax at) second a b = one_end text at second a b
one_refusal text (OverLimit what at) second a b = one_excess text what at second a b
one_refusal text other second no_cause b = absurd no_cause

pub some_reading : (text : List ℕ) → ((tree : List TransformTree) × IsRead text tree) ⊎ ((why : Refusal) × IsRefused text why)
some_reading text = elim (cases_lt MOST_BYTES (length text)) [
  | inl long ↦ inr (TooLong, long)
  | inr short ↦ elim (tokens_or_fault text) [
    | inr bad ↦ inr (BadToken bad.0, (short, bad.1))
    | inl found ↦ elim (some_answer found.0 (length text)) [
      | inl accepted ↦ inl (accepted.0, record { short = short; tokens = found.0; spelled = found.1; accepted = accepted.1 })
      | inr (inl bad) ↦ inr (BadSyntax bad.0, record { short = short; tokens = found.0; spelled = found.1; faulty = bad.1 })
      | inr (inr over) ↦ inr (OverLimit over.0 over.1, record { short = short; tokens = found.0; spelled = found.1; faulty = over.2 })
    ]
  ]
]

-- a text that can be read is read, unless memory ran out
pub complete : (text : List ℕ) (r : Result TextValue Refusal) → IfOk r (λ t. IsRead text (bare_text t)) → IfErr r (λ e. (e ≡ Memory) ⊎ IsRefused text e)
    → (tree : List TransformTree) → IsRead text tree → MatchResult r (λ t. bare_text t ≡ tree) (λ e. e ≡ Memory)
complete text (Ok t) found refused tree read = one_tree text (bare_text t) tree found read
complete text (Err e) found refused tree read = elim refused [ inl out ↦ out | inr why ↦ absurd (not_both text tree e read why) ]
