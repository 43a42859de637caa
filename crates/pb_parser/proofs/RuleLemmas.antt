-- The tokens of rules.
use Rattle.std.proofs.Common.{◌≡◌, ◌≢◌, ◌<◌, ℕ, List, [], ◌∷◌, ◌++◌, length, map, Option, Some, None, refl, ap, sym, arith}
use Rattle.std.proofs.lemmas.List.{length-map}
use Rattle.pb_syntax.specs.declared.token.Token.{Token}
use Rattle.pb_syntax.specs.declared.refusal.Item.{Item}
use Rattle.pb_syntax.specs.declared.refusal.Item.TheVariants.{Reads, Rules, Transforms}
use Rattle.pb_syntax.specs.declared.kind.TokenKind.{TokenKind}
use Rattle.pb_syntax.specs.declared.kind.TokenKind.TheVariants as k
use Rattle.pb_syntax.specs.declared.tree.view.UseText.{UseText}
use Rattle.pb_syntax.specs.Kinds.{kind_of}
use Rattle.pb_syntax.specs.Rules.{RuleValue}
use Rattle.pb_syntax.specs.Transforms.{TransformValue}
use Rattle.pb_syntax.specs.Trees.{RuleTree, TransformTree, bare_rule, bare_transform}
use Rattle.pb_grammar.specs.Next.{next_kind}
use Rattle.pb_grammar.specs.Want.{Want, uses, reads, rule, more_rules, begin, a_transform, more_transforms}
use Rattle.pb_syntax.specs.Limits.{over}
use Rattle.pb_grammar.specs.Reading.{Step, step, on, read}

reads_step : (t : Token) (f : List UseText → Want) (kind : TokenKind) → kind ≢ k.Close
    → step (reads f) kind t ≡ step (uses Reads f) kind t
reads_step t f k.Close h = absurd (h refl)
reads_step t f _ h = refl

pub some_reads : (end : ℕ) (ts : List Token) (f : List UseText → Want) → next_kind ts ≢ k.Close
    → read end ts (reads f) ≡ read end ts (uses Reads f)
some_reads end [] f h = refl
some_reads end (t ∷ ts) f h = ap (λ (s : Step). on s (length (t ∷ ts)) t.at (read end ts)) (reads_step t f (kind_of t) h)

rules_step : (t : Token) (rs : List RuleTree) (f : List RuleTree → Want) (kind : TokenKind) → kind ≢ k.CloseBrace
    → step (more_rules rs f) kind t ≡ step (begin (over Rules (length rs)) (rule (λ r. more_rules (rs ++ r ∷ []) f))) kind t
rules_step t rs f k.CloseBrace h = absurd (h refl)
rules_step t rs f _ h = refl

pub next_rule : (end : ℕ) (ts : List Token) (rs : List RuleValue) (f : List RuleTree → Want) → next_kind ts ≢ k.CloseBrace
    → read end ts (more_rules (map bare_rule rs) f) ≡ read end ts (begin (over Rules (length rs)) (rule (λ r. more_rules (map bare_rule rs ++ r ∷ []) f)))
next_rule end [] rs f h = refl
next_rule end (t ∷ ts) rs f h = rw (sym (length-map rs bare_rule))
    (ap (λ (s : Step). on s (length (t ∷ ts)) t.at (read end ts)) (rules_step t (map bare_rule rs) f (kind_of t) h))

pub rules_more : (rs : List RuleValue) (r : RuleValue) → map bare_rule (rs ++ r ∷ []) ≡ map bare_rule rs ++ bare_rule r ∷ []
rules_more [] r = refl
rules_more (x ∷ rs) r = ap (λ (ys : List RuleTree). bare_rule x ∷ ys) (rules_more rs r)

transforms_step : (t : Token) (m : Option Item) (kind : TokenKind) (xs : List TransformTree) → m ≡ over Transforms (length xs)
    → step (more_transforms xs) kind t ≡ step (begin m (a_transform (λ x. more_transforms (xs ++ x ∷ [])))) kind t
transforms_step t m k.Transform xs h = rw h refl
transforms_step t None _ xs h = refl
transforms_step t (Some what) _ xs h = refl

pub next_transform : (end : ℕ) (ts : List Token) (xs : List TransformValue) → 0 < length ts
    → read end ts (more_transforms (map bare_transform xs))
    ≡ read end ts (begin (over Transforms (length xs)) (a_transform (λ x. more_transforms (map bare_transform xs ++ x ∷ []))))
next_transform end [] xs h = grind arith
next_transform end (t ∷ ts) xs h = rw (sym (length-map xs bare_transform)) (ap (λ (s : Step). on s (length (t ∷ ts)) t.at (read end ts))
    (transforms_step t (over Transforms (length (map bare_transform xs))) (kind_of t) (map bare_transform xs) refl))

pub transforms_more : (xs : List TransformValue) (x : TransformValue) → map bare_transform (xs ++ x ∷ []) ≡ map bare_transform xs ++ bare_transform x ∷ []
transforms_more [] x = refl
transforms_more (y ∷ xs) x = ap (λ (ys : List TransformTree). bare_transform y ∷ ys) (transforms_more xs x)
