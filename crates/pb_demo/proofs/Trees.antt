-- The trees of the two texts, and the programs that they are.
use Rattle.std.proofs.Common.{◌≡◌, refl, ℕ, ◌≤◌, Bool, true, false, List, [], length, Option, Some, None, arith}
use Rattle.std.specs.Prelude.{is_some}
use Rattle.pb_syntax.specs.declared.token.Token.{Token}
use Rattle.pb_syntax.specs.Trees.{TransformTree}
use Rattle.pb_syntax.specs.Faults.{Accepted}
use Rattle.pb_grammar.specs.Reading.{Verdict, accepted, bad, too_many, read}
use Rattle.pb_grammar.specs.Meaning.{Means}
use Rattle.pb_grammar.specs.Want.{program as a_program, after_mark, expression, conjunction, compared, total, product, name_token, dimensions}
use Rattle.pb_grammar.proofs.Exact.{read_means}
use Rattle.pb_front.specs.Reading.{IsRead}
use Rattle.pb_names.specs.Transforms.{program_of, IsResolved}
use Rattle.pb_program.specs.Trees.{ProgTransform}
use Rattle.pb_types.specs.Types.{broken}
use Rattle.pb_types.specs.Views.{view_broken}
use Rattle.pb_types.specs.Plans.{plan_view_broken, dim_broken, term_broken, target_misfit, unmade}
use Rattle.pb_syntax.specs.declared.limits.TheConstants.{MOST_BYTES}
use Rattle.pb_gen.specs.Texts.{text_of}
use Rattle.pb_demo.proofs.Texts.{lex, spells}

abbrev or_none : Option (List Token) → List Token
or_none None = []
or_none (Some ts) = ts

abbrev pub tokens_of : ℕ → List Token
tokens_of which = or_none (lex 2000 0 (text_of which))

abbrev tree_read : Verdict → List TransformTree
tree_read (accepted tree) = tree
tree_read _ = []

abbrev is_accepted : Verdict → Bool
is_accepted (accepted tree) = true
is_accepted _ = false

abbrev pub tree_of : ℕ → List TransformTree
tree_of which = tree_read (read 0 (tokens_of which) a_program)

abbrev pub program : ℕ → List ProgTransform
program which = program_of (tree_of which)

found : (o : Option (List Token)) → is_some o ≡ true → o ≡ Some (or_none o)
found None e = absurd (cc)
found (Some ts) e = refl

accepts : (tokens : List Token) (v : Verdict) → is_accepted v ≡ true → Means tokens 0 v → Accepted (tree_read v) tokens
accepts tokens (accepted tree) e m = m
accepts tokens (bad l a) e m = absurd (cc)
accepts tokens (too_many w l a) e m = absurd (cc)

roll_lexed : is_some (lex 2000 0 (text_of 1)) ≡ true
roll_lexed = refl

multiply_lexed : is_some (lex 2000 0 (text_of 0)) ≡ true
multiply_lexed = refl

roll_accepted : is_accepted (read 0 (tokens_of 1) a_program) ≡ true
unfolding after_mark expression conjunction compared total product name_token dimensions
roll_accepted = refl

multiply_accepted : is_accepted (read 0 (tokens_of 0) a_program) ≡ true
unfolding after_mark expression conjunction compared total product name_token dimensions
multiply_accepted = refl

module _ (which : ℕ) (few : length (text_of which) ≤ MOST_BYTES) (lexed : is_some (lex 2000 0 (text_of which)) ≡ true) (taken : is_accepted (read 0 (tokens_of which) a_program) ≡ true) where
  is_read : IsRead (text_of which) (tree_of which)
  is_read = record {
    short = few;
    tokens = tokens_of which;
    spelled = spells 2000 (text_of which) (tokens_of which) (found _ lexed);
    accepted = accepts (tokens_of which) (read 0 (tokens_of which) a_program) taken (read_means 0 (tokens_of which));
  }

pub roll_read : IsRead (text_of 1) (tree_of 1)
roll_read = is_read 1 (omega arith) roll_lexed roll_accepted

pub multiply_read : IsRead (text_of 0) (tree_of 0)
multiply_read = is_read 0 (omega arith) multiply_lexed multiply_accepted

pub roll_resolved : IsResolved (tree_of 1) (program 1)
unfolding after_mark expression conjunction compared total product name_token dimensions
roll_resolved = record { faultless = refl; program = refl }

pub multiply_resolved : IsResolved (tree_of 0) (program 0)
unfolding after_mark expression conjunction compared total product name_token dimensions
multiply_resolved = record { faultless = refl; program = refl }

pub roll_typed : broken (program 1) ≡ []
unfolding after_mark expression conjunction compared total product name_token dimensions view_broken
roll_typed = refl

pub multiply_typed : broken (program 0) ≡ []
unfolding after_mark expression conjunction compared total product name_token dimensions view_broken plan_view_broken dim_broken term_broken target_misfit unmade
multiply_typed = refl
