-- Where tokens begin no program any more, and where an item is too many.
use Rattle.std.specs.Prelude.{◌≡◌, ℕ, ◌≤◌, ◌<◌, List, [], ◌∷◌, ◌++◌, length}
use Rattle.pb_syntax.specs.declared.token.Token.{Token}
use Rattle.pb_syntax.specs.declared.refusal.Item.{Item}
use Rattle.pb_syntax.specs.declared.refusal.Refusal.{Refusal}
use Rattle.pb_syntax.specs.declared.refusal.Refusal.TheVariants.{BadSyntax, OverLimit}
use Rattle.pb_syntax.specs.Trees.{TransformTree}
use Rattle.pb_syntax.specs.Grammar.{IsProgram}
use Rattle.pb_syntax.specs.TooMany.{TooMany, in_program}

-- some tokens after these make a program
pub record Begins (front : List Token) : Type 0 where
  pub others : List Token
  pub tree : List TransformTree
  pub program : IsProgram tree (front ++ others)

-- no program begins with the first token after these, or is these alone where none is after
abbrev pub NoneGoesOn : List Token → List Token → Type 0
NoneGoesOn front [] = (tree : List TransformTree) → IsProgram tree front → ⊥
NoneGoesOn front (t ∷ _) = (tree : List TransformTree) (others : List Token) → IsProgram tree (front ++ t ∷ others) → ⊥

-- the place of the first token, or the end of the text
abbrev pub place_or : ℕ → List Token → ℕ
place_or end [] = end
place_or end (t ∷ _) = t.at

-- the first item too many, if there is one, is seen in these last tokens
abbrev pub FirstSeenIn : List Token → List TooMany → Type 0
FirstSeenIn others [] = Unit {0}
FirstSeenIn others (x ∷ _) = x.left ≤ length others

-- the first item too many is this one, and it is seen before these last tokens
abbrev pub FirstIs : Item → ℕ → List Token → List TooMany → Type 0
FirstIs what at others [] = ⊥
FirstIs what at others (x ∷ _) = (x.what ≡ what) × (x.at ≡ at) × (length others < x.left)

-- the tokens before the place begin a program, those up to and with it begin none, and no item is too many before it
pub record BadSyntaxAt (tokens : List Token) (end at : ℕ) : Type 0 where
  pub front : List Token
  pub rest : List Token
  pub parts : tokens ≡ front ++ rest
  pub place : at ≡ place_or end rest
  pub before : Begins front
  pub none : NoneGoesOn front rest
  pub few : (tree : List TransformTree) (others : List Token) (p : IsProgram tree (front ++ others)) → FirstSeenIn others (in_program p)

-- some of the first tokens begin a program, and in each program that begins so this is the first item too many
pub record OverLimitAt (tokens : List Token) (what : Item) (at : ℕ) : Type 0 where
  pub front : List Token
  pub rest : List Token
  pub parts : tokens ≡ front ++ rest
  pub before : Begins front
  pub first : (tree : List TransformTree) (others : List Token) (p : IsProgram tree (front ++ others)) → FirstIs what at others (in_program p)

-- these tokens are a program in which nothing is too many
abbrev pub Accepted : List TransformTree → List Token → Type 0
Accepted tree tokens = (p : IsProgram tree tokens) × (in_program p ≡ [])

-- these tokens, of a text that ends there, are refused so
abbrev pub AreRefused : List Token → ℕ → Refusal → Type 0
AreRefused tokens end (BadSyntax at) = BadSyntaxAt tokens end at
AreRefused tokens end (OverLimit what at) = OverLimitAt tokens what at
AreRefused tokens end _ = ⊥
