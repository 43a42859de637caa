-- Faults that are told at tokens, in the order of the tokens.
use Rattle.std.proofs.Common.{◌≡◌, ℕ, ◌+◌, ◌≤◌, Bool, true, false, not, List, [], ◌∷◌, ◌++◌, map, refl, ◌∙◌, arith}
use Rattle.std.specs.List.{AllByRecursion, flat_map}
use Rattle.std.specs.Option.{option_map_or}
use Rattle.pb_values.specs.Name.{NameValue}
use Rattle.pb_syntax.proofs.TestLemmas.{each}
use Rattle.pb_syntax.specs.declared.kind.TokenKind.{TokenKind}
use Rattle.pb_syntax.specs.declared.kind.TokenKind.TheVariants as k
use Rattle.pb_syntax.specs.declared.token.Token.{Token}
use Rattle.pb_syntax.specs.declared.token.TokenWhat.{TokenWhat}
use Rattle.pb_syntax.specs.declared.token.TokenWhat.TheVariants as what
use Rattle.pb_syntax.specs.declared.tree.form.TermText.{TermText}
use Rattle.pb_syntax.specs.Forms.{FormValue}
use Rattle.pb_syntax.specs.Kinds.{Is, kind_of_what, name_in, name_in_what, sign_kind}
use Rattle.pb_syntax.specs.Lexemes.{AreLexemes, IsLexemeAt, RiseBetween}
use Rattle.pb_syntax.specs.Grammar.{Commas, IsDims, IsForm, IsTerm, IsTerms}
use Rattle.pb_syntax.specs.Grammar as g
use Rattle.pb_names.specs.declared.fault.Fault.{Fault}
use Rattle.pb_names.specs.Faults.{bad_output, duplicate, not_bound, unknown}
use Rattle.pb_names.specs.Places.{NeverFalls, place_of}
use Rattle.pb_names.specs.Turns.{turn_faults}
use Rattle.pb_names.proofs.ListFits.{all_same}

-- these faults are told at names among the tokens before the rest
pub data Told : List Fault → List Token → List Token → Type 0 where
  nothing : {rest : List Token} → Told [] rest rest
  skip : {faults : List Fault} {t : Token} {all rest : List Token} → Told faults all rest → Told faults (t ∷ all) rest
  tell : {f : Fault} {faults : List Fault} {t : Token} {all rest : List Token} → Is k.Name t → place_of f ≡ (name_in t).at → Told faults (t ∷ all) rest
      → Told (f ∷ faults) (t ∷ all) rest

pub join : {fs gs : List Fault} {all mid rest : List Token} → Told fs all mid → Told gs mid rest → Told (fs ++ gs) all rest
join nothing k = k
join (skip h) k = skip (join h k)
join (tell is e h) k = tell is e (join h k)

-- a token more, at which nothing is told
pub past : {fs : List Fault} {all rest : List Token} {t : Token} → Told fs all (t ∷ rest) → Told fs all rest
past h = further h (skip nothing)
  where
    further : {fs : List Fault} {all mid rest : List Token} → Told fs all mid → Told [] mid rest → Told fs all rest
    further nothing k = k
    further (skip h) k = skip (further h k)
    further (tell is e h) k = tell is e (further h k)

-- faults of a name
abbrev pub Of : NameValue → List Fault → Type 0
Of n fs = AllByRecursion (λ f. place_of f ≡ n.at) fs

pub unknown_of : (b : Bool) (n : NameValue) → Of n (unknown b n)
unknown_of true n = (refl, tt {0})
unknown_of false n = tt {0}

pub duplicate_of : (b : Bool) (n : NameValue) → Of n (duplicate b n)
duplicate_of true n = (refl, tt {0})
duplicate_of false n = tt {0}

pub not_bound_of : (b : Bool) (n : NameValue) → Of n (not_bound b n)
not_bound_of true n = (refl, tt {0})
not_bound_of false n = tt {0}

pub bad_output_of : (b : Bool) (n : NameValue) → Of n (bad_output b n)
bad_output_of true n = (refl, tt {0})
bad_output_of false n = tt {0}

-- those of a name, and then those from it on; and those of a name alone
pub stay : {fs : List Fault} {t : Token} {all rest : List Token} (gs : List Fault) → Is k.Name t → Of (name_in t) gs → Told fs (t ∷ all) rest
    → Told (gs ++ fs) (t ∷ all) rest
stay [] is of h = h
stay (f ∷ gs) is of h = tell is of.0 (stay gs is of.1 h)

pub named : {t : Token} {rest : List Token} (gs : List Fault) → Is k.Name t → Of (name_in t) gs → Told gs (t ∷ rest) rest
named [] is of = skip nothing
named (f ∷ gs) is of = tell is of.0 (named gs is of.1)

-- items between commas
module _ {S A : Type 0} {Item : A → List Token → List Token → Type 0} where
  pub turns_told : (next : S → A → S) (faults : S → A → List Fault) → ((s : S) (x : A) (all rest : List Token) → Item x all rest → Told (faults s x) all rest)
      → (s : S) {xs : List A} {all rest : List Token} → Commas Item xs all rest → Told (turn_faults next faults s xs) all rest
  turns_told next faults h s g.no_comma = nothing
  turns_told next faults h s (g.a_comma {x = x} {all = all} {mid = mid} c i more) = skip (join (h s x all mid i) (turns_told next faults h (next s x) more))

module _ {A : Type 0} {Item : A → List Token → List Token → Type 0} where
  pub items_told : (faults : A → List Fault) → ((x : A) (all rest : List Token) → Item x all rest → Told (faults x) all rest)
      → {xs : List A} {all rest : List Token} → Commas Item xs all rest → Told (flat_map faults xs) all rest
  items_told faults h g.no_comma = nothing
  items_told faults h (g.a_comma {x = x} {all = all} {mid = mid} c i more) = skip (join (h x all mid i) (items_told faults h more))

-- forms, by the faults of a name in them
module _ (faults : NameValue → List Fault) (of : (n : NameValue) → Of n (faults n)) where
  abbrev term_faults : TermText → List Fault
  term_faults t = option_map_or faults t.name []

  abbrev form_faults : FormValue → List Fault
  form_faults f = flat_map term_faults f.terms

  term_told : {m : Bool} {t : TermText} {all rest : List Token} → IsTerm m t all rest → Told (term_faults t) all rest
  term_told (g.number_term i) = skip nothing
  term_told (g.name_term {t = t} i) = named (faults (name_in t)) i (of (name_in t))
  term_told (g.multiple {n = n} i j l) = skip (skip (named (faults (name_in n)) l (of (name_in n))))
  term_told (g.fraction {n = n} i j l least most) = past (past (named (faults (name_in n)) i (of (name_in n))))

  terms_told : {ts : List TermText} {all rest : List Token} → IsTerms ts all rest → Told (flat_map term_faults ts) all rest
  terms_told g.no_terms = nothing
  terms_told (g.plus i t ts) = skip (join (term_told t) (terms_told ts))
  terms_told (g.minus i t ts) = skip (join (term_told t) (terms_told ts))

  pub form_told : {f : FormValue} {all rest : List Token} → IsForm f all rest → Told (form_faults f) all rest
  form_told (g.plain_form t ts) = join (term_told t) (terms_told ts)
  form_told (g.minus_form i t ts) = skip (join (term_told t) (terms_told ts))

  pub dims_told : {ds : List FormValue} {all rest : List Token} → IsDims ds all rest → Told (flat_map form_faults ds) all rest
  dims_told (g.one_dim x c) = join (form_told x) (skip nothing)
  dims_told (g.two_dims x m y c) = join (form_told x) (skip (join (form_told y) (skip nothing)))

-- the places of a token and of the name that it is
abbrev is_name : TokenKind → Bool
is_name k.Name = true
is_name _ = false

name_at : (w : TokenWhat) (at : ℕ) → kind_of_what w ≡ k.Name → IsLexemeAt at w → (name_in_what w).at ≡ at
name_at (what.Word n) at is h = h.1
name_at (what.Number n) at is h = cc
name_at (what.Sign p) at is h = let other = each (λ q. not (is_name (sign_kind q))) 25 p refl h in absurd (cc)

-- what is told at tokens whose places rise stands in order
pub in_order : {fs : List Fault} {all rest : List Token} (least end : ℕ) → Told fs all rest → AreLexemes all → RiseBetween least end all
    → AllByRecursion (λ p. least ≤ p) (map place_of fs) × NeverFalls (map place_of fs)
in_order least end nothing are rise = (tt {0}, tt {0})
in_order least end (skip {faults = fs} {t = t} h) are rise =
    let r = in_order (t.at + 1) end h are.1 rise.2 in
    (all_same (λ p. t.at + 1 ≤ p) (λ p. least ≤ p) (λ p e. omega (arith, rise.0)) (map place_of fs) r.0, r.1)
in_order least end (tell {f = f} {faults = fs} {t = t} is e h) are rise =
    let at : place_of f ≡ t.at = e ∙ name_at t.what t.at is are.0 in
    let r = in_order t.at end h are (omega arith, rise.1, rise.2) in (
      (omega (arith, rise.0), all_same (λ p. t.at ≤ p) (λ p. least ≤ p) (λ p e. omega (arith, rise.0)) (map place_of fs) r.0),
      (all_same (λ p. t.at ≤ p) (λ p. place_of f ≤ p) (λ p e. omega arith) (map place_of fs) r.0, r.1),
    )
