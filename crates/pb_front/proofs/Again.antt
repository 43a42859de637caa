-- What is written as a tree's tokens spells that tree again, places aside.
use Rattle.std.proofs.Common.{◌≡◌, ℕ, suc, List, [], ◌∷◌, ◌++◌, map, refl, ap, ap₂, ◌∙◌, Bool, true, false, nat_le, nat_lt, length, Option, Some, None, if◌then◌else◌, sym, subst}
use Rattle.pb_syntax.specs.declared.token.Token.{Token}
use Rattle.pb_syntax.specs.declared.token.TokenWhat.{TokenWhat}
use Rattle.pb_syntax.specs.declared.token.TokenWhat.TheVariants as what
use Rattle.pb_syntax.specs.declared.kind.TokenKind.TheVariants as k
use Rattle.pb_syntax.specs.declared.refusal.Item.{Item}
use Rattle.pb_syntax.specs.Kinds.{kind_of, kind_of_what, Is, word_kind, name_in, name_in_what, number_in, number_in_what}
use Rattle.pb_prog.specs.Spelling.{Written, word, numeral, after_commas}
use Rattle.pb_prog.specs.Canonical.{written_kind}
use Rattle.pb_syntax.specs.Grammar.{IsWord, Commas, no_comma, a_comma}
use Rattle.pb_syntax.specs.Limits.{over, Excess, most, too_great, SizeNames, alone, is_known, size_excess, excess_of}
use Rattle.pb_syntax.specs.TooMany.{TooMany, in_commas, note, begun}
use Rattle.pb_syntax.specs.Places.{unplaced_name, unplaced_option, unplaced_form}
use Rattle.pb_front.proofs.Written.{written_as, Takes, nothing, one}
use Rattle.pb_values.specs.Name.{NameValue}
use Rattle.pb_syntax.specs.declared.refusal.Item.TheVariants as item
use Rattle.pb_syntax.specs.Forms.{FormValue}
use Rattle.pb_front.proofs.Unplaced.{same_alone}

-- what is written so, cut after its first part
pub data Cut (a b : List Written) (all rest : List Token) : Type 0 where
  cut : {mid : List Token} → Takes a all mid → Takes b mid rest → Cut a b all rest

pub split : {a b : List Written} {all rest : List Token} → Takes (a ++ b) all rest → Cut a b all rest
split {a = []} t = cut nothing t
split {a = w ∷ ws} {b = b} (one e t) = elim (split {a = ws} {b = b} t) [ cut x y ↦ cut (one e x) y ]

-- a token by how it is written
kind_written : (v : TokenWhat) → kind_of_what v ≡ written_kind (written_as v)
kind_written (what.Word n) = refl
kind_written (what.Number n) = refl
kind_written (what.Sign p) = refl

pub is : {w : Written} (t : Token) → written_as t.what ≡ w → kind_of t ≡ written_kind w
is t e = kind_written t.what ∙ ap written_kind e

name_written : (v : TokenWhat) (w : List ℕ) → written_as v ≡ word w → (name_in_what v).bytes ≡ w
name_written (what.Word n) w e = cc
name_written (what.Number n) w e = absurd (cc)
name_written (what.Sign p) w e = absurd (cc)

number_written : (v : TokenWhat) (n : ℕ) → written_as v ≡ numeral n → number_in_what v ≡ n
number_written (what.Word w) n e = absurd (cc)
number_written (what.Number m) n e = cc
number_written (what.Sign p) n e = absurd (cc)

name_kind : (v : TokenWhat) → kind_of_what v ≡ k.Name → word_kind (name_in_what v).bytes ≡ k.Name
name_kind (what.Word n) e = e
name_kind (what.Number n) e = refl
name_kind (what.Sign p) e = refl

pub number_is : {n : ℕ} (t : Token) → written_as t.what ≡ numeral n → number_in t ≡ n
number_is {n = n} t e = number_written t.what n e

pub is_name : (t u : Token) → Is k.Name t → written_as u.what ≡ word (name_in t).bytes → Is k.Name u
is_name t u i e = is u e ∙ name_kind t.what i

pub same_name : (t u : Token) → written_as u.what ≡ word (name_in t).bytes → unplaced_name (name_in u) ≡ unplaced_name (name_in t)
same_name t u e = ap (λ b. record { bytes = b; at = 0 }) (name_written u.what (name_in t).bytes e)

pub is_word : (w : List ℕ) (u : Token) → word_kind w ≡ k.Name → written_as u.what ≡ word w → IsWord w u
is_word w u i e = (is u e ∙ i, name_written u.what w e)

-- where nothing is too many in one list, nothing is in another
pub record Fewer (a b : List TooMany) : Type 0 where
  pub holds : a ≡ [] → b ≡ []

-- the same of what is put before them
abbrev pub Adds : (List TooMany → List TooMany) → (List TooMany → List TooMany) → Type 0
Adds f g = (l m : List TooMany) → Fewer l m → Fewer (f l) (g m)

note_fewer : (b : Bool) (x y : Excess) (ts us : List Token) {l m : List TooMany} → Fewer l m
    → Fewer (note (if b then Some x else None) ts l) (note (if b then Some y else None) us m)
note_fewer true x y ts us h = record { holds = λ e. absurd (cc) }
note_fewer false x y ts us h = h

pub dropped_fewer : (x : Option Excess) (ts : List Token) {l m : List TooMany} → Fewer l m → Fewer (note x ts l) m
dropped_fewer None ts h = h
dropped_fewer (Some x) ts h = record { holds = λ e. absurd (cc) }

pub begun_fewer : (what : Option Item) (ts us : List Token) {l m : List TooMany} → Fewer l m → Fewer (begun what ts l) (begun what us m)
begun_fewer None ts us h = h
begun_fewer (Some what) ts us h = record { holds = λ e. absurd (cc) }

pub number_fewer : (t u : Token) (ts us : List Token) {l m : List TooMany} → number_in u ≡ number_in t → Fewer l m
    → Fewer (note (too_great t) ts l) (note (too_great u) us m)
number_fewer t u ts us {l = l} {m = m} same h =
    subst (λ n. Fewer (note (too_great t) ts l) (note (if nat_lt (most item.Number) n then Some (record { what = item.Number; at = u.at }) else None) us m)) (sym same)
    (note_fewer (nat_lt (most item.Number) (number_in t)) _ _ ts us h)

abbrev bytes_of : Option NameValue → List ℕ
bytes_of None = []
bytes_of (Some a) = a.bytes

by_tests : (known full : Bool) (x y : Excess) (ts us : List Token) {l m : List TooMany} → Fewer l m
    → Fewer (note (if known then None else (if full then Some x else None)) ts l) (note (if known then None else (if full then Some y else None)) us m)
by_tests true full x y ts us h = h
by_tests false full x y ts us h = note_fewer full x y ts us h

size_fewer : (known : List (List ℕ)) (x y : Option NameValue) (ts us : List Token) {l m : List TooMany} → unplaced_option y ≡ unplaced_option x → Fewer l m
    → Fewer (note (size_excess known x) ts l) (note (size_excess known y) us m)
size_fewer known None None ts us same h = h
size_fewer known None (Some n) ts us same h = absurd (cc)
size_fewer known (Some n) None ts us same h = absurd (cc)
size_fewer known (Some n) (Some o) ts us {l = l} {m = m} same h =
    subst (λ b. Fewer (note (size_excess known (Some n)) ts l) (note (if is_known b known then None else
    (if nat_le (most item.Sizes) (length known) then Some (record { what = item.Sizes; at = o.at }) else None)) us m)) (sym (ap bytes_of same))
    (by_tests (is_known n.bytes known) (nat_le (most item.Sizes) (length known)) _ _ ts us h)

pub form_fewer : (known : SizeNames) (x y : FormValue) (ts us : List Token) {l m : List TooMany} → unplaced_form y ≡ unplaced_form x → Fewer l m
    → Fewer (note (excess_of known x) ts l) (note (excess_of known y) us m)
form_fewer None x y ts us same h = h
form_fewer (Some known) x y ts us same h = size_fewer known (alone x) (alone y) ts us (same_alone y x same) h

-- these tokens spell the same tree but for its places, and nothing more is too many in it
pub record Again {A : Type 0} (R : A → List Token → List Token → Type 0) (g : A → A) (x : A) (all rest : List Token) (Few : (y : A) → R y all rest → Type 0) : Type 0 where
  pub tree : A
  pub spelled : R tree all rest
  pub same : g tree ≡ g x
  pub few : Few tree spelled

pub made : {A : Type 0} {R : A → List Token → List Token → Type 0} {g : A → A} {x : A} {all rest : List Token} {Few : (y : A) → R y all rest → Type 0}
    (tree : A) (spelled : R tree all rest) → g tree ≡ g x → Few tree spelled → Again R g x all rest Few
made tree spelled same few = record { tree = tree; spelled = spelled; same = same; few = few }

-- items with commas before them
pub again_commas : {A : Type 0} {R : A → List Token → List Token → Type 0} (g : A → A) (tokens : A → List Written)
    (each : (x : A) (all rest : List Token) → R x all rest → List TooMany → List TooMany)
    → ((x : A) (all rest all' rest' : List Token) (d : R x all rest) → Takes (tokens x) all' rest' → Again R g x all' rest' (λ y d'. Adds (each x all rest d) (each y all' rest' d')))
    → {xs : List A} {all rest all' rest' : List Token} (d : Commas R xs all rest) → Takes (after_commas tokens xs) all' rest'
    → Again (Commas R) (map g) xs all' rest' (λ ys d'. (what : Item) (n : ℕ) → Adds (in_commas what each n d) (in_commas what each n d'))
again_commas g tokens each item no_comma nothing = record { tree = []; spelled = no_comma; same = refl; few = λ what n l m h. h }
again_commas g tokens each item (a_comma {x = x} {xs = xs} {all = old} i d ds) (one {t = c} {all = new} e t) = elim (split {a = tokens x} {b = after_commas tokens xs} t) [
  | cut a b ↦ let r = item x _ _ _ _ d a in let s = again_commas g tokens each item ds b in made (r.tree ∷ s.tree) (a_comma (is c e) r.spelled s.spelled)
      (ap₂ (λ y ys. y ∷ ys) r.same s.same) (λ what n l m h. begun_fewer (over what n) old new (r.few _ _ (s.few what (suc n) l m h)))
]
