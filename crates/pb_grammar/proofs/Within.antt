-- A tree in which nothing is too many, of tokens that a text can have, is within the limits.
use Rattle.std.proofs.Common.{◌≡◌, ℕ, suc, ◌+◌, ◌<◌, ◌≤◌, Bool, true, false, nat_lt, nat_le, not, inl, inr, List, [], ◌∷◌, ◌++◌, length, Option, Some, None, cond, refl, sym, ◌∙◌, subst, ap, arith, append_assoc, length-append}
use Rattle.std.specs.List.{AllByRecursion}
use Rattle.std.proofs.lemmas.Bool.Decides.{nat_tests}
use Rattle.std.proofs.lemmas.List.{append-nil}
use Rattle.pb_values.specs.Name.{NameValue}
use Rattle.pb_syntax.proofs.TestLemmas.{each}
use Rattle.pb_syntax.specs.declared.limits.TheConstants.{MOST_VALUE, MOST_NUMBER}
use Rattle.pb_syntax.specs.declared.token.Token.{Token}
use Rattle.pb_syntax.specs.declared.token.TokenWhat.{TokenWhat}
use Rattle.pb_syntax.specs.declared.token.TokenWhat.TheVariants as what
use Rattle.pb_syntax.specs.declared.kind.TokenKind.{TokenKind}
use Rattle.pb_syntax.specs.declared.kind.TokenKind.TheVariants as k
use Rattle.pb_syntax.specs.declared.refusal.Item.{Item}
use Rattle.pb_syntax.specs.declared.refusal.Item.TheVariants as item
use Rattle.pb_syntax.specs.declared.tree.expression.Level.{Level}
use Rattle.pb_syntax.specs.declared.tree.expression.Operator.{Operator}
use Rattle.pb_syntax.specs.declared.tree.expression.Relation.TheVariants.{Unequal}
use Rattle.pb_syntax.specs.declared.tree.form.TermText.{TermText}
use Rattle.pb_syntax.specs.declared.tree.view.ViewText.{ViewText}
use Rattle.pb_syntax.specs.declared.tree.view.UseText.{UseText}
use Rattle.pb_syntax.specs.declared.tree.view.CondText.{CondText}
use Rattle.pb_syntax.specs.declared.tree.view.MarkText.{MarkText}
use Rattle.pb_syntax.specs.Kinds.{Is, kind_of_what, sign_kind, name_in, name_in_what, number_in, number_in_what}
use Rattle.pb_syntax.specs.Lexemes.{IsLexemeAt, AreLexemes}
use Rattle.pb_syntax.specs.Operators.{condition_relation}
use Rattle.pb_syntax.specs.Forms.{FormValue, DeclValue}
use Rattle.pb_syntax.specs.Exprs.{ExprTree, exprs, operands, chained}
use Rattle.pb_syntax.specs.Stmts.{StmtTree, stmts}
use Rattle.pb_syntax.specs.Trees.{RuleTree, TransformTree}
use Rattle.pb_syntax.specs.Grammar as g
use Rattle.pb_syntax.specs.Grammar.{Commas, IsName, IsMinimum, IsMinimums, IsTerm, IsTerms, IsForm, IsDims, IsDecl, IsDecls, IsThrough, IsView, IsUse, IsReads, IsCond, IsConds, IsMark, IsLine, IsOperands, IsOperand, IsComp, IsUnary, IsPrim, IsArguments, IsCoordinates, IsStmt, IsBlock, IsStmts, IsRule, IsRules, IsTransform, IsTransforms, IsProgram}
use Rattle.pb_syntax.specs.Limits.{Excess, most, over, too_great, SizeNames, put_size, is_known, after_form, sizes_in, sizes_of, alone, counted, size_excess, excess_of}
use Rattle.pb_syntax.specs.TooMany.{TooMany, note, begun, in_commas, in_name, in_minimum, in_minimums, in_term, in_terms, in_form, in_dims, in_decl, in_more_decls, in_decls, in_through, in_view, in_use, in_reads, in_cond, in_conds, in_mark, in_line, in_operands, in_operand, in_comp, in_unary, in_prim, in_arguments, in_coordinates, statements_in, among, in_stmt, in_block, in_stmts, in_rule, in_rules, in_transform, in_transforms, in_program}
use Rattle.pb_syntax.specs.Faults.{Accepted}
use Rattle.pb_syntax.specs.WithinLimits.{IsNamed, Counts, TermWithin, FormWithin, DimsWithin, DeclWithin, ViewWithin, UseWithin, CondWithin, MarkWithin, exprs_count, ExprWithin, ExprsWithin, OperandsWithin, AllExprs, StmtWithin, StmtsWithin, RuleWithin, MinimumWithin, TransformWithin, IsWithinLimits}
use Rattle.pb_grammar.proofs.StmtLaws.{among_is}

-- what is seen of a part where nothing is too many: what it is, that the tokens after it are lexemes, and that nothing
-- after it is too many
record Seen (W : Type 0) (rest : List Token) (l : List TooMany) : Type 0 where
  within : W
  left : AreLexemes rest
  none : l ≡ []

no_note : (x : Option Excess) (ts : List Token) (l : List TooMany) → note x ts l ≡ [] → (x ≡ None) × (l ≡ [])
no_note None ts l e = (refl, e)
no_note (Some x) ts l e = absurd (cc)

few : (what : Item) (n : ℕ) (ts : List Token) (l : List TooMany) → begun (over what n) ts l ≡ [] → (n < most what) × (l ≡ [])
few what n ts l e = go (nat_le (most what) n) refl e
  where
    go : (b : Bool) → nat_le (most what) n ≡ b → begun (cond b (Some what) None) ts l ≡ [] → (n < most what) × (l ≡ [])
    go true q h = absurd (cc)
    go false q h = (grind (arith, nat_tests), h)

small : (t : Token) (ts : List Token) (l : List TooMany) → note (too_great t) ts l ≡ [] → (number_in t ≤ MOST_NUMBER) × (l ≡ [])
small t ts l e = go (nat_lt (most item.Number) (number_in t)) refl e
  where
    go : (b : Bool) → nat_lt (most item.Number) (number_in t) ≡ b
        → note (cond b (Some (record { what = item.Number; at = t.at })) None) ts l ≡ [] → (number_in t ≤ MOST_NUMBER) × (l ≡ [])
    go true q h = absurd (cc)
    go false q h = (grind (arith, nat_tests), h)

abbrev is_name : TokenKind → Bool
is_name k.Name = true
is_name _ = false

name_at : (w : TokenWhat) (at : ℕ) → kind_of_what w ≡ k.Name → IsLexemeAt at w → IsNamed (name_in_what w)
name_at (what.Word n) at is h = (h.0, is)
name_at (what.Number n) at is h = absurd (cc)
name_at (what.Sign p) at is h = let other = each (λ q. not (is_name (sign_kind q))) 25 p refl h in absurd (cc)

named : (t : Token) → Is k.Name t → IsLexemeAt t.at t.what → IsNamed (name_in t)
named t is h = name_at t.what t.at is h

value_at : (w : TokenWhat) (at : ℕ) → IsLexemeAt at w → number_in_what w ≤ MOST_VALUE
value_at (what.Word n) at h = omega arith
value_at (what.Number n) at h = h
value_at (what.Sign p) at h = omega arith

a_name : (x : NameValue) (all rest : List Token) (p : IsName x all rest) (l : List TooMany) → AreLexemes all → in_name p l ≡ [] → Seen (IsNamed x) rest l
a_name x all rest (g.a_name {t = t} is) l h e = record { within = named t is h.0; left = h.1; none = e }

a_minimum : (x : NameValue × ℕ) (all rest : List Token) (p : IsMinimum x all rest) (l : List TooMany) → AreLexemes all → in_minimum p l ≡ []
    → Seen (MinimumWithin x) rest l
a_minimum x all rest (g.a_minimum {n = n} {v = v} i j is) l h e =
    let s = small v (v ∷ rest) l e in record { within = (named n i h.0, s.0); left = h.1.1.1; none = s.1 }

module _ {A : Type 0} {P : A → List Token → List Token → Type 0} (what : Item)
    (notes : (x : A) (all rest : List Token) → P x all rest → List TooMany → List TooMany) (W : A → Type 0)
    (one : (x : A) (all rest : List Token) (p : P x all rest) (l : List TooMany) → AreLexemes all → notes x all rest p l ≡ [] → Seen (W x) rest l) where
  commas : {xs : List A} {all rest : List Token} (n : ℕ) (c : Commas P xs all rest) (l : List TooMany) → AreLexemes all → in_commas what notes n c l ≡ []
      → n ≤ most what → Seen ((n + length xs ≤ most what) × AllByRecursion W xs) rest l
  commas n g.no_comma l h e m = record { within = (omega (arith, m), tt); left = h; none = e }
  commas n (g.a_comma {x = x} {xs = xs} {all = all} {mid = mid} is p ps) l h e m =
      let b = few what n all _ e in
      let s = one x all mid p _ h.1 b.1 in
      let r = commas (suc n) ps l s.left s.none (omega (arith, b.0)) in
      record { within = (omega (arith, r.within.0), (s.within, r.within.1)); left = r.left; none = r.none }

minimums : {xs : List (NameValue × ℕ)} {all rest : List Token} (p : IsMinimums xs all rest) (l : List TooMany) → AreLexemes all → in_minimums p l ≡ []
    → Seen ((length xs ≤ most item.Minimums) × AllByRecursion MinimumWithin xs) rest l
minimums g.no_minimums l h e = record { within = (omega arith, tt); left = h; none = e }
minimums (g.some_minimums {x = x} is p ps) l h e =
    let s = a_minimum x _ _ p _ h.1 e in
    let r = commas item.Minimums (λ x a b. in_minimum) MinimumWithin a_minimum 1 ps l s.left s.none (omega arith) in
    record { within = (omega (arith, r.within.0), (s.within, r.within.1)); left = r.left; none = r.none }

-- forms
term : {m : Bool} {x : TermText} {all rest : List Token} (p : IsTerm m x all rest) (l : List TooMany) → AreLexemes all → in_term p l ≡ []
    → Seen (TermWithin x × (x.minus ≡ m)) rest l
term (g.number_term {t = t} {rest = rest} is) l h e =
    let s = small t (t ∷ rest) l e in record { within = (record { factor = s.0; quotient = inl refl; name = refl }, refl); left = h.1; none = s.1 }
term (g.name_term {t = t} is) l h e =
    record { within = (record { factor = omega arith; quotient = inl refl; name = named t is h.0 }, refl); left = h.1; none = e }
term (g.multiple {t = t} {s = o} {n = n} {rest = rest} is i j) l h e =
    let s = small t (t ∷ o ∷ n ∷ rest) l e in
    record { within = (record { factor = s.0; quotient = inl refl; name = named n j h.1.1.0 }, refl); left = h.1.1.1; none = s.1 }
term (g.fraction {n = n} is i j lo hi) l h e =
    record { within = (record { factor = omega arith; quotient = inr ((lo, hi), refl); name = named n is h.0 }, refl); left = h.1.1.1; none = e }

terms : {xs : List TermText} {all rest : List Token} (n : ℕ) (p : IsTerms xs all rest) (l : List TooMany) → AreLexemes all → in_terms n p l ≡ []
    → n ≤ most item.Terms → Seen ((n + length xs ≤ most item.Terms) × AllByRecursion TermWithin xs) rest l
terms n g.no_terms l h e m = record { within = (omega (arith, m), tt); left = h; none = e }
terms n (g.plus {xs = xs} {all = all} is p ps) l h e m =
    let b = few item.Terms n all _ e in
    let s = term p _ h.1 b.1 in
    let r = terms (suc n) ps l s.left s.none (omega (arith, b.0)) in
    record { within = (omega (arith, r.within.0), (s.within.0, r.within.1)); left = r.left; none = r.none }
terms n (g.minus {xs = xs} {all = all} is p ps) l h e m =
    let b = few item.Terms n all _ e in
    let s = term p _ h.1 b.1 in
    let r = terms (suc n) ps l s.left s.none (omega (arith, b.0)) in
    record { within = (omega (arith, r.within.0), (s.within.0, r.within.1)); left = r.left; none = r.none }

form : {x : FormValue} {all rest : List Token} (p : IsForm x all rest) (l : List TooMany) → AreLexemes all → in_form p l ≡ [] → Seen (FormWithin x) rest l
form (g.plain_form p ps) l h e =
    let s = term p _ h e in
    let r = terms 1 ps l s.left s.none (omega arith) in
    record { within = record { first = s.within.1; few = omega (arith, r.within.0); terms = (s.within.0, r.within.1) }; left = r.left; none = r.none }
form (g.minus_form is p ps) l h e =
    let s = term p _ h.1 e in
    let r = terms 1 ps l s.left s.none (omega arith) in
    record { within = record { first = s.within.1; few = omega (arith, r.within.0); terms = (s.within.0, r.within.1) }; left = r.left; none = r.none }

-- sizes
abbrev FewSizes : SizeNames → Type 0
FewSizes None = Unit {0}
FewSizes (Some known) = length known ≤ most item.Sizes

put_few : (known : List (List ℕ)) (a : Option NameValue) → size_excess known a ≡ None → length known ≤ most item.Sizes
    → length (put_size known a) ≤ most item.Sizes
put_few known None e m = m
put_few known (Some n) e m = go (is_known n.bytes known) (nat_le (most item.Sizes) (length known)) refl e
  where
    go : (b c : Bool) → nat_le (most item.Sizes) (length known) ≡ c
        → cond {A = Option Excess} b None (cond {A = Option Excess} c (Some (record { what = item.Sizes; at = n.at })) None) ≡ None
        → length (cond b known (known ++ n.bytes ∷ [])) ≤ most item.Sizes
    go true c q f = m
    go false true q f = absurd (cc)
    go false false q f = let less : length known < most item.Sizes = grind (arith, nat_tests) in omega (arith, length-append known (n.bytes ∷ []), less)

size_few : (known : SizeNames) (f : FormValue) → excess_of known f ≡ None → FewSizes known → FewSizes (after_form known f)
size_few None f e m = tt
size_few (Some known) f e m = put_few known (alone f) e m

abbrev after_all : SizeNames → List FormValue → SizeNames
after_all known [] = known
after_all known (f ∷ fs) = after_all (after_form known f) fs

after_all_some : (known : List (List ℕ)) (fs : List FormValue) → after_all (Some known) fs ≡ Some (sizes_in known fs)
after_all_some known [] = refl
after_all_some known (f ∷ fs) = after_all_some (put_size known (alone f)) fs

after_all_none : (fs : List FormValue) → after_all None fs ≡ None
after_all_none [] = refl
after_all_none (f ∷ fs) = after_all_none fs

sizes_more : (known : List (List ℕ)) (ds : List DeclValue) (d : DeclValue) → sizes_of known (ds ++ d ∷ []) ≡ sizes_in (sizes_of known ds) d.dims
sizes_more known [] d = refl
sizes_more known (x ∷ ds) d = sizes_more (sizes_in known x.dims) ds d

counted_more : (from : Bool) (ds : List DeclValue) (d : DeclValue) → FewSizes (after_all (counted from ds) d.dims) → FewSizes (counted from (ds ++ d ∷ []))
counted_more false ds d m = tt
counted_more true ds d m =
    let m' : length (sizes_in (sizes_of [] ds) d.dims) ≤ most item.Sizes = subst FewSizes (after_all_some (sizes_of [] ds) d.dims) m in
    rw (sizes_more [] ds d) m'

counted_none : (from : Bool) → FewSizes (counted from [])
counted_none false = tt
counted_none true = omega arith

-- matrices
dims : {ds : List FormValue} {all rest : List Token} (known : SizeNames) (p : IsDims ds all rest) (l : List TooMany) → AreLexemes all
    → in_dims known p l ≡ [] → Seen (DimsWithin ds × (FewSizes known → FewSizes (after_all known ds))) rest l
dims known (g.one_dim {x = x} {c = c} {rest = rest} p is) l h e =
    let s = form p _ h e in
    let m = no_note (excess_of known x) (c ∷ rest) l s.none in
    record { within = (((omega arith, omega arith), (s.within, tt)), λ f. size_few known x m.0 f); left = s.left.1; none = m.1 }
dims known (g.two_dims {x = x} {y = y} {m = c} {c = o} {mid = mid} {rest = rest} p is q i) l h e =
    let s = form p _ h e in
    let m = no_note (excess_of known x) (c ∷ mid) _ s.none in
    let r = form q _ s.left.1 m.1 in
    let o' = no_note (excess_of (after_form known x) y) (o ∷ rest) l r.none in
    record {
      within = (((omega arith, omega arith), (s.within, (r.within, tt))), λ f. size_few (after_form known x) y o'.0 (size_few known x m.0 f));
      left = r.left.1;
      none = o'.1;
    }

decl : {d : DeclValue} {all rest : List Token} (n : ℕ) (known : SizeNames) (p : IsDecl d all rest) (l : List TooMany) → AreLexemes all
    → in_decl n known p l ≡ [] → Seen (DeclWithin d × (n < most item.Matrices) × (FewSizes known → FewSizes (after_all known d.dims))) rest l
decl n known (g.a_decl {n = t} {b = b} {all = all} is i ds) l h e =
    let m = few item.Matrices n (t ∷ b ∷ all) _ e in
    let s = dims known ds l h.1.1 m.1 in
    record { within = (record { name = named t is h.0; dims = s.within.0 }, m.0, s.within.1); left = s.left; none = s.none }

more_decls : {ds : List DeclValue} {all rest : List Token} (n : ℕ) (from : Bool) (found : List DeclValue) (p : Commas IsDecl ds all rest) (l : List TooMany)
    → AreLexemes all → in_more_decls n from found p l ≡ [] → n + length found ≤ most item.Matrices → FewSizes (counted from found)
    → Seen ((n + (length found + length ds) ≤ most item.Matrices) × AllByRecursion DeclWithin ds × FewSizes (counted from (found ++ ds))) rest l
more_decls n from found g.no_comma l h e m f =
    record { within = (omega (arith, m), tt, subst (λ ds. FewSizes (counted from ds)) (sym (append-nil found)) f); left = h; none = e }
more_decls n from found (g.a_comma {x = d} {xs = ds} is p ps) l h e m f =
    let s = decl (n + length found) (counted from found) p _ h.1 e in
    let r = more_decls n from (found ++ d ∷ []) ps l s.left s.none (omega (arith, s.within.1, length-append found (d ∷ []))) (counted_more from found d (s.within.2 f)) in
    record {
      within = (
        omega (arith, r.within.0, length-append found (d ∷ [])),
        (s.within.0, r.within.1),
        subst (λ all. FewSizes (counted from all)) (append_assoc found (d ∷ []) ds) r.within.2,
      );
      left = r.left;
      none = r.none;
    }

decls : {ds : List DeclValue} {all rest : List Token} (n : ℕ) (from : Bool) (p : IsDecls ds all rest) (l : List TooMany) → AreLexemes all
    → in_decls n from p l ≡ [] → Seen ((n + length ds ≤ most item.Matrices) × AllByRecursion DeclWithin ds × FewSizes (counted from ds) × (1 ≤ length ds)) rest l
decls n from (g.some_decls {d = d} {ds = ds} p ps) l h e =
    let s = decl n (counted from []) p _ h e in
    let r = more_decls n from (d ∷ []) ps l s.left s.none (omega (arith, s.within.1)) (counted_more from [] d (s.within.2 (counted_none from))) in
    record { within = (omega (arith, r.within.0), (s.within.0, r.within.1), r.within.2, omega arith); left = r.left; none = r.none }

through : {ds : List DeclValue} {all rest : List Token} (n : ℕ) (p : IsThrough ds all rest) (l : List TooMany) → AreLexemes all
    → in_through n p l ≡ [] → n ≤ most item.Matrices → Seen ((n + length ds ≤ most item.Matrices) × AllByRecursion DeclWithin ds) rest l
through n g.no_through l h e m = record { within = (omega (arith, m), tt); left = h; none = e }
through n (g.some_through is ds) l h e m = let s = decls n false ds l h.1 e in record { within = (s.within.0, s.within.1); left = s.left; none = s.none }

-- views
view : {v : ViewText} {all rest : List Token} (p : IsView v all rest) (l : List TooMany) → AreLexemes all → in_view p l ≡ [] → Seen (ViewWithin v) rest l
view g.whole l h e = record { within = tt; left = h; none = e }
view (g.cell_x d w o x c) l h e = let s = form x l h.1.1.1 e in record { within = s.within; left = s.left.1; none = s.none }
view (g.cell_xy d w o x m y c) l h e =
    let s = form x _ h.1.1.1 e in
    let r = form y l s.left.1 s.none in
    record { within = (s.within, r.within); left = r.left.1; none = r.none }
view (g.row d w o y c) l h e = let s = form y l h.1.1.1 e in record { within = s.within; left = s.left.1; none = s.none }
view (g.column d w o x c) l h e = let s = form x l h.1.1.1 e in record { within = s.within; left = s.left.1; none = s.none }
view (g.region_2 d w o x m y c) l h e =
    let s = form x _ h.1.1.1 e in
    let r = form y l s.left.1 s.none in
    record { within = (s.within, r.within); left = r.left.1; none = r.none }
view (g.region_4 d w o x m y p z q u c) l h e =
    let s = form x _ h.1.1.1 e in
    let r = form y _ s.left.1 s.none in
    let v = form z _ r.left.1 r.none in
    let w' = form u l v.left.1 v.none in
    record { within = (s.within, r.within, v.within, w'.within); left = w'.left.1; none = w'.none }

a_use : (u : UseText) (all rest : List Token) (p : IsUse u all rest) (l : List TooMany) → AreLexemes all → in_use p l ≡ [] → Seen (UseWithin u) rest l
a_use u all rest (g.a_use {m = m} {b = b} i v j) l h e =
    let s = view v l h.1 e in
    record { within = record { matrix = named m i h.0; view = s.within; bound = named b j s.left.0 }; left = s.left.1; none = s.none }

reads : {us : List UseText} {all rest : List Token} (p : IsReads us all rest) (l : List TooMany) → AreLexemes all → in_reads p l ≡ []
    → Seen ((length us ≤ most item.Reads) × AllByRecursion UseWithin us) rest l
reads g.no_reads l h e = record { within = (omega arith, tt); left = h; none = e }
reads (g.some_reads {u = u} p ps) l h e =
    let s = a_use u _ _ p _ h e in
    let r = commas item.Reads (λ x a b. in_use) UseWithin a_use 1 ps l s.left s.none (omega arith) in
    record { within = (omega (arith, r.within.0), (s.within, r.within.1)); left = r.left; none = r.none }

no_unequal : (a : TokenKind) → condition_relation a ≡ Some Unequal → ⊥
no_unequal k.Unequal e = absurd (cc)
no_unequal _ e = absurd (cc)

a_cond : (c : CondText) (all rest : List Token) (p : IsCond c all rest) (l : List TooMany) → AreLexemes all → in_cond p l ≡ [] → Seen (CondWithin c) rest l
a_cond c all rest (g.a_cond a is b) l h e =
    let s = form a _ h e in
    let r = form b l s.left.1 s.none in
    record { within = record { left = s.within; relation = λ q. no_unequal _ (is ∙ ap Some q); right = r.within }; left = r.left; none = r.none }

conds : {cs : List CondText} {all rest : List Token} (p : IsConds cs all rest) (l : List TooMany) → AreLexemes all → in_conds p l ≡ []
    → Seen ((length cs ≤ most item.Conditions) × AllByRecursion CondWithin cs) rest l
conds g.no_conds l h e = record { within = (omega arith, tt); left = h; none = e }
conds (g.some_conds {c = c} is p ps) l h e =
    let s = a_cond c _ _ p _ h.1 e in
    let r = commas item.Conditions (λ x a b. in_cond) CondWithin a_cond 1 ps l s.left s.none (omega arith) in
    record { within = (omega (arith, r.within.0), (s.within, r.within.1)); left = r.left; none = r.none }

a_mark : {m : MarkText} {all rest : List Token} (p : IsMark m all rest) (l : List TooMany) → AreLexemes all → in_mark p l ≡ [] → Seen (MarkWithin m) rest l
a_mark g.unmarked l h e = record { within = tt; left = h; none = e }
a_mark (g.primary is) l h e = record { within = tt; left = h.1; none = e }
a_mark (g.secondary is) l h e = record { within = tt; left = h.1; none = e }
a_mark (g.priority {n = n} {c = c} {rest = rest} is o i j) l h e =
    let s = small n (n ∷ c ∷ rest) l e in record { within = s.0; left = h.1.1.1.1; none = s.1 }

-- expressions
count_is : (xs : List ExprTree) → exprs_count (exprs xs) ≡ length xs
count_is [] = refl
count_is (x ∷ xs) = let rest = count_is xs in omega (arith, rest)

all_exprs : (d : ℕ) (xs : List ExprTree) → AllExprs d xs → ExprsWithin d (exprs xs)
all_exprs d [] h = tt
all_exprs d (x ∷ xs) h = (h.0, all_exprs d xs h.1)

abbrev AllOperands : ℕ → List (Operator × ExprTree) → Type 0
AllOperands d xs = AllByRecursion (λ (x : Operator × ExprTree). ExprWithin d x.1) xs

all_operands : (d : ℕ) (xs : List (Operator × ExprTree)) → AllOperands d xs → OperandsWithin d (operands xs)
all_operands d [] h = tt
all_operands d (x ∷ xs) h = (h.0, all_operands d xs h.1)

a_chain : (d : ℕ) (p : Level) (x : ExprTree) (xs : List (Operator × ExprTree)) → ExprWithin d x → AllOperands d xs → ExprWithin d (chained p x xs)
a_chain d p x [] h hs = h
a_chain d p x (y ∷ ys) h hs = (h, all_operands d (y ∷ ys) hs)

mutual
  line : {p : Level} {x : ExprTree} {all rest : List Token} (d : ℕ) (i : IsLine p x all rest) (l : List TooMany) → AreLexemes all → in_line d i l ≡ []
      → Seen (ExprWithin d x) rest l
  line d (g.a_line {l = p} {x = x} {xs = xs} i is) l h e =
      let s = operand d i _ h e in
      let r = more_operands d is l s.left s.none in
      record { within = a_chain d p x xs s.within r.within; left = r.left; none = r.none }

  more_operands : {p : Level} {xs : List (Operator × ExprTree)} {all rest : List Token} (d : ℕ) (i : IsOperands p xs all rest) (l : List TooMany) → AreLexemes all
      → in_operands d i l ≡ [] → Seen (AllOperands d xs) rest l
  more_operands d g.no_operand l h e = record { within = tt; left = h; none = e }
  more_operands d (g.an_operand is i xs) l h e =
      let s = operand d i _ h.1 e in
      let r = more_operands d xs l s.left s.none in
      record { within = (s.within, r.within); left = r.left; none = r.none }

  operand : {p : Level} {x : ExprTree} {all rest : List Token} (d : ℕ) (i : IsOperand p x all rest) (l : List TooMany) → AreLexemes all → in_operand d i l ≡ []
      → Seen (ExprWithin d x) rest l
  operand d (g.a_conj x) l h e = line d x l h e
  operand d (g.a_comp x) l h e = comp d x l h e
  operand d (g.a_prod x) l h e = line d x l h e
  operand d (g.a_unary x) l h e = unary d x l h e

  comp : {x : ExprTree} {all rest : List Token} (d : ℕ) (i : IsComp x all rest) (l : List TooMany) → AreLexemes all → in_comp d i l ≡ [] → Seen (ExprWithin d x) rest l
  comp d (g.a_sum x) l h e = line d x l h e
  comp d (g.two_sums x is y) l h e =
      let s = line d x _ h e in
      let r = line d y l s.left.1 s.none in
      record { within = (s.within, r.within); left = r.left; none = r.none }

  unary : {x : ExprTree} {all rest : List Token} (d : ℕ) (i : IsUnary x all rest) (l : List TooMany) → AreLexemes all → in_unary d i l ≡ [] → Seen (ExprWithin d x) rest l
  unary d (g.unsigned x) l h e = prim d x l h e
  unary d (g.minus_prim is x) l h e = let s = prim d x l h.1 e in record { within = s.within; left = s.left; none = s.none }
  unary d (g.not_prim is x) l h e = let s = prim d x l h.1 e in record { within = s.within; left = s.left; none = s.none }

  prim : {x : ExprTree} {all rest : List Token} (d : ℕ) (i : IsPrim x all rest) (l : List TooMany) → AreLexemes all → in_prim d i l ≡ [] → Seen (ExprWithin d x) rest l
  prim d (g.a_number {t = t} is) l h e = record { within = value_at t.what t.at h.0; left = h.1; none = e }
  prim d (g.the_name {t = t} is) l h e = record { within = named t is h.0; left = h.1; none = e }
  prim d (g.call_of_none {n = n} {o = o} {c = c} {rest = rest} is i j) l h e =
      let b = few item.Nesting d (o ∷ c ∷ rest) l e in
      record { within = (named n is h.0, b.0, omega arith, tt); left = h.1.1.1; none = b.1 }
  prim d (g.call_of {xs = xs} {n = n} {o = o} {all = all} is i ps) l h e =
      let b = few item.Nesting d (o ∷ all) _ e in
      let s = arguments (suc d) 1 ps l h.1.1 b.1 (omega arith) in
      record { within = (named n is h.0, b.0, omega (arith, s.within.0, count_is xs), all_exprs (suc d) xs s.within.2); left = s.left; none = s.none }
  prim d (g.in_parentheses {o = o} {all = all} is x i) l h e =
      let b = few item.Nesting d (o ∷ all) _ e in
      let s = line (suc d) x l h.1 b.1 in
      record { within = (b.0, s.within); left = s.left.1; none = s.none }
  prim d (g.cell_of {xs = xs} {n = n} {o = o} {all = all} is i j m ps) l h e =
      let b = few item.Nesting d (o ∷ all) _ e in
      let s = coordinates (suc d) ps l h.1.1.1.1 b.1 in
      record {
        within = (named n is h.0, b.0, (omega (arith, s.within.0.0, count_is xs), omega (arith, s.within.0.1, count_is xs)), all_exprs (suc d) xs s.within.1);
        left = s.left;
        none = s.none;
      }
  prim d (g.width_of {n = n} {o = o} {c = c} {rest = rest} is i j m p) l h e =
      let b = few item.Nesting d (o ∷ c ∷ rest) l e in record { within = (named n is h.0, b.0); left = h.1.1.1.1.1; none = b.1 }
  prim d (g.height_of {n = n} {o = o} {c = c} {rest = rest} is i j m p) l h e =
      let b = few item.Nesting d (o ∷ c ∷ rest) l e in record { within = (named n is h.0, b.0); left = h.1.1.1.1.1; none = b.1 }

  arguments : {xs : List ExprTree} {all rest : List Token} (d n : ℕ) (i : IsArguments xs all rest) (l : List TooMany) → AreLexemes all → in_arguments d n i l ≡ []
      → n ≤ most item.Arguments → Seen ((n + length xs ≤ most item.Arguments + 1) × (1 ≤ length xs) × AllExprs d xs) rest l
  arguments d n (g.last_argument x is) l h e m =
      let s = line d x l h e in record { within = (omega (arith, m), omega arith, (s.within, tt)); left = s.left.1; none = s.none }
  arguments d n (g.an_argument {mid = mid} x is ps) l h e m =
      let s = line d x _ h e in
      let b = few item.Arguments n mid _ s.none in
      let r = arguments d (suc n) ps l s.left.1 b.1 (omega (arith, b.0)) in
      record { within = (omega (arith, r.within.0), omega arith, (s.within, r.within.2)); left = r.left; none = r.none }

  coordinates : {xs : List ExprTree} {all rest : List Token} (d : ℕ) (i : IsCoordinates xs all rest) (l : List TooMany) → AreLexemes all → in_coordinates d i l ≡ []
      → Seen (Counts 1 2 (length xs) × AllExprs d xs) rest l
  coordinates d (g.one_coordinate x is) l h e =
      let s = line d x l h e in record { within = ((omega arith, omega arith), (s.within, tt)); left = s.left.1; none = s.none }
  coordinates d (g.two_coordinates x is y i) l h e =
      let s = line d x _ h e in
      let r = line d y l s.left.1 s.none in
      record { within = ((omega arith, omega arith), (s.within, (r.within, tt))); left = r.left.1; none = r.none }

-- statements
all_stmts : (d : ℕ) (ss : List StmtTree) → AllByRecursion (StmtWithin d) ss → StmtsWithin d (stmts ss)
all_stmts d [] h = tt
all_stmts d (s ∷ ss) h = (h.0, all_stmts d ss h.1)

mutual
  stmt : {s : StmtTree} {all rest : List Token} (d n : ℕ) (i : IsStmt s all rest) (l : List TooMany) → AreLexemes all → in_stmt d n i l ≡ []
      → n < most item.Statements → Seen (StmtWithin d s × (n + statements_in s ≤ most item.Statements)) rest l
  stmt d n (g.let_a_number {n = t} i j q x m) l h e few_before =
      let s = line d x l h.1.1.1 e in
      record { within = ((named t j h.1.0, s.within), omega (arith, few_before)); left = s.left.1; none = s.none }
  stmt d n (g.let_a_matrix {n = t} i j q ds m) l h e few_before =
      let s = dims None ds l h.1.1.1 e in
      record { within = ((named t j h.1.0, s.within.0), omega (arith, few_before)); left = s.left.1; none = s.none }
  stmt d n (g.an_assignment {n = t} i j x m) l h e few_before =
      let s = line d x l h.1.1 e in
      record { within = ((named t i h.0, s.within), omega (arith, few_before)); left = s.left.1; none = s.none }
  stmt d n (g.a_call {ns = ns} {n = t} {p = u} {f = f} {o = o} {mid = mid} i j q ps m r v xs w) l h e few_before =
      let s = commas item.Targets (λ x a b. in_name) IsNamed a_name 2 ps _ h.1.1.1 e (omega arith) in
      let b = few item.Nesting d (o ∷ mid) _ s.none in
      let a = arguments (suc d) 1 xs l s.left.1.1.1 b.1 (omega arith) in
      record {
        within = (
          (
            (named t i h.0, (named u q h.1.1.0, s.within.1)),
            (omega arith, omega (arith, s.within.0)),
            named f r s.left.1.0,
            b.0,
            (a.within.1, omega (arith, a.within.0)),
            a.within.2,
          ),
          omega (arith, few_before),
        );
        left = a.left.1;
        none = a.none;
      }
  stmt d n (g.a_cell_assignment {n = t} {o = o} {all = all} i j q m xs p x r) l h e few_before =
      let b = few item.Nesting d (o ∷ all) _ e in
      let s = coordinates (suc d) xs _ h.1.1.1.1 b.1 in
      let v = line d x l s.left.1 s.none in
      record { within = ((named t i h.0, b.0, s.within.0, s.within.1, v.within), omega (arith, few_before)); left = v.left.1; none = v.none }
  stmt d n (g.an_if {ss = body} {o = o} {all = all} i j x m ss) l h e few_before =
      let b = few item.Nesting d (o ∷ all) _ e in
      let s = line (suc d) x _ h.1.1 b.1 in
      let r = block d (n + 1) ss l s.left.1 s.none (omega (arith, few_before)) in
      record { within = ((b.0, s.within, all_stmts (suc d) body r.within.1), omega (arith, r.within.0, among_is body)); left = r.left; none = r.none }
  stmt d n (g.an_if_else {ss = body} {others = other} {o = o} {all = all} i j x m ss q others) l h e few_before =
      let b = few item.Nesting d (o ∷ all) _ e in
      let s = line (suc d) x _ h.1.1 b.1 in
      let r = block d (n + 1) ss _ s.left.1 s.none (omega (arith, few_before)) in
      let v = block d ((n + 1) + among body) others l r.left.1 r.none r.within.0 in
      record {
        within = ((b.0, s.within, all_stmts (suc d) body r.within.1, all_stmts (suc d) other v.within.1), omega (arith, v.within.0, among_is body, among_is other));
        left = v.left;
        none = v.none;
      }
  stmt d n (g.a_for {ss = body} {o = o} {n = t} {e = q'} {all = all} i j q m a p b r ss) l h e few_before =
      let c = few item.Nesting d (o ∷ t ∷ q' ∷ all) _ e in
      let s = line (suc d) a _ h.1.1.1.1 c.1 in
      let v = line (suc d) b _ s.left.1 s.none in
      let w = block d (n + 1) ss l v.left.1 v.none (omega (arith, few_before)) in
      record {
        within = ((named t q h.1.1.0, c.0, s.within, v.within, all_stmts (suc d) body w.within.1), omega (arith, w.within.0, among_is body));
        left = w.left;
        none = w.none;
      }

  block : {ss : List StmtTree} {all rest : List Token} (d n : ℕ) (i : IsBlock ss all rest) (l : List TooMany) → AreLexemes all → in_block d n i l ≡ []
      → n ≤ most item.Statements → Seen ((n + among ss ≤ most item.Statements) × AllByRecursion (StmtWithin (suc d)) ss) rest l
  block d n (g.a_block {o = o} {all = all} is ss) l h e m = let b = few item.Nesting d (o ∷ all) _ e in statements (suc d) n ss l h.1 b.1 m

  statements : {ss : List StmtTree} {all rest : List Token} (d n : ℕ) (i : IsStmts ss all rest) (l : List TooMany) → AreLexemes all → in_stmts d n i l ≡ []
      → n ≤ most item.Statements → Seen ((n + among ss ≤ most item.Statements) × AllByRecursion (StmtWithin d) ss) rest l
  statements d n (g.no_stmt is) l h e m = record { within = (omega (arith, m), tt); left = h.1; none = e }
  statements d n (g.one_stmt {s = s} {all = all} i ss) l h e m =
      let b = few item.Statements n all _ e in
      let v = stmt d n i _ h b.1 b.0 in
      let r = statements d (n + statements_in s) ss l v.left v.none v.within.1 in
      record { within = (omega (arith, r.within.0), (v.within.0, r.within.1)); left = r.left; none = r.none }

-- rules and transforms
rule : {r : RuleTree} {all rest : List Token} (p : IsRule r all rest) (l : List TooMany) → AreLexemes all → in_rule p l ≡ [] → Seen (RuleWithin r) rest l
rule (g.a_rule {u = u} m t o out outs c f p rs q cs ss) l h e =
    let a = a_mark m _ h e in
    let s = a_use u _ _ out _ a.left.1.1 a.none in
    let b = commas item.Outputs (λ x a b. in_use) UseWithin a_use 1 outs _ s.left s.none (omega arith) in
    let r = reads rs _ b.left.1.1.1 b.none in
    let d = conds cs _ r.left.1 r.none in
    let v = block 0 0 ss l d.left d.none (omega arith) in
    record {
      within = record {
        mark = a.within;
        outputs = ((omega arith, omega (arith, b.within.0)), (s.within, b.within.1));
        reads = r.within;
        conds = d.within;
        few_statements = omega (arith, v.within.0);
        body = v.within.1;
      };
      left = v.left;
      none = v.none;
    }

rules : {rs : List RuleTree} {all rest : List Token} (n : ℕ) (p : IsRules rs all rest) (l : List TooMany) → AreLexemes all → in_rules n p l ≡ []
    → n ≤ most item.Rules → Seen ((n + length rs ≤ most item.Rules) × AllByRecursion RuleWithin rs) rest l
rules n g.no_rules l h e m = record { within = (omega (arith, m), tt); left = h; none = e }
rules n (g.one_rule {all = all} p ps) l h e m =
    let b = few item.Rules n all _ e in
    let s = rule p _ h b.1 in
    let r = rules (suc n) ps l s.left s.none (omega (arith, b.0)) in
    record { within = (omega (arith, r.within.0), (s.within, r.within.1)); left = r.left; none = r.none }

transform : {x : TransformTree} {all rest : List Token} (p : IsTransform x all rest) (l : List TooMany) → AreLexemes all → in_transform p l ≡ []
    → Seen (TransformWithin x) rest l
transform (g.a_transform {from = given} {kept = kept} {n = n} t i ms f from th o to b r rs c) l h e =
    let a = minimums ms _ h.1.1 e in
    let s = decls 0 true from _ a.left.1 a.none in
    let d = through (length given) th _ s.left s.none (omega (arith, s.within.0)) in
    let u = decls (length given + length kept) false to _ d.left.1 d.none in
    let v = rule r _ u.left.1 u.none in
    let w = rules 1 rs l v.left v.none (omega arith) in
    record {
      within = record {
        name = named n i h.1.0;
        minimums = a.within;
        some_from = s.within.3;
        some_to = u.within.3;
        few_matrices = omega (arith, u.within.0);
        few_sizes = s.within.2;
        from = s.within.1;
        through = d.within.1;
        to = u.within.1;
        rules = ((omega arith, omega (arith, w.within.0)), (v.within, w.within.1));
      };
      left = w.left.1;
      none = w.none;
    }

transforms : {xs : List TransformTree} {all rest : List Token} (n : ℕ) (p : IsTransforms xs all rest) (l : List TooMany) → AreLexemes all → in_transforms n p l ≡ []
    → n ≤ most item.Transforms → Seen ((n + length xs ≤ most item.Transforms) × AllByRecursion TransformWithin xs) rest l
transforms n g.no_transforms l h e m = record { within = (omega (arith, m), tt); left = h; none = e }
transforms n (g.one_transform {all = all} p ps) l h e m =
    let b = few item.Transforms n all _ e in
    let s = transform p _ h b.1 in
    let r = transforms (suc n) ps l s.left s.none (omega (arith, b.0)) in
    record { within = (omega (arith, r.within.0), (s.within, r.within.1)); left = r.left; none = r.none }

program : {xs : List TransformTree} {all : List Token} (p : IsProgram xs all) → AreLexemes all → in_program p ≡ [] → IsWithinLimits xs
program (g.a_program p ps) h e =
    let s = transform p _ h e in
    let r = transforms 1 ps [] s.left s.none (omega arith) in
    ((omega arith, omega (arith, r.within.0)), (s.within, r.within.1))

pub within_limits : (tokens : List Token) (tree : List TransformTree) → AreLexemes tokens → Accepted tree tokens → IsWithinLimits tree
within_limits tokens tree h a = program a.0 h a.1
