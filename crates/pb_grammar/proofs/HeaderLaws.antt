-- Reading the lists of a header reads what they spell.
use Rattle.std.proofs.Common.{◌≡◌, ◌≢◌, ℕ, suc, ◌+◌, Bool, false, List, [], ◌∷◌, ◌++◌, length, None, refl, sym, ◌∙◌, subst, append_assoc}
use Rattle.std.proofs.lemmas.List.{append-nil}
use Rattle.pb_values.specs.Name.{NameValue}
use Rattle.pb_syntax.specs.declared.token.Token.{Token}
use Rattle.pb_syntax.specs.declared.refusal.Item.TheVariants as item
use Rattle.pb_syntax.specs.declared.kind.TokenKind.{TokenKind}
use Rattle.pb_syntax.specs.declared.kind.TokenKind.TheVariants as k
use Rattle.pb_syntax.specs.Kinds.{Is}
use Rattle.pb_syntax.specs.Forms.{DeclValue}
use Rattle.pb_syntax.specs.Grammar.{Commas, no_comma, a_comma, IsMinimum, a_minimum, IsMinimums, no_minimums, some_minimums, IsDecl, a_decl, IsDecls, some_decls, IsThrough, no_through, some_through}
use Rattle.pb_syntax.specs.Limits.{over, too_great, SizeNames, counted}
use Rattle.pb_syntax.specs.TooMany.{TooMany, in_commas, in_minimum, in_minimums, in_decl, in_more_decls, in_decls, in_through}
use Rattle.pb_grammar.specs.Next.{next_kind}
use Rattle.pb_grammar.specs.Want as want
use Rattle.pb_grammar.specs.Want.{Want, minimum_line, decl_line, more_minimums, minimums, more_decls, through}
use Rattle.pb_grammar.specs.Reading.{Verdict}
use Rattle.pb_grammar.proofs.Steps.{caught, Gives, plain, noted, skip_decls, took_begin, Takes, takes_by, counted_begin}
use Rattle.pb_grammar.proofs.FormLaws.{one_longer, reads_dims}

module _ (lim : Bool) (end : ℕ) where
  pub reads_minimum : {x : NameValue × ℕ} {all rest : List Token} (x' : IsMinimum x all rest) (f : NameValue × ℕ → Want) (l : List TooMany) (v : Verdict)
      → Gives lim end rest (f x) (caught lim l v) → Gives lim end all (minimum_line f) (caught lim (in_minimum x' l) v)
  reads_minimum (a_minimum {v = n} i j is) f l v h = plain lim end i refl (plain lim end j refl (noted lim end (too_great n) l v is refl h))

  takes_minimum : {x : NameValue × ℕ} {all rest : List Token} (x' : IsMinimum x all rest) (f : NameValue × ℕ → Want) → Takes lim end all (minimum_line f)
  takes_minimum (a_minimum i j is) f = takes_by lim end i refl

  reads_more_minimums : {xs : List (NameValue × ℕ)} {t : Token} {all rest : List Token} (n : ℕ) (xs' : Commas IsMinimum xs all (t ∷ rest)) (is : Is k.From t)
      (found : List (NameValue × ℕ)) (f : List (NameValue × ℕ) → Want) (l : List TooMany) (v : Verdict) → length found ≡ n
      → Gives lim end rest (f (found ++ xs)) (caught lim l v)
      → Gives lim end all (more_minimums found f) (caught lim (in_commas item.Minimums (λ x a b. in_minimum) n xs' l) v)
  reads_more_minimums {rest = rest} n no_comma is found f l v s h =
      plain lim end is refl (subst (λ (a : List (NameValue × ℕ)). Gives lim end rest (f a) (caught lim l v)) (append-nil found) h)
  reads_more_minimums {rest = rest} n (a_comma {x = a} {xs = bs} i x xs) is found f l v s h =
      plain lim end i refl (counted_begin lim end item.Minimums (length found) n s (took_begin lim end (over item.Minimums n) _ v (takes_minimum x (λ m. more_minimums (found ++ m ∷ []) f))
      (reads_minimum x (λ m. more_minimums (found ++ m ∷ []) f) _ v (reads_more_minimums (suc n) xs is (found ++ a ∷ []) f l v (one_longer found a n s)
      (subst (λ (b : List (NameValue × ℕ)). Gives lim end rest (f b) (caught lim l v)) (sym (append_assoc found (a ∷ []) bs)) h)))))

  pub reads_minimums : {xs : List (NameValue × ℕ)} {t : Token} {all rest : List Token} (xs' : IsMinimums xs all (t ∷ rest)) (is : Is k.From t)
      (f : List (NameValue × ℕ) → Want) (l : List TooMany) (v : Verdict)
      → Gives lim end rest (f xs) (caught lim l v) → Gives lim end all (minimums f) (caught lim (in_minimums xs' l) v)
  reads_minimums no_minimums is f l v h = plain lim end is refl h
  reads_minimums (some_minimums {x = a} i x xs) is f l v h =
      plain lim end i refl (took_begin lim end None _ v (takes_minimum x (λ m. more_minimums (m ∷ []) f)) (reads_minimum x (λ m. more_minimums (m ∷ []) f) _ v (reads_more_minimums 1 xs is (a ∷ []) f l v refl h)))

  pub reads_decl : {d : DeclValue} {all rest : List Token} (n : ℕ) (known : SizeNames) (d' : IsDecl d all rest) (f : DeclValue → Want) (l : List TooMany) (v : Verdict)
      → Gives lim end rest (f d) (caught lim l v) → Gives lim end all (want.a_decl n known f) (caught lim (in_decl n known d' l) v)
  reads_decl n known (a_decl is i ds) f l v h =
      took_begin lim end (over item.Matrices n) _ v (takes_by lim end is refl) (plain lim end is refl (plain lim end i refl (reads_dims lim end known ds _ l v h)))

  reads_more_decls : {ds : List DeclValue} {all rest : List Token} (n : ℕ) (from : Bool) (found : List DeclValue) (ds' : Commas IsDecl ds all rest)
      (f : List DeclValue → Want) (l : List TooMany) (v : Verdict) → next_kind rest ≢ k.Comma
      → Gives lim end rest (f (found ++ ds)) (caught lim l v) → Gives lim end all (more_decls n from found f) (caught lim (in_more_decls n from found ds' l) v)
  reads_more_decls n from found (no_comma {rest = rest}) f l v e h =
      skip_decls lim end rest e (subst (λ (a : List DeclValue). Gives lim end rest (f a) (caught lim l v)) (append-nil found) h)
  reads_more_decls {rest = rest} n from found (a_comma {x = a} {xs = bs} is x xs) f l v e h =
      plain lim end is refl (reads_decl (n + length found) (counted from found) x (λ d. more_decls n from (found ++ d ∷ []) f) _ v (reads_more_decls n from (found ++ a ∷ []) xs f l v e
      (subst (λ (b : List DeclValue). Gives lim end rest (f b) (caught lim l v)) (sym (append_assoc found (a ∷ []) bs)) h)))

  pub reads_decls : {ds : List DeclValue} {all rest : List Token} (n : ℕ) (from : Bool) (ds' : IsDecls ds all rest)
      (f : List DeclValue → Want) (l : List TooMany) (v : Verdict) → next_kind rest ≢ k.Comma
      → Gives lim end rest (f ds) (caught lim l v) → Gives lim end all (want.decls n from f) (caught lim (in_decls n from ds' l) v)
  reads_decls n from (some_decls {d = a} d ds) f l v e h = reads_decl n (counted from []) d (λ d. more_decls n from (d ∷ []) f) _ v (reads_more_decls n from (a ∷ []) ds f l v e h)

  pub not_comma : {kind : TokenKind} (t : Token) (ts : List Token) → Is kind t → kind ≢ k.Comma → next_kind (t ∷ ts) ≢ k.Comma
  not_comma t ts is n e = n (sym is ∙ e)

  pub reads_through : {ds : List DeclValue} {t : Token} {all rest : List Token} (n : ℕ) (ds' : IsThrough ds all (t ∷ rest)) (is : Is k.To t)
      (f : List DeclValue → Want) (l : List TooMany) (v : Verdict)
      → Gives lim end rest (f ds) (caught lim l v) → Gives lim end all (through n f) (caught lim (in_through n ds' l) v)
  reads_through n no_through is f l v h = plain lim end is refl h
  reads_through {t = t} {rest = rest} n (some_through i ds) is f l v h =
      plain lim end i refl (reads_decls n false ds _ l v (not_comma t rest is (λ e. cc)) (plain lim end is refl h))
