-- Reading rules and levels one after the other.
use Rattle.std.proofs.Common.{◌≡◌, ℕ, zero, suc, ◌<◌, true, false, List, [], ◌∷◌, ◌++◌, Option, Some, None, refl, sym, ap, ◌∙◌, arith}
use Rattle.std.specs.Prelude.{codes}
use Rattle.std.specs.List.{list_all}
use Rattle.std.specs.Option.{option_map}
use Rattle.std.proofs.lemmas.List.{append_assoc, append-nil}
use Rattle.pb_config.specs.Parts.{after, number_next, is_blank}
use Rattle.pb_config.specs.Choices.{put_first, rules_next, level_next, levels_of}

abbrev pub put_before : {A : Type 0} → List A → Option (List A × List ℕ) → Option (List A × List ℕ)
put_before done rest = option_map (λ r. (done ++ r.0, r.1)) rest

put_more : {A : Type 0} (done : List A) (x : A) (o : Option (List A × List ℕ)) → put_before (done ++ x ∷ []) o ≡ put_before done (option_map (put_first x) o)
put_more done x None = refl
put_more done x (Some r) = ap (λ l. Some (l, r.1)) (append_assoc done (x ∷ []) r.0)

-- what stands next says the rest of the whole
abbrev pub Rules : List ℕ → ℕ → List ℕ → Option (List ℕ × List ℕ) → Type 0
Rules done more text whole = put_before done (rules_next more text) ≡ whole

module _ (done : List ℕ) (whole : Option (List ℕ × List ℕ)) where
  pub no_number : (more : ℕ) (text : List ℕ) → Rules done more text whole → number_next text ≡ None → whole ≡ None
  unfolding rules_next
  no_number zero text e none = sym e
  no_number (suc more) text e none = sym (rw none at e)

  pub none_left : (more : ℕ) (text : List ℕ) → Rules done more text whole → more ≡ 0 → whole ≡ None
  unfolding rules_next
  none_left zero text e z = sym e
  none_left (suc more) text e z = absurd (omega arith)

  pub one_rule : (more less : ℕ) (text next after_comma items : List ℕ) (rule : ℕ) → Rules done more text whole → more ≡ suc less → number_next text ≡ Some (rule, next)
      → after (codes ",") next ≡ Some after_comma → items ≡ done ++ rule ∷ [] → Rules items less after_comma whole
  unfolding rules_next
  one_rule more less text next after_comma items rule e count number comma pushed =
      let here : put_before done (rules_next (suc less) text) ≡ whole = rw count at e in
      rw pushed (put_more done rule (rules_next less after_comma) ∙ (rw (number, comma) at here))

  pub last_rule : (more : ℕ) (text next end items : List ℕ) (rule : ℕ) → Rules done more text whole → 0 < more → number_next text ≡ Some (rule, next)
      → after (codes ",") next ≡ None → after (codes "}") next ≡ Some end → items ≡ done ++ rule ∷ []
      → whole ≡ Some (items, end)
  unfolding rules_next
  last_rule zero text next end items rule e some number comma close pushed = absurd (omega arith)
  last_rule (suc more) text next end items rule e some number comma close pushed = rw pushed (sym (rw (number, comma, close) at e))

  pub no_end : (more : ℕ) (text next : List ℕ) (rule : ℕ) → Rules done more text whole → 0 < more → number_next text ≡ Some (rule, next)
      → after (codes ",") next ≡ None → after (codes "}") next ≡ None → whole ≡ None
  unfolding rules_next
  no_end zero text next rule e some number comma close = absurd (omega arith)
  no_end (suc more) text next rule e some number comma close = sym (rw (number, comma, close) at e)

-- the same of levels
abbrev pub Levels : List (ℕ × ℕ) → ℕ → List ℕ → Option (List (ℕ × ℕ)) → Type 0
Levels done more text whole = option_map (λ rest. done ++ rest) (levels_of more text) ≡ whole

module _ (done : List (ℕ × ℕ)) (whole : Option (List (ℕ × ℕ))) where
  pub line_ends : (more : ℕ) (text : List ℕ) → Levels done more text whole → list_all is_blank text ≡ true → whole ≡ Some done
  unfolding levels_of
  line_ends zero text e blank = sym (rw blank at e) ∙ ap Some (append-nil done)
  line_ends (suc more) text e blank = sym (rw blank at e) ∙ ap Some (append-nil done)

  pub no_more : (more : ℕ) (text : List ℕ) → Levels done more text whole → more ≡ 0 → list_all is_blank text ≡ false → whole ≡ None
  unfolding levels_of
  no_more zero text e z blank = sym (rw blank at e)
  no_more (suc more) text e z blank = absurd (omega arith)

  pub no_level : (more : ℕ) (text : List ℕ) → Levels done more text whole → list_all is_blank text ≡ false → level_next text ≡ None → whole ≡ None
  unfolding levels_of
  no_level zero text e blank none = sym (rw blank at e)
  no_level (suc more) text e blank none = sym (rw (blank, none) at e)

  pub one_level : (more less : ℕ) (text next : List ℕ) (level : ℕ × ℕ) (items : List (ℕ × ℕ)) → Levels done more text whole → more ≡ suc less
      → list_all is_blank text ≡ false → level_next text ≡ Some (level, next) → items ≡ done ++ level ∷ [] → Levels items less next whole
  unfolding levels_of
  one_level more less text next level items e count blank here pushed =
      let now : option_map (λ rest. done ++ rest) (levels_of (suc less) text) ≡ whole = rw count at e in
      rw pushed (by (levels_of less next) ∙ (rw (blank, here) at now))
    where
      by : (o : Option (List (ℕ × ℕ))) → option_map (λ rest. (done ++ level ∷ []) ++ rest) o ≡ option_map (λ rest. done ++ rest) (option_map (λ rest. level ∷ rest) o)
      by None = refl
      by (Some rest) = ap Some (append_assoc done (level ∷ []) rest)
