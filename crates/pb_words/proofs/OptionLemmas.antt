-- The options of a line are read exactly where words spell them.
use Rattle.std.proofs.Common.{◌≡◌, ℕ, Bool, true, false, ◌⊎◌, List, [], ◌∷◌, ◌++◌, Option, Some, None, option_and_then, option_map, codes, bytes_eq, cond, refl, sym, ◌∙◌, ap, subst, inl, inr, append_assoc}
use Rattle.std.proofs.lemmas.Option.{option_and_then_some, some_pair_parts, none-some, same_Some}
use Rattle.std.proofs.lemmas.Slice.Eq.{bytes_eq-Decides}
use Rattle.pb_words.specs.declared.options.Setting.{Setting}
use Rattle.pb_words.specs.declared.options.Setting.TheVariants.{Workers, Depth, Grain, OnPool, Trace, UpTo}
use Rattle.pb_words.specs.declared.options.Settings.{Settings}
use Rattle.pb_words.specs.Values.{is_option}
use Rattle.pb_words.specs.Options.{SpellOption, workers_option, depth_option, grain_option, pool_option, trace_option, up_to_option, SpellOptions, none, one_more, added, all_added}
use Rattle.pb_words.specs.Reading.{valued_option, options_read}
use Rattle.pb_words.specs.Line.{Ends}

pub if_parts : {A : Type 0} (b : Bool) (x y z : A) → cond b x y ≡ z → ((b ≡ true) × (x ≡ z)) ⊎ ((b ≡ false) × (y ≡ z))
if_parts true x y z e = inl (refl, e)
if_parts false x y z e = inr (refl, e)

-- what follows from what stands beside a known word, and from what stands beside the others
pub chosen : {A : Type 0} (P : List ℕ → Type 0) (word known : List ℕ) (x y z : A) → (x ≡ z → P known) → (y ≡ z → P word)
    → cond (bytes_eq word known) x y ≡ z → P word
chosen P word known x y z here there e =
    elim (if_parts (bytes_eq word known) x y z e) [
      | inl p ↦ subst P (sym ((bytes_eq-Decides word known).0 p.0)) (here p.1)
      | inr p ↦ there p.1
    ]

mapped : {T : Type 0} (P : Setting → Type 0) (make : T → Setting) (value : Option T) (option : Setting) → ((x : T) → value ≡ Some x → P (make x))
    → option_map make value ≡ Some option → P option
mapped P make None option rule e = absurd (none-some option e)
mapped P make (Some x) option rule e = subst P (same_Some (make x) option e) (rule x refl)

module _ (name value : List ℕ) (option : Setting) where
  row : {T : Type 0} (known : List ℕ) (make : T → Setting) (read : Option T) (others : Option Setting)
      → ((x : T) → read ≡ Some x → SpellOption (known ∷ value ∷ []) (make x)) → (others ≡ Some option → SpellOption (name ∷ value ∷ []) option)
      → cond (bytes_eq name known) (option_map make read) others ≡ Some option → SpellOption (name ∷ value ∷ []) option
  row known make read others rule there =
      chosen (λ (n : List ℕ). SpellOption (n ∷ value ∷ []) option) name known _ _ _
      (mapped (λ (o : Setting). SpellOption (known ∷ value ∷ []) o) make read option rule) there

  value_spelled : valued_option name value ≡ Some option → SpellOption (name ∷ value ∷ []) option
  value_spelled =
      row (codes "--workers") Workers _ _ (λ n e. workers_option e)
      (row (codes "--depth") Depth _ _ (λ n e. depth_option e)
      (row (codes "--grain") Grain _ _ (λ n e. grain_option e)
      (row (codes "--pool") OnPool _ _ (λ p e. pool_option e)
      (row (codes "--up-to") UpTo _ _ (λ n e. up_to_option e) (λ e. absurd (none-some option e))))))

-- a name that waits for its value, put back
abbrev pub before : Option (List ℕ) → List (List ℕ) → List (List ℕ)
before None words = words
before (Some name) words = name ∷ words

-- how words give these settings and leave the others
pub record Found (s : Settings) (words : List (List ℕ)) (t : Settings) (others : List (List ℕ)) : Type 0 where
  pub option_words : List (List ℕ)
  pub options : List Setting
  pub parts : words ≡ option_words ++ others
  pub spelled : SpellOptions option_words options
  pub given : all_added s options ≡ Some t
  pub ended : Ends others

none_found : (s t : Settings) (words others : List (List ℕ)) → Ends words → ◌≡◌ {A = Option (Settings × List (List ℕ))} (Some (s, words)) (Some (t, others)) → Found s words t others
none_found s t words others ended e =
    let parts = some_pair_parts s t words others e in record {
      option_words = [];
      options = [];
      parts = parts.1;
      spelled = none;
      given = ap (λ (u : Settings). Some u) parts.0;
      ended = subst Ends parts.1 ended;
    }

one_found : (s u t : Settings) (words after others : List (List ℕ)) (option : Setting) → SpellOption words option → added s option ≡ Some u
    → Found u after t others → Found s (words ++ after) t others
one_found s u t words after others option one fresh rest = record {
  option_words = words ++ rest.option_words;
  options = option ∷ rest.options;
  parts = ap (λ (ws : List (List ℕ)). words ++ ws) rest.parts ∙ sym (append_assoc words rest.option_words others);
  spelled = one_more one rest.spelled;
  given = ap (option_and_then (λ v. all_added v rest.options)) fresh ∙ rest.given;
  ended = rest.ended;
}

pub options_found : (s : Settings) (waits : Option (List ℕ)) (words : List (List ℕ)) (t : Settings) (others : List (List ℕ))
    → options_read s waits words ≡ Some (t, others) → Found s (before waits words) t others
options_found s None [] t others e = none_found s t [] others tt e
options_found s None (name ∷ after) t others e =
    elim (if_parts (is_option name) _ _ _ e) [
      | inl p ↦ chosen (λ (n : List ℕ). Found s (n ∷ after) t others) name (codes "--trace") _ _ _
          (λ q. option_and_then_some (λ u. options_read u None after) (added s Trace) (t, others) q
          (λ u fresh more. one_found s u t _ after others Trace trace_option fresh (options_found u None after t others more)))
          (options_found s (Some name) after t others) p.1
      | inr p ↦ none_found s t (name ∷ after) others p.0 p.1
    ]
options_found s (Some name) [] t others e = absurd (none-some (t, others) e)
options_found s (Some name) (value ∷ after) t others e =
    option_and_then_some (λ u. options_read u None after) (option_and_then (added s) (valued_option name value)) (t, others) e
    (λ u one more. option_and_then_some (added s) (valued_option name value) u one
    (λ option spelt fresh. one_found s u t (name ∷ value ∷ []) after others option (value_spelled name value option spelt) fresh
    (options_found u None after t others more)))

ends_read : (s : Settings) (others : List (List ℕ)) → Ends others → options_read s None others ≡ Some (s, others)
ends_read s [] ended = refl
ends_read s (word ∷ rest) ended = rw ended refl

option_is_read : {words : List (List ℕ)} {option : Setting} → SpellOption words option → (s : Settings) (rest : List (List ℕ))
    → options_read s None (words ++ rest) ≡ option_and_then (λ t. options_read t None rest) (added s option)
option_is_read (workers_option e) s rest = rw e refl
option_is_read (depth_option e) s rest = rw e refl
option_is_read (grain_option e) s rest = rw e refl
option_is_read (pool_option e) s rest = rw e refl
option_is_read trace_option s rest = refl
option_is_read (up_to_option e) s rest = rw e refl

pub options_are_read : {words : List (List ℕ)} {options : List Setting} → SpellOptions words options → (s t : Settings) (others : List (List ℕ))
    → all_added s options ≡ Some t → Ends others → options_read s None (words ++ others) ≡ Some (t, others)
options_are_read none s t others given ended = ends_read s others ended ∙ ap (λ (u : Settings). Some (u, others)) (same_Some s t given)
options_are_read (one_more {words} {rest} {option} {options} one spelled) s t others given ended =
    ap (options_read s None) (append_assoc words rest others) ∙ option_is_read one s (rest ++ others)
    ∙ option_and_then_some (λ u. all_added u options) (added s option) t given
    (λ u fresh more. ap (option_and_then (λ v. options_read v None (rest ++ others))) fresh ∙ options_are_read spelled u t others more ended)
