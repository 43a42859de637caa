-- The text of one more variable of a form.
use Rattle.std.proofs.Common.{◌≡◌, ℕ, ◌+◌, ◌<◌, List, ◌∷◌, ◌++◌, length, get_or, drop, Result, Ok, Err, OnOk, sym, ap, ◌∙◌}
use Rattle.std.proofs.lemmas.List.{append_assoc, drop_more}
use Rattle.pb_values.specs.Name.{NameValue}
use Rattle.pb_linear.specs.declared.form.Form.{Form}
use Rattle.pb_prog.specs.FormText.{variable_text, variables_text}

pub variable_more : (f : Form) (before : List ℕ) (i : ℕ) (names : List NameValue) (n : NameValue) → i < length names → n ≡ get_or names i n
    → (before ++ variable_text f i n.bytes) ++ variables_text f (i + 1) (drop (i + 1) names) ≡ before ++ variables_text f i (drop i names)
variable_more f before i names n within here =
    let split : drop i names ≡ n ∷ drop (i + 1) names = drop_more names i n within ∙ ap (λ m. m ∷ drop (i + 1) names) (sym here) in
    rw split (append_assoc before (variable_text f i n.bytes) (variables_text f (i + 1) (drop (i + 1) names)))

-- a text that is written in four steps
pub four_parts : {E : Type 0} (r : Result (Unit {0}) E) (t₀ t₁ t₂ t₃ t₄ a b c d : List ℕ)
    → t₁ ≡ t₀ ++ a → t₂ ≡ t₁ ++ b → t₃ ≡ t₂ ++ c → OnOk r (t₄ ≡ t₃ ++ d) → OnOk r (t₄ ≡ t₀ ++ (a ++ (b ++ (c ++ d))))
four_parts (Err e) t₀ t₁ t₂ t₃ t₄ a b c d e₁ e₂ e₃ e₄ = tt
four_parts (Ok u) t₀ t₁ t₂ t₃ t₄ a b c d e₁ e₂ e₃ e₄ =
    rw (e₄, e₃, e₂, e₁) (append_assoc ((t₀ ++ a) ++ b) c d ∙ append_assoc (t₀ ++ a) b (c ++ d) ∙ append_assoc t₀ a (b ++ (c ++ d)))
