-- Names of items in turn that are new each differ from each other.
use Rattle.std.proofs.Common.{◌≡◌, ℕ, false, List, [], ◌∷◌, ◌++◌, map, None, refl, ap, ◌∙◌}
use Rattle.std.specs.List.{AllByRecursion}
use Rattle.std.specs.Str.{bytes_eq}
use Rattle.std.proofs.lemmas.Bool.{or_from}
use Rattle.pb_values.specs.Name.{NameValue}
use Rattle.pb_syntax.specs.Limits.{is_known}
use Rattle.pb_program.specs.WellFormed.{AreDistinct}
use Rattle.pb_names.specs.declared.fault.Fault.{Fault}
use Rattle.pb_names.specs.Names.{look}
use Rattle.pb_names.specs.Turns.{after_turns, turn_faults}
use Rattle.pb_names.proofs.ListFits.{all_same, both}
use Rattle.pb_names.proofs.LookLemmas.{look_before, other_text}

-- no two names are the same where none was known before it
not_known : (n : List ℕ) (ns : List NameValue) → AllByRecursion (λ m. bytes_eq m.bytes n ≡ false) ns → is_known n (map (λ m. m.bytes) ns) ≡ false
not_known n [] h = refl
not_known n (m ∷ ns) h = or_from (bytes_eq n m.bytes) (is_known n (map (λ m. m.bytes) ns)) (other_text m.bytes n h.0) (not_known n ns h.1)

all_both : {A : Type 0} (P Q : A → Type 0) (xs : List A) → AllByRecursion (λ x. P x × Q x) xs → AllByRecursion P xs × AllByRecursion Q xs
all_both P Q [] h = (tt {0}, tt {0})
all_both P Q (x ∷ xs) h = let r = all_both P Q xs h.1 in ((h.0.0, r.0), (h.0.1, r.1))

module _ {V A : Type 0} (name : A → NameValue) (value : List (List ℕ × V) → A → V) (faults : List (List ℕ × V) → A → List Fault)
    (new : (known : List (List ℕ × V)) (x : A) → faults known x ≡ [] → look (name x).bytes known ≡ None) where
  abbrev next : List (List ℕ × V) → A → List (List ℕ × V)
  next known x = known ++ ((name x).bytes, value known x) ∷ []

  pub apart : (known : List (List ℕ × V)) (xs : List A) → turn_faults next faults known xs ≡ []
      → AllByRecursion (λ n. look n.bytes known ≡ None) (map name xs) × AreDistinct (map name xs)
  apart known [] e = (tt {0}, tt {0})
  apart known (x ∷ xs) e =
      let parts = both (new known x) (apart (next known x) xs) e in
      let others : AllByRecursion (λ n. (look n.bytes known ≡ None) × (bytes_eq n.bytes (name x).bytes ≡ false)) (map name xs)
      = all_same (λ n. look n.bytes (next known x) ≡ None) (λ n. (look n.bytes known ≡ None) × (bytes_eq n.bytes (name x).bytes ≡ false))
      (λ n h. look_before n.bytes (name x).bytes (value known x) known h) (map name xs) parts.1.0 in
      let halves = all_both (λ n. look n.bytes known ≡ None) (λ n. bytes_eq n.bytes (name x).bytes ≡ false) (map name xs) others in
      ((parts.0, halves.0), (not_known (name x).bytes (map name xs) halves.1, parts.1.1))

-- the faults of items in turn, in two parts
pub turns_append : {S A : Type 0} (next : S → A → S) (faults : S → A → List Fault) (s : S) (xs ys : List A) → turn_faults next faults s xs ≡ []
    → turn_faults next faults (after_turns next s xs) ys ≡ []
    → turn_faults next faults s (xs ++ ys) ≡ []
turns_append next faults s [] ys e d = d
turns_append next faults s (x ∷ xs) ys e d =
    let p = both (λ z. z) (λ z. turns_append next faults (next s x) xs ys z d) e in
    ap (λ l. l ++ turn_faults next faults (next s x) (xs ++ ys)) p.0 ∙ p.1
