-- A tree is one program or refused for one reason.
use Rattle.std.proofs.Common.{◌≡◌, ◌⊎◌, inl, inr, List, [], ◌∷◌, refl, sym, ◌∙◌, subst}
use Rattle.pb_program.specs.Trees.{ProgTransform}
use Rattle.pb_syntax.specs.Trees.{TransformTree}
use Rattle.pb_syntax.specs.declared.refusal.Refusal.{Refusal}
use Rattle.pb_names.specs.declared.fault.Fault.{Fault}
use Rattle.pb_names.specs.Transforms.{HasRefusal, IsRefused, IsRefusedFor, IsResolved, faults_of, program_of, refusal_of}

some_by : (tree : List TransformTree) (faults : List Fault) → faults_of tree ≡ faults → IsResolved tree (program_of tree) ⊎ HasRefusal tree
some_by tree [] e = inl (record { faultless = e; program = refl })
some_by tree (f ∷ rest) e = inr (record { why = refusal_of f; told = subst (λ faults. IsRefusedFor faults (refusal_of f)) (sym e) refl })

pub some_answer : (tree : List TransformTree) → IsResolved tree (program_of tree) ⊎ HasRefusal tree
some_answer tree = some_by tree (faults_of tree) refl

pub no_two : (tree : List TransformTree) (p : List ProgTransform) (e : Refusal) → IsResolved tree p → IsRefused tree e → ⊥
no_two tree p e made told = subst (λ faults. IsRefusedFor faults e) made.faultless told

pub same_program : (tree : List TransformTree) (p q : List ProgTransform) → IsResolved tree p → IsResolved tree q → p ≡ q
same_program tree p q a b = a.program ∙ sym b.program

same_by : (faults : List Fault) (e f : Refusal) → IsRefusedFor faults e → IsRefusedFor faults f → e ≡ f
same_by [] e f a b = elim a [ ]
same_by (g ∷ rest) e f a b = a ∙ sym b

pub same_refusal : (tree : List TransformTree) (e f : Refusal) → IsRefused tree e → IsRefused tree f → e ≡ f
same_refusal tree e f = same_by (faults_of tree) e f
