-- Each step on a deque keeps its rule.
use Rattle.std.proofs.Common.{◌≡◌, ◌∙◌, ap, sym, refl, subst, ℕ, zero, suc, ◌+◌, List, [], ◌∷◌, ◌++◌, length, set, append_assoc, arith}
use Rattle.std.proofs.lemmas.List.{length-append}
use Rattle.std.proofs.lemmas.List.Sums.{sum_by-append, sum_by-cons}
use Rattle.std.specs.List.{sum_by}
use mathlib.Core.Option.{some, some-injective, some-ne-none}
use lib.ListN.{get_elem?}
use Rattle.atomic_table.proofs.Lists.{at_longer}
use Rattle.crossbeam_deque.specs.Tasks.{Admits, Pushes, Takes}
use Rattle.pb_steal.specs.declared.log.Log.{Log}
use Rattle.pb_steal.specs.Deques.{Keeps, no_log}

-- one log is exchanged for another
abbrev took : Log → ℕ
took l = l.took

abbrev total : List Log → ℕ
total logs = sum_by took logs

took-set : (logs : List Log) (i : ℕ) (l m : Log) → get_elem? logs i ≡ some l → total (set logs i m) + l.took ≡ total logs + m.took
took-set [] i l m at = absurd (some-ne-none l (sym at))
took-set (x ∷ xs) zero l m at = let same : x.took ≡ l.took = ap (λ (k : Log). k.took) (some-injective x l at) in omega (arith, same, sum_by-cons took x xs, sum_by-cons took m xs)
took-set (x ∷ xs) (suc i) l m at = let rest = took-set xs i l m at in omega (arith, rest, sum_by-cons took x xs, sum_by-cons took x (set xs i m))

first-set : (logs : List Log) (i : ℕ) (owner l m : Log) → get_elem? logs 0 ≡ some owner → get_elem? logs i ≡ some l → m.pushed ≡ l.pushed
    → (now : Log) × (get_elem? (set logs i m) 0 ≡ some now) × (now.pushed ≡ owner.pushed)
first-set [] i owner l m first at same = absurd (some-ne-none l (sym at))
first-set (x ∷ xs) zero owner l m first at same =
    (m, refl, same ∙ ap (λ (k : Log). k.pushed) (sym (some-injective x l at) ∙ some-injective x owner first))
first-set (x ∷ xs) (suc i) owner l m first at same = (owner, first, refl)

pub begins : Keeps [] (no_log ∷ [])
begins = record { owner = no_log; first = refl; left = []; pushed = refl; took = refl }

pub admits : Admits Keeps no_log
admits items logs h = record {
  owner = h.owner;
  first = at_longer logs (no_log ∷ []) 0 h.owner h.first;
  left = h.left;
  pushed = h.pushed;
  took = sum_by-append took logs (no_log ∷ []) ∙ omega (arith, h.took);
}

pushes-first : (v : Log) (xs items : List ℕ) (logs : List Log) → Keeps items logs → get_elem? logs 0 ≡ some v
    → Keeps (items ++ xs) (set logs 0 (record { pushed = v.pushed ++ xs; took = v.took }))
pushes-first v xs items [] h at = absurd (some-ne-none v (sym at))
pushes-first v xs items (l ∷ logs) h at = record {
  owner = record { pushed = v.pushed ++ xs; took = v.took };
  first = refl;
  left = h.left;
  pushed = ap (λ (k : Log). k.pushed ++ xs) (sym (some-injective l v at) ∙ some-injective l h.owner h.first) ∙ ap (λ ts. ts ++ xs) h.pushed ∙ append_assoc h.left items xs;
  took = let sum = took-set (l ∷ logs) 0 v (record { pushed = v.pushed ++ xs; took = v.took }) at in omega (arith, sum, h.took);
}

pub pushes : (port : ℕ) (v : Log) (xs : List ℕ) → port ≡ 0 → Pushes Keeps port v xs (λ w. w ≡ record { pushed = v.pushed ++ xs; took = v.took })
pushes port v xs own =
    subst (λ id. Pushes Keeps id v xs (λ w. w ≡ record { pushed = v.pushed ++ xs; took = v.took })) (sym own)
    (λ items logs h at. (record { pushed = v.pushed ++ xs; took = v.took }, pushes-first v xs items logs h at, refl))

pub takes : (port : ℕ) (v : Log) (most : ℕ) → Takes Keeps port v most (λ xs w. w ≡ record { pushed = v.pushed; took = v.took + length xs })
takes port v most xs items logs _ _ h at =
    let w : Log = record { pushed = v.pushed; took = v.took + length xs } in
    let now = first-set logs port h.owner v w h.first at refl in (
      w,
      record {
        owner = now.0;
        first = now.1;
        left = h.left ++ xs;
        pushed = now.2 ∙ h.pushed ∙ sym (append_assoc h.left xs items);
        took = let sum = took-set logs port v w at in omega (arith, sum, h.took, length-append h.left xs);
      },
      refl,
    )
