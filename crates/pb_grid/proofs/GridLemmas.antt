-- The grid by the cuts of its axes.
use Rattle.std.proofs.Common.{◌≡◌, ◌∙◌, sym, ap, subst, inl, inr, ◌⊎◌, Ok, Err, List, map, None}
use Rattle.std.specs.Prelude.{IfOk, IfErr, Result}
use Rattle.pb_linear.specs.declared.form.Form.{Form}
use Rattle.pb_grid.specs.declared.refusal.GridRefusal.{GridRefusal}
use Rattle.pb_grid.specs.declared.refusal.GridRefusal.TheVariants.{Uncovered, Memory}
use Rattle.pb_grid.specs.Cuts.{le}
use Rattle.pb_grid.specs.Gaps.{HeldValue, IsBareRefused, bare_area, held_of, made}
use Rattle.pb_grid.specs.Grids.{AreCuts, IsGrid, IsRefused, Matrix, areas_of, cuts_x, cuts_y}
use Rattle.pb_grid.specs.Lists.{in_order}
use Rattle.pb_grid.specs.Segments.{SegmentValue, areas}
use Rattle.pb_grid.proofs.GapLemmas.{bare_is, made_is}

pub ok_map : {T E : Type 0} (P Q : T → Type 0) → ((x : T) → P x → Q x) → (r : Result T E) → IfOk r P → IfOk r Q
ok_map P Q f (Ok x) h = f x h
ok_map P Q f (Err e) h = tt

pub err_map : {T E : Type 0} (P Q : E → Type 0) → ((x : E) → P x → Q x) → (r : Result T E) → IfErr r P → IfErr r Q
err_map P Q f (Ok x) h = tt
err_map P Q f (Err e) h = f e h

module _ (m : Matrix) (xs ys us vs : List Form) (hs : List HeldValue) (ex : xs ≡ cuts_x m) (ey : ys ≡ cuts_y m) (eu : us ≡ cuts_x m) (ev : vs ≡ cuts_y m) (cut : AreCuts m.leasts xs ys)
    (eh : hs ≡ map (held_of m.leasts m.boxes) (areas (in_order (le m.leasts) us) (in_order (le m.leasts) vs))) where
  cut_is : AreCuts m.leasts (cuts_x m) (cuts_y m)
  cut_is = subst (λ l. AreCuts m.leasts (cuts_x m) l) ey (subst (λ l. AreCuts m.leasts l ys) ex cut)

  held_is : hs ≡ map (held_of m.leasts m.boxes) (areas_of m)
  held_is =
      eh ∙ ap (λ l. map (held_of m.leasts m.boxes) (areas (in_order (le m.leasts) l) (in_order (le m.leasts) vs))) eu
      ∙ ap (λ l. map (held_of m.leasts m.boxes) (areas (in_order (le m.leasts) (cuts_x m)) (in_order (le m.leasts) l))) ev

  pub grid_is : (ss : List SegmentValue) → bare_area hs ≡ None → ss ≡ map made hs → IsGrid m ss
  grid_is ss none is = record {
    cut = cut_is;
    covered = sym (bare_is m.leasts m.boxes (areas_of m)) ∙ sym (ap bare_area held_is) ∙ none;
    segments = is ∙ ap (map made) held_is ∙ made_is m.leasts m.boxes (areas_of m);
  }

  refused_is : (e : GridRefusal) → IsBareRefused hs e → IsRefused m e
  refused_is (Uncovered area) h = (cut_is, sym (bare_is m.leasts m.boxes (areas_of m)) ∙ sym (ap bare_area held_is) ∙ h)
  refused_is _ h = absurd h

  pub bare_refused : (e : GridRefusal) → (e ≡ Memory) ⊎ IsBareRefused hs e → (e ≡ Memory) ⊎ IsRefused m e
  bare_refused e (inl memory) = inl memory
  bare_refused e (inr h) = inr (refused_is e h)
