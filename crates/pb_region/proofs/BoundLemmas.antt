-- Bounds of a list of conditions, one condition after the other.
use Rattle.std.proofs.Common.{◌≡◌, ◌+◌, ◌<◌, ℕ, List, [], ◌∷◌, ◌++◌, Option, Some, None, take, length, get_or, refl, ap}
use Rattle.std.specs.List.{filter_map}
use Rattle.std.specs.Option.{option_to_list}
use Rattle.std.proofs.lemmas.List.{take_more}
use Rattle.std.proofs.lemmas.List.Elements.{filter_map-append}
use Rattle.pb_program.specs.Forms.{CoordinateValue}
use Rattle.pb_region.specs.declared.bounds.Axis.{Axis}
use Rattle.pb_region.specs.declared.bounds.Side.{Side}
use Rattle.pb_region.specs.Boxes.{bound, bounds}

one_item : {X Y : Type 0} (h : X → Option Y) (x : X) (o : Option Y) → h x ≡ o → filter_map h (x ∷ []) ≡ option_to_list o
one_item h x None e = rw e refl
one_item h x (Some y) e = rw e refl

pub bounds_none : (s : Side) (a : Axis) → bounds s a [] ≡ []
unfolding bounds
bounds_none s a = refl

pub bounds_more : (s : Side) (a : Axis) (gs : List CoordinateValue) (i : ℕ) (d : CoordinateValue) → i < length gs →
    bounds s a (take (i + 1) gs) ≡ bounds s a (take i gs) ++ option_to_list (bound s a (get_or gs i d))
unfolding bounds
bounds_more s a gs i d h = rw (take_more gs i d h, filter_map-append) (ap (λ z. filter_map (bound s a) (take i gs) ++ z) (one_item (bound s a) (get_or gs i d) _ refl))
