-- The sizes that are counted while matrices are read.
use Rattle.std.proofs.Common.{◌≡◌, ℕ, Bool, true, false, List, [], ◌∷◌, ◌++◌, Some, refl, ap}
use Rattle.pb_syntax.specs.Forms.{DeclValue}
use Rattle.pb_syntax.specs.Limits.{counted, sizes_of, sizes_in}
use Rattle.pb_form_parser.specs.Dims.{after_dims}

sizes_more : (known : List (List ℕ)) (ds : List DeclValue) (d : DeclValue) → sizes_of known (ds ++ d ∷ []) ≡ sizes_in (sizes_of known ds) d.dims
sizes_more known [] d = refl
sizes_more known (x ∷ ds) d = sizes_more (sizes_in known x.dims) ds d

pub counted_more : (sized : Bool) (ds : List DeclValue) (d : DeclValue) → counted sized (ds ++ d ∷ []) ≡ after_dims (counted sized ds) d.dims
counted_more false ds d = refl
counted_more true ds d = ap Some (sizes_more [] ds d)
