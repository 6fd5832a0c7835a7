-- Packed numbers by their places, for the tactics. Assumes nothing.
use Rattle.std.proofs.Common.{◌≡◌, ℕ, ◌<◌, map, Some, ap, ◌∙◌, arith}
use Rattle.std.specs.List.{slice_get, range_with_len}
use Rattle.std.proofs.lemmas.List.FromFn.{length-map-range_with_len, get_or-map-range_with_len}
use Rattle.std.proofs.lemmas.Option.{slice_get-get_or, slice_get_past}

-- what is made of the first numbers, at a place
pub slice_get_made : {X : Type 0} (f : ℕ → X) (n i : ℕ) → i < n → slice_get (map f (range_with_len 0 n)) i ≡ Some (f i)
slice_get_made f n i h =
    slice_get-get_or (map f (range_with_len 0 n)) i (f 0) (omega (arith, length-map-range_with_len f 0 n))
    ∙ ap Some (get_or-map-range_with_len f 0 n i i (f 0) h (omega arith))

pub ruleset places = (length-map-range_with_len, slice_get_made, slice_get_past)
