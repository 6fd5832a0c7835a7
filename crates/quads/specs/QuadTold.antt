-- `<` tells the order of quads: by s, then p, then o, then g. Assumes nothing.
use Rattle.std.specs.Prelude.{◌≡◌, ℕ, Bool, true, false, cond, ◌&&◌, ◌||◌, ◌==◌, Some, Option, nat_lt}
use Rattle.std.specs.Ordering.{is_lt, is_some_and, partial_lt, partial_ordering_then, nat_cmp}
use Rattle.std.proofs.Common.{Ordering, Less, Equal, Greater, refl, ap, ◌∙◌}
use Rattle.ordered.specs.Numbers.{number_told}
use Rattle.quads.specs.Quads.{quad_below, below_or}
use Rattle.quads.specs.declared.quad.Quad.{Quad}
use Rattle.quads.specs.contracts.quad.QuadPartialOrd as derived

-- the first numbers decide, and where they are equal the rest of the answer does
decided : (a b : ℕ) (rest : Option Ordering) → is_some_and is_lt (partial_ordering_then (Some (nat_cmp a b)) rest) ≡ below_or a b (is_some_and is_lt rest)
decided a b rest = by_tests (nat_lt a b) (a == b)
  where
    by_tests : (below same : Bool) → is_some_and is_lt (partial_ordering_then (Some (cond below Less (cond same Equal Greater))) rest) ≡ (below || (same && is_some_and is_lt rest))
    by_tests true same = refl
    by_tests false true = refl
    by_tests false false = refl

pub quad_told : (x y : Quad) → partial_lt derived.TheImpl.ghosts.partial_cmp x y ≡ quad_below x y
unfolding quad_below
quad_told x y =
    decided x.s y.s _ ∙ ap (below_or x.s y.s) (decided x.p y.p _ ∙ ap (below_or x.p y.p) (decided x.o y.o _ ∙ ap (below_or x.o y.o) (number_told x.g y.g)))
