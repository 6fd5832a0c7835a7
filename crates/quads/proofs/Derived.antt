-- The larger of two quads, and `>=` between them, by their derived order. Assumes nothing.
use Rattle.std.proofs.Common.{◌≡◌, ℕ, Bool, true, false, cond, not, Some, Option, ◌&&◌, ◌||◌, ◌==◌, nat_lt, Ordering, Less, Equal, Greater, sym, refl, ap, ◌∙◌}
use Rattle.std.proofs.lemmas.Bool.{not-true, not-false}
use Rattle.std.specs.Ordering.{is_lt, is_ge, is_some_and, partial_ge, partial_ordering_then, ord_max, ordering_then, nat_cmp}
use Rattle.ordered.specs.Numbers.{number_told}
use Rattle.quads.specs.Quads.{quad_below, below_or}
use Rattle.quads.specs.declared.quad.Quad.{Quad}
use Rattle.quads.specs.QuadTold.{quad_told}
use Rattle.quads.specs.contracts.quad.QuadOrd as derived
use Rattle.quads.specs.contracts.quad.QuadPartialOrd as partly

-- the first numbers decide, and where they are equal the rest of the answer does
decided : (a b : ℕ) (rest : Ordering) → is_lt (ordering_then (nat_cmp a b) rest) ≡ below_or a b (is_lt rest)
decided a b rest = by_tests (nat_lt a b) (a == b)
  where
    by_tests : (below same : Bool) → is_lt (ordering_then (cond below Less (cond same Equal Greater)) rest) ≡ (below || (same && is_lt rest))
    by_tests true same = refl
    by_tests false true = refl
    by_tests false false = refl

-- the derived order tells which quad is below the other
pub cmp_told : (x y : Quad) → is_lt (derived.TheImpl.ghosts.cmp x y) ≡ quad_below x y
unfolding quad_below
cmp_told x y =
    decided x.s y.s _ ∙ ap (below_or x.s y.s) (decided x.p y.p _ ∙ ap (below_or x.p y.p) (decided x.o y.o _ ∙ ap (below_or x.o y.o) (number_told x.g y.g)))

pub larger : (x y : Quad) → ord_max derived.TheImpl.ghosts.cmp x y ≡ cond (quad_below y x) x y
larger x y = ap (λ below. cond below x y) (cmp_told y x)

-- `>=` is no `<`, at each answer
not_less : (o : Ordering) → is_ge o ≡ not (is_lt o)
not_less Less = refl
not_less Equal = refl
not_less Greater = refl

-- an answer that is there: `>=` and `<` stay opposite with the numbers before it
opposite : (a b : ℕ) (rest : Option Ordering) → is_some_and is_ge rest ≡ not (is_some_and is_lt rest) → is_some_and is_ge (partial_ordering_then (Some (nat_cmp a b)) rest) ≡ not (is_some_and is_lt (partial_ordering_then (Some (nat_cmp a b)) rest))
opposite a b rest e = by_tests (nat_lt a b) (a == b)
  where
    by_tests : (below same : Bool) → is_some_and is_ge (partial_ordering_then (Some (cond below Less (cond same Equal Greater))) rest) ≡ not (is_some_and is_lt (partial_ordering_then (Some (cond below Less (cond same Equal Greater))) rest))
    by_tests true same = refl
    by_tests false true = e
    by_tests false false = refl

at_least : (x y : Quad) → partial_ge partly.TheImpl.ghosts.partial_cmp x y ≡ not (quad_below x y)
at_least x y =
    opposite x.s y.s _ (opposite x.p y.p _ (opposite x.o y.o _ (not_less (nat_cmp x.g y.g))))
    ∙ ap not (quad_told x y)

pub not_below_told : (x y : Quad) → true ≡ partial_ge partly.TheImpl.ghosts.partial_cmp x y → quad_below x y ≡ false
not_below_told x y e = not-true _ (sym (at_least x y) ∙ sym e)

pub below_told : (x y : Quad) → false ≡ partial_ge partly.TheImpl.ghosts.partial_cmp x y → quad_below x y ≡ true
below_told x y e = not-false _ (sym (at_least x y) ∙ sym e)
