-- The order of numbers is a strict total order, which `<` tells. Assumes nothing.
use Rattle.std.specs.Prelude.{◌≡◌, ℕ, Bool, true, false, cond, ◌==◌, nat_lt}
use Rattle.std.specs.Ordering.{partial_lt, as_partial_cmp, nat_cmp, is_lt}
use Rattle.std.proofs.Common.{Less, Equal, Greater, refl, arith}
use Rattle.std.proofs.lemmas.Bool.{ltb-true, ltb-false, lt-ltb, le-ltb}
use Rattle.ordered.specs.Order.{TotalOrder}

pub number_order : TotalOrder nat_lt
number_order = record {
  irreflexive = λ x. le-ltb x x (omega arith);
  transitive = λ x y z p q. lt-ltb x z (omega (arith, ltb-true x y p, ltb-true y z q));
  connected = λ x y p q. omega (arith, ltb-false x y p, ltb-false y x q);
}

-- and `<` tells it
pub number_told : (x y : ℕ) → partial_lt (as_partial_cmp nat_cmp) x y ≡ nat_lt x y
number_told x y = by_tests (nat_lt x y) (x == y)
  where
    by_tests : (below same : Bool) → is_lt (cond below Less (cond same Equal Greater)) ≡ below
    by_tests true same = refl
    by_tests false true = refl
    by_tests false false = refl
