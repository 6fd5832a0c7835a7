use Rattle.std.proofs.Common.{◌≡◌, ℕ, max, List, [], ◌∷◌, sym, refl, ◌∙◌, arith, rules}
use Rattle.std.specs.List.{fold, reduce}
use Rattle.std.specs.Option.{unwrap_or}
use Rattle.std.proofs.lemmas.Iterator.{YieldsList-from_map, YieldsList-from_range}
use Rattle.std.proofs.lemmas.Iterator.Consumers.{max_from_yields_List}
use Rattle.std.proofs.lemmas.Iterator.Adapters.{option_map_id}
use Rattle.numbers.specs.NumbersIn.{number_in, numbers_in, largest_of}
use Rattle.numbers.proofs.packed.PackedNumbers.largest.Goals as goal

-- the largest by the pick of the greater of two
largest_from : (m : ℕ) (numbers : List ℕ) → fold max m numbers ≡ max m (largest_of numbers)
largest_from m [] = omega arith
largest_from m (n ∷ numbers) = largest_from (max m n) numbers ∙ omega arith

largest_is : (numbers : List ℕ) → unwrap_or (reduce max numbers) 0 ≡ largest_of numbers
largest_is [] = refl
largest_is (n ∷ numbers) = largest_from n numbers

pub returns : goal.returns
returns c =
    let p = c.args.self.now in
    let numbers : List ℕ = numbers_in p.words.now p.width p.len in
    let most : c.max.result ≡ reduce max numbers =
    sym (option_map_id c.max.result) ∙ max_from_yields_List c.map.result c.max.result c.max.ensures.ran (YieldsList-from_map _ (number_in p.words.now p.width) (YieldsList-from_range 0 p.len p.len c.map.ensures.source (omega arith)) c.map.ensures.closure (λ x r q k. search rules)) in
    cc (largest_is numbers)
