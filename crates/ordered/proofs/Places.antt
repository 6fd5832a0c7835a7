-- Where the first entry not below a key stands, by the test at one place. Assumes nothing.
use Rattle.std.proofs.Common.{◌≡◌, ℕ, zero, suc, ◌<◌, ◌≤◌, Bool, true, false, List, [], ◌∷◌, length, get_or, sym, refl, ap, ◌∙◌, subst, ⊎_elim, arith}
use Rattle.std.proofs.lemmas.Bool.{and_parts, cases_Bool, cond-true, cond-false, not-true}
use Rattle.std.specs.List.Sorted.{IsPartitionPoint, IsPartitionedBy}
use Rattle.ordered.specs.Order.{TotalOrder, ascends, first_not_below}

module _ {A : Type 0} (below : A → A → Bool) where
  -- an entry not below the key stands at or after the place
  pub place_upto : (key : A) (xs : List A) (i : ℕ) (d : A) → i < length xs → below (get_or xs i d) key ≡ false → first_not_below below key xs ≤ i
  place_upto key [] i d h e = omega arith
  place_upto key (x ∷ xs) zero d h e = omega (arith, cond-false (below x key) (suc (first_not_below below key xs)) 0 e)
  place_upto key (x ∷ xs) (suc i) d h e =
      let ih : first_not_below below key xs ≤ i = place_upto key xs i d (omega arith) e in
      ⊎_elim
      (λ t. omega (arith, cond-true (below x key) (suc (first_not_below below key xs)) 0 t))
      (λ f. omega (arith, cond-false (below x key) (suc (first_not_below below key xs)) 0 f))
      (cases_Bool (below x key))

  -- where those below the key stand before a place and no others do, that is the place
  pub place_parts : (key : A) (xs : List A) (i : ℕ) → i ≤ length xs → IsPartitionPoint (λ x. below x key ≡ true) (λ x. below x key ≡ false) xs i → i ≡ first_not_below below key xs
  place_parts key [] i h p = omega arith
  place_parts key (x ∷ xs) zero h p = sym (cond-false (below x key) _ 0 (p.1 0 x (omega arith) (omega arith)))
  place_parts key (x ∷ xs) (suc i) h p =
      ap suc (place_parts key xs i (omega arith) (λ k d l m. p.0 (suc k) d (omega arith) (omega arith), λ k d l m. p.1 (suc k) d (omega arith) (omega arith)))
      ∙ sym (cond-true (below x key) _ 0 (p.0 0 x (omega arith) (omega arith)))

  pub place_length : (key : A) (xs : List A) → first_not_below below key xs ≤ length xs
  place_length key [] = omega arith
  place_length key (x ∷ xs) =
      let ih : first_not_below below key xs ≤ length xs = place_length key xs in
      ⊎_elim
      (λ t. omega (arith, cond-true (below x key) (suc (first_not_below below key xs)) 0 t))
      (λ f. omega (arith, cond-false (below x key) (suc (first_not_below below key xs)) 0 f))
      (cases_Bool (below x key))

module _ {A : Type 0} (below : A → A → Bool) (order : TotalOrder below) where
  -- what is not above an entry below the key is below the key
  pub not_above_below : (x y key : A) → below y x ≡ false → below y key ≡ true → below x key ≡ true
  not_above_below x y key n b =
      ⊎_elim
      (λ t. order.transitive x y key t b)
      (λ f. subst (λ z. below z key ≡ true) (sym (order.connected x y f n)) b)
      (cases_Bool (below x y))

  first_below : (key x : A) (xs : List A) (i : ℕ) (d : A) → ascends below (x ∷ xs) ≡ true → i < length xs → below (get_or xs i d) key ≡ true → below x key ≡ true
  first_below key x [] i d a h e = absurd (omega arith)
  first_below key x (y ∷ ys) zero d a h e =
      not_above_below x y key (not-true (below y x) (and_parts _ _ a).0) e
  first_below key x (y ∷ ys) (suc i) d a h e =
      not_above_below x y key (not-true (below y x) (and_parts _ _ a).0) (first_below key y ys i d (and_parts _ _ a).1 (omega arith) e)

  pub ascends_tail : (x : A) (xs : List A) → ascends below (x ∷ xs) ≡ true → ascends below xs ≡ true
  ascends_tail x [] a = refl
  ascends_tail x (y ∷ ys) a = (and_parts _ _ a).1

  -- an entry below the key stands before the place
  pub place_past : (key : A) (xs : List A) (i : ℕ) (d : A) → ascends below xs ≡ true → i < length xs → below (get_or xs i d) key ≡ true → i < first_not_below below key xs
  place_past key [] i d a h e = omega arith
  place_past key (x ∷ xs) zero d a h e = omega (arith, cond-true (below x key) (suc (first_not_below below key xs)) 0 e)
  place_past key (x ∷ xs) (suc i) d a h e =
      let ih : i < first_not_below below key xs = place_past key xs i d (ascends_tail x xs a) (omega arith) e in
      let t : below x key ≡ true = first_below key x xs i d a (omega arith) e in
      omega (arith, cond-true (below x key) (suc (first_not_below below key xs)) 0 t)

  -- no entry that is below the key comes after one that is not
  pub parted_by_key : (key : A) (xs : List A) → ascends below xs ≡ true → IsPartitionedBy (λ x. below x key) xs
  parted_by_key key xs a i j d l m b =
      let past : j < first_not_below below key xs = place_past key xs j d a m b in
      ⊎_elim
      (λ t. t)
      (λ f. let upto : first_not_below below key xs ≤ i = place_upto below key xs i d (omega arith) f in absurd (omega arith))
      (cases_Bool (below (get_or xs i d) key))
