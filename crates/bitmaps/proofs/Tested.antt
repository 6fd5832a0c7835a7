-- Rank, select and following, of the bits that a test of places tells. Assumes nothing.
use Rattle.std.proofs.Common.{◌≡◌, ℕ, zero, suc, ◌+◌, ◌-◌, ◌<◌, ◌≤◌, min, Bool, true, false, cond, ◌&&◌, eqb, ◌⊎◌, List, map, length, take, Some, None, sym, refl, ap, ◌∙◌, subst, ⊎_elim, arith}
use Rattle.std.specs.List.{slice_get, range_with_len}
use Rattle.std.proofs.lemmas.List.FromFn.{length-map-range_with_len, get_or-map-range_with_len, take-map-range_with_len, sum_by-map-range_with_len_more}
use Rattle.std.proofs.lemmas.List.{take_all, get_or_past}
use Rattle.std.proofs.lemmas.Option.{slice_get-get_or, slice_get_past}
use Rattle.std.proofs.lemmas.List.Sums.{count_by-le-length}
use Rattle.std.proofs.lemmas.Bool.{cases_lt, cases_Bool, both_ways, cond-true, cond-false, and_from, and_left, and_right, and_parts, eq-eqb, ne_eqb, eqb-true}
use Rattle.ordered.specs.Lists.{first_place}
use Rattle.bits.proofs.FirstPlace.{first_is, first_not, first_found, first_same}
use Rattle.bitmaps.specs.Counts.{ones_of, rank_of, one_at, select_of, following_of}

module _ (test : ℕ → Bool) where
  -- the first bits that the test tells, and how many of them are ones
  abbrev pub told : ℕ → List Bool
  told n = map test (range_with_len 0 n)

  abbrev pub ones : ℕ → ℕ
  ones n = ones_of (told n)

  pub ones_bound : (n : ℕ) → ones n ≤ n
  ones_bound n = omega (arith, count_by-le-length (λ b. b) (told n), length-map-range_with_len test 0 n)

  pub ones_more : (k : ℕ) → ones (k + 1) ≡ ones k + cond (test k) 1 0
  ones_more k = sum_by-map-range_with_len_more (λ b. cond b 1 0) test 0 k k (omega arith)

  ones_grow : (a d : ℕ) → ones a ≤ ones (a + d)
  ones_grow a zero = let e : a ≡ a + 0 = omega arith in subst (λ n. ones a ≤ ones n) e (omega arith)
  ones_grow a (suc d) = let e : a + d + 1 ≡ a + suc d = omega arith in subst (λ n. ones a ≤ ones n) e (omega (arith, ones_grow a d, ones_more (a + d)))

  pub ones_mono : (a b : ℕ) → a ≤ b → ones a ≤ ones b
  ones_mono a b h = let e : a + (b - a) ≡ b = omega arith in subst (λ n. ones a ≤ ones n) e (ones_grow a (b - a))

  -- a stretch of zeros adds none, and a stretch of ones its length
  zeros_add : (a d : ℕ) → ((k : ℕ) → a ≤ k → k < a + d → test k ≡ false) → ones (a + d) ≡ ones a
  zeros_add a zero h = let e : a + 0 ≡ a = omega arith in ap ones e
  zeros_add a (suc d) h =
      let e : a + suc d ≡ a + d + 1 = omega arith in
      ap ones e ∙ omega (arith, ones_more (a + d), cond-false {A = ℕ} (test (a + d)) 1 0 (h (a + d) (omega arith) (omega arith)), zeros_add a d (λ k low high. h k low (omega arith)))

  ones_add : (a d : ℕ) → ((k : ℕ) → a ≤ k → k < a + d → test k ≡ true) → ones (a + d) ≡ ones a + d
  ones_add a zero h = let e : a + 0 ≡ a = omega arith in ap ones e ∙ omega arith
  ones_add a (suc d) h =
      let e : a + suc d ≡ a + d + 1 = omega arith in
      ap ones e ∙ omega (arith, ones_more (a + d), cond-true {A = ℕ} (test (a + d)) 1 0 (h (a + d) (omega arith) (omega arith)), ones_add a d (λ k low high. h k low (omega arith)))

  pub ones_gap : (a b : ℕ) → a ≤ b → ((k : ℕ) → a ≤ k → k < b → test k ≡ false) → ones b ≡ ones a
  ones_gap a b l h = let e : a + (b - a) ≡ b = omega arith in ap ones (sym e) ∙ zeros_add a (b - a) (λ k low high. h k low (omega arith))

  -- where no one is added there is none
  pub no_ones : (a b : ℕ) → ones b ≤ ones a → (k : ℕ) → a ≤ k → k < b → test k ≡ false
  no_ones a b e k low high =
      ⊎_elim
      (λ t. absurd (omega (arith, ones_mono a k low, ones_more k, ones_mono (k + 1) b (omega arith), cond-true {A = ℕ} (test k) 1 0 t)))
      (λ f. f)
      (cases_Bool (test k))

  -- the one of a number that is not past the number of ones
  pub place_of_one : (n j : ℕ) → 0 < j → j ≤ ones n → (p : ℕ) × (p < n) × (test p ≡ true) × (ones p + 1 ≡ j)
  place_of_one zero j some enough = absurd (omega (arith, ones_bound 0))
  place_of_one (suc n) j some enough =
      let next : n + 1 ≡ suc n = omega arith in
      let more : ones (suc n) ≡ ones n + cond (test n) 1 0 = ap ones (sym next) ∙ ones_more n in
      ⊎_elim
      (λ l.
      ⊎_elim
      (λ t. (n, omega arith, t, omega (arith, more, cond-true {A = ℕ} (test n) 1 0 t)))
      (λ f. absurd (omega (arith, more, cond-false {A = ℕ} (test n) 1 0 f)))
      (cases_Bool (test n)))
      (λ l. let q = place_of_one n j some l in (q.0, omega (arith, q.1), q.2, q.3))
      (cases_lt (ones n) j)

  pub ones_run : (a b : ℕ) → a ≤ b → ((k : ℕ) → a ≤ k → k < b → test k ≡ true) → ones b ≡ ones a + (b - a)
  ones_run a b l h = let e : a + (b - a) ≡ b = omega arith in ap ones (sym e) ∙ ones_add a (b - a) (λ k low high. h k low (omega arith))

  pub nth-told : (n i : ℕ) → i < n → slice_get (told n) i ≡ Some (test i)
  nth-told n i h =
      slice_get-get_or (told n) i false (omega (arith, length-map-range_with_len test 0 n)) ∙ ap Some (get_or-map-range_with_len test 0 n i i false h (omega arith))

  pub nth_past_told : (n i : ℕ) → n ≤ i → slice_get (told n) i ≡ None
  nth_past_told n i h = slice_get_past (told n) i (omega (arith, length-map-range_with_len test 0 n))

  take-told : (k n : ℕ) → take k (told n) ≡ told (min k n)
  take-told k n =
      ⊎_elim
      (λ l. let e : n ≡ min k n = omega arith in take_all k (told n) (omega (arith, length-map-range_with_len test 0 n)) ∙ ap told e)
      (λ l. let e : k ≡ min k n = omega arith in take-map-range_with_len test 0 n k l ∙ ap told e)
      (cases_lt n k)

  pub rank_least : (k n e : ℕ) → e ≡ min k n → ones e ≡ rank_of (told n) k
  rank_least k n e h = ap ones h ∙ ap ones_of (sym (take-told k n))

  module _ (len : ℕ) (spare : (k : ℕ) → len ≤ k → test k ≡ false) where
    pub rank_told : (k : ℕ) → ones k ≡ rank_of (told len) k
    rank_told k =
        let all : ones k ≡ ones (min k len) = ones_gap (min k len) k (omega arith) (λ j low high. spare j (omega arith)) in
        all ∙ rank_least k len (min k len) refl

    pub one_at_is : (k : ℕ) → one_at (told len) k ≡ test k
    one_at_is k =
        ⊎_elim
        (λ l. get_or-map-range_with_len test 0 len k k false l (omega arith))
        (λ l. get_or_past (told len) k false (omega (arith, length-map-range_with_len test 0 len)) ∙ sym (spare k l))
        (cases_lt k len)

    -- a one lies before the end
    one_before : (p : ℕ) → test p ≡ true → p < len
    one_before p t = ⊎_elim (λ l. l) (λ l. absurd (both_ways _ (spare p l) t)) (cases_lt p len)

    pub following_told : (i : ℕ) → following_of (told len) i ≡ first_place test i (len - i)
    unfolding following_of
    following_told i =
        first_same (one_at (told len)) test one_at_is i (length (told len) - i)
        ∙ ap (λ n. first_place test i (n - i)) (length-map-range_with_len test 0 len)

    pub following_is : (i p : ℕ) → i ≤ p → ((k : ℕ) → i ≤ k → k < p → test k ≡ false) → test p ≡ true → Some p ≡ following_of (told len) i
    following_is i p low none here = sym (following_told i ∙ first_is test i (len - i) p low (omega (arith, one_before p here)) none here)

    pub following_none : (i : ℕ) → ((k : ℕ) → i ≤ k → test k ≡ false) → None ≡ following_of (told len) i
    following_none i none = sym (following_told i ∙ first_not test i (len - i) (λ k low high. none k low))

    pub select_is : (p j : ℕ) → test p ≡ true → ones p + 1 ≡ j → Some p ≡ select_of (told len) j
    unfolding select_of
    select_is p j t e =
        let inside : p < len = one_before p t in
        let long : length (told len) ≡ len = length-map-range_with_len test 0 len in
        let here : rank_of (told len) (p + 1) ≡ j = sym (rank_told (p + 1)) ∙ omega (arith, ones_more p, cond-true {A = ℕ} (test p) 1 0 t) in
        let none : (k : ℕ) → 0 ≤ k → k < p → (one_at (told len) k && eqb (rank_of (told len) (k + 1)) j) ≡ false =
        λ k a b. and_right _ _ (ne_eqb (rank_of (told len) (k + 1)) j (λ s. omega (arith, rank_told (k + 1), ones_mono (k + 1) p (omega arith)))) in
        sym (first_is (λ i. one_at (told len) i && eqb (rank_of (told len) (i + 1)) j) 0 (length (told len)) p (omega arith) (omega arith) none (and_from _ _ (one_at_is p ∙ t) (eq-eqb (rank_of (told len) (p + 1)) j here)))

    pub select_none : (j : ℕ) → (j ≡ 0) ⊎ (ones len < j) → None ≡ select_of (told len) j
    unfolding select_of
    select_none j h =
        let long : length (told len) ≡ len = length-map-range_with_len test 0 len in
        sym (first_not (λ i. one_at (told len) i && eqb (rank_of (told len) (i + 1)) j) 0 (length (told len))
        (λ k a b.
        ⊎_elim
        (λ t.
        let one : test k ≡ true = sym (one_at_is k) ∙ t in
        and_right _ _ (ne_eqb (rank_of (told len) (k + 1)) j (λ s.
        let count : rank_of (told len) (k + 1) ≡ ones k + 1 = sym (rank_told (k + 1)) ∙ omega (arith, ones_more k, cond-true {A = ℕ} (test k) 1 0 one) in
        ⊎_elim (λ z. omega arith) (λ l. omega (arith, rank_told (k + 1), ones_mono (k + 1) len (omega arith))) h)))
        (λ f. and_left _ _ f)
        (cases_Bool (one_at (told len) k))))

    -- what was selected is the one of this number, and none is only where there are fewer
    pub select_found : (p j : ℕ) → select_of (told len) j ≡ Some p → (p < len) × (test p ≡ true) × (ones p + 1 ≡ j)
    unfolding select_of
    select_found p j e =
        let long : length (told len) ≡ len = length-map-range_with_len test 0 len in
        let found = first_found (λ i. one_at (told len) i && eqb (rank_of (told len) (i + 1)) j) 0 (length (told len)) p e in
        let both = and_parts _ _ found.3 in
        let one : test p ≡ true = sym (one_at_is p) ∙ both.0 in
        let count : rank_of (told len) (p + 1) ≡ j = eqb-true (rank_of (told len) (p + 1)) j both.1 in
        (omega (arith, found.1), one, omega (arith, rank_told (p + 1), ones_more p, cond-true {A = ℕ} (test p) 1 0 one))

    pub select_missed : (j : ℕ) → 0 < j → select_of (told len) j ≡ None → ones len < j
    select_missed j some e =
        ⊎_elim
        (λ l. l)
        (λ (l : j ≤ ones len).
        let q = place_of_one len j some l in
        let f : Some q.0 ≡ None = select_is q.0 j q.2 q.3 ∙ e in
        let z : ◌≡◌ {A = ℕ} 0 1 = cc in
        absurd (omega arith))
        (cases_lt (ones len) j)
