-- The runs of a list of bits are lawful, and cover its ones. Assumes nothing.
use Rattle.std.proofs.Common.{◌≡◌, ℕ, zero, suc, ◌+◌, ◌-◌, ◌<◌, ◌≤◌, Bool, true, false, List, [], ◌∷◌, map, length, get_or, drop, filter, sym, refl, ap, ◌∙◌, subst, inl, inr, ⊎_elim, arith}
use Rattle.std.specs.List.{range_with_len}
use Rattle.std.proofs.lemmas.List.FromFn.{fill_by_all}
use Rattle.std.proofs.lemmas.List.{length-drop, get_or-drop, get_or_past}
use Rattle.std.proofs.lemmas.Bool.{cases_lt, cases_Bool, cases_order, both_ways, and_parts, and_from, or_left, or_right, or_from, le-leb, lt-ltb, not-true, not_from_false}
use Rattle.ordered.proofs.Kept.{kept_yes, kept_no}
use Rattle.bitmaps.specs.Counts.{one_at}
use Rattle.runs.specs.RunMeaning.{covered_bits}
use Rattle.runs.specs.RunWords.{begins_run, run_places, leading_ones, run_word}
use Rattle.runs.specs.Runs.{first_of, size_of, end_of, in_run, in_runs, runs_fit}
use Rattle.runs.proofs.RunPlaces.{fit_from, not_in_run}

-- the ones that a list begins with
leading_bound : (xs : List Bool) → leading_ones xs ≤ length xs
leading_bound [] = omega arith
leading_bound (true ∷ xs) = omega (arith, leading_bound xs)
leading_bound (false ∷ xs) = omega arith

leading_one : (xs : List Bool) (j : ℕ) → j < leading_ones xs → get_or xs j false ≡ true
leading_one [] j h = absurd (omega arith)
leading_one (true ∷ xs) zero h = refl
leading_one (true ∷ xs) (suc j) h = leading_one xs j (omega arith)
leading_one (false ∷ xs) j h = absurd (omega arith)

leading_all : (xs : List Bool) (n : ℕ) → ((j : ℕ) → j < n → get_or xs j false ≡ true) → n ≤ leading_ones xs
leading_all xs zero h = omega arith
leading_all [] (suc n) h = absurd (both_ways false refl (h 0 (omega arith)))
leading_all (true ∷ xs) (suc n) h = omega (arith, leading_all xs n (λ j l. h (suc j) (omega arith)))
leading_all (false ∷ xs) (suc n) h = absurd (both_ways false refl (h 0 (omega arith)))

-- runs made of the places that pass a test
module _ (test : ℕ → Bool) (word : ℕ → ℕ) (k : ℕ) where
  kept_covers : (i m a : ℕ) → i ≤ a → a < i + m → test a ≡ true → in_run (word a) k ≡ true → in_runs (map word (filter test (range_with_len i m))) k ≡ true
  kept_covers i zero a low high t r = absurd (omega arith)
  kept_covers i (suc m) a low high t r =
      ⊎_elim
      (λ e.
      ap (λ xs. in_runs (map word xs) k) (kept_yes test i (range_with_len (i + 1) m) (ap test e ∙ t))
      ∙ or_left _ _ (ap (λ x. in_run (word x) k) e ∙ r))
      (λ w.
      let later : in_runs (map word (filter test (range_with_len (i + 1) m))) k ≡ true = kept_covers (i + 1) m a (⊎_elim (λ l. omega arith) (λ l. omega arith) w) (omega arith) t r in
      ⊎_elim
      (λ y. ap (λ xs. in_runs (map word xs) k) (kept_yes test i (range_with_len (i + 1) m) y) ∙ or_right _ _ later)
      (λ n. ap (λ xs. in_runs (map word xs) k) (kept_no test i (range_with_len (i + 1) m) n) ∙ later)
      (cases_Bool (test i)))
      (cases_order i a)

  kept_free : (i m : ℕ) → ((a : ℕ) → test a ≡ true → in_run (word a) k ≡ false) → in_runs (map word (filter test (range_with_len i m))) k ≡ false
  kept_free i zero h = refl
  kept_free i (suc m) h =
      ⊎_elim
      (λ y. ap (λ xs. in_runs (map word xs) k) (kept_yes test i (range_with_len (i + 1) m) y) ∙ or_from _ _ (h i y) (kept_free (i + 1) m h))
      (λ n. ap (λ xs. in_runs (map word xs) k) (kept_no test i (range_with_len (i + 1) m) n) ∙ kept_free (i + 1) m h)
      (cases_Bool (test i))

module _ (bits : List Bool) (few : length bits ≤ 67108864) where
  begins_one : (a : ℕ) → begins_run bits a ≡ true → one_at bits a ≡ true
  begins_one zero e = e
  begins_one (suc a) e = (and_parts _ _ e).0

  begins_after : (a : ℕ) → begins_run bits (suc a) ≡ true → one_at bits a ≡ false
  begins_after a e = not-true _ (and_parts _ _ e).1

  one_inside : (k : ℕ) → one_at bits k ≡ true → k < length bits
  one_inside k t = ⊎_elim (λ l. l) (λ l. absurd (both_ways _ (get_or_past bits k false l) t)) (cases_lt k (length bits))

  -- the run that begins at a place
  abbrev size : ℕ → ℕ
  size a = leading_ones (drop a bits)

  size_bound : (a : ℕ) → size a ≤ length bits - a
  size_bound a = omega (arith, leading_bound (drop a bits), length-drop a bits)

  first_is : (a : ℕ) → first_of (run_word bits a) ≡ a
  first_is a = omega (arith, size_bound a)

  size_is : (a : ℕ) → size_of (run_word bits a) ≡ size a
  size_is a = omega (arith, size_bound a)

  size-ones : (a k : ℕ) → a ≤ k → k < a + size a → one_at bits k ≡ true
  size-ones a k low high =
      let e : k ≡ a + (k - a) = omega arith in
      ap (one_at bits) e ∙ sym (get_or-drop a bits (k - a) false) ∙ leading_one (drop a bits) (k - a) (omega arith)

  size_past : (a k : ℕ) → a ≤ k → ((j : ℕ) → a ≤ j → j ≤ k → one_at bits j ≡ true) → k < a + size a
  size_past a k low h =
      omega (arith, leading_all (drop a bits) (k + 1 - a) (λ j l. get_or-drop a bits j false ∙ h (a + j) (omega arith) (omega arith)))

  -- the run that a one is in
  start : (k : ℕ) → one_at bits k ≡ true → (a : ℕ) × (a ≤ k) × (begins_run bits a ≡ true) × ((j : ℕ) → a ≤ j → j ≤ k → one_at bits j ≡ true)
  start zero t = (0, omega arith, t, λ j low high. let e : 0 ≡ j = omega arith in subst (λ i. one_at bits i ≡ true) e t)
  start (suc k) t =
      ⊎_elim
      (λ one.
      let s = start k one in (
        s.0,
        omega (arith, s.1),
        s.2,
        λ j low high. ⊎_elim (λ l. s.3 j low (omega arith)) (λ l. let e : suc k ≡ j = omega arith in subst (λ i. one_at bits i ≡ true) e t) (cases_lt j (suc k)),
      ))
      (λ none. (
        suc k,
        omega arith,
        and_from _ _ t (not_from_false _ none),
        λ j low high. let e : suc k ≡ j = omega arith in subst (λ i. one_at bits i ≡ true) e t,
      ))
      (cases_Bool (one_at bits k))

  -- the words of the runs
  abbrev pub words : List ℕ
  words = map (run_word bits) (run_places bits)

  pub words_cover : (k : ℕ) → in_runs words k ≡ one_at bits k
  words_cover k =
      ⊎_elim
      (λ t.
      let s = start k t in
      let a : ℕ = s.0 in
      let low : a ≤ k = s.1 in
      let high : k < a + size a = size_past a k low s.3 in
      let inside : a < length bits = omega (arith, one_inside k t) in
      kept_covers (begins_run bits) (run_word bits) k 0 (length bits) a (omega arith) (omega arith) s.2
      (and_from _ _ (le-leb (first_of (run_word bits a)) k (omega (arith, first_is a))) (lt-ltb k (end_of (run_word bits a)) (omega (arith, first_is a, size_is a))))
      ∙ sym t)
      (λ f.
      kept_free (begins_run bits) (run_word bits) k 0 (length bits)
      (λ a b.
      not_in_run (run_word bits a) k
      (⊎_elim
      (λ l. inl (omega (arith, first_is a)))
      (λ low. ⊎_elim (λ high. absurd (both_ways _ f (size-ones a k low high))) (λ high. inr (omega (arith, first_is a, size_is a))) (cases_lt k (a + size a)))
      (cases_lt k a)))
      ∙ sym f)
      (cases_Bool (one_at bits k))

  pub bits_again : covered_bits words (length bits) ≡ bits
  bits_again = sym (fill_by_all (in_runs words) bits (length bits) false refl (λ k h. sym (words_cover k)))

  -- the next run begins after a zero
  apart : (i a : ℕ) → i < a → begins_run bits a ≡ true → i + size i < a
  apart i zero l b = absurd (omega arith)
  apart i (suc a) l b = ⊎_elim (λ s. omega arith) (λ s. absurd (both_ways _ (begins_after a b) (size-ones i a (omega arith) (omega arith)))) (cases_lt (i + size i) (suc a))

  kept_fit : (i m from : ℕ) → i + m ≡ length bits → ((a : ℕ) → i ≤ a → begins_run bits a ≡ true → from ≤ a) → runs_fit from (length bits) (map (run_word bits) (filter (begins_run bits) (range_with_len i m))) ≡ true
  kept_fit i zero from e h = refl
  kept_fit i (suc m) from e h =
      ⊎_elim
      (λ b.
      let some : i < i + size i = size_past i i (omega arith) (λ j low high. let s : i ≡ j = omega arith in subst (λ n. one_at bits n ≡ true) s (begins_one i b)) in
      ap (λ xs. runs_fit from (length bits) (map (run_word bits) xs)) (kept_yes (begins_run bits) i (range_with_len (i + 1) m) b)
      ∙ fit_from from (length bits) (run_word bits i) (map (run_word bits) (filter (begins_run bits) (range_with_len (i + 1) m)))
      (omega (arith, first_is i, h i (omega arith) b))
      (omega (arith, size_is i))
      (omega (arith, first_is i, size_is i, size_bound i))
      (kept_fit (i + 1) m (end_of (run_word bits i) + 1) (omega arith) (λ a low c. omega (arith, first_is i, size_is i, apart i a (omega arith) c))))
      (λ n.
      ap (λ xs. runs_fit from (length bits) (map (run_word bits) xs)) (kept_no (begins_run bits) i (range_with_len (i + 1) m) n)
      ∙ kept_fit (i + 1) m from (omega arith) (λ a low c. h a (omega arith) c))
      (cases_Bool (begins_run bits i))

  pub words_fit : runs_fit 0 (length bits) words ≡ true
  words_fit = kept_fit 0 (length bits) 0 (omega arith) (λ a low b. omega arith)
