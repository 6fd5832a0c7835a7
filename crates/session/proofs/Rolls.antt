-- The open cursors up to a number, as a loop over the cursors meets them. Assumes nothing.
use Rattle.std.proofs.Common.{◌≡◌, ℕ, zero, suc, ◌+◌, ◌<◌, ◌≤◌, Bool, true, false, cond, ◌&&◌, eqb, ◌⊎◌, List, [], ◌∷◌, ◌++◌, length, take, drop, set, filter, sym, refl, ap, ◌∙◌, subst, inl, inr, ⊎_elim, add-one, arith, length-append}
use Rattle.std.specs.List.{range_with_len, count_by}
use Rattle.std.proofs.lemmas.List.FromFn.{map-range_with_len_more}
use Rattle.std.proofs.lemmas.List.Elements.{filter-append}
use Rattle.std.proofs.lemmas.List.{take_all, map-id, append-nil, take_more_set, drop-set-lt, drop-drop}
use Rattle.std.proofs.lemmas.List.Sums.{sum_by_push, count_by_more_yes, count_by_more_no}
use Rattle.std.proofs.lemmas.Bool.{cond-true, cond-false, cases_Bool, cases_order, cases_lt, both_ways, eq-eqb, ne_eqb, and_left, le-ltb, lt-ltb}
use Rattle.session.specs.Rolls.{is_open, is_open_at, open_cursors}
use Rattle.session.specs.Cursors.{closed}
use Rattle.session.specs.Tables.{cursor_at}
use Rattle.session.specs.Outcomes.{occurrences}
use Rattle.session.specs.declared.cursor.Table.{Table}

module _ (test : ℕ → Bool) where
  -- the numbers below n that pass
  abbrev pub upto : ℕ → List ℕ
  upto n = filter test (range_with_len 0 n)

  counting_push : (n : ℕ) → range_with_len 0 (n + 1) ≡ range_with_len 0 n ++ n ∷ []
  counting_push n =
      sym (map-id (range_with_len 0 (n + 1))) ∙ map-range_with_len_more (λ x. x) 0 n n (omega arith) ∙ ap (λ xs. xs ++ n ∷ []) (map-id (range_with_len 0 n))

  pub upto_yes : (n : ℕ) → test n ≡ true → upto (n + 1) ≡ upto n ++ n ∷ []
  upto_yes n e =
      ap (filter test) (counting_push n) ∙ filter-append test (range_with_len 0 n) (n ∷ []) ∙ ap (λ xs. upto n ++ xs) (cond-true (test n) _ _ e)

  pub upto_no : (n : ℕ) → test n ≡ false → upto (n + 1) ≡ upto n
  upto_no n e =
      ap (filter test) (counting_push n) ∙ filter-append test (range_with_len 0 n) (n ∷ []) ∙ ap (λ xs. upto n ++ xs) (cond-false (test n) _ _ e) ∙ append-nil (upto n)

  -- more numbers pass below a larger bound
  pub upto_grows : (n d : ℕ) → length (upto n) ≤ length (upto (n + d))
  upto_grows n zero = let e : n + 0 ≡ n = omega arith in subst (λ m. length (upto n) ≤ length (upto m)) (sym e) (omega arith)
  upto_grows n (suc d) =
      let e : n + d + 1 ≡ n + suc d = omega arith in
      let ih = upto_grows n d in
      subst (λ m. length (upto n) ≤ length (upto m)) e
      (⊎_elim
      (λ t. let more : length (upto (n + d + 1)) ≡ length (upto (n + d)) + 1 = ap length (upto_yes (n + d) t) ∙ length-append (upto (n + d)) ((n + d) ∷ []) in omega arith)
      (λ f. let same : length (upto (n + d + 1)) ≡ length (upto (n + d)) = ap length (upto_no (n + d) f) in omega arith)
      (cases_Bool (test (n + d))))

  -- how often a number stands among those that pass
  occurs_yes : (n k : ℕ) → test n ≡ true → occurrences k (upto (n + 1)) ≡ occurrences k (upto n) + cond (eqb k n) 1 0
  occurs_yes n k e = ap (occurrences k) (upto_yes n e) ∙ sum_by_push (λ x. cond (eqb k x) 1 0) (upto n) n

  occurs_never : (n k : ℕ) → (n ≤ k) ⊎ (test k ≡ false) → occurrences k (upto n) ≡ 0
  occurs_never zero k h = refl
  occurs_never (suc n) k h =
      let ih : occurrences k (upto n) ≡ 0 = occurs_never n k (⊎_elim (λ l. inl (omega arith)) inr h) in
      subst (λ m. occurrences k (upto m) ≡ 0) (add-one n)
      (⊎_elim
      (λ t. let apart : k ≡ n → ⊥ = λ s. ⊎_elim (λ l. omega arith) (λ f. both_ways (test n) (subst (λ j. test j ≡ false) s f) t) h in
      omega (arith, occurs_yes n k t, cond-false {A = ℕ} (eqb k n) 1 0 (ne_eqb k n apart)))
      (λ f. ap (occurrences k) (upto_no n f) ∙ ih)
      (cases_Bool (test n)))

  occurs_once : (n k : ℕ) → k < n → test k ≡ true → occurrences k (upto n) ≡ 1
  occurs_once zero k h e = absurd (omega arith)
  occurs_once (suc n) k h e =
      subst (λ m. occurrences k (upto m) ≡ 1) (add-one n)
      (⊎_elim
      (λ s. omega (arith, occurs_yes n k (subst (λ j. test j ≡ true) s e), cond-true {A = ℕ} (eqb k n) 1 0 (eq-eqb k n s), occurs_never n k (inl (omega arith))))
      (λ w. let l : k < n = ⊎_elim (λ l. l) (λ l. omega arith) w in
      let ih : occurrences k (upto n) ≡ 1 = occurs_once n k l e in
      let apart : k ≡ n → ⊥ = λ s. omega arith in
      ⊎_elim
      (λ t. omega (arith, occurs_yes n k t, cond-false {A = ℕ} (eqb k n) 1 0 (ne_eqb k n apart)))
      (λ f. ap (occurrences k) (upto_no n f) ∙ ih)
      (cases_Bool (test n)))
      (cases_order k n))

  pub occurs : (n k : ℕ) → (n ≤ k → test k ≡ false) → occurrences k (upto n) ≡ cond (test k) 1 0
  occurs n k past =
      ⊎_elim
      (λ t. occurs_once n k (⊎_elim (λ l. l) (λ l. absurd (both_ways _ (past l) t)) (cases_lt k n)) t ∙ sym (cond-true (test k) 1 0 t))
      (λ f. occurs_never n k (inr f) ∙ sym (cond-false (test k) 1 0 f))
      (cases_Bool (test k))

  -- one more cursor written after the n that stand in the buffer
  module _ (k n : ℕ) (buffer old : List ℕ) (count : n ≡ length (upto k)) (front : take n buffer ≡ upto k) (rest : drop n buffer ≡ drop n old) where
    pub wrote_yes : n < length buffer → test k ≡ true
        → (n + 1 ≡ length (upto (k + 1))) × (take (n + 1) (set buffer n k) ≡ upto (k + 1)) × (drop (n + 1) (set buffer n k) ≡ drop (n + 1) old)
    wrote_yes h e = (
      let more : length (upto (k + 1)) ≡ length (upto k) + 1 = ap length (upto_yes k e) ∙ length-append (upto k) (k ∷ []) in omega arith,
      take_more_set buffer n k h ∙ ap (λ xs. xs ++ k ∷ []) front ∙ sym (upto_yes k e),
      drop-set-lt (n + 1) buffer n k (omega arith) ∙ sym (drop-drop 1 n buffer) ∙ ap (drop 1) rest ∙ drop-drop 1 n old,
    )

    pub wrote_no : test k ≡ false → (n ≡ length (upto (k + 1))) × (take n buffer ≡ upto (k + 1)) × (drop n buffer ≡ drop n old)
    wrote_no e = (count ∙ ap length (sym (upto_no k e)), front ∙ sym (upto_no k e), rest)

past_none : (t : Table) (k : ℕ) → 8 ≤ k → is_open_at t k ≡ false
unfolding is_open_at
past_none t k h = and_left _ _ (le-ltb k 8 h)

-- each open cursor stands among the open cursors just once
pub open_once : (t : Table) (k : ℕ) → occurrences k (open_cursors t) ≡ cond (is_open_at t k) 1 0
unfolding open_cursors
open_once t k = occurs (is_open_at t) 8 k (past_none t k)

-- a cursor of the table is open by its state
pub open_here : (t : Table) (k : ℕ) → k < 8 → is_open_at t k ≡ is_open (cursor_at t k).state
unfolding is_open_at
open_here t k h = ap (λ here. here && is_open (cursor_at t k).state) (lt-ltb k 8 h)

-- counting the cursors that are open, and listing their numbers, comes to the same
counted_upto : (t : Table) (n : ℕ) → n ≤ 8 → length t.cursors ≡ 8 → length (upto (is_open_at t) n) ≡ count_by (λ c. is_open c.state) (take n t.cursors)
counted_upto t zero h e = refl
counted_upto t (suc n) h e =
    let ih = counted_upto t n (omega arith) e in
    let here = open_here t n (omega arith) in
    subst (λ m. length (upto (is_open_at t) m) ≡ count_by (λ c. is_open c.state) (take m t.cursors)) (add-one n)
    (⊎_elim
    (λ yes. ap length (upto_yes (is_open_at t) n (here ∙ yes)) ∙ length-append (upto (is_open_at t) n) (n ∷ []) ∙ ap (λ m. m + 1) ih ∙ sym (count_by_more_yes (λ c. is_open c.state) t.cursors n closed (omega arith) yes))
    (λ no. ap length (upto_no (is_open_at t) n (here ∙ no)) ∙ ih ∙ sym (count_by_more_no (λ c. is_open c.state) t.cursors n closed (omega arith) no))
    (cases_Bool (is_open (cursor_at t n).state)))

pub open_count : (t : Table) → length t.cursors ≡ 8 → length (open_cursors t) ≡ count_by (λ c. is_open c.state) t.cursors
unfolding open_cursors
open_count t e = counted_upto t 8 (omega arith) e ∙ ap (count_by (λ c. is_open c.state)) (take_all 8 t.cursors (omega arith))
