-- Runs, place by place. Assumes nothing.
use Rattle.std.proofs.Common.{◌≡◌, ℕ, zero, suc, ◌+◌, ◌-◌, ◌<◌, ◌≤◌, true, false, leb, ◌⊎◌, List, [], ◌∷◌, length, get_or, take, max, Some, None, Option, sum_by, sym, refl, ap, ◌∙◌, subst, inl, inr, ⊎_elim, add-one, arith}
use Rattle.std.proofs.lemmas.List.{get_or_default}
use Rattle.std.proofs.lemmas.List.Sums.{sum_by_more}
use Rattle.std.proofs.lemmas.Bool.{cases_Bool, cases_lt, cases_order, cond-true, cond-false, and_parts, and_from, and_left, and_right, or_left, or_right, or_from, le-leb, lt-leb, lt-ltb, le-ltb, leb-true, leb-false, ltb-true}
use Rattle.std.specs.List.{slice_get}
use Rattle.std.specs.Option.{option_map}
use Rattle.std.specs.List.Sorted.{IsPartitionPoint, IsNonDecreasingBy}
use Rattle.runs.specs.Runs.{first_of, size_of, end_of, in_run, in_runs, runs_fit, run_after}
use Rattle.bitmaps.proofs.Tested.{ones, ones_gap, ones_run, ones_bound}

-- what lawful runs tell of the first one, and when they are lawful
pub fit_parts : (from len w : ℕ) (ws : List ℕ) → runs_fit from len (w ∷ ws) ≡ true → (from ≤ first_of w) × (0 < size_of w) × (end_of w ≤ len) × (runs_fit (end_of w + 1) len ws ≡ true)
fit_parts from len w ws e =
    let a = and_parts _ _ e in
    let b = and_parts _ _ a.1 in
    let c = and_parts _ _ b.1 in
    (leb-true from (first_of w) a.0, ltb-true 0 (size_of w) b.0, leb-true (end_of w) len c.0, c.1)

pub fit_from : (from len w : ℕ) (ws : List ℕ) → from ≤ first_of w → 0 < size_of w → end_of w ≤ len → runs_fit (end_of w + 1) len ws ≡ true → runs_fit from len (w ∷ ws) ≡ true
fit_from from len w ws a b c d =
    and_from _ _ (le-leb from (first_of w) a) (and_from _ _ (lt-ltb 0 (size_of w) b) (and_from _ _ (le-leb (end_of w) len c) d))

-- each run of lawful ones
pub run_from : (from len : ℕ) (ws : List ℕ) (i : ℕ) → runs_fit from len ws ≡ true → i < length ws → from ≤ first_of (get_or ws i 0)
run_from from len [] i e h = absurd (omega arith)
run_from from len (w ∷ ws) zero e h = (fit_parts from len w ws e).0
run_from from len (w ∷ ws) (suc i) e h =
    let p = fit_parts from len w ws e in
    omega (arith, p.0, run_from (end_of w + 1) len ws i p.3 (omega arith))

pub run_ends : (from len : ℕ) (ws : List ℕ) (i : ℕ) → runs_fit from len ws ≡ true → i < length ws → end_of (get_or ws i 0) ≤ len
run_ends from len [] i e h = absurd (omega arith)
run_ends from len (w ∷ ws) zero e h = (fit_parts from len w ws e).2
run_ends from len (w ∷ ws) (suc i) e h = run_ends (end_of w + 1) len ws i (fit_parts from len w ws e).3 (omega arith)

pub run_before : (from len : ℕ) (ws : List ℕ) (i j : ℕ) → runs_fit from len ws ≡ true → i < j → j < length ws → end_of (get_or ws i 0) < first_of (get_or ws j 0)
run_before from len [] i j e l h = absurd (omega arith)
run_before from len (w ∷ ws) i zero e l h = absurd (omega arith)
run_before from len (w ∷ ws) zero (suc j) e l h = omega (arith, run_from (end_of w + 1) len ws j (fit_parts from len w ws e).3 (omega arith))
run_before from len (w ∷ ws) (suc i) (suc j) e l h = run_before (end_of w + 1) len ws i j (fit_parts from len w ws e).3 (omega arith) (omega arith)

-- the places that runs cover
pub covers : (ws : List ℕ) (k i : ℕ) → i < length ws → first_of (get_or ws i 0) ≤ k → k < end_of (get_or ws i 0) → in_runs ws k ≡ true
covers [] k i h a b = absurd (omega arith)
covers (w ∷ ws) k zero h a b = or_left _ _ (and_from _ _ (le-leb (first_of w) k a) (lt-ltb k (end_of w) b))
covers (w ∷ ws) k (suc i) h a b = or_right _ _ (covers ws k i (omega arith) a b)

pub not_in_run : (w k : ℕ) → (k < first_of w) ⊎ (end_of w ≤ k) → in_run w k ≡ false
not_in_run w k h = ⊎_elim (λ l. and_left _ _ (lt-leb (first_of w) k l)) (λ l. and_right _ _ (le-ltb k (end_of w) l)) h

pub covers_not : (ws : List ℕ) (k : ℕ) → ((i : ℕ) → i < length ws → (k < first_of (get_or ws i 0)) ⊎ (end_of (get_or ws i 0) ≤ k)) → in_runs ws k ≡ false
covers_not [] k h = refl
covers_not (w ∷ ws) k h = or_from _ _ (not_in_run w k (h 0 (omega arith))) (covers_not ws k (λ i l. h (suc i) (omega arith)))

pub none_below : (from len : ℕ) (ws : List ℕ) → runs_fit from len ws ≡ true → (k : ℕ) → k < from → in_runs ws k ≡ false
none_below from len ws fit k h = covers_not ws k (λ i l. inl (omega (arith, run_from from len ws i fit l)))

module _ (len : ℕ) (ws : List ℕ) (fit : runs_fit 0 len ws ≡ true) where
  pub covers_past : (k : ℕ) → len ≤ k → in_runs ws k ≡ false
  covers_past k h = covers_not ws k (λ i l. inr (omega (arith, run_ends 0 len ws i fit l)))

  -- a place between two runs
  pub between : (i k : ℕ) → ((j : ℕ) → j < i → end_of (get_or ws j 0) ≤ k) → (i < length ws → k < first_of (get_or ws i 0)) → in_runs ws k ≡ false
  between i k before after =
      covers_not ws k
      (λ j l.
      ⊎_elim
      (λ s. inr (before j s))
      (λ s.
      ⊎_elim
      (λ e. inl (subst (λ n. k < first_of (get_or ws n 0)) e (after (omega arith))))
      (λ w. ⊎_elim (λ m. inl (omega (arith, after (omega arith), run_before 0 len ws i j fit m l))) (λ m. absurd (omega arith)) w)
      (cases_order i j))
      (cases_lt j i))

  -- the ones before a place that comes after so many runs and not after more
  pub ones-between : (i p : ℕ) → i ≤ length ws → ((j : ℕ) → j < i → end_of (get_or ws j 0) ≤ p) → (i < length ws → p ≤ first_of (get_or ws i 0)) → ones (in_runs ws) p ≡ sum_by size_of (take i ws)
  ones-between zero p h before after =
      ones_gap (in_runs ws) 0 p (omega arith) (λ k low high. between 0 k (λ j l. absurd (omega arith)) (λ l. omega (arith, after l)))
  ones-between (suc i) p h before after =
      let w : ℕ = get_or ws i 0 in
      let here : i < length ws = omega arith in
      let ends : end_of w ≤ p = before i (omega arith) in
      let up : i + 1 ≡ suc i = add-one i in
      let first : ones (in_runs ws) (first_of w) ≡ sum_by size_of (take i ws) =
      ones-between i (first_of w) (omega arith) (λ j l. omega (arith, run_before 0 len ws j i fit l here)) (λ l. omega arith) in
      let run : ones (in_runs ws) (end_of w) ≡ ones (in_runs ws) (first_of w) + (end_of w - first_of w) =
      ones_run (in_runs ws) (first_of w) (end_of w) (omega arith) (λ k low high. covers ws k i here low high) in
      let gap : ones (in_runs ws) p ≡ ones (in_runs ws) (end_of w) =
      ones_gap (in_runs ws) (end_of w) p ends
      (λ k low high. between (suc i) k
      (λ j l. ⊎_elim (λ s. omega (arith, run_before 0 len ws j i fit s here)) (λ s. let e : i ≡ j = omega arith in subst (λ n. end_of (get_or ws n 0) ≤ k) e low) (cases_lt j i))
      (λ l. omega (arith, after l))) in
      gap ∙ omega (arith, first, run, sum_by_more size_of ws i 0 here) ∙ ap (λ n. sum_by size_of (take n ws)) up

  pub sizes_first : (i : ℕ) → i < length ws → ones (in_runs ws) (first_of (get_or ws i 0)) ≡ sum_by size_of (take i ws)
  sizes_first i h = ones-between i (first_of (get_or ws i 0)) (omega arith) (λ j l. omega (arith, run_before 0 len ws j i fit l h)) (λ l. omega arith)

  -- the ones before a place within a run
  pub ones_within : (i p : ℕ) → i < length ws → first_of (get_or ws i 0) ≤ p → p ≤ end_of (get_or ws i 0) → ones (in_runs ws) p ≡ sum_by size_of (take i ws) + (p - first_of (get_or ws i 0))
  ones_within i p h low high =
      ones_run (in_runs ws) (first_of (get_or ws i 0)) p low (λ k a b. covers ws k i h a (omega arith)) ∙ ap (λ n. n + (p - first_of (get_or ws i 0))) (sizes_first i h)

  pub sizes_bound : (i : ℕ) → i < length ws → sum_by size_of (take i ws) + size_of (get_or ws i 0) ≤ len
  sizes_bound i h =
      let w : ℕ = get_or ws i 0 in
      omega (arith, sizes_first i h, ones_bound (in_runs ws) (first_of w), run_ends 0 len ws i fit h)

-- where the runs stand part that end by the place and that end after it, there is the first that ends after it
pub after_part : (ws : List ℕ) (k i : ℕ) → IsPartitionPoint (λ w. leb (end_of w) k ≡ true) (λ w. leb (end_of w) k ≡ false) ws i → slice_get ws i ≡ run_after ws k
after_part [] k i p = refl
after_part (w ∷ ws) k zero p = sym (cond-false (leb (end_of w) k) _ _ (p.1 0 w (omega arith) (omega arith)))
after_part (w ∷ ws) k (suc i) p =
    after_part ws k i (λ j d l m. p.0 (suc j) d (omega arith) (omega arith), λ j d l m. p.1 (suc j) d (omega arith) (omega arith))
    ∙ sym (cond-true (leb (end_of w) k) _ _ (p.0 0 w (omega arith) (omega arith)))

-- from a place on that no run ends after, none is covered
pub after_none : (ws : List ℕ) (k : ℕ) → run_after ws k ≡ None → (j : ℕ) → k ≤ j → in_runs ws j ≡ false
after_none [] k e j l = refl
after_none (w ∷ ws) k e j l =
    ⊎_elim
    (λ t. or_from _ _ (not_in_run w j (inr (omega (arith, leb-true (end_of w) k t)))) (after_none ws k (sym (cond-true (leb (end_of w) k) (run_after ws k) (Some w) t) ∙ e) j l))
    (λ f. let g : Some w ≡ None = sym (cond-false (leb (end_of w) k) (run_after ws k) (Some w) f) ∙ e in let z : ◌≡◌ {A = ℕ} 0 1 = cc in absurd (omega arith))
    (cases_Bool (leb (end_of w) k))

-- and otherwise none is before the first run that ends after it
pub after_some : (from len : ℕ) (ws : List ℕ) (k w : ℕ) → runs_fit from len ws ≡ true → run_after ws k ≡ Some w → (k < end_of w) × (first_of w < end_of w) × ((j : ℕ) → k ≤ j → j < first_of w → in_runs ws j ≡ false) × ((j : ℕ) → first_of w ≤ j → j < end_of w → in_runs ws j ≡ true)
after_some from len [] k w fit e = let z : ◌≡◌ {A = ℕ} 0 1 = cc in absurd (omega arith)
after_some from len (v ∷ vs) k w fit e =
    let parts = fit_parts from len v vs fit in
    ⊎_elim
    (λ t.
    let later = after_some (end_of v + 1) len vs k w parts.3 (sym (cond-true (leb (end_of v) k) (run_after vs k) (Some v) t) ∙ e) in
    let past : end_of v ≤ k = leb-true (end_of v) k t in
    (later.0, later.1, λ j a b. or_from _ _ (not_in_run v j (inr (omega arith))) (later.2 j a b), λ j a b. or_right _ _ (later.3 j a b)))
    (λ f.
    let g : Some v ≡ Some w = sym (cond-false (leb (end_of v) k) (run_after vs k) (Some v) f) ∙ e in
    let s : v ≡ w = cc in
    subst
    (λ x. (k < end_of x) × (first_of x < end_of x) × ((j : ℕ) → k ≤ j → j < first_of x → in_runs (v ∷ vs) j ≡ false) × ((j : ℕ) → first_of x ≤ j → j < end_of x → in_runs (v ∷ vs) j ≡ true))
    s (
      omega (arith, leb-false (end_of v) k f),
      omega (arith, parts.1),
      λ j a b. or_from _ _ (not_in_run v j (inl b)) (none_below (end_of v + 1) len vs parts.3 j (omega arith)),
      λ j a b. or_left _ _ (and_from _ _ (le-leb (first_of v) j a) (lt-ltb j (end_of v) b)),
    ))
    (cases_Bool (leb (end_of v) k))

-- the runs end in ascending order
pub ends_ascend : (len : ℕ) (ws : List ℕ) → runs_fit 0 len ws ≡ true → IsNonDecreasingBy end_of ws
ends_ascend len ws fit i j d l h =
    let a : end_of (get_or ws i d) ≡ end_of (get_or ws i 0) = ap end_of (get_or_default ws i d 0 (omega arith)) in
    let b : end_of (get_or ws j d) ≡ end_of (get_or ws j 0) = ap end_of (get_or_default ws j d 0 h) in
    ⊎_elim
    (λ s. omega (arith, a, b, run_before 0 len ws i j fit s h))
    (λ s. let e : i ≡ j = omega arith in omega (arith, ap (λ k. end_of (get_or ws k d)) e))
    (cases_lt i j)

-- so the place is covered if that run begins by it, and the next place that is covered is the later of it and where that run begins
pub begun_none : (ws : List ℕ) (k : ℕ) → option_map first_of (run_after ws k) ≡ None → (j : ℕ) → k ≤ j → in_runs ws j ≡ false
begun_none ws k e = go (run_after ws k) refl
  where
    go : (r : Option ℕ) → run_after ws k ≡ r → (j : ℕ) → k ≤ j → in_runs ws j ≡ false
    go None is = after_none ws k is
    go (Some w) is = let f : Some (first_of w) ≡ None = sym (ap (option_map first_of) is) ∙ e in let z : ◌≡◌ {A = ℕ} 0 1 = cc in absurd (omega arith)

module _ (len : ℕ) (ws : List ℕ) (fit : runs_fit 0 len ws ≡ true) (k first : ℕ) (e : option_map first_of (run_after ws k) ≡ Some first) where
  pub begun_some : ((j : ℕ) → k ≤ j → j < first → in_runs ws j ≡ false) × (in_runs ws (max k first) ≡ true)
  begun_some = go (run_after ws k) refl
    where
      go : (r : Option ℕ) → run_after ws k ≡ r → ((j : ℕ) → k ≤ j → j < first → in_runs ws j ≡ false) × (in_runs ws (max k first) ≡ true)
      go None is = let f : ◌≡◌ {A = Option ℕ} None (Some first) = sym (ap (option_map first_of) is) ∙ e in let z : ◌≡◌ {A = ℕ} 0 1 = cc in absurd (omega arith)
      go (Some w) is =
          let f : Some (first_of w) ≡ Some first = sym (ap (option_map first_of) is) ∙ e in
          let same : first_of w ≡ first = cc in
          let after = after_some 0 len ws k w fit is in
          (λ j a b. after.2 j a (omega arith), after.3 (max k first) (omega arith) (omega (arith, after.0, after.1)))

  pub begun_covers : in_runs ws k ≡ leb first k
  begun_covers =
      ⊎_elim
      (λ l. begun_some.0 k (omega arith) l ∙ sym (lt-leb first k l))
      (λ l. let here : max k first ≡ k = omega arith in ap (in_runs ws) (sym here) ∙ begun_some.1 ∙ sym (le-leb first k l))
      (cases_lt k first)
