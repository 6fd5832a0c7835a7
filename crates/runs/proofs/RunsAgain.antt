-- Lawful runs that cover the same places are the same. Assumes nothing.
use Rattle.std.proofs.Common.{◌≡◌, ℕ, ◌+◌, ◌<◌, ◌≤◌, true, false, ◌||◌, List, [], ◌∷◌, sym, refl, ap, ◌∙◌, inl, inr, ⊎_elim, arith}
use Rattle.std.proofs.lemmas.Bool.{cases_lt, both_ways, or_from}
use Rattle.runs.specs.Runs.{first_of, end_of, in_runs, runs_fit}
use Rattle.runs.proofs.RunPlaces.{fit_parts, none_below, covers, not_in_run}

module _ (len : ℕ) where
  -- the place after the first run is free
  end_free : (from w : ℕ) (ws : List ℕ) → runs_fit from len (w ∷ ws) ≡ true → in_runs (w ∷ ws) (end_of w) ≡ false
  end_free from w ws fit = or_from _ _ (not_in_run w (end_of w) (inr (omega arith))) (none_below (end_of w + 1) len ws (fit_parts from len w ws fit).3 (end_of w) (omega arith))

  -- so are those before it
  front_free : (from w : ℕ) (ws : List ℕ) → runs_fit from len (w ∷ ws) ≡ true → (k : ℕ) → k < first_of w → in_runs (w ∷ ws) k ≡ false
  front_free from w ws fit k h = or_from _ _ (not_in_run w k (inl h)) (none_below (end_of w + 1) len ws (fit_parts from len w ws fit).3 k (omega arith))

  first_covered : (from w : ℕ) (ws : List ℕ) → runs_fit from len (w ∷ ws) ≡ true → in_runs (w ∷ ws) (first_of w) ≡ true
  first_covered from w ws fit = covers (w ∷ ws) (first_of w) 0 (omega arith) (omega arith) (omega (arith, (fit_parts from len w ws fit).1))

  rest_covered : (w : ℕ) (ws : List ℕ) (k : ℕ) → end_of w ≤ k → in_runs (w ∷ ws) k ≡ in_runs ws k
  rest_covered w ws k h = ap (λ b. b || in_runs ws k) (not_in_run w k (inr h))

  module _ (f g w v : ℕ) (ws vs : List ℕ) (a : runs_fit f len (w ∷ ws) ≡ true) (b : runs_fit g len (v ∷ vs) ≡ true)
      (same : (k : ℕ) → in_runs (w ∷ ws) k ≡ in_runs (v ∷ vs) k) where
    first_upto : first_of v ≤ first_of w
    first_upto = ⊎_elim (λ l. absurd (both_ways _ (same (first_of w) ∙ front_free g v vs b (first_of w) l) (first_covered f w ws a))) (λ l. l) (cases_lt (first_of w) (first_of v))

    end_upto : first_of w ≡ first_of v → end_of v ≤ end_of w
    end_upto e =
        ⊎_elim
        (λ l. absurd (both_ways _ (sym (same (end_of w)) ∙ end_free f w ws a) (covers (v ∷ vs) (end_of w) 0 (omega arith) (omega arith) l)))
        (λ l. l)
        (cases_lt (end_of w) (end_of v))

  pub same_runs : (f g : ℕ) (ws vs : List ℕ) → runs_fit f len ws ≡ true → runs_fit g len vs ≡ true → ((k : ℕ) → in_runs ws k ≡ in_runs vs k) → ws ≡ vs
  same_runs f g [] [] a b same = refl
  same_runs f g [] (v ∷ vs) a b same = absurd (both_ways _ (sym (same (first_of v))) (first_covered g v vs b))
  same_runs f g (w ∷ ws) [] a b same = absurd (both_ways _ (same (first_of w)) (first_covered f w ws a))
  same_runs f g (w ∷ ws) (v ∷ vs) a b same =
      let first : first_of w ≡ first_of v = omega (arith, first_upto f g w v ws vs a b same, first_upto g f v w vs ws b a (λ k. sym (same k))) in
      let end : end_of w ≡ end_of v = omega (arith, end_upto f g w v ws vs a b same first, end_upto g f v w vs ws b a (λ k. sym (same k)) (sym first)) in
      let word : w ≡ v = omega arith in
      let p = fit_parts f len w ws a in
      let q = fit_parts g len v vs b in
      let rest : (k : ℕ) → in_runs ws k ≡ in_runs vs k =
      λ k.
      ⊎_elim
      (λ l. none_below (end_of w + 1) len ws p.3 k l ∙ sym (none_below (end_of v + 1) len vs q.3 k (omega arith)))
      (λ l. sym (rest_covered w ws k (omega arith)) ∙ same k ∙ rest_covered v vs k (omega arith))
      (cases_lt k (end_of w + 1)) in
      ap (λ x. x ∷ ws) word ∙ ap (λ xs. v ∷ xs) (same_runs (end_of w + 1) (end_of v + 1) ws vs p.3 q.3 rest)
