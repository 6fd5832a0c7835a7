-- What the faults of a list of quads, place by place, come to for the whole. Assumes nothing.
use Rattle.std.proofs.Common.{◌≡◌, ℕ, ◌+◌, ◌-◌, ◌<◌, true, false, cond, ltb, List, length, get_or, Some, sym, ap, ◌∙◌, subst, ⊎_elim, arith}
use Rattle.std.proofs.lemmas.Bool.{and_parts, and_from, and_left, and_right, or_parts, or_from, or_left, or_right, or_cases, not-true, not-false, cond-true, cond-false, lt-ltb, both_ways, cases_Bool, not_from_true, not_from_false}
use Rattle.ordered.proofs.Lists.{each_place, each_from_places, chained_place, chained_from_places, no_place, some_place}
use Rattle.quads.specs.Quads.{has_ids, quad_below}
use Rattle.quads.specs.PlainLists.{is_plain, rises_at, at_fault, verdict_at, checked, nowhere}
use Rattle.quads.specs.PlainLists.Verdict.{accepted, refused}
use Rattle.quads.specs.declared.quad.Quad.{Quad}

module _ (qs : List Quad) where
  pub sound_at : (i : ℕ) → has_ids (get_or qs i nowhere) ≡ true → rises_at qs i ≡ true → at_fault qs i ≡ false
  unfolding at_fault
  sound_at i h r = or_from _ _ (not_from_true _ h) (not_from_true _ r)

  pub no_id_at : (i : ℕ) → has_ids (get_or qs i nowhere) ≡ false → at_fault qs i ≡ true
  unfolding at_fault
  no_id_at i h = or_left _ _ (not_from_false _ h)

  pub falls_at : (i : ℕ) → rises_at qs i ≡ false → at_fault qs i ≡ true
  unfolding at_fault
  falls_at i r = or_right _ _ (not_from_false _ r)

  sound_parts : (i : ℕ) → at_fault qs i ≡ false → (has_ids (get_or qs i nowhere) ≡ true) × (rises_at qs i ≡ true)
  unfolding at_fault
  sound_parts i e = let parts = or_parts _ _ e in (not-false _ parts.0, not-false _ parts.1)

  rises_above : (i : ℕ) → rises_at qs (i + 1) ≡ true → quad_below (get_or qs i nowhere) (get_or qs (i + 1) nowhere) ≡ true
  unfolding rises_at
  rises_above i e =
      let back : i + 1 - 1 ≡ i = omega arith in
      subst (λ k. quad_below (get_or qs k nowhere) (get_or qs (i + 1) nowhere) ≡ true) back
      (⊎_elim (λ n. absurd (both_ways _ (not-true _ n) (lt-ltb 0 (i + 1) (omega arith)))) (λ b. b) (or_cases _ _ e))

  above_rises : (i : ℕ) → (0 < i → quad_below (get_or qs (i - 1) nowhere) (get_or qs i nowhere) ≡ true) → rises_at qs i ≡ true
  unfolding rises_at
  above_rises i h =
      ⊎_elim
      (λ t. or_right _ _ (h (omega (arith, Rattle.std.proofs.lemmas.Bool.ltb-true 0 i t))))
      (λ f. or_left _ _ (not_from_false _ f))
      (cases_Bool (ltb 0 i))

  -- a list with no quad at fault is plain
  pub plain_from_sound : ((i : ℕ) → i < length qs → at_fault qs i ≡ false) → is_plain qs ≡ true
  unfolding is_plain
  plain_from_sound h =
      and_from _ _
      (each_from_places has_ids qs nowhere (λ i l. (sound_parts i (h i l)).0))
      (chained_from_places quad_below qs nowhere (λ i l. rises_above i (sound_parts (i + 1) (h (i + 1) l)).1))

  -- and no quad of a plain list is at fault
  pub sound_from_plain : is_plain qs ≡ true → (i : ℕ) → i < length qs → at_fault qs i ≡ false
  unfolding is_plain
  sound_from_plain e i l =
      let parts = and_parts _ _ e in
      sound_at i (each_place has_ids qs i nowhere parts.0 l)
      (above_rises i (λ pos. let back : i - 1 + 1 ≡ i = omega arith in
      subst (λ k. quad_below (get_or qs (i - 1) nowhere) (get_or qs k nowhere) ≡ true) back (chained_place quad_below qs (i - 1) nowhere parts.1 (omega arith))))

  pub not_plain_from_fault : (i : ℕ) → i < length qs → at_fault qs i ≡ true → is_plain qs ≡ false
  not_plain_from_fault i l f =
      ⊎_elim (λ e. absurd (both_ways _ (sound_from_plain e i l) f)) (λ e. e) (cases_Bool (is_plain qs))

  pub checked_sound : ((i : ℕ) → i < length qs → at_fault qs i ≡ false) → checked qs ≡ accepted
  unfolding checked
  checked_sound h = ap (verdict_at qs) (no_place (at_fault qs) 0 (length qs) (λ k l. let e : 0 + k ≡ k = omega arith in subst (λ j. at_fault qs j ≡ false) (sym e) (h k l)))

  pub checked_fault : (i n : ℕ) → i < length qs → ((k : ℕ) → k < i → at_fault qs k ≡ false) → at_fault qs i ≡ true → cond (has_ids (get_or qs i nowhere)) 4 3 ≡ n → checked qs ≡ refused n i
  unfolding checked
  checked_fault i n l h f e =
      let z : (k : ℕ) → 0 + k ≡ k = λ k. omega arith in
      ap (verdict_at qs) (some_place (at_fault qs) 0 (length qs) i l (λ k m. subst (λ j. at_fault qs j ≡ false) (sym (z k)) (h k m)) (subst (λ j. at_fault qs j ≡ true) (sym (z i)) f) ∙ ap Some (z i))
      ∙ ap (λ m. refused m i) e

  -- a list that checking refuses is not plain
  pub not_plain_from_refused : (number place : ℕ) → checked qs ≡ refused number place → is_plain qs ≡ false
  not_plain_from_refused number place r =
      ⊎_elim
      (λ plain. let a : accepted ≡ refused number place = sym (checked_sound (sound_from_plain plain)) ∙ r in cc)
      (λ f. f)
      (cases_Bool (is_plain qs))
