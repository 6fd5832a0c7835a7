-- The order of quads is a strict total order: one law for one number, used four times. Assumes nothing.
use Rattle.std.specs.Prelude.{◌≡◌, ℕ, ◌<◌, ◌≤◌, Bool, true, false, ◌&&◌, ◌⊎◌, ◌==◌, nat_lt, refl}
use Rattle.std.proofs.Common.{sym, ◌∙◌, inl, inr, ⊎_elim, arith}
use Rattle.std.proofs.lemmas.Bool.{ltb-true, ltb-false, lt-ltb, eqb-true, eqb-false, eq-eqb, or_cases, or_parts, or_left, or_right, and_parts, and_from, and_cases}
use Rattle.ordered.specs.Order.{TotalOrder}
use Rattle.ordered.specs.Numbers.{number_order}
use Rattle.quads.specs.Quads.{below_or, quad_below}
use Rattle.quads.specs.declared.quad.Quad.{Quad}

-- below by the first numbers, or these are equal and below by the rest
pub below_or_cases : (a b : ℕ) (r : Bool) → below_or a b r ≡ true → (a < b) ⊎ ((a ≡ b) × (r ≡ true))
below_or_cases a b r e =
    ⊎_elim
    (λ l. inl (ltb-true a b l))
    (λ l. inr (eqb-true a b (and_parts _ _ l).0, (and_parts _ _ l).1))
    (or_cases (nat_lt a b) (a == b && r) e)

pub below_or_less : (a b : ℕ) (r : Bool) → a < b → below_or a b r ≡ true
below_or_less a b r l = or_left (nat_lt a b) (a == b && r) (lt-ltb a b l)

pub below_or_equal : (a b : ℕ) (r : Bool) → a ≡ b → r ≡ true → below_or a b r ≡ true
below_or_equal a b r e t = or_right (nat_lt a b) (a == b && r) (and_from (a == b) r (eq-eqb a b e) t)

pub below_or-same : (a : ℕ) (r : Bool) → r ≡ false → below_or a a r ≡ false
below_or-same a r f =
    elim (below_or a a r) as (λ t. below_or a a r ≡ t → t ≡ false) [ true ↦ (λ e. ⊎_elim (λ l. absurd (omega arith)) (λ l. sym l.1 ∙ f) (below_or_cases a a r e)) | false ↦ (λ e. refl) ] refl

below_or-transitive : (a b c : ℕ) (p q r : Bool) → (p ≡ true → q ≡ true → r ≡ true) → below_or a b p ≡ true → below_or b c q ≡ true → below_or a c r ≡ true
below_or-transitive a b c p q r rest e f =
    ⊎_elim
    (λ l. ⊎_elim (λ m. below_or_less a c r (omega arith)) (λ m. below_or_less a c r (omega (arith, m.0))) (below_or_cases b c q f))
    (λ l. ⊎_elim (λ m. below_or_less a c r (omega (arith, l.0))) (λ m. below_or_equal a c r (l.0 ∙ m.0) (rest l.1 m.1)) (below_or_cases b c q f))
    (below_or_cases a b p e)

-- neither is below the other: the first numbers are equal, and so it is of the rest
below_or_neither : (a b : ℕ) (p q : Bool) → below_or a b p ≡ false → below_or b a q ≡ false → (a ≡ b) × (p ≡ false) × (q ≡ false)
below_or_neither a b p q e f =
    let le : b ≤ a = ltb-false a b (or_parts _ _ e).0 in
    let ge : a ≤ b = ltb-false b a (or_parts _ _ f).0 in
    let same : a ≡ b = omega arith in
    let still : (x y : ℕ) (t : Bool) → x ≡ y → (x == y && t) ≡ false → t ≡ false = λ x y t h k. ⊎_elim (λ n. absurd (eqb-false x y n h)) (λ n. n) (and_cases (x == y) t k) in
    (same, still a b p same (or_parts _ _ e).1, still b a q (sym same) (or_parts _ _ f).1)

pub quad_order : TotalOrder quad_below
unfolding quad_below
quad_order = record {
  irreflexive = λ x. below_or-same x.s _ (below_or-same x.p _ (below_or-same x.o _ (number_order.irreflexive x.g)));
  transitive = λ x y z.
      below_or-transitive x.s y.s z.s _ _ _
      (below_or-transitive x.p y.p z.p _ _ _
      (below_or-transitive x.o y.o z.o _ _ _ (number_order.transitive x.g y.g z.g)));
  connected = λ x y e f.
      let one = below_or_neither x.s y.s _ _ e f in
      let two = below_or_neither x.p y.p _ _ one.1 one.2 in
      let three = below_or_neither x.o y.o _ _ two.1 two.2 in
      let four = number_order.connected x.g y.g three.1 three.2 in
      same x y one.0 two.0 three.0 four;
}
  where
    same : (x y : Quad) → x.s ≡ y.s → x.p ≡ y.p → x.o ≡ y.o → x.g ≡ y.g → x ≡ y
    same x y a b c d = λ i. record { s = a i; p = b i; o = c i; g = d i }
