-- The laws of reading a kind of row, from what its reading answers: the words of what is read, and that of the words of a
-- list that has a row this list is read. Assumes nothing.
use Rattle.std.proofs.Common.{◌≡◌, ℕ, List, ◌++◌, take, Ok, Result, sym, ap, ◌∙◌}
use Rattle.bits.specs.StoredRows.{FindsRow, TakesRow, items_read}

module _ {A F : Type 0} (words_of : List A → List ℕ) (items_in : List ℕ → List A) (reading : List ℕ → Result ℕ F) where
  pub takes_row : (ws : List ℕ) → ((n : ℕ) → Ok n ≡ reading ws → take n ws ≡ words_of (items_in ws)) → (r : Result ℕ F) → r ≡ reading ws → TakesRow words_of items_in ws r
  takes_row ws taken r is n e = taken n (sym e ∙ is) ∙ ap (λ s. words_of (items_read items_in s ws)) (sym e)

  module _ (HasRow : List A → Type 0) (room_of : List A → ℕ) (found : (items : List A) (rest : List ℕ) → HasRow items → Ok (room_of items) ≡ reading (words_of items ++ rest)) where
    pub finds_row : (ws : List ℕ) (r : Result ℕ F) → r ≡ reading ws → FindsRow HasRow words_of room_of ws r
    finds_row ws r is items rest has e = is ∙ ap reading e ∙ sym (found items rest has)
