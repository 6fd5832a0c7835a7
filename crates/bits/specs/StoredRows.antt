-- What reading a row from words answers and finds, for every kind of row: by the words that a list of items takes, and by
-- the items that such words tell. Assumes nothing.
use Rattle.std.specs.Prelude.{◌≡◌, ℕ, List, [], ◌++◌, take, Ok, Err, Result}

-- how many words the row takes that was read together with this number, or the fault
abbrev pub room_taken : {R F : Type 0} → Result (R × ℕ) F → Result ℕ F
room_taken (Ok row) = Ok row.1
room_taken (Err fault) = Err fault

-- the items of the row at the front of the words, or none if there is no row
abbrev pub items_read : {A F : Type 0} → (List ℕ → List A) → Result ℕ F → List ℕ → List A
items_read items_in (Ok n) ws = items_in ws
items_read items_in (Err fault) ws = []

-- a reading takes the words of the items that it reads
abbrev pub TakesRow : {A F : Type 0} → (List A → List ℕ) → (List ℕ → List A) → List ℕ → Result ℕ F → Type 0
TakesRow words_of items_in ws r = (n : ℕ) → r ≡ Ok n → take n ws ≡ words_of (items_read items_in r ws)

-- and it takes the words of every list that has a row, whatever follows them
abbrev pub FindsRow : {A F : Type 0} → (List A → Type 0) → (List A → List ℕ) → (List A → ℕ) → List ℕ → Result ℕ F → Type 0
FindsRow {A} HasRow words_of room_of ws r = (items : List A) (rest : List ℕ) → HasRow items → ws ≡ words_of items ++ rest → r ≡ Ok (room_of items)

-- and what is then read is this list
abbrev pub ReadsRow : {A : Type 0} → (List A → Type 0) → (List A → List ℕ) → List ℕ → List A → Type 0
ReadsRow {A} HasRow words_of ws read = (items : List A) (rest : List ℕ) → HasRow items → ws ≡ words_of items ++ rest → read ≡ items
