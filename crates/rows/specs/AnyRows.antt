-- Rows of either of two kinds: their items, and what is read from words, by the kind. Assumes nothing.
use Rattle.std.specs.Prelude.{ℕ, List, Result}
use Rattle.bits.specs.StoredRows.{items_read}
use Rattle.rows.specs.declared.any_row.AnyRow.{AnyRow}
use Rattle.rows.specs.declared.any_row.AnyRow.TheVariants.{Plain, Compact}
use Rattle.rows.specs.declared.kinds.RowKind.{RowKind}
use Rattle.rows.specs.declared.kinds.RowKind.TheVariants.{Plain as PlainKind, Compact as CompactKind}

-- the items of a row of either kind, by what those of the two kinds are
abbrev pub any_items : {A B I : Type 0} → (A → List I) → (B → List I) → AnyRow A B → List I
any_items plain compact (Plain row) = plain row
any_items plain compact (Compact row) = compact row

-- the kind of a row
abbrev pub kind_of : {A B : Type 0} → AnyRow A B → RowKind
kind_of (Plain row) = PlainKind
kind_of (Compact row) = CompactKind

-- of two things, one for each kind, that of this kind: the words of a row, what reading answers, and the like
abbrev pub of_kind {ℓ} : {X : Type ℓ} → RowKind → X → X → X
of_kind PlainKind plain compact = plain
of_kind CompactKind plain compact = compact

-- the items of the row at the front of the words, or none if there is no row, by the items that words tell and what reading answers
abbrev pub items_at : {I F : Type 0} → (List ℕ → List I) → (List ℕ → Result ℕ F) → List ℕ → List I
items_at items_in reading ws = items_read items_in (reading ws) ws
