-- What the table of eight cursors answers and what it is then. Assumes nothing.
use Rattle.std.specs.Prelude.{ℕ, ◌+◌, cond, replicate, nat_lt, slice_index_or, slice_set}
use Rattle.quads.specs.Counts.{capped}
use Rattle.quads.specs.Listings.{Listing}
use Rattle.session.specs.Asks.{asks_only_ids, tried}
use Rattle.session.specs.Cursors.{closed, cursor_outcome, cursor_after}
use Rattle.session.specs.Outcomes.{Outcome, opened, gave, ended, counted, rolled, refused}
use Rattle.session.specs.declared.call.Ask.{Ask}
use Rattle.session.specs.declared.cursor.Cursor.{Cursor}
use Rattle.session.specs.declared.cursor.Table.{Table}

-- eight closed cursors, and no quad given
abbrev pub new_table : Table
new_table = record { cursors = replicate 8 closed; given = 0 }

-- the cursor of this number
abbrev pub cursor_at : Table → ℕ → Cursor
cursor_at t k = slice_index_or t.cursors k closed

-- the number of quads given, after a call with this outcome
abbrev pub tallied : ℕ → Outcome → ℕ
tallied n opened = n
tallied n (gave q) = capped (n + 1)
tallied n ended = n
tallied n (counted m) = n
tallied n (rolled m ks) = n
tallied n (refused r) = n

-- what is asked comes to what the cursor makes of it, unless the input is refused
abbrev pub ask_outcome : Listing → Table → ℕ → Ask → Outcome
ask_outcome l t k ask = tried k ask (cursor_outcome l (cursor_at t k) ask)

-- one cursor is changed, and no other
abbrev pub asked : Listing → Table → ℕ → Ask → Table
asked l t k ask =
    record {
      cursors = slice_set t.cursors k (cursor_after l (cursor_at t k) ask);
      given = tallied t.given (cursor_outcome l (cursor_at t k) ask);
    }

-- what the table is then; where the call is refused, what it was
abbrev pub ask_after : Listing → Table → ℕ → Ask → Table
ask_after l t k ask = cond (nat_lt 7 k) t (cond (asks_only_ids ask) (asked l t k ask) t)
