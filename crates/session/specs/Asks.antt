-- What is asked of a cursor. Assumes nothing.
use Rattle.std.specs.Prelude.{ℕ, Bool, true, cond, nat_lt}
use Rattle.quads.specs.Patterns.{asks_ids}
use Rattle.session.specs.Outcomes.{Outcome, refused}
use Rattle.session.specs.declared.call.Ask.{Ask}
use Rattle.session.specs.declared.call.Ask.TheVariants.{Open, Next, Seek, Left, Close}

-- every number that open's pattern gives is an ID; nothing else that is asked has a pattern
abbrev pub asks_only_ids : Ask → Bool
asks_only_ids (Open p) = asks_ids p
asks_only_ids Next = true
asks_only_ids (Seek mark) = true
asks_only_ids Left = true
asks_only_ids Close = true

-- the input is tried before anything else: 11 for a cursor above 7, then 12 for a given number that is no ID
abbrev pub tried : ℕ → Ask → Outcome → Outcome
tried k ask o = cond (nat_lt 7 k) (refused 11) (cond (asks_only_ids ask) o (refused 12))
