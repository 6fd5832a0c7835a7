-- What is read from the calls on a session since attaching, with their outcomes. Assumes nothing.
use Rattle.std.specs.Prelude.{ℕ, ◌+◌, Bool, true, false, cond, not, ◌&&◌, ◌||◌, List, [], ◌∷◌, ◌++◌, map, length, is_some, Some, None, filter, Option, ◌==◌, nat_lt}
use Rattle.quads.specs.Quads.{quad_below, same_quad}
use Rattle.quads.specs.Listings.{Listing, matching}
use Rattle.quads.specs.Marks.{lowest, right_after}
use Rattle.quads.specs.declared.quad.Quad.{Quad}
use Rattle.quads.specs.declared.pattern.Pattern.{Pattern}
use Rattle.session.specs.Outcomes.{Outcome, opened, gave, ended, counted, rolled, refused}
use Rattle.session.specs.declared.call.Ask.{Ask}
use Rattle.session.specs.declared.call.Ask.TheVariants.{Open, Next, Seek, Left, Close}
use Rattle.session.specs.declared.call.Call.{Call}
use Rattle.session.specs.declared.call.Call.TheVariants.{On, Tally, Roll}

-- a call on a session, and what came of it
pub record Event : Type 0 where
  pub call : Call
  pub outcome : Outcome

-- the calls since attaching, the newest first
abbrev pub History : Type 0
History = List Event

-- a call is granted if it is not refused
abbrev pub granted : Outcome → Bool
granted opened = true
granted (gave q) = true
granted ended = true
granted (counted n) = true
granted (rolled n ks) = true
granted (refused n) = false

-- what a call that was granted tells of its opening: a next gave a quad, a next answered end, or a seek named a mark
pub data Step : Type 0 where
  gives : Quad → Step
  ends : Step
  seeks : Quad → Step

abbrev pub next_tells : Outcome → List Step
next_tells opened = []
next_tells (gave q) = gives q ∷ []
next_tells ended = ends ∷ []
next_tells (counted n) = []
next_tells (rolled n ks) = []
next_tells (refused n) = []

abbrev pub tells : Ask → Outcome → List Step
tells (Open p) o = []
tells Next o = next_tells o
tells (Seek mark) o = seeks mark ∷ []
tells Left o = []
tells Close o = []

-- an opening: the pattern that a granted open named, and what the calls granted since then tell, the newest first
pub record Opening : Type 0 where
  pub pattern : Pattern
  pub steps : List Step

abbrev pub stepped : List Step → Option Opening → Option Opening
stepped ss None = None
stepped ss (Some w) = Some (record { pattern = w.pattern; steps = ss ++ w.steps })

-- the opening after a granted call: it lasts from a granted open to the next granted close
abbrev pub after_granted : Ask → Outcome → Option Opening → Option Opening
after_granted (Open p) o w = Some (record { pattern = p; steps = [] })
after_granted Next o w = stepped (tells Next o) w
after_granted (Seek mark) o w = stepped (tells (Seek mark) o) w
after_granted Left o w = w
after_granted Close o w = None

-- which calls name which cursor: those that ask something of it
abbrev pub names : ℕ → Call → Bool
names k (On j ask) = j == k
names k Tally = false
names k (Roll room) = false

-- only a granted call that names the cursor changes its opening
abbrev pub after_call : ℕ → Call → Outcome → Option Opening → Option Opening
after_call k (On j ask) o w = cond (names k (On j ask) && granted o) (after_granted ask o w) w
after_call k Tally o w = w
after_call k (Roll room) o w = w

-- the opening that the cursor is in; it is open while there is one
unfoldable pub opening_of : ℕ → History → Option Opening
opening_of k [] = None
opening_of k (e ∷ h) = after_call k e.call e.outcome (opening_of k h)

-- the quad stands in the list
abbrev pub has : List Quad → Quad → Bool
has [] q = false
has (x ∷ xs) q = same_quad q x || has xs q

-- given: the quads that the nexts of the opening answered, in the order in which they came
unfoldable pub given : List Step → List Quad
given [] = []
given (gives q ∷ ss) = given ss ++ q ∷ []
given (ends ∷ ss) = given ss
given (seeks mark ∷ ss) = given ss

-- jumped: a seek of the opening named a mark above the quad while the quad was not yet given
unfoldable pub jumped : List Step → Quad → Bool
jumped [] q = false
jumped (gives x ∷ ss) q = jumped ss q
jumped (ends ∷ ss) q = jumped ss q
jumped (seeks mark ∷ ss) q = jumped ss q || (quad_below q mark && not (has (given ss) q))

-- left: the matching quads that are neither given nor jumped, in order
unfoldable pub left : Listing → Opening → List Quad
left l w = filter (λ q. not (has (given w.steps) q) && not (jumped w.steps q)) (matching l w.pattern)

-- the quads that a seek to this mark newly jumps: those left that are below it
unfoldable pub newly_jumped : Listing → Opening → Quad → List Quad
newly_jumped l w mark = filter (λ q. quad_below q mark) (left l w)

-- ended: a next of the opening answered end
unfoldable pub has_ended : List Step → Bool
has_ended [] = false
has_ended (gives q ∷ ss) = has_ended ss
has_ended (ends ∷ ss) = true
has_ended (seeks mark ∷ ss) = has_ended ss

-- the cursor's mark: what the last seek named, or right after the quad that a later next gave, and at first the lowest mark
unfoldable pub mark_of : List Step → Quad
mark_of [] = lowest
mark_of (gives q ∷ ss) = right_after q
mark_of (ends ∷ ss) = mark_of ss
mark_of (seeks mark ∷ ss) = mark

-- how many quads a call gave: one or none
abbrev pub given_in : Call → Outcome → ℕ
given_in (On k ask) o = length (given (tells ask o))
given_in Tally o = 0
given_in (Roll room) o = 0

-- how many quads were given since attaching: by the nexts of all openings of all cursors, added up
unfoldable pub given_since : History → ℕ
given_since [] = 0
given_since (e ∷ h) = given_since h + given_in e.call e.outcome

-- one of the eight cursors, and in an opening
unfoldable pub is_open_in : History → ℕ → Bool
is_open_in h k = nat_lt k 8 && is_some (opening_of k h)

-- the calls that name the cursor, with what came of them, whatever stands between
unfoldable pub on : ℕ → History → History
on k h = filter (λ e. names k e.call) h

-- the calls alone
abbrev pub calls : History → List Call
calls h = map (λ e. e.call) h
