-- Which replies come of what is asked: of open that the cursor was opened, of seek, left and close a number. Assumes nothing.
use Rattle.std.proofs.Common.{◌≡◌, ℕ, Bool, true, false, cond, length, is_ok, Some, None, Ok, Err, Result, refl, sym, ◌∙◌, ap, subst}
use Rattle.quads.specs.Counts.{capped}
use Rattle.quads.specs.Listings.{Listing, matching}
use Rattle.quads.specs.Marks.{between}
use Rattle.quads.specs.Quads.{quad_below}
use Rattle.quads.specs.declared.quad.Quad.{Quad}
use Rattle.quads.specs.declared.pattern.Pattern.{Pattern}
use Rattle.session.specs.Asks.{tried}
use Rattle.session.specs.Cursors.{outcome_in}
use Rattle.session.specs.Histories.{granted}
use Rattle.session.specs.Keeps.{OneAsked}
use Rattle.session.specs.Outcomes.{Outcome, opened, gave, ended, counted, rolled, refused, replied, count_of}
use Rattle.session.specs.Tables.{ask_outcome, cursor_at}
use Rattle.session.specs.declared.call.Ask.{Ask}
use Rattle.session.specs.declared.call.Ask.TheVariants.{Open, Seek, Left, Close}
use Rattle.session.specs.declared.call.Reply.{Reply}
use Rattle.session.specs.declared.call.Reply.TheVariants.{Opened, Next, Counted}
use Rattle.session.specs.declared.cursor.Cursor.{Cursor}
use Rattle.session.specs.declared.cursor.State.{State}
use Rattle.session.specs.declared.cursor.State.TheVariants.{Closed, Waiting, Ended}
use Rattle.session.specs.declared.cursor.Table.{Table}
use Rattle.session.specs.declared.refusal.Refusal.{Refusal}

-- a reply is granted
pub refused_reply : (r : Result Reply Refusal) → granted (replied r) ≡ false → is_ok r ≡ false
refused_reply (Ok Opened) e = e
refused_reply (Ok (Next (Some q))) e = e
refused_reply (Ok (Next None)) e = e
refused_reply (Ok (Counted n)) e = e
refused_reply (Err r) e = refl

-- the cursor was opened, or the call was refused
opens : Outcome → Bool
opens opened = true
opens (gave q) = false
opens ended = false
opens (counted n) = false
opens (rolled n ks) = false
opens (refused n) = true

-- a number was answered, or the call was refused
counts : Outcome → Bool
counts opened = false
counts (gave q) = false
counts ended = false
counts (counted n) = true
counts (rolled n ks) = false
counts (refused n) = true

module _ (test : Outcome → Bool) where
  either_way : (b : Bool) (o p : Outcome) → test o ≡ true → test p ≡ true → test (cond b o p) ≡ true
  either_way true o p e f = e
  either_way false o p e f = f

  tried_way : (k : ℕ) (ask : Ask) (o : Outcome) → ((n : ℕ) → test (refused n) ≡ true) → test o ≡ true → test (tried k ask o) ≡ true
  tried_way k ask o r e = either_way _ (refused 11) _ (r 11) (either_way _ o (refused 12) e (r 12))

module _ (l : Listing) (t : Table) (k : ℕ) where
  open_opens : (p : Pattern) (c : Cursor) (s : State) → opens (outcome_in l c s (Open p)) ≡ true
  unfolding opens
  open_opens p c Closed = refl
  open_opens p c (Waiting mark) = refl
  open_opens p c Ended = refl

  seek_counts : (to : Quad) (c : Cursor) (s : State) → counts (outcome_in l c s (Seek to)) ≡ true
  unfolding counts
  seek_counts to c Closed = refl
  seek_counts to c (Waiting mark) = either_way counts (quad_below to mark) (refused 24) (counted (capped (length (between mark to (matching l c.pattern))))) refl refl
  seek_counts to c Ended = refl

  left_counts : (c : Cursor) (s : State) → counts (outcome_in l c s Left) ≡ true
  unfolding counts
  left_counts c Closed = refl
  left_counts c (Waiting mark) = refl
  left_counts c Ended = refl

  close_counts : (c : Cursor) (s : State) → counts (outcome_in l c s Close) ≡ true
  unfolding counts
  close_counts c Closed = refl
  close_counts c (Waiting mark) = refl
  close_counts c Ended = refl

  is_opened : (reply : Reply) → opens (replied (Ok reply)) ≡ true → replied (Ok reply) ≡ opened
  unfolding opens
  is_opened Opened e = refl
  is_opened (Next (Some q)) e = cc
  is_opened (Next None) e = cc
  is_opened (Counted n) e = cc

  is_counted : (reply : Reply) → counts (replied (Ok reply)) ≡ true → replied (Ok reply) ≡ counted (count_of reply)
  unfolding counts
  is_counted Opened e = cc
  is_counted (Next (Some q)) e = cc
  is_counted (Next None) e = cc
  is_counted (Counted n) e = refl

  asked_number : (reply : Reply) (ask : Ask) (n : ℕ) → counts (outcome_in l (cursor_at t k) (cursor_at t k).state ask) ≡ true → n ≡ count_of reply → replied (Ok reply) ≡ ask_outcome l t k ask → replied (Ok reply) ≡ counted n
  unfolding counts
  asked_number reply ask n number e told = is_counted reply (ap counts told ∙ tried_way counts k ask _ (λ n. refl) number) ∙ ap counted (sym e)

  pub asked_left : (reply : Reply) (n : ℕ) → n ≡ count_of reply → replied (Ok reply) ≡ ask_outcome l t k Left → counted n ≡ ask_outcome l t k Left
  asked_left reply n e told = sym (asked_number reply Left n (left_counts (cursor_at t k) (cursor_at t k).state) e told) ∙ told

  module _ (after : Table) (reply : Reply) where
    pub asked_open : (p : Pattern) → OneAsked l t k (Open p) (replied (Ok reply)) after → OneAsked l t k (Open p) opened after
    unfolding opens
    asked_open p told =
        let opens_so : opens (replied (Ok reply)) ≡ true = ap opens told.answer ∙ tried_way opens k (Open p) _ (λ n. refl) (open_opens p (cursor_at t k) (cursor_at t k).state) in
        subst (λ o. OneAsked l t k (Open p) o after) (is_opened reply opens_so) told

    pub asked_seek : (to : Quad) (n : ℕ) → n ≡ count_of reply → OneAsked l t k (Seek to) (replied (Ok reply)) after → OneAsked l t k (Seek to) (counted n) after
    asked_seek to n e told =
        subst (λ o. OneAsked l t k (Seek to) o after) (asked_number reply (Seek to) n (seek_counts to (cursor_at t k) (cursor_at t k).state) e told.answer) told

    pub asked_close : (n : ℕ) → n ≡ count_of reply → OneAsked l t k Close (replied (Ok reply)) after → OneAsked l t k Close (counted n) after
    asked_close n e told =
        subst (λ o. OneAsked l t k Close o after) (asked_number reply Close n (close_counts (cursor_at t k) (cursor_at t k).state) e told.answer) told
