-- What a place holds and shows, and what becomes of it when a mark comes in or goes out.
use Rattle.std.specs.Prelude.{ℕ, Bool, true, cond, ◌||◌, Some, None, Option, ◌==◌}
use Rattle.rebar.specs.declared.beam.Beam.{Beam}
use Rattle.rebar.specs.declared.cage.Cage.{Cage}
use Rattle.stock.specs.declared.kind.Kind.{Kind}
use Rattle.stock.specs.declared.kind.Kind.TheVariants.{Main, Tie}
use Rattle.search.specs.declared.decision.Choice.{Choice}
use Rattle.search.specs.declared.decision.Decision.{Decision}
use Rattle.search.specs.declared.decision.Decision.TheVariants.{Chosen, Impossible}
use Rattle.sheet.specs.declared.entry.Entry.{Entry}
use Rattle.sheet.specs.declared.reading.Shown.{Shown}
use Rattle.sheet.specs.declared.reading.Shown.TheVariants as shown

-- the beam at a place
abbrev pub beam_of : Option Entry → Option Beam
beam_of None = None
beam_of (Some e) = Some e.beam

-- a beam that is open
abbrev pub opened : Beam → Entry
opened b = record { beam = b; decision = None }

-- a beam with its decision
abbrev pub decided : Beam → Decision → Entry
decided b d = record { beam = b; decision = Some d }

-- whether a cage has a bar of this mark in its kind
abbrev pub uses : Kind → ℕ → Cage → Bool
uses Main mark c = c.bottom.mark == mark || c.top.mark == mark
uses Tie mark c = c.ties.mark == mark

-- a mark that comes in makes every decision doubtful; one that goes out the impossible ones and the
-- chosen ones that use it
abbrev pub doubtful : Kind → ℕ → Bool → Decision → Bool
doubtful kind mark is-in (Chosen x) = is-in || uses kind mark x.cage
doubtful kind mark is-in (Impossible n) = true

-- a doubtful decision is dropped
abbrev pub kept : Kind → ℕ → Bool → Option Decision → Option Decision
kept kind mark is-in None = None
kept kind mark is-in (Some d) = cond (doubtful kind mark is-in d) None (Some d)

-- a beam whose decision is doubtful is open again
abbrev pub reopened : Kind → ℕ → Bool → Entry → Entry
reopened kind mark is-in e = record { beam = e.beam; decision = kept kind mark is-in e.decision }

-- what a place holds afterwards
abbrev pub place_reopened : Kind → ℕ → Bool → Option Entry → Option Entry
place_reopened kind mark is-in None = None
place_reopened kind mark is-in (Some e) = Some (reopened kind mark is-in e)

-- what a reader sees of a decision, none where the beam is open
abbrev pub shown_by : Option Decision → Shown
shown_by None = shown.Open
shown_by (Some (Chosen x)) = shown.Chosen x
shown_by (Some (Impossible n)) = shown.Impossible n

-- what a reader sees of a place
abbrev pub shown_of : Option Entry → Shown
shown_of None = shown.Empty
shown_of (Some e) = shown_by e.decision

-- the cage that is shown, none where the place is empty, open or impossible
abbrev pub choice_of : Shown → Option Choice
choice_of shown.Empty = None
choice_of shown.Open = None
choice_of (shown.Chosen x) = Some x
choice_of (shown.Impossible n) = None
