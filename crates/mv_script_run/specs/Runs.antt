-- What a script does to a network: its items, one after the other, those with braces in rounds.
use Rattle.std.specs.Prelude.{ℕ, ◌<◌, ◌≤◌, List}
use Rattle.mv_entry.specs.Entries.{Entry}
use Rattle.mv_net.specs.declared.parts.NetParts.{NetParts}
use Rattle.mv_net.specs.Nets.{literals_in}
use Rattle.mv_pass.specs.Courses.{Course, Nothing, InTurn, Rounds}
use Rattle.mv_rules.specs.declared.terms.Terms.{Terms}
use Rattle.mv_script.specs.Scripts.{Items, End, Do, Repeat, Better}
use Rattle.mv_script_run.specs.Commands.{DoesCommand, BegunCommand}

-- ---- rounds

-- a round that ends with fewer literals than it began with
abbrev pub Gains : Course → Course
Gains Round old entries new = Round old entries new × (literals_in new.nets < literals_in old.nets)

-- a round that doesn't
abbrev pub GainsNot : Course → Course
GainsNot Round old entries new = Round old entries new
    × (literals_in old.nets ≤ literals_in new.nets)

-- one or more rounds: each but the last ends with fewer literals than it began with, and the last
-- doesn't
pub record RunsBetter (Round : Course) (old : NetParts) (entries : List Entry) (new : NetParts)
    : Type 0 where
  pub gained : ℕ
  pub rounds : InTurn (Rounds gained (Gains Round)) (GainsNot Round) old entries new

-- fewer than so many whole rounds, and one behind them that stops
pub record StopsRepeat (times : ℕ) (Round Stops : Course) (old : NetParts) (entries : List Entry)
    (new : NetParts) : Type 0 where
  pub whole : ℕ
  pub fewer : whole < times
  pub rounds : InTurn (Rounds whole Round) Stops old entries new

-- some whole rounds that each end with fewer literals than they began with, and one behind them
-- that stops
pub record StopsBetter (Round Stops : Course) (old : NetParts) (entries : List Entry)
    (new : NetParts) : Type 0 where
  pub gained : ℕ
  pub rounds : InTurn (Rounds gained (Gains Round)) Stops old entries new

-- ---- scripts

-- the items lead from the old network to the new one. Braces with no command inside take no round
-- of their own: rounds of nothing leave no entry and the same network, and of `better` the first is
-- the last
abbrev pub Runs : Terms → Items → Course
Runs terms End = Nothing
Runs terms (Do command rest) = InTurn (DoesCommand terms command) (Runs terms rest)
Runs terms (Repeat times inside rest) = InTurn (Rounds times (Runs terms inside)) (Runs terms rest)
Runs terms (Better inside rest) = InTurn (RunsBetter (Runs terms inside)) (Runs terms rest)

-- an item isn't begun, or stops, or is whole and those behind it stop
pub data StopsAt (Stops Whole Behind : Course) (old : NetParts) (entries : List Entry)
    (new : NetParts) : Type 0 where
  Unbegun : Nothing old entries new → StopsAt Stops Whole Behind old entries new
  Within : Stops old entries new → StopsAt Stops Whole Behind old entries new
  Later : InTurn Whole Behind old entries new → StopsAt Stops Whole Behind old entries new

-- the items stop: some first ones run whole, and the next one, if there is one, isn't begun or
-- stops within
abbrev pub RunsTo : Terms → Items → Course
RunsTo terms End = Nothing
RunsTo terms (Do command rest) =
    StopsAt (BegunCommand terms command) (DoesCommand terms command) (RunsTo terms rest)
RunsTo terms (Repeat times inside rest) =
    StopsAt (StopsRepeat times (Runs terms inside) (RunsTo terms inside))
    (Rounds times (Runs terms inside)) (RunsTo terms rest)
RunsTo terms (Better inside rest) =
    StopsAt (StopsBetter (Runs terms inside) (RunsTo terms inside))
    (RunsBetter (Runs terms inside)) (RunsTo terms rest)
