-- Courses: what some part of a run does, from a network to a network, with the entries that come of
-- it.
use Rattle.std.specs.Prelude.{◌≡◌, ℕ, zero, suc, ◌≤◌, List, [], ◌++◌, length}
use Rattle.mv_entry.specs.Entries.{Entry}
use Rattle.mv_net.specs.declared.parts.NetParts.{NetParts}

-- what some part of a run does: it leads from a network, with entries, to a network
abbrev pub Course : Type 1
Course = NetParts → List Entry → NetParts → Type 0

-- nothing: no entry comes, and the network stays
abbrev pub Nothing : Course
Nothing old entries new = (entries ≡ []) × (new ≡ old)

-- one and then another: some first entries are those of the first, which leads to a network in
-- between, and the rest those of the other
pub record InTurn (First Second : Course) (old : NetParts) (entries : List Entry) (new : NetParts)
    : Type 0 where
  pub mid : NetParts
  pub front : List Entry
  pub rest : List Entry
  pub first : First old front mid
  pub second : Second mid rest new
  pub entries_are : entries ≡ front ++ rest

-- nothing yet, or this course: how something stops of which one entry comes at most
pub data Perhaps (Whole : Course) (old : NetParts) (entries : List Entry) (new : NetParts)
    : Type 0 where
  Still : Nothing old entries new → Perhaps Whole old entries new
  Through : Whole old entries new → Perhaps Whole old entries new

-- such steps, up to a network of which this holds
pub record Until (Steps : Course) (Left : NetParts → Type 0) (old : NetParts)
    (entries : List Entry) (new : NetParts) : Type 0 where
  pub steps : Steps old entries new
  pub left : Left new

-- so many rounds, one after the other
abbrev pub Rounds : ℕ → Course → Course
Rounds zero Round = Nothing
Rounds (suc n) Round = InTurn Round (Rounds n Round)

-- a visit of each number below this, ascending
abbrev pub Visits : (ℕ → Course) → ℕ → Course
Visits Visit zero = Nothing
Visits Visit (suc n) = InTurn (Visits Visit n) (Visit n)

-- all nets of the old network are visited, ascending
abbrev pub VisitsAll : (ℕ → Course) → Course
VisitsAll Visit old entries new = Visits Visit (length old.nets) old entries new

-- its first so many nets are visited, each in turn
pub record VisitsSome (Visit : ℕ → Course) (old : NetParts) (entries : List Entry) (new : NetParts)
    : Type 0 where
  pub end : ℕ
  pub within : end ≤ length old.nets
  pub visits : Visits Visit end old entries new

-- how what goes on behind all of something stops: some of that came; or all of it, and some of what
-- follows
pub data Onward (Some All Behind : Course) (old : NetParts) (entries : List Entry) (new : NetParts)
    : Type 0 where
  Short : Some old entries new → Onward Some All Behind old entries new
  Past : InTurn All Behind old entries new → Onward Some All Behind old entries new

-- such rounds, as many as there are
pub record Repeated (Round : Course) (old : NetParts) (entries : List Entry) (new : NetParts)
    : Type 0 where
  pub times : ℕ
  pub rounds : Visits (λ k. Round) times old entries new
