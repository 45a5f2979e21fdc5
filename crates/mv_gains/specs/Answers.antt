-- What private functions alone cite: what is known of the common parts that begin with each symbol,
-- while some of the tables are put anew.
use Rattle.std.specs.Prelude.{◌≡◌, ◌⊎◌, ℕ, true, false, Option, Some, None, List, [], filter, slice_get, slice_index_or, if◌then◌else◌, All, Contains, IsSome}
use Rattle.std.specs.List.{flat_map}
use Rattle.indexmap.specs.IndexMap.{get, keys}
use Rattle.mv_base.specs.declared.number.NetId.{NetId}
use Rattle.mv_cover.specs.Literal.{Lit}
use Rattle.mv_cover.specs.Cubes.{IsCube}
use Rattle.mv_cover.specs.Equal.{lit_eq}
use Rattle.mv_kernels.specs.Symbols.{has_symbol}
use Rattle.mv_meets.specs.Meets.{IsMeet, IsBestMeet, NoMeetSaves}
use Rattle.mv_meets.specs.Search.{is_ahead, Begins, Improves, IsFound, IsNoBetter, IsSaver}
use Rattle.mv_meets.specs.declared.found.Found.{Found}
use Rattle.mv_meets.specs.declared.search.Sought.{Sought}
use Rattle.mv_meets.specs.declared.search.Sought.TheVariants.{Ended, Broken}
use Rattle.mv_gains.specs.declared.answers.Answers.{Answers}
use Rattle.mv_gains.specs.declared.answers.Searched.{Searched}

-- ---- cubes with a symbol

-- the cubes of all tables
abbrev pub all_cubes : List (List (List Lit)) → List (List Lit)
all_cubes tables = flat_map (λ t. t) tables

-- those that have the symbol
abbrev pub with_symbol : Lit → List (List Lit) → List (List Lit)
with_symbol l cubes = filter (λ c. has_symbol c l) cubes

-- those of the tables of these nets
abbrev pub all_with : Lit → List (List (List Lit)) → List NetId → List (List Lit)
all_with l tables nets =
    flat_map (λ (n : NetId). with_symbol l (slice_index_or tables n.0 [])) nets

-- ---- what is known

-- what is known of the symbol
abbrev pub known_of : Answers → Lit → Option (Option Searched)
known_of a l = get lit_eq a.known l

-- a common part with the symbol that saves so much, which is something
abbrev pub IsFoundWith : Lit → List (List Lit) → Option Found → Type 0
IsFoundWith l cubes None = Unit {0}
IsFoundWith l cubes (Some f) = IsSaver cubes f × (has_symbol f.cube l ≡ true)

-- none of the parts that begin with the symbol is better, and the best is one of them if it is here
pub record IsAnswered (cubes : List (List Lit)) (l : Lit) (s : Searched) : Type 0 where
  pub each : (e : List Lit) → IsMeet cubes e → Begins l e → IsNoBetter cubes s.best e
  pub here : s.is_here ≡ true → IsFoundWith l cubes s.best

-- each symbol of the tables is listed, and what is known of one is so
pub record AreAnswers (tables : List (List (List Lit))) (a : Answers) : Type 0 where
  pub formed : All (All IsCube) tables
  pub listed : (c : List Lit) (l : Lit) → Contains (all_cubes tables) c → has_symbol c l ≡ true
      → IsSome (known_of a l)
  pub known : (l : Lit) (s : Searched) → known_of a l ≡ Some (Some s)
      → IsAnswered (all_cubes tables) l s

-- nothing is known any more of the symbols of the cubes, which are listed, and of others no more
-- than before
pub record Forgets (cubes : List (List Lit)) (old new : Answers) : Type 0 where
  pub known : (l : Lit) (s : Searched) → known_of new l ≡ Some (Some s)
      → (known_of old l ≡ Some (Some s)) × All (λ (c : List Lit). has_symbol c l ≡ false) cubes
  pub keeps : (l : Lit) → IsSome (known_of old l) → IsSome (known_of new l)
  pub listed : (c : List Lit) (l : Lit) → Contains cubes c → has_symbol c l ≡ true
      → IsSome (known_of new l)

-- ---- a search

-- the best of what is known to be here, or what was found before
pub record IsLed (a : Answers) (old new : Option Found) : Type 0 where
  pub found : (cubes : List (List Lit))
      → ((l : Lit) (s : Searched) → known_of a l ≡ Some (Some s) → s.is_here ≡ true
      → IsFound cubes s.best)
      → IsFound cubes old → IsFound cubes new

-- no part that is no better than what is known is better than the best
abbrev pub IsBehindBest : Option Searched → Option Found → Type 0
IsBehindBest None best = ⊥
IsBehindBest (Some s) best = Improves s.best best

-- what is known of the symbol at the place tells that none of its parts is better
pub record IsSettled (a : Answers) (place : ℕ) (best : Option Found) : Type 0 where
  pub symbol : Lit
  pub at : slice_get (keys a.known) place ≡ Some symbol
  pub searched : Searched
  pub known : known_of a symbol ≡ Some (Some searched)
  pub improves : Improves searched.best best

-- what is known where this was found, or else this was given
abbrev pub answer_for : Option Found → Option Found → Searched
answer_for given None = record { best = given; is_here = false }
answer_for given (Some f) = record { best = Some f; is_here = true }

-- the part that was found, where it is ahead of the best so far, which else stays
abbrev pub better_of : Option Found → Option Found → Option Found
better_of best None = best
better_of best (Some f) = if is_ahead best f.saved f.cube then Some f else best

-- that is known of the symbol, and of others what was
pub record Notes (l : Lit) (s : Searched) (old new : Answers) : Type 0 where
  pub here : known_of new l ≡ Some (Some s)
  pub others : (m : Lit) (t : Searched) → known_of new m ≡ Some (Some t)
      → ((l ≡ m) × (s ≡ t)) ⊎ (known_of old m ≡ Some (Some t))
  pub keeps : (m : Lit) → IsSome (known_of old m) → IsSome (known_of new m)
  pub keys : IsSome (known_of old l) → keys new.known ≡ keys old.known

-- the parts that begin with the symbol at the place are no better
pub record IsDone (cubes : List (List Lit)) (symbols : List Lit) (best : Option Found) (place : ℕ)
    : Type 0 where
  pub each : (l : Lit) (e : List Lit) → slice_get symbols place ≡ Some l → IsMeet cubes e
      → Begins l e → IsNoBetter cubes best e

-- the best so far, behind a search at the place
pub record Settles (cubes : List (List Lit)) (symbols : List Lit) (place : ℕ)
    (old new : Option Found) : Type 0 where
  pub found : IsFound cubes new
  pub improves : Improves old new
  pub done : IsDone cubes symbols new place

abbrev pub SettlesIn : List (List Lit) → List Lit → ℕ → Option Found → Sought → Type 0
SettlesIn cubes symbols place old (Ended new) = Settles cubes symbols place old new
SettlesIn cubes symbols place old Broken = Unit {0}

-- that is so wherever the symbol stands
pub record FindsBest (cubes : List (List Lit)) (l : Lit) (old new : Option Found) : Type 0 where
  pub at : (symbols : List Lit) (place : ℕ) → slice_get symbols place ≡ Some l
      → Settles cubes symbols place old new

abbrev pub IsFoundIn : List (List Lit) → Lit → Option Found → Sought → Type 0
IsFoundIn cubes l old (Ended new) = FindsBest cubes l old new
IsFoundIn cubes l old Broken = Unit {0}

-- the symbol that stands at the place
pub record IsSymbolAt (a : Answers) (place : ℕ) (l : Lit) : Type 0 where
  pub at : slice_get (keys a.known) place ≡ Some l
  pub listed : IsSome (known_of a l)

-- the best common part, or that none saves anything, or nothing
abbrev pub IsBestIn : List (List Lit) → Sought → Type 0
IsBestIn cubes (Ended (Some f)) = IsBestMeet cubes f.cube
IsBestIn cubes (Ended None) = NoMeetSaves cubes
IsBestIn cubes Broken = Unit {0}
