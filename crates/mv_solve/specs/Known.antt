-- What is known of nets: of each so much as may be asked of it. For private functions.
use Rattle.std.specs.Prelude.{◌≡◌, ℕ, ◌<◌, ◌≤◌, Bool, true, false, ◌&&◌, Option, List, length}
use Rattle.std.specs.List.{list_all}
use Rattle.mv_base.specs.Set.{has}
use Rattle.mv_cover.specs.Literal.{Lit}
use Rattle.mv_cover.specs.Cubes.{holds, matches}
use Rattle.mv_cover.specs.Covers.{some_matches, some_gives, allowed, cube_reads, lines_read, cover_reads}
use Rattle.mv_cover.specs.declared.line.Line.{Line}
use Rattle.mv_cover.specs.declared.cover.Cover.{Cover}
use Rattle.mv_net.specs.declared.parts.FlatNet.{FlatNet}
use Rattle.mv_net.specs.Nets.{slot, reads_in}
use Rattle.mv_net.specs.Index.{is_held}
use Rattle.mv_net.specs.Allowed.{net_allows, Agrees}
use Rattle.mv_solve.specs.declared.asked.Asked.{Asked}
use Rattle.mv_solve.specs.declared.asked.Asked.TheVariants.{Anything, Only, Nothing}
use Rattle.mv_solve.specs.Asked.{takes, asked_of}

-- one value is asked for
abbrev pub is_only : Asked → Bool
is_only Anything = false
is_only (Only v) = true
is_only Nothing = false

-- a value of the set will do, for all that is said here
abbrev pub may_be_in : Asked → ℕ → Bool
may_be_in Anything set = true
may_be_in (Only v) set = has set v.0
may_be_in Nothing set = true

-- no value will do but one of the set
abbrev pub must_be_in : Asked → ℕ → Bool
must_be_in Anything set = false
must_be_in (Only v) set = has set v.0
must_be_in Nothing set = false

-- each literal may hold
abbrev pub may_match : List Asked → List Lit → Bool
may_match known cube = list_all (λ (l : Lit). may_be_in (asked_of known l.net.0) l.set) cube

-- each literal holds
abbrev pub must_match : List Asked → List Lit → Bool
must_match known cube = list_all (λ (l : Lit). must_be_in (asked_of known l.net.0) l.set) cube

-- the nets that pass the test have values that will do
pub record Knows (test : ℕ → Bool) (known : List Asked) (to : ℕ → ℕ) : Type 0 where
  pub each : (m : ℕ) → test m ≡ true → takes (asked_of known m) (to m) ≡ true

-- there is a place for what is kept of each net
pub record HasPlaces {X : Type 0} (nets : List (Option FlatNet)) (kept : List X) : Type 0 where
  pub each : (m : ℕ) → is_held nets m ≡ true → m < length kept

-- what is known holds more than what is asked, and in each assignment that has what is asked
pub record IsKnown (nets : List (Option FlatNet)) (asked known : List Asked) : Type 0 where
  pub long : length known ≡ length asked
  pub more : (to : ℕ → ℕ) → Knows (is_held nets) known to → Knows (is_held nets) asked to
  pub holds : (to : ℕ → ℕ) → Agrees nets to → Knows (is_held nets) asked to
      → Knows (is_held nets) known to

-- where the nets have what is known, the literal holds, or it doesn't
pub record IsTold (nets : List (Option FlatNet)) (known : List Asked) (l : Lit) (b : Bool)
    : Type 0 where
  pub told : (to : ℕ → ℕ) → Agrees nets to → Knows (is_held nets) known to → holds to l ≡ b

-- so do all literals
pub record IsMatch (nets : List (Option FlatNet)) (known : List Asked) (cube : List Lit)
    : Type 0 where
  pub held : (m : ℕ) → cube_reads cube m ≡ true → is_held nets m ≡ true
  pub told : (to : ℕ → ℕ) → Agrees nets to → Knows (is_held nets) known to
      → matches to cube ≡ true

-- so does no line's cube
pub record IsNoMatch (nets : List (Option FlatNet)) (known : List Asked) (lines : List Line)
    : Type 0 where
  pub held : (m : ℕ) → lines_read lines m ≡ true → is_held nets m ≡ true
  pub told : (to : ℕ → ℕ) → Agrees nets to → Knows (is_held nets) known to
      → some_matches to lines ≡ false

-- where what is known of its nets holds, the cover allows no value from `start` on and below `end`
pub record RefusesFrom (known : List Asked) (c : Cover) (start end : ℕ) : Type 0 where
  pub none : (to : ℕ → ℕ) → Knows (cover_reads c) known to → (v : ℕ) → start ≤ v → v < end
      → allowed c to v ≡ false

-- where what is known of its fanins holds, the net can have no other value
pub record IsOnly (nets : List (Option FlatNet)) (known : List Asked) (n v : ℕ) : Type 0 where
  pub only : (to : ℕ → ℕ) → Knows (reads_in nets n) known to → (w : ℕ)
      → net_allows (slot nets n) to w ≡ true → w ≡ v

-- each value below `count` of which the test is b is v
pub record IsOnlyValue (test : ℕ → Bool) (b : Bool) (count v : ℕ) : Type 0 where
  pub only : (u : ℕ) → u < count → test u ≡ b → u ≡ v

-- where what is known of its nets and the literal hold, the whole cube does
pub record IsOpen (known : List Asked) (cube : List Lit) (l : Lit) : Type 0 where
  pub reads : cube_reads cube l.net.0 ≡ true
  pub only : (to : ℕ → ℕ) → Knows (cube_reads cube) known to → holds to l ≡ true
      → matches to cube ≡ true

-- the line may hold and gives the value
abbrev pub may_give : List Asked → ℕ → Line → Bool
may_give known v l = has l.out v && may_match known l.cube

-- where what is known of its nets holds and some line that holds gives the value, this line holds
pub record IsOnlyLine (known : List Asked) (lines : List Line) (v : ℕ) (l : Line) : Type 0 where
  pub reads : (m : ℕ) → cube_reads l.cube m ≡ true → lines_read lines m ≡ true
  pub only : (to : ℕ → ℕ) → Knows (lines_read lines) known to → some_gives to v lines ≡ true
      → matches to l.cube ≡ true

-- what is read is held
pub record AreReadsHeld (nets : List (Option FlatNet)) : Type 0 where
  pub each : (n m : ℕ) → reads_in nets n m ≡ true → is_held nets m ≡ true
