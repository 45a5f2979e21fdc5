-- The places of the first nodes of diagrams.
use Rattle.std.specs.Prelude.{◌≡◌, ◌<◌, ℕ, Bool, true, List, length, Option, Some, All, count_by, slice_index_or}
use Rattle.mv_pool.specs.declared.pool.Id.{Id}
use Rattle.mv_pool.specs.Walks.{mark}
use Rattle.mv_diagram.specs.declared.node.Dd.{Dd}
use Rattle.mv_diagram.specs.Links.{place_of}

-- a number that is no place's, or one of the first places'
pub record IsPlaceBelow (places : ℕ) (d : Dd) : Type 0 where
  pub below : (id : Id) → place_of d.0 ≡ Some id → id.0 < places

-- the list has exactly the marked places, each once
pub record AreMarked (marks : List Bool) (ids : List Id) : Type 0 where
  pub count : length ids ≡ count_by (λ b. b) marks
  pub all : (set : ℕ → Bool) → All (λ (id : Id). set id.0 ≡ true) ids → (n : ℕ)
      → mark marks n ≡ true → set n ≡ true

-- a place more is marked, if there is one
pub record IsAdded (place : Option Id) (marks : List Bool) (ids : List Id) (marks' : List Bool)
    (ids' : List Id) : Type 0 where
  pub marked : AreMarked marks' ids'
  pub size : length marks' ≡ length marks
  pub there : (id : Id) → place ≡ Some id → mark marks' id.0 ≡ true
  pub stays : (n : ℕ) → mark marks n ≡ true → mark marks' n ≡ true
  pub only : (set : ℕ → Bool) → ((id : Id) → place ≡ Some id → set id.0 ≡ true)
      → All (λ (i : Id). set i.0 ≡ true) ids → All (λ (i : Id). set i.0 ≡ true) ids'

-- a set has all these places just where it has those of the first so many roots
pub record AreGathered (roots : List Dd) (ids : List Id) (count : ℕ) : Type 0 where
  pub inside : (set : ℕ → Bool)
      → ((k : ℕ) (id : Id) (e : Dd) → k < count → place_of (slice_index_or roots k e).0 ≡ Some id
      → set id.0 ≡ true)
      → All (λ (id : Id). set id.0 ≡ true) ids
  pub all : (set : ℕ → Bool) → All (λ (id : Id). set id.0 ≡ true) ids → (k : ℕ) (id : Id) (e : Dd)
      → k < count
      → place_of (slice_index_or roots k e).0 ≡ Some id → set id.0 ≡ true
