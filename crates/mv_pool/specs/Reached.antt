-- Which places are reached from others by links.
use Rattle.std.specs.Prelude.{◌≡◌, ◌↔◌, ℕ, ◌<◌, ◌≤◌, Bool, true, false, List, length, Option, Some, All, count_by, is_some, slice_index, slice_index_or}
use Rattle.mv_pool.specs.declared.pool.Id.{Id}
use Rattle.mv_pool.specs.Places.{item_at}

module _ {T : Type 0} (link : T → ℕ → Option Id) where
  -- the set has each place to which an item in it links
  pub record IsClosed (places : List (Option T)) (set : ℕ → Bool) : Type 0 where
    pub each : (n k : ℕ) (item : T) (id : Id) → set n ≡ true → item_at places n ≡ Some item → k < 2
        → link item k ≡ Some id → set id.0 ≡ true

  -- the place is reached from the roots by links: it is in each closed set that has the roots
  abbrev pub IsReached : List (Option T) → List Id → ℕ → Type 0
  IsReached places roots n = (set : ℕ → Bool) → All (λ (id : Id). set id.0 ≡ true) roots
      → IsClosed places set → set n ≡ true

  -- each link of a held item is to a held item
  pub record LinksAreHeld (places : List (Option T)) : Type 0 where
    pub each : (n k : ℕ) (item : T) (id : Id) → item_at places n ≡ Some item → k < 2
        → link item k ≡ Some id → is_some (item_at places id.0) ≡ true

  -- the places that are reached keep what they hold, and no others hold anything
  pub record IsReclaimed (old : List (Option T)) (roots : List Id) (new : List (Option T))
      : Type 0 where
    pub long : length new ≡ length old
    pub kept : (n : ℕ) → IsReached old roots n → item_at new n ≡ item_at old n
    pub freed : (n : ℕ) → is_some (item_at new n) ≡ true → IsReached old roots n

  -- the list has exactly the places that are reached, each once: they alone are marked, and it is
  -- as long as there are marks
  pub record AreListed (places : List (Option T)) (roots : List Id) (listed : List ℕ)
      : Type 0 where
    pub reached : (k : ℕ) → k < length listed → IsReached places roots (slice_index listed k)
    pub all : (n : ℕ) → IsReached places roots n
        → (k : ℕ) × (k < length listed) × (slice_index listed k ≡ n)
    pub marks : List Bool
    pub marked : (n : ℕ) → (slice_index_or marks n false ≡ true) ↔ IsReached places roots n
    pub count : length listed ≡ count_by (λ b. b) marks
    pub within : length listed ≤ length places
