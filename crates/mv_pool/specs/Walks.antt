-- A walk along links: the marks of the places that it has reached, and these places in a queue.
use Rattle.std.specs.Prelude.{◌≡◌, ℕ, ◌<◌, ◌≤◌, Bool, true, false, List, length, Option, Some, None, All, count_by, slice_index, slice_index_or, is_some}
use Rattle.mv_pool.specs.declared.pool.Id.{Id}
use Rattle.mv_pool.specs.Places.{item_at}
use Rattle.mv_pool.specs.Reached.{IsClosed}

-- whether a place is marked
abbrev pub mark : List Bool → ℕ → Bool
mark marks n = slice_index_or marks n false

-- the queue has exactly the marked places, each once
pub record IsQueued (marks : List Bool) (queue : List ℕ) : Type 0 where
  pub count : length queue ≡ count_by (λ b. b) marks
  pub marked : (k : ℕ) → k < length queue → mark marks (slice_index queue k) ≡ true
  pub queued : (n : ℕ) → mark marks n ≡ true
      → (k : ℕ) × (k < length queue) × (slice_index queue k ≡ n)

-- the place of a link is marked too, at the end of the queue, and no other
pub record HasReached (marks : List Bool) (queue : List ℕ) (link : Option Id) (marks' : List Bool)
    (queue' : List ℕ) : Type 0 where
  pub walk : IsQueued marks' queue'
  pub size : length marks' ≡ length marks
  pub there : (id : Id) → link ≡ Some id → mark marks' id.0 ≡ true
  pub stays : (n : ℕ) → mark marks n ≡ true → mark marks' n ≡ true
  pub only : (set : ℕ → Bool) → ((n : ℕ) → mark marks n ≡ true → set n ≡ true)
      → ((id : Id) → link ≡ Some id → set id.0 ≡ true) → (n : ℕ)
      → mark marks' n ≡ true → set n ≡ true
  pub first : (k : ℕ) → k < length queue → slice_index queue' k ≡ slice_index queue k
  pub longer : length queue ≤ length queue'

-- the walk marked held places alone, which are reached from the roots, and has followed the links
-- of the first places of the queue
pub record IsWalking {T : Type 0} (link : T → ℕ → Option Id) (places : List (Option T))
    (roots : List Id) (marks : List Bool) (queue : List ℕ)
    (done : ℕ) : Type 0 where
  pub walk : IsQueued marks queue
  pub size : length marks ≡ length places
  pub held : (n : ℕ) → mark marks n ≡ true → is_some (item_at places n) ≡ true
  pub sound : (set : ℕ → Bool) → All (λ (id : Id). set id.0 ≡ true) roots
      → IsClosed link places set → (n : ℕ) → mark marks n ≡ true → set n ≡ true
  pub followed : (j k : ℕ) (item : T) (id : Id) → j < done
      → item_at places (slice_index queue j) ≡ Some item → k < 2 → link item k ≡ Some id
      → mark marks id.0 ≡ true

-- the roots are marked, up to some number of them
pub record AreRooted (marks : List Bool) (roots : List Id) (count : ℕ) : Type 0 where
  pub each : (k : ℕ) (d : Id) → k < count → mark marks (slice_index_or roots k d).0 ≡ true

-- the first places that aren't marked are free, and all others are as before
pub record AreFreed {T : Type 0} (marks : List Bool) (old new : List (Option T)) (count : ℕ)
    : Type 0 where
  pub long : length new ≡ length old
  pub kept : (n : ℕ) → mark marks n ≡ true → item_at new n ≡ item_at old n
  pub freed : (n : ℕ) → n < count → mark marks n ≡ false → item_at new n ≡ None
  pub later : (n : ℕ) → count ≤ n → item_at new n ≡ item_at old n
