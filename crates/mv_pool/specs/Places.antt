-- What a pool holds: a list of places, each free or with an item.
use Rattle.std.specs.Prelude.{◌≡◌, ℕ, Bool, false, List, [], ◌∷◌, Option, Some, None, is_some, is_none, position, count_by, slice_index_or}
use Rattle.std.specs.List.{position_or_len}

-- the places, and how many items there is room for
pub record Contents (T : Type 0) : Type 0 where
  pub places : List (Option T)
  pub cap : ℕ

module _ {T : Type 0} where
  -- the item at a place, if there is one
  abbrev pub item_at : List (Option T) → ℕ → Option T
  item_at places n = slice_index_or places n None

  -- how many items are held
  abbrev pub held_in : List (Option T) → ℕ
  held_in places = count_by is_some places

  -- the least free place, or the one behind all where none is free
  abbrev pub least_free : List (Option T) → ℕ
  least_free places = position_or_len is_none places

  -- the places with an item at the least free one, or behind all
  abbrev pub with_item : List (Option T) → T → List (Option T)
  with_item [] item = Some item ∷ []
  with_item (None ∷ places) item = Some item ∷ places
  with_item (Some other ∷ places) item = Some other ∷ with_item places item

module _ {T : Type 0} (eq : T → T → Bool) where
  -- an item equal to this one stands there
  abbrev pub stands : T → Option T → Bool
  stands item None = false
  stands item (Some other) = eq item other

  -- the place of an item that is held
  abbrev pub place_of : T → List (Option T) → Option ℕ
  place_of item places = position (stands item) places

  -- no item stands at two places: each is found where it stands
  abbrev pub AreDistinct : List (Option T) → Type 0
  AreDistinct places = (n : ℕ) (item : T) → item_at places n ≡ Some item
      → place_of item places ≡ Some n
