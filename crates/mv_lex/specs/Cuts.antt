-- A list cut at its ends, the items that pass a test: the pieces before each end, and the open one
-- behind the last.
use Rattle.std.specs.Prelude.{Bool, List, [], ◌∷◌, if◌then◌else◌}

-- the item put in front of the first piece, if there is one
abbrev pub onto : {A : Type 0} → A → List (List A) → List (List A)
onto x [] = []
onto x (piece ∷ pieces) = (x ∷ piece) ∷ pieces

-- the pieces that an end has closed, without their ends
abbrev pub closed : {A : Type 0} → (A → Bool) → List A → List (List A)
closed is_end [] = []
closed is_end (x ∷ xs) = if is_end x then [] ∷ closed is_end xs else onto x (closed is_end xs)

-- the item put in front of the open piece, if no closed piece stands before it
abbrev pub with_front : {A : Type 0} → List (List A) → A → List A → List A
with_front [] x piece = x ∷ piece
with_front (_ ∷ _) x piece = piece

-- the piece behind the last end, which is still open
abbrev pub open_piece : {A : Type 0} → (A → Bool) → List A → List A
open_piece is_end [] = []
open_piece is_end (x ∷ xs) = if is_end x then open_piece is_end xs
    else with_front (closed is_end xs) x (open_piece is_end xs)
