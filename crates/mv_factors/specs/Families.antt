-- What callers see of a list of sets of points.
use Rattle.std.specs.Prelude.{◌≡◌, ◌≤◌, ◌==◌, ◌&&◌, ℕ, Bool, true, not, nat_lt, nat_le, List, slice_index_or}
use Rattle.mv_diagram.specs.declared.node.Dd.{Dd}
use Rattle.mv_diagram.specs.Sets.{Point}
use Rattle.mv_diagram.specs.Diagrams.{Contents, has}

-- the diagrams, which of them are the sets at the places of the list, and how many places there is
-- room for
pub record Family : Type 0 where
  pub contents : Contents
  pub list : List Dd
  pub room : ℕ

-- the diagram at a place: that of all points, where there is no such place
abbrev pub diagram_at : Family → ℕ → Dd
diagram_at f k = slice_index_or f.list k (record { 0 = 1 })

-- whether a point is in the set at a place
abbrev pub set_at : Family → ℕ → Point → Bool
set_at f k p = has f.contents (diagram_at f k) p

-- all places, all but one or two, those before one, that one alone, and those from one on but
-- another
abbrev pub everywhere : ℕ → Bool
everywhere k = true

abbrev pub but : ℕ → ℕ → Bool
but place k = not (k == place)

abbrev pub but_both : ℕ → ℕ → ℕ → Bool
but_both place other k = not (k == place) && not (k == other)

abbrev pub only : ℕ → ℕ → Bool
only place k = k == place

abbrev pub behind : ℕ → ℕ → ℕ → Bool
behind count place k = nat_le count k && not (k == place)

abbrev pub before : ℕ → ℕ → Bool
before place k = nat_lt k place

-- the variables are as before, and so are the room and the sets at these places
pub record Keeps (old new : Family) (kept : ℕ → Bool) : Type 0 where
  pub counts : new.contents.counts ≡ old.contents.counts
  pub cap : new.contents.cap ≡ old.contents.cap
  pub room : old.room ≤ new.room
  pub sets : (k : ℕ) (p : Point) → kept k ≡ true → set_at new k p ≡ set_at old k p
