-- Labels that changed, and how they are put back.
use Rattle.std.specs.Prelude.{◌≡◌, ℕ, ◌<◌, Bool, true, false, ◌||◌, not, filter, nat_eq, List, [], ◌∷◌, ◌++◌, length, slice_set, All, Contains}
use Rattle.std.specs.List.{list_any}
use Rattle.std.specs.List.Sorted.{IsStrictlySortedBy}
use Rattle.std.specs.Ordering.{nat_cmp, ordering_then}
use Rattle.std.specs.declared.cmp.Ordering.{Ordering}
use Rattle.mv_base.specs.declared.number.NetId.{NetId}
use Rattle.mv_graph.specs.Nets.{has_id}
use Rattle.mv_dag.specs.declared.moves.Entry.{Entry}
use Rattle.mv_dag.specs.Ordered.{at}

-- one of the entries is of this net
abbrev pub has_entry : List Entry → ℕ → Bool
has_entry entries n = list_any (λ (e : Entry). nat_eq e.net.0 n) entries

-- the entry has the label that its net has here
abbrev pub IsEntry : List ℕ → Entry → Type 0
IsEntry labels e = (e.net.0 < length labels) × (e.label ≡ at labels e.net.0)

-- some labels changed: each entry has the label that its net had, and nets without an entry kept
-- theirs
pub record WasAt (before now : List ℕ) (entries : List Entry) : Type 0 where
  pub long : length now ≡ length before
  pub had : All (IsEntry before) entries
  pub others : (n : ℕ) → has_entry entries n ≡ false → at now n ≡ at before n

-- ---- what private functions alone cite

-- the labels with those of some entries written at the nets of others, pair by pair
abbrev pub written : List ℕ → List Entry → List Entry → List ℕ
written labels [] places = labels
written labels (_ ∷ _) [] = labels
written labels (e ∷ nets) (f ∷ places) = written (slice_set labels e.net.0 f.label) nets places

-- the order of entries: by their labels, then by their nets
abbrev pub entry_cmp : Entry → Entry → Ordering
entry_cmp x y = ordering_then (nat_cmp x.label y.label) (nat_cmp x.net.0 y.net.0)

-- the net with the label that it has here
abbrev pub entry_of : List ℕ → NetId → Entry
entry_of labels n = record { label = at labels n.0; net = n }

-- the net is in one of the lists
abbrev pub in_either : List NetId → List NetId → ℕ → Bool
in_either above below n = has_id above n || has_id below n

-- the entries of the nets in both lists, in the order of their labels, each once
pub record AreEntries (labels : List ℕ) (above below : List NetId) (entries : List Entry)
    : Type 0 where
  pub sorted : IsStrictlySortedBy entry_cmp entries
  pub each : All
      (λ (e : Entry). (in_either above below e.net.0 ≡ true)
      × (e.label ≡ at labels e.net.0)) entries
  pub all : (n : NetId) → in_either above below n.0 ≡ true → Contains entries (entry_of labels n)

-- the entry is of one of these nets
abbrev pub is_among : List NetId → Entry → Bool
is_among nets e = has_id nets e.net.0

-- it is of another net
abbrev pub is_other : List NetId → Entry → Bool
is_other nets e = not (has_id nets e.net.0)

-- the entries of these nets, and then the others, each in their order
abbrev pub turned_by : List NetId → List Entry → List Entry
turned_by nets entries = filter (is_among nets) entries ++ filter (is_other nets) entries
