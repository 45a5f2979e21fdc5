-- The nets below a net, and the window around one.
use Rattle.std.specs.Prelude.{◌≡◌, ◌⊎◌, ◌↔◌, ℕ, ◌+◌, ◌*◌, ◌-◌, ◌<◌, Bool, true, false}
use Rattle.std.specs.Prelude.{is_some, Option, Some, None, List, [], ◌∷◌, length}
use Rattle.mv_base.specs.declared.number.NetId.{NetId}
use Rattle.mv_net.specs.declared.parts.FlatNet.{FlatNet}
use Rattle.mv_net.specs.declared.parts.NetParts.{NetParts}
use Rattle.mv_net.specs.declared.window.Window.{Window}
use Rattle.mv_net.specs.Nets.{slot, values_in, table_in, reads_in}
use Rattle.mv_net.specs.Index.{is_seen}
use Rattle.mv_graph.specs.Nets.{has_id, ids_ascend}
use Rattle.mv_graph.specs.Above.{GoesOn}

-- the list has exactly the numbers of which the claim holds, ascending; there is one such list at
-- most
pub record Lists (Claim : ℕ → Type 0) (list : List NetId) : Type 0 where
  pub ascending : ids_ascend list ≡ true
  pub members : (n : ℕ) → (has_id list n ≡ true) ↔ Claim n

-- a path of at most so many steps leads from the net n to the net `above`, each step to a net that
-- the one before reads
pub record IsStepsAbove {N : Type 0} (reads : N → N → Bool) (steps : ℕ) (above n : N) : Type 0 where
  pub path : List N
  pub short : length path < steps
  pub goes : GoesOn reads above n path

-- the net `above` is n, or is above it by at most so many steps
abbrev pub IsAtMostAbove : {N : Type 0} → (N → N → Bool) → ℕ → N → N → Type 0
IsAtMostAbove reads steps above n = (above ≡ n) ⊎ IsStepsAbove reads steps above n

-- m is within u steps above a net that is within d steps below n
pub record IsAround (nets : List (Option FlatNet)) (n d u m : ℕ) : Type 0 where
  pub net : ℕ
  pub below : IsAtMostAbove (reads_in nets) d n net
  pub above : IsAtMostAbove (reads_in nets) u m net

-- a table of the window: so many steps down from n, and from there so many steps up
pub record IsWindowTable (nets : List (Option FlatNet)) (n d u m : ℕ) : Type 0 where
  pub around : IsAround nets n d u m
  pub table : is_some (table_in (slot nets m)) ≡ true

-- an input of the tables that pass the test: one of them reads it, and it is none of them
pub record IsWindowInput (nets : List (Option FlatNet)) (inside : ℕ → Bool) (m : ℕ) : Type 0 where
  pub reader : ℕ
  pub is_inside : inside reader ≡ true
  pub reads : reads_in nets reader m ≡ true
  pub outside : inside m ≡ false

-- a net that is none of the tables reads m
pub record IsReadOutside (nets : List (Option FlatNet)) (inside : ℕ → Bool) (m : ℕ) : Type 0 where
  pub reader : ℕ
  pub outside : inside reader ≡ false
  pub reads : reads_in nets reader m ≡ true

-- m is seen, or a net that is none of the tables reads it
abbrev pub IsShown : NetParts → (ℕ → Bool) → ℕ → Type 0
IsShown net inside m = (is_seen net m ≡ true) ⊎ IsReadOutside net.nets inside m

-- an output of the tables that pass the test: one of them that is seen, or that a net reads which
-- is none of them
pub record IsWindowOutput (net : NetParts) (inside : ℕ → Bool) (m : ℕ) : Type 0 where
  pub is_inside : inside m ≡ true
  pub shown : IsShown net inside m

-- w is the window around n: d steps down, and from there u steps up
pub record IsWindow (net : NetParts) (n d u : ℕ) (w : Window) : Type 0 where
  pub tables : Lists (IsWindowTable net.nets n d u) w.tables
  pub inputs : Lists (IsWindowInput net.nets (has_id w.tables)) w.inputs
  pub outputs : Lists (IsWindowOutput net (has_id w.tables)) w.outputs

-- how many values a net has, and one where none is held
abbrev pub ways_in : Option FlatNet → ℕ
ways_in None = 1
ways_in (Some f) = f.values

-- in how many ways these nets can have values; a number that isn't held counts nothing
abbrev pub ways_of : List (Option FlatNet) → List NetId → ℕ
ways_of nets [] = 1
ways_of nets (n ∷ ns) = ways_in (slot nets n.0) * ways_of nets ns

-- the values of these nets, of each one less; a number that isn't held counts nothing
abbrev pub levels_of : List (Option FlatNet) → List NetId → ℕ
levels_of nets [] = 0
levels_of nets (n ∷ ns) = (values_in (slot nets n.0) - 1) + levels_of nets ns
