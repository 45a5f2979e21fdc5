-- A cube's entries at the fanins of its table, by a walk along both, and what such a walk needs.
use Rattle.std.specs.Prelude.{◌≡◌, ℕ, ◌<◌, ◌≤◌, true, nat_eq, IsTrue, Option, Some, List, [], ◌∷◌, ◌++◌, length, decimal, slice_index_or, if◌then◌else◌}
use Rattle.std.specs.List.{flat_map}
use Rattle.mv_base.specs.Set.{full}
use Rattle.mv_base.specs.declared.limits.TheConstants.{MAX_VALUES}
use Rattle.mv_base.specs.declared.number.NetId.{NetId}
use Rattle.mv_cover.specs.Literal.{Lit}
use Rattle.mv_cover.specs.declared.line.Line.{Line}
use Rattle.mv_cover.specs.Covers.{cube_reads}
use Rattle.mv_cover.specs.Lines.{IsOutput}
use Rattle.mv_net.specs.declared.parts.FlatNet.{FlatNet}
use Rattle.mv_net.specs.Nets.{slot, values_in, spelled_in}
use Rattle.mv_net.specs.Formed.{AllLiterals}
use Rattle.mv_graph.specs.Nets.{has_id, ids_ascend}
use Rattle.mv_net.specs.Index.{is_held}
use Rattle.mv_text.specs.Text.{entry_word}

-- a name for each value, or none where the names are the numbers from 0
pub record AreValues (count : ℕ) (names : List (List ℕ)) : Type 0 where
  pub few : count ≤ MAX_VALUES
  pub each : 0 < length names → length names ≡ count

-- the name of a value in a list of names, or its number where the list is empty
abbrev pub named : List (List ℕ) → ℕ → List ℕ
named [] v = decimal v
named (w ∷ ws) v = slice_index_or (w ∷ ws) v []

-- the set of a net of so many values that is no higher than the literals' nets: that of the first
-- literal, if it is on this net
abbrev pub first_set : ℕ → List Lit → ℕ → ℕ
first_set count [] m = full count
first_set count (l ∷ ls) m = if nat_eq l.net.0 m then l.set else full count

-- the literals behind such a net
abbrev pub literals_behind : List Lit → ℕ → List Lit
literals_behind [] m = []
literals_behind (l ∷ ls) m = if nat_eq l.net.0 m then ls else l ∷ ls

-- the entries of these nets, one after the other
abbrev pub walked : List (Option FlatNet) → List Lit → List NetId → List (List ℕ)
walked nets ls [] = []
walked nets ls (n ∷ ns) =
    entry_word (spelled_in (slot nets n.0)) (first_set (values_in (slot nets n.0)) ls n.0)
    ∷ walked nets (literals_behind ls n.0) ns

-- these entries, each with a space behind it
abbrev pub entries_text : List (List ℕ) → List ℕ
entries_text words = flat_map (λ w. w ++ 32 ∷ []) words

-- the nets ascend, and each net of the cube is one of them
pub record AreFaninsOf (cube : List Lit) (nets : List NetId) : Type 0 where
  pub ascending : ids_ascend nets ≡ true
  pub among : (m : ℕ) → cube_reads cube m ≡ true → has_id nets m ≡ true

-- the nets are held
pub record AreHeld (nets : List (Option FlatNet)) (list : List NetId) : Type 0 where
  pub each : (n : ℕ) → has_id list n ≡ true → IsTrue (is_held nets n)

-- a line over the nets, whose output has this many values
pub record IsLineOver (nets : List (Option FlatNet)) (values : ℕ) (l : Line) : Type 0 where
  pub literals : AllLiterals nets l.cube
  pub out : IsOutput values l.out

-- a default, if there is one, for an output of this many values
pub record IsDefaultSet (values : ℕ) (default : Option ℕ) : Type 0 where
  pub set : (out : ℕ) → default ≡ Some out → IsOutput values out
