-- The names of made nets, in the order in which they are made. For private functions.
use Rattle.std.specs.Prelude.{◌≡◌, ℕ, ◌+◌, ◌<◌, ◌≤◌, ◌^◌, true, false, Option, Some, None, List, [], ◌∷◌, ◌++◌, length}
use Rattle.mv_base.specs.Names.{among}
use Rattle.mv_cover.specs.declared.cover.Cover.{Cover}
use Rattle.mv_design.specs.declared.design.Decl.{Decl}
use Rattle.mv_design.specs.declared.table.FileTable.{FileTable}
use Rattle.mv_net.specs.declared.parts.FlatNet.{FlatNet}
use Rattle.mv_flat.specs.Numbers.{made_name}
use Rattle.mv_flat.specs.Built.{fresh_net, AreTableNets}
use Rattle.mv_flat.specs.Covers.{MadeNet}

-- the number of the last made name: all names up to it are held, and one behind it is held where it
-- is one of these
pub record IsLast (names held : List (List ℕ)) (last : ℕ) : Type 0 where
  pub small : last < 2 ^ 32
  pub before : (k : ℕ) → 0 < k → k ≤ last → among (made_name k) held ≡ true
  pub behind : (k : ℕ) → last < k → k < 2 ^ 32
      → among (made_name k) held ≡ among (made_name k) names

-- the least number behind the last whose name is none of these
pub record IsNext (names : List (List ℕ)) (last number : ℕ) (name : List ℕ) : Type 0 where
  pub later : last < number
  pub small : number < 2 ^ 32
  pub is : name ≡ made_name number
  pub fresh : among name names ≡ false
  pub least : (k : ℕ) → last < k → k < number → among (made_name k) names ≡ true

-- what some nets are behind the names that are held, and the number of the last made name then
pub record Behind (Nets : List (List ℕ) → List (Option FlatNet) → List (List ℕ) → Type 0)
    (names held : List (List ℕ)) (here : List (Option FlatNet))
    (last : ℕ) : Type 0 where
  pub after : List (List ℕ)
  pub are : Nets held here after
  pub lasts : IsLast names after last
  pub few : length after ≤ length held + 2

-- nets with some more behind them, whatever names were held
pub record AddsNets (Nets : List (List ℕ) → List (Option FlatNet) → List (List ℕ) → Type 0)
    (names : List (List ℕ)) (before last : ℕ)
    (old new : List (Option FlatNet)) : Type 0 where
  pub here : List (Option FlatNet)
  pub joined : new ≡ old ++ here
  pub behind : (held : List (List ℕ)) → IsLast names held before → Behind Nets names held here last

-- nets with one that is made behind them, whatever names were held
pub record AddsMade (names : List (List ℕ)) (made : MadeNet) (before last : ℕ)
    (old new : List (Option FlatNet)) : Type 0 where
  pub name : List ℕ
  pub next : IsNext names before last name
  pub joined : new ≡ old ++ fresh_net name made ∷ []

-- nets with that of a mark behind them, if there is one
abbrev pub AddsMark : List (List ℕ) → Option Cover → ℕ → ℕ → List (Option FlatNet)
    → List (Option FlatNet) → Type 0
AddsMark names None before last old new = (last ≡ before) × (new ≡ old)
AddsMark names (Some cover) before last old new =
    AddsMade names (record { values = 2; cover = cover }) before last old new

-- the nets of a table
abbrev pub TableNets : List Decl → List (List ℕ) → FileTable → List (List ℕ)
    → List (Option FlatNet) → List (List ℕ) → Type 0
TableNets ds names t held nets after = AreTableNets ds names held t nets after
