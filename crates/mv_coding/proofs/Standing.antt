-- Nets that come to stand for a net: what is asked of their tables, and of the new tables of its readers.
use Rattle.std.proofs.Common.{◌≡◌, ◌⊎◌, ℕ, ◌+◌, ◌<◌, ◌≤◌, true, false, List, [], ◌∷◌, ◌++◌, length, map, Option}
use Rattle.mv_cover.specs.declared.cover.Cover.{Cover}
use Rattle.mv_cover.specs.Covers.{allowed, cover_reads}
use Rattle.mv_meaning.specs.Narrowing.{ReadsWithin}
use Rattle.mv_meaning.specs.Rewriting.{IsReader}
use Rattle.mv_net.specs.declared.change.NewNet.{NewNet}
use Rattle.mv_net.specs.declared.parts.FlatNet.{FlatNet}
use Rattle.mv_net.specs.Changes.{made_net}
use Rattle.mv_net.specs.Formed.{IsCover}
use Rattle.mv_net.specs.Nets.{slot, values_in}
use Rattle.mv_net.specs.Total.{AllowsValue}
use Rattle.mv_net.proofs.Patches.{put}
use Rattle.mv_coding.proofs.Coming.{AreNewNets}

-- the table d reads nothing that c doesn't, and allows some value exactly where c does
pub record Follows (c d : Cover) : Type 0 where
  pub reads : ReadsWithin c d
  pub some : (x : ℕ → ℕ) → AllowsValue c x → AllowsValue d x
  pub back : (x : ℕ → ℕ) → AllowsValue d x → AllowsValue c x

-- the tables of all these nets do
abbrev pub AllFollow : Cover → List NewNet → Type 0
AllFollow c [] = Unit {0}
AllFollow c (m ∷ ms) = Follows c m.table × AllFollow c ms

-- the assignment gives each of the nets, of which the first has the number k, one of its values
abbrev pub TakeValues : (ℕ → ℕ) → ℕ → List NewNet → Type 0
TakeValues x k [] = Unit {0}
TakeValues x k (m ∷ ms) = (x k < m.values) × TakeValues x (k + 1) ms

-- each of their tables allows its value
abbrev pub AllAllow : (ℕ → ℕ) → ℕ → List NewNet → Type 0
AllAllow x k [] = Unit {0}
AllAllow x k (m ∷ ms) = (allowed m.table x (x k) ≡ true) × AllAllow x (k + 1) ms

-- with some value of n, of so many, the table c allows what d does
pub record ReadsAs (n values : ℕ) (c d : Cover) (x : ℕ → ℕ) : Type 0 where
  pub value : ℕ
  pub low : value < values
  pub allows : (v : ℕ) → allowed d x v ≡ allowed c (put n value x) v

-- the table d asks the nets that come what c asks n, which has the table `inner`
pub record Restates (nets : List (Option FlatNet)) (n : ℕ) (inner : Cover) (ms : List NewNet) (c d : Cover) : Type 0 where
  pub unread : cover_reads d n ≡ false
  pub reads : (k : ℕ) → cover_reads d k ≡ true → (cover_reads c k ≡ true) ⊎ (length nets ≤ k)
  pub allows : (x : ℕ → ℕ) → TakeValues x (length nets) ms → ReadsAs n (values_in (slot nets n)) c d x
  pub same : (x : ℕ → ℕ) → allowed inner x (x n) ≡ true → TakeValues x (length nets) ms → AllAllow x (length nets) ms → (v : ℕ) → allowed d x v ≡ allowed c x v

-- the nets, of which there are some, can stand for n, with these tables for its readers
pub record StandFor (nets : List (Option FlatNet)) (n : ℕ) (inner : Cover) (new : Cover → Cover) (ms : List NewNet) : Type 0 where
  pub several : 0 < length ms
  pub nets_new : AreNewNets nets ms
  pub follow : AllFollow inner ms
  pub covers : (m : ℕ) (c : Cover) → IsReader nets n m c → IsCover (nets ++ map made_net ms) (values_in (slot nets m)) (new c)
  pub restates : (m : ℕ) (c : Cover) → IsReader nets n m c → Restates nets n inner ms c (new c)
