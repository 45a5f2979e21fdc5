-- Walks along a graph, up and down, and what a search finds between two labels.
use Rattle.std.specs.Prelude.{◌≡◌, ℕ, ◌<◌, ◌≤◌, Bool, true, List, length}
use Rattle.mv_base.specs.declared.number.NetId.{NetId}
use Rattle.mv_graph.specs.Nets.{has_id, row, all_differ}
use Rattle.mv_dag.specs.declared.way.Way.{Way}
use Rattle.mv_dag.specs.declared.way.Way.TheVariants.{Up, Down}
use Rattle.mv_dag.specs.Ordered.{at}

-- the way up leads from a net to its fanins, the way down to its readers
abbrev pub leads_to : Way → List (List NetId) → ℕ → ℕ → Bool
leads_to Up fanins x y = has_id (row fanins x) y
leads_to Down fanins x y = has_id (row fanins y) x

-- the lists have each reader of each net, and maybe others
pub record HasReaders (fanins readers : List (List NetId)) : Type 0 where
  pub listed : (n m : ℕ) → has_id (row fanins n) m ≡ true → has_id (row readers m) n ≡ true

-- a walk of any number of steps from x to y, the last step apart
pub data Leads (steps : ℕ → ℕ → Bool) : ℕ → ℕ → Type 0 where
  Here : (x : ℕ) → Leads steps x x
  Then : (x y z : ℕ) → Leads steps x y → steps y z ≡ true → Leads steps x z

-- a walk leads to x from one of the starts
pub record IsReached (steps : ℕ → ℕ → Bool) (starts : List NetId) (x : ℕ) : Type 0 where
  pub start : ℕ
  pub is : has_id starts start ≡ true
  pub leads : Leads steps start x

-- the label of x is between the two
abbrev pub IsIn : List ℕ → ℕ → ℕ → ℕ → Type 0
IsIn labels low high x = (low ≤ at labels x) × (at labels x ≤ high)

-- what a search from the starts finds between two labels
pub record IsReach (steps : ℕ → ℕ → Bool) (labels : List ℕ) (starts : List NetId) (low high : ℕ)
    (found : List NetId) : Type 0 where
  pub starts_in : (x : ℕ) → has_id starts x ≡ true → IsIn labels low high x → has_id found x ≡ true
  pub closed : (x y : ℕ) → has_id found x ≡ true → steps x y ≡ true → IsIn labels low high y
      → has_id found y ≡ true
  pub inside : (x : ℕ) → has_id found x ≡ true → IsIn labels low high x
  pub reached : (x : ℕ) → has_id found x ≡ true → IsReached steps starts x
  pub small : (x : ℕ) → has_id found x ≡ true → x < length labels
  pub distinct : all_differ found ≡ true
