-- Lists that have each net that reads another: where none of them is above itself, no net is.
use Rattle.std.proofs.Common.{◌≡◌, ℕ, true, List, [], ◌∷◌}
use Rattle.mv_base.specs.declared.number.NetId.{NetId}
use Rattle.mv_graph.specs.Nets.{has_id, row}
use Rattle.mv_graph.specs.Above.{GoesOn, IsAcyclic, reads_by}
use Rattle.mv_cycles.specs.Cycles.{NoneTurns}

-- the list has each net that has columns
abbrev pub ListsEachReader : List (List NetId) → List NetId → Type 0
ListsEachReader columns order = (n m : ℕ) → has_id (row columns n) m ≡ true → has_id order n ≡ true

covered : (columns : List (List NetId)) (order : List NetId) → ListsEachReader columns order → (n above : ℕ) (path : List ℕ) → GoesOn (reads_by columns) above n path → has_id order n ≡ true
covered columns order c n above [] g = c n above g
covered columns order c n above (k ∷ path) g = c n k g.0

-- where none of them is above itself, no net is
pub none_turns_acyclic : (columns : List (List NetId)) (order : List NetId) → ListsEachReader columns order → NoneTurns columns order → IsAcyclic (reads_by columns)
none_turns_acyclic columns order c t = record { none = λ n a. t.none n (covered columns order c n n a.path a.goes) a }
