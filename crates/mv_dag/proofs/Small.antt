-- Lists of nets below a number, net by net and as a whole.
use Rattle.std.proofs.Common.{◌≡◌, ℕ, ◌<◌, true, List, ⊎_elim, All}
use Rattle.std.proofs.lemmas.Bool.{or_cases}
use Rattle.mv_base.specs.declared.number.NetId.{NetId}
use Rattle.mv_graph.specs.Nets.{has_id}
use Rattle.mv_graph.proofs.Nets.{has_id-at}
use Rattle.mv_graph.proofs.Columns.{id_at}
use Rattle.mv_dag.specs.Moves.{in_either}

abbrev pub AreSmall : ℕ → List NetId → Type 0
AreSmall size nets = All (λ (n : NetId). n.0 < size) nets

pub small_id : (size : ℕ) (nets : List NetId) → AreSmall size nets → (x : ℕ) → has_id nets x ≡ true → x < size
small_id size nets small x h =
    let none : NetId = record { 0 = 0 } in
    let place = id_at nets x h in
    rw (← place.2) (small place.0 none place.1)

pub small_either : (size : ℕ) (above below : List NetId) → AreSmall size above → AreSmall size below → (x : ℕ) → in_either above below x ≡ true → x < size
small_either size above below a b x h =
    ⊎_elim (λ y. small_id size above a x y) (λ y. small_id size below b x y) (or_cases (has_id above x) (has_id below x) h)

pub are_small : (size : ℕ) (nets : List NetId) → ((x : ℕ) → has_id nets x ≡ true → x < size) → AreSmall size nets
are_small size nets small k d l = small _ (has_id-at nets k d l)
