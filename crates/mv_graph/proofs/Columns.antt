-- The places of nets in a list, and the columns of a net.
use Rattle.std.proofs.Common.{◌≡◌, ◌∙◌, ℕ, ◌<◌, ◌≤◌, true, List, [], length, sym, ap, ⊎_elim, All}
use Rattle.std.specs.Prelude.{nat_eq}
use Rattle.std.proofs.lemmas.Bool.{false≢true, cases_lt, eqb-true}
use Rattle.std.proofs.lemmas.List.{get_or_past}
use Rattle.std.proofs.lemmas.Option.{slice_get_within, get_or_from_slice_get}
use Rattle.mv_base.specs.declared.number.NetId.{NetId}
use Rattle.mv_base.proofs.Lists.{found}
use Rattle.mv_graph.specs.Nets.{has_id, row, AllBelow}
use Rattle.mv_graph.specs.Sorting.{net_at}

-- a net of a list stands at some place
pub id_at : (nets : List NetId) (m : ℕ) → has_id nets m ≡ true → (k : ℕ) × (k < length nets) × (net_at nets k ≡ m)
id_at nets m e =
    let none : NetId = record { 0 = 0 } in
    let f = found (λ (c : NetId). nat_eq c.0 m) nets e in
    let is = get_or_from_slice_get nets f.place f.item none f.at in
    (f.place, slice_get_within nets f.place f.item f.at, ap (λ (c : NetId). c.0) is ∙ eqb-true f.item.0 m f.passes)

pub row_below : (columns : List (List NetId)) (n : ℕ) → AllBelow columns → n < length columns → All (λ (c : NetId). c.0 < length columns) (row columns n)
row_below columns n below h = below n [] h

pub none_in : (nets : List NetId) (m : ℕ) → nets ≡ [] → has_id nets m ≡ true → ⊥
none_in nets m e h = false≢true (ap (λ ns. has_id ns m) (sym e) ∙ h)

-- a column is below the number of nets
pub column_below : (columns : List (List NetId)) (n m : ℕ) → AllBelow columns → has_id (row columns n) m ≡ true → m < length columns
column_below columns n m below h =
    ⊎_elim
    (λ (low : n < length columns).
    let none : NetId = record { 0 = 0 } in
    let at = id_at (row columns n) m h in
    rw (← at.2) (row_below columns n below low at.0 none at.1))
    (λ (high : length columns ≤ n). absurd (none_in (row columns n) m (get_or_past columns n [] high) h))
    (cases_lt n (length columns))
