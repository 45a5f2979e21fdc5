-- A row is as long as the columns.
use Rattle.std.proofs.Common.{◌≡◌, ℕ, ◌+◌, ◌≤◌, List, ◌++◌, length, length-append, map, ap, arith}
use Rattle.std.specs.Prelude.{min}
use Rattle.std.specs.List.{zip}
use Rattle.std.specs.Option.{unwrap_or}
use Rattle.std.proofs.lemmas.List.{length-map}
use Rattle.std.proofs.lemmas.Slice.Zip.{length-zip}
use Rattle.mv_base.specs.declared.number.NetId.{NetId}
use Rattle.mv_base.specs.declared.number.Value.{Value}
use Rattle.mv_net.specs.declared.parts.FlatLatch.{FlatLatch}
use Rattle.mv_net.specs.declared.parts.NetParts.{NetParts}
use Rattle.mv_net.specs.Formed.{latch_outputs}
use Rattle.mv_trace.specs.Runs.{value_said, row_said, columns_of}

-- where there are as many words as columns, there are as many values
pub row_size : (net : NetParts) (words : List (List ℕ)) (row : List Value) → length words ≡ length (columns_of net) → map (λ (v : Value). v.0) row ≡ row_said net.nets (columns_of net) words → length net.inputs + length net.latches ≤ length row
row_size net words row width e =
    let value : NetId × List ℕ → ℕ = λ (p : NetId × List ℕ). unwrap_or (value_said net.nets p.0 p.1) 0 in
    let size : length (zip (columns_of net) words) ≡ min (length (columns_of net)) (length words) = length-zip (columns_of net) words in
    let said : length (row_said net.nets (columns_of net) words) ≡ length (zip (columns_of net) words) = length-map (zip (columns_of net) words) value in
    let values : length (map (λ (v : Value). v.0) row) ≡ length (row_said net.nets (columns_of net) words) = ap length e in
    let long : length (map (λ (v : Value). v.0) row) ≡ length row = length-map row (λ (v : Value). v.0) in
    let latches : length (latch_outputs net.latches) ≡ length net.latches = length-map net.latches (λ (l : FlatLatch). l.output) in
    let inner = length-append (latch_outputs net.latches) net.outputs in
    let outer = length-append net.inputs (latch_outputs net.latches ++ net.outputs) in
    omega arith
