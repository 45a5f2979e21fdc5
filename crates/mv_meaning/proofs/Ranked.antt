-- The nets of a well-formed network have ranks, which fall from each net to each that it reads: so what is shown of a net from
-- those that it reads is shown of all.
use Rattle.std.proofs.Common.{◌≡◌, ◌∙◌, ℕ, zero, suc, ◌<◌, true, List, [], ◌∷◌, length, map, get_or, Option, Some, None, refl, sym, arith}
use Rattle.std.proofs.lemmas.List.{get_or_default, length-map}
use Rattle.mv_base.specs.declared.number.NetId.{NetId}
use Rattle.mv_cover.specs.declared.cover.Cover.{Cover}
use Rattle.mv_graph.specs.Nets.{has_id, row, AllBelow}
use Rattle.mv_graph.specs.Above.{reads_by}
use Rattle.mv_graph.proofs.Nets.{has_id-at}
use Rattle.mv_graph.proofs.Paths.{acyclic_mapped}
use Rattle.mv_graph.proofs.Ranks.{IsRanked}
use Rattle.mv_graph.proofs.Clear.{not_unranked}
use Rattle.mv_net.specs.declared.parts.FlatNet.{FlatNet}
use Rattle.mv_net.specs.declared.parts.NetParts.{NetParts}
use Rattle.mv_net.specs.Nets.{table_in, table_reads, reads_in}
use Rattle.mv_net.specs.Formed.{WellFormed}
use Rattle.mv_net.specs.Index.{line_nets}
use Rattle.mv_net.proofs.LineNets.{has_id-line_nets}
use Rattle.mv_net.proofs.Known.{reads_readable, readable_below}

-- the nets that a table reads
abbrev table_nets : Option Cover → List NetId
table_nets None = []
table_nets (Some c) = line_nets c.lines

-- for each number the nets that its net reads
abbrev read_lists : List (Option FlatNet) → List (List NetId)
read_lists nets = map (λ (f : Option FlatNet). table_nets (table_in f)) nets

table_nets-read : (t : Option Cover) (m : ℕ) → has_id (table_nets t) m ≡ table_reads t m
table_nets-read None m = refl
table_nets-read (Some c) m = has_id-line_nets c.lines m

lists-read : (nets : List (Option FlatNet)) (n m : ℕ) → reads_by (read_lists nets) n m ≡ reads_in nets n m
lists-read [] n m = refl
lists-read (f ∷ fs) zero m = table_nets-read (table_in f) m
lists-read (f ∷ fs) (suc n) m = lists-read fs n m

lists_below : (net : NetParts) → WellFormed net → AllBelow (read_lists net.nets)
lists_below net formed k d i j e l =
    let lists = read_lists net.nets in
    let same : get_or lists k d ≡ row lists k = get_or_default lists k d [] i in
    let n = (get_or (get_or lists k d) j e).0 in
    let named : has_id (row lists k) n ≡ true = rw (← same) (has_id-at (get_or lists k d) j e l) in
    let low : n < length net.nets = readable_below net.nets n (reads_readable net k n formed (sym (lists-read net.nets k n) ∙ named)) in
    let long : length lists ≡ length net.nets = length-map net.nets (λ (f : Option FlatNet). table_nets (table_in f)) in
    omega arith

-- it can't be without ranks
pub not_without_ranks : (net : NetParts) → WellFormed net → (IsRanked (reads_in net.nets) → ⊥) → ⊥
not_without_ranks net formed never =
    not_unranked (read_lists net.nets) (lists_below net formed)
    (acyclic_mapped (reads_by (read_lists net.nets)) (reads_in net.nets) (λ n. n) (λ n m h. sym (lists-read net.nets n m) ∙ h) formed.acyclic)
    (λ r. never (record { rank = r.rank; falls = λ n m h. r.falls n m (lists-read net.nets n m ∙ h) }))
