-- A net that is above itself by number is on a cycle of the model.
use Rattle.std.proofs.Common.{◌≡◌, ℕ, ◌<◌, true, suc, take, drop, List, [], ◌∷◌, ◌++◌, length, map, get_or, Option, Some, None, MatchOption, refl, sym, ◌∙◌}
use Rattle.std.proofs.Common.{ap, subst, arith, All}
use Rattle.std.specs.List.{slice_get}
use Rattle.std.specs.Option.{option_map}
use Rattle.std.proofs.lemmas.List.{length-map, take-map, take-append-drop}
use Rattle.std.proofs.Math.Seq.{drop-cons}
use Rattle.std.proofs.lemmas.Option.{MatchOption-at_none, MatchOption-at_some, slice_get-map, slice_get_read, slice_get_within, same_Some}
use Rattle.mv_base.specs.Names.{among}
use Rattle.mv_base.specs.declared.number.NetId.{NetId}
use Rattle.mv_base.proofs.NameLemmas.{among-at, IsDistinct-from_differ}
use Rattle.mv_graph.specs.Nets.{has_id, row, AllBelow}
use Rattle.mv_graph.specs.Above.{IsAbove, IsAcyclic, reads_by}
use Rattle.mv_cycles.specs.Cycles.{IsTurning}
use Rattle.mv_graph.proofs.Paths.{above_mapped, acyclic_mapped}
use Rattle.mv_graph.proofs.Ranks.{IsRanked}
use Rattle.mv_design.specs.declared.design.FileModel.{FileModel}
use Rattle.mv_design.specs.Nets.{drivers}
use Rattle.mv_acyclic.specs.Sound.{reads, AreNetsOf, IsFirstOnCycle, IsDrivenOnce}
use Rattle.mv_acyclic.specs.Numbers.{number_in, net_in, numbers_in}
use Rattle.mv_acyclic.specs.Columns.{columns_by_net}
use Rattle.mv_graph.proofs.Clear.{not_unranked}
use Rattle.mv_cycles.proofs.Covered.{ListsEachReader}
use Rattle.mv_base.proofs.Lists.{all_from, mapped}
use Rattle.mv_acyclic.proofs.Listed.{IsNumber-among, name_at, has_number}
use Rattle.mv_acyclic.proofs.Entries.{entries, columns_in, columns_are, names_are, reads_are}
use Rattle.mv_acyclic.proofs.Ranking.{AreNets, reads_name, reads_number, ranked_by_name, columns_below, length_columns}
use Rattle.mv_acyclic.proofs.Commands.{read_is_net, reader_is_net}
use Rattle.mv_acyclic.proofs.Distinct.{drivers_differ, net_is_driven}

-- the nets of a model whose nets are driven once
pub are_nets : (m : FileModel) → IsDrivenOnce m → AreNets (entries m) (drivers m)
are_nets m d = record {
  named = names_are m;
  differ = IsDistinct-from_differ (drivers m) (drivers_differ m d);
  known = λ net above h. net_is_driven m above d (read_is_net m net above (sym (reads_are m net above) ∙ h));
}

-- the columns of a model by number are those of its nets
columns_same : (m : FileModel) (columns : List (List NetId)) → columns ≡ columns_by_net (drivers m) m → map (columns_in (drivers m)) (entries m) ≡ columns
columns_same m columns e = columns_are (drivers m) m ∙ sym e

pub model_below : (m : FileModel) (columns : List (List NetId)) → IsDrivenOnce m → columns ≡ columns_by_net (drivers m) m → AllBelow columns
model_below m columns d e =
    let P : List (List NetId) → Type 0 = AllBelow in
    subst P (columns_same m columns e) (columns_below (entries m) (drivers m) (are_nets m d))

pub model_length : (m : FileModel) (columns : List (List NetId)) → IsDrivenOnce m → columns ≡ columns_by_net (drivers m) m → length columns ≡ length (drivers m)
model_length m columns d e = ap length (sym (columns_same m columns e)) ∙ length_columns (entries m) (drivers m) (are_nets m d)

model_ranked : (m : FileModel) (columns : List (List NetId)) → IsDrivenOnce m → columns ≡ columns_by_net (drivers m) m → IsRanked (reads_by columns)
    → IsRanked (reads m)
model_ranked m columns d e r =
    let P : List (List NetId) → Type 0 = λ cs. IsRanked (reads_by cs) in
    ranked_by_name m (drivers m) (are_nets m d) (subst P (sym (columns_same m columns e)) r)

-- ---- the nets in their order

pub order_below : (m : FileModel) (nets : List (List ℕ)) (size : ℕ) → IsDrivenOnce m → AreNetsOf m nets → size ≡ length (drivers m)
    → All (λ (n : NetId). n.0 < size) (numbers_in (drivers m) nets)
order_below m nets size d e s =
    all_from (λ (n : NetId). n.0 < size) (numbers_in (drivers m) nets)
    (λ k n at. below k n at)
  where
    below : (k : ℕ) (n : NetId) → slice_get (numbers_in (drivers m) nets) k ≡ Some n → n.0 < size
    below k n at =
        let w = mapped (net_in (drivers m)) nets k n at in
        let i = (IsNumber-among (drivers m) w.item (net_is_driven m w.item d (sym (e.named w.item) ∙ among-at nets k w.item w.at))).within in
        let f : number_in (drivers m) w.item ≡ n.0 = ap (λ (c : NetId). c.0) w.is in
        omega arith

-- every net that has columns is among them
pub order_covers : (m : FileModel) (columns : List (List NetId)) (nets : List (List ℕ)) → IsDrivenOnce m → columns ≡ columns_by_net (drivers m) m
    → AreNetsOf m nets → ListsEachReader columns (numbers_in (drivers m) nets)
order_covers m columns nets d e f n k h =
    let b = reads_name (entries m) (drivers m) n k (are_nets m d) (ap (λ cs. has_id (row cs n) k) (columns_same m columns e) ∙ h) in
    let r = reader_is_net m b.net b.above (sym (reads_are m b.net b.above) ∙ b.reads) in
    ap (has_id (numbers_in (drivers m) nets)) (sym b.net_number) ∙ has_number (drivers m) nets b.net (f.named b.net ∙ r)

-- ---- cycles

-- the name of a net by number
abbrev pub name : FileModel → ℕ → List ℕ
name m n = get_or (drivers m) n []

reads_same : (m : FileModel) (u v w x : List ℕ) → u ≡ v → w ≡ x → reads m u w ≡ true → reads m v x ≡ true
reads_same m u v w x e f h = rw (← e, ← f) h

step_by_name : (m : FileModel) (columns : List (List NetId)) (n k : ℕ) → IsDrivenOnce m → columns ≡ columns_by_net (drivers m) m
    → has_id (row columns n) k ≡ true → reads m (name m n) (name m k) ≡ true
step_by_name m columns n k d e h =
    let b = reads_name (entries m) (drivers m) n k (are_nets m d) (ap (λ cs. has_id (row cs n) k) (columns_same m columns e) ∙ h) in
    reads_same m b.net (name m n) b.above (name m k) (sym b.net_at)
    (sym (name_at (drivers m) b.above b.above_known) ∙ ap (name m) b.above_number)
    (sym (reads_are m b.net b.above) ∙ b.reads)

-- a net that is above another by number is so by name
pub above_by_name : (m : FileModel) (columns : List (List NetId)) (above n : ℕ) → IsDrivenOnce m → columns ≡ columns_by_net (drivers m) m
    → IsAbove (reads_by columns) above n → IsAbove (reads m) (name m above) (name m n)
above_by_name m columns above n d e a = above_mapped (reads_by columns) (reads m) (name m) (λ j k h. step_by_name m columns j k d e h) above n a

-- the net at a place of the order that is above itself by number
on_cycle : (m : FileModel) (columns : List (List NetId)) (nets : List (List ℕ)) (order : List NetId) (place : ℕ) (w : List ℕ) → IsDrivenOnce m
    → columns ≡ columns_by_net (drivers m) m → AreNetsOf m nets → order ≡ numbers_in (drivers m) nets
    → IsTurning columns order place → place < length nets → w ≡ get_or nets place w → IsAbove (reads m) w w
on_cycle m columns nets order place w d e f o t lt is =
    let there = slice_get_read nets (length nets) place w refl lt is in
    let n : net_in (drivers m) w ≡ t.net = same_Some (net_in (drivers m) w) t.net (sym (ap (λ ns. slice_get ns place) o ∙ (slice_get-map (net_in (drivers m)) nets place ∙ ap (option_map (net_in (drivers m))) there)) ∙ t.at) in
    let known = net_is_driven m w d (sym (f.named w) ∙ among-at nets place w there) in
    let named : name m t.net.0 ≡ w = ap (λ (c : NetId). name m c.0) (sym n) ∙ name_at (drivers m) w known in
    let P : List ℕ → Type 0 = λ v. IsAbove (reads m) v v in
    subst P named (above_by_name m columns t.net.0 t.net.0 d e t.turns)

-- and the other way round
step_by_number : (m : FileModel) (columns : List (List NetId)) (net above : List ℕ) → IsDrivenOnce m → columns ≡ columns_by_net (drivers m) m
    → reads m net above ≡ true → has_id (row columns (number_in (drivers m) net)) (number_in (drivers m) above) ≡ true
step_by_number m columns net above d e h =
    ap (λ cs. has_id (row cs (number_in (drivers m) net)) (number_in (drivers m) above)) (sym (columns_same m columns e))
    ∙ reads_number (entries m) (drivers m) net above (are_nets m d) (reads_are m net above ∙ h)

pub above_by_number : (m : FileModel) (columns : List (List NetId)) (above net : List ℕ) → IsDrivenOnce m → columns ≡ columns_by_net (drivers m) m
    → IsAbove (reads m) above net → IsAbove (reads_by columns) (number_in (drivers m) above) (number_in (drivers m) net)
above_by_number m columns above net d e a =
    above_mapped (reads m) (reads_by columns) (number_in (drivers m)) (λ u v h. step_by_number m columns u v d e h) above net a

-- where no net is above itself by number, none is by name
pub model_acyclic : (m : FileModel) (columns : List (List NetId)) → IsDrivenOnce m → columns ≡ columns_by_net (drivers m) m → IsAcyclic (reads_by columns)
    → IsAcyclic (reads m)
model_acyclic m columns d e a = acyclic_mapped (reads m) (reads_by columns) (number_in (drivers m)) (λ u v h. step_by_number m columns u v d e h) a

-- and the other way round
numbers_acyclic : (m : FileModel) (columns : List (List NetId)) → IsDrivenOnce m → columns ≡ columns_by_net (drivers m) m → IsAcyclic (reads m)
    → IsAcyclic (reads_by columns)
numbers_acyclic m columns d e a = acyclic_mapped (reads_by columns) (reads m) (name m) (λ j k h. step_by_name m columns j k d e h) a

-- then it can't be that its nets have no ranks
pub not_unranked_model : (m : FileModel) → IsDrivenOnce m → IsAcyclic (reads m) → (IsRanked (reads m) → ⊥) → ⊥
not_unranked_model m d a never =
    let columns = columns_by_net (drivers m) m in
    not_unranked columns (model_below m columns d refl) (numbers_acyclic m columns d refl a)
    (λ r. never (model_ranked m columns d refl r))

taken_number : (names nets : List (List ℕ)) (order : List NetId) (place : ℕ) (w : List ℕ) → order ≡ numbers_in names nets → among w (take place nets) ≡ true
    → has_id (take place order) (number_in names w) ≡ true
taken_number names nets order place w o h =
    ap (λ ns. has_id (take place ns) (number_in names w)) o
    ∙ (ap (λ ns. has_id ns (number_in names w)) (take-map (net_in names) place nets) ∙ has_number names (take place nets) w h)

-- the net at the first place of the order that is above itself by number
pub first_on_cycle : (m : FileModel) (columns : List (List NetId)) (nets : List (List ℕ)) (order : List NetId) (place : ℕ) (w : List ℕ) → IsDrivenOnce m
    → columns ≡ columns_by_net (drivers m) m → AreNetsOf m nets → order ≡ numbers_in (drivers m) nets
    → IsTurning columns order place → place < length nets → w ≡ get_or nets place w → IsFirstOnCycle nets m w
first_on_cycle m columns nets order place w d e f o t lt is = record {
  cycle = on_cycle m columns nets order place w d e f o t lt is;
  before = take place nets;
  after = drop (suc place) nets;
  place = sym (take-append-drop place nets) ∙ ap (λ ws. take place nets ++ ws) (drop-cons nets place w lt ∙ ap (λ u. u ∷ drop (suc place) nets) (sym is));
  least = λ u h c. t.first.none (number_in (drivers m) u) (taken_number (drivers m) nets order place u o h) (above_by_number m columns u u d e c);
}

-- a place of the order is one of the nets
pub place_below : (names nets : List (List ℕ)) (columns : List (List NetId)) (order : List NetId) (place : ℕ) → order ≡ numbers_in names nets
    → IsTurning columns order place → place < length nets
place_below names nets columns order place o t =
    let l = slice_get_within order place t.net t.at in
    let s = ap length o ∙ length-map nets (net_in names) in
    omega arith

-- the numbers as they are listed and read
pub order_is : (names drivers nets : List (List ℕ)) (order read : List NetId) → names ≡ drivers → order ≡ numbers_in names nets → read ≡ order
    → read ≡ numbers_in drivers nets
order_is names drivers nets order read e f g = g ∙ (f ∙ ap (λ ns. numbers_in ns nets) e)

pub columns_read : (m : FileModel) (names : List (List ℕ)) (columns read : List (List NetId)) → names ≡ drivers m → columns ≡ columns_by_net names m
    → read ≡ columns → read ≡ columns_by_net (drivers m) m
columns_read m names columns read e f g = g ∙ (f ∙ ap (λ ns. columns_by_net ns m) e)

-- columns that are sorted are those of a model without cycles
pub sorted_acyclic : (m : FileModel) (names : List (List ℕ)) (columns read : List (List NetId)) (o : Option (List NetId)) (order : List NetId)
    → IsDrivenOnce m → names ≡ drivers m → columns ≡ columns_by_net names m → read ≡ columns → o ≡ Some order
    → MatchOption o (IsAcyclic (reads_by read) → ⊥) (λ _. IsAcyclic (reads_by read)) → IsAcyclic (reads m)
sorted_acyclic m names columns read o order d e f g is a =
    model_acyclic m read d (columns_read m names columns read e f g)
    (MatchOption-at_some (IsAcyclic (reads_by read) → ⊥) (λ _. IsAcyclic (reads_by read)) order is a)

-- and those that aren't, of one with a cycle
pub unsorted_cyclic : (m : FileModel) (names : List (List ℕ)) (columns read : List (List NetId)) (o : Option (List NetId)) → IsDrivenOnce m
    → names ≡ drivers m → columns ≡ columns_by_net names m → read ≡ columns → o ≡ None
    → MatchOption o (IsAcyclic (reads_by read) → ⊥) (λ _. IsAcyclic (reads_by read)) → IsAcyclic (reads m) → ⊥
unsorted_cyclic m names columns read o d e f g is a acyclic =
    MatchOption-at_none (IsAcyclic (reads_by read) → ⊥) (λ _. IsAcyclic (reads_by read)) is a
    (numbers_acyclic m read d (columns_read m names columns read e f g) acyclic)
