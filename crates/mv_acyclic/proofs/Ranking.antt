-- Ranks of the nets by name and by number.
use Rattle.std.proofs.Common.{◌≡◌, ℕ, ◌<◌, ◌≤◌, true, List, [], length, get_or, Some, refl, sym, ◌∙◌, ap, arith, ⊎_elim, All, map}
use Rattle.std.specs.Prelude.{nat_eq}
use Rattle.std.specs.List.{list_any, slice_get}
use Rattle.std.specs.Option.{option_map}
use Rattle.std.proofs.lemmas.Bool.{false≢true, and_parts, and_from, cases_lt, eq-eqb}
use Rattle.std.proofs.lemmas.List.{length-map, get_or_past}
use Rattle.std.proofs.lemmas.Option.{slice_get-map, get_or_from_slice_get, slice_get-get_or}
use Rattle.std.proofs.lemmas.Map.Keys.{any_passes_from_place}
use Rattle.mv_base.specs.Names.{same_word, among, IsDistinct}
use Rattle.mv_base.specs.declared.number.NetId.{NetId}
use Rattle.mv_base.proofs.NameLemmas.{same_word_is, same_word_refl}
use Rattle.mv_graph.specs.Nets.{has_id, row, AllBelow}
use Rattle.mv_graph.specs.Above.{reads_by}
use Rattle.mv_graph.proofs.Ranks.{IsRanked}
use Rattle.mv_design.specs.declared.design.FileModel.{FileModel}
use Rattle.mv_acyclic.specs.Numbers.{number_in}
use Rattle.mv_acyclic.specs.Sound.{reads}
use Rattle.mv_acyclic.proofs.Entries.{Entry, name_of, columns_in, entry_reads, entries, reads_are}
use Rattle.mv_base.proofs.Lists.{found, all_from}
use Rattle.mv_acyclic.proofs.Listed.{IsNumber-among, number_at, has_number, numbered_by}

-- nets by number with different names, of which each column is one
pub record AreNets (es : List Entry) (names : List (List ℕ)) : Type 0 where
  pub named : map name_of es ≡ names
  pub differ : IsDistinct names
  pub known : (net above : List ℕ) → list_any (entry_reads net above) es ≡ true → among above names ≡ true

abbrev columns_of : List Entry → List (List ℕ) → List (List NetId)
columns_of es names = map (columns_in names) es

pub length_columns : (es : List Entry) (names : List (List ℕ)) → AreNets es names → length (columns_of es names) ≡ length names
length_columns es names a = length-map es (columns_in names) ∙ (sym (length-map es name_of) ∙ ap length a.named)

name_listed : (es : List Entry) (names : List (List ℕ)) (k : ℕ) (e : Entry) → AreNets es names → slice_get es k ≡ Some e → slice_get names k ≡ Some e.name
name_listed es names k e a h = ap (λ ns. slice_get ns k) (sym a.named) ∙ (slice_get-map name_of es k ∙ ap (option_map name_of) h)

row_at : (es : List Entry) (names : List (List ℕ)) (k : ℕ) (e : Entry) → slice_get es k ≡ Some e → row (columns_of es names) k ≡ columns_in names e
row_at es names k e h =
    get_or_from_slice_get (columns_of es names) k (columns_in names e) []
    (slice_get-map (columns_in names) es k ∙ ap (option_map (columns_in names)) h)

-- a column by name is one by number
pub reads_number : (es : List Entry) (names : List (List ℕ)) (net above : List ℕ) → AreNets es names → list_any (entry_reads net above) es ≡ true
    → has_id (row (columns_of es names) (number_in names net)) (number_in names above) ≡ true
reads_number es names net above a h =
    let f = found (entry_reads net above) es h in
    let p = and_parts (same_word net f.item.name) (among above f.item.above) f.passes in
    let n : number_in names net ≡ f.place = number_at names f.place net a.differ (name_listed es names f.place f.item a f.at ∙ ap Some (sym (same_word_is net f.item.name p.0))) in
    ap (λ k. has_id (row (columns_of es names) k) (number_in names above)) n
    ∙ (ap (λ r. has_id r (number_in names above)) (row_at es names f.place f.item f.at) ∙ has_number names f.item.above above p.1)

-- a column by number
pub record ReadsName (es : List Entry) (names : List (List ℕ)) (n m : ℕ) : Type 0 where
  pub net : List ℕ
  pub above : List ℕ
  pub net_at : get_or names n [] ≡ net
  pub net_number : number_in names net ≡ n
  pub above_number : number_in names above ≡ m
  pub above_known : among above names ≡ true
  pub reads : list_any (entry_reads net above) es ≡ true

reads_at : (es : List Entry) (names : List (List ℕ)) (n m : ℕ) (e : Entry) → AreNets es names → slice_get es n ≡ Some e → has_id (columns_in names e) m ≡ true
    → ReadsName es names n m
reads_at es names n m e a at h =
    let b = numbered_by names e.above m h in
    let r : list_any (entry_reads e.name b.name) es ≡ true = any_passes_from_place (entry_reads e.name b.name) es n e at (and_from _ _ (same_word_refl e.name) b.among_them) in
    let l = name_listed es names n e a at in
    record {
      net = e.name;
      above = b.name;
      net_at = get_or_from_slice_get names n e.name [] l;
      net_number = number_at names n e.name a.differ l;
      above_number = b.number;
      above_known = a.known e.name b.name r;
      reads = r;
    }

no_entry : Entry
no_entry = record { name = []; above = [] }

-- it is one by name
pub reads_name : (es : List Entry) (names : List (List ℕ)) (n m : ℕ) → AreNets es names → has_id (row (columns_of es names) n) m ≡ true → ReadsName es names n m
reads_name es names n m a h =
    ⊎_elim
    (λ (low : n < length es).
    let at = slice_get-get_or es n no_entry low in
    reads_at es names n m (get_or es n no_entry) a at (ap (λ r. has_id r m) (sym (row_at es names n (get_or es n no_entry) at)) ∙ h))
    (λ (high : length es ≤ n).
    let l = length-map es (columns_in names) in
    absurd (false≢true (ap (λ r. has_id r m) (sym (get_or_past (columns_of es names) n [] (omega arith))) ∙ h)))
    (cases_lt n (length es))

-- ranks by number are ranks by name
pub ranked_by_name : (m : FileModel) (names : List (List ℕ)) → AreNets (entries m) names → IsRanked (reads_by (columns_of (entries m) names))
    → IsRanked (reads m)
ranked_by_name m names a r = record {
  rank = λ net. r.rank (number_in names net);
  falls = λ net above h. r.falls (number_in names net) (number_in names above) (reads_number (entries m) names net above a (reads_are m net above ∙ h));
}

-- each column is one of the nets
pub columns_below : (es : List Entry) (names : List (List ℕ)) → AreNets es names → AllBelow (columns_of es names)
columns_below es names a =
    all_from (λ ns. All (λ (c : NetId). c.0 < length (columns_of es names)) ns) (columns_of es names)
    (λ k ns at. all_from (λ (c : NetId). c.0 < length (columns_of es names)) ns (λ j c there. below k ns at j c there))
  where
    below : (k : ℕ) (ns : List NetId) → slice_get (columns_of es names) k ≡ Some ns → (j : ℕ) (c : NetId) → slice_get ns j ≡ Some c
        → c.0 < length (columns_of es names)
    below k ns at j c there =
        let r : row (columns_of es names) k ≡ ns = get_or_from_slice_get (columns_of es names) k ns [] at in
        let b = reads_name es names k c.0 a (ap (λ x. has_id x c.0) r ∙ any_passes_from_place (λ (x : NetId). nat_eq x.0 c.0) ns j c there (eq-eqb c.0 c.0 refl)) in
        let w = (IsNumber-among names b.above b.above_known).within in
        let l = length_columns es names a in
        let e = b.above_number in
        omega arith
