-- The change by which values of a net are merged gives the network behind the merge.
use Rattle.std.proofs.Common.{◌≡◌, ◌∙◌, ℕ, ◌+◌, ◌<◌, true, false, cond, ◌||◌, not, nat_eq, List, [], ◌∷◌, ◌++◌, length, map, take, get_or, Option, Some, None, IsTrue, is_some, All, refl, sym, ap, subst, ⊎_elim, eqb-true, eq-eqb, append_assoc, arith}
use Rattle.std.proofs.lemmas.Bool.{cases_Bool, cases_eq, cond-true, false≢true, or_left, or_right, or_cases, and_from, ne_eqb}
use Rattle.std.proofs.lemmas.List.{get_or_past, get_or-set_same, get_or-set_other, length-set, length-map, map-append, take_more}
use Rattle.std.proofs.lemmas.List.Elements.{All-nil, All-cons}
use Rattle.mv_base.specs.declared.number.NetId.{NetId}
use Rattle.mv_base.specs.declared.number.Value.{Value}
use Rattle.mv_cover.specs.declared.cover.Cover.{Cover}
use Rattle.mv_cover.specs.Covers.{cover_reads}
use Rattle.mv_graph.specs.Nets.{has_id, all_differ, IsAscending}
use Rattle.mv_meaning.specs.Rewriting.{rewired, rewired_table, rewritten}
use Rattle.mv_meaning.proofs.Changing.{changed-is}
use Rattle.mv_meaning.proofs.Rewired.{slot-rewritten, slot-unread, itself_unread}
use Rattle.mv_net.specs.declared.change.Change.{Change}
use Rattle.mv_net.specs.declared.change.NewCount.{NewCount}
use Rattle.mv_net.specs.declared.change.NewTable.{NewTable}
use Rattle.mv_net.specs.declared.parts.FlatNet.{FlatNet}
use Rattle.mv_net.specs.declared.parts.NetParts.{NetParts}
use Rattle.mv_net.specs.Changes.{table_for, count_for, with_table, with_count, changed_net, changed, AreHeldOnce, Fits}
use Rattle.mv_net.specs.Formed.{WellFormed}
use Rattle.mv_net.specs.Index.{is_held}
use Rattle.mv_net.specs.Nets.{slot, values_in, table_in, table_reads, net_reads, reads_in}
use Rattle.mv_net.proofs.HeldOrder.{ascending_differ}
use Rattle.mv_net.proofs.Known.{values_some}
use Rattle.mv_merging.specs.declared.merging.Merging.{Merging}
use Rattle.mv_merging.specs.Changes.{table_or_none, reader_table, own_table, AreMerged}
use Rattle.mv_merging.specs.Nets.{table_merged, net_merged, nets_merged, merging_at, net_behind}
use Rattle.mv_merging.specs.Tables.{own_merged, reader_merged}

-- ---- the tables that are given

-- a reader of the list gets its table, and no other net one
module _ (m : Merging) (n : NetId) (nets : List (Option FlatNet)) where
  abbrev made_for : ℕ → Cover
  made_for k = reader_merged m n.0 (table_or_none (table_in (slot nets k)))

  table_listed : (list : List NetId) (k : ℕ) → table_for k (map (reader_table m n nets) list) ≡ cond (has_id list k) (Some (made_for k)) None
  table_listed [] k = refl
  table_listed (j ∷ js) k =
      ⊎_elim
      (λ (t : nat_eq j.0 k ≡ true).
      let same = eqb-true j.0 k t in
      ap (λ b. cond b (Some (made_for j.0)) (table_for k (map (reader_table m n nets) js))) t
      ∙ (ap (λ i. Some (made_for i)) same ∙ sym (ap (λ b. cond (b || has_id js k) (Some (made_for k)) None) t)))
      (λ (f : nat_eq j.0 k ≡ false).
      ap (λ b. cond b (Some (made_for j.0)) (table_for k (map (reader_table m n nets) js))) f
      ∙ (table_listed js k ∙ sym (ap (λ b. cond (b || has_id js k) (Some (made_for k)) None) f)))
      (cases_Bool (nat_eq j.0 k))

-- each net of the list has a table, where it reads n
pub readers_tabled : (nets : List (Option FlatNet)) (n : ℕ) (list : List NetId) → IsAscending (λ k. net_reads (slot nets k) n) list → All (λ (k : NetId). is_some (table_in (slot nets k.0)) ≡ true) list
readers_tabled nets n list is = each list (λ k h. by_table (table_in (slot nets k)) (sym (is.members k) ∙ h))
  where
    by_table : (t : Option Cover) → table_reads t n ≡ true → is_some t ≡ true
    by_table None h = absurd (false≢true h)
    by_table (Some c) h = refl

    each : (ks : List NetId) → ((k : ℕ) → has_id ks k ≡ true → is_some (table_in (slot nets k)) ≡ true) → All (λ (k : NetId). is_some (table_in (slot nets k.0)) ≡ true) ks
    each [] all = All-nil (λ (k : NetId). is_some (table_in (slot nets k.0)) ≡ true)
    each (k ∷ ks) all =
        All-cons (λ (j : NetId). is_some (table_in (slot nets j.0)) ≡ true) k ks (all k.0 (or_left (nat_eq k.0 k.0) (has_id ks k.0) (eq-eqb k.0 k.0 refl)))
        (each ks (λ j h. all j (or_right (nat_eq k.0 j) (has_id ks j) h)))

-- ---- the network

module _ (net : NetParts) (n : NetId) (gone : Value) (into : Option Value) (set : List NewTable) (formed : WellFormed net) (some : is_some (table_in (slot net.nets n.0)) ≡ true) (are : AreMerged net.nets (merging_at net.nets n.0 gone into) n set) where
  abbrev m : Merging
  m = merging_at net.nets n.0 gone into

  abbrev change : Change
  change = record { add = []; set = set; values = record { net = n; values = m.left } ∷ []; gone = [] }

  abbrev new_own : Cover
  new_own = (own_table m n net.nets).table

  abbrev middle : List (Option FlatNet)
  middle = rewritten (reader_merged m n.0) n.0 net.nets

  abbrev after : List (Option FlatNet)
  after = nets_merged m n.0 net.nets

  long_middle : length middle ≡ length net.nets
  unfolding rewritten
  long_middle = length-map net.nets (rewired (reader_merged m n.0) n.0)

  long : length after ≡ length net.nets
  unfolding nets_merged
  long = length-set middle n.0 (net_merged m (slot net.nets n.0)) ∙ long_middle

  -- the table that each net gets
  table_given : (k : ℕ) → table_for k set ≡ cond (nat_eq n.0 k) (Some new_own) (cond (reads_in net.nets k n.0) (Some (made_for m n net.nets k)) None)
  table_given k =
      ap (table_for k) are.tables
      ∙ ap (cond (nat_eq n.0 k) (Some new_own)) (table_listed m n net.nets are.readers k ∙ ap (λ b. cond b (Some (made_for m n net.nets k)) None) (are.ascending.members k))

  -- the net itself
  own_net : (f : FlatNet) → slot net.nets n.0 ≡ Some f → is_some f.table ≡ true → net_merged m (Some f) ≡ changed_net change n.0 (Some f)
  own_net f held tabled = by_table f.table refl tabled
    where
      same : nat_eq n.0 n.0 ≡ true
      same = eq-eqb n.0 n.0 refl

      count : count_for n.0 change.values ≡ Some m.left
      count = ap (λ b. cond b (Some m.left) None) same

      given : table_for n.0 set ≡ Some new_own
      given = table_given n.0 ∙ ap (λ b. cond b (Some new_own) (cond (reads_in net.nets n.0 n.0) (Some (made_for m n net.nets n.0)) None)) same

      by_table : (t : Option Cover) → f.table ≡ t → is_some t ≡ true → net_merged m (Some f) ≡ changed_net change n.0 (Some f)
      by_table None e h = absurd (false≢true h)
      by_table (Some c) e h =
          let merged : new_own ≡ own_merged m c = ap (λ o. own_merged m (table_or_none (table_in o))) held ∙ ap (λ t. own_merged m (table_or_none t)) e in
          ap (λ t. Some (record f { values = m.left; value_names = []; table = t })) (ap (table_merged m) e ∙ ap (λ d. Some d) (sym merged))
          ∙ (λ i. Some (with_count (sym count i) (with_table (sym given i) f)))

  -- any other
  other_net : (k : ℕ) → (k ≡ n.0 → ⊥) → (f : FlatNet) → slot net.nets k ≡ Some f → slot middle k ≡ changed_net change k (Some f)
  other_net k ne f held =
      ⊎_elim
      (λ (reads : reads_in net.nets k n.0 ≡ true).
      let given : table_for k set ≡ Some (made_for m n net.nets k) = given_other ∙ ap (λ b. cond b (Some (made_for m n net.nets k)) None) reads in
      slot-rewritten (reader_merged m n.0) n.0 net.nets k
      ∙ (ap (rewired (reader_merged m n.0) n.0) held
      ∙ (reader_net f.table refl (sym (ap (λ o. net_reads o n.0) held) ∙ reads)
      ∙ (λ i. Some (with_count (sym none i) (with_table (sym given i) f))))))
      (λ (unread : reads_in net.nets k n.0 ≡ false).
      let given : table_for k set ≡ None = given_other ∙ ap (λ b. cond b (Some (made_for m n net.nets k)) None) unread in
      slot-unread (reader_merged m n.0) n.0 net.nets k unread ∙ (held ∙ (λ i. Some (with_count (sym none i) (with_table (sym given i) f)))))
      (cases_Bool (reads_in net.nets k n.0))
    where
      apart : nat_eq n.0 k ≡ false
      apart = ne_eqb n.0 k (λ e. ne (sym e))

      given_other : table_for k set ≡ cond (reads_in net.nets k n.0) (Some (made_for m n net.nets k)) None
      given_other = table_given k ∙ ap (λ b. cond b (Some new_own) (cond (reads_in net.nets k n.0) (Some (made_for m n net.nets k)) None)) apart

      none : count_for k change.values ≡ None
      none = ap (λ b. cond b (Some m.left) None) apart

      reader_net : (t : Option Cover) → f.table ≡ t → table_reads t n.0 ≡ true → rewired (reader_merged m n.0) n.0 (Some f) ≡ Some (record f { table = Some (made_for m n net.nets k) })
      reader_net None e h = absurd (false≢true h)
      reader_net (Some c) e h =
          let old : table_in (slot net.nets k) ≡ Some c = ap table_in held ∙ e in
          ap (λ t. Some (record f { table = rewired_table (reader_merged m n.0) n.0 t })) e
          ∙ (ap (λ d. Some (record f { table = Some d })) (cond-true (cover_reads c n.0) (reader_merged m n.0 c) c h)
          ∙ ap (λ t. Some (record f { table = Some (reader_merged m n.0 (table_or_none t)) })) (sym old))

  slot_changed : (k : ℕ) → k < length net.nets → slot after k ≡ changed_net change k (slot net.nets k)
  unfolding nets_merged
  slot_changed k low =
      ⊎_elim
      (λ (e : k ≡ n.0).
      let P : ℕ → Type 0 = λ j. j < length net.nets → slot after j ≡ changed_net change j (slot net.nets j) in
      subst P (sym e)
      (λ under. get_or-set_same middle n.0 (net_merged m (slot net.nets n.0)) None (subst (λ j. n.0 < j) (sym long_middle) under) ∙ here (slot net.nets n.0) refl some)
      low)
      (λ (ne : k ≡ n.0 → ⊥). get_or-set_other middle n.0 k (net_merged m (slot net.nets n.0)) None ne ∙ there ne (slot net.nets k) refl)
      (cases_eq k n.0)
    where
      here : (o : Option FlatNet) → slot net.nets n.0 ≡ o → is_some (table_in o) ≡ true → net_merged m o ≡ changed_net change n.0 o
      here None held h = refl
      here (Some f) held h = own_net f held h

      there : (k ≡ n.0 → ⊥) → (o : Option FlatNet) → slot net.nets k ≡ o → slot middle k ≡ changed_net change k o
      there ne None held = slot-rewritten (reader_merged m n.0) n.0 net.nets k ∙ ap (rewired (reader_merged m n.0) n.0) held
      there ne (Some f) held = other_net k ne f held

  pub changed_behind : changed net change ≡ net_behind net n.0 gone into
  unfolding net_behind
  changed_behind =
      changed-is net change after (long ∙ omega arith) slot_changed (λ i. get_or_past after (length net.nets + i) None (omega (arith, long)))

-- ---- a net with a table

-- it is held
pub held_tabled : (nets : List (Option FlatNet)) (n : ℕ) → is_some (table_in (slot nets n)) ≡ true → IsTrue (is_held nets n)
held_tabled nets n h = by_slot (slot nets n) h
  where
    by_slot : (o : Option FlatNet) → is_some (table_in o) ≡ true → is_some o ≡ true
    by_slot None h = absurd (false≢true h)
    by_slot (Some f) h = refl

-- so it has some values
pub some_values : (net : NetParts) (n : ℕ) → WellFormed net → is_some (table_in (slot net.nets n)) ≡ true → 0 < values_in (slot net.nets n)
some_values net n formed h = values_some net n formed (held_tabled net.nets n h)

-- ---- it fits

-- the nets of the new tables are the listed ones
nets_listed : (m : Merging) (n : NetId) (nets : List (Option FlatNet)) (list : List NetId) → map (λ (t : NewTable). t.net) (map (reader_table m n nets) list) ≡ list
nets_listed m n nets [] = refl
nets_listed m n nets (k ∷ ks) = ap (λ ns. k ∷ ns) (nets_listed m n nets ks)

-- the list has its first net or one of the rest
listed_first : (P : ℕ → Type 0) (n : NetId) (ns : List NetId) (k : ℕ) → P n.0 → (has_id ns k ≡ true → P k) → has_id (n ∷ ns) k ≡ true → P k
listed_first P n ns k here rest h =
    ⊎_elim (λ (y : nat_eq n.0 k ≡ true). subst P (eqb-true n.0 k y) here) (λ (r : has_id ns k ≡ true). rest r) (or_cases (nat_eq n.0 k) (has_id ns k) h)

reader_held : (nets : List (Option FlatNet)) (n k : ℕ) → reads_in nets k n ≡ true → IsTrue (is_held nets k)
reader_held nets n k h = by_slot (slot nets k) h
  where
    by_slot : (o : Option FlatNet) → net_reads o n ≡ true → is_some o ≡ true
    by_slot None h = absurd (false≢true h)
    by_slot (Some f) h = refl

merge_fits : (net : NetParts) (n : NetId) (m : Merging) (set : List NewTable) → WellFormed net → is_some (table_in (slot net.nets n.0)) ≡ true → AreMerged net.nets m n set
    → Fits net (record { add = []; set = set; values = record { net = n; values = m.left } ∷ []; gone = [] })
merge_fits net n m set formed some are =
    let listed : map (λ (t : NewTable). t.net) set ≡ n ∷ are.readers = ap (map (λ (t : NewTable). t.net)) are.tables ∙ ap (λ ns. n ∷ ns) (nets_listed m n net.nets are.readers) in
    let own : IsTrue (is_held net.nets n.0) = held_tabled net.nets n.0 some in
    let Held : ℕ → Type 0 = λ k. IsTrue (is_held net.nets k) in
    record {
      set = subst (AreHeldOnce net.nets) (sym listed) (record {
        held = λ k h. listed_first Held n are.readers k own (λ r. reader_held net.nets n.0 k (sym (are.ascending.members k) ∙ r)) h;
        once = and_from (not (has_id are.readers n.0)) (all_differ are.readers) (ap not (are.ascending.members n.0 ∙ itself_unread net n.0 formed)) (ascending_differ are.readers are.ascending.ascending);
      });
      values = record { held = λ k h. listed_first Held n [] k own (λ r. absurd (false≢true r)) h; once = refl };
      gone = record { held = λ k h. absurd (false≢true h); once = refl };
      apart = λ k h. absurd (false≢true h);
      names = λ k j w h g. let bad : None ≡ Some h.net = h.held in absurd cc;
    }

-- ---- what the code makes

-- such a change, of tables and counts of that kind
module _ (net : NetParts) (n : NetId) (gone : Value) (into : Option Value) (m : Merging) (set : List NewTable) (values : List NewCount) (made : Change) (formed : WellFormed net) (some : is_some (table_in (slot net.nets n.0)) ≡ true) (is : m ≡ merging_at net.nets n.0 gone into) (are : AreMerged net.nets m n set) (counts : values ≡ record { net = n; values = m.left } ∷ []) (e : made ≡ record { add = []; set = set; values = values; gone = [] }) where
  made_is : made ≡ record { add = []; set = set; values = record { net = n; values = m.left } ∷ []; gone = [] }
  made_is = e ∙ (λ i. record { add = []; set = set; values = counts i; gone = [] })

  pub change_makes : changed net made ≡ net_behind net n.0 gone into
  change_makes =
      ap (changed net) (made_is ∙ ap (λ (k : Merging). record { add = []; set = set; values = record { net = n; values = k.left } ∷ []; gone = [] }) is)
      ∙ changed_behind net n gone into set formed some (subst (λ (k : Merging). AreMerged net.nets k n set) is are)

  pub change_fits : Fits net made
  change_fits = subst (Fits net) (sym made_is) (merge_fits net n m set formed some are)

-- one reader more, behind the tables that were there
pub reader_more : (m : Merging) (n : NetId) (nets : List (Option FlatNet)) (readers : List NetId) (i : ℕ) (d : NetId) (old new : Cover) (first made more : List NewTable) → i < length readers → table_in (slot nets (get_or readers i d).0) ≡ Some old
    → new ≡ reader_merged m n.0 old → made ≡ first ++ map (reader_table m n nets) (take i readers) → more ≡ made ++ record { net = get_or readers i d; table = new } ∷ []
    → more ≡ first ++ map (reader_table m n nets) (take (i + 1) readers)
reader_more m n nets readers i d old new first made more low table same e put =
    put
    ∙ ((λ k. e k ++ record { net = get_or readers i d; table = (same ∙ ap (λ t. reader_merged m n.0 (table_or_none t)) (sym table)) k } ∷ [])
    ∙ (append_assoc first (map (reader_table m n nets) (take i readers)) (record { net = get_or readers i d; table = reader_merged m n.0 (table_or_none (table_in (slot nets (get_or readers i d).0))) } ∷ [])
    ∙ ap (λ l. first ++ l)
    (sym (map-append (reader_table m n nets) (take i readers) (get_or readers i d ∷ [])) ∙ ap (map (reader_table m n nets)) (sym (take_more readers i d low)))))

-- the net's own, and all readers behind it
pub all_merged : (m : Merging) (n : NetId) (nets : List (Option FlatNet)) (readers : List NetId) (own new : Cover) (none first all : List NewTable) → IsAscending (λ k. net_reads (slot nets k) n.0) readers → table_in (slot nets n.0) ≡ Some own
    → new ≡ own_merged m own → none ≡ [] → first ≡ none ++ record { net = n; table = new } ∷ [] → all ≡ first ++ map (reader_table m n nets) readers → AreMerged nets m n all
all_merged m n nets readers own new none first all is table same nothing one put = record {
  readers = readers;
  ascending = is;
  tables =
      put
      ∙ (λ k. (one ∙ (λ j. nothing j ++ record { net = n; table = (same ∙ ap (λ t. own_merged m (table_or_none t)) (sym table)) j } ∷ [])) k ++ map (reader_table m n nets) readers);
}
