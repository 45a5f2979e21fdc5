-- The change by which the values of a net are encoded gives the network behind the encoding.
use Rattle.std.proofs.Common.{◌≡◌, ◌∙◌, ℕ, zero, suc, ◌+◌, ◌<◌, ◌≤◌, true, false, nat_eq, List, [], ◌∷◌, ◌++◌, length, map, take, get_or, set, Option, Some, None, IsTrue, is_some, refl, sym, ap, subst, ⊎_elim, eqb-true, append-nil, arith}
use Rattle.std.proofs.lemmas.Bool.{false≢true, or_cases, or_left, or_right}
use Rattle.std.proofs.lemmas.List.{length-take-le, take_more}
use Rattle.mv_base.specs.Names.{same_word, among}
use Rattle.mv_base.specs.declared.limits.TheConstants.{MAX_VALUES}
use Rattle.mv_base.specs.declared.number.NetId.{NetId}
use Rattle.mv_base.proofs.NameLemmas.{same_word_refl}
use Rattle.mv_codes.specs.Codes.{AreCodes, bits_in}
use Rattle.mv_codes.specs.Tables.{coding_of, reader_coded, bit_table}
use Rattle.mv_codes.specs.declared.coding.Coding.{Coding}
use Rattle.mv_cover.specs.declared.cover.Cover.{Cover}
use Rattle.mv_cover.specs.declared.stop.CoverStop.{CoverStop}
use Rattle.mv_entry.specs.declared.rule.Code.{Code}
use Rattle.mv_graph.specs.Nets.{has_id}
use Rattle.mv_meaning.specs.Rewriting.{rewritten}
use Rattle.mv_meaning.proofs.Changing.{changed-collapsed}
use Rattle.mv_meaning.proofs.Rewired.{itself_unread, reader_reads}
use Rattle.mv_net.specs.declared.change.Change.{Change}
use Rattle.mv_net.specs.declared.change.NewNet.{NewNet}
use Rattle.mv_net.specs.declared.change.NewTable.{NewTable}
use Rattle.mv_net.specs.declared.parts.FlatNet.{FlatNet}
use Rattle.mv_net.specs.declared.parts.NetParts.{NetParts}
use Rattle.mv_net.specs.Changes.{made_net, changed_net, changed_from, changed, with_nets, Fits}
use Rattle.mv_net.specs.Formed.{WellFormed}
use Rattle.mv_net.specs.Index.{is_held, HasName}
use Rattle.mv_net.specs.Nets.{slot, values_in, table_in, reads_in}
use Rattle.mv_net.proofs.Fitting.{fits_gone}
use Rattle.mv_net.proofs.Known.{values_few}
use Rattle.mv_coding.specs.Changes.{AreNarrow}
use Rattle.mv_coding.specs.Nets.{bit_net, bit_nets_from, bit_nets, nets_coded, net_coded, AreFresh, HasNarrowReaders}
use Rattle.mv_readers.specs.Readers.{AreRewritten}
use Rattle.mv_coding.proofs.CodeValues.{bits_of}
use Rattle.mv_coding.proofs.Coded.{bits_long}
use Rattle.mv_coding.proofs.Coming.{came}
use Rattle.mv_readers.proofs.Readers.{fits_tables, sets_readers, tabled_held}

-- ---- the network

-- the change by which readers get tables, nets come, and the net goes
abbrev pub coding_by : NetId → List NewNet → List NewTable → Change
coding_by n add set = record { add = add; set = set; values = []; gone = n ∷ [] }

-- what it makes of the nets that were there doesn't hang on those that come
old_nets : (n : NetId) (add : List NewNet) (set : List NewTable) (k : ℕ) (nets : List (Option FlatNet)) → changed_from (coding_by n add set) k nets ≡ changed_from (coding_by n [] set) k nets
old_nets n add set k [] = refl
old_nets n add set k (None ∷ fs) = ap (λ l. None ∷ l) (old_nets n add set (k + 1) fs)
old_nets n add set k (Some f ∷ fs) = ap (λ l. changed_net (coding_by n [] set) k (Some f) ∷ l) (old_nets n add set (k + 1) fs)

pub changed_coded : (net : NetParts) (n : NetId) (names : List (List ℕ)) (codes : List Code) (set : List NewTable)
    → AreRewritten net.nets (reader_coded (coding_of n.0 (length net.nets) codes)) n.0 set
    → changed net (coding_by n (bit_nets codes (table_in (slot net.nets n.0)) names) set) ≡ net_coded net n.0 names codes
unfolding changed with_nets net_coded nets_coded
changed_coded net n names codes tables are =
    let new = reader_coded (coding_of n.0 (length net.nets) codes) in
    let add = bit_nets codes (table_in (slot net.nets n.0)) names in
    let gone : changed_from (coding_by n [] tables) 0 net.nets ++ [] ≡ set (rewritten new n.0 net.nets) n.0 None =
    ap (λ (p : NetParts). p.nets) (changed-collapsed net n new tables (sets_readers net.nets new n.0 tables are)) in
    let left : changed_from (coding_by n add tables) 0 net.nets ≡ set (rewritten new n.0 net.nets) n.0 None =
    old_nets n add tables 0 net.nets ∙ (sym (append-nil (changed_from (coding_by n [] tables) 0 net.nets)) ∙ gone) in
    λ i. record net { nets = left i ++ map made_net add }

-- ---- it fits

-- the nets that come have the names
named_so : (codes : List Code) (c : Cover) (k : ℕ) (names : List (List ℕ)) (i : ℕ) (w : List ℕ) → HasName (map made_net (bit_nets_from codes c k names)) i w → among w names ≡ true
named_so codes c k [] i w has = let bad : None ≡ Some has.net = has.held in cc
named_so codes c k (v ∷ vs) zero w has =
    let same : came (bit_net codes c k v) ≡ has.net = cc in
    let named : v ≡ w = ap (λ (f : FlatNet). f.name) same ∙ has.is in
    or_left (same_word w v) (among w vs) (ap (same_word w) named ∙ same_word_refl w)
named_so codes c k (v ∷ vs) (suc i) w has =
    or_right (same_word w v) (among w vs) (named_so codes c (k + 1) vs i w (record { net = has.net; held = has.held; is = has.is }))

coming_named : (codes : List Code) (t : Option Cover) (names : List (List ℕ)) (i : ℕ) (w : List ℕ) → HasName (map made_net (bit_nets codes t names)) i w → among w names ≡ true
coming_named codes None names i w has = let bad : None ≡ Some has.net = has.held in cc
coming_named codes (Some c) names i w has = named_so codes c 0 names i w has

pub coded_fits : (net : NetParts) (n : NetId) (names : List (List ℕ)) (codes : List Code) (new : Cover → Cover) (set : List NewTable) → WellFormed net → is_some (table_in (slot net.nets n.0)) ≡ true
    → AreFresh net.nets names → AreRewritten net.nets new n.0 set → Fits net (coding_by n (bit_nets codes (table_in (slot net.nets n.0)) names) set)
coded_fits net n names codes new set formed table fresh are =
    let f = fits_tables net new n.0 set (n ∷ []) are (fits_gone net n (tabled_held net.nets n.0 table)).gone unread in
    record {
      set = f.set;
      values = f.values;
      gone = f.gone;
      apart = f.apart;
      names = λ i m w comes held. fresh.free w m (coming_named codes (table_in (slot net.nets n.0)) names i w comes) held;
    }
  where
    unread : (m : ℕ) → has_id (n ∷ []) m ≡ true → reads_in net.nets m n.0 ≡ false
    unread m h =
        ⊎_elim
        (λ (y : nat_eq n.0 m ≡ true). subst (λ k. reads_in net.nets k n.0 ≡ false) (eqb-true n.0 m y) (itself_unread net n.0 formed))
        (λ (bad : false ≡ true). absurd (false≢true bad))
        (or_cases (nat_eq n.0 m) false h)

-- a net for each name
pub coming_long : (codes : List Code) (t : Option Cover) (names : List (List ℕ)) → is_some t ≡ true → length (bit_nets codes t names) ≡ length names
coming_long codes None names h = absurd (false≢true h)
coming_long codes (Some c) names h = bits_long codes c 0 names

-- ---- the codes, as a coding takes them

pub own_codes : (values bits : ℕ) (codes : List Code) → AreCodes values bits codes → AreCodes (length codes) (bits_in codes) codes
own_codes values bits codes are =
    subst (λ v. AreCodes v (bits_in codes) codes) (sym are.count) (subst (λ b. AreCodes values b codes) (sym (bits_of values bits codes are)) are)

pub few_codes : (net : NetParts) (n bits : ℕ) (codes : List Code) → WellFormed net → AreCodes (values_in (slot net.nets n)) bits codes → length codes ≤ MAX_VALUES
few_codes net n bits codes formed are = omega (arith, are.count, values_few net n formed)

-- ---- tables that aren't too wide

-- those of all readers, as the coding by these codes makes them
pub narrow_coded : (nets : List (Option FlatNet)) (n : ℕ) (codes : List Code) (coding : Coding) → coding ≡ coding_of n (length nets) codes → AreNarrow nets coding (λ m. reads_in nets m coding.net.0) → HasNarrowReaders nets n codes
unfolding coding_of
narrow_coded nets n codes coding is narrow =
    let own = subst (λ (g : Coding). AreNarrow nets g (λ m. reads_in nets m g.net.0)) is narrow in
    record { each = λ m c r wide. own.each m c (reader_reads nets n m c r) r wide }

pub narrow_coding : (nets : List (Option FlatNet)) (n : ℕ) (codes : List Code) (coding : Coding) → coding ≡ coding_of n (length nets) codes → HasNarrowReaders nets n codes → AreNarrow nets coding (λ m. reads_in nets m coding.net.0)
unfolding coding_of
narrow_coding nets n codes coding is narrow =
    subst (λ (g : Coding). AreNarrow nets g (λ m. reads_in nets m g.net.0)) (sym is) (record { each = λ m c h r wide. narrow.each m c r wide })

-- ---- the nets of the bits, one after the other

pub bits_more : (codes : List Code) (c : Cover) (k : ℕ) (names : List (List ℕ)) (w : List ℕ) → bit_nets_from codes c k (names ++ w ∷ []) ≡ bit_nets_from codes c k names ++ bit_net codes c (k + length names) w ∷ []
bits_more codes c k [] w = let e : k ≡ k + 0 = omega arith in ap (λ j. bit_net codes c j w ∷ []) e
bits_more codes c k (v ∷ vs) w =
    let e : (k + 1) + length vs ≡ k + suc (length vs) = omega arith in
    ap (λ l. bit_net codes c k v ∷ l) (bits_more codes c (k + 1) vs w ∙ ap (λ j. bit_nets_from codes c (k + 1) vs ++ bit_net codes c j w ∷ []) e)

pub bits_next : (codes : List Code) (c : Cover) (names : List (List ℕ)) (i : ℕ) (w : List ℕ) (bits : Cover) (one : NewNet) (made more : List NewNet) → i < length names → w ≡ get_or names i w → bits ≡ bit_table codes i c
    → one ≡ record { name = w; values = 2; table = bits } → made ≡ bit_nets_from codes c 0 (take i names) → more ≡ made ++ one ∷ [] → more ≡ bit_nets_from codes c 0 (take (i + 1) names)
bits_next codes c names i w bits one made more low named table is before pushed =
    let long : 0 + length (take i names) ≡ i = omega (arith, length-take-le i names) in
    let net : one ≡ bit_net codes c (0 + length (take i names)) (get_or names i w) = is ∙ (λ j. record { name = named j; values = 2; table = (table ∙ ap (λ k. bit_table codes k c) (sym long)) j }) in
    pushed
    ∙ ((λ j. before j ++ net j ∷ [])
    ∙ (sym (bits_more codes c 0 (take i names) (get_or names i w)) ∙ ap (bit_nets_from codes c 0) (sym (take_more names i w low))))

-- ---- what the code makes

module _ (net : NetParts) (n : NetId) (names : List (List ℕ)) (codes : List Code) (coding : Coding) (number : ℕ) (is : coding ≡ coding_of n.0 number codes) (next : number ≡ length net.nets) where
  here : coding ≡ coding_of n.0 (length net.nets) codes
  here = is ∙ ap (λ k. coding_of n.0 k codes) next

  pub made_held : is_some (table_in (slot net.nets n.0)) ≡ true → IsTrue (is_held net.nets coding.net.0)
  unfolding coding_of
  made_held table = subst (λ k. IsTrue (is_held net.nets k)) (sym (ap (λ (g : Coding). g.net.0) is)) (tabled_held net.nets n.0 table)

  pub made_narrow : AreNarrow net.nets coding (λ m. reads_in net.nets m coding.net.0) → HasNarrowReaders net.nets n.0 codes
  made_narrow narrow = narrow_coded net.nets n.0 codes coding here narrow

  pub made_wide : (stop : CoverStop) → (stop ≡ CoverStop.Wide → AreNarrow net.nets coding (λ m. reads_in net.nets m coding.net.0) → ⊥) → stop ≡ CoverStop.Wide → HasNarrowReaders net.nets n.0 codes → ⊥
  made_wide stop wide e narrow = wide e (narrow_coding net.nets n.0 codes coding here narrow)

  module _ (set : List NewTable) (change : Change) (formed : WellFormed net) (table : is_some (table_in (slot net.nets n.0)) ≡ true) (are : AreRewritten net.nets (reader_coded coding) coding.net.0 set) (made : change ≡ coding_by n (bit_nets codes (table_in (slot net.nets n.0)) names) set) where
    all_rewritten : AreRewritten net.nets (reader_coded (coding_of n.0 (length net.nets) codes)) n.0 set
    unfolding coding_of
    all_rewritten = subst (λ (g : Coding). AreRewritten net.nets (reader_coded g) g.net.0 set) here are

    pub change_makes : changed net change ≡ net_coded net n.0 names codes
    change_makes = ap (changed net) made ∙ changed_coded net n names codes set all_rewritten

    pub change_fits : AreFresh net.nets names → Fits net change
    change_fits fresh = subst (Fits net) (sym made) (coded_fits net n names codes (reader_coded (coding_of n.0 (length net.nets) codes)) set formed table fresh all_rewritten)

    pub change_adds : length change.add ≡ length names
    change_adds = ap (λ (k : Change). length k.add) made ∙ coming_long codes (table_in (slot net.nets n.0)) names table
