-- A net that can go: without it the network is well formed and means the same.
use Rattle.std.proofs.Common.{◌≡◌, ◌∙◌, ℕ, ◌<◌, true, false, ◌||◌, nat_lt, List, set, map, Option, Some, None, IsTrue, is_some, refl, sym, ap, subst, ⊎_elim, arith}
use Rattle.std.proofs.lemmas.Bool.{cases_eq, or_parts, and_parts, false≢true, ltb-true, false_from_ne_true}
use Rattle.mv_base.specs.Meaning.{SameMeaning}
use Rattle.mv_base.specs.declared.number.NetId.{NetId}
use Rattle.mv_cover.specs.Covering.{IsPoint}
use Rattle.mv_net.specs.declared.parts.Kind.{Kind}
use Rattle.mv_net.specs.declared.parts.Kind.TheVariants.{Input, Latch, Reset}
use Rattle.mv_net.specs.declared.parts.FlatNet.{FlatNet}
use Rattle.mv_net.specs.declared.parts.NetParts.{NetParts}
use Rattle.mv_net.specs.Nets.{slot, values_in, table_in, net_reads}
use Rattle.mv_net.specs.Formed.{IsKind, WellFormed, has_table}
use Rattle.mv_net.specs.Allowed.{net_allows, net_table_allows, of_net}
use Rattle.mv_net.specs.Changes.{with_nets, without}
use Rattle.mv_graph.specs.Nets.{has_id}
use Rattle.mv_net.specs.Index.{is_latch_input, is_reset, kind_in, is_seen}
use Rattle.mv_net.specs.Total.{IsTotalNet, IsRemovable}
use Rattle.mv_net.proofs.Known.{counts_at}
use Rattle.mv_net.proofs.Patches.{other_than, put, put_same, put_other, net_allows-put, IsWritten, IsWritten-gone, AgreesBut, AgreesBut-from, Agrees-set, Agrees-others, Agrees-put}
use Rattle.mv_net.proofs.Ports.{is_port, shown_port, hidden_no_port, outputs_listed, SamePorts-refl, SamePorts-but, AgreesAtPorts, KeepsPorts-same}
use Rattle.mv_net.proofs.Stays.{IsLoose, held_other, gone_formed}
use Rattle.mv_net.proofs.Totals.{IsTotal-before, total_allows}
use Rattle.mv_net.proofs.Drivers.{SameMeaning-by}

-- ---- a net with a table that isn't seen is no port

-- a net of a kind has a table if the kind has one
kind_table : (net : NetParts) (n : ℕ) (kind : Kind) → WellFormed net → IsKind net.nets n kind → is_some (table_in (slot net.nets n)) ≡ has_table kind
kind_table net n kind formed k =
    ap (λ f. is_some (table_in f)) k.held ∙ ((formed.nets n k.net k.held).table ∙ ap has_table k.is)

pub unseen_no_port : (net : NetParts) (n : ℕ) → WellFormed net → is_seen net n ≡ false → is_some (table_in (slot net.nets n)) ≡ true → is_port net n ≡ false
unfolding is_seen
unseen_no_port net n formed unseen table =
    let parts = or_parts (has_id net.outputs n || is_latch_input net.latches n) (is_reset (kind_in (slot net.nets n))) unseen in
    let seen = or_parts (has_id net.outputs n) (is_latch_input net.latches n) parts.0 in
    hidden_no_port net n (record {
      input = false_from_ne_true _ (λ h. no_table Input refl (formed.inputs.only id h));
      output = seen.0;
      next = seen.1;
      state = false_from_ne_true _ (λ h. no_table Latch refl (formed.states.only id (outputs_listed net.latches n ∙ h)));
      reset = false_from_ne_true _ (λ h. no_reset (formed.resets.only id h) parts.1);
    })
  where
    id : NetId
    id = record { 0 = n }

    no_table : (kind : Kind) → has_table kind ≡ false → IsKind net.nets n kind → ⊥
    no_table kind none k = false≢true (sym none ∙ (sym (kind_table net n kind formed k) ∙ table))

    no_reset : IsKind net.nets n Reset → is_reset (kind_in (slot net.nets n)) ≡ false → ⊥
    no_reset k none = false≢true (sym none ∙ (ap (λ f. is_reset (kind_in f)) k.held ∙ ap (λ kind. is_reset (Some kind)) k.is))

pub removable_loose : (net : NetParts) (n : ℕ) → WellFormed net → IsRemovable net n → IsLoose net n
removable_loose net n formed can = record {
  unread = can.unread;
  hidden = unseen_no_port net n formed can.unseen (ap (λ f. is_some (table_in f)) can.total.held ∙ ap (λ t. is_some t) can.total.table);
}

pub removal_formed : (net : NetParts) (n : ℕ) → WellFormed net → IsRemovable net n → WellFormed (without net n)
removal_formed net n formed can =
    gone_formed net n (set net.nets n None) formed (removable_loose net n formed can) (IsWritten-gone net.nets n)

-- ---- a value for the net that went

-- an assignment that agrees with the other nets is a point, if the net has any of its values
pub point_put : (nets : List (Option FlatNet)) (n v : ℕ) (x : ℕ → ℕ) → AgreesBut nets n x → (0 < values_in (slot nets n) → v < values_in (slot nets n)) → IsPoint (map values_in nets) (put n v x)
point_put nets n v x others here = record {
  below = λ m some. subst (λ k. put n v x m < k) (sym (counts_at nets m)) (at m (subst (λ k. 0 < k) (counts_at nets m) some));
}
  where
    low : (f : Option FlatNet) (m : ℕ) → 0 < values_in f → IsTrue (net_allows f x (x m)) → x m < values_in f
    low None m some a = absurd (omega arith)
    low (Some f) m some a = ltb-true (x m) f.values (and_parts (nat_lt (x m) f.values) (net_table_allows f.table x (x m)) a).0

    at : (m : ℕ) → 0 < values_in (slot nets m) → put n v x m < values_in (slot nets m)
    at m some =
        ⊎_elim
        (λ (e : m ≡ n).
        let P : ℕ → Type 0 = λ k. 0 < values_in (slot nets k) → put n v x k < values_in (slot nets k) in
        subst P (sym e) (λ h. subst (λ k. k < values_in (slot nets n)) (sym (put_same n v x)) (here h)) some)
        (λ (ne : m ≡ n → ⊥). subst (λ k. k < values_in (slot nets m)) (sym (put_other n v x m ne)) (low (slot nets m) m some (others.each m ne)))
        (cases_eq m n)

-- it has a value that its table allows
put_back : (net : NetParts) (n : ℕ) (x : ℕ → ℕ) → WellFormed net → IsLoose net n → IsTotalNet net.nets n → AgreesBut net.nets n x → AgreesAtPorts net net.nets x
put_back net n x formed loose total others =
    let some = total_allows net n (put n 0 x) formed total (point_put net.nets n 0 x others (λ h. h)) in
    let v = some.value in
    let unread = net_allows-put (slot net.nets n) n v x v (loose.unread n) ∙ sym (net_allows-put (slot net.nets n) n 0 x v (loose.unread n)) in
    record {
      at = put n v x;
      agrees = Agrees-put net.nets n v x (unread ∙ some.is_allowed) (λ m ne r. absurd (false≢true (sym (loose.unread m) ∙ r))) (λ m ne u. others.each m ne);
      same = SamePorts-but net n x (put n v x) loose.hidden (λ m ne. sym (put_other n v x m ne));
    }

-- a network without a net that nothing reads or names, and whose table is total, means the same
pub gone_means : (net : NetParts) (n : ℕ) (nets : List (Option FlatNet)) → WellFormed net → IsLoose net n → IsTotalNet net.nets n → IsWritten net.nets n None nets → SameMeaning (of_net (with_nets net nets)) (of_net net)
gone_means net n nets formed loose total gone =
    SameMeaning-by net nets
    (KeepsPorts-same net nets (λ m shown. gone.others m (other_than (is_port net) n m loose.hidden (shown_port net m shown))))
    (λ x a. put_back net n x formed loose total (Agrees-others net.nets n None nets x gone a))
    (λ x a. record { at = x; agrees = Agrees-set net.nets n None nets x gone (AgreesBut-from net.nets n x a) refl; same = SamePorts-refl net x })

pub removal_means : (net : NetParts) (n : ℕ) → WellFormed net → IsRemovable net n → SameMeaning (of_net (without net n)) (of_net net)
removal_means net n formed can =
    gone_means net n (set net.nets n None) formed (removable_loose net n formed can) can.total (IsWritten-gone net.nets n)

-- ---- a net that can go once another has gone

pub removable-later : (net : NetParts) (n m : ℕ) → IsRemovable (without net n) m → net_reads (slot net.nets n) m ≡ false → IsRemovable net m
unfolding is_seen with_nets
removable-later net n m later unread = record {
  unseen = ap (λ f. has_id net.outputs m || is_latch_input net.latches m || is_reset (kind_in f)) (sym (gone.others m other)) ∙ later.unseen;
  unread = λ k.
      ⊎_elim
      (λ (e : k ≡ n). ap (λ j. net_reads (slot net.nets j) m) e ∙ unread)
      (λ (ne : k ≡ n → ⊥). ap (λ f. net_reads f m) (sym (gone.others k ne)) ∙ later.unread k)
      (cases_eq k n);
  total = record {
    net = later.total.net;
    held = sym (gone.others m other) ∙ later.total.held;
    cover = later.total.cover;
    table = later.total.table;
    total = IsTotal-before net.nets (set net.nets n None) later.total.cover same later.total.total;
  };
}
  where
    gone : IsWritten net.nets n None (set net.nets n None)
    gone = IsWritten-gone net.nets n

    other : m ≡ n → ⊥
    other = held_other net.nets n (set net.nets n None) gone m later.total.net later.total.held

    none : (k : ℕ) → k ≡ n → values_in (slot (set net.nets n None) k) ≡ 0
    none k e = ap (λ j. values_in (slot (set net.nets n None) j)) e ∙ ap values_in gone.here

    same : (k : ℕ) → 0 < values_in (slot (set net.nets n None) k) → values_in (slot (set net.nets n None) k) ≡ values_in (slot net.nets k)
    same k some = ap values_in (gone.others k (λ e. absurd (omega (arith, none k e))))
