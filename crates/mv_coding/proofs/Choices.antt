-- A net whose table, with whatever values agree with the other nets, allows it some value: where nothing reads it and it isn't seen
-- it can go, and it can come, and the network means the same.
use Rattle.std.proofs.Common.{◌≡◌, ◌∙◌, ℕ, ◌<◌, ◌≤◌, true, false, ◌||◌, length, List, Option, Some, None, is_some, refl, sym, ap, ⊎_elim, arith}
use Rattle.std.proofs.lemmas.Bool.{cases_eq, false≢true, false_from_ne_true, or_from}
use Rattle.std.proofs.lemmas.List.{get_or_past}
use Rattle.mv_base.specs.Meaning.{SameMeaning}
use Rattle.mv_cover.specs.Covers.{cover_reads}
use Rattle.mv_graph.specs.Nets.{has_id}
use Rattle.mv_net.specs.declared.parts.FlatNet.{FlatNet}
use Rattle.mv_net.specs.declared.parts.NetParts.{NetParts}
use Rattle.mv_net.specs.Allowed.{of_net}
use Rattle.mv_net.specs.Changes.{with_nets}
use Rattle.mv_net.specs.Formed.{WellFormed}
use Rattle.mv_net.specs.Index.{is_latch_input, is_reset, kind_in, is_seen}
use Rattle.mv_net.specs.Nets.{slot, table_in, table_reads, net_reads, reads_in}
use Rattle.mv_net.proofs.Drivers.{SameMeaning-by}
use Rattle.mv_net.proofs.Known.{lines_readable, readable_below, reads_readable, seen_are_held}
use Rattle.mv_net.proofs.Patches.{other_than, put, put_other, net_allows-put, IsWritten, AgreesBut, AgreesBut-from, Agrees-set, Agrees-others, Agrees-put}
use Rattle.mv_net.proofs.Ports.{is_port, shown_port, SamePorts-refl, SamePorts-but, AgreesAtPorts, KeepsPorts-same}
use Rattle.mv_net.proofs.Removal.{unseen_no_port}
use Rattle.mv_net.proofs.Stays.{IsLoose}
use Rattle.mv_net.proofs.Totals.{NetAllowsSome}
use Rattle.mv_meaning.specs.Rewriting.{IsNewNet}
use Rattle.mv_meaning.proofs.Adding.{written_formed}

-- with whatever values agree with the other nets, the net at n can have some value
pub record HasChoice (nets : List (Option FlatNet)) (n : ℕ) : Type 0 where
  pub some : (x : ℕ → ℕ) → AgreesBut nets n x → NetAllowsSome nets n x

-- ---- a net that goes

-- a value for the net that went
put_back : (net : NetParts) (n : ℕ) (x : ℕ → ℕ) → IsLoose net n → HasChoice net.nets n → AgreesBut net.nets n x → AgreesAtPorts net net.nets x
put_back net n x loose choice others =
    let some = choice.some x others in
    let v = some.value in
    record {
      at = put n v x;
      agrees = Agrees-put net.nets n v x (net_allows-put (slot net.nets n) n v x v (loose.unread n) ∙ some.is_allowed) (λ m ne r. absurd (false≢true (sym (loose.unread m) ∙ r))) (λ m ne u. others.each m ne);
      same = SamePorts-but net n x (put n v x) loose.hidden (λ m ne. sym (put_other n v x m ne));
    }

-- a network without a net that nothing reads or names, and that always has a choice, means the same
pub gone_means : (net : NetParts) (n : ℕ) (nets : List (Option FlatNet)) → IsLoose net n → HasChoice net.nets n → IsWritten net.nets n None nets → SameMeaning (of_net (with_nets net nets)) (of_net net)
gone_means net n nets loose choice gone =
    SameMeaning-by net nets
    (KeepsPorts-same net nets (λ m shown. gone.others m (other_than (is_port net) n m loose.hidden (shown_port net m shown))))
    (λ x a. put_back net n x loose choice (Agrees-others net.nets n None nets x gone a))
    (λ x a. record { at = x; agrees = Agrees-set net.nets n None nets x gone (AgreesBut-from net.nets n x a) refl; same = SamePorts-refl net x })

-- ---- a net that comes

-- at a number past the last, nothing reads it
come_unread : (net : NetParts) (n : ℕ) (f : FlatNet) (nets : List (Option FlatNet)) → WellFormed net → length net.nets ≤ n → IsNewNet net.nets f → IsWritten net.nets n (Some f) nets → (m : ℕ) → reads_in nets m n ≡ true → ⊥
come_unread net n f nets formed past made written m r =
    ⊎_elim
    (λ (e : m ≡ n).
    let here : slot nets m ≡ Some f = ap (slot nets) e ∙ written.here in
    let own : cover_reads made.cover n ≡ true = ap (λ t. table_reads t n) (sym made.table) ∙ (ap (λ g. net_reads g n) (sym here) ∙ r) in
    high (readable_below net.nets n (lines_readable net.nets f.values made.cover.lines n made.covers.lines own)))
    (λ (ne : m ≡ n → ⊥). high (readable_below net.nets n (reads_readable net m n formed (ap (λ g. net_reads g n) (sym (written.others m ne)) ∙ r))))
    (cases_eq m n)
  where
    high : n < length net.nets → ⊥
    high low = omega arith

-- and nobody names it
come_loose : (net : NetParts) (n : ℕ) (f : FlatNet) (nets : List (Option FlatNet)) → WellFormed net → length net.nets ≤ n → IsNewNet net.nets f → IsWritten net.nets n (Some f) nets → IsLoose (with_nets net nets) n
unfolding with_nets is_seen
come_loose net n f nets formed past made written = record {
  unread = λ m. false_from_ne_true _ (come_unread net n f nets formed past made written m);
  hidden = unseen_no_port (with_nets net nets) n (written_formed net n f nets formed past made written) unseen (ap (λ g. is_some (table_in g)) written.here ∙ ap (λ t. is_some t) made.table);
}
  where
    low_output : has_id net.outputs n ≡ true → ⊥
    low_output h = let low = (seen_are_held net formed).outputs n h in omega arith

    low_input : is_latch_input net.latches n ≡ true → ⊥
    low_input h = let low = (seen_are_held net formed).inputs n h in omega arith

    plain : is_reset (kind_in (slot nets n)) ≡ false
    plain = ap (λ g. is_reset (kind_in g)) written.here ∙ ap (λ kind. is_reset (Some kind)) made.kind

    unseen : is_seen (with_nets net nets) n ≡ false
    unseen =
        or_from (has_id net.outputs n || is_latch_input net.latches n) (is_reset (kind_in (slot nets n)))
        (or_from (has_id net.outputs n) (is_latch_input net.latches n) (false_from_ne_true _ low_output) (false_from_ne_true _ low_input))
        plain

-- if it always has a choice, the network with it means what it meant
pub come_means : (net : NetParts) (n : ℕ) (f : FlatNet) (nets : List (Option FlatNet)) → WellFormed net → length net.nets ≤ n → IsNewNet net.nets f → HasChoice nets n → IsWritten net.nets n (Some f) nets → SameMeaning (of_net (with_nets net nets)) (of_net net)
unfolding with_nets
come_means net n f nets formed past made choice written =
    let same = gone_means (with_nets net nets) n net.nets (come_loose net n f nets formed past made written) choice (record { here = get_or_past net.nets n None past; others = λ m ne. sym (written.others m ne) }) in
    record { same = sym same.same; only = same.all; all = same.only }
