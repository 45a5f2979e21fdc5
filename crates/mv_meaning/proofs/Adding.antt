-- A net that comes, with a table over the others: with it the network is well formed and, if the table is total, means what it
-- meant.
use Rattle.std.proofs.Common.{◌≡◌, ◌∙◌, ℕ, ◌+◌, ◌<◌, ◌≤◌, true, false, ◌||◌, List, [], ◌∷◌, ◌++◌, length, Option, Some, None, is_some, refl, sym, ap, subst, ⊎_elim, length-append, arith}
use Rattle.std.proofs.lemmas.Bool.{cases_lt, cases_eq, or_from, false_from_ne_true}
use Rattle.std.proofs.lemmas.List.{get_or_past, get_or_append_left, get_or-append-add}
use Rattle.mv_base.specs.Meaning.{SameMeaning}
use Rattle.mv_base.specs.declared.number.NetId.{NetId}
use Rattle.mv_cover.specs.declared.cover.Cover.{Cover}
use Rattle.mv_cover.specs.Covers.{cover_reads}
use Rattle.mv_graph.specs.Above.{GoesOn, IsAbove}
use Rattle.mv_graph.specs.Nets.{has_id}
use Rattle.mv_net.specs.declared.parts.Kind.{Kind}
use Rattle.mv_net.specs.declared.parts.Kind.TheVariants.{Input, Latch, Table, Reset}
use Rattle.mv_net.specs.declared.parts.FlatNet.{FlatNet}
use Rattle.mv_net.specs.declared.parts.FlatLatch.{FlatLatch}
use Rattle.mv_net.specs.declared.parts.NetParts.{NetParts}
use Rattle.mv_net.specs.Nets.{slot, values_in, table_in, table_reads, net_reads, reads_in}
use Rattle.mv_net.specs.Formed.{IsKind, IsReadable, IsCover, IsNamed, IsNet, IsResetNet, IsLatch, AllLatches, AreKind, WellFormed, latch_outputs, latch_resets, has_table}
use Rattle.mv_net.specs.Allowed.{of_net}
use Rattle.mv_net.specs.Changes.{with_nets}
use Rattle.mv_net.specs.Index.{is_latch_input, is_reset, kind_in, is_seen}
use Rattle.mv_net.specs.Total.{IsTotal, IsTotalNet}
use Rattle.mv_net.proofs.Known.{lines_readable, reads_readable, seen_are_held}
use Rattle.mv_net.proofs.Named.{held_below}
use Rattle.mv_net.proofs.Patches.{IsWritten}
use Rattle.mv_net.proofs.Stays.{KeepsNet, KeepsNet-same, IsCover-kept, IsNet-kept, IsLoose}
use Rattle.mv_net.proofs.Totals.{IsTotal-before}
use Rattle.mv_net.proofs.Removal.{unseen_no_port, gone_means}
use Rattle.mv_meaning.specs.Rewriting.{IsNewNet}

-- ---- a net at a number past the last

-- the nets with one more behind them
pub IsWritten-added : (nets : List (Option FlatNet)) (f : Option FlatNet) → IsWritten nets (length nets) f (nets ++ f ∷ [])
IsWritten-added nets f = record {
  here = let e : length nets ≡ length nets + 0 = omega arith in ap (slot (nets ++ f ∷ [])) e ∙ get_or-append-add nets (f ∷ []) 0 None;
  others = λ n ne.
      ⊎_elim
      (λ (low : n < length nets). get_or_append_left nets (f ∷ []) None n low)
      (λ (past : length nets ≤ n). get_or_past (nets ++ f ∷ []) n None (omega (arith, length-append nets (f ∷ []), ne)) ∙ sym (get_or_past nets n None past))
      (cases_lt n (length nets));
}

-- a net whose values have no names of their own is named as it should be
unnamed : (values : ℕ) (names : List (List ℕ)) → names ≡ [] → IsNamed values names
unnamed values names e = subst (IsNamed values) (sym e) (record { lawful = refl; differ = refl; each = λ h. absurd (omega arith); spelled = λ h. refl })

module _ (net : NetParts) (n : ℕ) (f : FlatNet) (nets : List (Option FlatNet)) (formed : WellFormed net) (past : length net.nets ≤ n) (made : IsNewNet net.nets f) (written : IsWritten net.nets n (Some f) nets) where
  -- what was held is another net, and stays
  other : (m : ℕ) (g : FlatNet) → slot net.nets m ≡ Some g → m ≡ n → ⊥
  other m g held e = let low = held_below net.nets m g held in omega (arith, e)

  stays : (m : ℕ) (g : FlatNet) → slot net.nets m ≡ Some g → slot nets m ≡ Some g
  stays m g held = written.others m (other m g held) ∙ held

  before : (m : ℕ) (g : FlatNet) → (m ≡ n → ⊥) → slot nets m ≡ Some g → slot net.nets m ≡ Some g
  before m g ne held = sym (written.others m ne) ∙ held

  -- the net that comes is held there
  is_it : (g : FlatNet) (m : ℕ) → m ≡ n → slot nets m ≡ Some g → f ≡ g
  is_it g m e held = let same : Some f ≡ Some g = sym written.here ∙ (ap (slot nets) (sym e) ∙ held) in cc

  kind_stays : (m : ℕ) (kind : Kind) → IsKind net.nets m kind → IsKind nets m kind
  kind_stays m kind k = record { net = k.net; held = stays m k.net k.held; is = k.is }

  kind_before : (m : ℕ) (kind : Kind) → (Table ≡ kind → ⊥) → IsKind nets m kind → IsKind net.nets m kind
  kind_before m kind apart k =
      ⊎_elim
      (λ (e : m ≡ n). absurd (apart (sym made.kind ∙ (ap (λ (g : FlatNet). g.kind) (is_it k.net m e k.held) ∙ k.is))))
      (λ (ne : m ≡ n → ⊥). record { net = k.net; held = before m k.net ne k.held; is = k.is })
      (cases_eq m n)

  kinds_stay : (kind : Kind) (list : List NetId) → (Table ≡ kind → ⊥) → AreKind net.nets kind list → AreKind nets kind list
  kinds_stay kind list apart are = record {
    all = λ m k. are.all m (kind_before m.0 kind apart k);
    only = λ m h. kind_stays m.0 kind (are.only m h);
    once = are.once;
  }

  readable_stays : (m : ℕ) → IsReadable net.nets m → IsReadable nets m
  readable_stays m r = record { net = r.net; held = stays m r.net r.held; plain = r.plain }

  keeps : (m : ℕ) → IsReadable net.nets m → KeepsNet net.nets nets m
  keeps m r = KeepsNet-same net.nets nets m (written.others m (other m r.net r.held))

  -- ---- what reads what

  -- a cover over the others is one over all
  pub cover_stays : (values : ℕ) (c : Cover) → IsCover net.nets values c → IsCover nets values c
  cover_stays values c is = IsCover-kept net.nets nets values c (λ m r. keeps m (lines_readable net.nets values c.lines m is.lines r)) is

  -- the net that comes reads others, and the others what they read
  reads_before : (m k : ℕ) → (m ≡ n → ⊥) → reads_in nets m k ≡ true → reads_in net.nets m k ≡ true
  reads_before m k ne r = ap (λ g. net_reads g k) (sym (written.others m ne)) ∙ r

  read_readable : (m k : ℕ) → reads_in nets m k ≡ true → IsReadable net.nets k
  read_readable m k r =
      ⊎_elim
      (λ (e : m ≡ n).
      let here : slot nets m ≡ Some f = ap (slot nets) e ∙ written.here in
      let own : cover_reads made.cover k ≡ true = ap (λ t. table_reads t k) (sym made.table) ∙ (ap (λ g. net_reads g k) (sym here) ∙ r) in
      lines_readable net.nets f.values made.cover.lines k made.covers.lines own)
      (λ (ne : m ≡ n → ⊥). reads_readable net m k formed (reads_before m k ne r))
      (cases_eq m n)

  -- nothing reads it
  read_other : (m k : ℕ) → reads_in nets m k ≡ true → k ≡ n → ⊥
  read_other m k r = let is = read_readable m k r in other k is.net is.held

  last_other : (last m : ℕ) (path : List ℕ) → GoesOn (reads_in nets) last m path → last ≡ n → ⊥
  last_other last m [] g = read_other m last g
  last_other last m (k ∷ path) g = last_other last k path g.1

  goes_before : (last m : ℕ) (path : List ℕ) → (m ≡ n → ⊥) → GoesOn (reads_in nets) last m path → GoesOn (reads_in net.nets) last m path
  goes_before last m [] ne g = reads_before m last ne g
  goes_before last m (k ∷ path) ne g = (reads_before m k ne g.0, goes_before last k path (read_other m k g.0) g.1)

  above_before : (above m : ℕ) → (m ≡ n → ⊥) → IsAbove (reads_in nets) above m → IsAbove (reads_in net.nets) above m
  above_before above m ne a = record { path = a.path; goes = goes_before above m a.path ne a.goes }

  -- ---- each part

  own_net : IsNet nets f
  own_net = record {
    some = made.some;
    few = made.few;
    named = unnamed f.values f.value_names made.value_names;
    name = λ plain. made.name;
    table = ap (λ t. is_some t) made.table ∙ ap has_table (sym made.kind);
    cover = λ c e. let same : Some made.cover ≡ Some c = sym made.table ∙ e in
        let covers : made.cover ≡ c = cc in
        cover_stays f.values c (subst (IsCover net.nets f.values) covers made.covers);
  }

  each_net : (m : ℕ) (g : FlatNet) → slot nets m ≡ Some g → IsNet nets g
  each_net m g held =
      ⊎_elim
      (λ (e : m ≡ n). subst (IsNet nets) (is_it g m e held) own_net)
      (λ (ne : m ≡ n → ⊥).
      let was = before m g ne held in
      IsNet-kept net.nets nets g (λ k r. keeps k (reads_readable net m k formed (ap (λ h. net_reads h k) was ∙ r))) (formed.nets m g was))
      (cases_eq m n)

  fresh : (m : ℕ) (g : FlatNet) → (m ≡ n → ⊥) → slot nets m ≡ Some g → g.name ≡ f.name → ⊥
  fresh m g ne held same = made.fresh m (record { net = g; held = before m g ne held; is = same })

  names : (m k : ℕ) (g h : FlatNet) → slot nets m ≡ Some g → slot nets k ≡ Some h → g.name ≡ h.name → m ≡ k
  names m k g h held there same =
      ⊎_elim
      (λ (e : m ≡ n).
      ⊎_elim
      (λ (d : k ≡ n). e ∙ sym d)
      (λ (nd : k ≡ n → ⊥). absurd (fresh k h nd there (sym same ∙ sym (ap (λ (o : FlatNet). o.name) (is_it g m e held)))))
      (cases_eq k n))
      (λ (ne : m ≡ n → ⊥).
      ⊎_elim
      (λ (d : k ≡ n). absurd (fresh m g ne held (same ∙ sym (ap (λ (o : FlatNet). o.name) (is_it h k d there)))))
      (λ (nd : k ≡ n → ⊥). formed.names m k g h (before m g ne held) (before k h nd there) same)
      (cases_eq k n))
      (cases_eq m n)

  reset_stays : (output m : ℕ) → IsResetNet net.nets output m → IsResetNet nets output m
  unfolding kind_stays
  reset_stays output m is = record {
    kind = kind_stays m Reset is.kind;
    latch = is.latch;
    held = stays output is.latch is.held;
    name = is.name;
    values = is.values;
    value_names = is.value_names;
  }

  latch_stays : (l : FlatLatch) → IsLatch net.nets l → IsLatch nets l
  latch_stays l is = record {
    input = readable_stays l.input.0 is.input;
    output = kind_stays l.output.0 Latch is.output;
    values =
        ap values_in (written.others l.input.0 (other l.input.0 is.input.net is.input.held)) ∙ (is.values ∙ sym (ap values_in (written.others l.output.0 (other l.output.0 is.output.net is.output.held))));
    reset = λ m e. reset_stays l.output.0 m.0 (is.reset m e);
  }

  latches_stay : (ls : List FlatLatch) → AllLatches net.nets ls → AllLatches nets ls
  latches_stay [] all = tt
  latches_stay (l ∷ ls) all = (latch_stays l all.0, latches_stay ls all.1)

-- ---- the network with it

-- the network with a net at a number past the last is well formed
pub written_formed : (net : NetParts) (n : ℕ) (f : FlatNet) (nets : List (Option FlatNet)) → WellFormed net → length net.nets ≤ n → IsNewNet net.nets f → IsWritten net.nets n (Some f) nets → WellFormed (with_nets net nets)
unfolding with_nets
written_formed net n f nets formed past made written = record {
  root = formed.root;
  nets = each_net net n f nets formed past made written;
  names = names net n f nets formed past made written;
  inputs = kinds_stay net n f nets formed past made written Input net.inputs (λ e. cc) formed.inputs;
  outputs = λ m h. readable_stays net n f nets formed past made written m.0 (formed.outputs m h);
  outputs_once = formed.outputs_once;
  latches = latches_stay net n f nets formed past made written net.latches formed.latches;
  states = kinds_stay net n f nets formed past made written Latch (latch_outputs net.latches) (λ e. cc) formed.states;
  resets = kinds_stay net n f nets formed past made written Reset (latch_resets net.latches) (λ e. cc) formed.resets;
  acyclic = record {
    none = λ m a. formed.acyclic.none m (above_before net n f nets formed past made written m m (last_other net n f nets formed past made written m m a.path a.goes) a);
  };
  alone = record {
    none = λ m k latch reset a.
        let low = kind_before net n f nets formed past made written k Reset (λ e. cc) reset in
        formed.alone.none m k (kind_before net n f nets formed past made written m Latch (λ e. cc) latch) low
        (above_before net n f nets formed past made written m k (other net n f nets formed past made written k low.net low.held) a);
  };
}

-- if its table is total, the network with it means what it meant
pub written_means : (net : NetParts) (n : ℕ) (f : FlatNet) (nets : List (Option FlatNet)) → WellFormed net → length net.nets ≤ n → (made : IsNewNet net.nets f) → IsTotal net.nets made.cover → IsWritten net.nets n (Some f) nets → SameMeaning (of_net (with_nets net nets)) (of_net net)
unfolding with_nets is_seen
written_means net n f nets formed past made total written =
    let same = gone_means (with_nets net nets) n net.nets after loose total_net (record { here = get_or_past net.nets n None past; others = λ m ne. sym (written.others m ne) }) in
    record { same = sym same.same; only = same.all; all = same.only }
  where
    after : WellFormed (with_nets net nets)
    after = written_formed net n f nets formed past made written

    table : table_in (slot nets n) ≡ Some made.cover
    table = ap table_in written.here ∙ made.table

    low_output : has_id net.outputs n ≡ true → ⊥
    low_output h = let low = (seen_are_held net formed).outputs n h in omega arith

    low_input : is_latch_input net.latches n ≡ true → ⊥
    low_input h = let low = (seen_are_held net formed).inputs n h in omega arith

    plain : is_reset (kind_in (slot nets n)) ≡ false
    plain = ap (λ g. is_reset (kind_in g)) written.here ∙ ap (λ kind. is_reset (Some kind)) made.kind

    unseen : is_seen (with_nets net nets) n ≡ false
    unseen =
        or_from (has_id net.outputs n || is_latch_input net.latches n) (is_reset (kind_in (slot nets n)))
        (or_from (has_id net.outputs n) (is_latch_input net.latches n) (false_from_ne_true _ low_output) (false_from_ne_true _ low_input))
        plain

    loose : IsLoose (with_nets net nets) n
    loose = record {
      unread = λ m. false_from_ne_true _ (λ r. read_other net n f nets formed past made written m n r refl);
      hidden = unseen_no_port (with_nets net nets) n after unseen (ap (λ t. is_some t) table);
    }

    count : (m : ℕ) → 0 < values_in (slot net.nets m) → values_in (slot net.nets m) ≡ values_in (slot nets m)
    count m some =
        ⊎_elim
        (λ (low : m < length net.nets). sym (ap values_in (written.others m (λ e. omega (arith, e)))))
        (λ (high : length net.nets ≤ m). absurd (omega (arith, ap values_in (get_or_past net.nets m None high))))
        (cases_lt m (length net.nets))

    total_net : IsTotalNet nets n
    total_net = record { net = f; held = written.here; cover = made.cover; table = made.table; total = IsTotal-before nets net.nets made.cover count total }

-- ---- behind the others

pub added_formed : (net : NetParts) (f : FlatNet) → WellFormed net → IsNewNet net.nets f → WellFormed (with_nets net (net.nets ++ Some f ∷ []))
added_formed net f formed made =
    written_formed net (length net.nets) f (net.nets ++ Some f ∷ []) formed (omega arith) made (IsWritten-added net.nets (Some f))

pub added_means : (net : NetParts) (f : FlatNet) → WellFormed net → (made : IsNewNet net.nets f) → IsTotal net.nets made.cover → SameMeaning (of_net (with_nets net (net.nets ++ Some f ∷ []))) (of_net net)
added_means net f formed made total =
    written_means net (length net.nets) f (net.nets ++ Some f ∷ []) formed (omega arith) made total (IsWritten-added net.nets (Some f))
