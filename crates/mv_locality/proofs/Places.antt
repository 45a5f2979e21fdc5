-- What the checks of the rules ask of a net depends on the net and its readers, and on what is seen from outside.
use Rattle.std.proofs.Common.{◌≡◌, ◌↔◌, refl, ◌⊎◌, ◌∙◌, ℕ, ◌||◌, Option, List, inl, inr, sym, ap, subst}
use Rattle.std.proofs.lemmas.Bool.{false≢true}
use Rattle.mv_composite.specs.declared.inner.Inner.{Inner}
use Rattle.mv_graph.specs.Nets.{has_id}
use Rattle.mv_meaning.specs.Rewriting.{HasOneReader}
use Rattle.mv_net.specs.declared.parts.FlatNet.{FlatNet}
use Rattle.mv_net.specs.declared.parts.NetParts.{NetParts}
use Rattle.mv_net.specs.Changes.{with_nets}
use Rattle.mv_net.specs.Formed.{WellFormed}
use Rattle.mv_net.specs.Index.{kind_in, is_reset, is_latch_input, is_seen}
use Rattle.mv_net.specs.Nets.{table_in, net_reads, reads_in}
use Rattle.mv_net.specs.Total.{IsRemovable}
use Rattle.mv_entry.specs.declared.fault.RuleFault.{RuleFault}
use Rattle.mv_entry.specs.declared.fault.RuleFault.TheVariants.{Visible, Read, Partial, Unread, Shared, Wide, NotSame}
use Rattle.mv_plans.specs.Checks.{IsUnseen, IsUnread, IsRead}
use Rattle.mv_plans.specs.Collapsing.{IsInnerOf, AreNarrow, HasComposites, IsUnshared, CanCollapse, CollapseRow}
use Rattle.mv_plans.specs.Removing.{RemoveRow}
use Rattle.mv_plans.specs.Wiring.{WireRow}
use Rattle.mv_agenda.specs.Near.{IsNear}
use Rattle.mv_locality.specs.Local.{KeepsValues, IsStill, StaysAround}
use Rattle.mv_locality.specs.Same.{StaysAt, KeepsNet, KeepsReaders, KeepsPlace}
use Rattle.mv_locality.proofs.Tables.{net_kept, net_back, IsTotalNet-same, IsPlainNet-same, IsBuffer-same, IsInnerOf-same, IsTooWide-kept}

-- ---- places that are kept

pub readers_kept : (old : List (Option FlatNet)) (new : NetParts) (n : ℕ) → WellFormed new → KeepsValues old new.nets → IsStill old new.nets n → KeepsReaders old new.nets n
readers_kept old new n formed keeps still = record {
  net = net_kept old new n formed keeps still.same;
  readers = λ k.
      elim (still.readers k) [
        | inl same ↦ inl (net_kept old new k formed keeps same)
        | inr unread ↦ inr unread
      ];
}

pub readers_back : (old new : List (Option FlatNet)) (n : ℕ) → KeepsReaders old new n → KeepsReaders new old n
readers_back old new n keeps = record {
  net = net_back old new n keeps.net;
  readers = λ k.
      elim (keeps.readers k) [
        | inl same ↦ inl (net_back old new k same)
        | inr unread ↦ inr (unread.1, unread.0)
      ];
}

pub place_kept : (old new : NetParts) (n : ℕ) → StaysAt old new n → KeepsPlace old new n
unfolding with_nets
place_kept old new n stays = record {
  outputs = ap (λ (p : NetParts). p.outputs) stays.nets;
  latches = ap (λ (p : NetParts). p.latches) stays.nets;
  around = readers_kept old.nets new n stays.formed stays.values stays.still;
}

pub place_back : (old new : NetParts) (n : ℕ) → KeepsPlace old new n → KeepsPlace new old n
place_back old new n keeps = record {
  outputs = sym keeps.outputs;
  latches = sym keeps.latches;
  around = readers_back old.nets new.nets n keeps.around;
}

-- what isn't near a net around which all stays
pub far_stays : (old new : NetParts) (n : ℕ) → WellFormed new → new ≡ with_nets old new.nets → StaysAround old.nets new.nets n → (m : ℕ) → (IsNear old.nets n m → ⊥) → StaysAt old new m
far_stays old new n formed nets around m far = record { formed = formed; nets = nets; values = around.values; still = around.still m far }

-- ---- its readers

pub reads-same : (old new : List (Option FlatNet)) (n : ℕ) → KeepsReaders old new n → (k : ℕ) → reads_in new k n ≡ reads_in old k n
reads-same old new n keeps k =
    elim (keeps.readers k) [
      | inl same ↦ ap (λ f. net_reads f n) same.same
      | inr unread ↦ unread.1 ∙ sym unread.0
    ]

pub IsUnread-same : (old new : List (Option FlatNet)) (n : ℕ) → KeepsReaders old new n → IsUnread old n → IsUnread new n
IsUnread-same old new n keeps is = record { unread = λ k. reads-same old new n keeps k ∙ is.unread k }

pub IsRead-same : (old new : List (Option FlatNet)) (n : ℕ) → KeepsReaders old new n → IsRead old n → IsRead new n
IsRead-same old new n keeps is = record { reader = is.reader; reads = reads-same old new n keeps is.reader ∙ is.reads }

pub HasOneReader-same : (old new : List (Option FlatNet)) (n : ℕ) → KeepsReaders old new n → HasOneReader old n → HasOneReader new n
HasOneReader-same old new n keeps has = record {
  one = λ m k p q. has.one m k (sym (reads-same old new n keeps m) ∙ p) (sym (reads-same old new n keeps k) ∙ q);
}

pub IsUnshared-same : (old new : List (Option FlatNet)) (n : ℕ) → KeepsReaders old new n → IsUnshared old n → IsUnshared new n
IsUnshared-same old new n keeps (inl plain) = inl (IsPlainNet-same old new n keeps.net.same plain)
IsUnshared-same old new n keeps (inr one) = inr (HasOneReader-same old new n keeps one)

-- ---- its composites

pub AreNarrow-same : (old new : List (Option FlatNet)) (n : ℕ) (inner : Inner) → KeepsReaders old new n → inner.net.0 ≡ n → IsInnerOf old inner
    → AreNarrow old inner (λ m. reads_in old m n) → AreNarrow new inner (λ m. reads_in new m n)
AreNarrow-same old new n inner keeps of_net is narrow = record {
  each = λ m c reads r wide.
      elim (keeps.readers m) [
        | inl same ↦
            let own : KeepsNet old new inner.net.0 = subst (KeepsNet old new) (sym of_net) keeps.net in
            narrow.each m c (sym (reads-same old new n keeps m) ∙ reads) (record { table = sym (ap table_in same.same) ∙ r.table; reads = r.reads })
            (IsTooWide-kept new old inner m c (IsInnerOf-same old new inner own is) (net_back old new inner.net.0 own) (net_back old new m same) r.table wide)
        | inr unread ↦ absurd (false≢true (sym unread.1 ∙ reads))
      ];
}

pub HasComposites-same : (old new : List (Option FlatNet)) (n : ℕ) → KeepsReaders old new n → HasComposites old n → HasComposites new n
HasComposites-same old new n keeps has = record {
  inner = has.inner;
  of_net = has.of_net;
  known = IsInnerOf-same old new has.inner (subst (KeepsNet old new) (sym has.of_net) keeps.net) has.known;
  narrow = AreNarrow-same old new n has.inner keeps has.of_net has.known has.narrow;
}

-- ---- what is seen of it

pub is_seen-same : (old new : NetParts) (n : ℕ) → KeepsPlace old new n → is_seen new n ≡ is_seen old n
unfolding is_seen
is_seen-same old new n keeps = λ i. has_id (keeps.outputs i) n || is_latch_input (keeps.latches i) n || is_reset (kind_in (keeps.around.net.same i))

pub IsUnseen-same : (old new : NetParts) (n : ℕ) → KeepsPlace old new n → IsUnseen old n → IsUnseen new n
IsUnseen-same old new n keeps is = record { unseen = is_seen-same old new n keeps ∙ is.unseen }

-- ---- what the rules ask together

pub IsRemovable-same : (old new : NetParts) (n : ℕ) → KeepsPlace old new n → IsRemovable old n → IsRemovable new n
IsRemovable-same old new n keeps is = record {
  unseen = is_seen-same old new n keeps ∙ is.unseen;
  unread = λ m. reads-same old.nets new.nets n keeps.around m ∙ is.unread m;
  total = IsTotalNet-same old.nets new.nets n keeps.around.net is.total;
}

pub CanCollapse-same : (old new : NetParts) (n : ℕ) → KeepsPlace old new n → CanCollapse old n → CanCollapse new n
CanCollapse-same old new n keeps can = record {
  unseen = IsUnseen-same old new n keeps can.unseen;
  read = IsRead-same old.nets new.nets n keeps.around can.read;
  unshared = IsUnshared-same old.nets new.nets n keeps.around can.unshared;
}

-- ---- which check fails first

-- a check that holds as before, with those behind it that fail as before
unless_same : {A B R S : Type 0} (fault f : RuleFault) → (A → B) → (B → A) → (R → S) → ((A → ⊥) × (f ≡ fault)) ⊎ (A × R) → ((B → ⊥) × (f ≡ fault)) ⊎ (B × S)
unless_same fault f to back rest (inl fails) = inl ((λ b. fails.0 (back b)), fails.1)
unless_same fault f to back rest (inr holds) = inr (to holds.0, rest holds.1)

pub RemoveRow-same : (f : RuleFault) (old new : NetParts) (n : ℕ) → KeepsPlace old new n → RemoveRow old n f → RemoveRow new n f
RemoveRow-same f old new n keeps row =
    let back = place_back old new n keeps in
    unless_same Visible f (IsUnseen-same old new n keeps) (IsUnseen-same new old n back)
    (unless_same Read f (IsUnread-same old.nets new.nets n keeps.around) (IsUnread-same new.nets old.nets n back.around)
    (unless_same Partial f (IsTotalNet-same old.nets new.nets n keeps.around.net) (IsTotalNet-same new.nets old.nets n back.around.net) (λ h. h)))
    row

pub WireRow-same : (f : RuleFault) (old new : NetParts) (n : ℕ) → KeepsPlace old new n → WireRow old n f → WireRow new n f
WireRow-same f old new n keeps row =
    let back = place_back old new n keeps in
    unless_same NotSame f (IsBuffer-same old.nets new.nets n keeps.around.net) (IsBuffer-same new.nets old.nets n back.around.net)
    (unless_same Unread f (IsRead-same old.nets new.nets n keeps.around) (IsRead-same new.nets old.nets n back.around) (λ h. h))
    row

pub CollapseRow-same : (f : RuleFault) (old new : NetParts) (n : ℕ) → KeepsPlace old new n → CollapseRow old n f → CollapseRow new n f
CollapseRow-same f old new n keeps row =
    let back = place_back old new n keeps in
    unless_same Visible f (IsUnseen-same old new n keeps) (IsUnseen-same new old n back)
    (unless_same Unread f (IsRead-same old.nets new.nets n keeps.around) (IsRead-same new.nets old.nets n back.around)
    (unless_same Shared f (IsUnshared-same old.nets new.nets n keeps.around) (IsUnshared-same new.nets old.nets n back.around)
    (unless_same Wide f (HasComposites-same old.nets new.nets n keeps.around) (HasComposites-same new.nets old.nets n back.around) (λ h. h))))
    row

-- ---- both ways

pub both_ways : (P : NetParts → ℕ → Type 0) → ((old new : NetParts) (n : ℕ) → KeepsPlace old new n → P old n → P new n) → (old new : NetParts) (n : ℕ) → StaysAt old new n → P new n ↔ P old n
both_ways P to old new n stays = let keeps = place_kept old new n stays in (to new old n (place_back old new n keeps), to old new n keeps)

pub AreNarrow-both : (old new : NetParts) (inner : Inner) → StaysAt old new inner.net.0 → IsInnerOf old.nets inner
    → AreNarrow new.nets inner (λ m. reads_in new.nets m inner.net.0) ↔ AreNarrow old.nets inner (λ m. reads_in old.nets m inner.net.0)
AreNarrow-both old new inner stays is =
    let n = inner.net.0 in
    let keeps = (place_kept old new n stays).around in (
      AreNarrow-same new.nets old.nets n inner (readers_back old.nets new.nets n keeps) refl (IsInnerOf-same old.nets new.nets inner keeps.net is),
      AreNarrow-same old.nets new.nets n inner keeps refl is,
    )
