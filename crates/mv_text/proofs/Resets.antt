-- The reset net of a latch: the word of its table, and the name behind its arrow.
use Rattle.std.proofs.Common.{◌≡◌, ◌∙◌, ℕ, zero, suc, ◌<◌, true, Option, Some, List, [], ◌∷◌, length, drop, codes, slice_index_or, refl, sym, ap, subst, arith}
use Rattle.std.specs.Prelude.{Contains}
use Rattle.mv_base.specs.declared.number.NetId.{NetId}
use Rattle.mv_net.specs.declared.parts.Kind.TheVariants.{Reset}
use Rattle.mv_net.specs.declared.parts.FlatNet.{FlatNet}
use Rattle.mv_net.specs.declared.parts.FlatLatch.{FlatLatch}
use Rattle.mv_net.specs.declared.parts.NetParts.{NetParts}
use Rattle.mv_net.specs.Nets.{slot, name_in}
use Rattle.mv_net.specs.Index.{kind_in, is_reset}
use Rattle.mv_net.specs.Formed.{IsKind, IsLatch, IsResetNet, AllLatches, WellFormed}
use Rattle.mv_text.specs.Text.{head_word, told_name}

-- each of the latches is a latch
pub latch-at : (nets : List (Option FlatNet)) (ls : List FlatLatch) (i : ℕ) (d : FlatLatch) → i < length ls → AllLatches nets ls → IsLatch nets (slice_index_or ls i d)
latch-at nets [] i d low all = absurd (omega arith)
latch-at nets (l ∷ ls) zero d low all = all.0
latch-at nets (l ∷ ls) (suc i) d low all = latch-at nets ls i d (omega arith) all.1

reset_net : (net : NetParts) (l : FlatLatch) (n : NetId) → WellFormed net → Contains net.latches l → l.reset ≡ Some n → IsResetNet net.nets l.output.0 n.0
reset_net net l n formed in_list e =
    (subst (IsLatch net.nets) in_list.2 (latch-at net.nets net.latches in_list.0 l in_list.1 formed.latches)).reset n e

-- the kind of such a net
is-reset : (nets : List (Option FlatNet)) (n : ℕ) → IsKind nets n Reset → is_reset (kind_in (slot nets n)) ≡ true
is-reset nets n k = ap (λ f. is_reset (kind_in f)) k.held ∙ ap (λ kind. is_reset (Some kind)) k.is

pub latch-reset_word : (net : NetParts) (l : FlatLatch) (n : NetId) → WellFormed net → Contains net.latches l → l.reset ≡ Some n → head_word (slot net.nets n.0) ≡ codes ".reset"
latch-reset_word net l n formed in_list e = rw (is-reset net.nets n.0 (reset_net net l n formed in_list e).kind) refl

pub latch-told : (net : NetParts) (l : FlatLatch) (n : NetId) → WellFormed net → Contains net.latches l → l.reset ≡ Some n → told_name (slot net.nets n.0) ≡ name_in (slot net.nets l.output.0)
latch-told net l n formed in_list e =
    let r = reset_net net l n formed in_list e in
    rw (is-reset net.nets n.0 r.kind) (ap (λ f. drop 1 (name_in f)) r.kind.held ∙ (ap (drop 1) r.name ∙ sym (ap name_in r.held)))
