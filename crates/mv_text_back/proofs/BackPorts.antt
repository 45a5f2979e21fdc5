-- The nets of a network's model have the values of the network's nets, and both look alike from outside.
use Rattle.std.proofs.Common.{◌≡◌, ℕ, suc, List, [], ◌∷◌, length, map, Some, refl, sym, ◌∙◌, ap}
use Rattle.std.specs.List.{slice_get}
use Rattle.mv_base.specs.Meaning.{Port}
use Rattle.mv_base.specs.declared.number.NetId.{NetId}
use Rattle.mv_design.specs.Values.{values_of, count_of}
use Rattle.mv_design.specs.declared.design.FileLatch.{FileLatch}
use Rattle.mv_design.specs.declared.design.FileModel.{FileModel}
use Rattle.mv_design.specs.Meaning.{port, latch_port, of_model}
use Rattle.mv_net.specs.declared.parts.FlatLatch.{FlatLatch}
use Rattle.mv_net.specs.declared.parts.NetParts.{NetParts}
use Rattle.mv_net.specs.Nets.{slot, name_in, values_in, spelled_in, port_of, latch_port_of, interface_of}
use Rattle.mv_net.specs.Formed.{IsReadable, WellFormed}
use Rattle.mv_net.specs.Allowed.{of_net}
use Rattle.mv_text.specs.Text.{names_of, numbers}
use Rattle.mv_text_back.proofs.TextModel.{IsLatchOf, AreLatchesOf, IsModelOf}
use Rattle.mv_text_back.proofs.Resets.{latch-driven}
use Rattle.mv_text_back.proofs.Spelled.{spelled-held}
use Rattle.mv_text_back.proofs.Numbers.{AllReadable}
use Rattle.mv_text_back.proofs.Ports.{all-readable, read-inputs}
use Rattle.mv_text_back.proofs.OwnResets.{has-same}

-- ---- the values of a net as the model declares them

pub values_are : (net : NetParts) (m : FileModel) → IsModelOf net m → (k : ℕ) → IsReadable net.nets k
    → values_of m.decls (name_in (slot net.nets k)) ≡ spelled_in (slot net.nets k)
values_are net m model k r =
    ap (λ f. values_of m.decls (name_in f)) r.held ∙ (model.values k r ∙ sym (ap spelled_in r.held))

pub count_is : (net : NetParts) (m : FileModel) → WellFormed net → IsModelOf net m → (k : ℕ) → IsReadable net.nets k
    → count_of m.decls (name_in (slot net.nets k)) ≡ values_in (slot net.nets k)
count_is net m formed model k r =
    ap length (values_are net m model k r ∙ ap spelled_in r.held) ∙ ((spelled-held net formed k r.net r.held).count ∙ sym (ap values_in r.held))

-- ---- the interface

port_is : (net : NetParts) (m : FileModel) → IsModelOf net m → (n : NetId) → IsReadable net.nets n.0 → port m (name_in (slot net.nets n.0)) ≡ port_of net.nets n
port_is net m model n r =
    let P : List (List ℕ) → Port = λ vs. record { name = name_in (slot net.nets n.0); values = vs } in
    ap P (values_are net m model n.0 r)

ports_are : (net : NetParts) (m : FileModel) → IsModelOf net m → (ns : List NetId) → AllReadable net.nets (numbers ns)
    → map (port m) (names_of net.nets ns) ≡ map (port_of net.nets) ns
ports_are net m model [] h = refl
ports_are net m model (n ∷ ns) h =
    ap (λ p. p ∷ map (port m) (names_of net.nets ns)) (port_is net m model n h.0) ∙ ap (λ ps. port_of net.nets n ∷ ps) (ports_are net m model ns h.1)

-- the values of a latch as one of the model
latch_values : (net : NetParts) (m : FileModel) → WellFormed net → IsModelOf net m → (i : ℕ) (l : FlatLatch) → slice_get net.latches i ≡ Some l
    → (h : FileLatch) → IsLatchOf net.nets l h → values_of m.decls h.output ≡ spelled_in (slot net.nets l.output.0)
latch_values net m formed model i l listed h is =
    ap (values_of m.decls) is.output ∙ values_are net m model l.output.0 (latch-driven net formed i l listed)

pub latch_count : (net : NetParts) (m : FileModel) → WellFormed net → IsModelOf net m → (i : ℕ) (l : FlatLatch) → slice_get net.latches i ≡ Some l
    → (h : FileLatch) → IsLatchOf net.nets l h → count_of m.decls h.output ≡ values_in (slot net.nets l.output.0)
latch_count net m formed model i l listed h is =
    ap (count_of m.decls) is.output ∙ count_is net m formed model l.output.0 (latch-driven net formed i l listed)

latch_is : (net : NetParts) (m : FileModel) → WellFormed net → IsModelOf net m → (i : ℕ) (l : FlatLatch) → slice_get net.latches i ≡ Some l → (h : FileLatch)
    → IsLatchOf net.nets l h → latch_port m h ≡ latch_port_of net.nets l
latch_is net m formed model i l listed h is =
    rw (has-same net formed i l listed h is m model, latch_values net m formed model i l listed h is, is.output) refl

latches_are : (net : NetParts) (m : FileModel) (ls : List FlatLatch) (hs : List FileLatch) → AreLatchesOf net.nets ls hs
    → ((i : ℕ) (l : FlatLatch) → slice_get ls i ≡ Some l → (h : FileLatch) → IsLatchOf net.nets l h → latch_port m h ≡ latch_port_of net.nets l)
    → map (latch_port m) hs ≡ map (latch_port_of net.nets) ls
latches_are net m [] [] are each = refl
latches_are net m [] (h ∷ hs) are each = absurd are
latches_are net m (l ∷ ls) [] are each = absurd are
latches_are net m (l ∷ ls) (h ∷ hs) are each =
    ap (λ p. p ∷ map (latch_port m) hs) (each 0 l refl h are.0)
    ∙ ap (λ ps. latch_port_of net.nets l ∷ ps) (latches_are net m ls hs are.1 (λ i k e g is. each (suc i) k e g is))

pub same_interface : (net : NetParts) (m : FileModel) → WellFormed net → IsModelOf net m → (of_model m).interface ≡ (of_net net).interface
unfolding of_model of_net interface_of
same_interface net m formed model =
    let ins = ap (map (port m)) model.inputs ∙ ports_are net m model net.inputs (all-readable net formed net.inputs (read-inputs net formed)) in
    let outs = ap (map (port m)) model.outputs ∙ ports_are net m model net.outputs (all-readable net formed net.outputs formed.outputs) in
    let latches = latches_are net m net.latches m.latches model.latches (latch_is net m formed model) in
    λ j. record { inputs = ins j; outputs = outs j; latches = latches j }
