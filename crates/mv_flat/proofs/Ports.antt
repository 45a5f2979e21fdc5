-- The network of a model is seen from outside as the model is.
use Rattle.std.proofs.Common.{◌≡◌, ℕ, Bool, true, false, Option, Some, None, option_map, is_some, List, [], ◌∷◌, length, map, decimal, refl, sym, ◌∙◌, ap}
use Rattle.std.specs.Prelude.{if◌then◌else◌, nat_eq}
use Rattle.std.specs.List.{range_with_len}
use Rattle.std.specs.Cmp.Lexicographic.{pointwise}
use Rattle.std.proofs.lemmas.Slice.Eq.{bytes_eq-Decides, slice_eq-Decides}
use Rattle.mv_base.specs.Meaning.{Port}
use Rattle.mv_base.specs.Names.{among, place_of}
use Rattle.mv_base.proofs.NameLemmas.{is_some-place_of}
use Rattle.mv_base.specs.declared.number.NetId.{NetId}
use Rattle.mv_design.specs.Values.{values_of}
use Rattle.mv_design.specs.declared.design.FileLatch.{FileLatch}
use Rattle.mv_design.specs.declared.design.FileModel.{FileModel}
use Rattle.mv_net.specs.declared.parts.FlatNet.{FlatNet}
use Rattle.mv_net.specs.declared.parts.Kind.TheVariants.{Input, Latch}
use Rattle.mv_net.specs.declared.parts.NetParts.{NetParts}
use Rattle.mv_net.specs.Nets.{name_in, spelled_values, spelled_in, port_of, has_reset, latch_port_of, interface_of}
use Rattle.mv_design.specs.Nets.{nets_named}
use Rattle.mv_flat.specs.Places.{net_places}
use Rattle.mv_acyclic.specs.Numbers.{net_in}
use Rattle.mv_design.specs.Meaning.{port}
use Rattle.mv_flat.specs.Numbers.{are_numbers, kept_names}
use Rattle.mv_flat.specs.Built.{flat_latch, reset_in}
use Rattle.mv_resets.specs.Resets.{reset_name}
use Rattle.mv_resets.specs.Valued.{has_reset_net, latch_seen}
use Rattle.mv_flat.proofs.Distinct.{places_driven}
use Rattle.mv_flat.proofs.Places.{IsModelNet, named_file}
use Rattle.mv_acyclic.proofs.Commands.{output_named}
use Rattle.mv_flat.proofs.Naming.{among_first, among_later, map_same, open_named}

-- words that are found alike, one by one, are the same
pub same_words : (us ws : List (List ℕ)) → pointwise (pointwise nat_eq) us ws ≡ true → us ≡ ws
same_words us ws = (slice_eq-Decides bytes_eq-Decides us ws (pointwise (pointwise nat_eq) us ws) refl).0

-- the values of a net are spelled as they were, whether their names are kept or not
pub spelled-kept : (values : List (List ℕ)) → spelled_values (length values) (kept_names values) ≡ values
spelled-kept values = spelled values (are_numbers values) refl
  where
    spelled : (vs : List (List ℕ)) (b : Bool) → are_numbers vs ≡ b → spelled_values (length vs) (if b then [] else vs) ≡ vs
    spelled vs true e = sym (same_words vs (map decimal (range_with_len 0 (length vs))) e)
    spelled [] false e = refl
    spelled (v ∷ vs) false e = refl

port_is : (m : FileModel) (net : NetParts) → IsModelNet m net → (w : List ℕ) → among w (nets_named m) ≡ true → port_of net.nets (net_in (net_places m) w) ≡ port m w
port_is m net is w h =
    ap (λ (s : Option FlatNet). let p : Port = record { name = name_in s; values = spelled_in s } in p) (named_file m net is w h).held
    ∙ λ i. record { name = w; values = spelled-kept (values_of m.decls w) i }

ports_are : (m : FileModel) (net : NetParts) → IsModelNet m net → (ns : List NetId) (ws : List (List ℕ)) → ns ≡ map (net_in (net_places m)) ws → ((w : List ℕ) → among w ws ≡ true → among w (nets_named m) ≡ true) → map (port_of net.nets) ns ≡ map (port m) ws
ports_are m net is ns ws e named =
    ap (map (port_of net.nets)) e ∙ map_same (net_in (net_places m)) (port_of net.nets) (port m) ws (λ w h. port_is m net is w (named w h))

-- ---- latches

there_is : (o : Option ℕ) → has_reset (option_map (λ n. record { 0 = n }) o) ≡ is_some o
there_is None = refl
there_is (Some n) = refl

-- a latch has a reset net in the network where it has one in the model
reset_there : (m : FileModel) (w : List ℕ) → has_reset (reset_in (net_places m) w) ≡ has_reset_net m w
reset_there m w = there_is (place_of (reset_name w) (net_places m)) ∙ (is_some-place_of (reset_name w) (net_places m) ∙ places_driven m (reset_name w) refl)

latch_is : (m : FileModel) (net : NetParts) → IsModelNet m net → (l : FileLatch) → among l.output (nets_named m) ≡ true
    → latch_port_of net.nets (flat_latch (net_places m) l) ≡ latch_seen m l
latch_is m net is l h =
    let p = port_is m net is l.output h in
    λ i. record { name = (p i).name; values = (p i).values; has_reset = reset_there m l.output i }

latches_are : (m : FileModel) (net : NetParts) → IsModelNet m net → (ls : List FileLatch)
    → ((w : List ℕ) → among w (map (λ (l : FileLatch). l.output) ls) ≡ true → among w (nets_named m) ≡ true)
    → map (latch_port_of net.nets) (map (flat_latch (net_places m)) ls) ≡ map (latch_seen m) ls
latches_are m net is [] named = refl
latches_are m net is (l ∷ ls) named =
    λ i. latch_is m net is l (named l.output (among_first l.output _)) i ∷ latches_are m net is ls (λ w h. named w (among_later w l.output _ h)) i

pub looks_alike : (m : FileModel) (net : NetParts) → IsModelNet m net
    → interface_of net ≡ record { inputs = map (port m) m.inputs; outputs = map (port m) m.outputs; latches = map (latch_seen m) m.latches }
unfolding interface_of
looks_alike m net is =
    let ins = ports_are m net is net.inputs m.inputs is.built.inputs (open_named m Input) in
    let outs = ports_are m net is net.outputs m.outputs is.built.outputs (output_named m) in
    let latches = ap (map (latch_port_of net.nets)) is.built.latches ∙ latches_are m net is m.latches (open_named m Latch) in
    λ i. record { inputs = ins i; outputs = outs i; latches = latches i }
