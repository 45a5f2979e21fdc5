-- What lines say of the latches of their network can be written with it.
use Rattle.std.proofs.Common.{◌≡◌, ◌∙◌, ℕ, zero, suc, true, List, [], ◌∷◌, drop, Some, refl, sym, ap, subst, All}
use Rattle.std.specs.Prelude.{map, slice_get}
use Rattle.std.specs.List.{flat_map}
use Rattle.std.proofs.lemmas.List.{map-id}
use Rattle.std.proofs.lemmas.List.Elements.{All-get_or}
use Rattle.std.proofs.lemmas.Option.{none-some, slice_get_within, get_or_from_slice_get}
use Rattle.std.proofs.lemmas.Simd.{map-map}
use Rattle.mv_base.specs.Meaning.{LatchPort, Port}
use Rattle.mv_base.specs.Names.{among, names_differ}
use Rattle.mv_lex.specs.declared.lines.LexLine.{LexLine}
use Rattle.mv_design.specs.declared.design.FileLatch.{FileLatch}
use Rattle.mv_design.specs.declared.design.FileModel.{FileModel}
use Rattle.mv_design.specs.Meaning.{has_reset_table, port}
use Rattle.mv_design.specs.Nets.{root_of}
use Rattle.mv_design.specs.Proper.{numbers_ascend, IsProper}
use Rattle.mv_line.specs.Latches.{latch_of}
use Rattle.mv_line.specs.Words.{behind_first}
use Rattle.mv_parse_laws.specs.Lines.{numbers_of}
use Rattle.mv_tree.specs.Meaning.{placed_port}
use Rattle.mv_tree.specs.Places.{root_place}
use Rattle.mv_latch.specs.declared.latch.BlifLatch.{BlifLatch}
use Rattle.mv_blif_line.specs.Latches.{settings_at, resets_at}
use Rattle.mv_blif.specs.declared.design.BlifDesign.{BlifDesign}
use Rattle.mv_blif.specs.Grammar.{faults_of, IsBlif, AreWithinLimits}
use Rattle.mv_blif.specs.Known.{inputs_of}
use Rattle.mv_blif.specs.Meaning.{latches_of, resets_of, settings_said, blif_model, blif_of}
use Rattle.mv_blif_laws.proofs.Proper.{proper}
use Rattle.mv_net.specs.declared.parts.FlatLatch.{FlatLatch}
use Rattle.mv_net.specs.declared.parts.NetParts.{NetParts}
use Rattle.mv_net.specs.Nets.{latch_port_of, port_of}
use Rattle.mv_text.specs.Text.{names_of}
use Rattle.mv_flat.specs.Flat.{IsFlat}
use Rattle.mv_blif_back.specs.Said.{IsSaid, AreSaid}
use Rattle.mv_blif_read.specs.declared.network.FileNetwork.{FileNetwork}
use Rattle.mv_blif_read.specs.Reads.{IsBlifNetOf}
use Rattle.mv_blif_read.proofs.Alone.{IsNetOfModel, alone_net}
use Rattle.mv_blif_read.proofs.Controls.{IsControlled, all-controlled}
use Rattle.mv_blif_read.proofs.Latches.{latch_lines, said-each, said-once, IsBare, words-plain, words-low, all-bare}
use Rattle.mv_blif_read.proofs.Refused.{no-faults}
use Rattle.mv_blif_read.proofs.Resets.{output_at, begins_at, own-reset}

-- ---- the network of lines is that of their model

pub net_of_lines : (lines : List LexLine) (b : FileNetwork) → numbers_ascend (numbers_of lines) ≡ true → IsBlifNetOf lines b
    → IsNetOfModel (blif_model lines) b.net
unfolding blif_of root_of
net_of_lines lines b up h =
    let P : BlifDesign → Type 0 = λ d. IsFlat b.net d.design in
    let Q : BlifDesign → Type 0 = λ d. IsProper d.design in
    alone_net (blif_of lines).design b.net (subst Q h.is.is (proper lines h.design up h.is h.within)) (subst P h.is.is h.flat) refl

-- ---- what is said of a latch

-- what the line of a latch says of it, where its model has these inputs, and its reset table where it has one
pub record IsLatchLine (inputs : List (List ℕ)) (m : FileModel) (l : LexLine) : Type 0 where
  pub bare : IsBare (settings_at l)
  pub control : IsControlled inputs l
  pub reset : has_reset_table m.resets (latch_of l) ≡ begins_at l

-- the inputs of the network have the names of the model's
inputs_named : (m : FileModel) (net : NetParts) → IsNetOfModel m net → names_of net.nets net.inputs ≡ m.inputs
inputs_named m net is =
    let name : Port → List ℕ = λ p. p.name in
    sym (map-map name (port_of net.nets) net.inputs)
    ∙ (ap (map name) is.inputs ∙ (map-map name (port m) m.inputs ∙ map-id m.inputs))

said_at : (m : FileModel) (net : NetParts) (f : FlatLatch) (l : LexLine) → IsNetOfModel m net
    → latch_port_of net.nets f ≡ placed_port (root_place m) (latch_of l) → IsLatchLine m.inputs m l → IsSaid net f (settings_at l)
said_at m net f l is same h = record {
  bare = h.bare;
  control = λ w e. ap (among w) (inputs_named m net is) ∙ h.control w e;
  plain = λ w e. words-plain (drop 2 (behind_first l)) w e;
  init = words-low (drop 2 (behind_first l));
  reset = ap (λ (p : LatchPort). p.has_reset) same ∙ h.reset;
}

all_said : (m : FileModel) (net : NetParts) (fs : List FlatLatch) (ls : List LexLine) → IsNetOfModel m net
    → map (latch_port_of net.nets) fs ≡ map (placed_port (root_place m)) (map latch_of ls)
    → ((k : ℕ) (l : LexLine) → slice_get ls k ≡ Some l → IsLatchLine m.inputs m l) → AreSaid net fs (map settings_at ls)
all_said m net [] [] is same each = tt
all_said m net [] (l ∷ ls) is same each = cc
all_said m net (f ∷ fs) [] is same each = cc
all_said m net (f ∷ fs) (l ∷ ls) is same each =
    let here : latch_port_of net.nets f ≡ placed_port (root_place m) (latch_of l) = cc in
    let rest : map (latch_port_of net.nets) fs ≡ map (placed_port (root_place m)) (map latch_of ls) = cc in
    (said_at m net f l is here (each 0 l refl), all_said m net fs ls is rest (λ k x e. each (suc k) x e))

-- ---- the latches of lines

all_at : {X : Type 0} (P : X → Type 0) (xs : List X) (k : ℕ) (x : X) → All P xs → slice_get xs k ≡ Some x → P x
all_at P xs k x all e = subst P (get_or_from_slice_get xs k x x e) (All-get_or P xs k x (slice_get_within xs k x e) all)

pub latch_line : (lines : List LexLine) (net : NetParts) → IsNetOfModel (blif_model lines) net → faults_of lines ≡ [] → (k : ℕ) (l : LexLine)
    → slice_get (latch_lines lines) k ≡ Some l → IsLatchLine (inputs_of lines) (blif_model lines) l
unfolding faults_of
latch_line lines net is none k l e =
    let ls : List LexLine = latch_lines lines in
    let out : FileLatch → List ℕ = λ x. x.output in
    let differ : names_differ (map output_at ls) ≡ true =
    ap names_differ (sym (ap (map out) (said-once latch_of lines) ∙ map-map out latch_of ls)) ∙ is.differ in
    record {
      bare = all_at (λ x. IsBare (settings_at x)) ls k l (all-bare [] lines none) e;
      control = all_at (IsControlled (inputs_of lines)) ls k l (all-controlled lines none) e;
      reset = ap (λ ts. has_reset_table ts (latch_of l)) (said-each resets_at lines) ∙ own-reset ls k l differ e;
    }

-- the network's latches are seen as those of these lines
pub lines_seen : (lines : List LexLine) (net : NetParts) → IsNetOfModel (blif_model lines) net
    → map (latch_port_of net.nets) net.latches ≡ map (placed_port (root_place (blif_model lines))) (map latch_of (latch_lines lines))
lines_seen lines net is = is.latches ∙ ap (map (placed_port (root_place (blif_model lines)))) (said-once latch_of lines)

-- what is said of them is what each of these lines says
pub settings_lines : (lines : List LexLine) (b : FileNetwork) → IsBlifNetOf lines b → b.latches ≡ map settings_at (latch_lines lines)
unfolding blif_of
settings_lines lines b h = h.said ∙ (ap (λ (d : BlifDesign). d.latches) h.is.is ∙ said-once settings_at lines)

pub latches_said : (lines : List LexLine) (b : FileNetwork) → numbers_ascend (numbers_of lines) ≡ true → IsBlifNetOf lines b
    → AreSaid b.net b.net.latches b.latches
latches_said lines b up h =
    let is = net_of_lines lines b up h in
    let none : faults_of lines ≡ [] = no-faults lines h.design h.is h.within in
    let P : List BlifLatch → Type 0 = AreSaid b.net b.net.latches in
    subst P (sym (settings_lines lines b h))
    (all_said (blif_model lines) b.net b.net.latches (latch_lines lines) is (lines_seen lines b.net is) (latch_line lines b.net is none))
