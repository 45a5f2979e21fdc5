-- No name of a model's network is too long: its nets have the model's names, that of a reset net with a byte more, and a made
-- one has a number.
use Rattle.std.proofs.Common.{◌≡◌, ℕ, ◌+◌, ◌<◌, ◌≤◌, ◌^◌, true, List, [], ◌∷◌, ◌++◌, length, map, codes, decimal, Option, Some, None, sym, subst, arith}
use Rattle.std.specs.Prelude.{IfSome}
use Rattle.std.specs.List.{flat_map}
use Rattle.std.proofs.lemmas.Bool.{or_left}
use Rattle.std.proofs.lemmas.Fmt.{length-decimal-le}
use Rattle.std.proofs.lemmas.List.{length-append}
use Rattle.std.proofs.lemmas.List.Elements.{All-nil, All-cons, All-append}
use Rattle.mv_base.specs.Names.{among}
use Rattle.mv_base.specs.declared.limits.TheConstants.{MAX_FLAT_NAME_BYTES}
use Rattle.mv_base.proofs.NameLemmas.{same_word_refl}
use Rattle.mv_cover.specs.declared.cover.Cover.{Cover}
use Rattle.mv_design.specs.declared.design.Decl.{Decl}
use Rattle.mv_design.specs.declared.design.FileModel.{FileModel}
use Rattle.mv_design.specs.declared.table.FileTable.{FileTable}
use Rattle.mv_net.specs.declared.parts.FlatNet.{FlatNet}
use Rattle.mv_net.specs.declared.parts.NetParts.{NetParts}
use Rattle.mv_net.specs.declared.parts.Kind.{Kind}
use Rattle.mv_net.specs.declared.parts.Kind.TheVariants.{Input, Latch}
use Rattle.mv_design.specs.Nets.{drivers, latch_outputs, nets_driven}
use Rattle.mv_flat.specs.Places.{net_places}
use Rattle.mv_resets.specs.NetModels.{HasFewNets}
use Rattle.mv_acyclic.proofs.Soundness.{in_left, in_right}
use Rattle.mv_flat.specs.Numbers.{made_name}
use Rattle.mv_flat.specs.Built.{file_net, fresh_net, kind_of, open_nets, output_nets, AreMade, AreTables, IsBuilt}
use Rattle.mv_flat.specs.Covers.{MadeNet, made_of, outputs_of}
use Rattle.mv_flat.specs.Flat.{AreShort}

-- a net without a name, or with one that isn't too long
abbrev IsShort : Option FlatNet → Type 0
IsShort o = IfSome o (λ (f : FlatNet). length f.name ≤ MAX_FLAT_NAME_BYTES + 1)

-- no name among these is too long
abbrev AllShort : List (List ℕ) → Type 0
AllShort ws = (w : List ℕ) → among w ws ≡ true → length w ≤ MAX_FLAT_NAME_BYTES + 1

-- ---- made names

short_made : (n : ℕ) → n < 2 ^ 32 → length (made_name n) ≤ MAX_FLAT_NAME_BYTES + 1
short_made n small =
    let digits : length (decimal n) ≤ 10 = length-decimal-le 10 n (omega arith) (omega arith) (omega arith) in
    let size = length-append (codes "_m") (decimal n) in
    omega (arith, digits, size)

nets_made_short : (ms : List MadeNet) (held : List (List ℕ)) (nets : List (Option FlatNet)) (after : List (List ℕ)) → AreMade ms held nets after → AreShort nets
nets_made_short [] held nets after h = subst AreShort (sym h.nets_are) (All-nil IsShort)
nets_made_short (m ∷ ms) held nets after h =
    let name : length h.name ≤ MAX_FLAT_NAME_BYTES + 1 =
    subst (λ (w : List ℕ). length w ≤ MAX_FLAT_NAME_BYTES + 1) (sym h.fresh.is) (short_made h.fresh.number h.fresh.small) in
    subst AreShort (sym h.nets_are)
    (All-cons IsShort (fresh_net h.name m) h.rest name (nets_made_short ms (held ++ h.name ∷ []) h.rest after h.are_rest))

-- ---- the nets of the file

outputs_short : (ds : List Decl) (ws : List (List ℕ)) (cs : List Cover) → AllShort ws → AreShort (output_nets ds ws cs)
outputs_short ds [] cs all = All-nil IsShort
outputs_short ds (w ∷ ws) [] all = All-nil IsShort
outputs_short ds (w ∷ ws) (c ∷ cs) all =
    All-cons IsShort (file_net ds (kind_of w) (Some c) w) (output_nets ds ws cs) (all w (or_left _ _ (same_word_refl w)))
    (outputs_short ds ws cs (λ u h. all u (in_right u (w ∷ []) ws h)))

tables_short : (ds : List Decl) (names : List (List ℕ)) (ts : List FileTable) (held : List (List ℕ)) (nets : List (Option FlatNet))
    → AllShort (flat_map nets_driven ts) → AreTables ds names ts held nets → AreShort nets
tables_short ds names [] held nets all a = subst AreShort (sym a) (All-nil IsShort)
tables_short ds names (t ∷ ts) held nets all a =
    let here = a.are_here in
    let outputs : List (Option FlatNet) = output_nets ds t.outputs (outputs_of here.covers) in
    let named = outputs_short ds t.outputs (outputs_of here.covers) (λ w h. all w (in_left w t.outputs (flat_map nets_driven ts) h)) in
    let rest = tables_short ds names ts a.after a.rest (λ w h. all w (in_right w t.outputs (flat_map nets_driven ts) h)) a.are_rest in
    let table : AreShort (here.made ++ outputs) =
    All-append IsShort here.made outputs (nets_made_short (made_of here.covers) held here.made a.after here.are_made) named in
    subst AreShort (sym a.joined) (All-append IsShort a.here a.rest (subst AreShort (sym here.nets_are) table) rest)

open_short : (ds : List Decl) (kind : Kind) (ws : List (List ℕ)) → AllShort ws → AreShort (map (file_net ds kind None) ws)
open_short ds kind [] all = All-nil IsShort
open_short ds kind (w ∷ ws) all =
    All-cons IsShort (file_net ds kind None w) _ (all w (or_left _ _ (same_word_refl w))) (open_short ds kind ws (λ u h. all u (in_right u (w ∷ []) ws h)))

-- no name of a model's network is too long
pub names_short : (m : FileModel) (net : NetParts) → HasFewNets m → IsBuilt m net → AreShort net.nets
unfolding drivers
names_short m net few built =
    let outputs : List (List ℕ) = flat_map nets_driven m.tables in
    subst AreShort (sym built.nets_are)
    (All-append IsShort (open_nets m) built.of_tables
    (All-append IsShort (map (file_net m.decls Input None) m.inputs) (map (file_net m.decls Latch None) (latch_outputs m))
    (open_short m.decls Input m.inputs (λ w h. few.short w (in_left w m.inputs _ h)))
    (open_short m.decls Latch (latch_outputs m) (λ w h. few.short w (in_right w m.inputs _ (in_left w (latch_outputs m) outputs h)))))
    (tables_short m.decls (net_places m) m.tables (drivers m) built.of_tables
    (λ w h. few.short w (in_right w m.inputs _ (in_right w (latch_outputs m) outputs h))) built.are_tables))
