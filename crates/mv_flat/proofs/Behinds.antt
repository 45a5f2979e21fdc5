-- The nets of tables, one table after the other behind the nets of the inputs.
use Rattle.std.proofs.Common.{◌≡◌, ℕ, zero, suc, ◌+◌, ◌*◌, ◌<◌, ◌≤◌, ◌^◌, true, List, [], ◌∷◌, ◌++◌, length, drop, get_or, Option, Some, None, refl, sym, ◌∙◌, ap, subst, arith, append_assoc, All}
use Rattle.std.specs.List.{flat_map}
use Rattle.std.proofs.lemmas.Bool.{cond-true, or_left}
use Rattle.std.proofs.lemmas.List.{append-nil, length-append, drop_more, drop_all}
use Rattle.std.proofs.lemmas.List.Elements.{All-head, All-tail, All-get_or}
use Rattle.mv_base.specs.Names.{among}
use Rattle.mv_base.specs.declared.limits.TheConstants.{MAX_NETS}
use Rattle.mv_base.proofs.NameLemmas.{same_word_refl}
use Rattle.mv_cover.specs.declared.cover.Cover.{Cover}
use Rattle.mv_design.specs.declared.design.Decl.{Decl}
use Rattle.mv_design.specs.declared.design.FileModel.{FileModel}
use Rattle.mv_design.specs.declared.table.FileTable.{FileTable}
use Rattle.mv_rows.specs.declared.table.FlatTable.{FlatTable}
use Rattle.mv_joint.specs.declared.joint.JointTable.{JointTable}
use Rattle.mv_net.specs.declared.parts.FlatNet.{FlatNet}
use Rattle.mv_design.specs.Nets.{nets_driven, columns_of, drivers, output_of}
use Rattle.mv_flat.specs.declared.covers.TableCovers.{TableCovers}
use Rattle.mv_flat.specs.declared.covers.TableCovers.TheVariants.{Single, Joint}
use Rattle.mv_flat.specs.Covers.{MadeNet, IsMadeTable, made_mark, made_of, outputs_of}
use Rattle.mv_flat.specs.Places.{is_joint, marks_of, choices_of, made_places, table_places, net_places}
use Rattle.mv_resets.specs.NetModels.{HasSoundNets, IsNetModel, IsNetTable}
use Rattle.mv_acyclic.specs.Sound.{IsDrivenOnce}
use Rattle.mv_acyclic.proofs.Soundness.{in_left, in_right}
use Rattle.mv_flat.proofs.Lawful.{open_names, drivers_split}
use Rattle.mv_flat.proofs.Distinct.{places_split, places_driven, driver_is_place}
use Rattle.mv_acyclic.proofs.Distinct.{net_is_driven}
use Rattle.mv_acyclic.proofs.Commands.{column_named, named_is_net}
use Rattle.mv_flat.specs.Numbers.{columns_at, mark_at, choice_name, choice_at, made_name}
use Rattle.mv_flat.specs.Built.{file_net, kind_of, output_nets, AreTables}
use Rattle.mv_flat.specs.Marks.{IsLast, AddsMade, AddsMark, AddsNets, TableNets}
use Rattle.mv_flat.specs.Placed.{IsPlacedTable, ArePlaced, AddsTables}
use Rattle.mv_flat.proofs.Known.{tables_known}
use Rattle.mv_flat.proofs.MadeNames.{last_few, AddsAll, adds_mark, adds_none, adds_one}

-- ---- one table

-- what made nets and the nets of outputs with these covers are, is what the nets of a table are
table_adds : (ds : List Decl) (names : List (List ℕ)) (t : FileTable) (covers : TableCovers) (before last : ℕ) (old mid new : List (Option FlatNet))
    → IsMadeTable (columns_at ds names t) t (mark_at names t) (choice_at names t) covers → length (made_of covers) ≤ 2
    → AddsAll names (made_of covers) before last old mid → new ≡ mid ++ output_nets ds t.outputs (outputs_of covers)
    → AddsNets (TableNets ds names t) names before last old new
table_adds ds names t covers before last old mid new made few adds e =
    let outs = output_nets ds t.outputs (outputs_of covers) in
    record {
      here = adds.here ++ outs;
      joined = e ∙ (ap (λ ns. ns ++ outs) adds.joined ∙ append_assoc old adds.here outs);
      behind = λ held h.
          let b = adds.behind held h in
          record {
            after = b.after;
            are = record { covers = covers; are = made; made = adds.here; are_made = b.are; nets_are = refl };
            lasts = b.lasts;
            few = let m = b.many in omega arith;
          };
    }

mark_few : (mark : Option Cover) (more : List MadeNet) → length more ≤ 1 → length (made_mark mark ++ more) ≤ 2
mark_few None more few = omega (arith, few)
mark_few (Some c) more few = omega (arith, few)

-- the net of the first output
single_nets : (ds : List Decl) (os : List (List ℕ)) (c : Cover) (out : List ℕ) → 0 < length os → out ≡ get_or os 0 out
    → file_net ds (kind_of out) (Some c) out ∷ [] ≡ output_nets ds os (c ∷ [])
single_nets ds [] c out some is = absurd (omega (arith, some))
single_nets ds (o ∷ []) c out some is = ap (λ w. file_net ds (kind_of w) (Some c) w ∷ []) is
single_nets ds (o ∷ p ∷ os) c out some is = ap (λ w. file_net ds (kind_of w) (Some c) w ∷ []) is

pub adds_single : (ds : List Decl) (names : List (List ℕ)) (t : FileTable) (flat : FlatTable) (outs : List (List ℕ)) (out : List ℕ) (before last : ℕ)
    (old mid new : List (Option FlatNet))
    → IsMadeTable (columns_at ds names t) t (mark_at names t) (choice_at names t) (Single flat) → 0 < length t.outputs
    → AddsMark names flat.mark before last old mid → outs ≡ t.outputs → out ≡ get_or outs 0 out
    → new ≡ mid ++ file_net ds (kind_of out) (Some flat.cover) out ∷ [] → AddsNets (TableNets ds names t) names before last old new
adds_single ds names t flat outs out before last old mid new made some marks outs_are first e =
    table_adds ds names t (Single flat) before last old mid new made (mark_few flat.mark [] (omega arith))
    (adds_mark names flat.mark [] before last last old mid mid marks (adds_none names last mid))
    (e ∙ ap (λ ns. mid ++ ns) (single_nets ds t.outputs flat.cover out some (first ∙ ap (λ os. get_or os 0 out) outs_are)))

pub adds_joint : (ds : List Decl) (names : List (List ℕ)) (t : FileTable) (joint : JointTable) (outs : List (List ℕ)) (before mid last : ℕ)
    (old marked chosen new : List (Option FlatNet))
    → IsMadeTable (columns_at ds names t) t (mark_at names t) (choice_at names t) (Joint joint)
    → AddsMark names joint.mark before mid old marked → AddsMade names (record { values = joint.values; cover = joint.choice }) mid last marked chosen
    → outs ≡ t.outputs → new ≡ chosen ++ output_nets ds outs joint.outputs → AddsNets (TableNets ds names t) names before last old new
adds_joint ds names t joint outs before mid last old marked chosen new made marks choice outs_are e =
    let one : MadeNet = record { values = joint.values; cover = joint.choice } in
    table_adds ds names t (Joint joint) before last old chosen new made (mark_few joint.mark (one ∷ []) (omega arith))
    (adds_mark names joint.mark (one ∷ []) before mid last old marked chosen marks
    (adds_one names one [] mid last last marked chosen chosen choice (adds_none names last chosen)))
    (e ∙ ap (λ os. chosen ++ output_nets ds os joint.outputs) outs_are)

pub ruleset adds_tables = (adds_single, adds_joint)

-- ---- the tables, from the first on

-- nets with those of the first i tables behind them: whatever the others give comes behind
pub record TablesMade (m : FileModel) (names : List (List ℕ)) (i last : ℕ) (old new : List (Option FlatNet)) : Type 0 where
  pub held : List (List ℕ)
  pub here : List (Option FlatNet)
  pub joined : new ≡ old ++ here
  pub rest : (more : List (Option FlatNet)) → AreTables m.decls names (drop i m.tables) held more → AreTables m.decls names m.tables (drivers m) (here ++ more)
  pub lasts : IsLast names held last
  pub few : length held ≤ length (drivers m) + 2 * i

pub tables_first : (m : FileModel) (names : List (List ℕ)) (nets : List (Option FlatNet)) → ArePlaced m names → TablesMade m names 0 0 nets nets
tables_first m names nets p = record {
  held = drivers m;
  here = [];
  joined = sym (append-nil nets);
  rest = λ more h. h;
  lasts = record {
    small = omega arith;
    before = λ k low high. absurd (omega arith);
    behind = λ k low small. sym (places_driven m (made_name k) refl) ∙ ap (among (made_name k)) (sym p.are);
  };
  few = omega arith;
}

pub tables_more : (m : FileModel) (names : List (List ℕ)) (i before last : ℕ) (t : FileTable) (start old new : List (Option FlatNet)) → i < length m.tables → t ≡ get_or m.tables i t → TablesMade m names i before start old → AddsNets (TableNets m.decls names t) names before last old new → TablesMade m names (i + 1) last start new
tables_more m names i before last t start old new low is made adds =
    let b = adds.behind made.held made.lasts in
    let more_tables : drop i m.tables ≡ t ∷ drop (i + 1) m.tables = drop_more m.tables i t low ∙ ap (λ x. x ∷ drop (i + 1) m.tables) (sym is) in
    record {
      held = b.after;
      here = made.here ++ adds.here;
      joined = adds.joined ∙ (ap (λ ns. ns ++ adds.here) made.joined ∙ append_assoc start made.here adds.here);
      rest = λ more h.
          let P : List FileTable → Type 0 = λ ts. AreTables m.decls names ts made.held (adds.here ++ more) in
          let Q : List (Option FlatNet) → Type 0 = AreTables m.decls names m.tables (drivers m) in
          subst Q (sym (append_assoc made.here adds.here more))
          (made.rest (adds.here ++ more)
          (subst P (sym more_tables) (record { here = adds.here; rest = more; after = b.after; are_here = b.are; are_rest = h; joined = refl })));
      lasts = b.lasts;
      few = let f = b.few in let g = made.few in omega arith;
    }

pub tables_last : (m : FileModel) (names : List (List ℕ)) (i last : ℕ) (old new : List (Option FlatNet)) → ArePlaced m names → length m.tables ≤ i → TablesMade m names i last old new → AddsTables m old new
tables_last m names i last old new p high made =
    let P : List FileTable → Type 0 = λ ts. AreTables m.decls names ts made.held [] in
    let Q : List (List ℕ) → Type 0 = λ ns. AreTables m.decls ns m.tables (drivers m) (made.here ++ []) in
    let R : List (Option FlatNet) → Type 0 = AreTables m.decls (net_places m) m.tables (drivers m) in
    record {
      here = made.here;
      joined = made.joined;
      are = subst R (append-nil made.here) (subst Q p.are (made.rest [] (subst P (sym (drop_all i m.tables high)) refl)));
    }

-- the numbers of made names stay small
pub tables_room : (m : FileModel) (names : List (List ℕ)) (i last : ℕ) (old new : List (Option FlatNet)) → ArePlaced m names → i < length m.tables → TablesMade m names i last old new
    → last + 2 * length names + 4 < 2 ^ 32
tables_room m names i last old new p low made =
    let l = last_few names made.held last made.lasts in
    let f = made.few in
    let d = p.driven in
    let n = p.few in
    omega arith

pub table_at : (m : FileModel) (names : List (List ℕ)) (i : ℕ) (t : FileTable) → ArePlaced m names → i < length m.tables → t ≡ get_or m.tables i t → IsPlacedTable m.decls names t
table_at m names i t p low is =
    let P : FileTable → Type 0 = IsPlacedTable m.decls names in
    subst P (sym is) (All-get_or P m.tables i t low p.tables)

-- the nets of a table are among those of all
within_tables : (ds : List Decl) (w : List ℕ) (ts : List FileTable) (i : ℕ) (d : FileTable) → i < length ts → among w (table_places ds (get_or ts i d)) ≡ true
    → among w (flat_map (table_places ds) ts) ≡ true
within_tables ds w [] i d low h = absurd (omega (arith, low))
within_tables ds w (t ∷ ts) zero d low h = in_left w (table_places ds t) (flat_map (table_places ds) ts) h
within_tables ds w (t ∷ ts) (suc i) d low h =
    in_right w (table_places ds t) (flat_map (table_places ds) ts) (within_tables ds w ts i d (omega (arith, low)) h)

-- the choice net of a table of several outputs has a number
choice_listed : (m : FileModel) (names : List (List ℕ)) (i : ℕ) (d : FileTable) → names ≡ net_places m → i < length m.tables → is_joint (get_or m.tables i d) ≡ true
    → among (choice_name (output_of (get_or m.tables i d))) names ≡ true
choice_listed m names i d are low joint =
    let t = get_or m.tables i d in
    let w = choice_name (output_of t) in
    let there : among w (choices_of t) ≡ true = ap (among w) (cond-true (is_joint t) (w ∷ []) [] joint) ∙ or_left _ _ (same_word_refl w) in
    let here : among w (table_places m.decls t) ≡ true = in_left w (made_places m.decls t) t.outputs (in_right w (marks_of m.decls t) (choices_of t) there) in
    ap (among w) (are ∙ places_split m) ∙ in_right w (open_names m) _ (within_tables m.decls w m.tables i d low here)

pub choice_at_table : (m : FileModel) (names : List (List ℕ)) (i : ℕ) (t : FileTable) → names ≡ net_places m → i < length m.tables → t ≡ get_or m.tables i t
    → is_joint t ≡ true → among (choice_name (output_of t)) names ≡ true
choice_at_table m names i t are low is joint =
    let P : FileTable → Type 0 = λ u. among (choice_name (output_of u)) names ≡ true in
    subst P (sym is) (choice_listed m names i t are low (ap is_joint (sym is) ∙ joint))

pub tables_chosen : (m : FileModel) (names : List (List ℕ)) → names ≡ net_places m
    → All (λ (t : FileTable). is_joint t ≡ true → among (choice_name (output_of t)) names ≡ true) m.tables
tables_chosen m names are = λ k d low joint. choice_listed m names k d are low joint

pub ruleset tabled = (tables_first, tables_more, tables_last, tables_room, table_at)

-- ---- a sound model's nets have numbers

column_known : (m : FileModel) (w : List ℕ) → IsNetModel m → IsDrivenOnce m → among w (flat_map columns_of m.tables) ≡ true → among w (net_places m) ≡ true
column_known m w p once h = driver_is_place m p w (net_is_driven m w once (named_is_net m w (column_named m w h)))

drivers_few : (ds : List Decl) (ts : List FileTable) → length (flat_map nets_driven ts) ≤ length (flat_map (table_places ds) ts)
drivers_few ds [] = omega arith
drivers_few ds (t ∷ ts) =
    let a = length-append t.outputs (flat_map nets_driven ts) in
    let b = length-append (table_places ds t) (flat_map (table_places ds) ts) in
    let c = length-append (made_places ds t) t.outputs in
    let r = drivers_few ds ts in
    omega arith

tables_few : (ds : List Decl) (ts : List FileTable) → All (IsNetTable ds) ts → length ts ≤ length (flat_map nets_driven ts)
tables_few ds [] all = omega arith
tables_few ds (t ∷ ts) all =
    let s = (All-head (IsNetTable ds) t ts all).some in
    let a = length-append t.outputs (flat_map nets_driven ts) in
    let r = tables_few ds ts (All-tail (IsNetTable ds) t ts all) in
    omega arith

outputs_within : (ds : List Decl) (ts : List FileTable) (i : ℕ) (d : FileTable) → i < length ts
    → length (get_or ts i d).outputs ≤ length (flat_map (table_places ds) ts)
outputs_within ds [] i d low = absurd (omega (arith, low))
outputs_within ds (t ∷ ts) zero d low =
    let a = length-append (table_places ds t) (flat_map (table_places ds) ts) in
    let b = length-append (made_places ds t) t.outputs in
    omega arith
outputs_within ds (t ∷ ts) (suc i) d low =
    let a = length-append (table_places ds t) (flat_map (table_places ds) ts) in
    let r = outputs_within ds ts i d (omega (arith, low)) in
    omega arith

-- a table has no more outputs than there are nets
pub outputs_few : (m : FileModel) (names : List (List ℕ)) (i : ℕ) (t : FileTable) → ArePlaced m names → i < length m.tables → t ≡ get_or m.tables i t
    → length t.outputs ≤ MAX_NETS
outputs_few m names i t p low is =
    let a = ap length (p.are ∙ places_split m) ∙ length-append (open_names m) (flat_map (table_places m.decls) m.tables) in
    let b = outputs_within m.decls m.tables i t low in
    let c = ap (λ (u : FileTable). length u.outputs) is in
    let f = p.few in
    omega arith

driven_few : (m : FileModel) → IsNetModel m → length (net_places m) ≤ MAX_NETS → length (drivers m) + 2 * length m.tables ≤ 3 * MAX_NETS
driven_few m p few =
    let a = ap length (drivers_split m) ∙ length-append (open_names m) (flat_map nets_driven m.tables) in
    let b = ap length (places_split m) ∙ length-append (open_names m) (flat_map (table_places m.decls) m.tables) in
    let c = drivers_few m.decls m.tables in
    let d = tables_few m.decls m.tables p.tables in
    omega arith

pub placed : (m : FileModel) (names : List (List ℕ)) → IsNetModel m → HasSoundNets m → names ≡ net_places m → length names ≤ MAX_NETS → ArePlaced m names
placed m names p s e few =
    let P : List (List ℕ) → Type 0 = λ ns. All (IsPlacedTable m.decls ns) m.tables in
    record {
      are = e;
      few = few;
      driven = driven_few m p (let l = ap length e in omega arith);
      tables = subst P (sym e) (tables_known m.decls (net_places m) m.tables p.tables (λ w y. column_known m w p s.once y));
    }
