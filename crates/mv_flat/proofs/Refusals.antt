-- A model whose network is within the limits isn't refused: the covers of its tables are those that they have, and with more
-- tables a network is no smaller.
use Rattle.std.proofs.Common.{◌≡◌, ◌⊎◌, ℕ, List, [], ◌∷◌, ◌++◌, length, inl, inr, refl, sym, ◌∙◌, ap, subst, arith, ⊎_elim, All}
use Rattle.std.specs.Prelude.{Result, Some, Ok, Err, IfErr}
use Rattle.std.proofs.lemmas.Bool.{false≢true}
use Rattle.std.proofs.lemmas.List.{append_assoc}
use Rattle.std.proofs.lemmas.List.Elements.{All-head, All-tail}
use Rattle.mv_design.specs.declared.design.Decl.{Decl}
use Rattle.mv_design.specs.declared.design.FileModel.{FileModel}
use Rattle.mv_design.specs.declared.table.FileTable.{FileTable}
use Rattle.mv_design.specs.Nets.{drivers}
use Rattle.mv_design.specs.Proper.{IsLawful}
use Rattle.mv_fault.specs.Tells.{first}
use Rattle.mv_fault.specs.declared.flat.FlatFault.{FlatFault}
use Rattle.mv_fault.specs.declared.flat.FlatFault.TheVariants.{Memory}
use Rattle.mv_resets.specs.NetModels.{HasLawfulValues}
use Rattle.mv_resets.specs.Resets.{with_reset_nets}
use Rattle.mv_design.specs.declared.design.Design.{Design}
use Rattle.mv_design.specs.Nets.{root_of}
use Rattle.mv_tree.specs.Tree.{Instances}
use Rattle.mv_tree.specs.Unfolded.{unfolded}
use Rattle.mv_walk.proofs.Unique.{one_tree}
use Rattle.mv_acyclic.specs.Sound.{reads, IsSoundModel, IsWithinLimits, StandsAlone, TellsAbove}
use Rattle.mv_walk.specs.Walk.{walk_faults}
use Rattle.mv_graph.specs.Above.{IsAcyclic}
use Rattle.mv_unfold.specs.Sound.{IsSound, IsFault, IsWithinDesignLimits, model_of}
use Rattle.mv_unfold.specs.Whole.{HasWholeFault}
use Rattle.mv_unfold.proofs.Faultless.{no_faults}
use Rattle.mv_unfold.proofs.Sound.{fault_excludes}
use Rattle.mv_design.specs.Proper.{IsProper}
use Rattle.mv_flat.specs.declared.covers.TableCovers.{TableCovers}
use Rattle.mv_flat.specs.declared.covers.TableCovers.TheVariants.{Single, Joint}
use Rattle.mv_flat.specs.Covers.{IsTooWide}
use Rattle.mv_flat.specs.Numbers.{columns_at, mark_at}
use Rattle.mv_flat.specs.Places.{net_places}
use Rattle.mv_flat.specs.Placed.{IsPlacedTable}
use Rattle.mv_flat.specs.Size.{size_faults, size_of, AreCovers, FitsLimits, PassesLimit, IsPastLimit}
use Rattle.mv_flat.specs.Sized.{IsWithinSize, TellsLimit}
use Rattle.mv_flat.specs.Flat.{HasSmallNetwork, HasLargeNetwork, IsRefusedDesign}
use Rattle.mv_flat.proofs.Behinds.{placed}
use Rattle.mv_flat.proofs.OneCovers.{IsChosenTable, all_chosen, one_table}
use Rattle.mv_flat.proofs.Sizes.{HasCovers, none_past, within_limits, within_front}
use Rattle.mv_flat.proofs.Models.{with_nets, places_few}
use Rattle.mv_flat.proofs.Designs.{IsModelOf, design_sound, model_sound, root_named}
use Rattle.mv_flat.proofs.Told.{above_is_fault, walk_is_fault, whole_is_fault}

-- the first of some covers are those of the first tables
record AreFront (ds : List Decl) (names : List (List ℕ)) (ts : List FileTable) (all : List TableCovers) : Type 0 where
  front : List TableCovers
  rest : List TableCovers
  are : AreCovers ds names ts front
  joined : all ≡ front ++ rest

covers_front : (ds : List Decl) (names : List (List ℕ)) (ts us : List FileTable) (all : List TableCovers) → AreCovers ds names (ts ++ us) all → AreFront ds names ts all
covers_front ds names [] us all are = record { front = []; rest = all; are = tt; joined = refl }
covers_front ds names (t ∷ ts) us [] are = absurd are
covers_front ds names (t ∷ ts) us (c ∷ all) are =
    let behind = covers_front ds names ts us all are.1 in
    record { front = c ∷ behind.front; rest = behind.rest; are = (are.0, behind.are); joined = ap (λ cs. c ∷ cs) behind.joined }

module _ (ds : List Decl) (names : List (List ℕ)) (proper : All HasLawfulValues ds) where
  one_covers : (ts us : List FileTable) (all others : List TableCovers) → All (IsChosenTable ds names) (ts ++ us) → AreCovers ds names ts all
      → AreCovers ds names ts others → all ≡ others
  one_covers [] us [] [] known p q = refl
  one_covers [] us [] (d ∷ others) known p q = absurd q
  one_covers [] us (c ∷ all) others known p q = absurd p
  one_covers (t ∷ ts) us [] others known p q = absurd p
  one_covers (t ∷ ts) us (c ∷ all) [] known p q = absurd q
  one_covers (t ∷ ts) us (c ∷ all) (d ∷ others) known p q =
      let same = one_table ds names t c d proper (All-head (IsChosenTable ds names) t (ts ++ us) known) p.0 q.0 in
      let rest = one_covers ts us all others (All-tail (IsChosenTable ds names) t (ts ++ us) known) p.1 q.1 in
      λ i. same i ∷ rest i

-- a table that is too wide has no covers
wide_uncovered : (ds : List Decl) (names : List (List ℕ)) (t : FileTable) (f : FlatFault) (covers : TableCovers)
    → IsTooWide (columns_at ds names t) t (mark_at names t) f → HasCovers ds names t covers → ⊥
wide_uncovered ds names t f (Single flat) wide made = false≢true (sym made.0 ∙ wide.joint)
wide_uncovered ds names t f (Joint joint) wide made = let m = made.1.few in let w = wide.wide in omega arith

wide_between : (ds : List Decl) (names : List (List ℕ)) (ts us : List FileTable) (t : FileTable) (f : FlatFault) (all : List TableCovers)
    → IsTooWide (columns_at ds names t) t (mark_at names t) f → AreCovers ds names (ts ++ t ∷ us) all → ⊥
wide_between ds names [] us t f [] wide are = are
wide_between ds names [] us t f (c ∷ all) wide are = wide_uncovered ds names t f c wide are.0
wide_between ds names (u ∷ ts) us t f [] wide are = are
wide_between ds names (u ∷ ts) us t f (c ∷ all) wide are = wide_between ds names ts us t f all wide are.1

none_told : (fs : List FlatFault) (f : FlatFault) → fs ≡ [] → first fs ≡ Some f → ⊥
none_told fs f e h = cc

-- the first tables pass no limit where all pass none
limit_excludes : (nets : ℕ) (m : FileModel) (f : FlatFault) (ts us : List FileTable) → All HasLawfulValues m.decls
    → All (IsPlacedTable m.decls (net_places m)) m.tables → m.tables ≡ ts ++ us → PassesLimit nets m ts f → FitsLimits nets m → ⊥
limit_excludes nets m f ts us proper known tables p fits =
    let C : List FileTable → Type 0 = λ vs. AreCovers m.decls (net_places m) vs fits.has.covers in
    let K : List FileTable → Type 0 = All (IsChosenTable m.decls (net_places m)) in
    let front = covers_front m.decls (net_places m) ts us fits.has.covers (subst C tables fits.has.are) in
    let same = one_covers m.decls (net_places m) proper ts us front.front p.has.covers (subst K tables (all_chosen m known)) front.are p.has.are in
    let all : fits.size ≡ size_of nets (ts ++ us) (front.front ++ front.rest) = fits.has.is ∙ (λ i. size_of nets (tables i) (front.joined i)) in
    let within = within_front nets ts us front.front front.rest (subst IsWithinSize all (within_limits fits.size fits.none)) in
    let size : size_of nets ts front.front ≡ p.size = ap (size_of nets ts) same ∙ sym p.has.is in
    none_told (size_faults p.size) f (none_past p.size (subst IsWithinSize size within)) p.told

pub past_excludes : (nets : ℕ) (m : FileModel) (f : FlatFault) → All HasLawfulValues m.decls → All (IsPlacedTable m.decls (net_places m)) m.tables → IsPastLimit nets m f
    → FitsLimits nets m → ⊥
past_excludes nets m f proper known p fits =
    let C : List FileTable → Type 0 = λ ts. AreCovers m.decls (net_places m) ts fits.has.covers in
    ⊎_elim
    (λ (wide : IsTooWide (columns_at m.decls (net_places m) p.table) p.table (mark_at (net_places m) p.table) f).
    wide_between m.decls (net_places m) p.before p.after p.table f fits.has.covers wide (subst C p.place fits.has.are))
    (λ (limit : PassesLimit nets m (p.before ++ p.table ∷ []) f).
    limit_excludes nets m f (p.before ++ p.table ∷ []) p.after proper known (p.place ∙ sym (append_assoc p.before (p.table ∷ []) p.after)) limit fits)
    p.told

-- a sound model whose network passes a limit has no small one
past_of_model : (m : FileModel) (f : FlatFault) → IsLawful m → IsSoundModel m → IsWithinLimits m → IsPastLimit (length (drivers m)) (with_reset_nets m) f → HasSmallNetwork m → ⊥
past_of_model m f lawful sound limits past small =
    let nets = with_reset_nets m in
    let are = with_nets m nets lawful sound limits refl in
    let known = placed nets (net_places nets) are.proper are.sound refl (places_few nets are.proper are.few) in
    past_excludes _ nets f are.proper.decls known.tables past small

large_excludes : (d : Design) (f : FlatFault) → IsProper d → HasLargeNetwork d f → (s : IsSound d) → HasSmallNetwork (model_of d s) → ⊥
large_excludes d f proper large s small =
    let h = model_sound d proper large.sound large.limits in
    let same : s.tree ≡ large.sound.tree = one_tree d (root_of d).instances s.tree large.sound.tree s.unfolds large.sound.unfolds in
    let P : Instances → Type 0 = λ t. HasSmallNetwork (unfolded (root_of d) t) in
    past_of_model (model_of d large.sound) f h.one.lawful h.sound h.one.limits large.past (subst P same small)

-- why a design is refused excludes that it is sound and within all limits
pub refused_excludes : (d : Design) (f : FlatFault) → IsProper d → IsRefusedDesign d f → (f ≡ Memory → ⊥) → (s : IsSound d) → IsWithinDesignLimits d s.tree → HasSmallNetwork (model_of d s) → ⊥
refused_excludes d f proper refused cause s limits small =
    ⊎_elim (λ (h : IsFault d f). fault_excludes d (root_named d proper) s limits f h cause) (λ (h : HasLargeNetwork d f). large_excludes d f proper h s small) refused

-- ---- what is told of a design

pub memory_refused : (d : Design) (f : FlatFault) → f ≡ Memory → IsRefusedDesign d f
memory_refused d f e = let P : FlatFault → Type 0 = IsRefusedDesign d in subst P (sym e) (inl tt)

pub walk_refused : (d : Design) (f : FlatFault) → (f ≡ Memory) ⊎ (first (walk_faults d) ≡ Some f) → IsRefusedDesign d f
walk_refused d f told = inl (walk_is_fault d f told)

pub whole_refused : (d : Design) (f : FlatFault) → (f ≡ Memory) ⊎ HasWholeFault d f → IsRefusedDesign d f
whole_refused d f told = inl (whole_is_fault d f told)

pub above_refused : (d : Design) (m : FileModel) (nets : List (List ℕ)) (f : FlatFault) → IsModelOf d m nets → TellsAbove nets m f → IsRefusedDesign d f
above_refused d m nets f h told =
    let P : FileModel → Type 0 = λ n. TellsAbove nets n f in
    let Q : List (List ℕ) → Type 0 = λ ws. TellsAbove ws (unfolded (root_of d) h.tree) f in
    inl (above_is_fault d h.tree f h.has (no_faults (root_of d) h.tree h.good h.short) (subst Q h.nets_are (subst P h.model_is told)))

limit_refused : (d : Design) (s : IsSound d) (f : FlatFault) → IsWithinDesignLimits d s.tree → TellsLimit (length (drivers (model_of d s))) (with_reset_nets (model_of d s)) f
    → IsRefusedDesign d f
limit_refused d s Memory limits told = inl tt
limit_refused d s _ limits told = inr (record { sound = s; limits = limits; past = told })

pub network_refused : (d : Design) (m : FileModel) (nets : List (List ℕ)) (f : FlatFault) → IsModelOf d m nets → IsAcyclic (reads m) → All (StandsAlone m) m.resets
    → TellsLimit (length (drivers m)) (with_reset_nets m) f → IsRefusedDesign d f
network_refused d m nets f h acyclic alone told =
    let s = design_sound d m nets h acyclic alone in
    let P : FileModel → Type 0 = λ n. TellsLimit (length (drivers n)) (with_reset_nets n) f in
    limit_refused d s.sound f s.limits (subst P s.model_is told)

-- the same of an answer
pub answered_refused : {T : Type 0} (r : Result T FlatFault) (d : Design) (m : FileModel) (nets : List (List ℕ)) → IsModelOf d m nets → IsAcyclic (reads m) → All (StandsAlone m) m.resets
    → IfErr r (TellsLimit (length (drivers m)) (with_reset_nets m)) → IfErr r (IsRefusedDesign d)
answered_refused (Ok x) d m nets h acyclic alone told = tt
answered_refused (Err f) d m nets h acyclic alone told = network_refused d m nets f h acyclic alone told

-- ---- what is told of its one model

-- the same by the model with a net for each reset value, and by how many nets the file has
pub small_by : (m nets : FileModel) (count : ℕ) → nets ≡ with_reset_nets m → count ≡ length (drivers m) → FitsLimits count nets → HasSmallNetwork m
small_by m nets count is many fits =
    let P : FileModel → Type 0 = FitsLimits (length (drivers m)) in
    let Q : ℕ → Type 0 = λ n. FitsLimits n nets in
    subst P is (subst Q many fits)

pub told_by : (m nets : FileModel) (count : ℕ) (f : FlatFault) → nets ≡ with_reset_nets m → count ≡ length (drivers m) → TellsLimit count nets f
    → TellsLimit (length (drivers m)) (with_reset_nets m) f
told_by m nets count f is many told =
    let P : FileModel → Type 0 = λ n. TellsLimit (length (drivers m)) n f in
    let Q : ℕ → Type 0 = λ n. TellsLimit n nets f in
    subst P is (subst Q many told)

pub ruleset refusals = (memory_refused, walk_refused, whole_refused, above_refused, network_refused)
