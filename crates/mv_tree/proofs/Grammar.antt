-- The one model of a root and its instances is as the grammar has models, where the models of all places are.
use Rattle.std.proofs.Common.{◌≡◌, ℕ, suc, ◌+◌, true, List, [], ◌∷◌, ◌++◌, length, map, None, All, refl, sym, ◌∙◌, ap, subst}
use Rattle.std.specs.List.{AllByRecursion, flat_map}
use Rattle.std.proofs.lemmas.List.{length-map}
use Rattle.std.proofs.lemmas.List.Elements.{All-nil, All-from_recursion, recursion_from_All}
use Rattle.mv_base.specs.Names.{among, names_differ, is_net_name}
use Rattle.mv_design.specs.declared.design.Decl.{Decl}
use Rattle.mv_design.specs.declared.design.Design.{Design}
use Rattle.mv_design.specs.declared.design.FileLatch.{FileLatch}
use Rattle.mv_design.specs.declared.design.FileModel.{FileModel}
use Rattle.mv_design.specs.declared.design.Instance.{Instance}
use Rattle.mv_design.specs.declared.table.FileTable.{FileTable}
use Rattle.mv_design.specs.Nets.{columns_of}
use Rattle.mv_design.specs.Proper.{IsFileBind, IsFileTable, IsFileReset, IsFileLatch, IsFileDecl, IsFileInstance, IsLawful}
use Rattle.mv_tree.specs.Tree.{Instances, NoMore, More, Unfolds}
use Rattle.mv_tree.specs.Places.{all_nets, actual_of, Place, root_place, path_in, place_in, places_in, places, own_nets, homes}
use Rattle.mv_tree.specs.Unfolded.{placed_decl, decls_in, numbered, renamed, tables_in, placed_reset, resets_in, placed_latch, latches_in, joined, unfolded}
use Rattle.mv_tree.specs.Bound.{AreBound, FollowsGrammar}
use Rattle.mv_tree.proofs.Each.{each-append, each-both, each-from_flat, each-from_names, each-from_test, each-front, each-behind, each-map, each-named, each-weaker}
use Rattle.mv_tree.proofs.Allowing.{input_is_net, output_is_net}
use Rattle.mv_tree.proofs.Fitting.{AreLawful, table_fits, values_are}
use Rattle.mv_tree.proofs.Homes.{each_home}
use Rattle.mv_tree.proofs.Inside.{are_named, own_is_net, own_is_unbound, through-own}
use Rattle.mv_tree.proofs.Named.{actuals, AreAmong, among-all_nets, command_nets, latch_nets, nets_among}
use Rattle.mv_tree.proofs.Names.{IsPath, no_path, path_inside}
use Rattle.mv_tree.proofs.Seats.{formals}
use Rattle.mv_tree.proofs.Standing.{Stands, all_stand}

abbrev IsLawfulPlace : Place → Type 0
IsLawfulPlace p = IsLawful p.model

-- ---- the paths of places

-- the path of a place may stand before a lawful name, and does before its own nets; and no formal is bound twice there
record IsPlaced (p : Place) : Type 0 where
  path : IsPath p.path
  own : (net : List ℕ) → actual_of p.binds net ≡ None → p.home net ≡ p.path ++ net
  once : names_differ (formals p.binds) ≡ true

placed_inside : (round : Place) (instance : Instance) (model : FileModel) → IsPath round.path → IsFileInstance instance → IsPlaced (place_in round instance model)
placed_inside round instance model h f =
    record {
      path = path_inside round.path instance.name h f.name;
      own = λ net e. through-own round.home (λ n. path_in round.path instance.name ++ n) instance.binds net e;
      once = f.differ;
    }

placed_in : (d : Design) (round : Place) (instances : List Instance) (tree : Instances) → Unfolds d instances tree → IsPath round.path → AllByRecursion IsFileInstance instances
    → AllByRecursion IsLawfulPlace (places_in round tree) → AllByRecursion IsPlaced (places_in round tree)
placed_in d round [] NoMore u h f l = tt
placed_in d round [] (More instance model inside rest) u h f l = absurd u
placed_in d round (q ∷ qs) NoMore u h f l = absurd u
placed_in d round (q ∷ qs) (More instance model inside rest) u h f l =
    let p = place_in round instance model in
    let here = placed_inside round instance model h (subst IsFileInstance (sym u.0.is) f.0) in
    let these = places_in p inside in
    let more = places_in round rest in (
      here,
      each-append IsPlaced these more
          (placed_in d p model.instances inside u.1 here.path (recursion_from_All IsFileInstance model.instances l.0.instances) (each-front IsLawfulPlace these more l.1))
          (placed_in d round qs rest u.2 h f.1 (each-behind IsLawfulPlace these more l.1)),
    )

all_placed : (d : Design) (root : FileModel) (tree : Instances) → Unfolds d root.instances tree → AllByRecursion IsLawfulPlace (places root tree)
    → AllByRecursion IsPlaced (places root tree)
all_placed d root tree u l = (
  record { path = no_path; own = λ net e. refl; once = refl },
  placed_in d (root_place root) root.instances tree u no_path (recursion_from_All IsFileInstance root.instances l.0.instances) l.1,
)

-- ---- the grammar

pub follows_grammar : (d : Design) (root : FileModel) (tree : Instances) → Unfolds d root.instances tree → All (λ p. IsLawful p.model) (places root tree)
    → All FollowsGrammar (places root tree)
follows_grammar d root tree u l =
    let ps = places root tree in
    let lawful = recursion_from_All IsLawfulPlace ps l in
    All-from_recursion FollowsGrammar ps
    (each-both IsLawfulPlace IsPlaced FollowsGrammar
    (λ p f s.
    let Single : FileTable → Type 0 = λ t. length t.outputs ≡ 1 in
    let Reset : FileTable → Type 0 = IsFileReset p.model.decls in
    record {
      once = s.once;
      single = All-from_recursion Single p.model.resets (each-weaker Reset Single (λ t g. g.single) p.model.resets (recursion_from_All Reset p.model.resets f.resets));
    })
    ps lawful (all_placed d root tree u lawful))

-- ---- names

abbrev IsNet : List ℕ → Type 0
IsNet w = is_net_name w ≡ true

actuals_lawful : (instances : List Instance) → AllByRecursion IsFileInstance instances → AllByRecursion IsNet (flat_map actuals instances)
actuals_lawful instances h =
    each-from_flat IsNet actuals instances
    (each-weaker IsFileInstance (λ p. AllByRecursion IsNet (actuals p))
    (λ p f.
    each-map IsNet (λ b. b.actual) p.binds
    (each-weaker IsFileBind (λ b. IsNet b.actual) (λ b g. g.actual) p.binds (recursion_from_All IsFileBind p.binds f.binds))) instances h)

columns_lawful : (ds : List Decl) (ts : List FileTable) → AllByRecursion (IsFileTable ds) ts → AllByRecursion IsNet (flat_map columns_of ts)
columns_lawful ds ts h =
    each-from_flat IsNet columns_of ts
    (each-weaker (IsFileTable ds) (λ t. AllByRecursion IsNet (columns_of t))
    (λ t f. each-append IsNet t.inputs t.outputs (each-from_test is_net_name t.inputs f.inputs) (each-from_test is_net_name t.outputs f.outputs)) ts h)

latches_lawful : (ds : List Decl) (ls : List FileLatch) → AllByRecursion (IsFileLatch ds) ls → AllByRecursion IsNet (flat_map latch_nets ls)
latches_lawful ds ls h =
    each-from_flat IsNet latch_nets ls (each-weaker (IsFileLatch ds) (λ l. AllByRecursion IsNet (latch_nets l)) (λ l f. (f.input, (f.output, tt))) ls h)

-- reset tables are tables
resets_are_tables : (ds : List Decl) (ts : List FileTable) → All (IsFileReset ds) ts → AllByRecursion (IsFileTable ds) ts
resets_are_tables ds ts h = each-weaker (IsFileReset ds) (IsFileTable ds) (λ t f. f.table) ts (recursion_from_All (IsFileReset ds) ts h)

-- the nets of a lawful model have lawful names
net_lawful : (m : FileModel) → IsLawful m → (net : List ℕ) → among net (all_nets m) ≡ true → IsNet net
net_lawful m h net e =
    let latches = latches_lawful m.decls m.latches (recursion_from_All (IsFileLatch m.decls) m.latches h.latches) in
    let resets = columns_lawful m.decls m.resets (resets_are_tables m.decls m.resets h.resets) in
    let tables = columns_lawful m.decls m.tables (recursion_from_All (IsFileTable m.decls) m.tables h.tables) in
    let commands = each-append IsNet (flat_map latch_nets m.latches) _ latches (each-append IsNet (flat_map columns_of m.resets) _ resets tables) in
    let instances = each-append IsNet (flat_map actuals m.instances) _ (actuals_lawful m.instances (recursion_from_All IsFileInstance m.instances h.instances)) commands in
    let outputs = each-append IsNet m.outputs _ (each-from_test is_net_name m.outputs h.outputs) instances in
    let all = each-append IsNet m.inputs _ (each-from_test is_net_name m.inputs h.inputs) outputs in
    each-named IsNet (m.inputs ++ (m.outputs ++ (flat_map actuals m.instances ++ command_nets m))) net all (sym (among-all_nets net m) ∙ e)

-- and so have the nets of the whole
homes_lawful : (ps : List Place) → AllByRecursion IsLawfulPlace ps → AllByRecursion IsPlaced ps → AreLawful (homes ps)
homes_lawful ps l h =
    record {
      each = each_home IsNet ps
          (each-both IsLawfulPlace IsPlaced (λ p. (net : List ℕ) → among net (own_nets p) ≡ true → IsNet (p.home net))
          (λ p f s net own. ap is_net_name (s.own net (own_is_unbound p net own)) ∙ s.path.before net (net_lawful p.model f net (own_is_net p net own)))
          ps l h);
    }

-- ---- the pieces of the whole

-- a lawful place whose names are nets of the whole
abbrev IsGood : List Place → Place → Type 0
IsGood ps p = IsLawful p.model × Stands ps p

decls_lawful : (ps qs : List Place) → AreLawful (homes ps) → AllByRecursion (IsGood ps) qs → AllByRecursion IsFileDecl (decls_in qs)
decls_lawful ps qs names h =
    each-from_flat IsFileDecl (λ q. map (placed_decl q) (own_nets q)) qs
    (each-weaker (IsGood ps) (λ q. AllByRecursion IsFileDecl (map (placed_decl q) (own_nets q)))
    (λ q g.
    each-map IsFileDecl (placed_decl q) (own_nets q)
    (each-from_names (λ net. IsFileDecl (placed_decl q net)) (own_nets q)
    (λ net own.
    let vs = values_are q.model.decls net (recursion_from_All IsFileDecl q.model.decls g.0.decls) in
    record {
      net = names.each (q.home net) (g.1.listed net (own_is_net q net own));
      some = vs.some;
      few = vs.few;
      lawful = vs.lawful;
      differ = vs.differ;
    })))
    qs h)

numbered_lawful : (ps : List Place) (q : Place) (at : ℕ) (ts : List FileTable) → AreLawful (homes ps) → Stands ps q
    → AllByRecursion (λ t. AreAmong (columns_of t) (all_nets q.model)) ts → AllByRecursion (IsFileTable q.model.decls) ts
    → AllByRecursion (IsFileTable (decls_in ps)) (numbered q.home at ts)
numbered_lawful ps q at [] names h a f = tt
numbered_lawful ps q at (t ∷ ts) names h a f = (table_fits ps q at t names h a.0 f.0, numbered_lawful ps q (suc at) ts names h a.1 f.1)

tables_lawful : (ps : List Place) (at : ℕ) (qs : List Place) → AreLawful (homes ps) → AllByRecursion (IsGood ps) qs
    → AllByRecursion (IsFileTable (decls_in ps)) (tables_in at qs)
tables_lawful ps at [] names h = tt
tables_lawful ps at (q ∷ qs) names h =
    each-append (IsFileTable (decls_in ps)) (numbered q.home at q.model.tables) (tables_in (at + length q.model.tables) qs)
    (numbered_lawful ps q at q.model.tables names h.0.1 (nets_among q.model).tables (recursion_from_All (IsFileTable q.model.decls) q.model.tables h.0.0.tables))
    (tables_lawful ps (at + length q.model.tables) qs names h.1)

reset_fits : (ps : List Place) (p : Place) (line : ℕ) (t : FileTable) → AreLawful (homes ps) → Stands ps p → AreAmong (columns_of t) (all_nets p.model)
    → IsFileReset p.model.decls t → IsFileReset (decls_in ps) (renamed p.home line t)
reset_fits ps p line t names h a f = record { table = table_fits ps p line t names h a f.table; single = length-map t.outputs p.home ∙ f.single }

resets_lawful : (ps : List Place) (at : ℕ) (qs : List Place) → AreLawful (homes ps) → AllByRecursion (IsGood ps) qs
    → AllByRecursion (IsFileReset (decls_in ps)) (resets_in at qs)
resets_lawful ps at [] names h = tt
resets_lawful ps at (q ∷ qs) names h =
    let There : FileTable → Type 0 = IsFileReset (decls_in ps) in
    let Here : FileTable → Type 0 = IsFileReset q.model.decls in
    let Among : FileTable → Type 0 = λ t. AreAmong (columns_of t) (all_nets q.model) in
    each-append There (map (placed_reset at q) q.model.resets) (resets_in (at + length q.model.tables) qs)
    (each-map There (placed_reset at q) q.model.resets
    (each-both Among Here (λ t. There (placed_reset at q t)) (λ t a f. reset_fits ps q (placed_reset at q t).line t names h.0.1 a f)
    q.model.resets (nets_among q.model).resets (recursion_from_All Here q.model.resets h.0.0.resets)))
    (resets_lawful ps (at + length q.model.tables) qs names h.1)

latch_fits : (ps : List Place) (q : Place) (l : FileLatch) → AreLawful (homes ps) → Stands ps q → AreAmong (latch_nets l) (all_nets q.model)
    → IsFileLatch q.model.decls l → IsFileLatch (decls_in ps) (placed_latch q l)
latch_fits ps q l names h a f =
    let input = a.each l.input (input_is_net.of_latch l) in
    let output = a.each l.output (output_is_net.of_latch l) in
    record {
      input = names.each (q.home l.input) (h.listed l.input input);
      output = names.each (q.home l.output) (h.listed l.output output);
      counts = h.count l.input input ∙ (f.counts ∙ sym (h.count l.output output));
    }

latches_lawful_in : (ps qs : List Place) → AreLawful (homes ps) → AllByRecursion (IsGood ps) qs → AllByRecursion (IsFileLatch (decls_in ps)) (latches_in qs)
latches_lawful_in ps qs names h =
    let There : FileLatch → Type 0 = IsFileLatch (decls_in ps) in
    each-from_flat There (λ q. map (placed_latch q) q.model.latches) qs
    (each-weaker (IsGood ps) (λ q. AllByRecursion There (map (placed_latch q) q.model.latches))
    (λ q g.
    let Here : FileLatch → Type 0 = IsFileLatch q.model.decls in
    each-map There (placed_latch q) q.model.latches
    (each-both (λ l. AreAmong (latch_nets l) (all_nets q.model)) Here (λ l. There (placed_latch q l)) (λ l a f. latch_fits ps q l names g.1 a f)
    q.model.latches (nets_among q.model).latches (recursion_from_All Here q.model.latches g.0.latches)))
    qs h)

-- ---- the whole

joined_lawful : (root : FileModel) (ps : List Place) → IsLawful root → AreLawful (homes ps) → AllByRecursion (IsGood ps) ps → IsLawful (joined root ps)
joined_lawful root ps l names h =
    let ds = decls_in ps in
    record {
      name = l.name;
      inputs = l.inputs;
      inputs_differ = l.inputs_differ;
      outputs = l.outputs;
      outputs_differ = l.outputs_differ;
      decls = All-from_recursion IsFileDecl ds (decls_lawful ps ps names h);
      tables = All-from_recursion (IsFileTable ds) (tables_in 0 ps) (tables_lawful ps 0 ps names h);
      latches = All-from_recursion (IsFileLatch ds) (latches_in ps) (latches_lawful_in ps ps names h);
      resets = All-from_recursion (IsFileReset ds) (resets_in 0 ps) (resets_lawful ps 0 ps names h);
      instances = All-nil IsFileInstance;
    }

pub lawful : (d : Design) (root : FileModel) (tree : Instances) → Unfolds d root.instances tree → AreBound root tree → names_differ (homes (places root tree)) ≡ true
    → All (λ p. IsLawful p.model) (places root tree) → IsLawful (unfolded root tree)
unfolding unfolded
lawful d root NoMore u bound differ l = (recursion_from_All IsLawfulPlace (places root NoMore) l).0
lawful d root (More instance model inside rest) u bound differ l =
    let tree = More instance model inside rest in
    let ps = places root tree in
    let each = recursion_from_All IsLawfulPlace ps l in
    let stand = all_stand root tree (are_named d root tree u) bound differ in
    joined_lawful root ps each.0 (homes_lawful ps each (all_placed d root tree u each))
    (each-both IsLawfulPlace (Stands ps) (IsGood ps) (λ p f s. (f, s)) ps each stand)
