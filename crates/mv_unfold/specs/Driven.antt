-- How often the nets of a model are driven, by the model itself and by what stands in it. For
-- private functions.
use Rattle.std.specs.Prelude.{◌≡◌, ℕ, zero, suc, ◌+◌, ◌<◌, ◌≤◌, min, true, Option, Some, None, List, [], ◌∷◌, ◌++◌, map, length, count_by, slice_index, slice_index_or, slice_set, unwrap_or, nat_lt, ◌==◌, if◌then◌else◌}
use Rattle.std.specs.List.{flat_map}
use Rattle.std.specs.Option.{is_some}
use Rattle.mv_base.specs.Names.{same_word, among, place_of}
use Rattle.mv_design.specs.declared.design.Bind.{Bind}
use Rattle.mv_design.specs.declared.design.Design.{Design}
use Rattle.mv_design.specs.declared.design.FileLatch.{FileLatch}
use Rattle.mv_design.specs.declared.design.FileModel.{FileModel}
use Rattle.mv_design.specs.declared.design.Instance.{Instance}
use Rattle.mv_design.specs.declared.table.FileTable.{FileTable}
use Rattle.mv_design.specs.Nets.{latch_outputs, nets_driven}
use Rattle.mv_tree.specs.Tree.{Instances, NoMore, More, Unfolds, IsWithinDepth}
use Rattle.mv_tree.specs.Places.{actual_of, all_nets, homes_at}
use Rattle.mv_fault.specs.Tells.{when}
use Rattle.mv_fault.specs.declared.flat.FlatFault.{FlatFault}
use Rattle.mv_fault.specs.declared.flat.FlatFault.TheVariants.{DrivenTwice, Undriven}
use Rattle.mv_acyclic.specs.Driving.{with_name}
use Rattle.mv_acyclic.specs.Sound.{twice_at, undriven_at}
use Rattle.mv_unfold.specs.declared.commands.Command.{Command}
use Rattle.mv_unfold.specs.Commands.{no_command}
use Rattle.mv_unfold.specs.declared.layout.Layout.{Layout}
use Rattle.mv_unfold.specs.declared.spans.Span.{Span}
use Rattle.mv_unfold.specs.Laid.{places_of}
use Rattle.mv_unfold.specs.Locals.{AreOwn, cut}
use Rattle.mv_unfold.specs.Placed.{model_at, place_at}

-- ---- what is driven

-- the nets that a model drives itself, as often as it does: outputs of its latches and of its
-- tables
abbrev pub own_driven : FileModel → List (List ℕ)
own_driven m = latch_outputs m ++ flat_map nets_driven m.tables

-- a net, if there is one
abbrev pub net_in : Option (List ℕ) → List (List ℕ)
net_in None = []
net_in (Some net) = net ∷ []

-- the nets round an instance that these nets of it are
abbrev pub passed : List Bind → List (List ℕ) → List (List ℕ)
passed binds nets = flat_map (λ net. net_in (actual_of binds net)) nets

-- the nets of a model that what is inside these instances of it drives, as often as it does
abbrev pub passed_up : Instances → List (List ℕ)
passed_up NoMore = []
passed_up (More instance model inside rest) =
    passed instance.binds (own_driven model ++ passed_up inside) ++ passed_up rest

-- the nets of a model with instances that are driven by it or from inside them, as often as they
-- are
abbrev pub driven_in : FileModel → Instances → List (List ℕ)
driven_in m tree = own_driven m ++ passed_up tree

-- how often each of these nets is driven, where more than twice counts as twice
abbrev pub tally : List (List ℕ) → List (List ℕ) → List ℕ
tally nets driven = map (λ net. min (count_by (same_word net) driven) 2) nets

-- ---- how it is counted

-- the count at a place grows by so many, up to two
abbrev pub at_place : List ℕ → Option ℕ → ℕ → List ℕ
at_place counts None more = counts
at_place counts (Some k) more = slice_set counts k (min (slice_index counts k + more) 2)

-- the counts of nets, where one of them is driven so many times more
abbrev pub with_count : List (List ℕ) → List ℕ → List ℕ → ℕ → List ℕ
with_count nets counts net more = at_place counts (place_of net nets) more

-- the same with these drivers more
abbrev pub with_driven : List (List ℕ) → List ℕ → List (List ℕ) → List ℕ
with_driven nets counts [] = counts
with_driven nets counts (w ∷ ws) = with_driven nets (with_count nets counts w 1) ws

-- the same with the outputs of these latches more
abbrev pub with_latches : List (List ℕ) → List ℕ → List FileLatch → List ℕ
with_latches nets counts [] = counts
with_latches nets counts (l ∷ ls) = with_latches nets (with_count nets counts l.output 1) ls

-- the same with the outputs of these tables more
abbrev pub with_tables : List (List ℕ) → List ℕ → List FileTable → List ℕ
with_tables nets counts [] = counts
with_tables nets counts (t ∷ ts) = with_tables nets (with_driven nets counts t.outputs) ts

-- the count at a place
abbrev pub count_at : List ℕ → Option ℕ → ℕ
count_at counts None = 0
count_at counts (Some k) = slice_index counts k

-- the count of a net
abbrev pub count_in : List (List ℕ) → List ℕ → List ℕ → ℕ
count_in nets counts net = count_at counts (place_of net nets)

-- the counts of nets, with what drives the formals that are bound to them, behind bindings of those
-- formals
abbrev pub with_binds : List (List ℕ) → List ℕ → List (List ℕ) → List ℕ → List (List ℕ) → List Bind
    → List ℕ
with_binds nets counts inner inner_counts seen [] = counts
with_binds nets counts inner inner_counts seen (b ∷ bs) =
    with_binds nets
    (if among b.formal seen then counts
    else with_count nets counts b.actual
    (count_in inner inner_counts b.formal)) inner inner_counts
    (with_name seen b.formal) bs

-- the counts of a model, where they are known
abbrev pub counts_at : List (Option (List ℕ)) → ℕ → List ℕ
counts_at slots k = unwrap_or (slice_index_or slots k None) []

-- the counts of nets, with what drives them from inside the instances that these commands make
abbrev pub with_instances : List (List ℕ) → List (List (List ℕ)) → List (Option (List ℕ)) → List ℕ
    → List Instance → List Command → List ℕ
with_instances nets all slots counts [] _ = counts
with_instances nets all slots counts (_ ∷ _) [] = counts
with_instances nets all slots counts (p ∷ ps) (c ∷ cs) =
    with_instances nets all slots
    (with_binds nets counts (slice_index_or all c.model [])
    (counts_at slots c.model) [] p.binds) ps cs

-- the counts of a model's nets
abbrev pub counted : List (List ℕ) → List (List (List ℕ)) → List (Option (List ℕ)) → FileModel
    → List Command → List ℕ
counted nets all slots m row =
    with_instances nets all slots
    (with_tables nets (with_latches nets (map (λ net. 0) nets) m.latches) m.tables) m.instances row

-- ---- models in order

-- the instances inside a model are a tree that is no deeper than so many levels
pub record HasInside (d : Design) (levels k : ℕ) : Type 0 where
  pub tree : Instances
  pub unfolds : Unfolds d (model_at d k).instances tree
  pub shallow : IsWithinDepth levels tree

-- these are the counts of a model
pub record IsTally (d : Design) (k : ℕ) (counts : List ℕ) : Type 0 where
  pub is : (tree : Instances) → Unfolds d (model_at d k).instances tree
      → counts ≡ tally (all_nets (model_at d k)) (driven_in (model_at d k) tree)

-- the counts of a model are known
abbrev pub IsKnown : List (Option (List ℕ)) → ℕ → Type 0
IsKnown slots k = is_some (slice_index_or slots k None) ≡ true

-- what is known of the counts of models is right, and known of what stands in them
pub record AreTallies (l : Layout) (slots : List (Option (List ℕ))) : Type 0 where
  pub long : length slots ≡ length l.design.now.models
  pub right : (k : ℕ) (counts : List ℕ) → slice_index_or slots k None ≡ Some counts
      → IsTally l.design.now k counts
  pub closed : (k j : ℕ) → IsKnown slots k → j < length (slice_index_or l.commands k [])
      → IsKnown slots (slice_index_or (slice_index_or l.commands k []) j no_command).model

-- no more is forgotten
pub record AreMore (old new : List (Option (List ℕ))) : Type 0 where
  pub kept : (k : ℕ) → IsKnown old k → IsKnown new k

-- ---- places

-- the counts of the nets of a place's model, where the root has its own
abbrev pub place_counts : Layout → List (Option (List ℕ)) → List ℕ → ℕ → List ℕ
place_counts l slots root zero = root
place_counts l slots root (suc n) = counts_at slots (slice_index_or l.models (suc n) 0)

-- there is a count for each net of each place
pub record AreSized (l : Layout) (slots : List (Option (List ℕ))) (root : List ℕ) : Type 0 where
  pub each : (n : ℕ) → n ≤ length l.opened.now
      → length (place_counts l slots root n) ≡ length (all_nets (place_at (places_of l) n).model)

-- the counts of own nets are what is told of their names in the whole
pub record AreTold (l : Layout) (slots : List (Option (List ℕ))) (root : List ℕ)
    (tells : List ℕ → ℕ) : Type 0 where
  pub each : (n : ℕ) (own : List Span) → n ≤ length l.opened.now
      → AreOwn (all_nets (place_at (places_of l) n).model) (place_at (places_of l) n).binds own
      → flat_map (cut (place_counts l slots root n)) own
      ≡ map tells (homes_at (place_at (places_of l) n))

-- ---- faults

-- the faults of those of these nets whose counts say that they are driven more than once
abbrev pub twice_counted : List (List ℕ) → List ℕ → List FlatFault
twice_counted [] _ = []
twice_counted (_ ∷ _) [] = []
twice_counted (w ∷ ws) (c ∷ cs) = when (nat_lt 1 c) (DrivenTwice w) ++ twice_counted ws cs

-- the faults of those of these nets whose counts say that nothing drives them
abbrev pub undriven_counted : List (List ℕ) → List ℕ → List FlatFault
undriven_counted [] _ = []
undriven_counted (_ ∷ _) [] = []
undriven_counted (w ∷ ws) (c ∷ cs) = when (c == 0) (Undriven w) ++ undriven_counted ws cs

-- the faults of what drives nets: those that are driven more than once, and then those that nothing
-- drives
unfoldable pub driving_faults : FileModel → List (List ℕ) → List FlatFault
driving_faults m nets = flat_map (twice_at m) nets ++ flat_map (undriven_at m) nets
