-- The frame of a net in a window, and why there is no set of pairs outside.
use Rattle.std.proofs.Common.{◌≡◌, ◌∙◌, ℕ, ◌<◌, ◌≤◌, ◌+◌, Bool, true, List, [], length, Option, Some, Result, Ok, Err, IfErr, is_some, sym, ap, subst, arith}
use Rattle.std.specs.Prelude.{MatchBool, slice_index}
use Rattle.std.proofs.lemmas.Bool.{lt-ltb, ltb-true}
use Rattle.mv_base.specs.declared.number.NetId.{NetId}
use Rattle.mv_cover.specs.declared.cover.Cover.{Cover}
use Rattle.mv_dag.proofs.Differing.{few_nets}
use Rattle.mv_diagram.specs.Diagrams.{Contents, HasNoRoom}
use Rattle.mv_diagram.specs.declared.node.Nodes.{Nodes as a_stop}
use Rattle.mv_factors.specs.Families.{Family, Keeps, before, everywhere}
use Rattle.mv_flex.specs.declared.stop.FlexStop.{FlexStop}
use Rattle.mv_flex.specs.Flex.{InFlex, IsWindowOf}
use Rattle.mv_graph.specs.Nets.{all_differ, has_id}
use Rattle.mv_net.specs.declared.parts.FlatNet.{FlatNet}
use Rattle.mv_net.specs.declared.parts.NetParts.{NetParts}
use Rattle.mv_net.specs.declared.window.Window.{Window}
use Rattle.mv_net.specs.Formed.{WellFormed}
use Rattle.mv_net.specs.Nets.{reads_in, slot, table_in, table_reads}
use Rattle.mv_net.specs.Searching.{AreHeld}
use Rattle.mv_net.proofs.HeldOrder.{ascending_differ}
use Rattle.mv_net.proofs.Known.{is_held_below}
use Rattle.mv_net.proofs.Literals.{listed_few}
use Rattle.mv_pool.specs.Places.{held_in}
use Rattle.mv_relation.specs.declared.stop.RelationStop.{RelationStop}
use Rattle.mv_relation.specs.declared.stop.RelationStop.TheVariants.{Nodes as no_room, Memory as no_memory}
use Rattle.mv_relation.specs.Relations.{IsRelationStop, assigned}
use Rattle.mv_wide.specs.declared.frame.Frame.{Frame}
use Rattle.mv_wide.specs.Inners.{AreNumbered, counts_of, touches}
use Rattle.mv_wide.specs.Wides.{HoldsNodes, IsFramed, IsReady, IsStopIn, IsWide, IsWideStop, StopsAs, Wide}
use Rattle.mv_wide.specs.Windows.{AreWindowVars, IsFrameOf, is_inside}
use Rattle.mv_wide.proofs.Counting.{window_counts, window_vars}
use Rattle.mv_wide.proofs.Framing.{inside_held, own_table, read_inside, table_inside, table_is_held, touched}

-- ---- the nets of a window

module _ (net : NetParts) (w : Window) (n : ℕ) (window : IsWindowOf net n w) where
  pub tables_held : AreHeld net.nets w.tables
  tables_held = record { each = λ m listed. table_is_held net w n window m listed }

  pub tables_few : length w.tables ≤ length net.nets
  tables_few =
      listed_few net.nets w.tables
      (record { held = λ m listed. table_is_held net w n window m listed; once = ascending_differ w.tables window.is.tables.ascending })

  pub tables_there : (ls : List NetId) → ls ≡ w.tables → AreHeld net.nets ls
  tables_there ls is = subst (λ (k : List NetId). AreHeld net.nets k) (sym is) tables_held

  module _ (formed : WellFormed net) (ks : List NetId) (has : (m : ℕ) → has_id ks m ≡ touches net.nets w.tables m) where
    inside_of : (m : ℕ) → has_id ks m ≡ is_inside w m
    inside_of m = has m ∙ touched net w n window m

    pub nets_held : AreHeld net.nets ks
    nets_held = record { each = λ m listed. inside_held net w n window formed m (sym (inside_of m) ∙ listed) }

    pub nets_below : (m : ℕ) → has_id ks m ≡ true → m < length net.nets
    nets_below m listed = is_held_below net.nets m (nets_held.each m listed)

    pub nets_few : all_differ ks ≡ true → length ks ≤ length net.nets
    nets_few once = few_nets ks (length net.nets) once nets_below

    -- the same of a list that is this one
    module _ (ls : List NetId) (is : ls ≡ ks) where
      pub nets_there : AreHeld net.nets ls
      nets_there = subst (λ (k : List NetId). AreHeld net.nets k) (sym is) nets_held

      pub below_there : (size : ℕ) → size ≡ length net.nets → (m : ℕ) → has_id ls m ≡ true → m < size
      below_there size same m listed =
          let low = nets_below m (ap (λ (k : List NetId). has_id k m) (sym is) ∙ listed) in
          omega (arith, low, same)

      pub few_there : all_differ ks ≡ true → length ls ≤ length net.nets
      few_there once = subst (λ (k : List NetId). length k ≤ length net.nets) (sym is) (nets_few once)

    pub frame_made : (f : Frame) → f.counts.items ≡ counts_of net.nets ks → length f.vars.items ≡ length net.nets
        → AreNumbered f.vars.items ks (length ks) → f.own ≡ slice_index f.vars.items n
        → ((m : ℕ) → has_id f.fanins.items m ≡ reads_in net.nets n m) → table_in (slot net.nets n) ≡ Some f.table
        → IsFrameOf net.nets w n f
    frame_made f same long numbered own fanins table = record {
      vars = window_vars net w ks f.counts.items f.vars.items inside_of (inside_held net w n window formed) same long numbered;
      values = window_counts net w ks f.counts.items f.vars.items inside_of (inside_held net w n window formed) same formed;
      own = own;
      fanins = fanins;
      table = table;
    }

  -- the frame of the net
  module _ (formed : WellFormed net) (f : Frame) (is : IsFrameOf net.nets w n f) where
    own_inside : is_inside w n ≡ true
    own_inside = table_inside net w n window n (own_table net w n window (ap is_some is.table))

    fanin_inside : (m : ℕ) → has_id f.fanins.items m ≡ true → is_inside w m ≡ true
    fanin_inside m listed = read_inside net w n window n m (own_table net w n window (ap is_some is.table)) (sym (is.fanins m) ∙ listed)

    unread : reads_in net.nets n n ≡ true → ⊥
    unread reads = formed.acyclic.none n (record { path = []; goes = reads })

    pub framed : IsFramed f
    framed = record {
      values = is.values;
      own = subst (λ k. k < length f.counts.items) (sym is.own) (is.vars.each n own_inside).within;
      apart = record {
        listed = λ m r. (is.vars.each m (fanin_inside m r)).listed;
        within = λ m r. (is.vars.each m (fanin_inside m r)).within;
        beside = λ m r same.
            let alike : m ≡ n = is.vars.apart m n (fanin_inside m r) own_inside (same ∙ is.own) in
            unread (subst (λ k. reads_in net.nets n k ≡ true) alike (sym (is.fanins m) ∙ r));
        differ = λ m k r s same. is.vars.apart m k (fanin_inside m r) (fanin_inside k s) same;
      };
      old = λ m r. is.fanins m ∙ subst (λ (t : Option Cover). table_reads t m ≡ true) (sym is.table) r;
    }

-- ---- full pools

pub holds_nodes : (nets : List (Option FlatNet)) (w : Window) (cap : ℕ) (c : Contents) (vars counts : List ℕ) (stop : a_stop)
    → AreWindowVars nets w counts vars → c.counts ≡ counts → c.cap ≡ cap → HasNoRoom c stop → (stop.cap ≡ cap) × HoldsNodes nets w cap
holds_nodes nets w cap c vars counts stop are same caps full = (
  full.told ∙ caps,
  record {
    contents = c;
    vars = vars;
    are = subst (λ (cs : List ℕ). AreWindowVars nets w cs vars) (sym same) are;
    full = subst (λ k. k ≤ held_in c.nodes) caps full.full;
  },
)

-- ---- the first set stays

pub wide_kept : (net : NetParts) (w : Window) (n : ℕ) (s t : Family) (f : Frame) → Keeps s t (before 1)
    → IsWide net w n (record { family = s; frame = f }) → IsWide net w n (record { family = t; frame = f })
wide_kept net w n s t f keeps is = record {
  formed = is.formed;
  window = is.window;
  frame = is.frame;
  outside = record {
    each = λ p range.
        subst
        (λ b. MatchBool b (InFlex net.nets w n (assigned f.vars.items p) (assigned f.vars.items p n) → ⊥)
        (InFlex net.nets w n (assigned f.vars.items p) (assigned f.vars.items p n)))
        (sym (keeps.sets 0 p (lt-ltb 0 1 (omega arith)))) (is.outside.each p range);
  };
}

-- ---- where no set stays

pub keeps_none : (f g : Family) (kept : ℕ → Bool) → Keeps f g kept → Keeps f g (before 0)
keeps_none f g kept keeps = record {
  counts = keeps.counts;
  cap = keeps.cap;
  room = keeps.room;
  sets = λ k p is. let low : k < 0 = ltb-true k 0 is in absurd (omega (arith, low));
}

pub keeps_over : (f g h : Family) (kept over : ℕ → Bool) → Keeps f g kept → Keeps g h over → Keeps f h (before 0)
keeps_over f g h kept over first second = record {
  counts = second.counts ∙ first.counts;
  cap = second.cap ∙ first.cap;
  room = let a = first.room in let b = second.room in omega (arith, a, b);
  sets = λ k p is. let low : k < 0 = ltb-true k 0 is in absurd (omega (arith, low));
}

-- ---- what is ready

pub ready_same : (s t : Family) (f : Frame) → IsReady s f → Keeps s t everywhere → length t.list ≡ length s.list → IsReady t f
ready_same s t f ready keeps long = record {
  first = let a = ready.first in omega (arith, a, long);
  room = let a = ready.room in let b = keeps.room in omega (arith, a, b);
  counts = keeps.counts ∙ ready.counts;
  framed = ready.framed;
}

pub ready_after : (s t : Family) (f : Frame) (kept : ℕ → Bool) → IsReady s f → Keeps s t kept → 0 < length t.list → IsReady t f
ready_after s t f kept ready keeps first = record {
  first = first;
  room = let a = ready.room in let b = keeps.room in omega (arith, a, b);
  counts = keeps.counts ∙ ready.counts;
  framed = ready.framed;
}

-- after a start and the empty set
pub ready_new : (t u : Family) (f : Frame) (counts : List ℕ) (room : ℕ) → IsFramed f → t.contents.counts ≡ counts → counts ≡ f.counts.items
    → room ≤ t.room → 5 ≤ room → Keeps t u (before (length t.list)) → length u.list ≡ length t.list + 1 → IsReady u f
ready_new t u f counts room framed same is enough five keeps long = record {
  first = omega (arith, long);
  room = let b = keeps.room in omega (arith, enough, five, b);
  counts = keeps.counts ∙ same ∙ is;
  framed = framed;
}

-- ---- why there is no set

pub stop_in : (nets : List (Option FlatNet)) (w : Window) (cap : ℕ) (c : Contents) (vars counts : List ℕ) (stop : RelationStop)
    → AreWindowVars nets w counts vars → c.counts ≡ counts → c.cap ≡ cap → IsRelationStop c stop → IsStopIn nets w cap stop
stop_in nets w cap c vars counts (no_room stop) are same caps h = holds_nodes nets w cap c vars counts stop are same caps h
stop_in nets w cap c vars counts no_memory are same caps h = tt

pub stops_in : (nets : List (Option FlatNet)) (w : Window) (cap : ℕ) (c : Contents) (vars counts : List ℕ) (r : Result (Unit {0}) RelationStop)
    → AreWindowVars nets w counts vars → c.counts ≡ counts → c.cap ≡ cap → IfErr r (IsRelationStop c) → IfErr r (IsStopIn nets w cap)
stops_in nets w cap c vars counts (Ok x) are same caps h = tt
stops_in nets w cap c vars counts (Err stop) are same caps h = stop_in nets w cap c vars counts stop are same caps h

-- the one stop as the other
pub stop_told : (nets : List (Option FlatNet)) (w : Window) (cap : ℕ) (stop : RelationStop) (told : FlexStop) → StopsAs stop told
    → IsStopIn nets w cap stop → IsWideStop nets w cap told
stop_told nets w cap (no_room stop) told is h =
    subst (λ (t : FlexStop). IsWideStop nets w cap t) (sym is) h
stop_told nets w cap no_memory told is h = subst (λ (t : FlexStop). IsWideStop nets w cap t) (sym is) tt

-- where a flexibility was there, and its variables are those of the sets
pub stop_after : (net : NetParts) (w : Window) (n : ℕ) (f : Wide) (t : Family) (kept : ℕ → Bool) (stop : RelationStop) (told : FlexStop) → IsWide net w n f
    → f.family.contents.counts ≡ f.frame.counts.items → Keeps f.family t kept → IsRelationStop t.contents stop → StopsAs stop told
    → IsWideStop net.nets w f.family.contents.cap told
stop_after net w n f t kept stop told is same keeps full alike =
    stop_told net.nets w f.family.contents.cap stop told alike
    (stop_in net.nets w f.family.contents.cap t.contents f.frame.vars.items f.frame.counts.items stop is.frame.vars (keeps.counts ∙ same) keeps.cap full)
