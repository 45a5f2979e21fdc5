-- The plan of a window: its variables, those that are eliminated, and what the relations of its tables need.
use Rattle.std.proofs.Common.{◌≡◌, ℕ, ◌<◌, ◌||◌, true, not, nat_eq, List, ◌++◌, length, get_or, All, sym, subst}
use Rattle.std.proofs.lemmas.Bool.{and_parts}
use Rattle.mv_base.specs.declared.number.NetId.{NetId}
use Rattle.mv_factors.specs.declared.inner.Inner.{Inner}
use Rattle.mv_flex.specs.Flex.{IsWindowOf}
use Rattle.mv_graph.specs.Nets.{has_id}
use Rattle.mv_graph.proofs.Nets.{has_id-at}
use Rattle.mv_net.specs.declared.parts.NetParts.{NetParts}
use Rattle.mv_net.specs.declared.window.Window.{Window}
use Rattle.mv_net.specs.Index.{is_held}
use Rattle.mv_net.specs.Nets.{reads_in}
use Rattle.mv_relation.specs.Relations.{HasVars}
use Rattle.mv_wide.specs.declared.frame.Frame.{Frame}
use Rattle.mv_wide.specs.Inners.{inner_vars, vars_beside}
use Rattle.mv_wide.specs.Plans.{is_beside, is_hidden}
use Rattle.mv_wide.specs.Windows.{IsFrameOf, is_inside}
use Rattle.mv_wide.proofs.Counting.{all_low, beside_vars, hidden_vars}
use Rattle.mv_wide.proofs.Framing.{input_inside, read_inside, table_inside, table_is_held}

module _ (net : NetParts) (w : Window) (n : ℕ) (window : IsWindowOf net n w) (f : Frame) (is : IsFrameOf net.nets w n f) where
  pub tables_listed : (m : ℕ) → has_id w.tables m ≡ true → m < length f.vars.items
  tables_listed m listed = (is.vars.each m (table_inside net w n window m listed)).listed

  pub inputs_listed : (m : ℕ) → has_id w.inputs m ≡ true → m < length f.vars.items
  inputs_listed m listed = (is.vars.each m (input_inside net w n window m listed)).listed

  pub hidden_low : (inner : List Inner) → inner_vars inner ≡ vars_beside f.vars.items w.outputs w.tables
      → All (λ (i : Inner). i.var < length f.counts.items) inner
  hidden_low inner same =
      all_low net.nets w f.counts.items f.vars.items (is_hidden w) inner is.vars
      (λ m passes. table_inside net w n window m (and_parts (has_id w.tables m) (not (has_id w.outputs m)) passes).0)
      (hidden_vars w f.vars.items inner same)

  pub beside_low : (keep : List NetId) (inner : List Inner) → ((m : ℕ) → has_id keep m ≡ (reads_in net.nets n m || nat_eq n m))
      → inner_vars inner ≡ vars_beside f.vars.items keep w.tables ++ vars_beside f.vars.items keep w.inputs
      → All (λ (i : Inner). i.var < length f.counts.items) inner
  beside_low keep inner has same =
      all_low net.nets w f.counts.items f.vars.items (is_beside net.nets w n) inner is.vars
      (λ m passes. (and_parts (is_inside w m) (not (reads_in net.nets n m || nat_eq n m)) passes).0)
      (beside_vars net.nets w n f.vars.items keep inner has same)

  -- ---- what the relations of the tables need

  pub all_held : All (λ (m : NetId). is_held net.nets m.0 ≡ true) w.tables
  all_held k d low = table_is_held net w n window (get_or w.tables k d).0 (has_id-at w.tables k d low)

  has_vars : (m : ℕ) → has_id w.tables m ≡ true → HasVars net.nets f.counts.items f.vars.items m
  has_vars m listed =
      let inside = table_inside net w n window m listed in
      record {
        own = is.vars.each m inside;
        fanins = λ k reads. is.vars.each k (read_inside net w n window m k listed reads);
        beside = λ k reads same. is.vars.apart k m (read_inside net w n window m k listed reads) inside same;
        apart = λ j k reads over same. is.vars.apart j k (read_inside net w n window m j listed reads) (read_inside net w n window m k listed over) same;
      }

  pub all_have : (counts : List ℕ) → counts ≡ f.counts.items → All (λ (m : NetId). HasVars net.nets counts f.vars.items m.0) w.tables
  all_have counts same k d low =
      subst (λ (cs : List ℕ). HasVars net.nets cs f.vars.items (get_or w.tables k d).0) (sym same)
      (has_vars (get_or w.tables k d).0 (has_id-at w.tables k d low))
