-- What the steps of `merge` come to, and what is left behind all of them.
use Rattle.std.proofs.Common.{◌≡◌, ℕ, ◌<◌, ◌≤◌, Bool, true, Some, None, is_some, List, sym, subst, arith}
use Rattle.mv_alike.specs.Merges.{AreAlikeInOrder, GivesEach}
use Rattle.mv_entry.specs.declared.rule.Rule.{Rule}
use Rattle.mv_entry.specs.declared.rule.Rule.TheVariants.{Merge}
use Rattle.mv_entry.specs.Entries.{Entry, Applied, rules_of}
use Rattle.mv_net.specs.declared.parts.NetParts.{NetParts}
use Rattle.mv_net.specs.Formed.{WellFormed}
use Rattle.mv_net.specs.Nets.{slot, values_in, table_in, literals_in}
use Rattle.mv_pass.proofs.Going.{goes_replays, goes_no_more}
use Rattle.mv_plans.specs.Checks.{IsUnseen}
use Rattle.mv_rules.specs.Applies.{Applies}
use Rattle.mv_rules.specs.Replaying.{Replays}
use Rattle.mv_merge.specs.Merges.{IsMerged, IsMergeStep, MergesSome}
use Rattle.mv_merge.proofs.Behind.{fewer_literals}
use Rattle.mv_merge.proofs.Stepping.{can_rule}

-- ---- the steps

pub merges_replay : (free : Bool) (old new : NetParts) (steps : List Entry) → MergesSome free old steps new → Replays free (rules_of steps) old new
merges_replay free old new steps g = goes_replays free IsMergeStep old new steps g

step_no_more : (free : Bool) (old new : NetParts) (rule : Rule) → WellFormed old → IsMergeStep old (Applied rule) → Applies free rule old new
    → literals_in new.nets ≤ literals_in old.nets
step_no_more free old new (Merge name gone into) formed lawful r =
    let P : NetParts → Type 0 = λ p. literals_in p.nets ≤ literals_in old.nets in
    subst P (sym r.new_is) (fewer_literals old r.number (can_rule old name gone into new r))
step_no_more free old new _ formed lawful r = absurd lawful

pub merges_no_more : (free : Bool) (old new : NetParts) (steps : List Entry) → WellFormed old → MergesSome free old steps new
    → literals_in new.nets ≤ literals_in old.nets
merges_no_more free old new steps formed g = goes_no_more free IsMergeStep (step_no_more free) old new steps formed g

-- ---- what is left

module _ (net : NetParts) (n : ℕ) (merged : IsMerged net) (unseen : IsUnseen net n) (table : is_some (table_in (slot net.nets n)) ≡ true) where
  pub each_given : 1 < values_in (slot net.nets n) → GivesEach net.nets n
  each_given several = record {
    each = λ v low never.
        merged.none n (record {
          unseen = unseen;
          table = table;
          gone = record { 0 = v };
          into = None;
          able = record { several = several; low = low; other = tt };
          lossless = never;
        });
  }

  pub all_apart : (v w : ℕ) → AreAlikeInOrder net.nets n v w → ⊥
  all_apart v w two =
      let ordered = two.ordered in
      let low = two.low in
      merged.none n (record {
        unseen = unseen;
        table = table;
        gone = record { 0 = w };
        into = Some (record { 0 = v });
        able = record { several = omega (arith, ordered, low); low = low; other = (omega (arith, ordered, low), λ e. omega (arith, e, ordered)) };
        lossless = two.alike;
      })
