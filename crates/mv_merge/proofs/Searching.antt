-- The nets that have a merge wait, so the least that waits and has one is the least of all.
use Rattle.std.proofs.Common.{◌≡◌, ◌∙◌, ℕ, ◌<◌, ◌≤◌, true, false, List, Option, Some, None, MatchOption, Result, Ok, Err, IfOk, is_some, length, refl, sym, ap, subst, arith}
use Rattle.std.proofs.lemmas.Bool.{false≢true}
use Rattle.mv_agenda.specs.Agenda.{AllWait, AllWaitBut, NoneWaits, PutsNear, TakesLeast, WaitBelow}
use Rattle.mv_agenda.specs.Near.{IsNear}
use Rattle.mv_agenda.proofs.Looking.{all_at_first, all_but_taken, all_with_near, all_without_taken, least_of_all, none_at_end}
use Rattle.mv_alike.specs.declared.next.NextMerge.{NextMerge}
use Rattle.mv_alike.specs.Merges.{IsNextMerge, HasNoMerge}
use Rattle.mv_merging.specs.Nets.{net_behind}
use Rattle.mv_net.specs.declared.parts.NetParts.{NetParts}
use Rattle.mv_net.specs.Changes.{with_nets}
use Rattle.mv_net.specs.Formed.{WellFormed}
use Rattle.mv_net.specs.Index.{is_held, is_seen}
use Rattle.mv_net.specs.Nets.{slot}
use Rattle.mv_net.proofs.Known.{is_held_below}
use Rattle.mv_merge.specs.Merges.{CanMerge, IsFirstMerge, IsLeastMerge, IsMerged}
use Rattle.mv_merge.specs.Search.{IsNext}
use Rattle.mv_merge.proofs.Behind.{values_of, held_tabled, fewer_values, far_still}
use Rattle.mv_merge.proofs.Staying.{merge_before}
use Rattle.mv_merge.proofs.Stepping.{can_first}

-- ---- what is found at one net

can_held : (net : NetParts) (n : ℕ) → CanMerge net n → is_held net.nets n ≡ true
can_held net n can = let held = held_tabled (slot net.nets n) can.table in ap is_some held.1

pub unheld_none : (net : NetParts) (n : ℕ) → is_held net.nets n ≡ false → CanMerge net n → ⊥
unheld_none net n out can = false≢true (sym out ∙ can_held net n can)

pub seen_none : (net : NetParts) (n : ℕ) → is_seen net n ≡ true → CanMerge net n → ⊥
seen_none net n seen can = false≢true (sym can.unseen.unseen ∙ seen)

pub unseen_answer : {E : Type 0} (net : NetParts) (n : ℕ) (result : Result (Option NextMerge) E) → is_seen net n ≡ false
    → IfOk result (λ next. MatchOption next (HasNoMerge net.nets n) (IsNextMerge net.nets n))
    → IfOk result (λ next. MatchOption next (CanMerge net n → ⊥) (IsFirstMerge net n))
unseen_answer net n (Ok None) unseen r = λ can. r.none can.table can.gone can.into can.able can.lossless
unseen_answer net n (Ok (Some next)) unseen r = record { unseen = record { unseen = unseen }; first = r }
unseen_answer net n (Err stop) unseen r = tt

pub next_held : (net : NetParts) (n : ℕ) (next : NextMerge) → IsLeastMerge net n next → is_held net.nets n ≡ true
next_held net n next first = can_held net n (can_first net n next first.merge)

-- ---- the nets that wait

pub all_wait : (net : NetParts) (agenda : List ℕ) (end : ℕ) → end ≡ length net.nets → WaitBelow agenda end → AllWait (CanMerge net) agenda
all_wait net agenda end is below =
    all_at_first (CanMerge net) agenda end below (λ n can. subst (λ k. n < k) (sym is) (is_held_below net.nets n (can_held net n can)))

-- where nothing waits no values may be merged
pub all_merged : (net : NetParts) (agenda : List ℕ) → AllWait (CanMerge net) agenda → NoneWaits agenda → IsMerged net
all_merged net agenda wait none = record { none = none_at_end (CanMerge net) agenda wait none }

-- the least that waits and has a merge is the least of all that have one
pub next_of : (net : NetParts) (old new : List ℕ) (n : ℕ) (next : NextMerge) → AllWait (CanMerge net) old → TakesLeast old new n → IsFirstMerge net n next → IsNext net new n next
next_of net old new n next wait takes merge = record {
  first = record {
    merge = merge;
    least = λ m low can. let up : n ≤ m = least_of_all (CanMerge net) old new n wait takes m can in absurd (omega arith);
  };
  others = all_but_taken (CanMerge net) old new n wait takes;
}

pub wait_without : (net : NetParts) (old new : List ℕ) (n : ℕ) → AllWait (CanMerge net) old → TakesLeast old new n → (CanMerge net n → ⊥) → AllWait (CanMerge net) new
wait_without net old new n wait takes stays = all_without_taken (CanMerge net) new n (all_but_taken (CanMerge net) old new n wait takes) stays

-- ---- behind a merge

module _ (old new : NetParts) (n : ℕ) (next : NextMerge) (formed : WellFormed old) (first : IsLeastMerge old n next) (is : new ≡ net_behind old n next.gone next.into) where
  abbrev can : CanMerge old n
  can = can_first old n next first.merge

  pub fewer_left : values_of new.nets < values_of old.nets
  fewer_left =
      let P : NetParts → Type 0 = λ p. values_of p.nets < values_of old.nets in
      subst P (sym is) (fewer_values old n can)

  -- a net far from it has a merge only where it had one
  had_before : (m : ℕ) → (IsNear old.nets n m → ⊥) → CanMerge new m → CanMerge old m
  unfolding net_behind with_nets
  had_before m far now =
      merge_before old (net_behind old n next.gone next.into) m refl (far_still old n can formed m far) (subst (λ p. CanMerge p m) is now)

  pub all_wait_behind : (before agenda : List ℕ) → AllWaitBut (CanMerge old) before n → PutsNear old.nets n before agenda → AllWait (CanMerge new) agenda
  all_wait_behind before agenda others put = all_with_near (CanMerge old) (CanMerge new) old.nets before agenda n others put had_before
