-- The nets that can go wait, so the least that waits and can go is the least of all.
use Rattle.std.proofs.Common.{◌≡◌, ◌∙◌, ◌||◌, ℕ, ◌<◌, ◌≤◌, Bool, true, false, List, [], ◌∷◌, MatchBool, Result, Ok, Err, IfOk, None, set, refl, sym, subst, arith, length, nat_eq, eqb-true, eq-eqb}
use Rattle.std.proofs.lemmas.Bool.{false≢true, or_left, or_right}
use Rattle.mv_agenda.specs.Agenda.{waits, AllWait, AllWaitBut, NoneWaits, PutsAll, TakesLeast, WaitBelow}
use Rattle.mv_agenda.proofs.Looking.{all_at_first, all_but_taken, all_without_taken, least_of_all, none_at_end}
use Rattle.mv_base.specs.declared.number.NetId.{NetId}
use Rattle.mv_graph.specs.Nets.{IsAscending, has_id}
use Rattle.mv_locality.proofs.Steps.{steps_left, removes_fewer}
use Rattle.mv_net.specs.declared.parts.NetParts.{NetParts}
use Rattle.mv_net.specs.Changes.{without, with_nets}
use Rattle.mv_net.specs.Index.{is_seen}
use Rattle.mv_net.specs.Nets.{slot, name_in, net_reads}
use Rattle.mv_net.specs.Total.{IsTotalNet, IsRemovable}
use Rattle.mv_net.proofs.Named.{held_below}
use Rattle.mv_net.proofs.Patches.{IsWritten-gone}
use Rattle.mv_net.proofs.Removal.{removable-later}
use Rattle.mv_net.proofs.Stays.{held_other}
use Rattle.mv_sweep.specs.Drops.{NoneLeft}
use Rattle.mv_sweep.specs.Search.{IsNextRemovable}
use Rattle.mv_sweep.proofs.Stepping.{removes}

-- ---- one net

pub read_stays : (net : NetParts) (n : ℕ) (ms : List NetId) → IsAscending (λ k. net_reads (slot net.nets k) n) ms → nat_eq (length ms) 0 ≡ false → IsRemovable net n → ⊥
read_stays net n [] a some r = false≢true (sym some)
read_stays net n (m ∷ ms) a some r =
    let here : has_id (m ∷ ms) m.0 ≡ true = or_left (nat_eq m.0 m.0) (has_id ms m.0) (eq-eqb m.0 m.0 refl) in
    false≢true (sym (r.unread m.0) ∙ (sym (a.members m.0) ∙ here))

unread_by_none : (net : NetParts) (n : ℕ) (ms : List NetId) → IsAscending (λ k. net_reads (slot net.nets k) n) ms → nat_eq (length ms) 0 ≡ true → (m : ℕ) → net_reads (slot net.nets m) n ≡ false
unread_by_none net n [] a none m = sym (a.members m)
unread_by_none net n (k ∷ ms) a none m = absurd (let e : length (k ∷ ms) ≡ 0 = eqb-true (length (k ∷ ms)) 0 none in omega arith)

-- a net that nobody sees or reads can go exactly where its table is total
total_goes : (net : NetParts) (n : ℕ) (ms : List NetId) (total : Bool) → is_seen net n ≡ false → IsAscending (λ k. net_reads (slot net.nets k) n) ms → nat_eq (length ms) 0 ≡ true → MatchBool total (IsTotalNet net.nets n) (IsTotalNet net.nets n → ⊥) → MatchBool total (IsRemovable net n) (IsRemovable net n → ⊥)
total_goes net n ms true unseen a none t = record { unseen = unseen; unread = unread_by_none net n ms a none; total = t }
total_goes net n ms false unseen a none t = λ r. t r.total

pub goes_as_total : {E : Type 0} (net : NetParts) (n : ℕ) (ms : List NetId) (result : Result Bool E) → is_seen net n ≡ false → IsAscending (λ k. net_reads (slot net.nets k) n) ms → nat_eq (length ms) 0 ≡ true → IfOk result (λ total. MatchBool total (IsTotalNet net.nets n) (IsTotalNet net.nets n → ⊥)) → IfOk result (λ goes. MatchBool goes (IsRemovable net n) (IsRemovable net n → ⊥))
goes_as_total net n ms (Ok total) unseen a none t = total_goes net n ms total unseen a none t
goes_as_total net n ms (Err e) unseen a none t = tt

-- ---- the nets that wait

-- at the beginning all nets wait
pub all_can_wait : (net : NetParts) (agenda : List ℕ) (end : ℕ) → end ≡ length net.nets → WaitBelow agenda end → AllWait (IsRemovable net) agenda
all_can_wait net agenda end is below =
    all_at_first (IsRemovable net) agenda end below (λ n can. subst (λ k. n < k) (sym is) (held_below net.nets n can.total.net can.total.held))

-- where nothing waits no net can go
pub none_left : (net : NetParts) (agenda : List ℕ) → AllWait (IsRemovable net) agenda → NoneWaits agenda → NoneLeft net
none_left net agenda wait none = record { none = none_at_end (IsRemovable net) agenda wait none }

-- the least that waits and can go is the least of all that can
pub next_of : (net : NetParts) (old new : List ℕ) (n : ℕ) → AllWait (IsRemovable net) old → TakesLeast old new n → IsRemovable net n → IsNextRemovable net new n
next_of net old new n wait takes can = record {
  first = record {
    removable = can;
    least = record { none = λ m low r. let up : n ≤ m = least_of_all (IsRemovable net) old new n wait takes m r in omega (arith, low, up) };
  };
  others = all_but_taken (IsRemovable net) old new n wait takes;
}

pub wait_without : (net : NetParts) (old new : List ℕ) (n : ℕ) → AllWait (IsRemovable net) old → TakesLeast old new n → (IsRemovable net n → ⊥) → AllWait (IsRemovable net) new
wait_without net old new n wait takes stays = all_without_taken (IsRemovable net) new n (all_but_taken (IsRemovable net) old new n wait takes) stays

-- ---- behind a net that went

-- which can't go again
gone_stays : (net : NetParts) (n m : ℕ) → IsRemovable (without net n) m → m ≡ n → ⊥
unfolding with_nets
gone_stays net n m r = held_other net.nets n (set net.nets n None) (IsWritten-gone net.nets n) m r.total.net r.total.held

-- only those that it read can have come to be such
pub wait_behind_gone : (net new : NetParts) (n : ℕ) (before agenda : List ℕ) (fs : List NetId) → AllWaitBut (IsRemovable net) before n
    → IsAscending (λ m. net_reads (slot net.nets n) m) fs → PutsAll before agenda fs → new ≡ without net n → AllWait (IsRemovable new) agenda
wait_behind_gone net new n before agenda fs others a put e = record { each = λ m r. put.each m ∙ waiting m r (net_reads (slot net.nets n) m) refl }
  where
    waiting : (m : ℕ) → IsRemovable new m → (b : Bool) → net_reads (slot net.nets n) m ≡ b → (waits before m || has_id fs m) ≡ true
    waiting m r true h = or_right (waits before m) (has_id fs m) (a.members m ∙ h)
    waiting m r false h =
        let later = let P : NetParts → Type 0 = λ p. IsRemovable p m in subst P e r in
        or_left (waits before m) (has_id fs m) (others.each m (removable-later net n m later h) (λ (same : n ≡ m). gone_stays net n m later (sym same)))

-- fewer steps are left
pub gone_fewer : (net new : NetParts) (n : ℕ) → IsRemovable net n → new ≡ without net n → steps_left new.nets < steps_left net.nets
gone_fewer net new n can e =
    let name = name_in (slot net.nets n) in
    let less = removes_fewer net name (without net n) (removes net n name can refl) in
    let P : NetParts → Type 0 = λ p. steps_left p.nets < steps_left net.nets in
    subst P (sym e) less
