-- The collapses of `eliminate`, and its notes behind them.
use Rattle.std.proofs.Common.{◌≡◌, ◌∙◌, ℕ, ◌<◌, ◌≤◌, Bool, true, Option, is_some, List, [], length, refl, sym, ap, subst, arith}
use Rattle.mv_agenda.specs.Agenda.{AllWait, AllWaitBut, NoneWaits, PutsNear, TakesLeast, WaitBelow}
use Rattle.mv_agenda.specs.Near.{IsNear}
use Rattle.mv_agenda.proofs.Looking.{all_at_first, all_but_taken, all_with_near, all_without_taken, least_of_all, none_at_end}
use Rattle.mv_entry.specs.declared.rule.Rule.TheVariants.{Collapse}
use Rattle.mv_entry.specs.Entries.{Entry, Applied}
use Rattle.mv_locality.specs.Local.{StaysAround}
use Rattle.mv_locality.specs.Same.{KeepsReaders}
use Rattle.mv_locality.proofs.Places.{place_kept, place_back, far_stays, AreNarrow-same, CanCollapse-same}
use Rattle.mv_locality.proofs.Savings.{saving_same}
use Rattle.mv_locality.proofs.Steps.{names_itself, steps_left, collapses_around, collapses_fewer}
use Rattle.mv_locality.proofs.Tables.{IsInnerOf-same}
use Rattle.mv_net.specs.declared.parts.FlatNet.{FlatNet}
use Rattle.mv_net.specs.declared.parts.NetParts.{NetParts}
use Rattle.mv_net.specs.Changes.{with_nets}
use Rattle.mv_net.specs.Formed.{WellFormed}
use Rattle.mv_net.specs.Index.{is_held}
use Rattle.mv_net.specs.Nets.{slot, name_in, table_in}
use Rattle.mv_net.proofs.Known.{is_held_below}
use Rattle.mv_pass.specs.Courses.{Short, Past}
use Rattle.mv_pass.specs.Taking.{CanApply}
use Rattle.mv_pass.proofs.Visiting.{all_visits}
use Rattle.mv_rules.specs.Applies.{Applies}
use Rattle.mv_plans.specs.Checks.{IsTabled}
use Rattle.mv_plans.specs.Collapsing.{collapsed}
use Rattle.mv_gain.specs.Savings.{IsSaving, IsLeastSaving, NoneSaves}
use Rattle.mv_gain.proofs.Going.{named_itself}
use Rattle.mv_eliminate.specs.Eliminates.{Eliminates, EliminatesAll, IsEliminateStep, NotesWide}
use Rattle.mv_eliminate.specs.Eliminating.{IsNextSaving, WentInto}

-- ---- the net that is found

table_held : (nets : List (Option FlatNet)) (n : ℕ) → is_some (table_in (slot nets n)) ≡ true → is_held nets n ≡ true
table_held nets n tabled = ap (λ (f : Option FlatNet). is_some f) (named_itself nets n tabled).named.held

pub saving_held : (net : NetParts) (n : ℕ) → IsSaving net n → is_held net.nets n ≡ true
saving_held net n saving = table_held net.nets n saving.tabled

pub all_wait : (net : NetParts) (agenda : List ℕ) (end : ℕ) → end ≡ length net.nets → WaitBelow agenda end → AllWait (IsSaving net) agenda
all_wait net agenda end is below =
    all_at_first (IsSaving net) agenda end below (λ n saving. subst (λ k. n < k) (sym is) (is_held_below net.nets n (saving_held net n saving)))

pub none_saves : (net : NetParts) (agenda : List ℕ) → AllWait (IsSaving net) agenda → NoneWaits agenda → NoneSaves net
none_saves net agenda wait none = record { none = none_at_end (IsSaving net) agenda wait none }

pub next_of : (net : NetParts) (old new : List ℕ) (n : ℕ) → AllWait (IsSaving net) old → TakesLeast old new n → IsSaving net n → IsNextSaving net new n
next_of net old new n wait takes saving = record {
  first = record {
    saving = saving;
    least = λ m low other. let up : n ≤ m = least_of_all (IsSaving net) old new n wait takes m other in absurd (omega arith);
  };
  others = all_but_taken (IsSaving net) old new n wait takes;
}

pub wait_without : (net : NetParts) (old new : List ℕ) (n : ℕ) → AllWait (IsSaving net) old → TakesLeast old new n → (IsSaving net n → ⊥) → AllWait (IsSaving net) new
wait_without net old new n wait takes stays = all_without_taken (IsSaving net) new n (all_but_taken (IsSaving net) old new n wait takes) stays

-- ---- its collapse

module _ (net : NetParts) (n : ℕ) (name : List ℕ) (named : name ≡ name_in (slot net.nets n)) where
  pub saving_applies : (free : Bool) → IsSaving net n → CanApply free (Collapse name) net
  saving_applies free saving = record {
    new = collapsed net saving.composites.inner;
    applies = record {
      number = n;
      net = subst (λ w. IsTabled net.nets w n) (sym named) (named_itself net.nets n saving.tabled);
      unseen = saving.can.unseen;
      read = saving.can.read;
      unshared = saving.can.unshared;
      composites = saving.composites;
      new_is = refl;
    };
  }

  pub least_step : IsLeastSaving net n → IsEliminateStep net (Applied (Collapse name))
  least_step first = record { number = n; first = first; named = sym named }

  pub went_into : (free : Bool) (new : NetParts) → WellFormed net → WellFormed new → IsSaving net n → Applies free (Collapse name) net new → WentInto net new n
  went_into free new formed formed' saving r = record {
    name = name;
    collapses = r;
    number = names_itself net name n r.number formed r.net (saving_held net n saving) named;
    formed = formed';
  }

-- ---- what it leaves

still_with : (net : NetParts) (nets : List (Option FlatNet)) (new : NetParts) → new ≡ with_nets net nets → new ≡ with_nets net new.nets
unfolding with_nets
still_with net nets new e = e ∙ ap (λ (p : NetParts). with_nets net p.nets) (sym e)

pub fewer_left : (old new : NetParts) (n : ℕ) → WellFormed old → WentInto old new n → steps_left new.nets < steps_left old.nets
fewer_left old new n formed w = collapses_fewer old w.name new formed w.collapses

-- a net far from it saves only where it did
saved_before : (old new : NetParts) (n : ℕ) → WellFormed old → WentInto old new n → (m : ℕ) → (IsNear old.nets n m → ⊥) → IsSaving new m → IsSaving old m
saved_before old new n formed w m far saving =
    let around : StaysAround old.nets new.nets n = subst (StaysAround old.nets new.nets) w.number (collapses_around old w.name new formed w.collapses) in
    let stays = far_stays old new n w.formed (still_with old _ new w.collapses.new_is) around m far in
    let back = place_back old new m (place_kept old new m stays) in
    let there = saving.composites in
    let keeps : KeepsReaders new.nets old.nets there.inner.net.0 = subst (KeepsReaders new.nets old.nets) (sym there.of_net) back.around in
    record {
      tabled = ap (λ f. is_some (table_in f)) (back.around.net.same) ∙ saving.tabled;
      can = CanCollapse-same new old m back saving.can;
      composites = record {
        inner = there.inner;
        of_net = there.of_net;
        known = IsInnerOf-same new.nets old.nets there.inner keeps.net there.known;
        narrow = AreNarrow-same new.nets old.nets m there.inner back.around there.of_net there.known there.narrow;
      };
      no_more = saving_same new old there.inner w.formed formed keeps there.known saving.no_more;
    }

pub all_wait_behind : (old new : NetParts) (n : ℕ) (before agenda : List ℕ) → WellFormed old → AllWaitBut (IsSaving old) before n → PutsNear old.nets n before agenda → WentInto old new n
    → AllWait (IsSaving new) agenda
all_wait_behind old new n before agenda formed others put w =
    all_with_near (IsSaving old) (IsSaving new) old.nets before agenda n others put (saved_before old new n formed w)

-- ---- all steps

-- no step is some way of the course
pub not_begun : (free : Bool) (net : NetParts) → Eliminates free net [] net
not_begun free net = Short refl

-- all steps are some
pub all_some : (free : Bool) (old new : NetParts) (es : List Entry) → EliminatesAll free old es new → Eliminates free old es new
all_some free old new es p = Past (record {
  mid = p.mid;
  front = p.front;
  rest = p.rest;
  first = p.first;
  second = all_visits NotesWide p.mid new p.rest p.second;
  entries_are = p.entries_are;
})
