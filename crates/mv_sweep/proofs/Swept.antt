-- The rules of `sweep`: each applies to its net, what it leaves, and that nets far from it are swept where they were.
use Rattle.std.proofs.Common.{◌≡◌, ◌∙◌, ℕ, ◌<◌, ◌≤◌, Bool, true, Option, Some, None, is_some, List, [], ◌∷◌, length, inl, refl, sym, ap, subst, arith}
use Rattle.std.proofs.lemmas.Bool.{false≢true}
use Rattle.mv_agenda.specs.Agenda.{AllWait, AllWaitBut, NoneWaits, PutsNear, TakesLeast, WaitBelow}
use Rattle.mv_agenda.specs.Near.{IsNear}
use Rattle.mv_agenda.proofs.Looking.{all_at_first, all_but_taken, all_with_near, all_without_taken, least_of_all, none_at_end}
use Rattle.mv_cover.specs.declared.cover.Cover.{Cover}
use Rattle.mv_entry.specs.Entries.{Applied}
use Rattle.mv_locality.specs.Local.{StaysAround}
use Rattle.mv_locality.specs.Same.{KeepsPlace}
use Rattle.mv_locality.proofs.Fewer.{is_plain, collapses_no_more}
use Rattle.mv_locality.proofs.Places.{place_kept, place_back, far_stays, IsRead-same, HasComposites-same, IsUnseen-same, IsRemovable-same}
use Rattle.mv_locality.proofs.Steps.{names_itself, removes_around, wires_around, collapses_around, removes_fewer, wires_fewer, collapses_fewer}
use Rattle.mv_locality.proofs.Tables.{IsBuffer-same, IsPlainConstant-same}
use Rattle.mv_net.specs.declared.parts.FlatNet.{FlatNet}
use Rattle.mv_net.specs.declared.parts.NetParts.{NetParts}
use Rattle.mv_net.specs.Changes.{with_nets}
use Rattle.mv_net.specs.Formed.{WellFormed}
use Rattle.mv_net.specs.Index.{is_held}
use Rattle.mv_net.specs.Nets.{slot, name_in, table_in}
use Rattle.mv_net.proofs.Known.{is_held_below}
use Rattle.mv_pass.specs.Taking.{CanApply}
use Rattle.mv_rules.specs.Applies.{Applies, keeps_choices}
use Rattle.mv_net.specs.Plain.{IsPlainBuffer, IsPlainConstant}
use Rattle.mv_plans.specs.Checks.{IsTabled, IsUnseen, IsRead}
use Rattle.mv_plans.specs.Collapsing.{CanCollapse, Collapses, collapsed}
use Rattle.mv_gain.specs.Savings.{IsSaving, IsWideNet}
use Rattle.mv_gain.proofs.Behind.{right_removed, right_wired, right_collapsed}
use Rattle.mv_gain.proofs.Going.{wide_net}
use Rattle.mv_sweep.specs.declared.way.Way.{Way}
use Rattle.mv_sweep.specs.declared.way.Way.TheVariants.{Remove, Wire, Collapse}
use Rattle.mv_sweep.specs.Sweeps.{IsFoldable, IsSweptNet, IsSwept, IsSweepStep}
use Rattle.mv_sweep.specs.Ways.{rule_for, IsWay, CanSweep, IsLeastWay, IsNext, StepsAround}
use Rattle.mv_sweep.proofs.Stepping.{removes}

-- ---- nets with a rule and without

pub swept_net : (net : NetParts) (n : ℕ) → (CanSweep net n → ⊥) → IsSweptNet net n
swept_net net n stays = record {
  removable = λ r. stays (record { way = Remove; is = r });
  wirable = λ w. stays (record { way = Wire; is = w });
  foldable = λ f. stays (record { way = Collapse; is = f });
}

pub no_way : (net : NetParts) (n : ℕ) → IsSweptNet net n → (way : Way) → IsWay net n way → ⊥
no_way net n swept Remove is = swept.removable is
no_way net n swept Wire is = swept.wirable is
no_way net n swept Collapse is = swept.foldable is

pub cannot : (net : NetParts) (n : ℕ) → IsSweptNet net n → CanSweep net n → ⊥
cannot net n swept can = no_way net n swept can.way can.is

-- ---- a net with a table, by its name

tabled_in : (f : Option FlatNet) (c : Cover) → table_in f ≡ Some c → (g : FlatNet) × (f ≡ Some g)
tabled_in None c e = cc
tabled_in (Some g) c e = (g, refl)

tabled : (net : NetParts) (n : ℕ) (name : List ℕ) (c : Cover) → table_in (slot net.nets n) ≡ Some c → name ≡ name_in (slot net.nets n) → IsTabled net.nets name n
tabled net n name c table named =
    let at = tabled_in (slot net.nets n) c table in
    record {
      named = record { net = at.0; held = at.1; is = sym (named ∙ ap name_in at.1) };
      table = ap (λ (t : Option Cover). is_some t) table;
    }

way_table : (net : NetParts) (n : ℕ) (way : Way) → IsWay net n way → (c : Cover) × (table_in (slot net.nets n) ≡ Some c)
way_table net n Remove is = (is.total.cover, ap table_in is.total.held ∙ is.total.table)
way_table net n Wire is = (is.buffer.buffer.cover, is.buffer.buffer.table)
way_table net n Collapse is = (is.constant.constant.cover, is.constant.constant.table)

pub way_held : (net : NetParts) (n : ℕ) (way : Way) → IsWay net n way → is_held net.nets n ≡ true
way_held net n way is =
    let t = way_table net n way is in
    ap (λ (f : Option FlatNet). is_some f) (tabled_in (slot net.nets n) t.0 t.1).1

-- each of these rules leaves what the network means
pub way_keeps : (way : Way) (name : List ℕ) → keeps_choices (rule_for way name) ≡ true
way_keeps Remove name = refl
way_keeps Wire name = refl
way_keeps Collapse name = refl

-- ---- the rule applies

module _ (net : NetParts) (n : ℕ) (name : List ℕ) (formed : WellFormed net) (named : name ≡ name_in (slot net.nets n)) where
  pub way_applies : (free : Bool) (way : Way) → IsWay net n way → CanApply free (rule_for way name) net
  way_applies free Remove is = record { new = _; applies = removes net n name is named }
  way_applies free Wire is = record {
    new = _;
    applies = record {
      number = n;
      net = tabled net n name is.buffer.buffer.cover is.buffer.buffer.table named;
      same = is.buffer;
      read = is.read;
      new_is = refl;
    };
  }
  way_applies free Collapse is = record {
    new = collapsed net is.composites.inner;
    applies = record {
      number = n;
      net = tabled net n name is.constant.constant.cover is.constant.constant.table named;
      unseen = is.unseen;
      read = is.read;
      unshared = inl (is_plain net formed n is.constant.value is.constant.constant.cover is.constant.constant.table is.constant.constant);
      composites = is.composites;
      new_is = refl;
    };
  }

  pub least_step : (way : Way) → IsLeastWay net n way → IsSweepStep net (Applied (rule_for way name))
  least_step Remove first = record { number = n; sweeps = first.way_is; least = first.least; names = ap (λ w. w ∷ []) named }
  least_step Wire first = record { number = n; sweeps = first.way_is; least = first.least; names = ap (λ w. w ∷ []) named }
  least_step Collapse first = record { number = n; sweeps = first.way_is; least = first.least; names = ap (λ w. w ∷ []) named }

  -- ---- what it leaves

  still_with : (nets : List (Option FlatNet)) (new : NetParts) → new ≡ with_nets net nets → new ≡ with_nets net new.nets
  unfolding with_nets
  still_with nets new e = e ∙ ap (λ (p : NetParts). with_nets net p.nets) (sym e)

  pub way_leaves : (free : Bool) (way : Way) → IsWay net n way → (new : NetParts) → WellFormed new → Applies free (rule_for way name) net new → StepsAround net new n
  way_leaves free Remove is new formed' r =
      let same = names_itself net name n r.number formed r.net (way_held net n Remove is) named in
      record {
        around = subst (StaysAround net.nets new.nets) same (removes_around net name new r);
        same = still_with _ new r.new_is;
        formed = formed';
        right = λ kept behind. right_removed net new name kept n behind r same;
        fewer = removes_fewer net name new r;
      }
  way_leaves free Wire is new formed' r =
      let same = names_itself net name n r.number formed r.net (way_held net n Wire is) named in
      record {
        around = subst (StaysAround net.nets new.nets) same (wires_around net name new formed r);
        same = still_with _ new r.new_is;
        formed = formed';
        right = λ kept behind. right_wired net new name kept n behind r same;
        fewer = wires_fewer net name new formed r;
      }
  way_leaves free Collapse is new formed' r =
      let same = names_itself net name n r.number formed r.net (way_held net n Collapse is) named in
      record {
        around = subst (StaysAround net.nets new.nets) same (collapses_around net name new formed r);
        same = still_with _ new r.new_is;
        formed = formed';
        right = λ kept behind. right_collapsed net new name kept n behind r same;
        fewer = collapses_fewer net name new formed r;
      }

-- ---- nets far from it

way_back : (old new : NetParts) (n : ℕ) → KeepsPlace new old n → (way : Way) → IsWay new n way → IsWay old n way
way_back old new n keeps Remove is = IsRemovable-same new old n keeps is
way_back old new n keeps Wire is = record {
  unseen = IsUnseen-same new old n keeps is.unseen;
  read = IsRead-same new.nets old.nets n keeps.around is.read;
  buffer = IsBuffer-same new.nets old.nets n keeps.around.net is.buffer;
}
way_back old new n keeps Collapse is = record {
  unseen = IsUnseen-same new old n keeps is.unseen;
  read = IsRead-same new.nets old.nets n keeps.around is.read;
  constant = record {
    value = is.constant.value;
    constant = IsPlainConstant-same new.nets old.nets n is.constant.value keeps.around.net.same is.constant.constant;
  };
  composites = HasComposites-same new.nets old.nets n keeps.around is.composites;
}

pub can_before : (old new : NetParts) (n : ℕ) → StepsAround old new n → (m : ℕ) → (IsNear old.nets n m → ⊥) → CanSweep new m → CanSweep old m
can_before old new n step m far can =
    let stays = far_stays old new n step.formed step.same step.around m far in
    record { way = can.way; is = way_back old new m (place_back old new m (place_kept old new m stays)) can.way can.is }

-- ---- the nets that wait

pub all_wait : (net : NetParts) (agenda : List ℕ) (end : ℕ) → end ≡ length net.nets → WaitBelow agenda end → AllWait (CanSweep net) agenda
all_wait net agenda end is below =
    all_at_first (CanSweep net) agenda end below (λ n can. subst (λ k. n < k) (sym is) (is_held_below net.nets n (way_held net n can.way can.is)))

pub all_wait_behind : (old new : NetParts) (n : ℕ) (before agenda : List ℕ) → AllWaitBut (CanSweep old) before n → PutsNear old.nets n before agenda → StepsAround old new n
    → AllWait (CanSweep new) agenda
all_wait_behind old new n before agenda others put step =
    all_with_near (CanSweep old) (CanSweep new) old.nets before agenda n others put (can_before old new n step)

-- where nothing waits each net is swept
pub all_swept : (net : NetParts) (agenda : List ℕ) → AllWait (CanSweep net) agenda → NoneWaits agenda → IsSwept net
all_swept net agenda wait none = record { each = λ n. swept_net net n (none_at_end (CanSweep net) agenda wait none n) }

-- the least that waits and has a rule is the least of all that have one
pub next_of : (net : NetParts) (old new : List ℕ) (n : ℕ) (way : Way) → AllWait (CanSweep net) old → TakesLeast old new n → IsWay net n way → IsNext net new n way
next_of net old new n way wait takes is = record {
  first = record {
    way_is = is;
    least = λ m low. swept_net net m (λ can. let up : n ≤ m = least_of_all (CanSweep net) old new n wait takes m can in absurd (omega arith));
  };
  others = all_but_taken (CanSweep net) old new n wait takes;
}

pub wait_without : (net : NetParts) (old new : List ℕ) (n : ℕ) → AllWait (CanSweep net) old → TakesLeast old new n → IsSweptNet net n → AllWait (CanSweep net) new
wait_without net old new n wait takes swept =
    all_without_taken (CanSweep net) new n (all_but_taken (CanSweep net) old new n wait takes) (cannot net n swept)

-- ---- what is asked of a net

-- a constant that saves can be folded
pub folds : (net : NetParts) (n : ℕ) → IsUnseen net n → IsRead net.nets n → (v : ℕ) → IsPlainConstant net.nets n v → IsSaving net n → IsFoldable net n
folds net n unseen read v constant saving =
    record { unseen = unseen; read = read; constant = record { value = v; constant = constant }; composites = saving.composites }

-- and one that can be folded saves, since a constant brings no literals
fold_saves : (net : NetParts) (n : ℕ) → WellFormed net → IsFoldable net n → IsSaving net n
fold_saves net n formed is =
    let constant = is.constant.constant in
    let name = name_in (slot net.nets n) in
    let table = tabled net n name constant.cover constant.table refl in
    let can : CanCollapse net n = record { unseen = is.unseen; read = is.read; unshared = inl (is_plain net formed n is.constant.value constant.cover constant.table constant) } in
    let r : Collapses net name (collapsed net is.composites.inner) =
    record { number = n; net = table; unseen = can.unseen; read = can.read; unshared = can.unshared; composites = is.composites; new_is = refl } in
    record { tabled = table.table; can = can; composites = is.composites; no_more = collapses_no_more net name (collapsed net is.composites.inner) is.constant.value formed r constant }

pub stays_unfolded : (net : NetParts) (n : ℕ) → WellFormed net → (IsSaving net n → ⊥) → IsFoldable net n → ⊥
stays_unfolded net n formed stays is = stays (fold_saves net n formed is)

pub wide_unfolded : (net : NetParts) (n : ℕ) → WellFormed net → IsWideNet net n → IsFoldable net n → ⊥
wide_unfolded net n formed wide is = (wide_net net n formed wide).1 is.composites

-- a net that is read can't go, and one that is no buffer can't be wired
pub read_swept : (net : NetParts) (n : ℕ) → IsRead net.nets n → ((m : ℕ) → IsPlainBuffer net.nets n m → ⊥) → (IsFoldable net n → ⊥) → IsSweptNet net n
read_swept net n read no_buffer no_fold = record {
  removable = λ r. false≢true (sym (r.unread read.reader) ∙ read.reads);
  wirable = λ w. no_buffer w.buffer.source w.buffer.buffer;
  foldable = no_fold;
}
