-- The one step of `collapse NET`: a check of the rule that fails has its note, and a step is all.
use Rattle.std.proofs.Common.{◌≡◌, ◌⊎◌, ◌<◌, ◌≤◌, ℕ, Bool, false, List, [], ◌∷◌, inl, inr, Result, refl, sym, ap, subst, arith}
use Rattle.std.specs.Prelude.{MatchOption}
use Rattle.mv_entry.specs.declared.fault.RuleFault.{RuleFault}
use Rattle.mv_entry.specs.declared.fault.RuleFault.TheVariants.{Memory as out_of_memory}
use Rattle.mv_base.specs.declared.outside.Failed.{Failed}
use Rattle.mv_entry.specs.declared.note.Command.TheVariants.{Collapse as CollapseNet}
use Rattle.mv_entry.specs.declared.note.Note.TheVariants.{Begin, Dropped}
use Rattle.mv_entry.specs.declared.note.Why.{Why}
use Rattle.mv_entry.specs.declared.note.Why.TheVariants.{Literals}
use Rattle.mv_entry.specs.declared.rule.Rule.{Rule}
use Rattle.mv_entry.specs.declared.rule.Rule.TheVariants.{Collapse}
use Rattle.mv_entry.specs.Entries.{Applied, Noted}
use Rattle.mv_entry.specs.Tallies.{Journaled, Takes}
use Rattle.mv_net.specs.declared.parts.NetParts.{NetParts}
use Rattle.mv_net.specs.Nets.{literals_in}
use Rattle.mv_pass.specs.Taking.{CanApply}
use Rattle.mv_rules.specs.Applies.{Applies, Fails, LacksNodes, LeavesLiterals, Stops}
use Rattle.mv_plans.specs.Collapsing.{FailsCollapse}
use Rattle.mv_collapse.specs.Collapses.{CollapsesFreely, StaysFor, CollapsesNet, Collapsed, Remains}
use Rattle.mv_collapse.specs.Reasons.{why_for}

-- ---- the reason

-- each check of the rule that fails has its note
fails_for : (net : NetParts) (name : List ℕ) (f : RuleFault) → FailsCollapse net name f → MatchOption (why_for f) ⊥ (StaysFor net name)
fails_for net name f (inl (none, e)) = rw e (inl (none, refl))
fails_for net name f (inr (n, tabled, inl (seen, e))) = rw e (inr (n, tabled, inl (seen, refl)))
fails_for net name f (inr (n, tabled, inr (unseen, inl (unread, e)))) = rw e (inr (n, tabled, inr (unseen, inl (unread, refl))))
fails_for net name f (inr (n, tabled, inr (unseen, inr (read, inl (shared, e))))) =
    rw e (inr (n, tabled, inr (unseen, inr (read, inl (shared, refl)))))
fails_for net name f (inr (n, tabled, inr (unseen, inr (read, inr (unshared, inl (wide, e)))))) =
    rw e (inr (n, tabled, inr (unseen, inr (read, inr (unshared, inl (wide, refl))))))
fails_for net name f (inr (n, tabled, inr (unseen, inr (read, inr (unshared, inr nothing))))) = absurd nothing.1

pub reason_for : (net : NetParts) (name : List ℕ) (rule : Rule) (budget : ℕ) (f : RuleFault) → rule ≡ Collapse name → (f ≡ out_of_memory) ⊎ Stops false budget rule net f → (f ≡ out_of_memory → ⊥) → MatchOption (why_for f) ⊥ (StaysFor net name)
reason_for net name rule budget f is (inl e) not_memory = absurd (not_memory e)
reason_for net name rule budget f is (inr (inl short)) not_memory = absurd (subst (λ r. LacksNodes budget r net) is short.1)
reason_for net name rule budget f is (inr (inr fails)) not_memory = fails_for net name f (subst (λ r. Fails false r net f) is fails)

pub freely : (net : NetParts) (name : List ℕ) (rule : Rule) (after before : ℕ) → rule ≡ Collapse name → LeavesLiterals rule net after → before ≡ literals_in net.nets → after ≤ before → CollapsesFreely net name
freely net name rule after before is leaves now low = record {
  new = leaves.new;
  applies = subst (λ r. Applies false r net leaves.new) is leaves.applies;
  no_more = omega (arith, low, now, leaves.counted);
}

pub raised : (net : NetParts) (name : List ℕ) (rule : Rule) (after before : ℕ) → rule ≡ Collapse name → LeavesLiterals rule net after → before ≡ literals_in net.nets → before < after → StaysFor net name (Literals before after)
raised net name rule after before is leaves now up =
    record { now = now; leaves = subst (λ r. LeavesLiterals r net after) is leaves; rises = up }

pub can_apply : (free : Bool) (net : NetParts) (name : List ℕ) (rule : Rule) → rule ≡ Collapse name → CollapsesFreely net name → CanApply free rule net
can_apply free net name rule is f = record { new = f.new; applies = subst (λ r. Applies free r net f.new) (sym is) f.applies }

-- ---- the step

-- the rule
pub collapsed_so : (free : Bool) (name : List ℕ) (rule : Rule) (a b : NetParts) → rule ≡ Collapse name → CollapsesFreely a name → Applies free rule a b → CollapsesNet free name a (Applied rule ∷ []) b
collapsed_so free name rule a b is f applies = Collapsed f (subst (λ r. Applies free r a b) is applies) (ap (λ r. Applied r ∷ []) is)

-- the note
pub remains_so : (free : Bool) (name own : List ℕ) (why : Why) (a : NetParts) → own ≡ name → StaysFor a name why → CollapsesNet free name a (Noted (Dropped why own) ∷ []) a
remains_so free name own why a is stays = Remains why stays (ap (λ w. Noted (Dropped why w) ∷ []) is) refl

-- a copy of the name serves as well as the name
pub is_rule : (own name : List ℕ) → own ≡ name → Collapse own ≡ Collapse name
is_rule own name is = ap Collapse is

pub begun_so : (own name : List ℕ) (j k : Journaled) (r : Result (Unit {0}) Failed) → own ≡ name → Takes j k (Noted (Begin (CollapseNet own))) r → Takes j k (Noted (Begin (CollapseNet name))) r
begun_so own name j k r is t = subst (λ w. Takes j k (Noted (Begin (CollapseNet w))) r) is t
