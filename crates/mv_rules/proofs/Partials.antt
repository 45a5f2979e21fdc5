-- A narrowing of a total table leaves all nets from which on some table isn't total as they were.
use Rattle.std.proofs.Common.{◌≡◌, ◌∙◌, ℕ, Bool, true, false, List, sym, subst}
use Rattle.std.specs.Prelude.{MatchBool, not}
use Rattle.std.proofs.lemmas.Bool.{false≢true}
use Rattle.mv_body.specs.Bodies.{cover_said}
use Rattle.mv_entry.specs.declared.rule.Body.{Body}
use Rattle.mv_entry.specs.declared.rule.Rule.TheVariants.{Narrow}
use Rattle.mv_narrow.proofs.Windows.{window_keeps}
use Rattle.mv_net.specs.declared.parts.NetParts.{NetParts}
use Rattle.mv_net.specs.Changes.{with_nets}
use Rattle.mv_net.specs.Formed.{WellFormed}
use Rattle.mv_net.specs.Index.{HasName}
use Rattle.mv_net.specs.Total.{IsTotalNet}
use Rattle.mv_partial.specs.Partial.{ArePartial, IsTotalDown}
use Rattle.mv_partial.proofs.Keeping.{marks_stay}
use Rattle.mv_plans.specs.Checks.{IsTabled}
use Rattle.mv_plans.specs.Narrowing.{Narrows}
use Rattle.mv_plans.proofs.Named.{one_named, one_tabled}
use Rattle.mv_rules.specs.Applies.{Applies}

pub narrowed_partial : (free : Bool) (name : List ℕ) (d u : ℕ) (body : Body) (old new : NetParts) (n : ℕ) (marks : List Bool) → WellFormed old → Applies free (Narrow name d u body) old new → IsTabled old.nets name n → IsTotalNet old.nets n
    → ArePartial old.nets marks → ArePartial new.nets marks
unfolding with_nets
narrowed_partial free name d u body old new n marks formed p tabled total right =
    let here = subst (IsTotalNet old.nets) (one_tabled old name n p.number formed tabled p.net) total in
    let keeps = window_keeps old p.number d u p.inside.window formed p.inside.is p.table (cover_said old.nets body) p.table_is p.keeps in
    subst (λ (q : NetParts). ArePartial q.nets marks) (sym p.new_is) (marks_stay old.nets p.number p.table (cover_said old.nets body) marks p.table_is p.reads keeps here p.below right)

-- so what is known of them stays right where the table was total
pub known_after : (free : Bool) (name : List ℕ) (d u : ℕ) (body : Body) (old new : NetParts) (marks : List Bool) → WellFormed old → Applies free (Narrow name d u body) old new → ((n : ℕ) → IsTabled old.nets name n → IsTotalNet old.nets n)
    → ArePartial old.nets marks → ArePartial new.nets marks
known_after free name d u body old new marks formed p total right = narrowed_partial free name d u body old new p.number marks formed p p.net (total p.number p.net) right

-- from the net with this name on all tables are total, if it isn't marked
pub total_from : (net : NetParts) (name : List ℕ) (n : ℕ) (mark : Bool) → WellFormed net → HasName net.nets n name → MatchBool mark (IsTotalDown net.nets n → ⊥) (IsTotalDown net.nets n) → not mark ≡ true → (m : ℕ) → IsTabled net.nets name m → IsTotalNet net.nets m
total_from net name n true formed named partial e m tabled = absurd (false≢true e)
total_from net name n false formed named total e m tabled = subst (IsTotalNet net.nets) (one_named net name n m formed named tabled.named) total.here
