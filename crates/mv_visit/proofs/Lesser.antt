-- A table that allows less, in the window of its net alone: the rule by which it comes, and the nets from which on some table isn't total.
use Rattle.std.proofs.Common.{◌≡◌, ◌∙◌, ℕ, Bool, true, false, List, [], ◌∷◌, Option, Some, is_some, refl, sym, ap, subst, arith}
use Rattle.std.proofs.lemmas.Bool.{false≢true}
use Rattle.std.proofs.lemmas.Option.{same_Some}
use Rattle.mv_body.specs.Bodies.{cover_said}
use Rattle.mv_cover.specs.declared.cover.Cover.{Cover}
use Rattle.mv_entry.specs.declared.rule.Body.{Body}
use Rattle.mv_entry.specs.declared.rule.Rule.{Rule}
use Rattle.mv_entry.specs.Entries.{Applied}
use Rattle.mv_flex.specs.Flex.{KeepsChoice}
use Rattle.mv_meaning.specs.Narrowing.{ReadsWithin}
use Rattle.mv_meaning.specs.Rewriting.{with_net_table}
use Rattle.mv_narrow.specs.Verdicts.{AllowsLess, IsInside}
use Rattle.mv_narrow.proofs.Less.{less_inside}
use Rattle.mv_net.specs.declared.parts.FlatNet.{FlatNet}
use Rattle.mv_net.specs.declared.parts.NetParts.{NetParts}
use Rattle.mv_net.specs.Changes.{with_nets}
use Rattle.mv_net.specs.Formed.{WellFormed}
use Rattle.mv_net.specs.Index.{is_held}
use Rattle.mv_net.specs.Nets.{slot, values_in, name_in, table_in}
use Rattle.mv_net.specs.Total.{IsTotalNet}
use Rattle.mv_partial.specs.Partial.{ArePartial, IsPartialMark}
use Rattle.mv_pass.specs.Taking.{CanApply}
use Rattle.mv_rule_body.specs.Named.{AreHeld, body_of}
use Rattle.mv_rule_body.proofs.Said.{body_known, body_tidy, cover_back, cover_held}
use Rattle.mv_rules.specs.Applies.{Applies, LiesWithin}
use Rattle.mv_plans.specs.Narrowing.{Narrows}
use Rattle.mv_plans.proofs.Named.{one_tabled}
use Rattle.mv_rules.proofs.Partials.{narrowed_partial}
use Rattle.mv_visit.specs.Visits.{Lessens, rule_of}
use Rattle.mv_visit.specs.Lessening.{IsToTake}
use Rattle.mv_visit.proofs.Tabled.{its_table, tabled_held}

module _ (net : NetParts) (n : ℕ) (c : Cover) (formed : WellFormed net) (new : IsToTake net n c) where
  abbrev body : Body
  body = body_of net.nets c

  abbrev rule : Rule
  rule = rule_of net n 0 0 body

  pub tabled : is_some (table_in (slot net.nets n)) ≡ true
  tabled = ap (λ t. is_some t) new.lesser.table_is

  said : cover_said net.nets body ≡ c
  said = cover_back net formed (values_in (slot net.nets n)) c new.lesser.cover

  pub lines_held : AreHeld net.nets c
  lines_held = cover_held net.nets (values_in (slot net.nets n)) c new.lesser.cover

  pub can_lessen : (free : Bool) → CanApply free rule net
  can_lessen free = record {
    new = with_nets net (with_net_table net.nets n (cover_said net.nets body));
    applies = record {
      number = n;
      net = its_table net.nets n tabled;
      known = body_known net.nets (values_in (slot net.nets n)) c new.lesser.cover;
      form = record { tidy = body_tidy net formed (values_in (slot net.nets n)) c new.lesser.cover; down = omega arith; up = omega arith };
      table = new.lesser.table;
      table_is = new.lesser.table_is;
      reads = subst (ReadsWithin new.lesser.table) (sym said) new.lesser.reads;
      below = new.below;
      inside = record {
        window = new.window;
        is = new.is;
        holds =
            subst (λ k. IsInside net n k new.window) (sym said)
            (record { narrow = new.narrow; inside = less_inside net.nets new.window n new.lesser.table c new.lesser.table_is new.lesser.less });
      };
      keeps = subst (KeepsChoice net.nets n new.lesser.table) (sym said) new.lesser.less.keeps;
      new_is = refl;
    };
  }

  pub lies_within : LiesWithin net rule
  lies_within = record {
    less = λ m table named is known tidy reads.
        let here : m ≡ n = one_tabled net (name_in (slot net.nets n)) m n formed named (its_table net.nets n tabled) in
        let same : new.lesser.table ≡ table = same_Some new.lesser.table table (sym new.lesser.table_is ∙ (ap (λ k. table_in (slot net.nets k)) (sym here) ∙ is)) in
        subst (λ k. AllowsLess net.nets k table (cover_said net.nets body)) (sym here)
        (subst (λ t. AllowsLess net.nets n t (cover_said net.nets body)) same (subst (AllowsLess net.nets n new.lesser.table) (sym said) new.lesser.less));
  }

  module _ (free : Bool) (after : NetParts) (taken : Rule) (is : taken ≡ rule) (applies : Applies free taken net after) where
    narrowed : Narrows net (name_in (slot net.nets n)) 0 0 body after
    narrowed = subst (λ r. Applies free r net after) is applies

    pub lessened : Lessens n c net (Applied taken ∷ []) after
    lessened = record { body = body; says = said; applies = narrowed; entries_are = ap (λ r. Applied r ∷ []) is }

    -- where the old table was total, from the same nets on some table isn't
    pub same_partial : (marks : List Bool) → ArePartial net.nets marks → IsTotalNet net.nets n → ArePartial after.nets marks
    same_partial marks right total =
        narrowed_partial free (name_in (slot net.nets n)) 0 0 body net after n marks formed narrowed (its_table net.nets n tabled) total right

-- a net that isn't marked has a total table, as those below it
pub unmarked_here : (nets : List (Option FlatNet)) (n : ℕ) (mark : Bool) → mark ≡ false → IsPartialMark nets n mark → IsTotalNet nets n
unmarked_here nets n true e partial = absurd (false≢true (sym e))
unmarked_here nets n false e total = total.here

pub held_to_take : (net : NetParts) (n : ℕ) (c : Cover) → IsToTake net n c → is_held net.nets n ≡ true
held_to_take net n c new = tabled_held net.nets n (ap (λ t. is_some t) new.lesser.table_is)
