-- A net's visit: the notes why its table stays, and the rule by which it gets another one.
use Rattle.std.proofs.Common.{◌≡◌, ◌∙◌, ℕ, Bool, true, false, List, [], ◌∷◌, Option, Some, None, is_some, Result, Ok, Err, refl, sym, ap, subst}
use Rattle.std.specs.Prelude.{OnOk}
use Rattle.std.proofs.lemmas.Bool.{false≢true}
use Rattle.mv_body.specs.Bodies.{cover_said}
use Rattle.mv_cover.specs.declared.cover.Cover.{Cover}
use Rattle.mv_entry.specs.declared.note.Note.TheVariants.{Dropped}
use Rattle.mv_entry.specs.declared.note.Why.{Why}
use Rattle.mv_entry.specs.declared.rule.Body.{Body}
use Rattle.mv_entry.specs.declared.rule.Rule.{Rule}
use Rattle.mv_entry.specs.Entries.{Applied, Noted, HasVisibleNames}
use Rattle.mv_entry.specs.Tallies.{Journaled}
use Rattle.mv_entry.proofs.Visible.{visible-one}
use Rattle.mv_flex.specs.declared.flexibility.Flexibility.{Flexibility}
use Rattle.mv_flex.specs.declared.stop.FlexStop.{FlexStop}
use Rattle.mv_flex.specs.declared.stop.FlexStop.TheVariants.{Window as IsWide, Nodes, Memory}
use Rattle.mv_flex.specs.Flex.{CoverInFlex, IsFlexStop, IsLaterStop, KeepsChoice, TooWide}
use Rattle.mv_flex.specs.Flexibilities.{IsFlex}
use Rattle.mv_meaning.specs.Narrowing.{AreTotalBelow, ReadsWithin}
use Rattle.mv_meaning.specs.Rewriting.{with_net_table}
use Rattle.mv_net.specs.declared.parts.FlatNet.{FlatNet}
use Rattle.mv_net.specs.declared.parts.NetParts.{NetParts}
use Rattle.mv_net.specs.declared.window.Window.{Window}
use Rattle.mv_net.specs.Changes.{with_nets}
use Rattle.mv_net.specs.Formed.{WellFormed}
use Rattle.mv_net.specs.Index.{is_held, HasName}
use Rattle.mv_net.specs.Nets.{slot, values_in, name_in, table_in}
use Rattle.mv_net.specs.Total.{IsTotalNet}
use Rattle.mv_net.specs.Window.{IsWindow}
use Rattle.mv_partial.specs.Partial.{ArePartial, IsPartialMark}
use Rattle.mv_pass.specs.declared.stop.Stop.{Stop}
use Rattle.mv_pass.specs.declared.stop.Stop.TheVariants.{Memory as Short}
use Rattle.mv_pass.specs.Courses.{Perhaps, Through}
use Rattle.mv_pass.specs.Passing.{Passes}
use Rattle.mv_pass.specs.Taking.{CanApply}
use Rattle.mv_pass.proofs.Coming.{came_as, came_stuck}
use Rattle.mv_rule_body.specs.Named.{AreHeld, body_of}
use Rattle.mv_rule_body.proofs.Said.{body_known, body_tidy, cover_back, cover_held}
use Rattle.mv_rules.specs.Applies.{Applies, IsAtHand}
use Rattle.mv_plans.specs.Checks.{IsTabled}
use Rattle.mv_rules.proofs.Partials.{narrowed_partial}
use Rattle.mv_rules.proofs.Spoken.{held_visible}
use Rattle.mv_simplify.specs.declared.asked.Asked.{Asked}
use Rattle.mv_simplify.specs.Simplifies.{IsTightIn, IsTightNow, KeepsFor, Narrowed, Stays, rule_of}
use Rattle.mv_simplify.specs.Simplifying.{IsToTake, IsWithin, KeepsBy, Visit}
use Rattle.mv_tight.specs.Tight.{IsGrown, IsMadeTight}
use Rattle.mv_tight.proofs.Some.{reads_within}

-- ---- nets with a table

-- the net with a table
record HasNet (nets : List (Option FlatNet)) (n : ℕ) : Type 0 where
  net : FlatNet
  held : slot nets n ≡ Some net

has_net : (nets : List (Option FlatNet)) (n : ℕ) → is_some (table_in (slot nets n)) ≡ true → HasNet nets n
has_net nets n tabled = by (slot nets n) refl tabled
  where
    by : (f : Option FlatNet) → slot nets n ≡ f → is_some (table_in f) ≡ true → HasNet nets n
    by None held t = absurd (false≢true t)
    by (Some f) held t = record { net = f; held = held }

pub tabled_held : (nets : List (Option FlatNet)) (n : ℕ) → is_some (table_in (slot nets n)) ≡ true → is_held nets n ≡ true
tabled_held nets n tabled = ap (λ f. is_some f) (has_net nets n tabled).held

-- a number without a net has no table
pub unheld_bare : (nets : List (Option FlatNet)) (n : ℕ) → is_held nets n ≡ false → is_some (table_in (slot nets n)) ≡ false
unheld_bare nets n none = by (slot nets n) none
  where
    by : (f : Option FlatNet) → is_some f ≡ false → is_some (table_in f) ≡ false
    by None h = refl
    by (Some f) h = absurd (false≢true (sym h))

-- it has its name
its_name : (nets : List (Option FlatNet)) (n : ℕ) → is_some (table_in (slot nets n)) ≡ true → HasName nets n (name_in (slot nets n))
its_name nets n tabled = let t = has_net nets n tabled in record { net = t.net; held = t.held; is = sym (ap name_in t.held) }

its_table : (nets : List (Option FlatNet)) (n : ℕ) → is_some (table_in (slot nets n)) ≡ true → IsTabled nets (name_in (slot nets n)) n
its_table nets n tabled = record { named = its_name nets n tabled; table = tabled }

-- ---- the notes

pub note_visible : (net : NetParts) (n : ℕ) (why : Why) (name : List ℕ) → WellFormed net → is_some (table_in (slot net.nets n)) ≡ true → name ≡ name_in (slot net.nets n) → HasVisibleNames (Noted (Dropped why name))
note_visible net n why name formed tabled named =
    visible-one (Noted (Dropped why name)) name refl (held_visible net n name formed (subst (HasName net.nets n) (sym named) (its_name net.nets n tabled)))

pub stays_so : (asked : Asked) (net : NetParts) (n : ℕ) (why : Why) (name : List ℕ) → is_some (table_in (slot net.nets n)) ≡ true → KeepsFor asked.terms.budget asked.down asked.up net n why → name ≡ name_in (slot net.nets n)
    → Visit asked n net (Noted (Dropped why name) ∷ []) net
stays_so asked net n why name tabled keeps named = Stays why tabled keeps (ap (λ w. Noted (Dropped why w) ∷ []) named) refl

-- why there is no flexibility, or it tells nothing
module _ (asked : Asked) (net : NetParts) (n : ℕ) (w : Window) (is : IsWindow net n asked.down asked.up w) (below : AreTotalBelow net.nets n) where
  pub keeps_by : (stop : FlexStop) → IsFlexStop net w asked.terms.budget stop → KeepsBy asked net n stop
  keeps_by (IsWide levels) cause = (below, record { window = w; is = is; holds = cause.0 })
  keeps_by (Nodes cap) cause = (below, record { window = w; is = is; holds = cause.0 })
  keeps_by Memory cause = tt

  pub keeps_later : (stop : FlexStop) → IsLaterStop net w asked.terms.budget stop → KeepsBy asked net n stop
  keeps_later (IsWide levels) cause = absurd cause
  keeps_later (Nodes cap) cause = (below, record { window = w; is = is; holds = cause.0 })
  keeps_later Memory cause = tt

-- ---- a table that is tight, or is made so

record HasCover (nets : List (Option FlatNet)) (n : ℕ) : Type 0 where
  cover : Cover
  is : table_in (slot nets n) ≡ Some cover

has_cover : (nets : List (Option FlatNet)) (n : ℕ) → is_some (table_in (slot nets n)) ≡ true → HasCover nets n
has_cover nets n tabled = by (table_in (slot nets n)) refl tabled
  where
    by : (t : Option Cover) → table_in (slot nets n) ≡ t → is_some t ≡ true → HasCover nets n
    by None is h = absurd (false≢true h)
    by (Some c) is h = record { cover = c; is = is }

module _ (asked : Asked) (net : NetParts) (n : ℕ) (w : Window) (f : Flexibility) (tabled : is_some (table_in (slot net.nets n)) ≡ true) (is : IsWindow net n asked.down asked.up w)
    (narrow : TooWide net w → ⊥) (below : AreTotalBelow net.nets n) (flex : IsFlex net w n asked.terms.budget f) (made : Option Cover)
    (tight : (w : Window) (budget : ℕ) (old : Cover) → IsFlex net w n budget f → table_in (slot net.nets n) ≡ Some old → IsMadeTight net.nets w n old made) where
  pub tight_now : made ≡ None → Visit asked n net [] net
  tight_now none =
      let t = has_cover net.nets n tabled in
      let here = subst (IsMadeTight net.nets w n t.cover) none (tight w asked.terms.budget t.cover flex t.is) in
      IsTightNow t.cover t.is below (record { window = w; is = is; holds = record { narrow = narrow; tight = here } }) (refl, refl)

  pub to_take : (new : Cover) → made ≡ Some new → IsToTake asked net n new f
  to_take new some =
      let t = has_cover net.nets n tabled in
      record {
        window = w;
        is = is;
        narrow = narrow;
        flex = flex;
        below = below;
        table = t.cover;
        table_is = t.is;
        made = subst (IsMadeTight net.nets w n t.cover) some (tight w asked.terms.budget t.cover flex t.is);
      }

-- ---- the rule

module _ (asked : Asked) (net : NetParts) (n : ℕ) (c : Cover) (f : Flexibility) (formed : WellFormed net) (new : IsToTake asked net n c f) where
  abbrev body : Body
  body = body_of net.nets c

  abbrev rule : Rule
  rule = rule_of net n asked.down asked.up body

  tabled : is_some (table_in (slot net.nets n)) ≡ true
  tabled = ap (λ t. is_some t) new.table_is

  said : cover_said net.nets body ≡ c
  said = cover_back net formed (values_in (slot net.nets n)) c new.made.cover

  pub lines_held : AreHeld net.nets c
  lines_held = cover_held net.nets (values_in (slot net.nets n)) c new.made.cover

  pub can_narrow : IsWithin asked → CanApply asked.terms.free rule net
  can_narrow within = record {
    new = with_nets net (with_net_table net.nets n (cover_said net.nets body));
    applies = record {
      number = n;
      net = its_table net.nets n tabled;
      known = body_known net.nets (values_in (slot net.nets n)) c new.made.cover;
      form = record { tidy = body_tidy net formed (values_in (slot net.nets n)) c new.made.cover; down = within.down; up = within.up };
      table = new.table;
      table_is = new.table_is;
      reads = subst (ReadsWithin new.table) (sym said) (reads_within new.table c new.made.grown);
      below = new.below;
      inside = record { window = new.window; is = new.is; holds = record { narrow = new.narrow; inside = subst (CoverInFlex net.nets new.window n) (sym said) new.made.tight.lawful.inside } };
      keeps = subst (KeepsChoice net.nets n new.table) (sym said) new.made.tight.lawful.keeps;
      new_is = refl;
    };
  }

  pub at_hand : IsAtHand net rule asked.terms.budget f
  at_hand = record { number = n; net = its_table net.nets n tabled; below = new.below; window = new.window; is = new.is; narrow = new.narrow; flex = new.flex }

  -- the visit by this rule
  narrowed : (after : NetParts) → Applies asked.terms.free rule net after → Visit asked n net (Applied rule ∷ []) after
  narrowed after applies =
      Narrowed new.table body new.table_is applies
      (record { window = new.window; is = new.is; holds = subst (λ k. IsTightIn net n new.table k new.window) (sym said) (record { narrow = new.narrow; tight = new.made.tight }) })
      (subst (IsGrown new.table) (sym said) new.made.grown)
      (λ e. new.made.changed (sym said ∙ e)) refl

  pub narrowed_so : (after : NetParts) (taken : Rule) → taken ≡ rule → Applies asked.terms.free taken net after → Visit asked n net (Applied taken ∷ []) after
  narrowed_so after taken is applies =
      subst (λ r. Visit asked n net (Applied r ∷ []) after) (sym is) (narrowed after (subst (λ r. Applies asked.terms.free r net after) is applies))

  -- where the old table was total, from the same nets on some table isn't
  pub narrowed_keeps : (after : NetParts) (taken : Rule) → taken ≡ rule → Applies asked.terms.free taken net after → IsTotalNet net.nets n → (marks : List Bool) → ArePartial net.nets marks → ArePartial after.nets marks
  narrowed_keeps after taken is applies total marks right =
      narrowed_partial asked.terms.free (name_in (slot net.nets n)) asked.down asked.up body net after n marks formed (subst (λ r. Applies asked.terms.free r net after) is applies) (its_table net.nets n tabled) total right

-- ---- the marks

pub held_to_take : (asked : Asked) (net : NetParts) (n : ℕ) (c : Cover) (f : Flexibility) → IsToTake asked net n c f → is_held net.nets n ≡ true
held_to_take asked net n c f new = tabled_held net.nets n (ap (λ t. is_some t) new.table_is)

-- a net that is marked has a table that isn't total, where all below it are; another has a total one
pub unmarked_here : (nets : List (Option FlatNet)) (n : ℕ) (mark : Bool) → mark ≡ false → IsPartialMark nets n mark → IsTotalNet nets n
unmarked_here nets n true e partial = absurd (false≢true (sym e))
unmarked_here nets n false e total = total.here

-- ---- what is said at Ok

-- what holds anyhow
pub always : (result : Result (Unit {0}) Stop) (P : Type 0) → P → OnOk result P
always (Ok u) P p = p
always (Err stop) P p = tt

-- ---- want of memory

-- behind a visit memory may be short
pub spent : (asked : Asked) (n : ℕ) (a b : NetParts) (j k : Journaled) → Passes asked.terms.free (Visit asked n) (Perhaps (Visit asked n)) a b j k (Ok tt)
    → Passes asked.terms.free (Visit asked n) (Perhaps (Visit asked n)) a b j k (Err Short)
spent asked n a b j k p =
    came_stuck asked.terms.free (Visit asked n) (Perhaps (Visit asked n)) a b j k
    (came_as asked.terms.free (Visit asked n) (Perhaps (Visit asked n)) a b j k (λ es v. Through v) (record { took = p.ok; refines = p.refines; goes_on = p.goes_on }))
