-- Nets with a table that allows nothing somewhere: which are such, the rule for one, and the note of one.
use Rattle.std.proofs.Common.{◌≡◌, ◌∙◌, ℕ, ◌<◌, Bool, true, false, not, List, [], ◌∷◌, Option, Some, None, is_some, Err, refl, sym, ap, subst, arith}
use Rattle.std.specs.Prelude.{MatchBool}
use Rattle.std.proofs.lemmas.Bool.{false≢true, lt-ltb}
use Rattle.mv_base.specs.Set.{has, one}
use Rattle.mv_base.proofs.Sets.{has-empty, has-full}
use Rattle.mv_cover.specs.declared.cover.Cover.{Cover}
use Rattle.mv_cover.specs.Lines.{IsOutput}
use Rattle.mv_entry.specs.declared.note.Note.TheVariants.{Dropped}
use Rattle.mv_entry.specs.declared.note.Why.{Why}
use Rattle.mv_entry.specs.declared.rule.Rule.{Rule}
use Rattle.mv_entry.specs.Entries.{Entry, Applied, Noted, HasVisibleNames}
use Rattle.mv_entry.specs.Tallies.{Journaled}
use Rattle.mv_entry.proofs.Visible.{visible-one}
use Rattle.mv_graph.specs.Marks.{is_marked}
use Rattle.mv_meaning.specs.Rewriting.{with_net_table}
use Rattle.mv_net.specs.declared.parts.FlatNet.{FlatNet}
use Rattle.mv_net.specs.declared.parts.NetParts.{NetParts}
use Rattle.mv_net.specs.Changes.{with_nets}
use Rattle.mv_net.specs.Formed.{WellFormed}
use Rattle.mv_net.specs.Index.{is_held, HasName}
use Rattle.mv_net.specs.Nets.{slot, values_in, name_in, table_in}
use Rattle.mv_net.specs.Total.{IsTotalNet}
use Rattle.mv_net.proofs.Known.{values_some}
use Rattle.mv_net.proofs.Plainness.{one_has, one_same}
use Rattle.mv_pass.specs.declared.stop.Stop.{Stop}
use Rattle.mv_pass.specs.declared.stop.Stop.TheVariants.{Note, Memory}
use Rattle.mv_pass.specs.Taking.{CanApply, TookRulePart}
use Rattle.mv_pass.proofs.Stepped.{Is}
use Rattle.mv_rules.specs.Applies.{Applies}
use Rattle.mv_plans.specs.Filling.{ArePlainAbove, with_default}
use Rattle.mv_rules.proofs.Spoken.{held_visible}
use Rattle.mv_fill.specs.Fills.{IsUnfilled, StaysFor, note_of, rule_of, FillsNet, Stays, Filled}
use Rattle.mv_fill.specs.Filling.{HasMarks, IsVariedMark, KeepsPlain}
use Rattle.mv_fill.proofs.Filled.{tabled_held, rule_keeps}

-- ---- which nets are such

-- the net that has a table, and the table
record HasTable (nets : List (Option FlatNet)) (n : ℕ) : Type 0 where
  net : FlatNet
  held : slot nets n ≡ Some net
  cover : Cover
  table : table_in (slot nets n) ≡ Some cover

some_of : {A : Type 0} (o : Option A) → is_some o ≡ true → (x : A) × (o ≡ Some x)
some_of None h = absurd (false≢true h)
some_of (Some x) h = (x, refl)

has_table : (nets : List (Option FlatNet)) (n : ℕ) → is_some (table_in (slot nets n)) ≡ true → HasTable nets n
has_table nets n tabled =
    let net = some_of (slot nets n) (tabled_held (slot nets n) tabled) in
    let table = some_of (table_in (slot nets n)) tabled in
    record { net = net.0; held = net.1; cover = table.0; table = table.1 }

pub unfilled_held : (nets : List (Option FlatNet)) (n : ℕ) → IsUnfilled nets n → is_held nets n ≡ true
unfilled_held nets n u = tabled_held (slot nets n) u.tabled

pub unheld_full : (nets : List (Option FlatNet)) (n : ℕ) → is_held nets n ≡ false → IsUnfilled nets n → ⊥
unheld_full nets n none u = false≢true (sym none ∙ unfilled_held nets n u)

pub bare_full : (nets : List (Option FlatNet)) (n : ℕ) → None ≡ table_in (slot nets n) → IsUnfilled nets n → ⊥
bare_full nets n none u = false≢true (ap (λ (t : Option Cover). is_some t) none ∙ u.tabled)

-- a table that isn't total
pub total_full : (nets : List (Option FlatNet)) (n : ℕ) (c : Cover) (total : Bool) → Some c ≡ table_in (slot nets n) → MatchBool total (IsTotalNet nets n) (IsTotalNet nets n → ⊥)
    → MatchBool (not total) (IsUnfilled nets n) (IsUnfilled nets n → ⊥)
total_full nets n c true table t = λ u. u.partial.partial t
total_full nets n c false table t = record { tabled = sym (ap (λ (o : Option Cover). is_some o) table); partial = record { partial = t } }

-- ---- the note

pub note_visible : (net : NetParts) (n : ℕ) (why : Why) (name : List ℕ) → WellFormed net → IsUnfilled net.nets n → name ≡ name_in (slot net.nets n) → HasVisibleNames (Noted (Dropped why name))
note_visible net n why name formed u named =
    let t = has_table net.nets n u.tabled in
    let has : HasName net.nets n name = record { net = t.net; held = t.held; is = sym (named ∙ ap name_in t.held) } in
    visible-one (Noted (Dropped why name)) name refl (held_visible net n name formed has)

pub stays_so : (free : Bool) (net : NetParts) (n : ℕ) (why : Why) (name : List ℕ) → IsUnfilled net.nets n → StaysFor free net n why → name ≡ name_in (slot net.nets n)
    → FillsNet free n net (Noted (Dropped why name) ∷ []) net
stays_so free net n why name u stays named = Stays why u stays (ap (λ w. Noted (Dropped why w) ∷ []) named) refl

-- ---- the rule

-- a net has the value 0
zero_output : (values : ℕ) → 0 < values → IsOutput values (one 0)
zero_output values some = record {
  some = λ e. false≢true (sym (has-empty 0) ∙ (ap (λ s. has s 0) (sym e) ∙ one_has 0));
  within = λ v h. let e : v ≡ 0 = one_same v 0 h in has-full values v ∙ lt-ltb v values (omega arith);
}

module _ (free : Bool) (net : NetParts) (n : ℕ) (formed : WellFormed net) (u : IsUnfilled net.nets n) where
  pub can_fill : free ≡ true → ArePlainAbove net.nets n → CanApply free (rule_of net n) net
  can_fill asked plain =
      let t = has_table net.nets n u.tabled in
      record {
        new = with_nets net (with_net_table net.nets n (with_default t.cover (one 0)));
        applies = record {
          number = n;
          net = record { named = record { net = t.net; held = t.held; is = sym (ap name_in t.held) }; table = u.tabled };
          asked = record { asked = asked };
          form = record { output = zero_output (values_in (slot net.nets n)) (values_some net n formed (unfilled_held net.nets n u)) };
          partial = u.partial;
          plain = plain;
          table = t.cover;
          table_is = t.table;
          new_is = refl;
        };
      }

-- nothing changed
pub keeps_none : (nets : List (Option FlatNet)) → KeepsPlain nets nets
keeps_none nets = record { held = λ n h. h; down = λ n p. p; up = λ n p. p }

-- a rule that is that of the net
pub filled_so : (free : Bool) (net : NetParts) (n : ℕ) (new : NetParts) (rule : Rule) → IsUnfilled net.nets n → rule ≡ rule_of net n → Applies free rule net new → FillsNet free n net (Applied rule ∷ []) new
filled_so free net n new rule u is applies = Filled u (subst (λ r. Applies free r net new) is applies) (ap (λ r. Applied r ∷ []) is)

pub applied_keeps : (free : Bool) (net : NetParts) (n : ℕ) (new : NetParts) (rule : Rule) → WellFormed net → IsUnfilled net.nets n → rule ≡ rule_of net n → Applies free rule net new → KeepsPlain net.nets new.nets
applied_keeps free net n new rule formed u is applies = rule_keeps free net n new formed u (subst (λ r. Applies free r net new) is applies)

pub halted_keeps : (free : Bool) (net : NetParts) (n : ℕ) (new : NetParts) (rule : Rule) (j k : Journaled) → WellFormed net → IsUnfilled net.nets n → rule ≡ rule_of net n
    → (stop : Stop) → (Is (Err stop) Note → TookRulePart free rule net new j k) → (Is (Err stop) Memory → new ≡ net) → KeepsPlain net.nets new.nets
halted_keeps free net n new rule j k formed u is Note note same = applied_keeps free net n new rule formed u is (note refl).applies
halted_keeps free net n new rule j k formed u is Memory note same = subst (λ (q : NetParts). KeepsPlain net.nets q.nets) (sym (same refl)) (keeps_none net.nets)

-- ---- the marks

-- where the tables above each net are as plain as they were, the marks stay right
pub marks_kept : (old new : List (Option FlatNet)) (marks : List Bool) → KeepsPlain old new → HasMarks old marks → HasMarks new marks
marks_kept old new marks keeps marked = record { each = λ n held. by n (is_marked marks n) (marked.each n (keeps.held n held)) }
  where
    by : (n : ℕ) (mark : Bool) → IsVariedMark old n mark → IsVariedMark new n mark
    by n true varied = λ p. varied (keeps.down n p)
    by n false plain = keeps.up n plain
