-- The rule `fill`: its change, that what it leaves is well formed, and that it may take the old one's place where others are free.
use Rattle.std.proofs.Common.{◌≡◌, ◌∙◌, ℕ, ◌≤◌, Bool, true, false, List, [], ◌∷◌, length, get_or, All, Option, Some, None, IsTrue, is_some, refl, sym, ap, subst, eqb-true, arith}
use Rattle.std.specs.Prelude.{◌↔◌, MatchBool, nat_eq}
use Rattle.std.proofs.lemmas.Bool.{false≢true}
use Rattle.std.proofs.lemmas.Option.{same_Some, slice_get_within, get_or_from_slice_get}
use Rattle.mv_base.specs.Meaning.{Refines}
use Rattle.mv_base.specs.declared.limits.TheConstants.{MAX_NETS}
use Rattle.mv_base.specs.declared.number.NetId.{NetId}
use Rattle.mv_base.proofs.Lists.{found}
use Rattle.mv_cover.specs.declared.cover.Cover.{Cover}
use Rattle.mv_cover.specs.Plain.{AllowsOne}
use Rattle.mv_cover.proofs.Single.{allows_one}
use Rattle.mv_graph.specs.Above.{IsAbove}
use Rattle.mv_graph.proofs.Nets.{has_id-at}
use Rattle.mv_meaning.specs.Rewriting.{AllowOneAbove, SameWhereAllowed, with_net_table}
use Rattle.mv_meaning.proofs.Changing.{changed-given}
use Rattle.mv_meaning.proofs.Filling.{filling_formed, filling_means, filling_refines}
use Rattle.mv_net.specs.declared.change.Change.{Change}
use Rattle.mv_net.specs.declared.parts.FlatNet.{FlatNet}
use Rattle.mv_net.specs.declared.parts.NetParts.{NetParts}
use Rattle.mv_net.specs.Allowed.{of_net}
use Rattle.mv_net.specs.Changes.{changed, with_nets}
use Rattle.mv_net.specs.Formed.{WellFormed}
use Rattle.mv_net.specs.Index.{is_held}
use Rattle.mv_net.specs.Nets.{slot, table_in, reads_in}
use Rattle.mv_net.specs.Plain.{IsPlainNet}
use Rattle.mv_net.specs.Total.{IsTotal}
use Rattle.mv_net.specs.Window.{Lists}
use Rattle.mv_plans.specs.Checks.{IsTabled}
use Rattle.mv_plans.specs.Filling.{ArePlainAbove, CanFill, Fills, IsPartial, IsPlainIfTabled, with_default}
use Rattle.mv_plans.specs.Plans.{IsPlanned}
use Rattle.mv_plans.proofs.Divided.{fits_getting}

-- ---- what the checks say of the tables

-- the table of such a net isn't total
partial_table : (nets : List (Option FlatNet)) (n : ℕ) (c : Cover) → table_in (slot nets n) ≡ Some c → IsPartial nets n → IsTotal nets c → ⊥
partial_table nets n c table p total = by (slot nets n) refl table
  where
    by : (f : Option FlatNet) → slot nets n ≡ f → table_in f ≡ Some c → ⊥
    by None held t = absurd cc
    by (Some f) held t = p.partial (record { net = f; held = held; cover = c; table = t; total = total })

-- each table above allows one value at most
one_above : (nets : List (Option FlatNet)) (n : ℕ) → ArePlainAbove nets n → AllowOneAbove nets n
one_above nets n plain = record {
  each = λ m c above table.
      let p = plain.each m above (ap (λ t. is_some t) table) in
      subst AllowsOne (same_Some p.cover c (sym p.table ∙ table)) (allows_one p.cover p.plain);
}

-- ---- one net

-- a number that isn't held has no table
pub plain_unheld : (nets : List (Option FlatNet)) (m : ℕ) → is_held nets m ≡ false → IsPlainIfTabled nets m
plain_unheld nets m none = by (slot nets m) refl none
  where
    by : (f : Option FlatNet) → slot nets m ≡ f → is_some f ≡ false → IsPlainIfTabled nets m
    by None e h = record { plain = λ table. absurd (false≢true (sym (ap (λ g. is_some (table_in g)) e) ∙ table)) }
    by (Some f) e h = absurd (false≢true (sym h))

pub plain_bare : (nets : List (Option FlatNet)) (m : ℕ) → table_in (slot nets m) ≡ None → IsPlainIfTabled nets m
plain_bare nets m none = record { plain = λ table. absurd (false≢true (sym (ap (λ t. is_some t) none) ∙ table)) }

-- one with a table is told by the table
pub plain_tabled : (nets : List (Option FlatNet)) (m : ℕ) (c : Cover) (b : Bool) → table_in (slot nets m) ≡ Some c → MatchBool b (IsPlainNet nets m) (IsPlainNet nets m → ⊥) → IsTrue b ↔ IsPlainIfTabled nets m
plain_tabled nets m c true e plain = (λ _. record { plain = λ table. plain }, λ _. refl)
plain_tabled nets m c false e never = (λ t. absurd (false≢true t), λ plain. absurd (never (plain.plain (ap (λ t. is_some t) e))))

-- ---- the nets above, as they are listed

module _ (nets : List (Option FlatNet)) (n : ℕ) (list : List NetId) (lists : Lists (λ m. IsAbove (reads_in nets) m n) list) where
  plain_listed : All (λ (m : NetId). IsPlainIfTabled nets m.0) list → ArePlainAbove nets n
  plain_listed all = record {
    each = λ m above table.
        let f = found (λ (k : NetId). nat_eq k.0 m) list ((lists.members m).1 above) in
        let inside = slice_get_within list f.place f.item f.at in
        let there = subst (λ (k : NetId). IsPlainIfTabled nets k.0) (get_or_from_slice_get list f.place f.item f.item f.at) (all f.place f.item inside) in
        (subst (IsPlainIfTabled nets) (eqb-true f.item.0 m f.passes) there).plain table;
  }

  plain_each : ArePlainAbove nets n → All (λ (m : NetId). IsPlainIfTabled nets m.0) list
  plain_each plain i d inside = record { plain = λ table. plain.each (get_or list i d).0 ((lists.members (get_or list i d).0).0 (has_id-at list i d inside)) table }

  pub plain_answer : (b : Bool) → (IsTrue b ↔ All (λ (m : NetId). IsPlainIfTabled nets m.0) list) → MatchBool b (ArePlainAbove nets n) (ArePlainAbove nets n → ⊥)
  plain_answer true all = plain_listed (all.0 refl)
  plain_answer false all = λ plain. false≢true (all.1 (plain_each plain))

-- ---- the rule

module _ (free : Bool) (old : NetParts) (w : List ℕ) (out : ℕ) (new : NetParts) (formed : WellFormed old) (p : Fills free old w out new) where
  partial : IsTotal old.nets p.table → ⊥
  partial = partial_table old.nets p.number p.table p.table_is p.partial

  pub filled_formed : WellFormed new
  filled_formed = subst WellFormed (sym p.new_is) (filling_formed old p.number p.table out formed p.table_is partial p.form.output)

  pub filled_refines : Refines free (of_net new) (of_net old)
  filled_refines =
      let P : NetParts → Type 0 = λ net. Refines free (of_net net) (of_net old) in
      subst P (sym p.new_is)
      (subst (λ b. Refines b (of_net (with_nets old (with_net_table old.nets p.number (with_default p.table out)))) (of_net old)) (sym p.asked.asked)
      (filling_refines old p.number p.table out formed p.table_is partial (one_above old.nets p.number p.plain)))

pub filled_means : (free : Bool) (w : List ℕ) (out : ℕ) (old new : NetParts) → WellFormed old → Fills free old w out new → SameWhereAllowed (of_net new) (of_net old)
filled_means free w out old new formed p =
    let P : NetParts → Type 0 = λ net. SameWhereAllowed (of_net net) (of_net old) in
    subst P (sym p.new_is)
    (filling_means old p.number p.table out formed p.table_is (partial free old w out new formed p) (one_above old.nets p.number p.plain))

-- ---- the change

-- the change by which a net gets a table
abbrev getting : NetId → Cover → Change
getting n c = record { add = []; set = record { net = n; table = c } ∷ []; values = []; gone = [] }

module _ (free : Bool) (net : NetParts) (w : List ℕ) (out : ℕ) (n : NetId) (c : Cover) (formed : WellFormed net) (few : length net.nets ≤ MAX_NETS) (tabled : IsTabled net.nets w n.0) (can : CanFill free net.nets n.0 out) (table : table_in (slot net.nets n.0) ≡ Some c) where
  becomes : changed net (getting n (with_default c out)) ≡ with_nets net (with_net_table net.nets n.0 (with_default c out))
  becomes = changed-given net n (with_default c out)

  planned_getting : IsPlanned net (Fills free net w out) (getting n (with_default c out))
  planned_getting = record {
    few = omega (arith, few);
    fits = fits_getting net n (with_default c out) (ap (λ f. is_some f) tabled.named.held);
    formed = subst WellFormed (sym becomes) (filling_formed net n.0 c out formed table (partial_table net.nets n.0 c table can.partial) can.form.output);
    makes = record {
      number = n.0;
      net = tabled;
      asked = can.asked;
      form = can.form;
      partial = can.partial;
      plain = can.plain;
      table = c;
      table_is = table;
      new_is = becomes;
    };
  }

  pub planned : (change : Change) → change ≡ getting n (with_default c out) → IsPlanned net (Fills free net w out) change
  planned change is = subst (IsPlanned net (Fills free net w out)) (sym is) planned_getting
