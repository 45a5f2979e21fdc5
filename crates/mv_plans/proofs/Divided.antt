-- The rule `divide`: its change, that what it leaves is well formed, and that it means the same.
use Rattle.std.proofs.Common.{◌≡◌, ◌∙◌, ◌⊎◌, ℕ, ◌<◌, ◌≤◌, Bool, true, false, nat_eq, List, [], ◌∷◌, length, Option, Some, None, IsTrue, is_some, inl, inr, refl, sym, ap, subst, ⊎_elim, eqb-true, arith}
use Rattle.std.proofs.lemmas.Bool.{or_cases, false≢true}
use Rattle.std.proofs.lemmas.Option.{same_Some}
use Rattle.mv_base.specs.Meaning.{SameMeaning}
use Rattle.mv_base.specs.declared.limits.TheConstants.{MAX_NETS}
use Rattle.mv_base.specs.declared.number.NetId.{NetId}
use Rattle.mv_body.specs.Bodies.{AreKnown, IsTidy, cover_said}
use Rattle.mv_cover.specs.declared.cover.Cover.{Cover}
use Rattle.mv_cover.specs.Covers.{cover_reads}
use Rattle.mv_entry.specs.declared.rule.Body.{Body}
use Rattle.mv_entry.specs.declared.fault.RuleFault.{RuleFault}
use Rattle.mv_entry.specs.declared.fault.RuleFault.TheVariants.{NoNet}
use Rattle.mv_entry.specs.declared.fault.RuleFault.TheVariants.{Memory as out_of_memory}
use Rattle.mv_graph.specs.Nets.{has_id}
use Rattle.mv_meaning.specs.Rewriting.{with_net_table, IsOverTable, PutsAbove}
use Rattle.mv_meaning.proofs.Changing.{changed-given}
use Rattle.mv_meaning.proofs.OneTable.{one_table_formed, one_table_means}
use Rattle.mv_net.specs.declared.change.Change.{Change}
use Rattle.mv_net.specs.declared.parts.FlatNet.{FlatNet}
use Rattle.mv_net.specs.declared.parts.NetParts.{NetParts}
use Rattle.mv_net.specs.Allowed.{of_net}
use Rattle.mv_net.specs.Changes.{changed, with_nets, Fits}
use Rattle.mv_net.specs.Formed.{IsCover, WellFormed}
use Rattle.mv_net.specs.Index.{is_held, HasName}
use Rattle.mv_net.specs.Nets.{slot, values_in, table_in}
use Rattle.mv_net.proofs.Known.{values_few, values_some}
use Rattle.mv_plans.specs.Checks.{IsTabled}
use Rattle.mv_plans.specs.Completing.{IsCompleted, IsCompletedAt, with_zero}
use Rattle.mv_plans.specs.Dividing.{CanDivide, Divides, DividedRow, DivideRow, FailsDivide}
use Rattle.mv_plans.specs.Expanding.{IsDividing}
use Rattle.mv_plans.specs.Plans.{IsPlanned}
use Rattle.mv_plans.proofs.Expanded.{one_where, completed_cover, completed_allows}

-- ---- what the completed table reads

reads-with_zero : (less : Bool) (body : Cover) (k : ℕ) → cover_reads (with_zero less body) k ≡ cover_reads body k
reads-with_zero false body k = refl
reads-with_zero true body k = refl

module _ (nets : List (Option FlatNet)) (old body new : Cover) (is : IsCompleted nets old body new) where
  reads-completed : (k : ℕ) → cover_reads new k ≡ cover_reads body k
  reads-completed k = ap (λ c. cover_reads c k) is.new_is ∙ reads-with_zero is.less body k

  over_body : (m : ℕ) → IsOverTable nets new m → IsOverTable nets body m
  over_body m over = record { first = over.first; reads = sym (reads-completed over.first) ∙ over.reads; up = over.up }

  puts_body : (n latch reset : ℕ) → PutsAbove nets n new latch reset → PutsAbove nets n body latch reset
  puts_body n latch reset puts = record { output = puts.output; reset_net = puts.reset_net; down = puts.down; up = over_body latch puts.up }

-- ---- the network with it

held_tabled : (nets : List (Option FlatNet)) (n : ℕ) (c : Cover) → table_in (slot nets n) ≡ Some c → IsTrue (is_held nets n)
held_tabled nets n c e = by (slot nets n) e
  where
    by : (f : Option FlatNet) → table_in f ≡ Some c → is_some f ≡ true
    by None t = absurd cc
    by (Some f) t = refl

module _ (net : NetParts) (n d : ℕ) (body new : Cover) (formed : WellFormed net) (can : CanDivide net.nets n d body) (cover : IsCover net.nets (values_in (slot net.nets n)) body) (is : IsCompleted net.nets can.same.old body new) where
  some_values : 0 < values_in (slot net.nets n)
  some_values = values_some net n formed (held_tabled net.nets n can.same.old can.same.table)

  -- the table of d is the one by which it divides
  dividing : IsDividing net.nets d can.same.inner
  dividing = subst (IsDividing net.nets d) (same_Some can.two.inner can.same.inner (sym can.two.dividing.table ∙ can.same.divisor)) can.two.dividing

  divided_formed : WellFormed (with_nets net (with_net_table net.nets n new))
  divided_formed =
      one_table_formed net n can.same.old new formed can.same.table
      (completed_cover net.nets (values_in (slot net.nets n)) some_values (values_few net n formed) can.same.old body cover new is)
      (λ over. can.order.free (over_body net.nets can.same.old body new is n over))
      (λ latch reset puts. can.order.alone latch reset (puts_body net.nets can.same.old body new is n latch reset puts))

  divided_same : SameMeaning (of_net (with_nets net (with_net_table net.nets n new))) (of_net net)
  divided_same =
      one_table_means net n can.same.old new can.same.table
      (λ x others point.
      completed_allows net.nets (values_in (slot net.nets n)) some_values (values_few net n formed) can.same.old body cover x point d can.same.inner
      (one_where net.nets d can.same.inner x dividing (others.each d (λ e. can.order.other (sym e))))
      can.same.divided new is (x n))

pub divided_is_formed : (old : NetParts) (w by : List ℕ) (body : Body) (new : NetParts) → WellFormed old → Divides old w by body new → WellFormed new
divided_is_formed old w by body new formed r =
    subst WellFormed (sym r.new_is)
    (divided_formed old r.number r.divisor (cover_said old.nets body) r.table formed (record { two = r.two; order = r.order; same = r.same }) r.form.cover r.completed)

pub divided_is_same : (old : NetParts) (w by : List ℕ) (body : Body) (new : NetParts) → WellFormed old → Divides old w by body new → SameMeaning (of_net new) (of_net old)
divided_is_same old w by body new formed r =
    let P : NetParts → Type 0 = λ p. SameMeaning (of_net p) (of_net old) in
    subst P (sym r.new_is)
    (divided_same old r.number r.divisor (cover_said old.nets body) r.table formed (record { two = r.two; order = r.order; same = r.same }) r.form.cover r.completed)

-- ---- the change

-- the change by which a net gets a table
abbrev getting : NetId → Cover → Change
getting n c = record { add = []; set = record { net = n; table = c } ∷ []; values = []; gone = [] }

pub fits_getting : (net : NetParts) (n : NetId) (c : Cover) → IsTrue (is_held net.nets n.0) → Fits net (getting n c)
fits_getting net n c held = record {
  set = record { held = λ m h. there m h; once = refl };
  values = record { held = λ m h. absurd (false≢true h); once = refl };
  gone = record { held = λ m h. absurd (false≢true h); once = refl };
  apart = λ m h. absurd (false≢true h);
  names = λ k m w h g. let bad : None ≡ Some h.net = h.held in absurd cc;
}
  where
    there : (m : ℕ) → has_id (n ∷ []) m ≡ true → IsTrue (is_held net.nets m)
    there m h =
        ⊎_elim
        (λ (y : nat_eq n.0 m ≡ true). let P : ℕ → Type 0 = λ k. IsTrue (is_held net.nets k) in subst P (eqb-true n.0 m y) held)
        (λ (f : false ≡ true). absurd (false≢true f))
        (or_cases (nat_eq n.0 m) false h)

module _ (net : NetParts) (w by : List ℕ) (n d : NetId) (body : Body) (table : Cover) (formed : WellFormed net) (few : length net.nets ≤ MAX_NETS) (tabled : IsTabled net.nets w n.0) (named : HasName net.nets d.0 by) (known : AreKnown net.nets body) (tidy : IsTidy net.nets (values_in (slot net.nets n.0)) body) (can : CanDivide net.nets n.0 d.0 (cover_said net.nets body)) (given : IsCompletedAt net.nets n.0 (cover_said net.nets body) table) where
  held : IsTrue (is_held net.nets n.0)
  held = ap (λ f. is_some f) tabled.named.held

  becomes : changed net (getting n table) ≡ with_nets net (with_net_table net.nets n.0 table)
  becomes = changed-given net n table

  planned_getting : IsPlanned net (Divides net w by body) (getting n table)
  planned_getting =
      let completed = given.completed can.same.old can.same.table in
      record {
        few = omega (arith, few);
        fits = fits_getting net n table held;
        formed = subst WellFormed (sym becomes) (divided_formed net n.0 d.0 (cover_said net.nets body) table formed can tidy.cover completed);
        makes = record {
          number = n.0;
          net = tabled;
          divisor = d.0;
          divides = named;
          known = known;
          form = tidy;
          two = can.two;
          order = can.order;
          same = can.same;
          table = table;
          completed = completed;
          new_is = becomes;
        };
      }

pub planned : (net : NetParts) (w by : List ℕ) (n d : NetId) (body : Body) (said table : Cover) (change : Change) → WellFormed net → length net.nets ≤ MAX_NETS → IsTabled net.nets w n.0 → HasName net.nets d.0 by
    → AreKnown net.nets body → IsTidy net.nets (values_in (slot net.nets n.0)) body → said ≡ cover_said net.nets body → CanDivide net.nets n.0 d.0 said → IsCompletedAt net.nets n.0 said table
    → change ≡ getting n table → IsPlanned net (Divides net w by body) change
planned net w by n d body said table change formed few tabled named known tidy says can given is =
    subst (IsPlanned net (Divides net w by body)) (sym is)
    (planned_getting net w by n d body table formed few tabled named known tidy (subst (CanDivide net.nets n.0 d.0) says can)
    (let P : Cover → Type 0 = λ c. IsCompletedAt net.nets n.0 c table in subst P says given))

-- ---- the check that fails

module _ (net : NetParts) (w by : List ℕ) (n d : ℕ) (body : Body) (tabled : IsTabled net.nets w n) where
  pub unnamed_fails : ((m : ℕ) → HasName net.nets m by → ⊥) → FailsDivide net w by body NoNet
  unnamed_fails none = inr (n, tabled, inl (none, refl))

  module _ (named : HasName net.nets d by) (fault : RuleFault) where
    row_fails : DivideRow net body n d fault → FailsDivide net w by body fault
    row_fails row = inr (n, tabled, inr (d, named, row))

    pub body_fails : (fault ≡ out_of_memory) ⊎ ((m : ℕ) → DivideRow net body n m fault) → (fault ≡ out_of_memory) ⊎ FailsDivide net w by body fault
    body_fails (inl e) = inl e
    body_fails (inr row) = inr (row_fails (row d))

    pub table_fails : (said : Cover) → AreKnown net.nets body → IsTidy net.nets (values_in (slot net.nets n)) body → said ≡ cover_said net.nets body
        → (fault ≡ out_of_memory) ⊎ DividedRow net.nets n d said fault → (fault ≡ out_of_memory) ⊎ FailsDivide net w by body fault
    table_fails said known tidy says (inl e) = inl e
    table_fails said known tidy says (inr row) =
        let P : Cover → Type 0 = λ c. DividedRow net.nets n d c fault in inr (row_fails (inr (known, inr (tidy, subst P says row))))
