-- The rule `narrow`: what the checks say, its change, that what it leaves is well formed, and that it may take the old one's place.
use Rattle.std.proofs.Common.{◌≡◌, ◌∙◌, ◌⊎◌, ℕ, ◌≤◌, Bool, true, List, [], ◌∷◌, length, Option, Some, None, Result, Ok, Err, MatchResult, is_some, inl, inr, refl, sym, ap, subst, arith}
use Rattle.std.proofs.lemmas.Option.{same_Some}
use Rattle.std.proofs.lemmas.Bool.{false≢true}
use Rattle.mv_base.specs.Meaning.{Refines}
use Rattle.mv_base.specs.declared.limits.TheConstants.{MAX_NETS}
use Rattle.mv_base.specs.declared.number.NetId.{NetId}
use Rattle.mv_body.specs.Bodies.{cover_said}
use Rattle.mv_cover.specs.declared.cover.Cover.{Cover}
use Rattle.mv_cover.specs.Covers.{cover_reads}
use Rattle.mv_entry.specs.declared.rule.Body.{Body}
use Rattle.mv_entry.specs.declared.fault.RuleFault.{RuleFault}
use Rattle.mv_entry.specs.declared.fault.RuleFault.TheVariants.{Partial as partial, Window as wide_window, Outside as outside, Lost as lost, Nodes, Memory as out_of_memory}
use Rattle.mv_flex.specs.declared.flexibility.Flexibility.{Flexibility}
use Rattle.mv_flex.specs.Flex.{IsOverFanins, KeepsChoice, TooWide}
use Rattle.mv_meaning.specs.Narrowing.{AreTotalBelow, ReadsWithin}
use Rattle.mv_meaning.proofs.Changing.{changed-given}
use Rattle.mv_meaning.proofs.Narrowing.{narrowed_formed}
use Rattle.mv_narrow.specs.declared.verdict.NarrowVerdict.{NarrowVerdict}
use Rattle.mv_narrow.specs.declared.verdict.NarrowVerdict.TheVariants.{Partial, TooWide as IsWide, NoNodes, Outside, Lost, Lawful}
use Rattle.mv_narrow.specs.Verdicts.{AllowsLess, HasWindow, IsFlexHere, IsInside, IsNarrowVerdict, IsOutside}
use Rattle.mv_narrow.proofs.Less.{less_inside}
use Rattle.mv_narrow.proofs.OneWindow.{never_both}
use Rattle.mv_narrow.proofs.Windows.{lawful_refines}
use Rattle.mv_net.specs.declared.change.Change.{Change}
use Rattle.mv_net.specs.declared.parts.FlatNet.{FlatNet}
use Rattle.mv_net.specs.declared.parts.NetParts.{NetParts}
use Rattle.mv_net.specs.Allowed.{of_net}
use Rattle.mv_net.specs.Changes.{changed}
use Rattle.mv_net.specs.Formed.{WellFormed}
use Rattle.mv_net.specs.Nets.{slot, table_in, table_reads}
use Rattle.mv_plans.specs.Checks.{Answers, IsTabled}
use Rattle.mv_plans.specs.Narrowing.{FailsNarrow, HasFlexibility, IsLawfulHere, IsNarrowBody, IsNarrowWindow, IsWithinReach, KeepsChoices, NarrowRow, NarrowedRow, Narrows, NarrowsWithin, StopsNarrow, StopsNarrowed, fault_for}
use Rattle.mv_plans.specs.Plans.{IsPlanned}
use Rattle.mv_plans.proofs.Divided.{fits_getting}
use Rattle.mv_plans.proofs.Named.{one_tabled}

-- ---- tables

-- a table that is there
record HasTable (o : Option Cover) : Type 0 where
  table : Cover
  is : o ≡ Some table

some_table : (o : Option Cover) → is_some o ≡ true → HasTable o
some_table None h = absurd (false≢true h)
some_table (Some c) h = record { table = c; is = refl }

-- a net with a table is held
pub table_held : (f : Option FlatNet) → is_some (table_in f) ≡ true → is_some f ≡ true
table_held None h = absurd (false≢true h)
table_held (Some f) h = refl

-- over the fanins of a net a table reads no net that the net's doesn't
pub reads_within : (nets : List (Option FlatNet)) (n : ℕ) (old new : Cover) → table_in (slot nets n) ≡ Some old → IsOverFanins nets n (cover_reads new) → ReadsWithin old new
reads_within nets n old new table over = record { each = λ m h. ap (λ t. table_reads t m) (sym table) ∙ over.fanins m h }

pub keeps_choices_of : (nets : List (Option FlatNet)) (n : ℕ) (old new : Cover) → table_in (slot nets n) ≡ Some old → KeepsChoice nets n old new → KeepsChoices nets n new
keeps_choices_of nets n old new table keeps = record { each = λ c t. subst (λ o. KeepsChoice nets n o new) (same_Some old c (sym table ∙ t)) keeps }

-- ---- what a verdict says

module _ (net : NetParts) (n d u : ℕ) where
  -- a window isn't too wide and not too wide
  not_narrow : HasWindow net n d u (TooWide net) → HasWindow net n d u (IsNarrowWindow net) → ⊥
  not_narrow p q = never_both net n d u _ _ p q (λ w wide narrow. narrow wide)

  -- nor is what a table allows inside the flexibility and not
  not_inside : (new : Cover) → HasWindow net n d u (IsOutside net n new) → HasWindow net n d u (IsInside net n new) → ⊥
  not_inside new p q = never_both net n d u _ _ p q (λ w out in_it. out.outside in_it.inside)

  pub narrow_inside : (new : Cover) → HasWindow net n d u (IsInside net n new) → HasWindow net n d u (IsNarrowWindow net)
  narrow_inside new p = record { window = p.window; is = p.is; holds = p.holds.narrow }

  narrow_outside : (new : Cover) → HasWindow net n d u (IsOutside net n new) → HasWindow net n d u (IsNarrowWindow net)
  narrow_outside new p = record { window = p.window; is = p.is; holds = p.holds.narrow }

  module _ (budget : ℕ) (old new : Cover) (table : table_in (slot net.nets n) ≡ Some old) where
    lawful_here : IsNarrowVerdict net n d u budget old new Lawful → IsLawfulHere net n d u new
    lawful_here v = record { below = v.0; inside = v.1.0; keeps = keeps_choices_of net.nets n old new table v.1.1 }

    fault_here : (verdict : NarrowVerdict) (f : RuleFault) → IsNarrowVerdict net n d u budget old new verdict → fault_for verdict ≡ Some f → StopsNarrowed budget net n d u new f
    fault_here Partial f v e = inr (inl (v, sym (same_Some partial f e)))
    fault_here IsWide f v e = inr (inr (v.0, inl (not_narrow v.1, sym (same_Some wide_window f e))))
    fault_here NoNodes f v e = inl (sym (same_Some Nodes f e), v.1)
    fault_here Outside f v e = inr (inr (v.0, inr (narrow_outside new v.1, inl (not_inside new v.1, sym (same_Some outside f e)))))
    fault_here Lost f v e =
        inr (inr (v.0, inr (narrow_inside new v.1.0, inr (v.1.0, inl ((λ keeps. v.1.1 (keeps.each old table)), sym (same_Some lost f e))))))
    fault_here Lawful f v e = absurd cc

    pub verdict_answers : (result : Result (Unit {0}) RuleFault) (verdict : NarrowVerdict) → IsNarrowVerdict net n d u budget old new verdict
        → MatchResult result (λ _. verdict ≡ Lawful) (λ f. fault_for verdict ≡ Some f)
        → Answers result (λ _. IsLawfulHere net n d u new) (StopsNarrowed budget net n d u new)
    verdict_answers (Ok done) verdict v e = lawful_here (subst (IsNarrowVerdict net n d u budget old new) e v)
    verdict_answers (Err f) verdict v e = inr (fault_here verdict f v e)

  -- ---- within reach, where a table allows less

  pub wide_fails : (new : Cover) → AreTotalBelow net.nets n → HasWindow net n d u (TooWide net) → NarrowedRow net n d u new wide_window
  wide_fails new below wide = inr (below, inl (not_narrow wide, refl))

  pub less_lawful : (old new : Cover) → table_in (slot net.nets n) ≡ Some old → IsWithinReach net n d u → AllowsLess net.nets n old new → IsLawfulHere net n d u new
  less_lawful old new table reach less = record {
    below = reach.below;
    inside = record {
      window = reach.narrow.window;
      is = reach.narrow.is;
      holds = record { narrow = reach.narrow.holds; inside = less_inside net.nets reach.narrow.window n old new table less };
    };
    keeps = keeps_choices_of net.nets n old new table less.keeps;
  }

-- where a verdict comes for every table of the net, it comes for the one
pub verdict_at : (net : NetParts) (n d u budget : ℕ) (new : Cover) (result : Result (Unit {0}) RuleFault) (verdict : NarrowVerdict) → is_some (table_in (slot net.nets n)) ≡ true
    → ((old : Cover) → table_in (slot net.nets n) ≡ Some old → IsNarrowVerdict net n d u budget old new verdict)
    → MatchResult result (λ _. verdict ≡ Lawful) (λ f. fault_for verdict ≡ Some f)
    → Answers result (λ _. IsLawfulHere net n d u new) (StopsNarrowed budget net n d u new)
verdict_at net n d u budget new result verdict there is told =
    let t = some_table (table_in (slot net.nets n)) there in
    verdict_answers net n d u budget t.table new t.is result verdict (is t.table t.is) told

-- ---- the network with the body

module _ (old : NetParts) (w : List ℕ) (d u : ℕ) (body : Body) (new : NetParts) (formed : WellFormed old) (p : Narrows old w d u body new) where
  pub narrows_formed : WellFormed new
  narrows_formed =
      subst WellFormed (sym p.new_is) (narrowed_formed old p.number p.table (cover_said old.nets body) formed p.table_is p.form.tidy.cover p.reads)

  pub narrows_refines : (free : Bool) → Refines free (of_net new) (of_net old)
  narrows_refines free =
      let P : NetParts → Type 0 = λ net. Refines free (of_net net) (of_net old) in
      subst P (sym p.new_is)
      (lawful_refines free old p.number d u 0 p.table (cover_said old.nets body) formed p.table_is p.form.tidy.cover p.reads (p.below, (p.inside, p.keeps)))

-- ---- the change

-- the change by which a net gets a table
abbrev getting : NetId → Cover → Change
getting n c = record { add = []; set = record { net = n; table = c } ∷ []; values = []; gone = [] }

module _ (net : NetParts) (w : List ℕ) (d u : ℕ) (n : NetId) (body : Body) (formed : WellFormed net) (few : length net.nets ≤ MAX_NETS) (tabled : IsTabled net.nets w n.0) (is : IsNarrowBody net.nets n.0 d u body) where
  abbrev said : Cover
  said = cover_said net.nets body

  narrows : IsLawfulHere net n.0 d u said → Narrows net w d u body (changed net (getting n said))
  narrows lawful =
      let t = some_table (table_in (slot net.nets n.0)) tabled.table in
      record {
        number = n.0;
        net = tabled;
        known = is.known;
        form = is.form;
        table = t.table;
        table_is = t.is;
        reads = reads_within net.nets n.0 t.table said t.is is.reads;
        below = lawful.below;
        inside = lawful.inside;
        keeps = lawful.keeps.each t.table t.is;
        new_is = changed-given net n said;
      }

  planned_getting : IsLawfulHere net n.0 d u said → IsPlanned net (Narrows net w d u body) (getting n said)
  planned_getting lawful = record {
    few = omega (arith, few);
    fits = fits_getting net n said (ap (λ f. is_some f) tabled.named.held);
    formed = narrows_formed net w d u body (changed net (getting n said)) formed (narrows lawful);
    makes = narrows lawful;
  }

  pub planned : (c : Cover) (change : Change) → c ≡ cover_said net.nets body → IsLawfulHere net n.0 d u c → change ≡ getting n c → IsPlanned net (Narrows net w d u body) change
  planned c change says lawful gives =
      subst (IsPlanned net (Narrows net w d u body)) (sym (gives ∙ ap (getting n) says)) (planned_getting (subst (IsLawfulHere net n.0 d u) says lawful))

  -- ---- the check that fails

  row_fails : (c : Cover) (fault : RuleFault) → c ≡ cover_said net.nets body → NarrowedRow net n.0 d u c fault → FailsNarrow net w d u body fault
  row_fails c fault says row =
      inr (n.0, tabled, inr (is.known, inr (is.form, inr (is.reads, subst (λ x. NarrowedRow net n.0 d u x fault) says row))))

  pub judged_fails : (budget : ℕ) (c : Cover) (fault : RuleFault) → c ≡ cover_said net.nets body → (fault ≡ out_of_memory) ⊎ StopsNarrowed budget net n.0 d u c fault → (fault ≡ out_of_memory) ⊎ StopsNarrow budget net w d u body fault
  judged_fails budget c fault says (inl e) = inl e
  judged_fails budget c fault says (inr (inl p)) = inr (inl (p.0, record { number = n.0; net = tabled; full = p.1 }))
  judged_fails budget c fault says (inr (inr row)) = inr (inr (row_fails c fault says row))

  pub reached_fails : (fault : RuleFault) → (fault ≡ out_of_memory) ⊎ ((new : Cover) → NarrowedRow net n.0 d u new fault) → (fault ≡ out_of_memory) ⊎ FailsNarrow net w d u body fault
  reached_fails fault (inl e) = inl e
  reached_fails fault (inr row) = inr (row_fails (cover_said net.nets body) fault refl (row (cover_said net.nets body)))

  -- ---- a flexibility at hand, and a body that allows less

  -- the table of the net, over whose fanins the body is
  pub over_table : (c old : Cover) → c ≡ cover_said net.nets body → table_in (slot net.nets n.0) ≡ Some old → ReadsWithin old c
  over_table c old says table = subst (ReadsWithin old) (sym says) (reads_within net.nets n.0 old said table is.reads)

  pub flex_here : (budget : ℕ) (f : Flexibility) → HasFlexibility net w d u budget f → IsFlexHere net n.0 d u budget f
  flex_here budget f h =
      subst (λ k. IsFlexHere net k d u budget f) (one_tabled net w h.number n.0 formed h.net tabled)
      (record { below = h.below; window = h.window; is = h.is; narrow = h.narrow; flex = h.flex })

  pub hand_answers : (budget : ℕ) (f : Flexibility) (c : Cover) (result : Result (Unit {0}) RuleFault) → c ≡ cover_said net.nets body → HasFlexibility net w d u budget f
      → ((net : NetParts) (n d u budget : ℕ) (old : Cover) → IsFlexHere net n d u budget f → table_in (slot net.nets n) ≡ Some old → ReadsWithin old c
      → Answers result (λ _. IsLawfulHere net n d u c) (StopsNarrowed budget net n d u c))
      → Answers result (λ _. IsLawfulHere net n.0 d u c) (StopsNarrowed budget net n.0 d u c)
  hand_answers budget f c result says h answers =
      let t = some_table (table_in (slot net.nets n.0)) tabled.table in
      answers net n.0 d u budget t.table (flex_here budget f h) t.is (over_table c t.table says t.is)

  pub within_lawful : (c : Cover) → c ≡ cover_said net.nets body → NarrowsWithin net w body → IsWithinReach net n.0 d u → IsLawfulHere net n.0 d u c
  within_lawful c says less reach =
      let t = some_table (table_in (slot net.nets n.0)) tabled.table in
      let reads = reads_within net.nets n.0 t.table said t.is is.reads in
      subst (IsLawfulHere net n.0 d u) (sym says)
      (less_lawful net n.0 d u t.table said t.is reach (less.less n.0 t.table tabled t.is is.known is.form.tidy reads))

-- a check that fails stops the rule
pub stops : (budget : ℕ) (net : NetParts) (w : List ℕ) (d u : ℕ) (body : Body) (fault : RuleFault) → (fault ≡ out_of_memory) ⊎ FailsNarrow net w d u body fault → (fault ≡ out_of_memory) ⊎ StopsNarrow budget net w d u body fault
stops budget net w d u body fault (inl e) = inl e
stops budget net w d u body fault (inr fails) = inr (inr fails)
