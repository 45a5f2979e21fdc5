-- Unions and meets of restrictions: what they are of a set where a test says yes or no, and of a set whose chosen
-- variables are no longer seen.
use Rattle.std.proofs.Common.{◌≡◌, ℕ, ◌<◌, ◌==◌, ◌&&◌, ◌||◌, ◌⊎◌, Bool, true, List, Option, nat_lt, slice_index, if◌then◌else◌, refl, sym, ap, subst, ◌∙◌, inl, inr}
use Rattle.std.proofs.lemmas.Bool.{cases_Bool}
use Rattle.mv_diagram.specs.declared.apply.Parted.{Parted}
use Rattle.mv_diagram.specs.declared.memo.Operation.TheVariants.{And}
use Rattle.mv_diagram.specs.declared.node.Node.{Node}
use Rattle.mv_diagram.specs.declared.node.Test.{Test}
use Rattle.mv_diagram.specs.declared.table.Table.{Table}
use Rattle.mv_diagram.specs.Sets.{Point, InRange, with_value, greatest, holds, has_diagram}
use Rattle.mv_diagram.specs.Sound.{order, IsTest, IsReduced, AreCounts}
use Rattle.mv_diagram.specs.Works.{AddsNodes}
use Rattle.mv_diagram.specs.Quantified.{AgreesOutside, IsQuantified, joined_set, meet_of}
use Rattle.mv_diagram.specs.Parts.{restricted, no_variable, IsRestriction, IsCombined, AddsParts, AddsCombined}
use Rattle.mv_diagram.proofs.Applying.{both_same, both_yes, both_no, combined_reads}
use Rattle.mv_diagram.proofs.Points.{beside}
use Rattle.mv_diagram.proofs.Lacking.{Reads}
use Rattle.mv_diagram.proofs.Restricting.{InRange-restricted, restriction_same, restriction_yes, restriction_no}
use Rattle.mv_diagram.proofs.Tables.{AddsNodes-more, table_held, table_holds, table_parted}
use Rattle.mv_diagram.proofs.Quantifying.{Answers, PartedAt, answers_joined, MadeOfBoth, adds_all, yes_in_all, no_in_all}

module _ (counts : List ℕ) (are : AreCounts counts) (chosen : ℕ → Bool) (answer : Bool) where
  -- the same sets in other words
  pub combined_same : (whole whole' part part' : Point → Bool) → ((p : Point) → InRange counts p → whole p ≡ whole' p) → ((p : Point) → part p ≡ part' p) → IsCombined counts chosen answer whole part → IsCombined counts chosen answer whole' part'
  combined_same whole whole' part part' w e m = record {
    each = λ p range there. let c = m.each p range (e p ∙ there) in record {
      piece = c.piece;
      is = restriction_same counts are chosen whole whole' c.piece c.piece w (λ q. refl) c.is;
      here = c.here;
      within = λ q range h. sym (e q) ∙ c.within q range h;
    };
  }

  module _ (t : Test) (is : IsTest counts t) (whole : Point → Bool) (reads : Reads counts (order t.var t.value) whole) (part : Point → Bool) where
    pub combined_yes : IsCombined counts chosen answer (λ p. whole (with_value p t.var t.value)) part → IsCombined counts chosen answer whole part
    combined_yes m = record {
      each = λ p range there. let c = m.each p range there in record { piece = c.piece; is = restriction_yes counts are chosen t is whole reads c.piece c.is; here = c.here; within = c.within };
    }

    pub combined_no : IsCombined counts chosen answer (λ p. whole (beside counts t p)) part → IsCombined counts chosen answer whole part
    combined_no m = record {
      each = λ p range there. let c = m.each p range there in record { piece = c.piece; is = restriction_no counts are chosen t is whole reads c.piece c.is; here = c.here; within = c.within };
    }

  -- a restriction of a set that has the answer where another has it at some point that agrees
  module _ (whole set part : Point → Bool) (from : ℕ) (reads : Reads counts from whole) (answers : Answers counts chosen answer whole set) (r : IsRestriction counts no_variable set part) where
    -- the values of the chosen variables, and those that were given
    abbrev given : Point → Point
    given q v = if chosen v then q v else r.given v

    outside : (q p : Point) → AgreesOutside chosen (restricted counts no_variable r.given r.var r.below p) (restricted counts chosen (given q) r.var r.below p)
    outside q p = record {
      each = λ v out.
          sym (ap (λ b. if b || nat_lt v r.var then (if b then q v else r.given v) else (if v == r.var && nat_lt (p v) r.below then greatest counts v else p v)) out);
    }

    InRange-given : (q : Point) → InRange counts q → InRange counts (given q)
    InRange-given q range = record {
      below = λ v within. let here = range.below v within in let there = r.range.below v within in elim (cases_Bool (chosen v)) [
        | inl in' ↦ subst (λ b. (if b then q v else r.given v) < slice_index counts v) (sym in') here
        | inr out ↦ subst (λ b. (if b then q v else r.given v) < slice_index counts v) (sym out) there
      ];
    }

    -- a point that agrees is the restricted one
    same_point : (q p : Point) → AgreesOutside chosen (restricted counts no_variable r.given r.var r.below p) q → (v : ℕ) → restricted counts chosen (given q) r.var r.below p v ≡ q v
    same_point q p agrees v = elim (cases_Bool (chosen v)) [
      | inl in' ↦ ap (λ b. if b || nat_lt v r.var then (if b then q v else r.given v) else (if v == r.var && nat_lt (p v) r.below then greatest counts v else p v)) in'
      | inr out ↦ sym ((outside q p).each v out) ∙ agrees.each v out
    ]

    pub combined_answers : IsCombined counts chosen answer whole part
    combined_answers = record {
      each = λ p range there.
          let a = answers.some (restricted counts no_variable r.given r.var r.below p) (InRange-restricted counts no_variable r.given r.var r.below p are r.range range) (sym (r.is p range) ∙ there) in
          record {
            piece = λ q. whole (restricted counts chosen (given a.other) r.var r.below q);
            is = record { given = given a.other; var = r.var; below = r.below; range = InRange-given a.other a.range; is = λ q range. refl };
            here = reads.each _ _ (record { each = λ t is later. ap (λ x. x == t.value) (same_point a.other p a.agrees t.var) }) ∙ a.is;
            within = λ q range h. r.is q range
                ∙ answers.all (restricted counts no_variable r.given r.var r.below q) (restricted counts chosen (given a.other) r.var r.below q)
                (InRange-restricted counts chosen (given a.other) r.var r.below q are (InRange-given a.other a.range) range) (outside a.other q) h;
          };
    }

-- what was added before, or is combined now
pub or_before : {A B C : Type 0} → A ⊎ C → (A → B ⊎ C) → B ⊎ C
or_before (inl a) before = before a
or_before (inr c) before = inr c

-- what is added for the two sides of a test, and what joins them, is combined of the meet of two diagrams
module _ (chosen : ℕ → Bool) (answer : Bool) (old new : Table) (s : IsReduced old.counts.items old.pool.places) (adds : AddsNodes old new) (a b : ℕ) (at : Parted) (parted : PartedAt old a b at) where
  abbrev whole : Point → Bool
  whole p = meet_of new.counts.items new.pool.places a b p

  there : PartedAt new a b at
  there = table_parted old new s adds a b at.test at.yes.0.0 at.no.0.0 at.yes.1.0 at.no.1.0 parted

  reads : Reads new.counts.items (order at.test.var at.test.value) whole
  reads = combined_reads new.counts.items new.pool.places adds.sound And a b at.test at.yes.0.0 at.no.0.0 at.yes.1.0 at.no.1.0 there

  -- what is combined stays so as nodes are added
  combined_later : (mid : Table) → IsReduced mid.counts.items mid.pool.places → AddsNodes mid new → (c e x : ℕ) → has_diagram mid.pool.places c ≡ true → has_diagram mid.pool.places e ≡ true → has_diagram mid.pool.places x ≡ true
      → IsCombined mid.counts.items chosen answer (λ p. meet_of mid.counts.items mid.pool.places c e p) (λ p. holds mid.counts.items mid.pool.places x p)
      → IsCombined new.counts.items chosen answer (λ p. meet_of new.counts.items new.pool.places c e p) (λ p. holds new.counts.items new.pool.places x p)
  combined_later mid sm more c e x hc he hx m = combined_same new.counts.items adds.sound.values chosen answer _ _ _ _
      (λ p range. both_same And _ _ _ _ (sym (table_holds mid new sm more c p hc)) (sym (table_holds mid new sm more e p he))) (λ p. sym (table_holds mid new sm more x p hx))
      (subst (λ v. IsCombined v chosen answer (λ p. meet_of mid.counts.items mid.pool.places c e p) (λ p. holds mid.counts.items mid.pool.places x p)) (sym (ap (λ v. v.items) more.counts)) m)

  pub added_yes : (base : List (Option Node)) (mid : Table) → AddsNodes old mid → AddsNodes mid new
      → AddsCombined mid.counts.items chosen answer base mid.pool.places (λ p. meet_of mid.counts.items mid.pool.places at.yes.0.0 at.yes.1.0 p)
      → (x : ℕ) → has_diagram mid.pool.places x ≡ true → (has_diagram base x ≡ true) ⊎ IsCombined new.counts.items chosen answer whole (λ p. holds new.counts.items new.pool.places x p)
  added_yes base mid first more added x held = elim (added.each x held) [
    | inl was ↦ inl was
    | inr m ↦ inr (combined_yes new.counts.items adds.sound.values chosen answer at.test there.test.test whole reads _
        (combined_same new.counts.items adds.sound.values chosen answer _ _ _ _ (λ p range. both_yes new.counts.items new.pool.places adds.sound And a b at.test at.yes.0.0 at.no.0.0 at.yes.1.0 at.no.1.0 there p) (λ p. refl)
        (combined_later mid first.sound more at.yes.0.0 at.yes.1.0 x (table_held old mid s first at.yes.0.0 parted.left.yes_held) (table_held old mid s first at.yes.1.0 parted.right.yes_held) held m)))
  ]

  pub added_no : (base : List (Option Node)) (mid : Table) → AddsNodes old mid → AddsNodes mid new
      → AddsCombined mid.counts.items chosen answer base mid.pool.places (λ p. meet_of mid.counts.items mid.pool.places at.no.0.0 at.no.1.0 p)
      → (x : ℕ) → has_diagram mid.pool.places x ≡ true → (has_diagram base x ≡ true) ⊎ IsCombined new.counts.items chosen answer whole (λ p. holds new.counts.items new.pool.places x p)
  added_no base mid first more added x held = elim (added.each x held) [
    | inl was ↦ inl was
    | inr m ↦ inr (combined_no new.counts.items adds.sound.values chosen answer at.test there.test.test whole reads _
        (combined_same new.counts.items adds.sound.values chosen answer _ _ _ _ (λ p range. both_no new.counts.items new.pool.places adds.sound And a b at.test at.yes.0.0 at.no.0.0 at.yes.1.0 at.no.1.0 there p) (λ p. refl)
        (combined_later mid first.sound more at.no.0.0 at.no.1.0 x (table_held old mid s first at.no.0.0 parted.left.no_held) (table_held old mid s first at.no.1.0 parted.right.no_held) held m)))
  ]

  pub added_join : (base : List (Option Node)) (joined : Bool) (y m : ℕ) → joined ≡ chosen at.test.var
      → IsQuantified new.counts.items new.pool.places chosen answer at.yes.0.0 at.yes.1.0 y → IsQuantified new.counts.items new.pool.places chosen answer at.no.0.0 at.no.1.0 m
      → AddsParts new.counts.items base new.pool.places (λ p. joined_set new.counts.items new.pool.places joined answer at.test y m p)
      → (x : ℕ) → has_diagram new.pool.places x ≡ true → (has_diagram base x ≡ true) ⊎ IsCombined new.counts.items chosen answer whole (λ p. holds new.counts.items new.pool.places x p)
  added_join base joined y m is iy im added x held = elim (added.each x held) [
    | inl was ↦ inl was
    | inr r ↦ inr (combined_answers new.counts.items adds.sound.values chosen answer whole _ _ (order at.test.var at.test.value) reads
        (answers_joined new.counts.items new.pool.places adds.sound chosen answer a b at.test at.yes.0.0 at.no.0.0 at.yes.1.0 at.no.1.0 there joined is y m iy im _ (λ p. refl)) r)
  ]

-- what is added in all
pub added_all : (chosen : ℕ → Bool) (answer : Bool) (old one two new : Table) (a b : ℕ) (at : Parted) (joined : Bool) (y m : ℕ) → MadeOfBoth chosen answer old one two new a b at joined y m
    → AddsCombined one.counts.items chosen answer old.pool.places one.pool.places (λ p. meet_of one.counts.items one.pool.places at.yes.0.0 at.yes.1.0 p)
    → AddsCombined two.counts.items chosen answer one.pool.places two.pool.places (λ p. meet_of two.counts.items two.pool.places at.no.0.0 at.no.1.0 p)
    → AddsParts new.counts.items two.pool.places new.pool.places (λ p. joined_set new.counts.items new.pool.places joined answer at.test y m p)
    → AddsCombined new.counts.items chosen answer old.pool.places new.pool.places (λ p. meet_of new.counts.items new.pool.places a b p)
added_all chosen answer old one two new a b at joined y m made yes' no' last =
    let both = AddsNodes-more old one two made.first made.second in
    let adds = adds_all chosen answer old one two new a b at joined y m made in
    let iy = yes_in_all chosen answer old one two new a b at joined y m made in
    let im = no_in_all chosen answer old one two new a b at joined y m made in
    record {
      each = λ x held. or_before
          (added_join chosen answer old new made.sound adds a b at made.parted two.pool.places joined y m made.chosen iy im last x held)
          (λ in-two. or_before (added_no chosen answer old new made.sound adds a b at made.parted one.pool.places two both made.third no' x in-two)
          (added_yes chosen answer old new made.sound adds a b at made.parted old.pool.places one made.first (AddsNodes-more one two new made.second made.third) yes' x));
    }
