-- Sets with the points that agree with some point of a set outside chosen variables, or with all.
use Rattle.std.proofs.Common.{◌≡◌, ℕ, ◌≤◌, ◌==◌, ◌&&◌, ◌||◌, ◌⊎◌, Bool, true, false, List, Option, None, Result, Ok, Err, IfOk, if◌then◌else◌, refl, sym, ap, subst, ◌∙◌, inl, inr, true≢false, arith}
use Rattle.std.proofs.lemmas.Bool.{cases_eq, eq-eqb, eqb-true, ne_eqb, and_left, and_right}
use Rattle.mv_diagram.specs.declared.apply.Parted.{Parted}
use Rattle.mv_diagram.specs.declared.node.Dd.{Dd}
use Rattle.mv_diagram.specs.declared.node.Node.{Node}
use Rattle.mv_diagram.specs.declared.node.Nodes.{Nodes}
use Rattle.mv_diagram.specs.declared.node.Test.{Test}
use Rattle.mv_diagram.specs.declared.memo.Key.{Key}
use Rattle.mv_diagram.specs.declared.memo.Operation.{Operation}
use Rattle.mv_diagram.specs.declared.memo.Operation.TheVariants.{And}
use Rattle.mv_diagram.specs.declared.table.Table.{Table}
use Rattle.mv_diagram.specs.Sets.{Point, InRange, with_value, greatest, node_at, holds, has_diagram}
use Rattle.mv_diagram.specs.Sound.{order, first, IsReduced}
use Rattle.mv_diagram.specs.Works.{AddsNodes}
use Rattle.mv_diagram.specs.First.{AreParted}
use Rattle.mv_diagram.specs.Results.{IsResult, IsRemembered, result_of}
use Rattle.mv_diagram.specs.Quantified.{AgreesOutside, Agreeing, IsQuantified, Quantifies, IsJoined, joined_set, joining, meet_of}
use Rattle.mv_diagram.proofs.Applying.{both_same, both_yes, both_no, combined_tested}
use Rattle.mv_diagram.proofs.Following.{if_same, holds_end, first-le}
use Rattle.mv_diagram.proofs.Literals.{end_of}
use Rattle.mv_diagram.proofs.Points.{beside, beside_there, beside_elsewhere, InRange-with, InRange-beside, value_elsewhere}
use Rattle.mv_diagram.proofs.Tables.{AddsNodes-more, table_held, table_first, table_holds, table_parted}

-- the joining operation has the answer where one side has it
one_answers : (answer x y : Bool) → result_of (joining answer) x y ≡ answer → (x ≡ answer) ⊎ (y ≡ answer)
one_answers true true y e = inl refl
one_answers true false y e = inr e
one_answers false false y e = inl refl
one_answers false true y e = inr e

left_answers : (answer x y : Bool) → x ≡ answer → result_of (joining answer) x y ≡ answer
left_answers true true y e = refl
left_answers true false y e = absurd (true≢false (sym e))
left_answers false false y e = refl
left_answers false true y e = absurd (true≢false e)

right_answers : (answer x y : Bool) → y ≡ answer → result_of (joining answer) x y ≡ answer
right_answers true true y e = refl
right_answers true false y e = e
right_answers false false y e = refl
right_answers false true y e = e

-- another value of a chosen variable, or the greatest beside a test of it
agrees_with : (vars : ℕ → Bool) (p q : Point) (var value : ℕ) → vars var ≡ true → AgreesOutside vars p q → AgreesOutside vars p (with_value q var value)
agrees_with vars p q var value chosen agrees = record { each = λ v out. agrees.each v out ∙ sym (value_elsewhere q var value v (λ same. true≢false (sym chosen ∙ ap vars (sym same) ∙ out))) }

agrees_beside : (counts : List ℕ) (vars : ℕ → Bool) (p q : Point) (t : Test) → vars t.var ≡ true → AgreesOutside vars p q → AgreesOutside vars p (beside counts t q)
agrees_beside counts vars p q t chosen agrees = elim (cases_eq (q t.var) t.value) [
  | inl same ↦ rw (beside_there counts t q same) (agrees_with vars p q t.var (greatest counts t.var) chosen agrees)
  | inr other ↦ rw (beside_elsewhere counts t q other) agrees
]

-- a set has the answer exactly where another has it at some point that agrees
pub record Answers (counts : List ℕ) (vars : ℕ → Bool) (answer : Bool) (whole set : Point → Bool) : Type 0 where
  pub some : (p : Point) → InRange counts p → set p ≡ answer → Agreeing counts vars whole answer p
  pub all : (p q : Point) → InRange counts q → AgreesOutside vars p q → whole q ≡ answer → set p ≡ answer

module _ (counts : List ℕ) (ns : List (Option Node)) (s : IsReduced counts ns) (vars : ℕ → Bool) (answer : Bool) where
  -- where the meet is the same at all points
  pub quantified_flat : (a b d : ℕ) (x : Bool) → has_diagram ns a ≡ true → has_diagram ns b ≡ true → d ≡ (if x then 1 else 0) → ((p : Point) → meet_of counts ns a b p ≡ x) → IsQuantified counts ns vars answer a b d
  quantified_flat a b d x ha hb e same = let end = end_of counts ns x d e in record {
    left = ha;
    right = hb;
    held = end.held;
    later = λ from la lb. let most = first-le counts ns s a in let last = end.last in omega arith;
    some = λ p range is. record { other = p; range = range; agrees = record { each = λ v out. refl }; is = same p ∙ sym (end.all p) ∙ is };
    all = λ p q range agrees is. end.all p ∙ sym (same q) ∙ is;
  }

  -- one of the two is empty
  pub quantified_empty : (a b d : ℕ) → has_diagram ns a ≡ true → has_diagram ns b ≡ true → d ≡ 0 → ((a == 0) || (b == 0)) ≡ true → IsQuantified counts ns vars answer a b d
  quantified_empty a b d ha hb e one = quantified_flat a b d false ha hb e (λ p. by p (a == 0) (b == 0) refl refl one)
    where
      none : (c : ℕ) (p : Point) → (c == 0) ≡ true → holds counts ns c p ≡ false
      none c p z = ap (λ c. holds counts ns c p) (eqb-true c 0 z) ∙ (end_of counts ns false 0 refl).all p

      by : (p : Point) (x y : Bool) → (a == 0) ≡ x → (b == 0) ≡ y → (x || y) ≡ true → meet_of counts ns a b p ≡ false
      by p true y ea eb h = and_left (holds counts ns a p) (holds counts ns b p) (none a p ea)
      by p false y ea eb h = and_right (holds counts ns a p) (holds counts ns b p) (none b p (eb ∙ h))

  -- neither has tests
  pub quantified_end : (a b d : ℕ) → has_diagram ns a ≡ true → has_diagram ns b ≡ true → node_at ns a ≡ None → node_at ns b ≡ None → d ≡ (if (a == 1) && (b == 1) then 1 else 0) → IsQuantified counts ns vars answer a b d
  quantified_end a b d ha hb ea eb e = quantified_flat a b d ((a == 1) && (b == 1)) ha hb e (λ p. both_same And _ _ _ _ (holds_end counts ns a p ea) (holds_end counts ns b p eb))

  -- a set that is joined of what two sets are where a test says yes and where it says no
  module _ (a b : ℕ) (t : Test) (ay an by bn : ℕ) (parted : AreParted counts ns a b t ay an by bn) (chosen : Bool) (of : chosen ≡ vars t.var) where
    whole_yes : (q : Point) → q t.var ≡ t.value → meet_of counts ns a b q ≡ meet_of counts ns ay by q
    whole_yes q at = combined_tested counts ns s And a b t ay an by bn parted q true (eq-eqb _ _ at)

    whole_no : (q : Point) → (q t.var ≡ t.value → ⊥) → meet_of counts ns a b q ≡ meet_of counts ns an bn q
    whole_no q apart = combined_tested counts ns s And a b t ay an by bn parted q false (ne_eqb _ _ apart)

    -- at the value of a test of a chosen variable
    some_yes : chosen ≡ true → (p : Point) → Agreeing counts vars (λ q. meet_of counts ns ay by q) answer p → Agreeing counts vars (λ q. meet_of counts ns a b q) answer p
    some_yes j p at = let more = parted.test.test.value in record {
      other = with_value at.other t.var t.value;
      range = InRange-with counts at.other t.var t.value at.range (omega arith);
      agrees = agrees_with vars p at.other t.var t.value (sym of ∙ j) at.agrees;
      is = sym (both_yes counts ns s And a b t ay an by bn parted at.other) ∙ at.is;
    }

    -- where one side alone decides
    pub quantified_decided : (y : ℕ) → chosen ≡ true → IsQuantified counts ns vars answer ay by y → y ≡ (if answer then 1 else 0) → IsQuantified counts ns vars answer a b y
    quantified_decided y j iy e = let end = end_of counts ns answer y e in record {
      left = parted.left_held;
      right = parted.right_held;
      held = iy.held;
      later = λ from la lb. let most = first-le counts ns s a in let last = end.last in omega arith;
      some = λ p range is. some_yes j p (iy.some p range is);
      all = λ p q range agrees is. end.all p;
    }

    module _ (y m : ℕ) (iy : IsQuantified counts ns vars answer ay by y) (im : IsQuantified counts ns vars answer an bn m) (set : Point → Bool)
        (is_joined : (p : Point) → set p ≡ joined_set counts ns chosen answer t y m p) where
      by_joined : (x : Bool) → chosen ≡ x → (p : Point) → set p ≡ joined_set counts ns x answer t y m p
      by_joined x j p = is_joined p ∙ ap (λ x. joined_set counts ns x answer t y m p) j

      tested_yes : (p : Point) → chosen ≡ false → p t.var ≡ t.value → set p ≡ holds counts ns y p
      tested_yes p j at = by_joined false j p ∙ ap (λ x. if x then holds counts ns y p else holds counts ns m p) (eq-eqb _ _ at)

      tested_no : (p : Point) → chosen ≡ false → (p t.var ≡ t.value → ⊥) → set p ≡ holds counts ns m p
      tested_no p j apart = by_joined false j p ∙ ap (λ x. if x then holds counts ns y p else holds counts ns m p) (ne_eqb _ _ apart)

      some : (x : Bool) → chosen ≡ x → (p : Point) → InRange counts p → set p ≡ answer → Agreeing counts vars (λ q. meet_of counts ns a b q) answer p
      some true j p range is = elim (one_answers answer (holds counts ns y p) (holds counts ns m p) (sym (by_joined true j p) ∙ is)) [
        | inl yes' ↦ some_yes j p (iy.some p range yes')
        | inr no' ↦ let at = im.some p range no' in record {
          other = beside counts t at.other;
          range = InRange-beside counts t parted.test.test at.other at.range;
          agrees = agrees_beside counts vars p at.other t (sym of ∙ j) at.agrees;
          is = sym (both_no counts ns s And a b t ay an by bn parted at.other) ∙ at.is;
        }
      ]
      some false j p range is = elim (cases_eq (p t.var) t.value) [
        | inl at ↦ let other = iy.some p range (sym (tested_yes p j at) ∙ is) in record {
          other = other.other;
          range = other.range;
          agrees = other.agrees;
          is = whole_yes other.other (sym (other.agrees.each t.var (sym of ∙ j)) ∙ at) ∙ other.is;
        }
        | inr apart ↦ let other = im.some p range (sym (tested_no p j apart) ∙ is) in record {
          other = other.other;
          range = other.range;
          agrees = other.agrees;
          is = whole_no other.other (λ at. apart (other.agrees.each t.var (sym of ∙ j) ∙ at)) ∙ other.is;
        }
      ]

      all : (x : Bool) → chosen ≡ x → (p q : Point) → InRange counts q → AgreesOutside vars p q → meet_of counts ns a b q ≡ answer → set p ≡ answer
      all true j p q range agrees is = by_joined true j p ∙ elim (cases_eq (q t.var) t.value) [
        | inl at ↦ left_answers answer _ _ (iy.all p q range agrees (sym (whole_yes q at) ∙ is))
        | inr apart ↦ right_answers answer _ _ (im.all p q range agrees (sym (whole_no q apart) ∙ is))
      ]
      all false j p q range agrees is = let same = agrees.each t.var (sym of ∙ j) in elim (cases_eq (q t.var) t.value) [
        | inl at ↦ tested_yes p j (same ∙ at) ∙ iy.all p q range agrees (sym (whole_yes q at) ∙ is)
        | inr apart ↦ tested_no p j (λ at. apart (sym same ∙ at)) ∙ im.all p q range agrees (sym (whole_no q apart) ∙ is)
      ]

      pub answers_joined : Answers counts vars answer (λ p. meet_of counts ns a b p) set
      answers_joined = record { some = λ p range is. some chosen refl p range is; all = λ p q range agrees is. all chosen refl p q range agrees is }

    -- two diagrams with a first test
    pub quantified_parted : (r y m : ℕ) → IsQuantified counts ns vars answer ay by y → IsQuantified counts ns vars answer an bn m → IsJoined counts ns chosen answer t y m r → IsQuantified counts ns vars answer a b r
    quantified_parted r y m iy im ij = let is = answers_joined y m iy im (λ p. holds counts ns r p) ij.set in record {
      left = parted.left_held;
      right = parted.right_held;
      held = ij.held;
      later = λ from la lb. let low = ij.later in elim parted.test.one [ inl level ↦ omega arith | inr level ↦ omega arith ];
      some = is.some;
      all = is.all;
    }

module _ (old new : Table) (s : IsReduced old.counts.items old.pool.places) (adds : AddsNodes old new) (vars : ℕ → Bool) (answer : Bool) where
  same_counts : new.counts.items ≡ old.counts.items
  same_counts = ap (λ v. v.items) adds.counts

  same_meet : (a b : ℕ) (p : Point) → has_diagram old.pool.places a ≡ true → has_diagram old.pool.places b ≡ true → meet_of new.counts.items new.pool.places a b p ≡ meet_of old.counts.items old.pool.places a b p
  same_meet a b p ha hb = both_same And _ _ _ _ (table_holds old new s adds a p ha) (table_holds old new s adds b p hb)

  pub table_quantified : (a b d : ℕ) → IsQuantified old.counts.items old.pool.places vars answer a b d → IsQuantified new.counts.items new.pool.places vars answer a b d
  table_quantified a b d is = record {
    left = table_held old new s adds a is.left;
    right = table_held old new s adds b is.right;
    held = table_held old new s adds d is.held;
    later = rw (table_first old new s adds a is.left, table_first old new s adds b is.right, table_first old new s adds d is.held) is.later;
    some = λ p range e.
        let at = is.some p (subst (λ v. InRange v p) same_counts range) (sym (table_holds old new s adds d p is.held) ∙ e) in
        record { other = at.other; range = subst (λ v. InRange v at.other) (sym same_counts) at.range; agrees = at.agrees; is = same_meet a b at.other is.left is.right ∙ at.is };
    all = λ p q range agrees e. table_holds old new s adds d p is.held ∙ is.all p q (subst (λ v. InRange v q) same_counts range) agrees (sym (same_meet a b q is.left is.right) ∙ e);
  }

  pub table_quantifies : (entries : List (Key × Dd)) → Quantifies old.counts.items old.pool.places vars answer entries → Quantifies new.counts.items new.pool.places vars answer entries
  table_quantifies entries are = record { each = λ k d there. table_quantified k.left.0 k.right.0 d.0 (are.each k d there) }

-- two diagrams are parted
abbrev pub PartedAt : Table → ℕ → ℕ → Parted → Type 0
PartedAt table a b at = AreParted table.counts.items table.pool.places a b at.test at.yes.0.0 at.no.0.0 at.yes.1.0 at.no.1.0

-- what was made of the two sides, each in the table that its call left, before the table that has both joined
pub record MadeOfBoth (vars : ℕ → Bool) (answer : Bool) (old one two new : Table) (a b : ℕ) (at : Parted) (joined : Bool) (y m : ℕ) : Type 0 where
  pub sound : IsReduced old.counts.items old.pool.places
  pub first : AddsNodes old one
  pub second : AddsNodes one two
  pub third : AddsNodes two new
  pub parted : PartedAt old a b at
  pub chosen : joined ≡ vars at.test.var
  pub yes : IsQuantified one.counts.items one.pool.places vars answer at.yes.0.0 at.yes.1.0 y
  pub no : IsQuantified two.counts.items two.pool.places vars answer at.no.0.0 at.no.1.0 m

module _ (vars : ℕ → Bool) (answer : Bool) (old one two new : Table) (a b : ℕ) (at : Parted) (joined : Bool) (y m : ℕ) (made : MadeOfBoth vars answer old one two new a b at joined y m) where
  pub adds_all : AddsNodes old new
  adds_all = AddsNodes-more old two new (AddsNodes-more old one two made.first made.second) made.third

  pub parted_in_all : PartedAt new a b at
  parted_in_all = table_parted old new made.sound adds_all a b at.test at.yes.0.0 at.no.0.0 at.yes.1.0 at.no.1.0 made.parted

  -- the two in the last table
  pub yes_in_all : IsQuantified new.counts.items new.pool.places vars answer at.yes.0.0 at.yes.1.0 y
  yes_in_all = table_quantified one new made.first.sound (AddsNodes-more one two new made.second made.third) vars answer at.yes.0.0 at.yes.1.0 y made.yes

  pub no_in_all : IsQuantified new.counts.items new.pool.places vars answer at.no.0.0 at.no.1.0 m
  no_in_all = table_quantified two new made.second.sound made.third vars answer at.no.0.0 at.no.1.0 m made.no

  -- what is joined of them
  pub quantified_all : (r : ℕ) → IsJoined new.counts.items new.pool.places joined answer at.test y m r → IsQuantified new.counts.items new.pool.places vars answer a b r
  quantified_all r ij =
      quantified_parted new.counts.items new.pool.places adds_all.sound vars answer a b at.test at.yes.0.0 at.no.0.0 at.yes.1.0 at.no.1.0 parted_in_all joined made.chosen r y m yes_in_all no_in_all ij

-- with one result more what is remembered is right
pub quantifies_more : (counts : List ℕ) (ns : List (Option Node)) (vars : ℕ → Bool) (answer : Bool) (old new : List (Key × Dd)) (key : Key) (d : Dd) → Quantifies counts ns vars answer old → IsRemembered old new key d → IsQuantified counts ns vars answer key.left.0 key.right.0 d.0 → Quantifies counts ns vars answer new
quantifies_more counts ns vars answer old new key d are kept is = record {
  each = λ k r there. elim (kept.each k r there) [
    | inl was ↦ are.each k r was
    | inr same ↦ let P : Key → Dd → Type 0 = λ k r. IsQuantified counts ns vars answer k.left.0 k.right.0 r.0 in subst (λ k. P k r) (sym same.0) (subst (λ r. P key r) (sym same.1) is)
  ];
}

-- the set that the operation makes
pub set_operation : (counts : List ℕ) (ns : List (Option Node)) (joined answer : Bool) (operation : Operation) (t : Test) (y n : ℕ) → joined ≡ true → operation ≡ joining answer
    → (p : Point) → result_of operation (holds counts ns y p) (holds counts ns n p) ≡ joined_set counts ns joined answer t y n p
set_operation counts ns joined answer operation t y n j o p =
    ap (λ o. result_of o (holds counts ns y p) (holds counts ns n p)) o ∙ ap (λ b. joined_set counts ns b answer t y n p) (sym j)

-- the set that the test makes
pub set_test : (old new : Table) → IsReduced old.counts.items old.pool.places → AddsNodes old new → (joined answer : Bool) (t : Test) (y n : ℕ) → joined ≡ false → has_diagram old.pool.places y ≡ true → has_diagram old.pool.places n ≡ true
    → (p : Point) → (if p t.var == t.value then holds old.counts.items old.pool.places y p else holds old.counts.items old.pool.places n p) ≡ joined_set new.counts.items new.pool.places joined answer t y n p
set_test old new s adds joined answer t y n j hy hn p =
    sym (if_same _ _ _ _ _ _ refl (table_holds old new s adds y p hy) (table_holds old new s adds n p hn)) ∙ ap (λ b. joined_set new.counts.items new.pool.places b answer t y n p) (sym j)

-- what is joined by the operation
pub joined_result : (counts : List ℕ) (ns : List (Option Node)) (joined answer : Bool) (operation : Operation) (t : Test) (y n : ℕ) (r : Result Dd Nodes) → joined ≡ true → operation ≡ joining answer
    → order t.var t.value ≤ first counts ns y → order t.var t.value ≤ first counts ns n → IfOk r (λ d. IsResult counts ns operation y n d.0) → IfOk r (λ d. IsJoined counts ns joined answer t y n d.0)
joined_result counts ns joined answer operation t y n (Err e) j o ly ln is = tt
joined_result counts ns joined answer operation t y n (Ok d) j o ly ln is = record {
  held = is.held;
  later = is.later (order t.var t.value) ly ln;
  set = λ p. is.set p ∙ set_operation counts ns joined answer operation t y n j o p;
}

-- what is made by the test
pub joined_test : (old new : Table) → IsReduced old.counts.items old.pool.places → AddsNodes old new → (joined answer : Bool) (t : Test) (y n : ℕ) (r : Result Dd Nodes) → joined ≡ false → has_diagram old.pool.places y ≡ true → has_diagram old.pool.places n ≡ true
    → IfOk r (λ d. has_diagram new.pool.places d.0 ≡ true) → IfOk r (λ d. order t.var t.value ≤ first new.counts.items new.pool.places d.0)
    → IfOk r (λ d. (p : Point) → holds new.counts.items new.pool.places d.0 p ≡ (if p t.var == t.value then holds old.counts.items old.pool.places y p else holds old.counts.items old.pool.places n p))
    → IfOk r (λ d. IsJoined new.counts.items new.pool.places joined answer t y n d.0)
joined_test old new s adds joined answer t y n (Err e) j hy hn held later set = tt
joined_test old new s adds joined answer t y n (Ok d) j hy hn held later set = record {
  held = held;
  later = later;
  set = λ p. set p ∙ set_test old new s adds joined answer t y n j hy hn p;
}
