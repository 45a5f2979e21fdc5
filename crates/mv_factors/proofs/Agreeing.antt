-- Points that agree outside variables, and sets that are free of a variable.
use Rattle.std.proofs.Common.{◌≡◌, ◌<◌, ◌&&◌, ◌||◌, ℕ, Bool, true, false, List, slice_index, refl, sym, ap, subst, ◌∙◌, inl, inr, true≢false}
use Rattle.std.proofs.Math.Path.{fun_ext}
use Rattle.std.proofs.lemmas.Bool.{cases_eq, eq-eqb, ne_eqb}
use Rattle.mv_diagram.specs.declared.node.Dd.{Dd}
use Rattle.mv_diagram.specs.Sets.{Point, InRange, with_value}
use Rattle.mv_diagram.specs.Diagrams.{Contents, has}
use Rattle.mv_diagram.specs.Found.{Ignores}
use Rattle.mv_diagram.specs.Parts.{no_variable}
use Rattle.mv_diagram.specs.Quantified.{AgreesOutside, Spreads, is_one_of}
use Rattle.mv_diagram.proofs.Points.{value_there, value_elsewhere}
use Rattle.mv_factors.specs.Functions.{is_this}
use Rattle.mv_factors.specs.Leaving.{IsFreeOf}

-- whether a variable is this one
pub this_not : (var v : ℕ) → (v ≡ var → ⊥) → is_this var v ≡ false
this_not var v ne = ap (λ b. b || false) (ne_eqb var v (λ same. ne (sym same)))

pub this_same : (var : ℕ) → is_this var var ≡ true
this_same var = ap (λ b. b || false) (eq-eqb var var refl)

pub this_is : (var v : ℕ) → is_this var v ≡ true → v ≡ var
this_is var v is = elim (cases_eq v var) [ inl same ↦ same | inr other ↦ absurd (true≢false (sym is ∙ this_not var v other)) ]

-- two truth values of which each follows from the other
pub same_truth : (a b : Bool) → (a ≡ true → b ≡ true) → (b ≡ true → a ≡ true) → a ≡ b
same_truth true b to from = sym (to refl)
same_truth false true to from = from refl
same_truth false false to from = refl

-- agreeing
pub agrees_self : (vars : ℕ → Bool) (p : Point) → AgreesOutside vars p p
agrees_self vars p = record { each = λ v out. refl }

pub agrees_back : (vars : ℕ → Bool) (p q : Point) → AgreesOutside vars p q → AgreesOutside vars q p
agrees_back vars p q a = record { each = λ v out. sym (a.each v out) }

pub agree_everywhere : (p q : Point) → AgreesOutside no_variable p q → p ≡ q
agree_everywhere p q a = fun_ext (λ v. a.each v refl)

pub agree_there : (var : ℕ) (p q : Point) → AgreesOutside (is_this var) p q → p var ≡ q var → p ≡ q
agree_there var p q a there = fun_ext (λ v. elim (cases_eq v var) [
  | inl same ↦ ap p same ∙ there ∙ sym (ap q same)
  | inr other ↦ a.each v (this_not var v other)
])

-- a point with the value of another at one variable
pub InRange-value : (counts : List ℕ) (p q : Point) (var : ℕ) → InRange counts p → InRange counts q
    → InRange counts (with_value p var (q var))
InRange-value counts p q var rp rq = record {
  below = λ v within. elim (cases_eq v var) [
    | inl same ↦ subst (λ n. n < slice_index counts v) (ap q same ∙ sym (value_there p var (q var) v same)) (rq.below v within)
    | inr other ↦ subst (λ n. n < slice_index counts v) (sym (value_elsewhere p var (q var) v other)) (rp.below v within)
  ];
}

-- a set that ignores a variable is free of it
pub free_ignored : (counts : List ℕ) (set : Point → Bool) (var : ℕ) → Ignores set var → IsFreeOf counts set var
free_ignored counts set var ignores = record {
  each = λ p q rp rq agree. sym (ignores.each p (q var)) ∙ ap set (fun_ext (λ v. elim (cases_eq v var) [
    | inl same ↦ value_there p var (q var) v same ∙ sym (ap q same)
    | inr other ↦ value_elsewhere p var (q var) v other ∙ agree.each v (this_not var v other)
  ]));
}

module _ (counts : List ℕ) (var : ℕ) where
  -- sets that are free of a variable
  pub free_same : (a b : Point → Bool) → ((p : Point) → a p ≡ b p) → IsFreeOf counts b var → IsFreeOf counts a var
  free_same a b same free = record { each = λ p q rp rq agree. same p ∙ free.each p q rp rq agree ∙ sym (same q) }

  pub free_all : (a : Point → Bool) → ((p : Point) → a p ≡ true) → IsFreeOf counts a var
  free_all a all = record { each = λ p q rp rq agree. all p ∙ sym (all q) }

  pub free_meet : (a b : Point → Bool) → IsFreeOf counts a var → IsFreeOf counts b var → IsFreeOf counts (λ p. a p && b p) var
  free_meet a b left right = record {
    each = λ p q rp rq agree. ap (λ x. x && b p) (left.each p q rp rq agree) ∙ ap (λ x. a q && x) (right.each p q rp rq agree);
  }

module _ (c : Contents) (vars : List ℕ) (set : Point → Bool) (d : Dd) (s : Spreads c vars true set d) where
  -- what variables are left out of is free of them
  pub free_gone : (var : ℕ) → is_one_of vars var ≡ true → IsFreeOf c.counts (λ p. has c d p) var
  free_gone var among = record {
    each = λ p q rp rq agree. same_truth (has c d p) (has c d q) (moved p q rp agree) (moved q p rq (agrees_back (is_this var) p q agree));
  }
    where
      moved : (p q : Point) → InRange c.counts p → AgreesOutside (is_this var) p q → has c d p ≡ true → has c d q ≡ true
      moved p q rp agree h =
          let near = s.some p rp h in
          s.all q near.other near.range (record {
            each = λ v out.
                let apart : v ≡ var → ⊥ = λ same. true≢false (sym (ap (is_one_of vars) same ∙ among) ∙ out) in
                sym (agree.each v (this_not var v apart)) ∙ near.agrees.each v out;
          }) near.is

  -- and of those of which the set was
  pub free_stays : (var : ℕ) → IsFreeOf c.counts set var → IsFreeOf c.counts (λ p. has c d p) var
  free_stays var free = record {
    each = λ p q rp rq agree.
        same_truth (has c d p) (has c d q) (moved p q rp rq agree)
        (moved q p rq rp (agrees_back (is_this var) p q agree));
  }
    where
      moved : (p q : Point) → InRange c.counts p → InRange c.counts q → AgreesOutside (is_this var) p q → has c d p ≡ true
          → has c d q ≡ true
      moved p q rp rq agree h =
          let near = s.some p rp h in
          let r = near.other in
          let mixed : Point = with_value r var (q var) in
          let range : InRange c.counts mixed = InRange-value c.counts r q var near.range rq in
          s.all q mixed range (record {
            each = λ v out. elim (cases_eq v var) [
              | inl same ↦ ap q same ∙ sym (value_there r var (q var) v same)
              | inr other ↦ sym (agree.each v (this_not var v other)) ∙ near.agrees.each v out ∙ sym (value_elsewhere r var (q var) v other)
            ];
          }) (sym (free.each r mixed near.range range (record {
            each = λ v out. elim (cases_eq v var) [
              | inl same ↦ absurd (true≢false (sym (ap (is_this var) same ∙ this_same var) ∙ out))
              | inr other ↦ sym (value_elsewhere r var (q var) v other)
            ];
          })) ∙ near.is)
