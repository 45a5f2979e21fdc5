-- Calls that append to a sink, or to what stands before one, and a loop or a run of calls that is on its way through a text.
use Rattle.std.proofs.Common.{◌≡◌, ◌∙◌, ℕ, List, [], ◌++◌, Option, Some, None, Result, Ok, Err, refl, sym, ap, subst, append_assoc, arith}
use Rattle.std.specs.Prelude.{IfSome}
use Rattle.std.specs.Result.{IsErrAnd}
use Rattle.std.proofs.lemmas.List.{append-nil}
use Rattle.mv_base.specs.declared.outside.Failed.{Failed}
use Rattle.mv_base.specs.Outside.{Written, Gained, GainedFront, GainedPart, HasCause, Appends}
use Rattle.mv_base.proofs.OutsideLemmas.{Rose-earlier}

-- ---- what a sink tells

gained_nothing : (o : Option (List ℕ)) → IfSome o (λ had. o ≡ Some (had ++ []))
gained_nothing None = tt
gained_nothing (Some had) = ap Some (sym (append-nil had))

gained_both : (o m n : Option (List ℕ)) (x y : List ℕ) → IfSome o (λ had. m ≡ Some (had ++ x)) → IfSome m (λ had. n ≡ Some (had ++ y)) → IfSome o (λ had. n ≡ Some (had ++ (x ++ y)))
gained_both None m n x y g h = tt
gained_both (Some o) m n x y g h =
    let P : Option (List ℕ) → Type 0 = λ z. IfSome z (λ had. n ≡ Some (had ++ y)) in
    subst P g h ∙ ap Some (append_assoc o x y)

front_behind : (had : List ℕ) (n : Option (List ℕ)) (x y : List ℕ) → GainedFront (had ++ x) n y → GainedFront had n (x ++ y)
front_behind had n x y p = record {
  front = x ++ p.front;
  back = p.back;
  whole = ap (λ z. x ++ z) p.whole ∙ sym (append_assoc x p.front p.back);
  gained = p.gained ∙ ap Some (append_assoc had x p.front);
}

part_behind : (o m n : Option (List ℕ)) (x y : List ℕ) → IfSome o (λ had. m ≡ Some (had ++ x)) → IfSome m (λ had. GainedFront had n y) → IfSome o (λ had. GainedFront had n (x ++ y))
part_behind None m n x y g h = tt
part_behind (Some o) m n x y g h =
    let P : Option (List ℕ) → Type 0 = λ z. IfSome z (λ had. GainedFront had n y) in
    front_behind o n x y (subst P g h)

part_of_more : (o n : Option (List ℕ)) (x y : List ℕ) → IfSome o (λ had. GainedFront had n x) → IfSome o (λ had. GainedFront had n (x ++ y))
part_of_more None n x y p = tt
part_of_more (Some o) n x y p = record {
  front = p.front;
  back = p.back ++ y;
  whole = ap (λ z. z ++ y) p.whole ∙ append_assoc p.front p.back y;
  gained = p.gained;
}

pub Gained-none : (a : Written) → Gained a a []
Gained-none a = gained_nothing a.told

pub Gained-then : (a b c : Written) (x y : List ℕ) → Gained a b x → Gained b c y → Gained a c (x ++ y)
Gained-then a b c x y g h = gained_both a.told b.told c.told x y g h

pub GainedPart-then : (a b c : Written) (x y : List ℕ) → Gained a b x → GainedPart b c y → GainedPart a c (x ++ y)
GainedPart-then a b c x y g h = part_behind a.told b.told c.told x y g h

pub GainedPart-more : (a b : Written) (x y : List ℕ) → GainedPart a b x → GainedPart a b (x ++ y)
GainedPart-more a b x y p = part_of_more a.told b.told x y p

-- ---- causes

pub HasCause-then : {T U : Type 0} (n m k : ℕ) (q : Result T Failed) (r : Result U Failed) → HasCause n m q → HasCause m k r → HasCause n k r
HasCause-then n m k q (Ok v) c d = record { later = omega (arith, c.later, d.later); failed = tt }
HasCause-then n m k q (Err e) c d = record { later = omega (arith, c.later, d.later); failed = Rose-earlier n m k c.later d.failed }

-- ---- calls

-- what calls do that append: nothing, then more, and some first part where one of them fails
pub record Appending {S : Type 0} (App : S → S → List ℕ → Result (Unit {0}) Failed → Type 0) : Type 0 where
  pub nothing : (a : S) → App a a [] (Ok tt)
  pub more : (a b c : S) (x y : List ℕ) (r : Result (Unit {0}) Failed) → App a b x (Ok tt) → App b c y r → App a c (x ++ y) r
  pub cut : (a b : S) (x y : List ℕ) (e : Failed) → App a b x (Err e) → App a b (x ++ y) (Err e)

appends_more : (a b c : Written) (x y : List ℕ) (r : Result (Unit {0}) Failed) → Appends a b x (Ok tt) → Appends b c y r → Appends a c (x ++ y) r
appends_more a b c x y (Ok u) p q = record {
  ok = Gained-then a b c x y p.ok q.ok;
  part = tt;
  cause = HasCause-then a.faults b.faults c.faults (Ok tt) (Ok u) p.cause q.cause;
}
appends_more a b c x y (Err e) p q = record {
  ok = tt;
  part = GainedPart-then a b c x y p.ok q.part;
  cause = HasCause-then a.faults b.faults c.faults (Ok tt) (Err e) p.cause q.cause;
}

pub appends : Appending Appends
appends = record {
  nothing = λ a. record { ok = Gained-none a; part = tt; cause = record { later = omega arith; failed = tt } };
  more = appends_more;
  cut = λ a b x y e p. record { ok = tt; part = GainedPart-more a b x y p.part; cause = p.cause };
}

-- ---- on the way through a text

-- all but the rest of the whole text was appended
pub record Going {S : Type 0} (App : S → S → List ℕ → Result (Unit {0}) Failed → Type 0) (old new : S) (rest whole : List ℕ) : Type 0 where
  pub done : List ℕ
  pub all : done ++ rest ≡ whole
  pub appended : App old new done (Ok tt)

module _ {S : Type 0} {App : S → S → List ℕ → Result (Unit {0}) Failed → Type 0} (laws : Appending App) where
  -- the same call under an equal text
  pub same : {a b : S} {x y : List ℕ} {r : Result (Unit {0}) Failed} → x ≡ y → App a b x r → App a b y r
  same {a = a} {b = b} {r = r} e p = let P : List ℕ → Type 0 = λ z. App a b z r in subst P e p

  -- nothing was appended yet
  pub start : (a : S) (whole : List ℕ) → Going App a a whole whole
  start a whole = record { done = []; all = refl; appended = laws.nothing a }

  -- a call appended what comes next
  pub next : {a b c : S} {text whole x rest : List ℕ} → Going App a b text whole → text ≡ x ++ rest → App b c x (Ok tt) → Going App a c rest whole
  next {a = a} {b = b} {c = c} {x = x} {rest = rest} p e q = record {
    done = p.done ++ x;
    all = append_assoc p.done x rest ∙ (ap (λ t. p.done ++ t) (sym e) ∙ p.all);
    appended = laws.more a b c p.done x (Ok tt) p.appended q;
  }

  -- a call failed at what comes next, and its answer is handed on
  pub stop : {a b c : S} {text whole x : List ℕ} (rest : List ℕ) {e : Failed} (Q : Failed → Type 0) (r : Result (Unit {0}) Failed) → Going App a b text whole → text ≡ x ++ rest → App b c x (Err e) → IsErrAnd r Q → App a c whole r
  stop {x = x} rest {e = e} Q (Ok v) p s q f = absurd f
  stop {a = a} {b = b} {c = c} {text = text} {x = x} rest {e = e} Q (Err d) p s q f =
      same p.all (laws.more a b c p.done text (Err d) p.appended (same (sym s) (laws.cut b c x rest d q)))

  -- the answer of the call for the rest is handed on
  pub last : {a b c : S} {text whole : List ℕ} {r : Result (Unit {0}) Failed} → Going App a b text whole → App b c text r → App a c whole r
  last {a = a} {b = b} {c = c} {text = text} {r = r} p q =
      same p.all (laws.more a b c p.done text r p.appended q)

  -- nothing is left
  pub finish : {a b : S} {text whole : List ℕ} → Going App a b text whole → text ≡ [] → App a b whole (Ok tt)
  finish p e =
      same (sym (append-nil p.done) ∙ (ap (λ t. p.done ++ t) (sym e) ∙ p.all)) p.appended
