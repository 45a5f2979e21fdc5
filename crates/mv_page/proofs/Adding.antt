-- Pieces that are added to a text, one after the other, until the last of it is handed on.
use Rattle.std.proofs.Common.{◌≡◌, ◌∙◌, ℕ, List, [], ◌++◌, Option, Some, None, Result, Ok, Err, refl, sym, ap, subst, append_assoc, arith}
use Rattle.std.specs.Prelude.{IfSome}
use Rattle.std.proofs.lemmas.List.{append-nil}
use Rattle.mv_base.specs.declared.outside.Failed.{Failed}
use Rattle.mv_base.specs.Outside.{GainedFront, GainedPart}
use Rattle.mv_base.proofs.Gains.{HasCause-then, GainedPart-more, Appending}
use Rattle.mv_page.specs.Page.{Paged, Took, AddsPiece}

took_nothing : (a : Paged) (o : Option (List ℕ)) → a.sink.told ≡ o → IfSome o (λ had. Took had a a [])
took_nothing a None e = tt
took_nothing a (Some had) e = record { taken = []; told = e ∙ ap Some (sym (append-nil had)); whole = sym (append-nil a.held) }

took_both : (a b c : Paged) (x y : List ℕ) (o : Option (List ℕ)) → IfSome o (λ had. Took had a b x) → IfSome b.sink.told (λ had. Took had b c y) → IfSome o (λ had. Took had a c (x ++ y))
took_both a b c x y None p q = tt
took_both a b c x y (Some had) p q =
    let P : Option (List ℕ) → Type 0 = λ z. IfSome z (λ h. Took h b c y) in
    let r : Took (had ++ p.taken) b c y = subst P p.told q in
    record {
      taken = p.taken ++ r.taken;
      told = r.told ∙ ap Some (append_assoc had p.taken r.taken);
      whole = append_assoc p.taken r.taken c.held ∙ (ap (λ z. p.taken ++ z) r.whole ∙ (sym (append_assoc p.taken b.held y) ∙ (ap (λ z. z ++ y) p.whole ∙ append_assoc a.held x y)));
    }

part_behind : (a b : Paged) (x y : List ℕ) (c : Option (List ℕ)) (o : Option (List ℕ)) → IfSome o (λ had. Took had a b x) → IfSome b.sink.told (λ had. GainedFront had c (b.held ++ y)) → IfSome o (λ had. GainedFront had c (a.held ++ (x ++ y)))
part_behind a b x y c None p q = tt
part_behind a b x y c (Some had) p q =
    let P : Option (List ℕ) → Type 0 = λ z. IfSome z (λ h. GainedFront h c (b.held ++ y)) in
    let r : GainedFront (had ++ p.taken) c (b.held ++ y) = subst P p.told q in
    record {
      front = p.taken ++ r.front;
      back = r.back;
      whole = sym (append_assoc a.held x y) ∙ (ap (λ z. z ++ y) (sym p.whole) ∙ (append_assoc p.taken b.held y ∙ (ap (λ z. p.taken ++ z) r.whole ∙ sym (append_assoc p.taken r.front r.back))));
      gained = r.gained ∙ ap Some (append_assoc had p.taken r.front);
    }

adds_more : (a b c : Paged) (x y : List ℕ) (r : Result (Unit {0}) Failed) → AddsPiece a b x (Ok tt) → AddsPiece b c y r → AddsPiece a c (x ++ y) r
adds_more a b c x y (Ok u) p q = record {
  ok = took_both a b c x y a.sink.told p.ok q.ok;
  part = tt;
  empty = tt;
  cause = HasCause-then a.sink.faults b.sink.faults c.sink.faults (Ok tt) (Ok u) p.cause q.cause;
}
adds_more a b c x y (Err e) p q = record {
  ok = tt;
  part = part_behind a b x y c.sink.told a.sink.told p.ok q.part;
  empty = q.empty;
  cause = HasCause-then a.sink.faults b.sink.faults c.sink.faults (Ok tt) (Err e) p.cause q.cause;
}

adds_cut : (a b : Paged) (x y : List ℕ) (e : Failed) → AddsPiece a b x (Err e) → AddsPiece a b (x ++ y) (Err e)
adds_cut a b x y e p =
    let P : List ℕ → Type 0 = λ z. GainedPart a.sink b.sink z in
    record { ok = tt; part = subst P (append_assoc a.held x y) (GainedPart-more a.sink b.sink (a.held ++ x) y p.part); empty = p.empty; cause = p.cause }

pub adds : Appending AddsPiece
adds = record {
  nothing = λ a. record { ok = took_nothing a a.sink.told refl; part = tt; empty = tt; cause = record { later = omega arith; failed = tt } };
  more = adds_more;
  cut = adds_cut;
}
