-- What a journal took, one after the other.
use Rattle.std.proofs.Common.{◌∙◌, List, [], ◌∷◌, ◌++◌, Result, Ok, Err, refl, sym, ap, subst, arith}
use Rattle.mv_base.specs.declared.outside.Failed.{Failed}
use Rattle.mv_base.specs.Outside.{Gained, GainedPart}
use Rattle.mv_base.proofs.Gains.{Gained-none, Gained-then, GainedPart-then}
use Rattle.mv_entry.specs.Entries.{Entry, print}
use Rattle.mv_entry.specs.Tallies.{Journaled, Takes, with_entries}
use Rattle.mv_pass.specs.Taking.{Took, TookPart, GoesOn}
use Rattle.mv_entry.proofs.Printing.{print-append, print-one, print-none, counts-append}

pub Took-none : {Are : List Entry → Type 0} (j : Journaled) → Are [] → Took Are j j
Took-none j are = record {
  entries = [];
  are = are;
  gained = subst (λ z. Gained j.written j.written z) (sym print-none) (Gained-none j.written);
  counted = refl;
}

-- one entry that a call took
pub Took-one : {Are : List Entry → Type 0} (j k : Journaled) (e : Entry) → Are (e ∷ []) → Takes j k e (Ok tt) → Took Are j k
Took-one j k e are t = record {
  entries = e ∷ [];
  are = are;
  gained = subst (λ z. Gained j.written k.written z) (sym (print-one e)) t.text.ok;
  counted = t.tally.taken;
}

pub TookPart-one : {Are : List Entry → Type 0} (j k : Journaled) (e : Entry) (f : Failed) → Are (e ∷ []) → Takes j k e (Err f) → TookPart Are j k
TookPart-one j k e f are t = record {
  entries = e ∷ [];
  are = are;
  gained = subst (λ z. GainedPart j.written k.written z) (sym (print-one e)) t.text.part;
}

module _ {Are Come Both : List Entry → Type 0} (join : (xs ys : List Entry) → Are xs → Come ys → Both (xs ++ ys)) where
  pub Took-then : (j k l : Journaled) → Took Are j k → Took Come k l → Took Both j l
  Took-then j k l p q = record {
    entries = p.entries ++ q.entries;
    are = join p.entries q.entries p.are q.are;
    gained =
        subst (λ z. Gained j.written l.written z) (sym (print-append p.entries q.entries))
        (Gained-then j.written k.written l.written (print p.entries) (print q.entries) p.gained q.gained);
    counted = q.counted ∙ (ap (λ t. with_entries t q.entries) p.counted ∙ sym (counts-append j.tally p.entries q.entries));
  }

  pub TookPart-then : (j k l : Journaled) → Took Are j k → TookPart Come k l → TookPart Both j l
  TookPart-then j k l p q = record {
    entries = p.entries ++ q.entries;
    are = join p.entries q.entries p.are q.are;
    gained =
        subst (λ z. GainedPart j.written l.written z) (sym (print-append p.entries q.entries))
        (GainedPart-then j.written k.written l.written (print p.entries) (print q.entries) p.gained q.gained);
  }

-- entries of one kind are of another
pub Took-as : {Are Also : List Entry → Type 0} (j k : Journaled) → ((es : List Entry) → Are es → Also es) → Took Are j k → Took Also j k
Took-as j k also p = record { entries = p.entries; are = also p.entries p.are; gained = p.gained; counted = p.counted }

pub TookPart-as : {Are Also : List Entry → Type 0} (j k : Journaled) → ((es : List Entry) → Are es → Also es) → TookPart Are j k → TookPart Also j k
TookPart-as j k also p = record { entries = p.entries; are = also p.entries p.are; gained = p.gained }

-- ---- a journal that goes on

pub GoesOn-none : (j : Journaled) → GoesOn j j
GoesOn-none j = record { later = omega arith; place = refl }

pub GoesOn-then : (j k l : Journaled) → GoesOn j k → GoesOn k l → GoesOn j l
GoesOn-then j k l p q = record { later = omega (arith, p.later, q.later); place = q.place ∙ p.place }

pub GoesOn-took : (j k : Journaled) (e : Entry) (result : Result (Unit {0}) Failed) → Takes j k e result → GoesOn j k
GoesOn-took j k e result t = record { later = t.text.cause.later; place = t.place }
