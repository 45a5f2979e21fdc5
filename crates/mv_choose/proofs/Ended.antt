-- Where all nets are visited each table is plainly deterministic at the end, but of nets of which it is noted why they stay.
use Rattle.std.proofs.Common.{◌≡◌, ◌∙◌, ◌⊎◌, ℕ, zero, suc, ◌<◌, ◌≤◌, List, [], ◌∷◌, ◌++◌, length, Option, Some, None, is_some, inl, inr, refl, sym, ap, subst, ⊎_elim, arith}
use Rattle.std.specs.List.{Contains}
use Rattle.std.proofs.lemmas.Bool.{cases_lt, false≢true}
use Rattle.std.proofs.lemmas.List.{get_or_past}
use Rattle.std.proofs.lemmas.List.Elements.{Contains-append_left, Contains-push}
use Rattle.std.proofs.lemmas.Option.{same_Some}
use Rattle.mv_choose.specs.Choices.{DeterminizesAll, Determinizing}
use Rattle.mv_choose.proofs.Taking.{given_plain}
use Rattle.mv_cover.specs.Plain.{IsPlainlyDeterministic}
use Rattle.mv_cover.specs.declared.cover.Cover.{Cover}
use Rattle.mv_entry.specs.Entries.{Entry, Noted}
use Rattle.mv_entry.specs.declared.note.Note.TheVariants.{Dropped}
use Rattle.mv_meaning.proofs.OneTable.{IsReformed-given, slot-there, table-here}
use Rattle.mv_net.specs.declared.parts.FlatNet.{FlatNet}
use Rattle.mv_net.specs.declared.parts.NetParts.{NetParts}
use Rattle.mv_net.specs.Formed.{WellFormed}
use Rattle.mv_net.specs.Nets.{name_in, slot, table_in}
use Rattle.mv_pass.specs.Courses.{Visits}
use Rattle.mv_visit.specs.Visits.{GivesWay, HasNone, HasNote, IsLet, StaysFor, Treats, note_of}
use Rattle.mv_visit.proofs.Visited.{lessened_formed, lessened_nets}

-- the net's table, if it has one, is plainly deterministic, or it is noted why it stays
abbrev IsSettled : NetParts → List Entry → ℕ → Type 0
IsSettled net entries n = (table : Cover) → table_in (slot net.nets n) ≡ Some table → IsPlainlyDeterministic table ⊎ HasNote net n entries

-- a visit of the net n leaves a well-formed network, each net's name, and each other net
record KeepsOthers (n : ℕ) (a b : NetParts) : Type 0 where
  formed : WellFormed b
  names : (m : ℕ) → name_in (slot b.nets m) ≡ name_in (slot a.nets m)
  others : (m : ℕ) → (m ≡ n → ⊥) → slot b.nets m ≡ slot a.nets m

stays : (n : ℕ) (a b : NetParts) → WellFormed a → b ≡ a → KeepsOthers n a b
stays n a b formed same = subst (KeepsOthers n a) (sym same) (record { formed = formed; names = λ m. refl; others = λ m ne. refl })

visit_keeps : (n : ℕ) (a b : NetParts) (es : List Entry) → WellFormed a → Treats Determinizing n a es b → KeepsOthers n a b
visit_keeps n a b es formed (HasNone none still) = stays n a b formed still.1
visit_keeps n a b es formed (IsLet table is lets still) = stays n a b formed still.1
visit_keeps n a b es formed (StaysFor why table is notes noted) = stays n a b formed noted.same
visit_keeps n a b es formed (GivesWay table less is gives lessens) =
    let nets = lessened_nets a b n table less es formed is lessens in
    record {
      formed = lessened_formed a b n table less es formed is lessens;
      names = λ m. ap (λ (fs : List (Option FlatNet)). name_in (slot fs m)) nets ∙ ((IsReformed-given a.nets n table less is).each m).name;
      others = λ m ne. ap (λ (fs : List (Option FlatNet)). slot fs m) nets ∙ slot-there a.nets n table less is m ne;
    }

-- what a visit makes of the net itself
visit_settles : (n : ℕ) (a b : NetParts) (es xs : List Entry) → WellFormed a → Treats Determinizing n a es b → IsSettled b (xs ++ es) n
visit_settles n a b es xs formed (HasNone none still) = λ table is.
    absurd (false≢true (sym none ∙ ap (λ t. is_some t) (ap (λ (q : NetParts). table_in (slot q.nets n)) (sym still.1) ∙ is)))
visit_settles n a b es xs formed (IsLet table is lets still) = λ t here.
    inl (subst IsPlainlyDeterministic (same_Some table t (sym is ∙ (ap (λ (q : NetParts). table_in (slot q.nets n)) (sym still.1) ∙ here))) lets)
visit_settles n a b es xs formed (StaysFor why table is notes noted) = λ t here.
    inr (record {
      why = why;
      noted =
          subst (λ zs. Contains (xs ++ zs) (note_of b n why)) (sym noted.entries_are)
          (subst (λ (q : NetParts). Contains (xs ++ note_of a n why ∷ []) (note_of q n why)) (sym noted.same) (Contains-push xs (note_of a n why)));
    })
visit_settles n a b es xs formed (GivesWay table less is gives lessens) = λ t here.
    let nets = lessened_nets a b n table less es formed is lessens in
    let now : table_in (slot b.nets n) ≡ Some less = ap (λ (fs : List (Option FlatNet)). table_in (slot fs n)) nets ∙ table-here a.nets n table less is in
    inl (subst IsPlainlyDeterministic (same_Some less t (sym now ∙ here)) (given_plain a n table formed is less gives))

-- so many visits have settled the first nets, and left the others
record AreSettled (n : ℕ) (a b : NetParts) (entries : List Entry) : Type 0 where
  formed : WellFormed b
  settled : (m : ℕ) → m < n → IsSettled b entries m
  others : (m : ℕ) → n ≤ m → slot b.nets m ≡ slot a.nets m

module _ (n : ℕ) (a mid b : NetParts) (xs ys : List Entry) (first : AreSettled n a mid xs) (visit : Treats Determinizing n mid ys b) where
  kept : KeepsOthers n mid b
  kept = visit_keeps n mid b ys first.formed visit

  -- a net that was settled stays so
  still_settled : (m : ℕ) → (m ≡ n → ⊥) → IsSettled mid xs m → IsSettled b (xs ++ ys) m
  still_settled m ne was table is =
      elim (was table (ap (λ f. table_in f) (sym (kept.others m ne)) ∙ is)) [
        | inl plain ↦ inl plain
        | inr note ↦
            inr (record {
              why = note.why;
              noted =
                  subst (λ e. Contains (xs ++ ys) e) (ap (λ w. Noted (Dropped note.why w)) (sym (kept.names m)))
                  (Contains-append_left xs ys (note_of mid m note.why) note.noted);
            })
      ]

  settles_more : AreSettled (suc n) a b (xs ++ ys)
  settles_more = record {
    formed = kept.formed;
    settled = λ m low.
        ⊎_elim
        (λ (less : m < n). still_settled m (λ e. omega (arith, e, less)) (first.settled m less))
        (λ (past : n ≤ m). let here : n ≡ m = omega (arith, past, low) in subst (IsSettled b (xs ++ ys)) here (visit_settles n mid b ys xs first.formed visit))
        (cases_lt m n);
    others = λ m low. kept.others m (λ e. omega (arith, e, low)) ∙ first.others m (omega (arith, low));
  }

visits_settle : (n : ℕ) (a b : NetParts) (es : List Entry) → WellFormed a → Visits (Treats Determinizing) n a es b → AreSettled n a b es
visits_settle zero a b es formed (none, same) =
    subst (λ (q : NetParts). AreSettled zero a q es) (sym same) (record { formed = formed; settled = λ m low. absurd (omega (arith, low)); others = λ m low. refl })
visits_settle (suc n) a b es formed turn =
    subst (AreSettled (suc n) a b) (sym turn.entries_are) (settles_more n a turn.mid b turn.front turn.rest (visits_settle n a turn.mid turn.front formed turn.first) turn.second)

pub all_settled : (a b : NetParts) (es : List Entry) → WellFormed a → DeterminizesAll a es b → (n : ℕ) (table : Cover) → table_in (slot b.nets n) ≡ Some table → IsPlainlyDeterministic table ⊎ HasNote b n es
all_settled a b es formed all n table is =
    let settled = visits_settle (length a.nets) a b es formed all in
    ⊎_elim
    (λ (low : n < length a.nets). settled.settled n low table is)
    (λ (past : length a.nets ≤ n).
    let none : None ≡ Some table = ap (λ f. table_in f) (sym (settled.others n past ∙ get_or_past a.nets n None past)) ∙ is in absurd cc)
    (cases_lt n (length a.nets))
