-- Where all nets are visited, each net that isn't seen and has a table has at most two values at the end, but nets of which it is noted
-- why they stay.
use Rattle.std.proofs.Common.{◌≡◌, ◌∙◌, ◌⊎◌, ℕ, zero, suc, ◌+◌, ◌<◌, ◌≤◌, true, ◌||◌, List, [], ◌∷◌, ◌++◌, length, Some, None, is_some, inl, inr, refl, sym, ap, subst, ⊎_elim, arith}
use Rattle.std.specs.List.{Contains}
use Rattle.std.proofs.lemmas.Bool.{cases_lt}
use Rattle.std.proofs.lemmas.List.{get_or_past}
use Rattle.std.proofs.lemmas.List.Elements.{Contains-append_left, Contains-push}
use Rattle.mv_coding.specs.Nets.{IsEncodable, net_coded}
use Rattle.mv_coding.proofs.Behind.{behind_alike, behind_tabled, encoded_low}
use Rattle.mv_cover.specs.declared.cover.Cover.{Cover}
use Rattle.mv_entry.specs.declared.note.Note.TheVariants.{Dropped}
use Rattle.mv_entry.specs.declared.rule.Code.{Code}
use Rattle.mv_entry.specs.Entries.{Entry, Noted}
use Rattle.mv_graph.specs.Nets.{has_id}
use Rattle.mv_meaning.specs.Rewriting.{IsAlike}
use Rattle.mv_net.specs.declared.parts.NetParts.{NetParts}
use Rattle.mv_net.specs.Changes.{with_nets}
use Rattle.mv_net.specs.Formed.{WellFormed}
use Rattle.mv_net.specs.Index.{is_latch_input, is_reset, is_seen, kind_in}
use Rattle.mv_net.specs.Nets.{slot, name_in, table_in, values_in}
use Rattle.mv_pass.specs.Courses.{Visits}
use Rattle.mv_plans.specs.Encoding.{Encodes}
use Rattle.mv_plans.proofs.Encoded.{are_fresh, encoded_few, encoded_formed}
use Rattle.mv_plans.proofs.Named.{one_tabled}
use Rattle.mv_visit.specs.Visits.{HasNote, note_of}
use Rattle.mv_visit.proofs.Tabled.{has_cover, its_table}
use Rattle.mv_encode.specs.Encodes.{Early, Encoded, EncodesAll, EncodesNet, IsCutShort, IsToEncode, LetBe, Stays, Whole, codes_of}

-- ---- the nets behind an encoding

-- the numbers of values that nets have: none more than before, but two
abbrev FewValues : NetParts → NetParts → ℕ → Type 0
FewValues a b m = (values_in (slot b.nets m) ≤ values_in (slot a.nets m)) ⊎ (values_in (slot b.nets m) ≤ 2)

-- the net would be encoded in the one network where it would be in the other, and has the same name
record IsStill (a b : NetParts) (m : ℕ) : Type 0 where
  was : IsToEncode a m
  name : name_in (slot b.nets m) ≡ name_in (slot a.nets m)

-- a visit of the net n leaves a well-formed network, no more values, and each other net as it is
record KeepsOthers (n : ℕ) (a b : NetParts) : Type 0 where
  formed : WellFormed b
  few : (m : ℕ) → FewValues a b m
  others : (m : ℕ) → (m ≡ n → ⊥) → IsToEncode b m → IsStill a b m

stays : (n : ℕ) (a b : NetParts) → WellFormed a → b ≡ a → KeepsOthers n a b
stays n a b formed same =
    subst (KeepsOthers n a) (sym same) (record { formed = formed; few = λ m. inl (omega arith); others = λ m ne to. record { was = to; name = refl } })

-- no net past the last has values
past_none : (a : NetParts) (m : ℕ) → length a.nets ≤ m → values_in (slot a.nets m) ≡ 0
past_none a m past = ap values_in (get_or_past a.nets m None past)

module _ (a b : NetParts) (n : ℕ) (names : List (List ℕ)) (codes : List Code) (formed : WellFormed a) (to : IsToEncode a n) (r : Encodes a (name_in (slot a.nets n)) names codes b) where
  number : r.number ≡ n
  number = one_tabled a (name_in (slot a.nets n)) r.number n formed r.net (its_table a.nets n to.tabled)

  able : IsEncodable a r.number names codes
  able = record { plain = r.can.plain; form = r.can.form; fresh = are_fresh a.nets names r.can.fresh; room = r.room.room }

  alike : (m : ℕ) → (m ≡ n → ⊥) → m < length a.nets → IsAlike (slot a.nets m) (slot b.nets m)
  alike m ne low =
      subst (λ (q : NetParts). IsAlike (slot a.nets m) (slot q.nets m)) (sym r.new_is) (behind_alike a r.number names codes formed able m (λ e. ne (e ∙ number)) low)

  seen_same : (m : ℕ) → kind_in (slot b.nets m) ≡ kind_in (slot a.nets m) → is_seen b m ≡ is_seen a m
  unfolding is_seen net_coded with_nets
  seen_same m kind =
      let outputs : b.outputs ≡ a.outputs = ap (λ (q : NetParts). q.outputs) r.new_is in
      let latches : b.latches ≡ a.latches = ap (λ (q : NetParts). q.latches) r.new_is in
      λ i. has_id (outputs i) m || is_latch_input (latches i) m || is_reset (kind i)

  few_values : (m : ℕ) → FewValues a b m
  few_values m = encoded_few a (name_in (slot a.nets n)) names codes b r m

  still : (m : ℕ) → (m ≡ n → ⊥) → IsToEncode b m → IsStill a b m
  still m ne now =
      ⊎_elim
      (λ (low : m < length a.nets).
      let like = alike m ne low in
      record {
        was = record { unseen = sym (seen_same m like.kind) ∙ now.unseen; tabled = sym like.tabled ∙ now.tabled; several = subst (λ v. 2 < v) like.values now.several };
        name = like.name;
      })
      (λ (past : length a.nets ≤ m).
      absurd
      (⊎_elim
      (λ (less : values_in (slot b.nets m) ≤ values_in (slot a.nets m)). let none = past_none a m past in let several = now.several in omega (arith, less, none, several))
      (λ (two : values_in (slot b.nets m) ≤ 2). let several = now.several in omega (arith, two, several))
      (few_values m)))
      (cases_lt m (length a.nets))

  -- the net itself is gone
  gone : is_some (table_in (slot b.nets n)) ≡ true → ⊥
  gone tabled =
      let c = has_cover b.nets n tabled in
      let is : table_in (slot (net_coded a r.number names codes).nets n) ≡ Some c.cover = ap (λ (q : NetParts). table_in (slot q.nets n)) (sym r.new_is) ∙ c.is in
      ⊎_elim
      (λ (other : (n ≡ r.number → ⊥) × (d : Cover) × (table_in (slot a.nets n) ≡ Some d)). other.0 (sym number))
      (λ (bit : (length a.nets ≤ n) × (n < length a.nets + length names)).
      let low = encoded_low a r.number names codes formed able in
      let past = bit.0 in
      omega (arith, low, past, number))
      (behind_tabled a r.number names codes formed able n c.cover is)

  keeps : KeepsOthers n a b
  keeps = record { formed = encoded_formed a (name_in (slot a.nets n)) names codes b formed r; few = few_values; others = still }

-- ---- a visit

visit_keeps : (n : ℕ) (a b : NetParts) (es : List Entry) → WellFormed a → EncodesNet n a es b → KeepsOthers n a b
visit_keeps n a b es formed (LetBe not idle) = stays n a b formed idle.1
visit_keeps n a b es formed (Stays why to reason noted) = stays n a b formed noted.same
visit_keeps n a b es formed (Encoded names to are applies is) = keeps a b n names (codes_of (length names) (values_in (slot a.nets n))) formed to applies

-- the net itself is gone, or it is noted why it stays
visit_settles : (n : ℕ) (a b : NetParts) (es xs : List Entry) → WellFormed a → EncodesNet n a es b → IsToEncode b n → HasNote b n (xs ++ es)
visit_settles n a b es xs formed (LetBe not idle) now = absurd (not (subst (λ (q : NetParts). IsToEncode q n) idle.1 now))
visit_settles n a b es xs formed (Stays why to reason noted) now = record {
  why = why;
  noted =
      subst (λ zs. Contains (xs ++ zs) (note_of b n why)) (sym noted.entries_are)
      (subst (λ (q : NetParts). Contains (xs ++ note_of a n why ∷ []) (note_of q n why)) (sym noted.same) (Contains-push xs (note_of a n why)));
}
visit_settles n a b es xs formed (Encoded names to are applies is) now =
    absurd (gone a b n names (codes_of (length names) (values_in (slot a.nets n))) formed to applies now.tabled)

-- ---- all visits

-- so many visits have settled the first nets, and given no net more values
record AreSettled (n : ℕ) (a b : NetParts) (entries : List Entry) : Type 0 where
  formed : WellFormed b
  settled : (m : ℕ) → m < n → IsToEncode b m → HasNote b m entries
  few : (m : ℕ) → FewValues a b m

few_then : (a mid b : NetParts) (m : ℕ) → FewValues a mid m → FewValues mid b m → FewValues a b m
few_then a mid b m (inl first) (inl second) = inl (omega (arith, first, second))
few_then a mid b m (inr two) (inl second) = inr (omega (arith, two, second))
few_then a mid b m first (inr two) = inr two

module _ (n : ℕ) (a mid b : NetParts) (xs ys : List Entry) (first : AreSettled n a mid xs) (visit : EncodesNet n mid ys b) where
  kept : KeepsOthers n mid b
  kept = visit_keeps n mid b ys first.formed visit

  -- a net of which it was noted why it stays
  noted_still : (m : ℕ) → m < n → IsToEncode b m → HasNote b m (xs ++ ys)
  noted_still m low now =
      let same = kept.others m (λ e. omega (arith, e, low)) now in
      let was = first.settled m low same.was in
      record {
        why = was.why;
        noted =
            subst (λ e. Contains (xs ++ ys) e) (ap (λ w. Noted (Dropped was.why w)) (sym same.name)) (Contains-append_left xs ys (note_of mid m was.why) was.noted);
      }

  settles_more : AreSettled (suc n) a b (xs ++ ys)
  settles_more = record {
    formed = kept.formed;
    settled = λ m low now.
        ⊎_elim
        (λ (less : m < n). noted_still m less now)
        (λ (past : n ≤ m).
        let here : n ≡ m = omega (arith, past, low) in
        subst (λ k. HasNote b k (xs ++ ys)) here (visit_settles n mid b ys xs first.formed visit (subst (IsToEncode b) (sym here) now)))
        (cases_lt m n);
    few = λ m. few_then a mid b m (first.few m) (kept.few m);
  }

visits_settle : (n : ℕ) (a b : NetParts) (es : List Entry) → WellFormed a → Visits EncodesNet n a es b → AreSettled n a b es
visits_settle zero a b es formed (none, same) =
    subst (λ (q : NetParts). AreSettled zero a q es) (sym same) (record { formed = formed; settled = λ m low. absurd (omega (arith, low)); few = λ m. inl (omega arith) })
visits_settle (suc n) a b es formed turn =
    subst (AreSettled (suc n) a b) (sym turn.entries_are) (settles_more n a turn.mid b turn.front turn.rest (visits_settle n a turn.mid turn.front formed turn.first) turn.second)

-- a net that came has two values at most
not_come : (a b : NetParts) (m : ℕ) → length a.nets ≤ m → FewValues a b m → IsToEncode b m → ⊥
not_come a b m past (inl less) now = let none = past_none a m past in let several = now.several in omega (arith, less, none, several)
not_come a b m past (inr two) now = let several = now.several in omega (arith, two, several)

pub all_settled : (a b : NetParts) (es : List Entry) → WellFormed a → EncodesAll a es b → (n : ℕ) → IsToEncode b n → HasNote b n es ⊎ IsCutShort es
all_settled a b es formed (Early early) n now =
    let out = early.course.second in
    inr (record { front = early.course.front; name = out.name; ends = early.course.entries_are ∙ ap (λ z. early.course.front ++ z) out.entries_are })
all_settled a b es formed (Whole visits) n now =
    let settled = visits_settle (length a.nets) a b es formed visits in
    ⊎_elim
    (λ (low : n < length a.nets). inl (settled.settled n low now))
    (λ (past : length a.nets ≤ n). absurd (not_come a b n past (settled.few n) now))
    (cases_lt n (length a.nets))
