-- Which nets have a table above them that isn't plainly deterministic: by their fanins, one net after the other.
use Rattle.std.proofs.Common.{◌≡◌, ◌∙◌, ℕ, ◌+◌, ◌<◌, ◌≤◌, Bool, true, false, nat_eq, List, [], ◌∷◌, length, take, set, get_or, All, Option, Some, None, is_some, refl, sym, ap, subst, ⊎_elim, eqb-true, arith}
use Rattle.std.specs.Prelude.{slice_get, MatchBool}
use Rattle.std.proofs.lemmas.Bool.{cases_eq, false≢true, or_cases}
use Rattle.std.proofs.lemmas.List.{get_or-set_same, get_or-set_other, length-set, take_all}
use Rattle.std.proofs.lemmas.Option.{slice_get-get_or}
use Rattle.mv_base.specs.declared.number.NetId.{NetId}
use Rattle.mv_cover.specs.declared.cover.Cover.{Cover}
use Rattle.mv_graph.specs.Above.{GoesOn, IsAbove}
use Rattle.mv_graph.specs.Marks.{is_marked}
use Rattle.mv_graph.specs.Nets.{has_id, IsAscending}
use Rattle.mv_graph.proofs.Nets.{has_id-at, has_id-more}
use Rattle.mv_graph.proofs.Paths.{above_first}
use Rattle.mv_net.specs.declared.parts.FlatNet.{FlatNet}
use Rattle.mv_net.specs.declared.parts.NetParts.{NetParts}
use Rattle.mv_net.specs.Formed.{WellFormed}
use Rattle.mv_net.specs.Index.{is_held}
use Rattle.mv_net.specs.Nets.{slot, table_in, net_reads, reads_in}
use Rattle.mv_net.specs.Order.{IsOrder}
use Rattle.mv_net.specs.Plain.{IsPlainNet}
use Rattle.mv_net.proofs.Known.{reads_readable, is_held_below}
use Rattle.mv_plans.specs.Filling.{ArePlainAbove}
use Rattle.mv_fill.specs.Filling.{AreMarked, HasMarks, IsPlainTable, IsPlainTo, IsVariedMark}

-- ---- the table of one net

-- a net without a table
pub bare_plain : (nets : List (Option FlatNet)) (n : ℕ) → None ≡ table_in (slot nets n) → IsPlainTable nets n
bare_plain nets n none tabled = absurd (false≢true (ap (λ (t : Option Cover). is_some t) none ∙ tabled))

-- and one with a table
pub tabled_plain : (nets : List (Option FlatNet)) (n : ℕ) (c : Cover) (b : Bool) → Some c ≡ table_in (slot nets n) → MatchBool b (IsPlainNet nets n) (IsPlainNet nets n → ⊥)
    → MatchBool b (IsPlainTable nets n) (IsPlainTable nets n → ⊥)
tabled_plain nets n c true some plain = λ tabled. plain
tabled_plain nets n c false some varied = λ plain. varied (plain (sym (ap (λ (t : Option Cover). is_some t) some)))

-- a net that is marked has a varied table above it
pub marked_varied : (nets : List (Option FlatNet)) (n : ℕ) (mark : Bool) → mark ≡ true → IsVariedMark nets n mark → IsPlainTo nets n → ⊥
marked_varied nets n true e varied p = varied p.above
marked_varied nets n false e plain p = false≢true e

-- and one that isn't has none
pub unmarked_plain : (nets : List (Option FlatNet)) (n : ℕ) (mark : Bool) → mark ≡ false → IsVariedMark nets n mark → ArePlainAbove nets n
unmarked_plain nets n true e varied = absurd (false≢true (sym e))
unmarked_plain nets n false e plain = plain

pub marked_above : (nets : List (Option FlatNet)) (n : ℕ) (mark : Bool) → mark ≡ true → IsVariedMark nets n mark → ArePlainAbove nets n → ⊥
marked_above nets n true e varied = varied
marked_above nets n false e plain = absurd (false≢true e)

-- where the tables above it are plainly deterministic, its own decides
pub plain_to : (nets : List (Option FlatNet)) (n : ℕ) (b : Bool) → ArePlainAbove nets n → MatchBool b (IsPlainTable nets n) (IsPlainTable nets n → ⊥)
    → MatchBool b (IsPlainTo nets n) (IsPlainTo nets n → ⊥)
plain_to nets n true above plain = record { here = plain; above = above }
plain_to nets n false above varied = λ p. varied p.here

-- ---- the fanins of one

module _ (nets : List (Option FlatNet)) (n : ℕ) where
  -- a net with a varied fanin, or one below a varied table
  pub varied_by : (m : ℕ) → reads_in nets n m ≡ true → (IsPlainTo nets m → ⊥) → ArePlainAbove nets n → ⊥
  varied_by m reads varied plain = varied (record {
    here = plain.each m (record { path = []; goes = reads });
    above = record { each = λ k above tabled. plain.each k (above_first (reads_in nets) n m k reads above) tabled };
  })

  -- a net with none
  pub plain_by : ((m : ℕ) → reads_in nets n m ≡ true → IsPlainTo nets m) → ArePlainAbove nets n
  plain_by each = record { each = λ k above tabled. by k above.path above.goes tabled }
    where
      by : (k : ℕ) (path : List ℕ) → GoesOn (reads_in nets) k n path → is_some (table_in (slot nets k)) ≡ true → IsPlainNet nets k
      by k [] goes tabled = (each k goes).here tabled
      by k (m ∷ path) goes tabled = (each m goes.0).above.each k (record { path = path; goes = goes.1 }) tabled

-- a fanin is read
pub fanin_read : (nets : List (Option FlatNet)) (n : ℕ) (list : List NetId) (i : ℕ) (d : NetId) → IsAscending (λ m. net_reads (slot nets n) m) list → i < length list → reads_in nets n (get_or list i d).0 ≡ true
fanin_read nets n list i d is low = sym (is.members (get_or list i d).0) ∙ has_id-at list i d low

-- each of these nets has a plain table and none but such above it
pub record ArePlainTo (nets : List (Option FlatNet)) (list : List NetId) : Type 0 where
  pub each : (m : ℕ) → has_id list m ≡ true → IsPlainTo nets m

pub plain_none : (nets : List (Option FlatNet)) → ArePlainTo nets []
plain_none nets = record { each = λ m h. absurd (false≢true h) }

-- where all fanins are such, no table above is varied
pub all_plain : (nets : List (Option FlatNet)) (n : ℕ) (list : List NetId) (i : ℕ) → IsAscending (λ m. net_reads (slot nets n) m) list → length list ≤ i → ArePlainTo nets (take i list) → ArePlainAbove nets n
all_plain nets n list i is past plain =
    plain_by nets n (λ m reads. plain.each m (ap (λ l. has_id l m) (take_all i list past) ∙ (is.members m ∙ reads)))

-- one fanin more
pub plain_more : (nets : List (Option FlatNet)) (list : List NetId) (i : ℕ) (d : NetId) → i < length list → ArePlainTo nets (take i list) → IsPlainTo nets (get_or list i d).0 → ArePlainTo nets (take (i + 1) list)
plain_more nets list i d low plain here = record {
  each = λ m h.
      ⊎_elim
      (λ (before : has_id (take i list) m ≡ true). plain.each m before)
      (λ (y : nat_eq (get_or list i d).0 m ≡ true). subst (IsPlainTo nets) (eqb-true (get_or list i d).0 m y) here)
      (or_cases (has_id (take i list) m) (nat_eq (get_or list i d).0 m) (sym (has_id-more list i (get_or list i d) d m low refl) ∙ h));
}

-- what is read is held
pub read_held : (net : NetParts) (n m : ℕ) → WellFormed net → reads_in net.nets n m ≡ true → is_held net.nets m ≡ true
read_held net n m formed reads = ap (λ f. is_some f) (reads_readable net n m formed reads).held

-- ---- all nets, each behind its fanins

pub none_marked : (nets : List (Option FlatNet)) (marks : List Bool) → length marks ≡ length nets → AreMarked nets [] marks
none_marked nets marks long = record { long = long; each = λ n h. absurd (false≢true h) }

module _ (nets : List (Option FlatNet)) (order : List NetId) (is : IsOrder nets order) (i : ℕ) (d : NetId) (low : i < length order) where
  pub next_held : is_held nets (get_or order i d).0 ≡ true
  next_held = sym (is.members (get_or order i d).0) ∙ has_id-at order i d low

  -- its fanins were marked
  pub fanins_marked : (marks : List Bool) → AreMarked nets (take i order) marks → (m : ℕ) → net_reads (slot nets (get_or order i d).0) m ≡ true → IsVariedMark nets m (is_marked marks m)
  fanins_marked marks marked m reads = marked.each m (is.behind i (get_or order i d) m (slice_get-get_or order i d low) reads)

  -- and it is marked
  pub marked_more : (marks new : List Bool) (varied : Bool) → AreMarked nets (take i order) marks → new ≡ set marks (get_or order i d).0 varied → IsVariedMark nets (get_or order i d).0 varied
      → AreMarked nets (take (i + 1) order) new
  marked_more marks new varied marked new_is here =
      let n = get_or order i d in
      record {
        long = ap length new_is ∙ (length-set marks n.0 varied ∙ marked.long);
        each = λ m h.
            ⊎_elim
            (λ (e : m ≡ n.0). subst (λ k. IsVariedMark nets k (is_marked new k)) (sym e) (subst (IsVariedMark nets n.0) (sym written) here))
            (λ (ne : m ≡ n.0 → ⊥).
            ⊎_elim
            (λ (before : has_id (take i order) m ≡ true). subst (IsVariedMark nets m) (sym (ap (λ l. is_marked l m) new_is ∙ get_or-set_other marks n.0 m varied false ne)) (marked.each m before))
            (λ (y : nat_eq n.0 m ≡ true). absurd (ne (sym (eqb-true n.0 m y))))
            (or_cases (has_id (take i order) m) (nat_eq n.0 m) (sym (has_id-more order i n d m low refl) ∙ h)))
            (cases_eq m n.0);
      }
    where
      written : is_marked new (get_or order i d).0 ≡ varied
      written =
          let inside : (get_or order i d).0 < length nets = is_held_below nets (get_or order i d).0 next_held in
          let long = marked.long in
          ap (λ l. is_marked l (get_or order i d).0) new_is ∙ get_or-set_same marks (get_or order i d).0 varied false (omega (arith, inside, long))

-- all are marked then
pub has_marks : (nets : List (Option FlatNet)) (order : List NetId) (i : ℕ) (marks : List Bool) → IsOrder nets order → length order ≤ i → AreMarked nets (take i order) marks → HasMarks nets marks
has_marks nets order i marks is past marked =
    record { each = λ n held. marked.each n (ap (λ l. has_id l n) (take_all i order past) ∙ (is.members n ∙ held)) }
