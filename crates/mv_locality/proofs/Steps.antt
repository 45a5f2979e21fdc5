-- Steps by which a net goes, or goes into its readers: nothing changes but near the net, and something is used up.
use Rattle.std.proofs.Common.{◌≡◌, ◌∙◌, ◌⊎◌, ℕ, zero, suc, ◌+◌, ◌<◌, ◌≤◌, Bool, true, false, cond, nat_eq, eq-eqb, List, [], ◌∷◌, length, map, set, All}
use Rattle.std.proofs.Common.{Option, Some, None, is_some, inl, inr, refl, sym, ap, subst, ⊎_elim, arith}
use Rattle.std.specs.List.{list_any}
use Rattle.std.proofs.lemmas.Bool.{cases_Bool, cases_eq, false≢true, false_from_ne_true, or_cases, or_left, or_right}
use Rattle.std.proofs.lemmas.List.{length-map, length-set}
use Rattle.std.proofs.lemmas.List.Elements.{All-nil, All-cons}
use Rattle.mv_agenda.specs.Near.{IsNear, Itself, Fanin, Reader, Beside}
use Rattle.mv_composite.specs.declared.inner.Inner.{Inner}
use Rattle.mv_composite.specs.Composite.{composed}
use Rattle.mv_composite.specs.Wired.{wired}
use Rattle.mv_composite.proofs.Wires.{wired_reads}
use Rattle.mv_cover.specs.declared.cover.Cover.{Cover}
use Rattle.mv_cover.specs.declared.line.Line.{Line}
use Rattle.mv_cover.specs.Cubes.{IsCube}
use Rattle.mv_cover.specs.Covers.{cover_reads}
use Rattle.mv_locality.specs.Local.{StaysAround}
use Rattle.mv_meaning.specs.Rewriting.{rewritten, IsAlike, IsReader}
use Rattle.mv_meaning.proofs.Reformed.{IsAlike-refl}
use Rattle.mv_meaning.proofs.Rewired.{slot-unread, table-reader, reader_at, itself_unread, IsReformed-rewritten, cover_at}
use Rattle.mv_meaning.proofs.Wiring.{buffer_reads}
use Rattle.mv_net.specs.declared.parts.FlatNet.{FlatNet}
use Rattle.mv_net.specs.declared.parts.NetParts.{NetParts}
use Rattle.mv_net.specs.Changes.{with_nets}
use Rattle.mv_net.specs.Formed.{AllCubes, WellFormed}
use Rattle.mv_net.specs.Index.{is_held}
use Rattle.mv_net.specs.Nets.{slot, values_in, name_in, table_in, table_reads, net_reads, reads_in}
use Rattle.mv_net.proofs.Named.{held_below}
use Rattle.mv_net.proofs.Patches.{IsWritten-gone}
use Rattle.mv_plans.specs.Checks.{IsTabled}
use Rattle.mv_plans.specs.Collapsing.{IsInnerOf, Collapses}
use Rattle.mv_plans.specs.Removing.{Removes}
use Rattle.mv_plans.specs.Wiring.{Wires}
use Rattle.mv_locality.proofs.StepsReading.{composed_on}

-- ---- a net goes into its readers

-- each net is gone or differs in its table alone, the net n is gone or as it was, as are the others that don't read it, and
-- what its readers read now they read before, or n did
pub record GoesInto (old new : List (Option FlatNet)) (n : ℕ) : Type 0 where
  pub long : length new ≡ length old
  pub kept : (k : ℕ) → (slot new k ≡ None) ⊎ IsAlike (slot old k) (slot new k)
  pub itself : (slot new n ≡ slot old n) ⊎ (slot new n ≡ None)
  pub others : (k : ℕ) → (k ≡ n → ⊥) → reads_in old k n ≡ false → slot new k ≡ slot old k
  pub reads : (k m : ℕ) → reads_in old k n ≡ true → reads_in new k m ≡ true → (reads_in old k m ≡ true) ⊎ (reads_in old n m ≡ true)

-- a net that is gone reads nothing
reads_none : (nets : List (Option FlatNet)) (k m : ℕ) → slot nets k ≡ None → reads_in nets k m ≡ false
reads_none nets k m e = ap (λ f. net_reads f m) e

-- nets that nobody changes
goes_nowhere : (nets : List (Option FlatNet)) (n : ℕ) → GoesInto nets nets n
goes_nowhere nets n = record {
  long = refl;
  kept = λ k. inr (IsAlike-refl (slot nets k));
  itself = inl refl;
  others = λ k ne unread. refl;
  reads = λ k m reader h. inl h;
}

-- the readers have new tables, which read what they did, or what n does
goes_rewritten : (net : NetParts) (n : ℕ) (new : Cover → Cover) → WellFormed net
    → ((m k : ℕ) (c : Cover) → IsReader net.nets n m c → cover_reads (new c) k ≡ true → (cover_reads c k ≡ true) ⊎ (reads_in net.nets n k ≡ true))
    → GoesInto net.nets (rewritten new n net.nets) n
unfolding rewritten
goes_rewritten net n new formed reads = record {
  long = length-map net.nets _;
  kept = λ k. inr ((IsReformed-rewritten new n net.nets).each k);
  itself = inl (slot-unread new n net.nets n (itself_unread net n formed));
  others = λ k ne unread. slot-unread new n net.nets k unread;
  reads = λ k m reader h.
      let r = reader_at net.nets n k reader in
      let now : cover_reads (new r.0) m ≡ true = sym (ap (λ t. table_reads t m) (table-reader new n net.nets k r.0 r.1)) ∙ h in
      ⊎_elim
      (λ (own : cover_reads r.0 m ≡ true). inl (ap (λ t. table_reads t m) r.1.table ∙ own))
      (λ (its : reads_in net.nets n m ≡ true). inr its)
      (reads k m r.0 r.1 now);
}

-- and the net itself is gone
goes_besides : (old mid : List (Option FlatNet)) (n : ℕ) → GoesInto old mid n → GoesInto old (set mid n None) n
goes_besides old mid n goes =
    let gone = IsWritten-gone mid n in record {
      long = length-set mid n None ∙ goes.long;
      kept = λ k.
          ⊎_elim
          (λ (e : k ≡ n). inl (ap (slot (set mid n None)) e ∙ gone.here))
          (λ (ne : k ≡ n → ⊥).
          ⊎_elim
          (λ (none : slot mid k ≡ None). inl (gone.others k ne ∙ none))
          (λ (like : IsAlike (slot old k) (slot mid k)). inr (subst (IsAlike (slot old k)) (sym (gone.others k ne)) like))
          (goes.kept k))
          (cases_eq k n);
      itself = inr gone.here;
      others = λ k ne unread. gone.others k ne ∙ goes.others k ne unread;
      reads = λ k m reader h.
          ⊎_elim
          (λ (e : k ≡ n). absurd (false≢true (sym (reads_none (set mid n None) k m (ap (slot (set mid n None)) e ∙ gone.here)) ∙ h)))
          (λ (ne : k ≡ n → ⊥). goes.reads k m reader (ap (λ f. net_reads f m) (sym (gone.others k ne)) ∙ h))
          (cases_eq k n);
    }

-- ---- what stays

module _ (old new : List (Option FlatNet)) (n : ℕ) (goes : GoesInto old new n) where
  held_alike : (f g : Option FlatNet) → IsAlike f g → is_some g ≡ true → is_some f ≡ true
  held_alike None None like h = h
  held_alike None (Some g) like h = let bad = like.kind in cc
  held_alike (Some f) g like h = refl

  -- a net that is held was held, and is like it was
  pub held_before : (k : ℕ) → is_held new k ≡ true → is_held old k ≡ true
  held_before k held =
      ⊎_elim
      (λ (none : slot new k ≡ None). absurd (false≢true (sym (ap is_some none) ∙ held)))
      (λ (like : IsAlike (slot old k) (slot new k)). held_alike (slot old k) (slot new k) like held)
      (goes.kept k)

  values_before : (k : ℕ) → is_held new k ≡ true → values_in (slot new k) ≡ values_in (slot old k)
  values_before k held =
      ⊎_elim
      (λ (none : slot new k ≡ None). absurd (false≢true (sym (ap is_some none) ∙ held)))
      (λ (like : IsAlike (slot old k) (slot new k)). like.values)
      (goes.kept k)

  -- what n reads now it read before
  itself_before : (m : ℕ) → reads_in new n m ≡ true → reads_in old n m ≡ true
  itself_before m h =
      ⊎_elim
      (λ (same : slot new n ≡ slot old n). ap (λ f. net_reads f m) (sym same) ∙ h)
      (λ (none : slot new n ≡ None). absurd (false≢true (sym (reads_none new n m none) ∙ h)))
      goes.itself

  -- a net that isn't near n isn't read by n or a reader of n, neither before nor now
  far_unread : (k m : ℕ) → (IsNear old n m → ⊥) → (k ≡ n) ⊎ (reads_in old k n ≡ true) → (reads_in old k m ≡ false) × (reads_in new k m ≡ false)
  far_unread k m far (inl e) =
      let P : ℕ → Type 0 = λ j. (reads_in old j m ≡ false) × (reads_in new j m ≡ false) in
      subst P (sym e) (false_from_ne_true _ (λ r. far (Fanin r)), false_from_ne_true _ (λ r. far (Fanin (itself_before m r))))
  far_unread k m far (inr reader) = (
    false_from_ne_true _ (λ r. far (Beside k reader r)),
    false_from_ne_true _
        (λ r.
        ⊎_elim
        (λ (own : reads_in old k m ≡ true). far (Beside k reader own))
        (λ (its : reads_in old n m ≡ true). far (Fanin its))
        (goes.reads k m reader r)),
  )

  readers_still : (m : ℕ) → (IsNear old n m → ⊥) → (k : ℕ) → (slot new k ≡ slot old k) ⊎ ((reads_in old k m ≡ false) × (reads_in new k m ≡ false))
  readers_still m far k =
      ⊎_elim
      (λ (e : k ≡ n). inr (far_unread k m far (inl e)))
      (λ (ne : k ≡ n → ⊥).
      ⊎_elim
      (λ (reader : reads_in old k n ≡ true). inr (far_unread k m far (inr reader)))
      (λ (unread : reads_in old k n ≡ false). inl (goes.others k ne unread))
      (cases_Bool (reads_in old k n)))
      (cases_eq k n)

  pub stays_around : StaysAround old new n
  stays_around = record {
    values = record { values = values_before };
    still = λ m far. record {
      same = goes.others m (λ e. far (Itself e)) (false_from_ne_true _ (λ r. far (Reader r)));
      readers = readers_still m far;
    };
  }

  -- ---- what is used up

  -- what is read now was read before
  read_before : (k m : ℕ) → reads_in new k m ≡ true → (r : ℕ) × (reads_in old r m ≡ true)
  read_before k m h =
      ⊎_elim
      (λ (e : k ≡ n). (n, itself_before m (ap (λ j. reads_in new j m) (sym e) ∙ h)))
      (λ (ne : k ≡ n → ⊥).
      ⊎_elim
      (λ (reader : reads_in old k n ≡ true).
      ⊎_elim
      (λ (own : reads_in old k m ≡ true). (k, own))
      (λ (its : reads_in old n m ≡ true). (n, its))
      (goes.reads k m reader h))
      (λ (unread : reads_in old k n ≡ false). (k, ap (λ f. net_reads f m) (sym (goes.others k ne unread)) ∙ h))
      (cases_Bool (reads_in old k n)))
      (cases_eq k n)

-- ---- how much there is to use up

-- 1 where the test passes
abbrev pub bit : Bool → ℕ
bit b = cond b 1 0

-- how many of the numbers below k pass the test
abbrev pub count_below : (ℕ → Bool) → ℕ → ℕ
count_below p zero = 0
count_below p (suc k) = bit (p k) + count_below p k

-- some of the nets reads m
abbrev pub some_reads : List (Option FlatNet) → ℕ → Bool
some_reads nets m = list_any (λ f. net_reads f m) nets

-- how many nets are held, and how many are read
unfoldable pub steps_left : List (Option FlatNet) → ℕ
steps_left nets = count_below (is_held nets) (length nets) + count_below (some_reads nets) (length nets)

one_le : (a b : Bool) → (a ≡ true → b ≡ true) → bit a ≤ bit b
one_le true true h = omega arith
one_le true false h = absurd (false≢true (h refl))
one_le false b h = omega arith

-- what passes now passed before
count_le : (p q : ℕ → Bool) (k : ℕ) → ((m : ℕ) → p m ≡ true → q m ≡ true) → count_below p k ≤ count_below q k
count_le p q zero within = omega arith
count_le p q (suc k) within = omega (arith, one_le (p k) (q k) (within k), count_le p q k within)

-- and one does no more
count_less : (p q : ℕ → Bool) (k m : ℕ) → ((j : ℕ) → p j ≡ true → q j ≡ true) → m < k → q m ≡ true → p m ≡ false → count_below p k < count_below q k
count_less p q zero m within low was now = absurd (omega arith)
count_less p q (suc k) m within low was now =
    ⊎_elim
    (λ (e : m ≡ k).
    let one : bit (q k) ≡ 1 = ap bit (ap q (sym e) ∙ was) in
    let none : bit (p k) ≡ 0 = ap bit (ap p (sym e) ∙ now) in
    omega (arith, one, none, count_le p q k within))
    (λ (ne : m ≡ k → ⊥). omega (arith, one_le (p k) (q k) (within k), count_less p q k m within (omega (arith, ne)) was now))
    (cases_eq m k)

some_reads-at : (nets : List (Option FlatNet)) (k m : ℕ) → reads_in nets k m ≡ true → some_reads nets m ≡ true
some_reads-at [] k m h = absurd (false≢true h)
some_reads-at (f ∷ fs) zero m h = or_left (net_reads f m) (some_reads fs m) h
some_reads-at (f ∷ fs) (suc k) m h = or_right (net_reads f m) (some_reads fs m) (some_reads-at fs k m h)

some_reads-which : (nets : List (Option FlatNet)) (m : ℕ) → some_reads nets m ≡ true → (k : ℕ) × (reads_in nets k m ≡ true)
some_reads-which [] m h = absurd (false≢true h)
some_reads-which (f ∷ fs) m h =
    ⊎_elim
    (λ (here : net_reads f m ≡ true). (0, here))
    (λ (rest : some_reads fs m ≡ true). let r = some_reads-which fs m rest in (suc r.0, r.1))
    (or_cases (net_reads f m) (some_reads fs m) h)

module _ (old new : List (Option FlatNet)) (n : ℕ) (goes : GoesInto old new n) where
  fewer_read : (m : ℕ) → some_reads new m ≡ true → some_reads old m ≡ true
  fewer_read m h =
      let r = some_reads-which new m h in
      let was = read_before old new n goes r.0 m r.1 in
      some_reads-at old was.0 m was.1

  -- a net that was held is gone
  pub less_held : is_held old n ≡ true → slot new n ≡ None → n < length old → steps_left new < steps_left old
  unfolding steps_left
  less_held was none low =
      let held = count_less (is_held new) (is_held old) (length old) n (held_before old new n goes) low was (ap is_some none) in
      let read = count_le (some_reads new) (some_reads old) (length old) fewer_read in
      let long = goes.long in
      rw long (omega (arith, held, read))

  -- a net that was read is so no more
  pub less_read : some_reads old n ≡ true → some_reads new n ≡ false → n < length old → steps_left new < steps_left old
  unfolding steps_left
  less_read was now low =
      let held = count_le (is_held new) (is_held old) (length old) (held_before old new n goes) in
      let read = count_less (some_reads new) (some_reads old) (length old) n fewer_read low was now in
      let long = goes.long in
      rw long (omega (arith, held, read))

-- ---- the rules

-- a net with a name is held
named_held : (nets : List (Option FlatNet)) (w : List ℕ) (n : ℕ) → IsTabled nets w n → (is_held nets n ≡ true) × (n < length nets)
named_held nets w n t = (ap is_some t.named.held, held_below nets n t.named.net t.named.held)

-- the lines' literals are cubes
are_cubes : (ls : List Line) → AllCubes ls → All (λ (l : Line). IsCube l.cube) ls
are_cubes [] all = All-nil (λ (l : Line). IsCube l.cube)
are_cubes (l ∷ ls) all = All-cons (λ (k : Line). IsCube k.cube) l ls all.0 (are_cubes ls all.1)

-- the net that a rule names by the name of a net is that net
pub names_itself : (net : NetParts) (w : List ℕ) (n m : ℕ) → WellFormed net → IsTabled net.nets w m → is_held net.nets n ≡ true → w ≡ name_in (slot net.nets n) → m ≡ n
names_itself net w n m formed t held is = by (slot net.nets n) refl held is
  where
    by : (f : Option FlatNet) → slot net.nets n ≡ f → is_some f ≡ true → w ≡ name_in f → m ≡ n
    by None e h same = absurd (false≢true h)
    by (Some f) e h same = formed.names m n t.named.net f t.named.held e (t.named.is ∙ same)

removes_goes : (old : NetParts) (w : List ℕ) (new : NetParts) → (r : Removes old w new) → GoesInto old.nets new.nets r.number
unfolding with_nets
removes_goes old w new r =
    let e : new.nets ≡ set old.nets r.number None = ap (λ (p : NetParts). p.nets) r.new_is in
    subst (λ nets. GoesInto old.nets nets r.number) (sym e) (goes_besides old.nets old.nets r.number (goes_nowhere old.nets r.number))

wires_goes : (old : NetParts) (w : List ℕ) (new : NetParts) → WellFormed old → (r : Wires old w new) → GoesInto old.nets new.nets r.number
unfolding with_nets
wires_goes old w new formed r =
    let e : new.nets ≡ rewritten (wired r.number r.same.source) r.number old.nets = ap (λ (p : NetParts). p.nets) r.new_is in
    subst (λ nets. GoesInto old.nets nets r.number) (sym e) (goes_rewritten old r.number (wired r.number r.same.source) formed reads)
  where
    reads : (m k : ℕ) (c : Cover) → IsReader old.nets r.number m c → cover_reads (wired r.number r.same.source c) k ≡ true
        → (cover_reads c k ≡ true) ⊎ (reads_in old.nets r.number k ≡ true)
    reads m k c reader h =
        ⊎_elim
        (λ (own : (cover_reads c k ≡ true) × (nat_eq k r.number ≡ false)). inl own.0)
        (λ (e : k ≡ r.same.source). inr (ap (reads_in old.nets r.number) e ∙ buffer_reads old.nets r.number r.same.source r.same.buffer))
        ((wired_reads r.number r.same.source c (are_cubes c.lines (cover_at old m c formed reader.table).cubes)).only k h)

-- the readers have their composites
abbrev composites : List (Option FlatNet) → Inner → List (Option FlatNet)
composites nets inner = rewritten (composed (map values_in nets) inner) inner.net.0 nets

composites_go : (old : NetParts) (inner : Inner) → WellFormed old → IsInnerOf old.nets inner → GoesInto old.nets (composites old.nets inner) inner.net.0
composites_go old inner formed known = goes_rewritten old inner.net.0 (composed (map values_in old.nets) inner) formed reads
  where
    reads : (m k : ℕ) (c : Cover) → IsReader old.nets inner.net.0 m c → cover_reads (composed (map values_in old.nets) inner c) k ≡ true
        → (cover_reads c k ≡ true) ⊎ (reads_in old.nets inner.net.0 k ≡ true)
    reads m k c reader h =
        let Was : ℕ → Type 0 = λ j. (cover_reads c j ≡ true) ⊎ (reads_in old.nets inner.net.0 j ≡ true) in
        composed_on Was (map values_in old.nets) inner (λ j its. inr (ap (λ t. table_reads t j) known.table ∙ its)) c (λ j own. inl own) k h

collapses_goes : (old : NetParts) (w : List ℕ) (new : NetParts) → WellFormed old → (r : Collapses old w new) → GoesInto old.nets new.nets r.number
unfolding with_nets
collapses_goes old w new formed r =
    let inner = r.composites.inner in
    let mid = composites old.nets inner in
    let e : new.nets ≡ set mid inner.net.0 None = ap (λ (p : NetParts). p.nets) r.new_is in
    subst (GoesInto old.nets new.nets) r.composites.of_net
    (subst (λ nets. GoesInto old.nets nets inner.net.0) (sym e) (goes_besides old.nets mid inner.net.0 (composites_go old inner formed r.composites.known)))

-- ---- what each of them leaves

-- nothing changes but near the net of the rule
pub removes_around : (old : NetParts) (w : List ℕ) (new : NetParts) → (r : Removes old w new) → StaysAround old.nets new.nets r.number
removes_around old w new r = stays_around old.nets new.nets r.number (removes_goes old w new r)

pub wires_around : (old : NetParts) (w : List ℕ) (new : NetParts) → WellFormed old → (r : Wires old w new) → StaysAround old.nets new.nets r.number
wires_around old w new formed r = stays_around old.nets new.nets r.number (wires_goes old w new formed r)

pub collapses_around : (old : NetParts) (w : List ℕ) (new : NetParts) → WellFormed old → (r : Collapses old w new) → StaysAround old.nets new.nets r.number
collapses_around old w new formed r = stays_around old.nets new.nets r.number (collapses_goes old w new formed r)

-- fewer steps are left
pub removes_fewer : (old : NetParts) (w : List ℕ) (new : NetParts) → Removes old w new → steps_left new.nets < steps_left old.nets
unfolding with_nets
removes_fewer old w new r =
    let held = named_held old.nets w r.number r.net in
    let e : new.nets ≡ set old.nets r.number None = ap (λ (p : NetParts). p.nets) r.new_is in
    less_held old.nets new.nets r.number (removes_goes old w new r) held.0 (ap (λ nets. slot nets r.number) e ∙ (IsWritten-gone old.nets r.number).here) held.1

pub collapses_fewer : (old : NetParts) (w : List ℕ) (new : NetParts) → WellFormed old → Collapses old w new → steps_left new.nets < steps_left old.nets
unfolding with_nets
collapses_fewer old w new formed r =
    let held = named_held old.nets w r.number r.net in
    let n = r.composites.inner.net.0 in
    let mid = composites old.nets r.composites.inner in
    let e : new.nets ≡ set mid n None = ap (λ (p : NetParts). p.nets) r.new_is in
    let gone : slot new.nets n ≡ None = ap (λ nets. slot nets n) e ∙ (IsWritten-gone mid n).here in
    less_held old.nets new.nets r.number (collapses_goes old w new formed r) held.0 (ap (slot new.nets) (sym r.composites.of_net) ∙ gone) held.1

pub wires_fewer : (old : NetParts) (w : List ℕ) (new : NetParts) → WellFormed old → Wires old w new → steps_left new.nets < steps_left old.nets
unfolding with_nets
wires_fewer old w new formed r =
    let held = named_held old.nets w r.number r.net in
    less_read old.nets new.nets r.number (wires_goes old w new formed r) (some_reads-at old.nets r.read.reader r.number r.read.reads)
    (false_from_ne_true _ (λ h. let k = some_reads-which new.nets r.number h in unread k.0 k.1)) held.1
  where
    e : new.nets ≡ rewritten (wired r.number r.same.source) r.number old.nets
    e = ap (λ (p : NetParts). p.nets) r.new_is

    -- the buffer doesn't copy itself
    other : r.number ≡ r.same.source → ⊥
    other same = false≢true (sym (itself_unread old r.number formed) ∙ (ap (reads_in old.nets r.number) same ∙ buffer_reads old.nets r.number r.same.source r.same.buffer))

    unread : (k : ℕ) → reads_in new.nets k r.number ≡ true → ⊥
    unread k h =
        ⊎_elim
        (λ (reader : reads_in old.nets k r.number ≡ true).
        let c = reader_at old.nets r.number k reader in
        let table = ap (λ nets. table_in (slot nets k)) e ∙ table-reader (wired r.number r.same.source) r.number old.nets k c.0 c.1 in
        ⊎_elim
        (λ (own : (cover_reads c.0 r.number ≡ true) × (nat_eq r.number r.number ≡ false)). false≢true (sym own.1 ∙ eq-eqb r.number r.number refl))
        other
        ((wired_reads r.number r.same.source c.0 (are_cubes c.0.lines (cover_at old k c.0 formed c.1.table).cubes)).only r.number (sym (ap (λ t. table_reads t r.number) table) ∙ h)))
        (λ (none : reads_in old.nets k r.number ≡ false).
        let same = ap (λ nets. slot nets k) e ∙ slot-unread (wired r.number r.same.source) r.number old.nets k none in
        false≢true (sym (ap (λ f. net_reads f r.number) same ∙ none) ∙ h))
        (cases_Bool (reads_in old.nets k r.number))
