-- The nets of the bits can stand for the net whose values are encoded.
use Rattle.std.proofs.Common.{◌≡◌, ◌∙◌, ◌⊎◌, ℕ, zero, suc, ◌+◌, ◌-◌, ◌<◌, ◌≤◌, true, false, nat_eq, List, [], ◌∷◌, length, map, Option, Some, None, inl, inr, refl, sym, ap, subst, ⊎_elim, arith}
use Rattle.std.proofs.lemmas.Bool.{cases_eq, eqb-false, false_from_ne_true}
use Rattle.std.proofs.lemmas.List.Elements.{All-weaker}
use Rattle.mv_codes.specs.Codes.{bit_number, bit_of}
use Rattle.mv_codes.specs.CodeCubes.{AreBits}
use Rattle.mv_codes.specs.Rewriting.{IsCoding, IsBitNet, ReadsCoded, AreCodedCounts}
use Rattle.mv_codes.specs.Tables.{coding_of, value_at, reader_coded, bit_table}
use Rattle.mv_codes.specs.declared.coding.Coding.{Coding}
use Rattle.mv_codes.proofs.Encoded.{coded_allows, coded_over, coded_reads}
use Rattle.mv_codes.proofs.Lawful.{bit_over, bit_reads}
use Rattle.mv_codes.proofs.Values.{value_at-code}
use Rattle.mv_composite.specs.Inside.{AreCubes, IsCoverOver}
use Rattle.mv_cover.specs.declared.cover.Cover.{Cover}
use Rattle.mv_cover.specs.declared.line.Line.{Line}
use Rattle.mv_cover.specs.Covers.{allowed, cover_reads}
use Rattle.mv_cover.specs.Cubes.{IsCube}
use Rattle.mv_cover.specs.Plain.{IsPlainlyDeterministic, AllowsOne}
use Rattle.mv_cover.specs.Sharp.{IsCubeOver}
use Rattle.mv_cover.proofs.Local.{allowed-local}
use Rattle.mv_cover.proofs.Single.{allows_one}
use Rattle.mv_entry.specs.declared.rule.Code.{Code}
use Rattle.mv_meaning.specs.Rewriting.{IsReader}
use Rattle.mv_meaning.proofs.Rewired.{cover_at}
use Rattle.mv_net.specs.declared.change.NewNet.{NewNet}
use Rattle.mv_net.specs.declared.parts.FlatNet.{FlatNet}
use Rattle.mv_net.specs.declared.parts.NetParts.{NetParts}
use Rattle.mv_net.specs.declared.parts.Kind.TheVariants.{Table, Reset}
use Rattle.mv_net.specs.Changes.{made_net}
use Rattle.mv_net.specs.Formed.{IsReadable, IsCover, WellFormed}
use Rattle.mv_net.specs.Nets.{slot, values_in, table_in}
use Rattle.mv_net.proofs.Known.{counts_at, lines_readable}
use Rattle.mv_net.proofs.Patches.{put, put_same, put_other}
use Rattle.mv_net.proofs.Totals.{allowed_below}
use Rattle.mv_net.proofs.Named.{held_below}
use Rattle.mv_coding.specs.Nets.{bit_net, bit_nets_from, IsEncodable}
use Rattle.mv_coding.proofs.BitNets.{bits_new, bits_follow, bits_two, bits_are}
use Rattle.mv_coding.proofs.CodeValues.{some_bits, bits_of, value_low, is_coding}
use Rattle.mv_coding.proofs.Coming.{came}
use Rattle.mv_coding.proofs.Grown.{with_more, slot-low, slot-high}
use Rattle.mv_readers.proofs.Overs.{counts_of, over_counts, cover_in}
use Rattle.mv_coding.proofs.Standing.{TakeValues, AllAllow, Restates, StandFor}

-- ---- as many nets as names

pub bits_long : (codes : List Code) (c : Cover) (k : ℕ) (names : List (List ℕ)) → length (bit_nets_from codes c k names) ≡ length names
bits_long codes c k [] = refl
bits_long codes c k (w ∷ ws) = let rest = bits_long codes c (k + 1) ws in omega arith

-- a net of a bit is held, has a table, and two values
pub record IsBitHeld (nets : List (Option FlatNet)) (j : ℕ) : Type 0 where
  pub net : FlatNet
  pub held : slot nets j ≡ Some net
  pub kind : net.kind ≡ Table
  pub values : net.values ≡ 2

pub bit_held : (codes : List Code) (c : Cover) (k : ℕ) (names : List (List ℕ)) (i : ℕ) → i < length names → IsBitHeld (map made_net (bit_nets_from codes c k names)) i
bit_held codes c k [] i low = absurd (omega arith)
bit_held codes c k (w ∷ ws) zero low = record { net = came (bit_net codes c k w); held = refl; kind = refl; values = refl }
bit_held codes c k (w ∷ ws) (suc i) low =
    let rest = bit_held codes c (k + 1) ws i (omega arith) in
    record { net = rest.net; held = rest.held; kind = rest.kind; values = rest.values }

module _ (net : NetParts) (n : ℕ) (names : List (List ℕ)) (codes : List Code) (inner : Cover) (formed : WellFormed net) (table : table_in (slot net.nets n) ≡ Some inner) (plain : IsPlainlyDeterministic inner) (able : IsEncodable net n names codes) where
  first : ℕ
  first = length net.nets

  values : ℕ
  values = values_in (slot net.nets n)

  abbrev coding : Coding
  coding = coding_of n (length net.nets) codes

  abbrev ms : List NewNet
  ms = bit_nets_from codes inner 0 names

  abbrev more : List (Option FlatNet)
  more = with_more net.nets ms

  one : AllowsOne inner
  one = allows_one inner plain

  covers : IsCover net.nets (values_in (slot net.nets n)) inner
  covers = cover_at net n inner formed table

  is : IsCoding coding
  is = let room = able.room in is_coding n (length net.nets) (values_in (slot net.nets n)) (length names) codes able.form (omega arith)

  -- the numbers of the coding
  is_net : coding.net.0 ≡ n
  unfolding coding_of
  is_net = refl

  is_first : coding.first.0 ≡ length net.nets
  unfolding coding_of
  is_first = refl

  is_bits : coding.bits ≡ length names
  unfolding coding_of
  is_bits = bits_of (values_in (slot net.nets n)) (length names) codes able.form

  -- ---- the bits

  inner_low : (x : ℕ → ℕ) (v : ℕ) → allowed inner x v ≡ true → v < length codes
  inner_low x v h = subst (λ k. v < k) (sym able.form.count) (allowed_below net.nets (values_in (slot net.nets n)) inner x v covers h)

  bit_cover : (i : ℕ) → IsCover net.nets 2 (bit_table codes i inner)
  bit_cover i =
      cover_in net.nets 2 (bit_table codes i inner)
      (bit_over (counts_of net.nets) codes i inner (subst (λ k. IsCoverOver (counts_of net.nets) k inner) (sym able.form.count) (over_counts net (values_in (slot net.nets n)) inner formed covers)) plain)
      (λ m r. lines_readable net.nets (values_in (slot net.nets n)) inner.lines m covers.lines (sym (bit_reads codes i m inner) ∙ r))

  two : (x : ℕ → ℕ) → TakeValues x (length net.nets) ms → AreBits x coding.first.0 coding.bits
  two x takes = subst (λ k. AreBits x k coding.bits) (sym is_first) (subst (AreBits x (length net.nets)) (sym is_bits) (record { two = λ i low. bits_two codes inner x (length net.nets) 0 names takes i low }))

  -- ---- a reader

  module _ (m : ℕ) (c : Cover) (reader : IsReader net.nets n m c) where
    own : IsCover net.nets (values_in (slot net.nets m)) c
    own = cover_at net m c formed reader.table

    over : IsCoverOver (counts_of net.nets) (values_in (slot net.nets m)) c
    over = over_counts net (values_in (slot net.nets m)) c formed own

    cubes : AreCubes c.lines
    cubes = All-weaker (λ (l : Line). IsCubeOver (counts_of net.nets) l.cube) (λ (l : Line). IsCube l.cube) (λ l o. o.cube) c.lines over.cubes

    reads : ReadsCoded coding c (reader_coded coding c)
    reads = coded_reads coding c cubes

    -- a net of a bit, by its place
    bit_place : (k : ℕ) → IsBitNet coding k → (length net.nets ≤ k) × (k - length net.nets < length names)
    bit_place k b =
        let low : length net.nets ≤ k = subst (λ j. j ≤ k) is_first b.0 in
        let high : k < length net.nets + length names = subst (λ j. k < j + length names) is_first (subst (λ j. k < coding.first.0 + j) is_bits b.1) in
        (low, omega arith)

    bit_at : (k : ℕ) → IsBitNet coding k → IsBitHeld more k
    bit_at k b =
        let place = bit_place k b in
        let held = bit_held codes inner 0 names (k - length net.nets) place.1 in
        let e : length net.nets + (k - length net.nets) ≡ k = omega (arith, place) in
        record { net = held.net; held = sym (ap (slot more) e) ∙ (slot-high net.nets ms (k - length net.nets) ∙ held.held); kind = held.kind; values = held.values }

    readable : (k : ℕ) → cover_reads (reader_coded coding c) k ≡ true → IsReadable more k
    readable k r =
        ⊎_elim
        (λ (still : (cover_reads c k ≡ true) × (nat_eq k coding.net.0 ≡ false)).
        let was = lines_readable net.nets (values_in (slot net.nets m)) c.lines k own.lines still.0 in
        record { net = was.net; held = slot-low net.nets ms k (held_below net.nets k was.net was.held) ∙ was.held; plain = was.plain })
        (λ (b : IsBitNet coding k). let held = bit_at k b in record { net = held.net; held = held.held; plain = λ e. let bad : Table ≡ Reset = sym held.kind ∙ e in cc })
        (reads.only k r)

    counts : AreCodedCounts coding (counts_of net.nets) (counts_of more)
    counts = record {
      others = λ k ne some.
          let low : k < length net.nets = count_low (slot net.nets k) k refl (subst (λ v. 0 < v) (counts_at net.nets k) some) in
          counts_at more k ∙ (ap values_in (slot-low net.nets ms k low) ∙ sym (counts_at net.nets k));
      bits = λ k b. let held = bit_at k b in counts_at more k ∙ (ap values_in held.held ∙ held.values);
    }
      where
        count_low : (f : Option FlatNet) (k : ℕ) → slot net.nets k ≡ f → 0 < values_in f → k < length net.nets
        count_low None k e h = absurd (omega arith)
        count_low (Some f) k e h = held_below net.nets k f e

    reader_cover : IsCover more (values_in (slot net.nets m)) (reader_coded coding c)
    reader_cover = cover_in more (values_in (slot net.nets m)) (reader_coded coding c) (coded_over coding (counts_of net.nets) (counts_of more) (values_in (slot net.nets m)) c counts over) readable

    -- what it allows
    allows : (x : ℕ → ℕ) → TakeValues x (length net.nets) ms → (v : ℕ) → allowed (reader_coded coding c) x v ≡ allowed c (put n (value_at coding x) x) v
    allows x takes v = (coded_allows coding c is cubes).same x (two x takes) v ∙ ap (λ k. allowed c (put k (value_at coding x) x) v) is_net

    value_is : (x : ℕ → ℕ) → allowed inner x (x n) ≡ true → AllAllow x (length net.nets) ms → value_at coding x ≡ x n
    value_is x agrees allow =
        value_at-code n (length net.nets) (values_in (slot net.nets n)) (length names) (x n) codes x able.form
        (allowed_below net.nets (values_in (slot net.nets n)) inner x (x n) covers agrees)
        (λ k low. let place : 0 + k ≡ k = omega arith in bits_are codes inner x (x n) (length net.nets) 0 names one agrees allow k low ∙ ap (λ j. bit_number (bit_of codes j (x n))) place)

    -- an assignment with its own value put there
    put_own : (x : ℕ → ℕ) (w : ℕ) → w ≡ x n → (k : ℕ) → put n w x k ≡ x k
    put_own x w e k =
        ⊎_elim
        (λ (h : k ≡ n). let P : ℕ → Type 0 = λ j. put n w x j ≡ x j in subst P (sym h) (put_same n w x ∙ e))
        (λ (ne : k ≡ n → ⊥). put_other n w x k ne)
        (cases_eq k n)

    restates : Restates net.nets n inner ms c (reader_coded coding c)
    restates = record {
      unread = false_from_ne_true _ (λ r. none (reads.only n r));
      reads = λ k r.
          ⊎_elim
          (λ (still : (cover_reads c k ≡ true) × (nat_eq k coding.net.0 ≡ false)). inl still.0)
          (λ (b : IsBitNet coding k). inr (bit_place k b).0)
          (reads.only k r);
      allows = λ x takes. record {
        value = value_at coding x;
        low = value_low n (length net.nets) (values_in (slot net.nets n)) (length names) codes x able.form (record { two = λ i low. bits_two codes inner x (length net.nets) 0 names takes i low });
        allows = allows x takes;
      };
      same = λ x agrees takes allow v. allows x takes v ∙ allowed-local c (put n (value_at coding x) x) x v (λ k r. put_own x (value_at coding x) (value_is x agrees allow) k);
    }
      where
        none : ((cover_reads c n ≡ true) × (nat_eq n coding.net.0 ≡ false)) ⊎ IsBitNet coding n → ⊥
        none either =
            ⊎_elim
            (λ (still : (cover_reads c n ≡ true) × (nat_eq n coding.net.0 ≡ false)). eqb-false n coding.net.0 still.1 (sym is_net))
            (λ (b : IsBitNet coding n). let low = n_low (slot net.nets n) refl table in let high = (bit_place n b).0 in omega arith)
            either
          where
            n_low : (f : Option FlatNet) → slot net.nets n ≡ f → table_in f ≡ Some inner → n < length net.nets
            n_low None e t = cc
            n_low (Some f) e t = held_below net.nets n f e

  -- ---- all together

  pub bits_stand : StandFor net.nets n inner (reader_coded coding) ms
  bits_stand = record {
    several = let some = some_bits (values_in (slot net.nets n)) (length names) codes able.form in omega (arith, bits_long codes inner 0 names);
    nets_new = bits_new codes inner 0 names net.nets bit_cover able.fresh.lawful able.fresh.free able.fresh.differ;
    follow = bits_follow codes inner 0 names inner_low;
    covers = λ m c r. reader_cover m c r;
    restates = λ m c r. restates m c r;
  }
