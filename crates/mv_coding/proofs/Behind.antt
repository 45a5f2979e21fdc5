-- The network behind an encoding: it is well formed and means the same, total tables stay total, and no net has more values than
-- before, but two.
use Rattle.std.proofs.Common.{◌≡◌, ◌∙◌, ◌⊎◌, ℕ, ◌+◌, ◌-◌, ◌<◌, ◌≤◌, false, List, ◌++◌, length, map, set, Option, Some, None, inl, inr, sym, ap, subst, ⊎_elim, arith}
use Rattle.std.proofs.lemmas.Bool.{cases_lt, cases_eq}
use Rattle.std.proofs.lemmas.List.{get_or_append_left, get_or-append-add, get_or_past, length-set, length-map}
use Rattle.mv_base.specs.Meaning.{SameMeaning}
use Rattle.mv_codes.specs.Tables.{coding_of, reader_coded}
use Rattle.mv_cover.specs.declared.cover.Cover.{Cover}
use Rattle.mv_entry.specs.declared.rule.Code.{Code}
use Rattle.mv_meaning.specs.Rewriting.{rewired, rewritten, IsAlike}
use Rattle.mv_meaning.proofs.Rewired.{IsMadeOf, HasStayed, IsReformed-rewritten, slot-rewritten, slot-unread, rewritten_from}
use Rattle.mv_net.specs.declared.change.NewNet.{NewNet}
use Rattle.mv_net.specs.declared.parts.FlatNet.{FlatNet}
use Rattle.mv_net.specs.declared.parts.NetParts.{NetParts}
use Rattle.mv_net.specs.Allowed.{of_net}
use Rattle.mv_net.specs.Changes.{made_net, with_nets}
use Rattle.mv_net.specs.Formed.{WellFormed}
use Rattle.mv_net.specs.Index.{is_seen}
use Rattle.mv_net.specs.Nets.{slot, values_in, table_in, reads_in}
use Rattle.mv_net.specs.Total.{IsTotalNet}
use Rattle.mv_net.proofs.Patches.{IsWritten, IsWritten-gone}
use Rattle.mv_coding.specs.Nets.{bit_nets_from, bit_nets, nets_coded, net_coded, IsEncodable}
use Rattle.mv_coding.proofs.Coded.{bits_long, bits_stand, bit_held}
use Rattle.mv_coding.proofs.Grown.{with_more, restated, slot-low, slot-high}
use Rattle.mv_coding.proofs.StandFormed.{stand_formed}
use Rattle.mv_coding.proofs.StandMeans.{inner_low, made_unread, stand_means}
use Rattle.mv_coding.proofs.StandTotal.{stand_total, stand_total_new}
use Rattle.mv_coding.proofs.Standing.{StandFor}

-- the nets without n, of which the readers of n have their new tables
abbrev gone_from : (Cover → Cover) → ℕ → List (Option FlatNet) → List (Option FlatNet)
gone_from new n nets = set (rewritten new n nets) n None

-- and behind them those that come
abbrev gone_with : (Cover → Cover) → ℕ → List (Option FlatNet) → List NewNet → List (Option FlatNet)
gone_with new n nets ms = gone_from new n nets ++ map made_net ms

-- are those with all that come and the readers' new tables, but n
gone_written : (new : Cover → Cover) (n : ℕ) (nets : List (Option FlatNet)) (ms : List NewNet) → n < length nets → ((i : ℕ) → reads_in (with_more nets ms) (length nets + i) n ≡ false) → IsWritten (restated new n nets ms) n None (gone_with new n nets ms)
unfolding rewritten
gone_written new n nets ms low unread = record {
  here = get_or_append_left (gone_from new n nets) (map made_net ms) None n (omega (arith, long)) ∙ gone.here;
  others = λ m ne.
      ⊎_elim
      (λ (small : m < length nets).
      get_or_append_left (gone_from new n nets) (map made_net ms) None m (omega (arith, long))
      ∙ (gone.others m ne
      ∙ (slot-rewritten new n nets m ∙ (ap (rewired new n) (sym (slot-low nets ms m small)) ∙ sym (slot-rewritten new n (with_more nets ms) m)))))
      (λ (high : length nets ≤ m).
      let i = m - length nets in
      let e : length (gone_from new n nets) + i ≡ m = omega (arith, long) in
      let f : length nets + i ≡ m = omega arith in
      ap (slot (gone_with new n nets ms)) (sym e)
      ∙ (get_or-append-add (gone_from new n nets) (map made_net ms) i None
      ∙ (sym (slot-unread new n (with_more nets ms) (length nets + i) (unread i) ∙ slot-high nets ms i) ∙ ap (slot (restated new n nets ms)) f)))
      (cases_lt m (length nets));
}
  where
    gone : IsWritten (rewritten new n nets) n None (gone_from new n nets)
    gone = IsWritten-gone (rewritten new n nets) n

    long : length (gone_from new n nets) ≡ length nets
    long = length-set (rewritten new n nets) n None ∙ length-map nets (rewired new n)

module _ (net : NetParts) (n : ℕ) (names : List (List ℕ)) (codes : List Code) (formed : WellFormed net) (able : IsEncodable net n names codes) where
  inner : Cover
  inner = able.plain.cover

  abbrev new : Cover → Cover
  new = reader_coded (coding_of n (length net.nets) codes)

  abbrev ms : List NewNet
  ms = bit_nets_from codes able.plain.cover 0 names

  stand : StandFor net.nets n able.plain.cover new ms
  stand = bits_stand net n names codes able.plain.cover formed able.plain.table able.plain.plain able

  pub encoded_low : n < length net.nets
  encoded_low = inner_low net n able.plain.cover new ms formed able.plain.table stand

  written : IsWritten (restated new n net.nets ms) n None (nets_coded codes names n net.nets)
  unfolding nets_coded
  written =
      let P : Option Cover → Type 0 = λ t. IsWritten (restated new n net.nets ms) n None (set (rewritten new n net.nets) n None ++ map made_net (bit_nets codes t names)) in
      subst P (sym able.plain.table) (gone_written new n net.nets ms encoded_low (made_unread net n able.plain.cover new ms formed able.plain.table stand))

  pub behind_formed : is_seen net n ≡ false → WellFormed (net_coded net n names codes)
  unfolding net_coded
  behind_formed unseen = stand_formed net n able.plain.cover new ms formed able.plain.table stand (nets_coded codes names n net.nets) unseen written

  pub behind_means : is_seen net n ≡ false → SameMeaning (of_net (net_coded net n names codes)) (of_net net)
  unfolding net_coded
  behind_means unseen = stand_means net n able.plain.cover new ms formed able.plain.table stand (nets_coded codes names n net.nets) unseen written

  pub behind_total : (k : ℕ) → (k ≡ n → ⊥) → IsTotalNet net.nets k → IsTotalNet (net_coded net n names codes).nets k
  unfolding net_coded with_nets
  behind_total k ne total = stand_total net n able.plain.cover new ms formed able.plain.table stand (nets_coded codes names n net.nets) written k ne total

  pub behind_total_bits : (i : ℕ) → i < length names → IsTotalNet net.nets n → IsTotalNet (net_coded net n names codes).nets (length net.nets + i)
  unfolding net_coded with_nets
  behind_total_bits i low total =
      stand_total_new net n able.plain.cover new ms formed able.plain.table stand (nets_coded codes names n net.nets) written i (omega (arith, bits_long codes able.plain.cover 0 names)) total

  -- ---- numbers of values

  abbrev more : List (Option FlatNet)
  more = with_more net.nets ms

  few_bit : (k : ℕ) → length net.nets ≤ k → (values_in (slot more k) ≡ 0) ⊎ (values_in (slot more k) ≡ 2)
  few_bit k high =
      let i = k - length net.nets in
      let e : length net.nets + i ≡ k = omega arith in
      let at : slot more k ≡ slot (map made_net ms) i = ap (slot more) (sym e) ∙ slot-high net.nets ms i in
      ⊎_elim
      (λ (low : i < length names). let held = bit_held codes able.plain.cover 0 names i low in inr (ap values_in (at ∙ held.held) ∙ held.values))
      (λ (past : length names ≤ i). inl (ap values_in (at ∙ get_or_past (map made_net ms) i None (omega (arith, length-map ms made_net, bits_long codes able.plain.cover 0 names)))))
      (cases_lt i (length names))

  pub behind_few : (k : ℕ) → (values_in (slot (net_coded net n names codes).nets k) ≤ values_in (slot net.nets k)) ⊎ (values_in (slot (net_coded net n names codes).nets k) ≡ 2)
  unfolding net_coded with_nets
  behind_few k =
      ⊎_elim
      (λ (e : k ≡ n). let none : values_in (slot (nets_coded codes names n net.nets) k) ≡ 0 = ap (λ j. values_in (slot (nets_coded codes names n net.nets) j)) e ∙ ap values_in written.here in inl (omega (arith, none)))
      (λ (ne : k ≡ n → ⊥).
      let same : values_in (slot (nets_coded codes names n net.nets) k) ≡ values_in (slot more k) = ap values_in (written.others k ne) ∙ ((IsReformed-rewritten new n more).each k).values in
      ⊎_elim
      (λ (low : k < length net.nets). inl (omega (arith, same, ap values_in (slot-low net.nets ms k low))))
      (λ (high : length net.nets ≤ k).
      ⊎_elim
      (λ (none : values_in (slot more k) ≡ 0). inl (omega (arith, same, none)))
      (λ (two : values_in (slot more k) ≡ 2). inr (same ∙ two))
      (few_bit k high))
      (cases_lt k (length net.nets)))
      (cases_eq k n)

  -- ---- the nets

  -- each other net is like the one that was there
  pub behind_alike : (k : ℕ) → (k ≡ n → ⊥) → k < length net.nets → IsAlike (slot net.nets k) (slot (net_coded net n names codes).nets k)
  unfolding net_coded with_nets
  behind_alike k ne low =
      let more_alike : IsAlike (slot more k) (slot (restated new n net.nets ms) k) = (IsReformed-rewritten new n more).each k in
      subst (λ f. IsAlike f (slot (nets_coded codes names n net.nets) k)) (slot-low net.nets ms k low) (subst (IsAlike (slot more k)) (sym (written.others k ne)) more_alike)

  -- each table is that of another net which had one, or of a bit
  pub behind_tabled : (k : ℕ) (c : Cover) → table_in (slot (net_coded net n names codes).nets k) ≡ Some c
      → ((k ≡ n → ⊥) × (d : Cover) × (table_in (slot net.nets k) ≡ Some d)) ⊎ ((length net.nets ≤ k) × (k < length net.nets + length names))
  unfolding net_coded with_nets
  behind_tabled k c e =
      ⊎_elim
      (λ (low : k < length net.nets). let was = there low (rewritten_from new n more k c left) in inl (other, was.0, was.1))
      (λ (high : length net.nets ≤ k).
      let i = k - length net.nets in
      let f : length net.nets + i ≡ k = omega arith in
      let at : slot more k ≡ slot (map made_net ms) i = ap (slot more) (sym f) ∙ slot-high net.nets ms i in
      ⊎_elim
      (λ (few : i < length names). inr (high, omega (arith, few, f)))
      (λ (past : length names ≤ i).
      let none : slot more k ≡ None = at ∙ get_or_past (map made_net ms) i None (omega (arith, length-map ms made_net, bits_long codes able.plain.cover 0 names)) in
      absurd (no_table none (rewritten_from new n more k c left)))
      (cases_lt i (length names)))
      (cases_lt k (length net.nets))
    where
      other : k ≡ n → ⊥
      other same = let bad : None ≡ Some c = sym (ap table_in written.here) ∙ (ap (λ j. table_in (slot (nets_coded codes names n net.nets) j)) (sym same) ∙ e) in cc

      left : table_in (slot (restated new n net.nets ms) k) ≡ Some c
      left = ap table_in (sym (written.others k other)) ∙ e

      there : k < length net.nets → IsMadeOf new n more k c ⊎ HasStayed n more k c → (d : Cover) × (table_in (slot net.nets k) ≡ Some d)
      there low (inl made) = (made.was, ap table_in (sym (slot-low net.nets ms k low)) ∙ made.reader.table)
      there low (inr stayed) = (c, ap table_in (sym (slot-low net.nets ms k low)) ∙ stayed.table)

      no_table : slot more k ≡ None → IsMadeOf new n more k c ⊎ HasStayed n more k c → ⊥
      no_table none (inl made) = let bad : None ≡ Some made.was = sym (ap table_in none) ∙ made.reader.table in cc
      no_table none (inr stayed) = let bad : None ≡ Some c = sym (ap table_in none) ∙ stayed.table in cc
