-- The rule `encode`: its change, that what it leaves is well formed, and that it means the same.
use Rattle.std.proofs.Common.{◌≡◌, ◌∙◌, ◌⊎◌, ℕ, zero, suc, ◌+◌, ◌-◌, ◌<◌, ◌≤◌, Bool, true, false, List, [], ◌∷◌, ◌++◌, length, map, set, Option, Some, None, All, is_some, inl, inr, refl, sym, ap, subst, ⊎_elim, arith}
use Rattle.std.specs.List.{list_all}
use Rattle.std.specs.Prelude.{MatchBool}
use Rattle.std.proofs.lemmas.Bool.{cases_eq, cases_lt, and_from, false≢true, or_cases, or_left, or_right}
use Rattle.std.proofs.lemmas.List.{get_or_append_left, get_or-append-add, length-set, length-map}
use Rattle.std.proofs.lemmas.List.Elements.{All-head, All-tail}
use Rattle.std.proofs.lemmas.Option.{same_Some}
use Rattle.mv_base.specs.Meaning.{SameMeaning}
use Rattle.mv_base.specs.Names.{is_net_name, same_word, among, names_differ}
use Rattle.mv_base.specs.declared.limits.TheConstants.{MAX_WORD_BYTES}
use Rattle.mv_base.proofs.NameLemmas.{same_word_is, same_word_refl}
use Rattle.mv_codes.specs.Tables.{bit_table, coding_of, reader_coded}
use Rattle.mv_coding.specs.Nets.{AreFresh, HasNarrowReaders, IsEncodable, bit_nets, bit_nets_from, net_coded, nets_coded}
use Rattle.mv_coding.proofs.Behind.{behind_formed, behind_means, behind_total, behind_total_bits}
use Rattle.mv_cover.specs.declared.cover.Cover.{Cover}
use Rattle.mv_entry.specs.declared.fault.RuleFault.TheVariants.{Wide, Nets}
use Rattle.mv_entry.specs.declared.rule.Code.{Code}
use Rattle.mv_meaning.specs.Rewriting.{IsAlike, rewired, rewritten}
use Rattle.mv_meaning.proofs.Rewired.{IsReformed-rewritten}
use Rattle.mv_merging.proofs.Merged.{total_net}
use Rattle.mv_net.specs.declared.change.Change.{Change}
use Rattle.mv_net.specs.declared.parts.FlatNet.{FlatNet}
use Rattle.mv_net.specs.declared.parts.NetParts.{NetParts}
use Rattle.mv_net.specs.Allowed.{of_net}
use Rattle.mv_net.specs.Changes.{changed, made_net, with_nets, Fits}
use Rattle.mv_net.specs.Formed.{WellFormed}
use Rattle.mv_net.specs.Nets.{slot, name_in, table_in, values_in}
use Rattle.mv_net.specs.Total.{IsTotal, IsTotalNet}
use Rattle.mv_net.proofs.Patches.{IsWritten-gone}
use Rattle.mv_plans.specs.Checks.{AreNewNames, HasRoomFor, IsNewName, IsTabled}
use Rattle.mv_plans.specs.Encoding.{CanEncode, EncodeRow, Encodes}
use Rattle.mv_plans.specs.Plans.{IsPlanned}

-- ---- names for new nets

lawful_all : (nets : List (Option FlatNet)) (names : List (List ℕ)) → All (IsNewName nets) names → list_all is_net_name names ≡ true
lawful_all nets [] all = refl
lawful_all nets (w ∷ ws) all =
    and_from (is_net_name w) (list_all is_net_name ws) (All-head (IsNewName nets) w ws all).lawful (lawful_all nets ws (All-tail (IsNewName nets) w ws all))

-- a listed one is a name for a new net
new_among : (nets : List (Option FlatNet)) (names : List (List ℕ)) (w : List ℕ) → All (IsNewName nets) names → among w names ≡ true → IsNewName nets w
new_among nets [] w all h = absurd (false≢true h)
new_among nets (v ∷ vs) w all h =
    ⊎_elim
    (λ (here : same_word w v ≡ true). subst (IsNewName nets) (sym (same_word_is w v here)) (All-head (IsNewName nets) v vs all))
    (λ (behind : among w vs ≡ true). new_among nets vs w (All-tail (IsNewName nets) v vs all) behind)
    (or_cases (same_word w v) (among w vs) h)

pub are_fresh : (nets : List (Option FlatNet)) (names : List (List ℕ)) → AreNewNames nets names → AreFresh nets names
are_fresh nets names new = record { lawful = lawful_all nets names new.each; free = λ w n h. (new_among nets names w new.each h).free n; differ = new.differ }

-- whether no two are equal decides of names that each can be one
pub new_names : (nets : List (Option FlatNet)) (names : List (List ℕ)) (differ : Bool) → differ ≡ names_differ names → All (IsNewName nets) names → MatchBool differ (AreNewNames nets names) (AreNewNames nets names → ⊥)
new_names nets names true is all = record { each = all; differ = sym is }
new_names nets names false is all = λ new. false≢true (is ∙ new.differ)

-- ---- the change

able : (net : NetParts) (n : ℕ) (names : List (List ℕ)) (codes : List Code) → CanEncode net n names codes → HasRoomFor net.nets (length names) → IsEncodable net n names codes
able net n names codes can room = record { plain = can.plain; form = can.form; fresh = are_fresh net.nets names can.fresh; room = room.room }

pub planned : (net : NetParts) (w : List ℕ) (n : ℕ) (names : List (List ℕ)) (codes : List Code) (change : Change) → WellFormed net → IsTabled net.nets w n → CanEncode net n names codes → HasNarrowReaders net.nets n codes
    → HasRoomFor net.nets (length names) → changed net change ≡ net_coded net n names codes → Fits net change → length change.add ≡ length names → IsPlanned net (Encodes net w names codes) change
planned net w n names codes change formed tabled can narrow room is fits adds = record {
  few = omega (arith, room.room, adds);
  fits = fits;
  formed = subst WellFormed (sym is) (behind_formed net n names codes formed (able net n names codes can room) can.unseen.unseen);
  makes = record { number = n; net = tabled; can = can; narrow = narrow; room = room; new_is = is };
}

-- a reader's table is too wide, or the numbers don't suffice
pub wide_fails : (net : NetParts) (n : ℕ) (names : List (List ℕ)) (codes : List Code) → CanEncode net n names codes → (HasNarrowReaders net.nets n codes → ⊥) → EncodeRow names codes net n Wide
wide_fails net n names codes can wide = inr (can.unseen, inr (can.plain, inr (can.form, inr (can.fresh, inl (wide, refl)))))

pub room_fails : (net : NetParts) (n : ℕ) (names : List (List ℕ)) (codes : List Code) → CanEncode net n names codes → HasNarrowReaders net.nets n codes → (HasRoomFor net.nets (length names) → ⊥) → EncodeRow names codes net n Nets
room_fails net n names codes can narrow full = inr (can.unseen, inr (can.plain, inr (can.form, inr (can.fresh, inr (narrow, inl (full, refl))))))

-- ---- its nets, one by one

-- the net of a bit, with one of these names
record IsBit (names : List (List ℕ)) (i : ℕ) (now : Option FlatNet) : Type 0 where
  name : List ℕ
  table : Cover
  low : i < length names
  listed : among name names ≡ true
  is : now ≡ made_net (record { name = name; values = 2; table = table })

bit_at : (codes : List Code) (c : Cover) (k : ℕ) (names : List (List ℕ)) (i : ℕ) → (slot (map made_net (bit_nets_from codes c k names)) i ≡ None) ⊎ IsBit names i (slot (map made_net (bit_nets_from codes c k names)) i)
bit_at codes c k [] i = inl refl
bit_at codes c k (w ∷ ws) zero = inr (record { name = w; table = bit_table codes k c; low = omega arith; listed = or_left (same_word w w) (among w ws) (same_word_refl w); is = refl })
bit_at codes c k (w ∷ ws) (suc i) =
    ⊎_elim
    (λ (none : slot (map made_net (bit_nets_from codes c (k + 1) ws)) i ≡ None). inl none)
    (λ (bit : IsBit ws i (slot (map made_net (bit_nets_from codes c (k + 1) ws)) i)).
    inr (record { name = bit.name; table = bit.table; low = omega (arith, bit.low); listed = or_right (same_word bit.name w) (among bit.name ws) bit.listed; is = bit.is }))
    (bit_at codes c (k + 1) ws i)

bits_at : (codes : List Code) (t : Option Cover) (names : List (List ℕ)) (i : ℕ) → (slot (map made_net (bit_nets codes t names)) i ≡ None) ⊎ IsBit names i (slot (map made_net (bit_nets codes t names)) i)
bits_at codes None names i = inl refl
bits_at codes (Some c) names i = bit_at codes c 0 names i

-- what is at a number behind the encoding of n: nothing, a net like the one that was there, or the net of a bit
data IsBehind (old : List (Option FlatNet)) (names : List (List ℕ)) (n k : ℕ) (now : Option FlatNet) : Type 0 where
  Gone : now ≡ None → IsBehind old names n k now
  Stayed : (k ≡ n → ⊥) → IsAlike (slot old k) now → IsBehind old names n k now
  Came : (i : ℕ) → k ≡ length old + i → IsBit names i now → IsBehind old names n k now

module _ (codes : List Code) (names : List (List ℕ)) (n : ℕ) (nets : List (Option FlatNet)) where
  abbrev new_table : Cover → Cover
  new_table = reader_coded (coding_of n (length nets) codes)

  abbrev left : List (Option FlatNet)
  left = set (rewritten new_table n nets) n None

  abbrev bits : List (Option FlatNet)
  bits = map made_net (bit_nets codes (table_in (slot nets n)) names)

  left_long : length left ≡ length nets
  unfolding rewritten
  left_long = length-set (rewritten new_table n nets) n None ∙ length-map nets (rewired new_table n)

  front : (k : ℕ) → k < length nets → IsBehind nets names n k (slot (left ++ bits) k)
  front k low =
      let here : slot (left ++ bits) k ≡ slot left k = get_or_append_left left bits None k (omega (arith, left_long)) in
      let gone = IsWritten-gone (rewritten new_table n nets) n in
      ⊎_elim
      (λ (e : k ≡ n). Gone (here ∙ (ap (slot left) e ∙ gone.here)))
      (λ (other : k ≡ n → ⊥). Stayed other (subst (IsAlike (slot nets k)) (sym (here ∙ gone.others k other)) ((IsReformed-rewritten new_table n nets).each k)))
      (cases_eq k n)

  back : (i : ℕ) → IsBehind nets names n (length nets + i) (slot (left ++ bits) (length nets + i))
  back i =
      let at : slot (left ++ bits) (length nets + i) ≡ slot bits i = ap (λ l. slot (left ++ bits) (l + i)) (sym left_long) ∙ get_or-append-add left bits i None in
      ⊎_elim
      (λ (none : slot bits i ≡ None). Gone (at ∙ none))
      (λ (bit : IsBit names i (slot bits i)). Came i refl (subst (IsBit names i) (sym at) bit))
      (bits_at codes (table_in (slot nets n)) names i)

  behind : (k : ℕ) → IsBehind nets names n k (slot (nets_coded codes names n nets) k)
  unfolding nets_coded
  behind k =
      ⊎_elim
      (λ (low : k < length nets). front k low)
      (λ (high : length nets ≤ k). let e : length nets + (k - length nets) ≡ k = omega arith in subst (λ j. IsBehind nets names n j (slot (left ++ bits) j)) e (back (k - length nets)))
      (cases_lt k (length nets))

-- ---- the network behind

encoded_nets : (old : NetParts) (w : List ℕ) (names : List (List ℕ)) (codes : List Code) (new : NetParts) (r : Encodes old w names codes new) (k : ℕ) → IsBehind old.nets names r.number k (slot new.nets k)
unfolding net_coded with_nets
encoded_nets old w names codes new r k =
    subst (λ (p : NetParts). IsBehind old.nets names r.number k (slot p.nets k)) (sym r.new_is) (behind codes names r.number old.nets k)

pub encoded_few : (old : NetParts) (w : List ℕ) (names : List (List ℕ)) (codes : List Code) (new : NetParts) → Encodes old w names codes new
    → (k : ℕ) → (values_in (slot new.nets k) ≤ values_in (slot old.nets k)) ⊎ (values_in (slot new.nets k) ≤ 2)
encoded_few old w names codes new r k = by (encoded_nets old w names codes new r k)
  where
    by : IsBehind old.nets names r.number k (slot new.nets k) → (values_in (slot new.nets k) ≤ values_in (slot old.nets k)) ⊎ (values_in (slot new.nets k) ≤ 2)
    by (Gone none) = let zero_values : values_in (slot new.nets k) ≡ 0 = ap values_in none in inr (omega (arith, zero_values))
    by (Stayed other like) = inl (omega (arith, like.values))
    by (Came i at bit) = let two : values_in (slot new.nets k) ≡ 2 = ap values_in bit.is in inr (omega (arith, two))

pub encoded_short : (old : NetParts) (w : List ℕ) (names : List (List ℕ)) (codes : List Code) (new : NetParts) → Encodes old w names codes new
    → (k : ℕ) → length (name_in (slot old.nets k)) ≤ MAX_WORD_BYTES → length (name_in (slot new.nets k)) ≤ MAX_WORD_BYTES
encoded_short old w names codes new r k short = by (encoded_nets old w names codes new r k)
  where
    by : IsBehind old.nets names r.number k (slot new.nets k) → length (name_in (slot new.nets k)) ≤ MAX_WORD_BYTES
    by (Gone none) = let no_name : name_in (slot new.nets k) ≡ [] = ap name_in none in omega (arith, ap length no_name)
    by (Stayed other like) = omega (arith, ap length like.name, short)
    by (Came i at bit) =
        let named : name_in (slot new.nets k) ≡ bit.name = ap name_in bit.is in
        omega (arith, ap length named, (new_among old.nets names bit.name r.can.fresh.each bit.listed).short)

module _ (old : NetParts) (w : List ℕ) (names : List (List ℕ)) (codes : List Code) (new : NetParts) (formed : WellFormed old) (r : Encodes old w names codes new) where
  can_be : IsEncodable old r.number names codes
  can_be = able old r.number names codes r.can r.room

  pub encoded_formed : WellFormed new
  encoded_formed = subst WellFormed (sym r.new_is) (behind_formed old r.number names codes formed can_be r.can.unseen.unseen)

  pub encoded_means : SameMeaning (of_net new) (of_net old)
  encoded_means =
      let P : NetParts → Type 0 = λ p. SameMeaning (of_net p) (of_net old) in
      subst P (sym r.new_is) (behind_means old r.number names codes formed can_be r.can.unseen.unseen)

  pub encoded_keeps_total : (k : ℕ) → (k ≡ r.number → ⊥) → IsTotalNet old.nets k → IsTotalNet new.nets k
  encoded_keeps_total k other total = subst (λ (p : NetParts). IsTotalNet p.nets k) (sym r.new_is) (behind_total old r.number names codes formed can_be k other total)

  pub encoded_bits_total : (i : ℕ) → i < length names → IsTotalNet old.nets r.number → IsTotalNet new.nets (length old.nets + i)
  encoded_bits_total i low total = subst (λ (p : NetParts). IsTotalNet p.nets (length old.nets + i)) (sym r.new_is) (behind_total_bits old r.number names codes formed can_be i low total)

  -- each other total table stays total, and the tables of the bits are
  pub encoded_total : ((k : ℕ) (d : Cover) → table_in (slot old.nets k) ≡ Some d → IsTotal old.nets d) → (k : ℕ) (c : Cover) → table_in (slot new.nets k) ≡ Some c → IsTotal new.nets c
  encoded_total total k c table = by (encoded_nets old w names codes new r k)
    where
      is_total : IsTotalNet new.nets k → IsTotal new.nets c
      is_total t = subst (IsTotal new.nets) (same_Some t.cover c (sym (ap table_in t.held ∙ t.table) ∙ table)) t.total

      was_total : (j : ℕ) (d : Cover) → table_in (slot old.nets j) ≡ Some d → IsTotalNet old.nets j
      was_total j d e = total_net old.nets j d e (total j d e)

      stayed : (k ≡ r.number → ⊥) → (t : Option Cover) → table_in (slot old.nets k) ≡ t → is_some t ≡ true → IsTotal new.nets c
      stayed other None e some = absurd (false≢true some)
      stayed other (Some d) e some = is_total (encoded_keeps_total k other (was_total k d e))

      by : IsBehind old.nets names r.number k (slot new.nets k) → IsTotal new.nets c
      by (Gone none) = let bad : None ≡ Some c = sym (ap table_in none) ∙ table in absurd cc
      by (Stayed other like) = stayed other (table_in (slot old.nets k)) refl (sym like.tabled ∙ ap (λ t. is_some t) table)
      by (Came i at bit) =
          is_total (subst (IsTotalNet new.nets) (sym at) (encoded_bits_total i bit.low (was_total r.number r.can.plain.cover r.can.plain.table)))
