-- The nets of the bits: that they can come, and what their tables allow.
use Rattle.std.proofs.Common.{◌≡◌, ◌∙◌, ◌⊎◌, ℕ, zero, suc, ◌+◌, ◌-◌, ◌<◌, ◌≤◌, true, not, List, [], ◌∷◌, ◌++◌, length, Option, Some, None, inl, inr, refl, sym, ap, subst, ⊎_elim, arith}
use Rattle.std.specs.List.{list_all}
use Rattle.std.proofs.lemmas.Bool.{cases_lt, and_parts, or_left, or_right, not-true, false≢true}
use Rattle.std.proofs.lemmas.List.{get_or_append_left, get_or-append-add}
use Rattle.mv_base.specs.Names.{is_net_name, same_word, among, names_differ}
use Rattle.mv_base.proofs.NameLemmas.{same_word_refl}
use Rattle.mv_codes.specs.Codes.{bit_number, bit_of}
use Rattle.mv_codes.specs.Tables.{bit_table}
use Rattle.mv_codes.proofs.Images.{bit_allows}
use Rattle.mv_codes.proofs.Lawful.{bit_reads}
use Rattle.mv_cover.specs.declared.cover.Cover.{Cover}
use Rattle.mv_cover.specs.Covers.{allowed}
use Rattle.mv_cover.specs.Plain.{AllowsOne}
use Rattle.mv_entry.specs.declared.rule.Code.{Code}
use Rattle.mv_net.specs.declared.change.NewNet.{NewNet}
use Rattle.mv_net.specs.declared.parts.FlatNet.{FlatNet}
use Rattle.mv_net.specs.Changes.{made_net}
use Rattle.mv_net.specs.Formed.{IsCover}
use Rattle.mv_net.specs.Index.{HasName}
use Rattle.mv_net.specs.Nets.{slot}
use Rattle.mv_net.proofs.Known.{lines_readable, readable_below}
use Rattle.mv_net.proofs.Named.{HasName-moved}
use Rattle.mv_net.proofs.Stays.{KeepsNet-same, IsCover-kept}
use Rattle.mv_coding.specs.Nets.{bit_net, bit_nets_from}
use Rattle.mv_coding.proofs.Coming.{came, AreNewNets}
use Rattle.mv_coding.proofs.Standing.{Follows, AllFollow, TakeValues, AllAllow}

-- ---- they can come

-- a cover over nets is one over them and another
cover_added : (nets : List (Option FlatNet)) (f : Option FlatNet) (values : ℕ) (c : Cover) → IsCover nets values c → IsCover (nets ++ f ∷ []) values c
cover_added nets f values c is =
    IsCover-kept nets (nets ++ f ∷ []) values c
    (λ m r. KeepsNet-same nets (nets ++ f ∷ []) m (get_or_append_left nets (f ∷ []) None m (readable_below nets m (lines_readable nets values c.lines m is.lines r)))) is

-- a name among nets and one more is one of theirs, or the one's
name_added : (nets : List (Option FlatNet)) (m : NewNet) (j : ℕ) (w : List ℕ) → HasName (nets ++ made_net m ∷ []) j w → HasName nets j w ⊎ (m.name ≡ w)
name_added nets m j w has =
    ⊎_elim
    (λ (low : j < length nets). inl (HasName-moved (nets ++ made_net m ∷ []) nets j w (sym (get_or_append_left nets (made_net m ∷ []) None j low)) has))
    (λ (high : length nets ≤ j).
    let e : length nets + (j - length nets) ≡ j = omega arith in
    inr (last (j - length nets) (sym (get_or-append-add nets (made_net m ∷ []) (j - length nets) None) ∙ (ap (slot (nets ++ made_net m ∷ [])) e ∙ has.held))))
    (cases_lt j (length nets))
  where
    last : (i : ℕ) → slot (made_net m ∷ []) i ≡ Some has.net → m.name ≡ w
    last zero h = let e : came m ≡ has.net = cc in ap (λ (f : FlatNet). f.name) e ∙ has.is
    last (suc i) h = cc

pub bits_new : (codes : List Code) (c : Cover) (k : ℕ) (names : List (List ℕ)) (nets : List (Option FlatNet)) → ((i : ℕ) → IsCover nets 2 (bit_table codes i c)) → list_all is_net_name names ≡ true
    → ((w : List ℕ) (j : ℕ) → among w names ≡ true → HasName nets j w → ⊥) → names_differ names ≡ true → AreNewNets nets (bit_nets_from codes c k names)
bits_new codes c k [] nets covers lawful free differ = tt
bits_new codes c k (w ∷ ws) nets covers lawful free differ =
    let names = and_parts (is_net_name w) (list_all is_net_name ws) lawful in
    let apart = and_parts (not (among w ws)) (names_differ ws) differ in
    let other : (v : List ℕ) (j : ℕ) → among v ws ≡ true → HasName (nets ++ made_net (bit_net codes c k w) ∷ []) j v → ⊥ = λ v j in_rest has.
    ⊎_elim
    (λ (old : HasName nets j v). free v j (or_right (same_word v w) (among v ws) in_rest) old)
    (λ (new : w ≡ v). false≢true (sym (not-true (among w ws) apart.0) ∙ (ap (λ u. among u ws) new ∙ in_rest)))
    (name_added nets (bit_net codes c k w) j v has) in (
      record {
        kind = refl;
        some = omega arith;
        few = omega arith;
        value_names = refl;
        name = names.0;
        fresh = λ j has. free w j (or_left (same_word w w) (among w ws) (same_word_refl w)) has;
        cover = bit_table codes k c;
        table = refl;
        covers = covers k;
      },
      bits_new codes c (k + 1) ws (nets ++ made_net (bit_net codes c k w) ∷ []) (λ i. cover_added nets (made_net (bit_net codes c k w)) 2 (bit_table codes i c) (covers i)) names.1 other apart.1,
    )

-- ---- their tables

-- the table of a bit allows some value exactly where the net's own does
bit_follows : (codes : List Code) (k : ℕ) (c : Cover) → ((x : ℕ → ℕ) (v : ℕ) → allowed c x v ≡ true → v < length codes) → Follows c (bit_table codes k c)
bit_follows codes k c low = record {
  reads = record { each = λ m r. sym (bit_reads codes k m c) ∙ r };
  some = λ x v. record {
    value = bit_number (bit_of codes k v.value);
    is_allowed = ((bit_allows codes k c).bits x (bit_number (bit_of codes k v.value))).1 (v.value, low x v.value v.is_allowed, v.is_allowed, refl);
  };
  back = λ x b. let v = ((bit_allows codes k c).bits x b.value).0 b.is_allowed in record { value = v.0; is_allowed = v.2 };
}

pub bits_follow : (codes : List Code) (c : Cover) (k : ℕ) (names : List (List ℕ)) → ((x : ℕ → ℕ) (v : ℕ) → allowed c x v ≡ true → v < length codes) → AllFollow c (bit_nets_from codes c k names)
bits_follow codes c k [] low = tt
bits_follow codes c k (w ∷ ws) low = (bit_follows codes k c low, bits_follow codes c (k + 1) ws low)

-- the nets have values that are bits
pub bits_two : (codes : List Code) (c : Cover) (x : ℕ → ℕ) (first k : ℕ) (names : List (List ℕ)) → TakeValues x first (bit_nets_from codes c k names) → (i : ℕ) → i < length names → x (first + i) < 2
bits_two codes c x first k [] takes i low = absurd (omega arith)
bits_two codes c x first k (w ∷ ws) takes zero low = let e : first ≡ first + 0 = omega arith in subst (λ j. x j < 2) e takes.0
bits_two codes c x first k (w ∷ ws) takes (suc i) low =
    let e : (first + 1) + i ≡ first + suc i = omega arith in subst (λ j. x j < 2) e (bits_two codes c x (first + 1) (k + 1) ws takes.1 i (omega arith))

-- and where their tables allow them, they are those of the value that the net's table allows, if it allows one alone
pub bits_are : (codes : List Code) (c : Cover) (x : ℕ → ℕ) (v first k : ℕ) (names : List (List ℕ)) → AllowsOne c → allowed c x v ≡ true → AllAllow x first (bit_nets_from codes c k names)
    → (i : ℕ) → i < length names → x (first + i) ≡ (bit_number (bit_of codes (k + i) v))
bits_are codes c x v first k [] one is allow i low = absurd (omega arith)
bits_are codes c x v first k (w ∷ ws) one is allow zero low =
    let at : first + 0 ≡ first = omega arith in
    let place : k ≡ k + 0 = omega arith in
    let u = ((bit_allows codes k c).bits x (x first)).0 allow.0 in
    let same : u.0 ≡ v = one.one x u.0 v u.2 is in
    ap x at ∙ (sym u.3 ∙ (λ i. bit_number (bit_of codes (place i) (same i))))
bits_are codes c x v first k (w ∷ ws) one is allow (suc i) low =
    let at : first + suc i ≡ (first + 1) + i = omega arith in
    let place : (k + 1) + i ≡ k + suc i = omega arith in
    ap x at ∙ (bits_are codes c x v (first + 1) (k + 1) ws one is allow.1 i (omega arith) ∙ ap (λ j. bit_number (bit_of codes j v)) place)
