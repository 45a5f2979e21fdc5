-- The entries of sets, piece by piece as they are written.
use Rattle.std.proofs.Common.{◌≡◌, ◌∙◌, ℕ, zero, suc, ◌+◌, ◌<◌, ◌≤◌, Bool, true, false, not, ◌&&◌, nat_eq, IsTrue, is_some, Option, Some, None, List, [], ◌∷◌, ◌++◌, length, codes, decimal, refl, sym, ap, subst, append_assoc, arith}
use Rattle.std.specs.List.{flat_map}
use Rattle.std.proofs.lemmas.Bool.{false≢true, false_from_ne_true, eqb-true, eq-eqb}
use Rattle.std.proofs.lemmas.Bool.Decides.{Decides-ltb}
use Rattle.std.proofs.lemmas.Fmt.{decimal_digit}
use Rattle.std.proofs.lemmas.List.FromFn.{length-map-range_with_len, get_or-map-range_with_len}
use Rattle.mv_base.specs.Set.{has, empty, one, full, minus, Within, IsSet}
use Rattle.mv_base.specs.declared.limits.TheConstants.{MAX_VALUES}
use Rattle.mv_base.proofs.Sets.{has-empty, has-one, has-full, has-minus, same_set, IsLeast, least_of}
use Rattle.mv_cover.specs.Lines.{IsOutput}
use Rattle.mv_net.specs.declared.parts.FlatNet.{FlatNet}
use Rattle.mv_net.specs.declared.parts.NetParts.{NetParts}
use Rattle.mv_net.specs.Nets.{slot, values_in, spelled_values, spelled_in}
use Rattle.mv_net.specs.Formed.{WellFormed}
use Rattle.mv_net.specs.Index.{is_held, value_names_in}
use Rattle.mv_text.specs.Text.{value_at, names_in_set, with_comma, one_or_list, entry_word}
use Rattle.mv_write.specs.Walk.{AreValues, named}
use Rattle.mv_write.proofs.Members.{left-within, member-below, names-least, names-empty}

-- ---- names of values

spelled-long : (count : ℕ) (names : List (List ℕ)) → AreValues count names → length (spelled_values count names) ≡ count
spelled-long count [] a = length-map-range_with_len decimal 0 count
spelled-long count (w ∷ ws) a = a.each (omega arith)

spelled-at : (count : ℕ) (names : List (List ℕ)) (v : ℕ) → v < count → value_at (spelled_values count names) v ≡ named names v
spelled-at count [] v low = get_or-map-range_with_len decimal 0 count v v [] low (omega arith)
spelled-at count (w ∷ ws) v low = refl

-- a set of a net's values, its least member, and the others
pub record IsParted (count : ℕ) (names : List (List ℕ)) (set v others : ℕ) : Type 0 where
  pub values : AreValues count names
  pub within : Within set (full count)
  pub least : IsLeast set v
  pub rest : others ≡ minus set (one v)

pub parted : (count : ℕ) (names : List (List ℕ)) (set v others : ℕ) → AreValues count names → Within set (full count) → IsTrue (has set v) → ((u : ℕ) → IsTrue (has set u) → v ≤ u) → others ≡ minus set (one v) → IsParted count names set v others
parted count names set v others a within member least rest = record { values = a; within = within; least = record { member = member; least = least }; rest = rest }

pub least-small : (count : ℕ) (names : List (List ℕ)) (set v others : ℕ) → IsParted count names set v others → v < MAX_VALUES
least-small count names set v others p =
    let low = member-below set v count p.within p.least.member in
    let few = p.values.few in
    omega arith

pub least-named : (count : ℕ) (names : List (List ℕ)) (set v others : ℕ) → IsParted count names set v others → 0 < length names → v < length names
least-named count names set v others p some =
    let long = p.values.each some in
    let low = member-below set v count p.within p.least.member in
    omega arith

pub others-within : (count : ℕ) (names : List (List ℕ)) (set v others : ℕ) → IsParted count names set v others → Within others (full count)
others-within count names set v others p =
    let P : ℕ → Type 0 = λ s. Within s (full count) in
    subst P (sym p.rest) (left-within set v count p.within)

-- the names of the values are that of the least and those of the others
names-parted : (count : ℕ) (names : List (List ℕ)) (set v others : ℕ) → IsParted count names set v others → names_in_set (spelled_values count names) set ≡ named names v ∷ names_in_set (spelled_values count names) others
names-parted count names set v others p =
    let values = spelled_values count names in
    let low = member-below set v count p.within p.least.member in
    let long = spelled-long count names p.values in
    names-least values set v p.least (omega arith) ∙ (λ i. spelled-at count names v low i ∷ names_in_set values (sym p.rest i))

pub values-more : (count : ℕ) (names : List (List ℕ)) (set v others : ℕ) → IsParted count names set v others
    → flat_map with_comma (names_in_set (spelled_values count names) set) ≡ codes "," ++ (named names v ++ flat_map with_comma (names_in_set (spelled_values count names) others))
values-more count names set v others p = ap (flat_map with_comma) (names-parted count names set v others p)

pub values-none : (count : ℕ) (names : List (List ℕ)) (set : ℕ) → set ≡ empty → flat_map with_comma (names_in_set (spelled_values count names) set) ≡ []
values-none count names set e =
    let values = spelled_values count names in
    ap (λ s. flat_map with_comma (names_in_set values s)) e ∙ ap (flat_map with_comma) (names-empty values)

-- ---- entries

pub entry-all : (count : ℕ) (names : List (List ℕ)) (set : ℕ) → AreValues count names → nat_eq set (full count) ≡ true → entry_word (spelled_values count names) set ≡ codes "-"
unfolding entry_word
entry-all count names set a e =
    let whole : nat_eq set (full (length (spelled_values count names))) ≡ true = ap (λ n. nat_eq set (full n)) (spelled-long count names a) ∙ e in
    rw whole refl

entry-part : (count : ℕ) (names : List (List ℕ)) (set : ℕ) → AreValues count names → nat_eq set (full count) ≡ false → entry_word (spelled_values count names) set ≡ one_or_list (names_in_set (spelled_values count names) set)
unfolding entry_word
entry-part count names set a e =
    let part : nat_eq set (full (length (spelled_values count names))) ≡ false = ap (λ n. nat_eq set (full n)) (spelled-long count names a) ∙ e in
    rw part refl

entry-parted : (count : ℕ) (names : List (List ℕ)) (set v others : ℕ) → IsParted count names set v others → nat_eq set (full count) ≡ false
    → entry_word (spelled_values count names) set ≡ one_or_list (named names v ∷ names_in_set (spelled_values count names) others)
entry-parted count names set v others p part =
    entry-part count names set p.values part ∙ ap one_or_list (names-parted count names set v others p)

pub entry-one : (count : ℕ) (names : List (List ℕ)) (set v others : ℕ) → IsParted count names set v others → nat_eq set (full count) ≡ false → others ≡ empty
    → entry_word (spelled_values count names) set ≡ named names v
entry-one count names set v others p part none =
    let values = spelled_values count names in
    entry-parted count names set v others p part ∙ ap (λ ws. one_or_list (named names v ∷ ws)) (ap (names_in_set values) none ∙ names-empty values)

no_both : (x : Bool) → (x && not x) ≡ false
no_both true = refl
no_both false = refl

-- the set of one value
alone-parted : (count : ℕ) (names : List (List ℕ)) (v : ℕ) → AreValues count names → Within (one v) (full count) → IsParted count names (one v) v empty
alone-parted count names v a within = record {
  values = a;
  within = within;
  least = record { member = has-one v v ∙ eq-eqb v v refl; least = λ u h. let e = eqb-true u v (sym (has-one v u) ∙ h) in omega arith };
  rest = same_set empty (minus (one v) (one v)) (λ u. has-empty u ∙ sym (has-minus (one v) (one v) u ∙ no_both (has (one v) u)));
}

-- of a net of more values it isn't the full set
alone-part : (count v : ℕ) → 1 < count → nat_eq (one v) (full count) ≡ false
alone-part count v more =
    false_from_ne_true _ (λ y.
    let same : one v ≡ full count = eqb-true (one v) (full count) y in
    let is : (u : ℕ) → u < 2 → u ≡ v = λ u low. eqb-true u v (sym (has-one v u) ∙ (ap (λ s. has s u) same ∙ (has-full count u ∙ (Decides-ltb u count).1 (omega arith)))) in
    let zero_is = is 0 (omega arith) in
    let one_is = is 1 (omega arith) in
    absurd (omega arith))

-- a value below ten, alone, of a net of more values that have no names
pub entry-digit : (count v : ℕ) → AreValues count [] → IsOutput count (one v) → (count ≡ 1 → ⊥) → v < 10 → entry_word (spelled_values count []) (one v) ≡ (48 + v) ∷ []
entry-digit count v a set more low =
    let p = alone-parted count [] v a set.within in
    let small = member-below (one v) v count set.within p.least.member in
    entry-one count [] (one v) v empty p (alone-part count v (by count small more)) refl ∙ decimal_digit v low
  where
    by : (k : ℕ) → v < k → (k ≡ 1 → ⊥) → 1 < k
    by zero small more = absurd (omega arith)
    by (suc zero) small more = absurd (more refl)
    by (suc (suc k)) small more = omega arith

several : (w : List ℕ) (ws : List (List ℕ)) → (ws ≡ [] → ⊥) → one_or_list (w ∷ ws) ≡ codes "(" ++ (w ++ (flat_map with_comma ws ++ codes ")"))
several w [] some = absurd (some refl)
several w (v ∷ ws) some = ap (λ t. 40 ∷ t) (append_assoc w (flat_map with_comma (v ∷ ws)) (41 ∷ []))

is_some_name : (w : List ℕ) (ws : List (List ℕ)) → w ∷ ws ≡ [] → ⊥
is_some_name w ws e = cc

-- a set that isn't empty has a name
names-some : (count : ℕ) (names : List (List ℕ)) (set : ℕ) → AreValues count names → Within set (full count) → (set ≡ empty → ⊥) → names_in_set (spelled_values count names) set ≡ [] → ⊥
names-some count names set a within some e =
    let small : IsSet set = record { below = λ u h. let low = member-below set u count within h in let few = a.few in omega arith } in
    let least = least_of set small some in
    let p = parted count names set least.0 (minus set (one least.0)) a within least.1.member least.1.least refl in
    is_some_name _ _ (sym (names-parted count names set least.0 (minus set (one least.0)) p) ∙ e)

pub entry-more : (count : ℕ) (names : List (List ℕ)) (set v others : ℕ) → IsParted count names set v others → nat_eq set (full count) ≡ false → (others ≡ empty → ⊥)
    → entry_word (spelled_values count names) set ≡ codes "(" ++ (named names v ++ (flat_map with_comma (names_in_set (spelled_values count names) others) ++ codes ")"))
entry-more count names set v others p part some =
    let values = spelled_values count names in
    entry-parted count names set v others p part ∙ several (named names v) (names_in_set values others) (names-some count names others p.values (others-within count names set v others p) some)

-- ---- the values of a net

pub spelled-is : (f : Option FlatNet) → IsTrue (is_some f) → spelled_values (values_in f) (value_names_in f) ≡ spelled_in f
spelled-is None held = absurd (false≢true held)
spelled-is (Some f) held = refl

pub are-values : (net : NetParts) (n : ℕ) → WellFormed net → IsTrue (is_held net.nets n) → AreValues (values_in (slot net.nets n)) (value_names_in (slot net.nets n))
are-values net n formed held = by_slot (slot net.nets n) refl held
  where
    by_slot : (f : Option FlatNet) → slot net.nets n ≡ f → IsTrue (is_some f) → AreValues (values_in f) (value_names_in f)
    by_slot None e h = absurd (false≢true h)
    by_slot (Some f) e h =
        let is = formed.nets n f e in
        record { few = is.few; each = is.named.each }
