-- The declarations that the nets of a list need: no net has two, and each net finds its own values in them.
use Rattle.std.proofs.Common.{◌≡◌, ◌∙◌, ℕ, zero, suc, Bool, true, false, not, ◌||◌, List, [], ◌∷◌, length, nat_eq, refl, sym, ap, subst, ⊎_elim, arith}
use Rattle.std.specs.Prelude.{Option, Some, None, if◌then◌else◌}
use Rattle.std.specs.List.{flat_map}
use Rattle.std.proofs.lemmas.Bool.{cases_Bool, cond-true, cond-false, and_parts, and_from, or_from, false_from_ne_true, eqb-true, not_from_false}
use Rattle.std.proofs.lemmas.Fmt.{decimal_digit}
use Rattle.mv_base.specs.Names.{same_word, among, names_differ}
use Rattle.mv_base.proofs.NameLemmas.{same_word_is, same_word_refl, place_of-none}
use Rattle.mv_design.specs.declared.design.Decl.{Decl}
use Rattle.mv_design.specs.Values.{two_values, values_of, declared_of}
use Rattle.mv_decl.proofs.Kept.{not_found}
use Rattle.mv_net.specs.declared.parts.FlatNet.{FlatNet}
use Rattle.mv_net.specs.Nets.{slot, spelled_values}
use Rattle.mv_net.specs.Names.{AreNamed}
use Rattle.mv_text.specs.Text.{is_plain_pair}
use Rattle.mv_text_back.proofs.TextModel.{is_reset_net, needs_none}

abbrev pub decl_of : FlatNet → Decl
decl_of f = record { net = f.name; values = spelled_values f.values f.value_names }

abbrev pub decl_in : Option FlatNet → List Decl
decl_in None = []
decl_in (Some f) = if needs_none f then [] else decl_of f ∷ []

abbrev pub declared : List (Option FlatNet) → List Decl
declared fs = flat_map decl_in fs

-- ---- names

abbrev HasOther : List ℕ → List (Option FlatNet) → Type 0
HasOther w fs = (m : ℕ) (g : FlatNet) → slot fs m ≡ Some g → w ≡ g.name → ⊥

other_word : (w v : List ℕ) → (w ≡ v → ⊥) → same_word w v ≡ false
other_word w v h = false_from_ne_true (same_word w v) (λ y. h (same_word_is w v y))

absent : (w : List ℕ) (fs : List (Option FlatNet)) → HasOther w fs → among w (declared_of (declared fs)) ≡ false
absent w [] h = refl
absent w (None ∷ fs) h = absent w fs (λ m g e. h (suc m) g e)
absent w (Some f ∷ fs) h =
    let rest = absent w fs (λ m g e. h (suc m) g e) in
    ⊎_elim
    (λ (y : needs_none f ≡ true). rw y rest)
    (λ (n : needs_none f ≡ false). rw n (or_from (same_word w f.name) _ (other_word w f.name (λ e. h 0 f refl e)) rest))
    (cases_Bool (needs_none f))

named-tail : (o : Option FlatNet) (fs : List (Option FlatNet)) → AreNamed (o ∷ fs) → AreNamed fs
named-tail o fs named = record { apart = λ n m f g p q e. (let same = named.apart (suc n) (suc m) f g p q e in omega arith) }

head_other : (f : FlatNet) (fs : List (Option FlatNet)) → AreNamed (Some f ∷ fs) → HasOther f.name fs
head_other f fs named = λ m g held e. (let same = named.apart 0 (suc m) f g refl held e in omega arith)

pub declared-differ : (fs : List (Option FlatNet)) → AreNamed fs → names_differ (declared_of (declared fs)) ≡ true
declared-differ [] named = refl
declared-differ (None ∷ fs) named = declared-differ fs (named-tail None fs named)
declared-differ (Some f ∷ fs) named =
    let rest = declared-differ fs (named-tail (Some f) fs named) in
    ⊎_elim
    (λ (y : needs_none f ≡ true). rw y rest)
    (λ (n : needs_none f ≡ false). rw n (and_from (not (among f.name (declared_of (declared fs)))) _ (not_from_false _ (absent f.name fs (head_other f fs named))) rest))
    (cases_Bool (needs_none f))

-- ---- values

nameless : (ws : List (List ℕ)) → nat_eq (length ws) 0 ≡ true → spelled_values 2 ws ≡ two_values
nameless [] e = rw (decimal_digit 0 (omega arith), decimal_digit 1 (omega arith)) refl
nameless (w ∷ ws) e = absurd (let none = eqb-true (length (w ∷ ws)) 0 e in omega arith)

-- a net that needs no declaration and is no reset net has the two values
plain-values : (f : FlatNet) → is_plain_pair f ≡ true → two_values ≡ spelled_values f.values f.value_names
plain-values f y =
    let p = and_parts (nat_eq f.values 2) (nat_eq (length f.value_names) 0) y in
    sym (ap (λ k. spelled_values k f.value_names) (eqb-true f.values 2 p.0) ∙ nameless f.value_names p.1)

plain_by : (reset plain : Bool) → reset ≡ false → (reset || plain) ≡ true → plain ≡ true
plain_by true plain e y = cc
plain_by false plain e y = y

values-head : (f : FlatNet) (fs : List (Option FlatNet)) → AreNamed (Some f ∷ fs) → is_reset_net f ≡ false
    → values_of (declared (Some f ∷ fs)) f.name ≡ spelled_values f.values f.value_names
values-head f fs named other =
    ⊎_elim
    (λ (y : needs_none f ≡ true). rw y (not_found (declared fs) f.name (place_of-none f.name (declared_of (declared fs)) (absent f.name fs (head_other f fs named))) ∙ plain-values f (plain_by (is_reset_net f) (is_plain_pair f) other y)))
    (λ (n : needs_none f ≡ false). rw n (cond-true _ _ _ (same_word_refl f.name)))
    (cases_Bool (needs_none f))

values-behind : (g : FlatNet) (fs : List (Option FlatNet)) (w : List ℕ) → (w ≡ g.name → ⊥) → values_of (declared (Some g ∷ fs)) w ≡ values_of (declared fs) w
values-behind g fs w other =
    ⊎_elim
    (λ (y : needs_none g ≡ true). rw y refl)
    (λ (n : needs_none g ≡ false). rw n (cond-false _ _ _ (other_word w g.name other)))
    (cases_Bool (needs_none g))

pub values-declared : (fs : List (Option FlatNet)) (n : ℕ) (f : FlatNet) → AreNamed fs → slot fs n ≡ Some f → is_reset_net f ≡ false
    → values_of (declared fs) f.name ≡ spelled_values f.values f.value_names
values-declared [] n f named held other = cc
values-declared (None ∷ fs) zero f named held other = cc
values-declared (None ∷ fs) (suc n) f named held other = values-declared fs n f (named-tail None fs named) held other
values-declared (Some g ∷ fs) zero f named held other =
    let same : g ≡ f = cc in
    let P : FlatNet → Type 0 = λ k. is_reset_net k ≡ false in
    subst (λ (k : FlatNet). values_of (declared (Some g ∷ fs)) k.name ≡ spelled_values k.values k.value_names) same (values-head g fs named (subst P (sym same) other))
values-declared (Some g ∷ fs) (suc n) f named held other =
    values-behind g fs f.name (λ e. (let same = named.apart (suc n) 0 f g held refl e in omega arith)) ∙ values-declared fs n f (named-tail (Some g) fs named) held other
