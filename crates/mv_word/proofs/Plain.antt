-- The table of the bytes of names, checked entry by entry; and names of such bytes.
use Rattle.std.proofs.Common.{◌≡◌, ℕ, zero, suc, ◌<◌, Bool, true, false, not, ◌&&◌, List, [], ◌∷◌, Decides, refl, ◌∙◌, ap, get_or, length}
use Rattle.std.specs.Prelude.{◌==◌, ◌||◌, nat_lt, codes}
use Rattle.std.specs.List.{list_all, list_any}
use Rattle.std.proofs.lemmas.Bool.Decides.{Decides-below_and}
use Rattle.mv_base.specs.Names.{same_word, begins_with, ends_with, is_visible, is_bracketed, is_word, is_net_name}
use Rattle.mv_word.specs.declared.names.TheConstants.{PLAIN}
use Rattle.mv_word.specs.Plain.{is_plain}

abbrev same : Bool → Bool → Bool
same true t = t
same false t = not t

same-decides : (s t : Bool) → Decides (same s t) (s ≡ t)
same-decides true true = (λ _. refl, λ _. refl)
same-decides true false = (λ e. cc, λ e. cc)
same-decides false true = (λ e. cc, λ e. cc)
same-decides false false = (λ _. refl, λ _. refl)

abbrev entries_match : ℕ → Bool
entries_match zero = true
entries_match (suc n) = same (get_or PLAIN n false) (is_plain n) && entries_match n

entries_checked : entries_match 256 ≡ true
entries_checked = refl

pub table_entry : (b : ℕ) → b < 256 → get_or PLAIN b false ≡ is_plain b
table_entry =
    (Decides-below_and (λ b. same (get_or PLAIN b false) (is_plain b)) (λ b. get_or PLAIN b false ≡ is_plain b) entries_match (λ b. same-decides _ _) refl (λ _. refl) 256).0 entries_checked

-- ---- names

abbrev seen : ℕ → Bool
seen b = is_visible b && not (b == 35)

abbrev comma : ℕ → Bool
comma b = b == 44

step : (s c vs cs : Bool) → ((s && not c) && (vs && not cs)) ≡ ((s && vs) && not (c || cs))
step true true true cs = refl
step true true false cs = refl
step true false vs cs = refl
step false c vs cs = refl

-- bytes that stand in names are those that can be seen, and none is a comma
all_plain : (w : List ℕ) → list_all is_plain w ≡ (list_all seen w && not (list_any comma w))
all_plain [] = refl
all_plain (b ∷ bs) = and_assoc_at b ∙ (ap (λ x. (seen b && not (comma b)) && x) (all_plain bs) ∙ step (seen b) (comma b) (list_all seen bs) (list_any comma bs))
  where
    and_assoc_at : (b : ℕ) → (is_plain b && list_all is_plain bs) ≡ ((seen b && not (comma b)) && list_all is_plain bs)
    and_assoc_at b = refl

named_by : (n v c k a b e : Bool) → (((((n && (v && not c)) && k) && a) && b) && e) ≡ ((((((n && v) && k) && a) && b) && not c) && e)
named_by false v c k a b e = refl
named_by true false c k a b e = refl
named_by true true c false a b e = and_none c e
  where
    and_none : (c e : Bool) → (((((not c) && false) && a) && b) && e) ≡ (((((false && a) && b) && not c)) && e)
    and_none true e = refl
    and_none false e = refl
named_by true true true true false b e = refl
named_by true true false true false b e = refl
named_by true true true true true false e = refl
named_by true true false true true false e = refl
named_by true true true true true true e = refl
named_by true true false true true true e = refl

-- so are names of nets
pub net_named : (w : List ℕ)
    → (((((nat_lt 0 (length w) && list_all is_plain w) && not (is_bracketed w)) && not (same_word w (codes "->"))) && not (begins_with 46 w)) && not (ends_with 92 w))
    ≡ is_net_name w
unfolding is_net_name is_word
net_named w =
    let some = nat_lt 0 (length w) in
    let named : Bool → Bool = λ p. ((((some && p) && not (is_bracketed w)) && not (same_word w (codes "->"))) && not (begins_with 46 w)) && not (ends_with 92 w) in
    ap named (all_plain w)
    ∙ named_by some (list_all seen w) (list_any comma w) (not (is_bracketed w)) (not (same_word w (codes "->"))) (not (begins_with 46 w)) (not (ends_with 92 w))
