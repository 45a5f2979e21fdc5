-- Labels written at the nets of entries: what is there then, and that what was there before comes back.
use Rattle.std.proofs.Common.{◌≡◌, ℕ, zero, suc, ◌<◌, ◌≤◌, false, List, [], ◌∷◌, length, get_or, set, refl, sym, ap, ◌∙◌, ⊎_elim, arith, All}
use Rattle.std.specs.Prelude.{nat_eq}
use Rattle.std.proofs.lemmas.Bool.{cases_eq, or_parts, or_from, eqb-false, ne_eqb}
use Rattle.std.proofs.lemmas.List.{length-set, get_or-set_same, get_or-set_other, ext_get_or}
use Rattle.std.proofs.lemmas.List.Elements.{All-nil, All-cons, All-head, All-tail, All-weaker, All-from_get_or}
use Rattle.mv_dag.specs.declared.moves.Entry.{Entry}
use Rattle.mv_dag.specs.Ordered.{at}
use Rattle.mv_dag.specs.Moves.{has_entry, IsEntry, WasAt, written}

-- ---- the entry at a place

abbrev pub no_entry : Entry
no_entry = record { label = 0; net = record { 0 = 0 } }

abbrev pub net_at : List Entry → ℕ → ℕ
net_at entries k = (get_or entries k no_entry).net.0

abbrev pub label_at : List Entry → ℕ → ℕ
label_at entries k = (get_or entries k no_entry).label

-- the entry is of another net
abbrev pub IsNotOf : ℕ → Entry → Type 0
IsNotOf x e = e.net.0 ≡ x → ⊥

-- the net of the entry has a label
abbrev pub IsSmall : List ℕ → Entry → Type 0
IsSmall labels e = e.net.0 < length labels

-- no two entries are of one net
abbrev pub AreApart : List Entry → Type 0
AreApart nets = (i j : ℕ) → i < j → j < length nets → net_at nets i ≡ net_at nets j → ⊥

pub all_not : (entries : List Entry) (x : ℕ) → has_entry entries x ≡ false → All (IsNotOf x) entries
all_not [] x f = All-nil (IsNotOf x)
all_not (e ∷ entries) x f =
    let p = or_parts (nat_eq e.net.0 x) (has_entry entries x) f in
    All-cons (IsNotOf x) e entries (eqb-false e.net.0 x p.0) (all_not entries x p.1)

-- ---- what is there then

pub length-written : (labels : List ℕ) (nets places : List Entry) → length (written labels nets places) ≡ length labels
length-written labels [] places = refl
length-written labels (e ∷ nets) [] = refl
length-written labels (e ∷ nets) (f ∷ places) = length-written (set labels e.net.0 f.label) nets places ∙ length-set labels e.net.0 f.label

pub at-written_other : (labels : List ℕ) (nets places : List Entry) (x : ℕ) → All (IsNotOf x) nets → at (written labels nets places) x ≡ at labels x
at-written_other labels [] places x none = refl
at-written_other labels (e ∷ nets) [] x none = refl
at-written_other labels (e ∷ nets) (f ∷ places) x none =
    at-written_other (set labels e.net.0 f.label) nets places x (All-tail (IsNotOf x) e nets none)
    ∙ get_or-set_other labels e.net.0 x f.label 0 (λ y. All-head (IsNotOf x) e nets none (sym y))

pub at-written : (labels : List ℕ) (nets places : List Entry) (k : ℕ) → length nets ≤ length places → All (IsSmall labels) nets → AreApart nets → k < length nets → at (written labels nets places) (net_at nets k) ≡ label_at places k
at-written labels [] places k fits small apart h = absurd (omega arith)
at-written labels (e ∷ nets) [] k fits small apart h = absurd (omega arith)
at-written labels (e ∷ nets) (f ∷ places) zero fits small apart h =
    at-written_other (set labels e.net.0 f.label) nets places e.net.0
    (All-from_get_or (IsNotOf e.net.0) nets no_entry (λ i l y. apart 0 (suc i) (omega arith) (omega arith) (sym y)))
    ∙ get_or-set_same labels e.net.0 f.label 0 (All-head (IsSmall labels) e nets small)
at-written labels (e ∷ nets) (f ∷ places) (suc k) fits small apart h =
    at-written (set labels e.net.0 f.label) nets places k (omega arith)
    (All-weaker (IsSmall labels) (IsSmall (set labels e.net.0 f.label)) (λ x s. let l = length-set labels e.net.0 f.label in omega arith) nets (All-tail (IsSmall labels) e nets small))
    (λ i j l r. apart (suc i) (suc j) (omega arith) (omega arith))
    (omega arith)

-- ---- what was there comes back

abbrev SameElsewhere : List ℕ → List ℕ → List Entry → Type 0
SameElsewhere before now entries = (n : ℕ) → has_entry entries n ≡ false → at now n ≡ at before n

one_more : (before now : List ℕ) (e : Entry) (entries : List Entry) → length now ≡ length before → IsEntry before e → SameElsewhere before now (e ∷ entries) → SameElsewhere before (set now e.net.0 e.label) entries
one_more before now e entries long h others n f =
    ⊎_elim
    (λ (y : n ≡ e.net.0).
    ap (λ k. get_or (set now e.net.0 e.label) k 0) y
    ∙ (get_or-set_same now e.net.0 e.label 0 (let l = h.0 in omega arith) ∙ (h.1 ∙ ap (at before) (sym y))))
    (λ (no : n ≡ e.net.0 → ⊥).
    get_or-set_other now e.net.0 n e.label 0 no
    ∙ others n (or_from (nat_eq e.net.0 n) (has_entry entries n) (ne_eqb e.net.0 n (λ z. no (sym z))) f))
    (cases_eq n e.net.0)

restored : (before now : List ℕ) (entries : List Entry) → length now ≡ length before → All (IsEntry before) entries → SameElsewhere before now entries → written now entries entries ≡ before
restored before now [] long had others = ext_get_or 0 now before long (λ i h. others i refl)
restored before now (e ∷ entries) long had others =
    restored before (set now e.net.0 e.label) entries (length-set now e.net.0 e.label ∙ long) (All-tail (IsEntry before) e entries had)
    (one_more before now e entries long (All-head (IsEntry before) e entries had) others)

pub written_back : (before now : List ℕ) (entries : List Entry) → WasAt before now entries → written now entries entries ≡ before
written_back before now entries w = restored before now entries w.long w.had w.others
