-- A row is told from others by its key, and so rows are gone through one after the other without those that are equal to an earlier one.
use Rattle.std.proofs.Common.{◌≡◌, ℕ, ◌+◌, ◌<◌, true, false, List, [], ◌∷◌, ◌++◌, length, map, get_or, take, Bool, if◌then◌else◌, ◌||◌, refl, sym, ◌∙◌, ap, arith, Decides}
use Rattle.std.specs.List.{list_any}
use Rattle.std.proofs.lemmas.Bool.{cond-true, cond-false}
use Rattle.std.proofs.lemmas.List.{map-append}
use Rattle.std.proofs.lemmas.List.Sums.{fold_more}
use Rattle.indexmap.specs.IndexSet.{insert_key, insert_all}
use Rattle.mv_base.proofs.Firsts.{keys-firsts}
use Rattle.mv_design.specs.declared.table.Entry.{Entry}
use Rattle.mv_design.specs.declared.table.Entry.TheVariants.{Set, Same}
use Rattle.mv_design.specs.declared.table.Row.{Row}
use Rattle.mv_joint.specs.Plain.{set_of}
use Rattle.mv_shapes.specs.declared.distinct.RowKey.{RowKey}
use Rattle.mv_shapes.specs.Distinct.{place_of, key_of, key_eq, key_eq-Decides, same_rows, distinct_rows}

-- ---- a row by its key

head_or : ℕ → List ℕ → ℕ
head_or n [] = n
head_or n (m ∷ ms) = m

behind : List ℕ → List ℕ
behind [] = []
behind (m ∷ ms) = ms

entry_back : (e f : Entry) → set_of e ≡ set_of f → place_of e ≡ place_of f → e ≡ f
entry_back (Set s) (Set u) same place = ap Set same
entry_back (Set s) (Same k) same place = absurd (omega (arith, place))
entry_back (Same k) (Set s) same place = absurd (omega (arith, place))
entry_back (Same j) (Same k) same place = let e : j ≡ k = omega (arith, place) in ap Same e

entries_back : (es fs : List Entry) → map set_of es ≡ map set_of fs → map place_of es ≡ map place_of fs → es ≡ fs
unfolding head_or behind
entries_back [] [] sets places = refl
entries_back [] (f ∷ fs) sets places = let long = ap length sets in absurd (omega (arith, long))
entries_back (e ∷ es) [] sets places = let long = ap length sets in absurd (omega (arith, long))
entries_back (e ∷ es) (f ∷ fs) sets places =
    let first = entry_back e f (ap (head_or 0) sets) (ap (head_or 0) places) in
    let rest = entries_back es fs (ap behind sets) (ap behind places) in
    λ i. first i ∷ rest i

row_back : (a b : Row) → key_of a ≡ key_of b → a ≡ b
row_back a b e =
    let ins = ap (λ (k : RowKey). k.ins) e in
    let outs = entries_back a.outs b.outs (ap (λ (k : RowKey). k.sets) e) (ap (λ (k : RowKey). k.places) e) in
    λ i. record { ins = ins i; outs = outs i }

-- the test tells whether rows are equal
pub same_rows-Decides : (a b : Row) → Decides (same_rows a b) (a ≡ b)
same_rows-Decides a b = (
  λ h. row_back a b ((key_eq-Decides (key_of a) (key_of b)).0 h),
  λ e. (key_eq-Decides (key_of a) (key_of b)).1 (ap key_of e),
)

-- ---- one row more

keys_any : (r : Row) (list : List Row) → list_any (key_eq (key_of r)) (map key_of list) ≡ list_any (same_rows r) list
keys_any r [] = refl
keys_any r (q ∷ list) = ap (λ b. same_rows r q || b) (keys_any r list)

keys_by : (b : Bool) (list : List Row) (r : Row) → (if b then map key_of list else map key_of list ++ key_of r ∷ []) ≡ map key_of (if b then list else list ++ r ∷ [])
keys_by true list r = refl
keys_by false list r = sym (map-append key_of list (r ∷ []))

-- the keys of the rows with one more, if it is new
keys_insert : (list : List Row) (r : Row) → insert_key key_eq (map key_of list) (key_of r) ≡ map key_of (insert_key same_rows list r)
keys_insert list r =
    ap (λ b. if b then map key_of list else map key_of list ++ key_of r ∷ []) (keys_any r list) ∙ keys_by (list_any (same_rows r) list) list r

-- the rows that are kept of the first i, and their keys
pub record AreKept (rows list : List Row) (i : ℕ) (keys : List RowKey) : Type 0 where
  pub are : list ≡ insert_all same_rows [] (take i rows)
  pub told : keys ≡ map key_of list

one_more : (rows list more : List Row) (i : ℕ) (r : Row) (key : RowKey) (keys new : List RowKey) → i < length rows → r ≡ get_or rows i r → AreKept rows list i keys → key ≡ key_of r
    → new ≡ insert_key key_eq keys key → more ≡ insert_key same_rows list r → AreKept rows more (i + 1) new
one_more rows list more i r key keys new low is kept key_is put e = record {
  are = e ∙ ((λ k. insert_key same_rows (kept.are k) (is k)) ∙ sym (fold_more (insert_key same_rows) [] rows i r low));
  told = put ∙ ((λ k. insert_key key_eq (kept.told k) (key_is k)) ∙ (keys_insert list r ∙ ap (map key_of) (sym e)));
}

known : (list : List Row) (r : Row) (key : RowKey) (keys : List RowKey) → keys ≡ map key_of list → key ≡ key_of r → list_any (key_eq key) keys ≡ list_any (same_rows r) list
known list r key keys told is = (λ k. list_any (key_eq (is k)) (told k)) ∙ keys_any r list

-- a row whose key is there already isn't kept
pub row_old : (rows list : List Row) (i : ℕ) (r : Row) (key : RowKey) (keys new : List RowKey) → i < length rows → r ≡ get_or rows i r → AreKept rows list i keys → key ≡ key_of r
    → new ≡ insert_key key_eq keys key → list_any (key_eq key) keys ≡ true → AreKept rows list (i + 1) new
row_old rows list i r key keys new low is kept key_is put there =
    let old : list_any (same_rows r) list ≡ true = sym (known list r key keys kept.told key_is) ∙ there in
    one_more rows list list i r key keys new low is kept key_is put (sym (cond-true _ list (list ++ r ∷ []) old))

-- and another is
pub row_new : (rows list more : List Row) (i : ℕ) (r : Row) (key : RowKey) (keys new : List RowKey) → i < length rows → r ≡ get_or rows i r → AreKept rows list i keys → key ≡ key_of r
    → new ≡ insert_key key_eq keys key → list_any (key_eq key) keys ≡ false → more ≡ list ++ r ∷ [] → AreKept rows more (i + 1) new
row_new rows list more i r key keys new low is kept key_is put there e =
    let first : list_any (same_rows r) list ≡ false = sym (known list r key keys kept.told key_is) ∙ there in
    one_more rows list more i r key keys new low is kept key_is put (e ∙ sym (cond-false _ list (list ++ r ∷ []) first))

-- all rows gone through
pub all_rows : (rows list : List Row) → list ≡ insert_all same_rows [] rows → list ≡ distinct_rows rows
all_rows rows list e = e ∙ keys-firsts same_rows (λ a b. (same_rows-Decides a b).0) rows
