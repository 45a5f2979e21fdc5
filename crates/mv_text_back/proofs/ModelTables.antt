-- The tables and the reset tables of a network's model: each is the table of a held net, and each held net with a table has one.
use Rattle.std.proofs.Common.{◌≡◌, ℕ, suc, zero, ◌+◌, Bool, true, false, cond, List, [], ◌∷◌, ◌++◌, length, map, Option, Some, None, is_some, refl, sym, ◌∙◌, ap, arith, subst, ⊎_elim}
use Rattle.std.specs.Prelude.{filter}
use Rattle.std.specs.List.{list_all, list_any, flat_map, range_with_len}
use Rattle.std.proofs.lemmas.Bool.{and_parts, and_from, or_cases}
use Rattle.std.proofs.lemmas.Option.{same_Some}
use Rattle.mv_cover.specs.declared.cover.Cover.{Cover}
use Rattle.mv_design.specs.declared.table.FileTable.{FileTable}
use Rattle.mv_design.specs.Nets.{nets_driven}
use Rattle.mv_net.specs.declared.parts.FlatNet.{FlatNet}
use Rattle.mv_net.specs.Nets.{slot}
use Rattle.mv_net.proofs.Named.{held_below}
use Rattle.mv_text.specs.Text.{told_name}
use Rattle.mv_text_back.proofs.TextModel.{IsTableOf, TableOrNot, kept_if, AreTablesOf}
use Rattle.mv_text_back.proofs.Numbers.{number_in, passes-at, range-passes, in-range}

-- ---- each table is that of a held net

-- the table of a held net that passes a test
pub record IsOfNet (nets : List (Option FlatNet)) (test : FlatNet → Bool) (t : FileTable) : Type 0 where
  pub number : ℕ
  pub net : FlatNet
  pub cover : Cover
  pub held : slot nets number ≡ Some net
  pub passes : test net ≡ true
  pub table : net.table ≡ Some cover
  pub is : IsTableOf nets net cover t

abbrev pub AllOfNets : List (Option FlatNet) → (FlatNet → Bool) → List FileTable → Type 0
AllOfNets nets test [] = Unit {0}
AllOfNets nets test (t ∷ ts) = IsOfNet nets test t × AllOfNets nets test ts

-- a net that is held at some number
record IsHeldNet (nets : List (Option FlatNet)) (f : FlatNet) : Type 0 where
  number : ℕ
  held : slot nets number ≡ Some f

kept_parts : (b : Bool) (t : Option Cover) (c : Cover) → kept_if b t ≡ Some c → (b ≡ true) × (t ≡ Some c)
kept_parts true t c e = (refl, e)
kept_parts false t c e = cc

table_of_net : (nets : List (Option FlatNet)) (test : FlatNet → Bool) (f : FlatNet) (o : Option Cover) (Rest : List FileTable → Type 0) (ts : List FileTable)
    → kept_if (test f) f.table ≡ o → IsHeldNet nets f → TableOrNot nets f o Rest ts → ((us : List FileTable) → Rest us → AllOfNets nets test us)
    → AllOfNets nets test ts
table_of_net nets test f None Rest ts e h a rest = rest ts a
table_of_net nets test f (Some c) Rest [] e h a rest = absurd a
table_of_net nets test f (Some c) Rest (t ∷ ts) e h a rest =
    let kept = kept_parts (test f) f.table c e in
    (record { number = h.number; net = f; cover = c; held = h.held; passes = kept.0; table = kept.1; is = a.0 }, rest ts a.1)

tables_of_nets : (nets : List (Option FlatNet)) (test : FlatNet → Bool) (fs : List (Option FlatNet)) (ts : List FileTable)
    → ((j : ℕ) (f : FlatNet) → slot fs j ≡ Some f → IsHeldNet nets f) → AreTablesOf nets test fs ts → AllOfNets nets test ts
tables_of_nets nets test [] ts held a = subst (AllOfNets nets test) (sym a) tt
tables_of_nets nets test (None ∷ fs) ts held a = tables_of_nets nets test fs ts (λ j f h. held (suc j) f h) a
tables_of_nets nets test (Some f ∷ fs) ts held a =
    table_of_net nets test f (kept_if (test f) f.table) (AreTablesOf nets test fs) ts refl (held 0 f refl) a (λ us b. tables_of_nets nets test fs us (λ j g h. held (suc j) g h) b)

pub all_of_nets : (nets : List (Option FlatNet)) (test : FlatNet → Bool) (ts : List FileTable) → AreTablesOf nets test nets ts → AllOfNets nets test ts
all_of_nets nets test ts a = tables_of_nets nets test nets ts (λ j f h. record { number = j; held = h }) a

-- a table that passes a test of tables
pub record Passes (nets : List (Option FlatNet)) (test : FlatNet → Bool) (p : FileTable → Bool) : Type 0 where
  pub table : FileTable
  pub of_net : IsOfNet nets test table
  pub passes : p table ≡ true

pub some_passes : (nets : List (Option FlatNet)) (test : FlatNet → Bool) (p : FileTable → Bool) (ts : List FileTable) → AllOfNets nets test ts
    → list_any p ts ≡ true → Passes nets test p
some_passes nets test p [] all e = cc
some_passes nets test p (t ∷ ts) all e =
    ⊎_elim (λ (y : p t ≡ true). record { table = t; of_net = all.0; passes = y }) (λ (y : list_any p ts ≡ true). some_passes nets test p ts all.1 y) (or_cases (p t) (list_any p ts) e)

-- a test that the table of each net passes
pub each_passes : (nets : List (Option FlatNet)) (test : FlatNet → Bool) (p : FileTable → Bool) (ts : List FileTable)
    → ((t : FileTable) → IsOfNet nets test t → p t ≡ true) → AllOfNets nets test ts → list_all p ts ≡ true
each_passes nets test p [] each all = refl
each_passes nets test p (t ∷ ts) each all = and_from _ _ (each t all.0) (each_passes nets test p ts each all.1)

-- ---- each held net with a table has one

-- the table of this net and cover, which passes a test
pub record HasTable (nets : List (Option FlatNet)) (f : FlatNet) (c : Cover) (p : FileTable → Bool) : Type 0 where
  pub table : FileTable
  pub is : IsTableOf nets f c table
  pub passes : p table ≡ true

first_table : (nets : List (Option FlatNet)) (f : FlatNet) (c : Cover) (p : FileTable → Bool) (Rest : List FileTable → Type 0) (ts : List FileTable)
    → TableOrNot nets f (Some c) Rest ts → list_all p ts ≡ true → HasTable nets f c p
first_table nets f c p Rest [] a all = absurd a
first_table nets f c p Rest (t ∷ ts) a all = record { table = t; is = a.0; passes = (and_parts (p t) (list_all p ts) all).0 }

later_table : (nets : List (Option FlatNet)) (g f : FlatNet) (o : Option Cover) (c : Cover) (p : FileTable → Bool) (Rest : List FileTable → Type 0) (ts : List FileTable)
    → TableOrNot nets g o Rest ts → list_all p ts ≡ true → ((us : List FileTable) → Rest us → list_all p us ≡ true → HasTable nets f c p)
    → HasTable nets f c p
later_table nets g f None c p Rest ts a all rest = rest ts a all
later_table nets g f (Some d) c p Rest [] a all rest = absurd a
later_table nets g f (Some d) c p Rest (t ∷ ts) a all rest = rest ts a.1 ((and_parts (p t) (list_all p ts) all).1)

pub table_at : (nets : List (Option FlatNet)) (test : FlatNet → Bool) (fs : List (Option FlatNet)) (ts : List FileTable) (p : FileTable → Bool) (j : ℕ) (f : FlatNet) (c : Cover)
    → AreTablesOf nets test fs ts → list_all p ts ≡ true → slot fs j ≡ Some f → test f ≡ true → f.table ≡ Some c → HasTable nets f c p
table_at nets test [] ts p j f c a all h y t = cc
table_at nets test (None ∷ fs) ts p zero f c a all h y t = cc
table_at nets test (None ∷ fs) ts p (suc j) f c a all h y t = table_at nets test fs ts p j f c a all h y t
table_at nets test (Some g ∷ fs) ts p zero f c a all h y t =
    let P : FlatNet → Type 0 = λ x. TableOrNot nets x (kept_if (test x) x.table) (AreTablesOf nets test fs) ts in
    let Q : Option Cover → Type 0 = λ o. TableOrNot nets f o (AreTablesOf nets test fs) ts in
    let kept : kept_if (test f) f.table ≡ Some c = ap (λ b. kept_if b f.table) y ∙ t in
    first_table nets f c p (AreTablesOf nets test fs) ts (subst Q kept (subst P (same_Some g f h) a)) all
table_at nets test (Some g ∷ fs) ts p (suc j) f c a all h y t =
    later_table nets g f (kept_if (test g) g.table) c p (AreTablesOf nets test fs) ts a all (λ us b every. table_at nets test fs us p j f c b every h y t)

-- ---- the outputs of the tables

-- the cover of a held net that passes a test
abbrev pub cover_in : (FlatNet → Bool) → Option FlatNet → Option Cover
cover_in test None = None
cover_in test (Some f) = kept_if (test f) f.table

abbrev pub has_table_at : List (Option FlatNet) → (FlatNet → Bool) → ℕ → Bool
has_table_at nets test k = is_some (cover_in test (slot nets k))

-- the names behind the arrows of the tables of numbers
abbrev pub told_at : List (Option FlatNet) → List ℕ → List (List ℕ)
told_at nets ks = map (λ k. told_name (slot nets k)) ks

-- those of a number that counts where it has a table, and of more numbers
abbrev if_tabled : List (Option FlatNet) → ℕ → List ℕ → Bool → List (List ℕ)
if_tabled nets a ks b = told_at nets (cond b (a ∷ ks) ks)

output_if : (nets : List (Option FlatNet)) (test : FlatNet → Bool) (f : FlatNet) (o : Option Cover) (a : ℕ) (ks : List ℕ) (Rest : List FileTable → Type 0) (ts : List FileTable)
    → slot nets a ≡ Some f → kept_if (test f) f.table ≡ o → TableOrNot nets f o Rest ts
    → ((us : List FileTable) → Rest us → flat_map nets_driven us ≡ told_at nets ks) → flat_map nets_driven ts ≡ if_tabled nets a ks (has_table_at nets test a)
output_if nets test f None a ks Rest ts h e t rest =
    let none : has_table_at nets test a ≡ false = ap (λ g. is_some (cover_in test g)) h ∙ ap is_some e in
    rest ts t ∙ ap (if_tabled nets a ks) (sym none)
output_if nets test f (Some c) a ks Rest [] h e t rest = absurd t
output_if nets test f (Some c) a ks Rest (u ∷ us) h e t rest =
    let some : has_table_at nets test a ≡ true = ap (λ g. is_some (cover_in test g)) h ∙ ap is_some e in
    ap (λ ws. ws ++ flat_map nets_driven us) t.0.outputs
    ∙ (ap (λ ws. told_name (Some f) ∷ ws) (rest us t.1) ∙ (ap (λ w. w ∷ told_at nets ks) (sym (ap told_name h)) ∙ ap (if_tabled nets a ks) (sym some)))

plus_zero : (a : ℕ) → a ≡ a + 0
plus_zero a = omega arith

plus_one : (a j : ℕ) → (a + 1) + j ≡ a + suc j
plus_one a j = omega arith

outputs_from : (nets : List (Option FlatNet)) (test : FlatNet → Bool) (fs : List (Option FlatNet)) (ts : List FileTable) (a : ℕ)
    → ((j : ℕ) → slot nets (a + j) ≡ slot fs j) → AreTablesOf nets test fs ts
    → flat_map nets_driven ts ≡ told_at nets (filter (has_table_at nets test) (range_with_len a (length fs)))
outputs_from nets test [] ts a same t = ap (flat_map nets_driven) t
outputs_from nets test (None ∷ fs) ts a same t =
    let none : has_table_at nets test a ≡ false = ap (λ k. has_table_at nets test k) (plus_zero a) ∙ ap (λ g. is_some (cover_in test g)) (same 0) in
    outputs_from nets test fs ts (a + 1) (λ j. ap (slot nets) (plus_one a j) ∙ same (suc j)) t
    ∙ ap (if_tabled nets a (filter (has_table_at nets test) (range_with_len (a + 1) (length fs)))) (sym none)
outputs_from nets test (Some f ∷ fs) ts a same t =
    output_if nets test f (kept_if (test f) f.table) a (filter (has_table_at nets test) (range_with_len (a + 1) (length fs))) (AreTablesOf nets test fs) ts (ap (slot nets) (plus_zero a) ∙ same 0) refl t (λ us b. outputs_from nets test fs us (a + 1) (λ j. ap (slot nets) (plus_one a j) ∙ same (suc j)) b)

zero_plus : (j : ℕ) → 0 + j ≡ j
zero_plus j = omega arith

-- the numbers of the nets with tables that pass a test, ascending
abbrev pub tabled : List (Option FlatNet) → (FlatNet → Bool) → List ℕ
tabled nets test = filter (has_table_at nets test) (range_with_len 0 (length nets))

-- the tables drive the names behind their arrows, by ascending number
pub outputs_are : (nets : List (Option FlatNet)) (test : FlatNet → Bool) (ts : List FileTable) → AreTablesOf nets test nets ts
    → flat_map nets_driven ts ≡ told_at nets (tabled nets test)
outputs_are nets test ts t = outputs_from nets test nets ts 0 (λ j. ap (slot nets) (zero_plus j)) t

-- a number among them: its net is held, passes the test, and has a table
pub record IsTabled (nets : List (Option FlatNet)) (test : FlatNet → Bool) (k : ℕ) : Type 0 where
  pub net : FlatNet
  pub held : slot nets k ≡ Some net
  pub passes : test net ≡ true
  pub table : is_some net.table ≡ true

some_kept : (b : Bool) (t : Option Cover) → is_some (kept_if b t) ≡ true → (b ≡ true) × (is_some t ≡ true)
some_kept true t e = (refl, e)
some_kept false t e = cc

pub is-tabled : (nets : List (Option FlatNet)) (test : FlatNet → Bool) (k : ℕ) → number_in k (tabled nets test) ≡ true → IsTabled nets test k
is-tabled nets test k h =
    by_slot (slot nets k) refl (passes-at k (tabled nets test) (has_table_at nets test) (range-passes 0 (length nets) (has_table_at nets test)) h)
  where
    by_slot : (o : Option FlatNet) → slot nets k ≡ o → is_some (cover_in test o) ≡ true → IsTabled nets test k
    by_slot None e y = cc
    by_slot (Some f) e y = let kept = some_kept (test f) f.table y in record { net = f; held = e; passes = kept.0; table = kept.1 }

-- and each such number is one of them
pub tabled-in : (nets : List (Option FlatNet)) (test : FlatNet → Bool) (k : ℕ) (f : FlatNet) → slot nets k ≡ Some f → test f ≡ true → is_some f.table ≡ true
    → number_in k (tabled nets test) ≡ true
tabled-in nets test k f held passes table =
    let test_passes : has_table_at nets test k ≡ true = ap (λ g. is_some (cover_in test g)) held ∙ (ap (λ b. is_some (kept_if b f.table)) passes ∙ table) in
    in-range k 0 (length nets) (has_table_at nets test) (omega arith) (omega (arith, held_below nets k f held)) test_passes
