-- Which tables get a mark doesn't depend on the numbers of the nets, only on which columns are of one net.
use Rattle.std.proofs.Common.{◌≡◌, ℕ, zero, suc, Bool, true, ◌&&◌, ◌||◌, not, nat_eq, cond, Option, Some, None, List, [], ◌∷◌, map, refl, ◌∙◌, ap}
use Rattle.std.specs.List.{list_all, list_any, range_with_len}
use Rattle.std.proofs.lemmas.Bool.{or_left, or_right}
use Rattle.mv_base.specs.Names.{among}
use Rattle.mv_base.specs.Set.{empty, full, meet}
use Rattle.mv_base.proofs.NameLemmas.{same_word_refl}
use Rattle.mv_design.specs.declared.table.Entry.{Entry}
use Rattle.mv_design.specs.declared.table.Entry.TheVariants.{Set, Same}
use Rattle.mv_design.specs.declared.table.Row.{Row}
use Rattle.mv_design.specs.declared.table.FileTable.{FileTable}
use Rattle.mv_rows.specs.declared.column.Column.{Column}
use Rattle.mv_rows.specs.Renumbered.{AreRenumbered}
use Rattle.mv_rows.specs.Lines.{narrowed, count_at}
use Rattle.mv_rows.specs.Flat.{only_entry, says_nothing}
use Rattle.mv_rows.specs.Marked.{values_left, leaves_all, leaves_none, matches_all, matches_none, is_bare, some_row_bare, needs_mark, default_marked, is_marked}

-- ---- columns that rows match alike

-- columns with as many values at each place, that the same rows match everywhere and nowhere
pub record AreAlike (cs ds : List Column) : Type 0 where
  pub counts : (k : ℕ) → count_at cs k ≡ count_at ds k
  pub everything : (sets : List ℕ) → matches_all cs sets ≡ matches_all ds sets
  pub nothing : (sets : List ℕ) → matches_none cs sets ≡ matches_none ds sets

bare-alike : (cs ds : List Column) → AreAlike cs ds → (sets : List ℕ) (e : Entry) → is_bare cs sets e ≡ is_bare ds sets e
bare-alike cs ds alike sets (Set s) = alike.everything sets
bare-alike cs ds alike sets (Same k) = λ i. list_any (λ v. alike.everything (narrowed sets k v) i) (range_with_len 0 (alike.counts k i))

needs-alike : (cs ds : List Column) → AreAlike cs ds → (rows : List Row) (e : Entry) → needs_mark cs rows e ≡ needs_mark ds rows e
needs-alike cs ds alike rows (Set s) = λ i. list_any (λ (r : Row). says_nothing (only_entry r.outs) && not (alike.nothing r.ins i)) rows
needs-alike cs ds alike rows (Same k) = refl

default-alike : (cs ds : List Column) → AreAlike cs ds → (rows : List Row) (default : Option (List Entry)) → default_marked cs rows default ≡ default_marked ds rows default
default-alike cs ds alike rows None = refl
default-alike cs ds alike rows (Some entries) =
    let bare : some_row_bare cs rows ≡ some_row_bare ds rows = λ i. list_any (λ (r : Row). bare-alike cs ds alike r.ins (only_entry r.outs) i) rows in
    let needs = needs-alike cs ds alike rows (only_entry entries) in
    λ i. not (says_nothing (only_entry entries)) && not (bare i) && needs i

-- ---- columns of words

-- the first word is among the words, and those behind it are
first_among : (w : List ℕ) (ws : List (List ℕ)) → among w (w ∷ ws) ≡ true
first_among w ws = or_left _ _ (same_word_refl w)

count-renumbered : (f g : List ℕ → Column) (ws : List (List ℕ)) → ((u : List ℕ) → among u ws ≡ true → (f u).count ≡ (g u).count) → (k : ℕ) → count_at (map f ws) k ≡ count_at (map g ws) k
count-renumbered f g [] counts k = refl
count-renumbered f g (w ∷ ws) counts zero = counts w (first_among w ws)
count-renumbered f g (w ∷ ws) counts (suc k) = count-renumbered f g ws (λ u h. counts u (or_right _ _ h)) k

-- what a row leaves the net of a word
left-renumbered : (f g : List ℕ → Column) (w : List ℕ) (us : List (List ℕ)) → ((u : List ℕ) → among u us ≡ true → nat_eq (f u).net.0 (f w).net.0 ≡ nat_eq (g u).net.0 (g w).net.0) → (sets : List ℕ) (values : ℕ) → values_left (map f us) sets (f w).net.0 values ≡ values_left (map g us) sets (g w).net.0 values
left-renumbered f g w [] nets sets values = refl
left-renumbered f g w (u ∷ us) nets [] values = refl
left-renumbered f g w (u ∷ us) nets (s ∷ sets) values =
    ap (λ b. values_left (map f us) sets (f w).net.0 (cond b (meet values s) values)) (nets u (first_among u us))
    ∙ left-renumbered f g w us (λ v h. nets v (or_right _ _ h)) sets (cond (nat_eq (g u).net.0 (g w).net.0) (meet values s) values)

all_renumbered : (f g : List ℕ → Column) (ws : List (List ℕ)) → AreRenumbered f g ws → (sets : List ℕ) (w : List ℕ) → among w ws ≡ true → leaves_all (map f ws) sets (f w) ≡ leaves_all (map g ws) sets (g w)
all_renumbered f g ws same sets w there =
    let left = left-renumbered f g w ws (λ u h. same.nets u w h there) sets in
    let count = same.counts w there in
    ap (λ x. nat_eq x (full (f w).count)) (left (full (f w).count)) ∙ ap (λ k. nat_eq (values_left (map g ws) sets (g w).net.0 (full k)) (full k)) count

none_renumbered : (f g : List ℕ → Column) (ws : List (List ℕ)) → AreRenumbered f g ws → (sets : List ℕ) (w : List ℕ) → among w ws ≡ true → leaves_none (map f ws) sets (f w) ≡ leaves_none (map g ws) sets (g w)
none_renumbered f g ws same sets w there =
    let left = left-renumbered f g w ws (λ u h. same.nets u w h there) sets in
    let count = same.counts w there in
    ap (λ x. nat_eq x empty) (left (full (f w).count)) ∙ ap (λ k. nat_eq (values_left (map g ws) sets (g w).net.0 (full k)) empty) count

-- tests of the columns of words that agree at each word
list_all-renumbered : (f g : List ℕ → Column) (p q : Column → Bool) (ws : List (List ℕ)) → ((w : List ℕ) → among w ws ≡ true → p (f w) ≡ q (g w)) → list_all p (map f ws) ≡ list_all q (map g ws)
list_all-renumbered f g p q [] same = refl
list_all-renumbered f g p q (w ∷ ws) same =
    let first = same w (first_among w ws) in
    let rest = list_all-renumbered f g p q ws (λ u h. same u (or_right _ _ h)) in
    λ i. first i && rest i

list_any-renumbered : (f g : List ℕ → Column) (p q : Column → Bool) (ws : List (List ℕ)) → ((w : List ℕ) → among w ws ≡ true → p (f w) ≡ q (g w)) → list_any p (map f ws) ≡ list_any q (map g ws)
list_any-renumbered f g p q [] same = refl
list_any-renumbered f g p q (w ∷ ws) same =
    let first = same w (first_among w ws) in
    let rest = list_any-renumbered f g p q ws (λ u h. same u (or_right _ _ h)) in
    λ i. first i || rest i

pub alike : (f g : List ℕ → Column) (ws : List (List ℕ)) → AreRenumbered f g ws → AreAlike (map f ws) (map g ws)
alike f g ws same = record {
  counts = count-renumbered f g ws same.counts;
  everything = λ sets. list_all-renumbered f g (leaves_all (map f ws) sets) (leaves_all (map g ws) sets) ws (all_renumbered f g ws same sets);
  nothing = λ sets. list_any-renumbered f g (leaves_none (map f ws) sets) (leaves_none (map g ws) sets) ws (none_renumbered f g ws same sets);
}

pub marked_alike : (f g : List ℕ → Column) (ws : List (List ℕ)) (t : FileTable) → ((u : List ℕ) → among u ws ≡ true → (f u).count ≡ (g u).count) → ((u w : List ℕ) → among u ws ≡ true → among w ws ≡ true → nat_eq (f u).net.0 (f w).net.0 ≡ nat_eq (g u).net.0 (g w).net.0) → is_marked (map f ws) t ≡ is_marked (map g ws) t
unfolding is_marked
marked_alike f g ws t counts nets = default-alike (map f ws) (map g ws) (alike f g ws (record { counts = counts; nets = nets })) t.rows t.default
