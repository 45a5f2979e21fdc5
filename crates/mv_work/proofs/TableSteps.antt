-- Fanins and tables in the order in which they are drawn and added.
use Rattle.std.proofs.Common.{◌≡◌, ◌∙◌, ℕ, ◌+◌, true, false, List, [], ◌∷◌, ◌++◌, map, nat_eq, refl, sym, add-one, append_assoc}
use Rattle.std.specs.List.{flat_map, fold, list_any}
use Rattle.std.proofs.lemmas.List.{flat_map_more, map-append}
use Rattle.std.proofs.lemmas.List.Sums.{fold-append}
use Rattle.std.specs.Prelude.{replicate}
use Rattle.rand_pcg.specs.Lcg.{Lcg}
use Rattle.mv_work.specs.Drawing.{several}
use Rattle.mv_work.specs.Work.{Table, fanin_drawn, with_place, table_drawn, tables_drawn, counts_of, table_text}
use Rattle.mv_work.proofs.Draws.{several-value, several-rest}

-- one more fanin, where it isn't left out and where it is
fanins-with : (nets n : ℕ) (g h : Lcg) (p : ℕ) (before : List ℕ) → before ≡ fold with_place [] (several (fanin_drawn nets) n g).value → h ≡ (several (fanin_drawn nets) n g).rest → p ≡ (fanin_drawn nets h).value → with_place before p ≡ fold with_place [] (several (fanin_drawn nets) (n + 1) g).value
fanins-with nets n g h p before b r e =
    rw (several-value (fanin_drawn nets) n g, fold-append with_place [] (several (fanin_drawn nets) n g).value ((fanin_drawn nets (several (fanin_drawn nets) n g).rest).value ∷ []), ← b, ← r, ← e) refl

pub fanins-kept : (nets n : ℕ) (g h : Lcg) (p : ℕ) (before : List ℕ) → before ≡ fold with_place [] (several (fanin_drawn nets) n g).value → h ≡ (several (fanin_drawn nets) n g).rest → p ≡ (fanin_drawn nets h).value → list_any (λ q. nat_eq q p) before ≡ true → before ≡ fold with_place [] (several (fanin_drawn nets) (n + 1) g).value
fanins-kept nets n g h p before b r e t =
    let same : with_place before p ≡ before = rw t refl in
    sym same ∙ fanins-with nets n g h p before b r e

pub fanins-more : (nets n : ℕ) (g h : Lcg) (p : ℕ) (before : List ℕ) → before ≡ fold with_place [] (several (fanin_drawn nets) n g).value → h ≡ (several (fanin_drawn nets) n g).rest → p ≡ (fanin_drawn nets h).value → list_any (λ q. nat_eq q p) before ≡ false → before ++ p ∷ [] ≡ fold with_place [] (several (fanin_drawn nets) (n + 1) g).value
fanins-more nets n g h p before b r e t =
    let same : with_place before p ≡ before ++ p ∷ [] = rw t refl in
    sym same ∙ fanins-with nets n g h p before b r e

pub fanins-rest : (nets n : ℕ) (g h k : Lcg) → h ≡ (several (fanin_drawn nets) n g).rest → k ≡ (fanin_drawn nets h).rest → k ≡ (several (fanin_drawn nets) (n + 1) g).rest
fanins-rest nets n g h k r e = e ∙ rw (several-rest (fanin_drawn nets) n g, r) refl

-- one more table
tables-value : (n : ℕ) (g : Lcg) → (tables_drawn (n + 1) g).value ≡ (tables_drawn n g).value ++ (table_drawn (counts_of (tables_drawn n g).value) (tables_drawn n g).rest).value ∷ []
unfolding tables_drawn
tables-value n g = rw add-one refl

tables-next : (n : ℕ) (g : Lcg) → (tables_drawn (n + 1) g).rest ≡ (table_drawn (counts_of (tables_drawn n g).value) (tables_drawn n g).rest).rest
unfolding tables_drawn
tables-next n g = rw add-one refl

counts-more : (tables : List Table) (t : Table) → counts_of (tables ++ t ∷ []) ≡ counts_of tables ++ t.values ∷ []
counts-more tables t = rw (map-append (λ (u : Table). u.values) tables (t ∷ [])) (sym (append_assoc (replicate 16 2) (map (λ (u : Table). u.values) tables) (t.values ∷ [])))

pub tables-counts : (n : ℕ) (g h : Lcg) (values : ℕ) (counts : List ℕ) → counts ≡ counts_of (tables_drawn n g).value → h ≡ (tables_drawn n g).rest → values ≡ (table_drawn counts h).value.values → counts ++ values ∷ [] ≡ counts_of (tables_drawn (n + 1) g).value
tables-counts n g h values counts c r e =
    let next = (table_drawn (counts_of (tables_drawn n g).value) (tables_drawn n g).rest).value in
    let same : values ≡ next.values = e ∙ rw (c, r) refl in
    rw (tables-value n g, counts-more (tables_drawn n g).value next, c, same) refl

pub tables-text : (n : ℕ) (g h : Lcg) (counts had before after : List ℕ) → counts ≡ counts_of (tables_drawn n g).value → h ≡ (tables_drawn n g).rest → before ≡ had ++ flat_map table_text (tables_drawn n g).value → after ≡ before ++ table_text (table_drawn counts h).value → after ≡ had ++ flat_map table_text (tables_drawn (n + 1) g).value
tables-text n g h counts had before after c r b a =
    a ∙ rw (tables-value n g, b, c, r) (flat_map_more table_text had _ _)

pub tables-rest : (n : ℕ) (g h k : Lcg) (counts : List ℕ) → counts ≡ counts_of (tables_drawn n g).value → h ≡ (tables_drawn n g).rest → k ≡ (table_drawn counts h).rest → k ≡ (tables_drawn (n + 1) g).rest
tables-rest n g h k counts c r e = e ∙ rw (tables-next n g, c, r) refl
