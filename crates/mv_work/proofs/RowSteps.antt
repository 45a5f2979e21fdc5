-- Entries and rows in the order in which they are drawn and added.
use Rattle.std.proofs.Common.{◌≡◌, ◌∙◌, ℕ, ◌+◌, ◌<◌, ◌≤◌, List, ◌++◌, length, get_or, drop, refl, append_assoc}
use Rattle.std.specs.List.{flat_map}
use Rattle.std.proofs.lemmas.List.{flat_map_more, append-nil}
use Rattle.rand_pcg.specs.Lcg.{Lcg}
use Rattle.mv_work.specs.Drawing.{each, several}
use Rattle.mv_work.specs.Work.{entry_drawn, row_drawn, entry_text, row_text}
use Rattle.mv_work.proofs.Draws.{each-value, each-rest, each-none, several-value, several-rest}

-- the text with all entries that are left, before and after one of them is added
pub entries-text : (counts : List ℕ) (i x : ℕ) (g h : Lcg) (before after : List ℕ) → i < length counts → x ≡ get_or counts i 0 → after ≡ before ++ entry_text (entry_drawn x g).value → h ≡ (entry_drawn x g).rest → after ++ flat_map entry_text (each entry_drawn (drop (i + 1) counts) h).value ≡ before ++ flat_map entry_text (each entry_drawn (drop i counts) g).value
entries-text counts i x g h before after l e a r =
    rw (each-value entry_drawn counts i x 0 g l e, a, r) (append_assoc before _ _)

pub entries-rest : (counts : List ℕ) (i x : ℕ) (g h : Lcg) → i < length counts → x ≡ get_or counts i 0 → h ≡ (entry_drawn x g).rest → (each entry_drawn (drop (i + 1) counts) h).rest ≡ (each entry_drawn (drop i counts) g).rest
entries-rest counts i x g h l e r = rw (each-rest entry_drawn counts i x 0 g l e, r) refl

pub entries-none : (counts : List ℕ) (i : ℕ) (g : Lcg) (text : List ℕ) → length counts ≤ i → text ++ flat_map entry_text (each entry_drawn (drop i counts) g).value ≡ text
entries-none counts i g text h = rw (each-none entry_drawn counts i g h) (append-nil text)

-- one more row
pub rows-text : (counts : List ℕ) (values n : ℕ) (g h : Lcg) (had before after : List ℕ) → before ≡ had ++ flat_map row_text (several (row_drawn counts values) n g).value → h ≡ (several (row_drawn counts values) n g).rest → after ≡ before ++ row_text (row_drawn counts values h).value → after ≡ had ++ flat_map row_text (several (row_drawn counts values) (n + 1) g).value
rows-text counts values n g h had before after b r a =
    a ∙ rw (several-value (row_drawn counts values) n g, b, r) (flat_map_more row_text had _ _)

pub rows-rest : (counts : List ℕ) (values n : ℕ) (g h k : Lcg) → h ≡ (several (row_drawn counts values) n g).rest → k ≡ (row_drawn counts values h).rest → k ≡ (several (row_drawn counts values) (n + 1) g).rest
rows-rest counts values n g h k r e = e ∙ rw (several-rest (row_drawn counts values) n g, r) refl
