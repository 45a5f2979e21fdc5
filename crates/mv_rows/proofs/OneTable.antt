-- A table has at most one cover, and at most one mark: the rules say them line by line.
use Rattle.std.proofs.Common.{◌≡◌, ℕ, zero, suc, List, [], ◌∷◌, ◌++◌, Option, Some, None, refl, sym, ◌∙◌, ap, subst}
use Rattle.std.proofs.lemmas.Bool.{false≢true}
use Rattle.mv_base.specs.declared.number.NetId.{NetId}
use Rattle.mv_base.specs.Set.{one}
use Rattle.mv_cover.specs.declared.line.Line.{Line}
use Rattle.mv_cover.specs.declared.cover.Cover.{Cover}
use Rattle.mv_cover.specs.Keys.{same_line}
use Rattle.mv_design.specs.declared.table.Entry.{Entry}
use Rattle.mv_design.specs.declared.table.Entry.TheVariants.{Set, Same}
use Rattle.mv_design.specs.declared.table.Row.{Row}
use Rattle.mv_design.specs.declared.table.FileTable.{FileTable}
use Rattle.mv_rows.specs.declared.column.Column.{Column}
use Rattle.mv_rows.specs.declared.table.FlatTable.{FlatTable}
use Rattle.mv_rows.specs.Cubes.{AreColumns, HasPoint, HasNoPoint}
use Rattle.mv_rows.specs.Lines.{OneLine, narrowed, EachValue, count_at, EntryLines}
use Rattle.mv_rows.specs.Flat.{only_entry, RowsLines, default_left, plain_default, kept, with_mark, marked_sets, FlatBy, FlatOf, IsMade}
use Rattle.mv_rows.proofs.OneCube.{one_cube}

-- ---- lines

joined_same : (xs ys a b c d : List Line) → xs ≡ a ++ b → ys ≡ c ++ d → a ≡ c → b ≡ d → xs ≡ ys
joined_same xs ys a b c d e f p q = e ∙ ((λ i. p i ++ q i) ∙ sym f)

never_both : (cs : List Column) (sets : List ℕ) → HasPoint cs sets → HasNoPoint cs sets → ⊥
never_both cs sets p n = false≢true (sym (n.nowhere p.at p.range) ∙ p.there)

one_line : (cs : List Column) (sets : List ℕ) (out : ℕ) (xs ys : List Line) → AreColumns cs → OneLine cs sets out xs → OneLine cs sets out ys → xs ≡ ys
one_line cs sets out [] [] columns p q = refl
one_line cs sets out [] (m ∷ []) columns p q = absurd (never_both cs sets q.cube.point p)
one_line cs sets out [] (m ∷ _ ∷ _) columns p q = absurd q
one_line cs sets out (l ∷ []) [] columns p q = absurd (never_both cs sets p.cube.point q)
one_line cs sets out (l ∷ []) (m ∷ []) columns p q =
    ap (λ k. k ∷ []) (same_line l m (one_cube cs sets l.cube m.cube columns p.cube q.cube) (p.out_is ∙ sym q.out_is))
one_line cs sets out (l ∷ []) (m ∷ _ ∷ _) columns p q = absurd q
one_line cs sets out (l ∷ _ ∷ _) ys columns p q = absurd p

one_each : (cs : List Column) (sets : List ℕ) (k n : ℕ) (xs ys : List Line) → AreColumns cs → EachValue cs sets k n xs → EachValue cs sets k n ys → xs ≡ ys
one_each cs sets k zero xs ys columns p q = p ∙ sym q
one_each cs sets k (suc v) xs ys columns p q =
    joined_same xs ys p.before p.here q.before q.here p.joined q.joined
    (one_each cs sets k v p.before q.before columns p.are_before q.are_before)
    (one_line cs (narrowed sets k v) (one v) p.here q.here columns p.are_here q.are_here)

one_entry : (cs : List Column) (sets : List ℕ) (e : Entry) (xs ys : List Line) → AreColumns cs → EntryLines cs sets e xs → EntryLines cs sets e ys → xs ≡ ys
one_entry cs sets (Set s) xs ys columns p q = one_line cs sets s xs ys columns p q
one_entry cs sets (Same k) xs ys columns p q = one_each cs sets k (count_at cs k) xs ys columns p q

one_rows : (cs : List Column) (rows : List Row) (xs ys : List Line) → AreColumns cs → RowsLines cs rows xs → RowsLines cs rows ys → xs ≡ ys
one_rows cs [] xs ys columns p q = p ∙ sym q
one_rows cs (r ∷ rows) xs ys columns p q =
    joined_same xs ys p.before p.here q.before q.here p.joined q.joined
    (one_entry cs r.ins (only_entry r.outs) p.before q.before columns p.are_before q.are_before)
    (one_rows cs rows p.here q.here columns p.are_here q.are_here)

-- ---- covers

same_flat : (f g : FlatTable) → f.cover ≡ g.cover → f.mark ≡ g.mark → f ≡ g
same_flat f g c m = λ i. record { cover = c i; mark = m i }

-- the columns, and those with the mark behind them
record AreBoth (cs : List Column) (mark : NetId) : Type 0 where
  plain : AreColumns cs
  marked : AreColumns (with_mark cs mark)

one_by : (cs : List Column) (mark : NetId) (lines : List Line) (e : Entry) (o : Option ℕ) (f g : FlatTable) → AreBoth cs mark → FlatBy cs mark lines e o f → FlatBy cs mark lines e o g → f ≡ g
one_by cs mark lines e None f g both p q =
    let added = one_entry (with_mark cs mark) (marked_sets cs) e p.added q.added both.marked p.are q.are in
    let cover : List Line → Cover = λ ls. record { lines = kept (lines ++ ls); default = None } in
    same_flat f g (p.cover_is ∙ (ap cover added ∙ sym q.cover_is)) (p.mark_is ∙ sym q.mark_is)
one_by cs mark lines e (Some s) f g both p q = p ∙ sym q

one_of : (cs : List Column) (mark : NetId) (lines : List Line) (o : Option Entry) (f g : FlatTable) → AreBoth cs mark → FlatOf cs mark lines o f → FlatOf cs mark lines o g → f ≡ g
one_of cs mark lines None f g both p q = p ∙ sym q
one_of cs mark lines (Some e) f g both p q = one_by cs mark lines e (plain_default e lines) f g both p q

-- a table has at most one cover and one mark
pub one_made : (cs : List Column) (t : FileTable) (mark : NetId) (f g : FlatTable) → AreColumns cs → AreColumns (with_mark cs mark) → IsMade cs t mark f → IsMade cs t mark g → f ≡ g
one_made cs t mark f g plain marked p q =
    let lines : q.lines ≡ p.lines = one_rows cs t.rows q.lines p.lines plain q.are p.are in
    let P : List Line → Type 0 = λ ls. FlatOf cs mark ls (default_left t.default ls) g in
    one_of cs mark p.lines (default_left t.default p.lines) f g (record { plain = plain; marked = marked }) p.covers (subst P lines q.covers)
