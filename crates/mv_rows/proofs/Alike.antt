-- Lines of which the distinct ones are the same give a table the same covers, and lines that are put in a set one after the other.
use Rattle.std.proofs.Common.{◌≡◌, ℕ, Bool, true, false, not, ◌||◌, nat_eq, if◌then◌else◌, filter, Option, Some, None, List, [], ◌∷◌, ◌++◌, length, map, inl, inr, refl, sym, ◌∙◌, ap, subst}
use Rattle.std.specs.List.{list_any}
use Rattle.std.proofs.lemmas.Bool.{cases_Bool}
use Rattle.std.proofs.lemmas.Grind.{fold-append}
use Rattle.indexmap.specs.IndexSet.{insert_key, insert_all}
use Rattle.mv_base.specs.Set.{empty}
use Rattle.mv_base.specs.declared.number.NetId.{NetId}
use Rattle.mv_cover.specs.Absorb.{firsts}
use Rattle.mv_cover.specs.Equal.{line_eq}
use Rattle.mv_cover.specs.Keys.{line_eq-Decides}
use Rattle.mv_cover.specs.declared.line.Line.{Line}
use Rattle.mv_cover.specs.declared.cover.Cover.{Cover}
use Rattle.mv_cover.proofs.Absorbing.{any-firsts, inserted_firsts}
use Rattle.mv_design.specs.declared.table.Entry.{Entry}
use Rattle.mv_design.specs.declared.table.Entry.TheVariants.{Set, Same}
use Rattle.mv_design.specs.declared.table.Row.{Row}
use Rattle.mv_design.specs.declared.table.FileTable.{FileTable}
use Rattle.mv_rows.specs.declared.column.Column.{Column}
use Rattle.mv_rows.specs.declared.table.FlatTable.{FlatTable}
use Rattle.mv_rows.specs.declared.line_set.LineSet.{LineSet}
use Rattle.mv_rows.specs.Lines.{AddsLines}
use Rattle.mv_rows.specs.Flat.{RowsLines, has_output, kept, only_entry, says_nothing, default_left, plain_default, mark_line, mark_cover, unmarked, FlatBy, FlatOf, IsMade}
use Rattle.mv_rows.specs.Once.{AreDistinct, AreLinesOf}

-- ---- filters

filters_turn : (p q : Line → Bool) (ls : List Line) → filter p (filter q ls) ≡ filter q (filter p ls)
filters_turn p q [] = refl
filters_turn p q (l ∷ ls) =
    let rest = filters_turn p q ls in
    elim (cases_Bool (p l)) [
      | inl y ↦
          elim (cases_Bool (q l)) [
            | inl z ↦ rw z (rw y (rw z (ap (λ (ms : List Line). l ∷ ms) rest)))
            | inr z ↦ rw z (rw y (rw z rest))
          ]
      | inr n ↦
          elim (cases_Bool (q l)) [
            | inl z ↦ rw z (rw n rest)
            | inr z ↦ rw z (rw n rest)
          ]
    ]

-- what the second test lets through the first does too, of those that are looked at
abbrev other : Line → Line → Bool
other l m = not (line_eq m l)

-- an equal line passes a test that the line doesn't pass as little
others_pass : (p : Line → Bool) (l : Line) (ls : List Line) → p l ≡ false → filter p (filter (other l) ls) ≡ filter p ls
others_pass p l [] none = refl
others_pass p l (m ∷ ms) none =
    let rest = others_pass p l ms none in
    elim (cases_Bool (line_eq m l)) [
      | inl y ↦
          let gone : p m ≡ false = ap p ((line_eq-Decides m l).0 y) ∙ none in
          rw y (rw gone rest)
      | inr n ↦
          elim (cases_Bool (p m)) [
            | inl z ↦ rw n (rw z (ap (λ (xs : List Line). m ∷ xs) rest))
            | inr z ↦ rw n (rw z rest)
          ]
    ]

-- the first of those that pass are those of the first that pass
pub firsts-filter : (p : Line → Bool) (ls : List Line) → firsts (filter p ls) ≡ filter p (firsts ls)
firsts-filter p [] = refl
firsts-filter p (l ∷ ls) =
    let rest = firsts-filter p ls in
    elim (cases_Bool (p l)) [
      | inl y ↦ rw y (ap (λ (xs : List Line). l ∷ xs) (ap (filter (other l)) rest ∙ filters_turn (other l) p (firsts ls)))
      | inr n ↦ rw n (rest ∙ sym (others_pass p l (firsts ls) n))
    ]

-- ---- lists of which the distinct lines are the same

mapped_others : (f : Line → Line) (l : Line) (ls : List Line) → filter (other (f l)) (map f (filter (other l) ls)) ≡ filter (other (f l)) (map f ls)
mapped_others f l [] = refl
mapped_others f l (m ∷ ms) =
    let rest = mapped_others f l ms in
    elim (cases_Bool (line_eq m l)) [
      | inl y ↦
          let same : line_eq (f m) (f l) ≡ true = (line_eq-Decides (f m) (f l)).1 (ap f ((line_eq-Decides m l).0 y)) in
          rw y (rw same rest)
      | inr n ↦
          elim (cases_Bool (line_eq (f m) (f l))) [
            | inl z ↦ rw n (rw z rest)
            | inr z ↦ rw n (rw z (ap (λ (xs : List Line). f m ∷ xs) rest))
          ]
    ]

-- the distinct ones of what lines are turned into
firsts-map : (f : Line → Line) (ls : List Line) → firsts (map f ls) ≡ firsts (map f (firsts ls))
firsts-map f [] = refl
firsts-map f (l ∷ ls) =
    let rest = firsts-map f ls in
    let here = filter (other l) (firsts ls) in
    ap (λ (xs : List Line). f l ∷ xs)
    (ap (filter (other (f l))) rest
    ∙ (sym (firsts-filter (other (f l)) (map f (firsts ls)))
    ∙ (ap firsts (sym (mapped_others f l (firsts ls)))
    ∙ firsts-filter (other (f l)) (map f here))))

-- lines put in a set behind others
pub inserted-append : (keys xs ys : List Line) → insert_all line_eq keys (xs ++ ys) ≡ insert_all line_eq (insert_all line_eq keys xs) ys
inserted-append keys xs ys = fold-append (insert_key line_eq) keys xs ys

firsts-append : (xs ys : List Line) → firsts (xs ++ ys) ≡ insert_all line_eq (firsts xs) ys
firsts-append xs ys =
    sym (inserted_firsts (xs ++ ys)) ∙ (inserted-append [] xs ys ∙ ap (λ ks. insert_all line_eq ks ys) (inserted_firsts xs))

pub kept-firsts : (ls : List Line) → kept ls ≡ filter has_output (firsts ls)
kept-firsts ls = firsts-filter has_output ls

kept_alike : (xs ys : List Line) → firsts xs ≡ firsts ys → kept xs ≡ kept ys
kept_alike xs ys e = kept-firsts xs ∙ (ap (filter has_output) e ∙ sym (kept-firsts ys))

kept_behind : (xs ys more : List Line) → firsts xs ≡ firsts ys → kept (xs ++ more) ≡ kept (ys ++ more)
kept_behind xs ys more e =
    kept_alike (xs ++ more) (ys ++ more) (firsts-append xs more ∙ (ap (λ ks. insert_all line_eq ks more) e ∙ sym (firsts-append ys more)))

any_alike : (p : Line → Bool) (xs ys : List Line) → firsts xs ≡ firsts ys → list_any p xs ≡ list_any p ys
any_alike p xs ys e = sym (any-firsts p xs) ∙ (ap (list_any p) e ∙ any-firsts p ys)

marks_alike : (xs ys : List Line) → firsts xs ≡ firsts ys → mark_cover xs ≡ mark_cover ys
marks_alike xs ys e =
    let lines : firsts (map mark_line xs) ≡ firsts (map mark_line ys) =
    firsts-map mark_line xs ∙ (ap (λ ls. firsts (map mark_line ls)) e ∙ sym (firsts-map mark_line ys)) in
    ap (λ ls. record { lines = ls; default = (mark_cover xs).default }) lines

-- ---- the covers of a table by its lines

left_alike : (d : Option (List Entry)) (xs ys : List Line) → firsts xs ≡ firsts ys → default_left d xs ≡ default_left d ys
left_alike None xs ys e = refl
left_alike (Some es) xs ys e =
    ap (λ b. if says_nothing (only_entry es) || b then None else Some (only_entry es)) (any_alike (λ (l : Line). nat_eq (length l.cube) 0) xs ys e)

plain_alike : (entry : Entry) (xs ys : List Line) → firsts xs ≡ firsts ys → plain_default entry xs ≡ plain_default entry ys
plain_alike (Set s) xs ys e = ap (λ b. if b then None else Some s) (any_alike (λ (l : Line). nat_eq l.out empty) xs ys e)
plain_alike (Same k) xs ys e = refl

unmarked_alike : (d : Option ℕ) (xs ys : List Line) → firsts xs ≡ firsts ys → unmarked xs d ≡ unmarked ys d
unmarked_alike d xs ys e = ap (λ ls. record { cover = record { lines = ls; default = d }; mark = None }) (kept_alike xs ys e)

by_alike : (cs : List Column) (mark : NetId) (entry : Entry) (xs ys : List Line) (o : Option ℕ) (flat : FlatTable) → firsts xs ≡ firsts ys → FlatBy cs mark xs entry o flat → FlatBy cs mark ys entry o flat
by_alike cs mark entry xs ys None flat e is = record {
  added = is.added;
  are = is.are;
  cover_is = is.cover_is ∙ ap (λ ls. record { lines = ls; default = None }) (kept_behind xs ys is.added e);
  mark_is = is.mark_is ∙ ap (λ (c : Cover). Some c) (marks_alike xs ys e);
}
by_alike cs mark entry xs ys (Some s) flat e is = is ∙ unmarked_alike (Some s) xs ys e

of_alike : (cs : List Column) (mark : NetId) (xs ys : List Line) (o : Option Entry) (flat : FlatTable) → firsts xs ≡ firsts ys → FlatOf cs mark xs o flat → FlatOf cs mark ys o flat
of_alike cs mark xs ys None flat e is = is ∙ unmarked_alike None xs ys e
of_alike cs mark xs ys (Some entry) flat e is =
    let P : Option ℕ → Type 0 = λ o. FlatBy cs mark ys entry o flat in
    subst P (plain_alike entry xs ys e) (by_alike cs mark entry xs ys (plain_default entry xs) flat e is)

pub table_made : (cs : List Column) (t : FileTable) (mark : NetId) (lines : List Line) (flat : FlatTable) → AreLinesOf cs t.rows lines → FlatOf cs mark lines (default_left t.default lines) flat → IsMade cs t mark flat
table_made cs t mark lines flat of is =
    let P : Option Entry → Type 0 = λ o. FlatOf cs mark of.all o flat in
    record {
      lines = of.all;
      are = of.are;
      covers = subst P (left_alike t.default lines of.all of.same) (of_alike cs mark lines of.all (default_left t.default lines) flat of.same is);
    }

-- ---- the lines of rows

pub lines_few : (cs : List Column) (rows : List Row) (lines : List Line) → RowsLines cs rows lines → AreLinesOf cs rows lines
lines_few cs rows lines are = record { all = lines; are = are; same = refl }

-- a line of a list is the first of those equal to it, if none before it is equal
firsts_twice : (ls : List Line) → firsts (firsts ls) ≡ firsts ls
firsts_twice [] = refl
firsts_twice (l ∷ ls) =
    ap (λ (xs : List Line). l ∷ xs)
    (ap (filter (other l)) (firsts-filter (other l) (firsts ls) ∙ ap (filter (other l)) (firsts_twice ls)) ∙ filter_twice (other l) (firsts ls))
  where
    filter_twice : (p : Line → Bool) (xs : List Line) → filter p (filter p xs) ≡ filter p xs
    filter_twice p [] = refl
    filter_twice p (x ∷ xs) =
        elim (cases_Bool (p x)) [
          | inl y ↦ rw y (rw y (ap (λ (ys : List Line). x ∷ ys) (filter_twice p xs)))
          | inr n ↦ rw n (filter_twice p xs)
        ]

-- the lines of a set of them
pub lines_distinct : (cs : List Column) (rows : List Row) (most : ℕ) (d : LineSet) (list : List Line) → AreDistinct cs rows most d → list ≡ d.lines.keys → AreLinesOf cs rows list
lines_distinct cs rows most d list is e =
    let keys : list ≡ firsts is.lines = e ∙ (is.keys ∙ inserted_firsts is.lines) in
    record { all = is.lines; are = is.are; same = ap firsts keys ∙ firsts_twice is.lines }

pub listed_distinct : (cs : List Column) (rows : List Row) (most : ℕ) (d : LineSet) (list : List Line) → AreDistinct cs rows most d → list ≡ d.lines.keys → firsts list ≡ list
listed_distinct cs rows most d list is e =
    let keys : list ≡ firsts is.lines = e ∙ (is.keys ∙ inserted_firsts is.lines) in
    ap firsts keys ∙ (firsts_twice is.lines ∙ sym keys)

pub kept_distinct : (ls : List Line) → firsts ls ≡ ls → filter has_output ls ≡ kept ls
kept_distinct ls e = ap (filter has_output) (sym e) ∙ sym (kept-firsts ls)

-- lines behind none are these lines
pub only_here : (P : List Line → Type 0) (old new : List Line) → old ≡ [] → AddsLines P old new → P new
only_here P old new none adds = subst P (sym (adds.joined ∙ ap (λ (ls : List Line). ls ++ adds.here) none)) adds.are
