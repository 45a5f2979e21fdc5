-- Tables whose rows say one value, and which have a default of one value, or else one row that matches everything: their covers allow
-- one value at each point, and they get no mark.
use Rattle.std.proofs.Common.{◌≡◌, ◌⊎◌, ℕ, ◌≤◌, Bool, true, false, not, ◌&&◌, ◌||◌, nat_eq, List, [], ◌∷◌, ◌++◌, map, length, Option, Some, None, inl, inr, refl, sym, ◌∙◌, ap, subst, ⊎_elim, All}
use Rattle.std.specs.Prelude.{if◌then◌else◌}
use Rattle.std.specs.List.{list_any}
use Rattle.std.proofs.Math.Bool.{and-false}
use Rattle.std.proofs.lemmas.Bool.{and_parts, cases_Bool, eqb-true, false≢true, not-true, or_cases, or_from, or_left, or_right}
use Rattle.std.proofs.lemmas.List.Elements.{All-nil, All-cons, All-append, All-head, All-tail}
use Rattle.std.proofs.lemmas.Option.{none-some, same_Some}
use Rattle.mv_base.specs.Set.{has, empty, one}
use Rattle.mv_base.specs.declared.limits.TheConstants.{MAX_VALUES}
use Rattle.mv_base.specs.declared.number.NetId.{NetId}
use Rattle.mv_base.proofs.Sets.{has-one}
use Rattle.mv_cover.specs.Absorb.{some_bare}
use Rattle.mv_cover.specs.Covers.{allowed, default_gives, some_gives, some_matches}
use Rattle.mv_cover.specs.Covering.{CoversAll}
use Rattle.mv_cover.specs.Cubes.{matches}
use Rattle.mv_cover.specs.Literal.{Lit}
use Rattle.mv_cover.specs.Plain.{AllowsOne}
use Rattle.mv_cover.specs.declared.cover.Cover.{Cover}
use Rattle.mv_cover.specs.declared.line.Line.{Line}
use Rattle.mv_cover.proofs.Points.{one_some}
use Rattle.mv_design.specs.declared.table.Entry.{Entry}
use Rattle.mv_design.specs.declared.table.Entry.TheVariants.{Set, Same}
use Rattle.mv_design.specs.declared.table.FileTable.{FileTable}
use Rattle.mv_design.specs.declared.table.Row.{Row}
use Rattle.mv_rows.specs.declared.column.Column.{Column}
use Rattle.mv_rows.specs.declared.table.FlatTable.{FlatTable}
use Rattle.mv_rows.specs.Flat.{only_entry, says_nothing, kept, default_left, plain_default, unmarked, RowsLines, FlatOf, FlatBy, IsMade}
use Rattle.mv_rows.specs.Lines.{OneLine, EntryLines}
use Rattle.mv_rows.proofs.Kept.{all-kept, matches-kept}
use Rattle.mv_net.specs.declared.parts.FlatNet.{FlatNet}
use Rattle.mv_net.specs.Formed.{IsCover}
use Rattle.mv_net.specs.Nets.{values_in}
use Rattle.mv_net.specs.Total.{IsTotal}
use Rattle.mv_net.proofs.Totals.{IsTotal-covered, IsTotal-default}

-- ---- complete covers

-- the cover has a default
pub record HasDefault (c : Cover) : Type 0 where
  pub set : ℕ
  pub is : c.default ≡ Some set

-- or its lines match every assignment
abbrev pub MatchesAll : List Line → Type 0
MatchesAll ls = (at : ℕ → ℕ) → some_matches at ls ≡ true

-- the cover gives a value at each point
abbrev pub IsComplete : Cover → Type 0
IsComplete c = HasDefault c ⊎ MatchesAll c.lines

pub complete_total : (nets : List (Option FlatNet)) (values : ℕ) (c : Cover) → values ≤ MAX_VALUES → IsCover nets values c → IsComplete c → IsTotal nets c
complete_total nets values c few is complete =
    ⊎_elim (λ (d : HasDefault c). IsTotal-default nets values d.set c few is d.is)
    (λ (all : MatchesAll c.lines).
    let covers : CoversAll (map values_in nets) c.lines = record { each = λ at p. all at } in
    IsTotal-covered nets values c few is covers)
    complete

-- ---- covers that allow one value at most

-- the line gives this value alone
abbrev pub Gives : ℕ → Line → Type 0
Gives v l = l.out ≡ one v

pub one_only : (v u : ℕ) → has (one v) u ≡ true → u ≡ v
one_only v u h = eqb-true u v (sym (has-one v u) ∙ h)

-- a value that some such line gives
record IsGivenBy (at : ℕ → ℕ) (v u : ℕ) (ls : List Line) : Type 0 where
  same : u ≡ v
  matched : some_matches at ls ≡ true

given_by : (at : ℕ → ℕ) (v u : ℕ) (ls : List Line) → All (Gives v) ls → some_gives at u ls ≡ true → IsGivenBy at v u ls
given_by at v u [] all h = absurd (false≢true h)
given_by at v u (l ∷ ls) all h =
    ⊎_elim
    (λ (y : (matches at l.cube && has l.out u) ≡ true).
    let p = and_parts (matches at l.cube) (has l.out u) y in
    let here : Gives v l = All-head (Gives v) l ls all in
    record { same = one_only v u (ap (λ s. has s u) (sym here) ∙ p.1); matched = or_left (matches at l.cube) (some_matches at ls) p.0 })
    (λ (y : some_gives at u ls ≡ true).
    let r = given_by at v u ls (All-tail (Gives v) l ls all) y in
    record { same = r.same; matched = or_right (matches at l.cube) (some_matches at ls) r.matched })
    (or_cases (matches at l.cube && has l.out u) (some_gives at u ls) h)

-- a default gives one value, if there is one
abbrev pub IsOneDefault : ℕ → Cover → Type 0
IsOneDefault w c = (set : ℕ) → c.default ≡ Some set → set ≡ one w

-- a value that the default gives, where no line matches
record IsDefaultValue (at : ℕ → ℕ) (w u : ℕ) (ls : List Line) : Type 0 where
  same : u ≡ w
  unmatched : some_matches at ls ≡ false

default_value : (at : ℕ → ℕ) (w u : ℕ) (ls : List Line) (default : Option ℕ) → ((set : ℕ) → default ≡ Some set → set ≡ one w)
    → (not (some_matches at ls) && default_gives default u) ≡ true → IsDefaultValue at w u ls
default_value at w u ls None is h = absurd (false≢true (sym (and-false (not (some_matches at ls))) ∙ h))
default_value at w u ls (Some set) is h =
    let p = and_parts (not (some_matches at ls)) (has set u) h in
    record { same = one_only w u (ap (λ s. has s u) (sym (is set refl)) ∙ p.1); unmatched = not-true (some_matches at ls) p.0 }

allows_by : (c : Cover) (v w : ℕ) → All (Gives v) c.lines → IsOneDefault w c → (at : ℕ → ℕ) (u : ℕ) → allowed c at u ≡ true
    → IsGivenBy at v u c.lines ⊎ IsDefaultValue at w u c.lines
unfolding allowed
allows_by c v w all default at u h =
    ⊎_elim (λ (y : some_gives at u c.lines ≡ true). inl (given_by at v u c.lines all y))
    (λ (y : (not (some_matches at c.lines) && default_gives c.default u) ≡ true). inr (default_value at w u c.lines c.default default y))
    (or_cases (some_gives at u c.lines) (not (some_matches at c.lines) && default_gives c.default u) h)

one_value : (c : Cover) (v w : ℕ) → All (Gives v) c.lines → IsOneDefault w c → AllowsOne c
one_value c v w all default = record { one = λ at x y p q. both at x y (allows_by c v w all default at x p) (allows_by c v w all default at y q) }
  where
    both : (at : ℕ → ℕ) (x y : ℕ) → IsGivenBy at v x c.lines ⊎ IsDefaultValue at w x c.lines → IsGivenBy at v y c.lines ⊎ IsDefaultValue at w y c.lines → x ≡ y
    both at x y (inl p) (inl q) = p.same ∙ sym q.same
    both at x y (inl p) (inr q) = absurd (false≢true (sym q.unmatched ∙ p.matched))
    both at x y (inr p) (inl q) = absurd (false≢true (sym p.unmatched ∙ q.matched))
    both at x y (inr p) (inr q) = p.same ∙ sym q.same

-- ---- tables

-- the row says this value
abbrev pub SaysValue : ℕ → Row → Type 0
SaysValue v r = only_entry r.outs ≡ Set (one v)

-- the table's default says one value
pub record DefaultSaysOne (t : FileTable) : Type 0 where
  pub value : ℕ
  pub is : t.default ≡ Some (Set (one value) ∷ [])

-- the table is one row without columns
pub record IsConstant (t : FileTable) : Type 0 where
  pub row : Row
  pub bare : row.ins ≡ []
  pub inputs : t.inputs ≡ []
  pub rows : t.rows ≡ row ∷ []
  pub default : t.default ≡ None

-- a table of one output at most, whose rows say one value, with a default that says one, or as one row
pub record IsGate (t : FileTable) : Type 0 where
  pub single : length t.outputs ≤ 1
  pub value : ℕ
  pub rows : All (SaysValue value) t.rows
  pub left : DefaultSaysOne t ⊎ IsConstant t

-- ---- the lines of such rows

one_line_gives : (cs : List Column) (sets : List ℕ) (v : ℕ) (ls : List Line) → OneLine cs sets (one v) ls → All (Gives v) ls
one_line_gives cs sets v [] h = All-nil (Gives v)
one_line_gives cs sets v (l ∷ []) h = All-cons (Gives v) l [] h.out_is (All-nil (Gives v))
one_line_gives cs sets v (l ∷ k ∷ ls) h = absurd h

entry_gives : (cs : List Column) (sets : List ℕ) (e : Entry) (v : ℕ) (ls : List Line) → e ≡ Set (one v) → EntryLines cs sets e ls → All (Gives v) ls
entry_gives cs sets e v ls is h =
    let P : Entry → Type 0 = λ x. EntryLines cs sets x ls in
    one_line_gives cs sets v ls (subst P is h)

-- each of them gives the value
rows_give : (cs : List Column) (v : ℕ) (rows : List Row) (ls : List Line) → All (SaysValue v) rows → RowsLines cs rows ls → All (Gives v) ls
rows_give cs v [] ls all h = let P : List Line → Type 0 = All (Gives v) in subst P (sym h) (All-nil (Gives v))
rows_give cs v (r ∷ rows) ls all h =
    let P : List Line → Type 0 = All (Gives v) in
    subst P (sym h.joined)
    (All-append (Gives v) h.before h.here
    (entry_gives cs r.ins (only_entry r.outs) v h.before (All-head (SaysValue v) r rows all) h.are_before)
    (rows_give cs v rows h.here (All-tail (SaysValue v) r rows all) h.are_here))

abbrev is_silent : Line → Bool
is_silent l = nat_eq l.out empty

-- so each has an output
none_silent : (v : ℕ) (ls : List Line) → All (Gives v) ls → list_any is_silent ls ≡ false
none_silent v [] all = refl
none_silent v (l ∷ ls) all =
    let here : Gives v l = All-head (Gives v) l ls all in
    or_from (is_silent l) (list_any is_silent ls) (ap (λ s. nat_eq s empty) here ∙ one_some v) (none_silent v ls (All-tail (Gives v) l ls all))

-- a line without literals matches everything
bare_matches : (ls : List Line) → some_bare ls ≡ true → MatchesAll ls
bare_matches [] h at = absurd (false≢true h)
bare_matches (l ∷ ls) h at =
    ⊎_elim
    (λ (y : nat_eq (length l.cube) 0 ≡ true). or_left (matches at l.cube) (some_matches at ls) (none_left l.cube (eqb-true (length l.cube) 0 y)))
    (λ (y : some_bare ls ≡ true). or_right (matches at l.cube) (some_matches at ls) (bare_matches ls y at))
    (or_cases (nat_eq (length l.cube) 0) (some_bare ls) h)
  where
    none_left : (cube : List Lit) → length cube ≡ 0 → matches at cube ≡ true
    none_left [] e = refl
    none_left (x ∷ cube) e = cc

-- so does that of a row without columns
constant_line : (cs : List Column) (sets : List ℕ) (v : ℕ) (ls : List Line) → cs ≡ [] → sets ≡ [] → OneLine cs sets (one v) ls → MatchesAll ls
constant_line (c ∷ cs) sets v ls none bare h at = cc
constant_line [] (s ∷ sets) v ls none bare h at = cc
constant_line [] [] v [] none bare h at = absurd (false≢true (sym (h.nowhere at refl)))
constant_line [] [] v (l ∷ []) none bare h at = or_left (matches at l.cube) false (h.cube.points at refl)
constant_line [] [] v (l ∷ k ∷ ls) none bare h at = absurd h

constant_entry : (cs : List Column) (sets : List ℕ) (e : Entry) (v : ℕ) (ls : List Line) → cs ≡ [] → sets ≡ [] → e ≡ Set (one v) → EntryLines cs sets e ls → MatchesAll ls
constant_entry cs sets e v ls none bare is h =
    let P : Entry → Type 0 = λ x. EntryLines cs sets x ls in
    constant_line cs sets v ls none bare (subst P is h)

matches_either : (at : ℕ → ℕ) (a b : List Line) → some_matches at a ≡ true → some_matches at (a ++ b) ≡ true
matches_either at [] b h = absurd (false≢true h)
matches_either at (l ∷ a) b h =
    ⊎_elim (λ (y : matches at l.cube ≡ true). or_left (matches at l.cube) (some_matches at (a ++ b)) y)
    (λ (y : some_matches at a ≡ true). or_right (matches at l.cube) (some_matches at (a ++ b)) (matches_either at a b y))
    (or_cases (matches at l.cube) (some_matches at a) h)

constant_matches : (cs : List Column) (r : Row) (v : ℕ) (ls : List Line) → cs ≡ [] → r.ins ≡ [] → SaysValue v r → RowsLines cs (r ∷ []) ls → MatchesAll ls
constant_matches cs r v ls none bare says h at =
    let here : MatchesAll h.before = constant_entry cs r.ins (only_entry r.outs) v h.before none bare says h.are_before in
    ap (some_matches at) h.joined ∙ matches_either at h.before h.here (here at)

-- ---- their covers

-- the cover gives a value at each point, and one alone
pub record IsChoice (c : Cover) : Type 0 where
  pub complete : IsComplete c
  pub one : AllowsOne c

-- a table without a mark, with such a cover
pub record IsPlainTable (flat : FlatTable) : Type 0 where
  pub mark : flat.mark ≡ None
  pub cover : IsChoice flat.cover

all_kept : (ls : List Line) → list_any is_silent ls ≡ false → MatchesAll ls → MatchesAll (kept ls)
all_kept ls said all at = matches-kept at ls said ∙ all at

kept_give : (v : ℕ) (ls : List Line) → All (Gives v) ls → All (Gives v) (kept ls)
kept_give v ls all = all-kept (Gives v) (Gives v) (λ l some h. h) ls all

plain_lines : (v : ℕ) (ls : List Line) (flat : FlatTable) → All (Gives v) ls → flat ≡ unmarked ls None → MatchesAll ls → IsPlainTable flat
plain_lines v ls flat give is all =
    let c : Cover = record { lines = kept ls; default = None } in
    subst IsPlainTable (sym is)
    (record {
      mark = refl;
      cover = record {
        complete = inr (all_kept ls (none_silent v ls give) all);
        one = one_value c v v (kept_give v ls give) (λ set e. absurd (none-some set e));
      };
    })

plain_set : (v w : ℕ) (ls : List Line) (flat : FlatTable) → All (Gives v) ls → flat ≡ unmarked ls (Some (one w)) → IsPlainTable flat
plain_set v w ls flat give is =
    let c : Cover = record { lines = kept ls; default = Some (one w) } in
    subst IsPlainTable (sym is)
    (record {
      mark = refl;
      cover = record {
        complete = inl (record { set = one w; is = refl });
        one = one_value c v w (kept_give v ls give) (λ set e. sym (same_Some (one w) set e));
      };
    })

-- a default of one value beside lines: none is left where some line is bare
abbrev left_beside : ℕ → Bool → Option Entry
left_beside v bare = if nat_eq (one v) empty || bare then None else Some (Set (one v))

left_by : (v : ℕ) (bare b : Bool) → bare ≡ b → left_beside v bare ≡ (if b then None else Some (Set (one v)))
left_by v bare b e = λ i. if one_some v i || e i then None else Some (Set (one v))

default_gone : (cs : List Column) (mark : NetId) (ls : List Line) (v : ℕ) (flat : FlatTable) (bare : Bool) → bare ≡ true
    → FlatOf cs mark ls (left_beside v bare) flat → flat ≡ unmarked ls None
default_gone cs mark ls v flat bare y h = let P : Option Entry → Type 0 = λ o. FlatOf cs mark ls o flat in subst P (left_by v bare true y) h

default_stays : (cs : List Column) (mark : NetId) (ls : List Line) (v : ℕ) (flat : FlatTable) (bare : Bool) → bare ≡ false → list_any is_silent ls ≡ false
    → FlatOf cs mark ls (left_beside v bare) flat → flat ≡ unmarked ls (Some (one v))
default_stays cs mark ls v flat bare n said h =
    let P : Option Entry → Type 0 = λ o. FlatOf cs mark ls o flat in
    let Q : Option ℕ → Type 0 = λ o. FlatBy cs mark ls (Set (one v)) o flat in
    let by : FlatBy cs mark ls (Set (one v)) (plain_default (Set (one v)) ls) flat = subst P (left_by v bare false n) h in
    subst Q (ap (λ b. if b then None else Some (one v)) said) by

-- with a default of one value
default_plain : (cs : List Column) (mark : NetId) (ls : List Line) (v w : ℕ) (flat : FlatTable) → All (Gives v) ls
    → FlatOf cs mark ls (default_left (Some (Set (one w) ∷ [])) ls) flat → IsPlainTable flat
default_plain cs mark ls v w flat give h =
    ⊎_elim
    (λ (y : some_bare ls ≡ true). plain_lines v ls flat give (default_gone cs mark ls w flat (some_bare ls) y h) (bare_matches ls y))
    (λ (n : some_bare ls ≡ false).
    plain_set v w ls flat give (default_stays cs mark ls w flat (some_bare ls) n (none_silent v ls give) h))
    (cases_Bool (some_bare ls))

-- the cover of such a table
pub gate_plain : (cs : List Column) (t : FileTable) (mark : NetId) (flat : FlatTable) → (t.inputs ≡ [] → cs ≡ []) → IsGate t → IsMade cs t mark flat → IsPlainTable flat
gate_plain cs t mark flat columns gate made =
    ⊎_elim
    (λ (d : DefaultSaysOne t).
    let P : Option (List Entry) → Type 0 = λ o. FlatOf cs mark made.lines (default_left o made.lines) flat in
    default_plain cs mark made.lines gate.value d.value flat give (subst P d.is made.covers))
    (λ (c : IsConstant t).
    let P : Option (List Entry) → Type 0 = λ o. FlatOf cs mark made.lines (default_left o made.lines) flat in
    let Q : List Row → Type 0 = λ rows. RowsLines cs rows made.lines in
    let R : List Row → Type 0 = λ rows. All (SaysValue gate.value) rows in
    let says = All-head (SaysValue gate.value) c.row [] (subst R c.rows gate.rows) in
    plain_lines gate.value made.lines flat give (subst P c.default made.covers)
    (constant_matches cs c.row gate.value made.lines (columns c.inputs) c.bare says (subst Q c.rows made.are)))
    gate.left
  where
    give : All (Gives gate.value) made.lines
    give = rows_give cs gate.value t.rows made.lines gate.rows made.are
