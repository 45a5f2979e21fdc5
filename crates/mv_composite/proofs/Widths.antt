-- When a composite is too wide, and the parts of which it is made.
use Rattle.std.proofs.Common.{◌≡◌, ◌∙◌, ℕ, ◌+◌, ◌<◌, ◌≤◌, false, List, [], ◌∷◌, ◌++◌, nat_eq, length, take, drop, get_or, inl, inr, refl, sym, ap, subst, if◌then◌else◌, take-append-drop, append-nil, length-append, arith}
use Rattle.std.specs.List.{flat_map, list_any}
use Rattle.std.proofs.lemmas.Bool.{cases_Bool, or_parts}
use Rattle.std.proofs.lemmas.Grind.{flat_map-append}
use Rattle.std.proofs.lemmas.List.{take_more, take_all}
use Rattle.std.proofs.lemmas.List.Sums.{fold-append}
use Rattle.std.specs.Cmp.{unsigned_Decides}
use Rattle.indexmap.specs.IndexSet.{insert_key, insert_all}
use Rattle.mv_base.specs.declared.limits.TheConstants.{MAX_FANINS}
use Rattle.mv_base.proofs.Firsts.{keys-firsts}
use Rattle.mv_cover.specs.Literal.{Lit}
use Rattle.mv_cover.specs.declared.line.Line.{Line}
use Rattle.mv_cover.specs.declared.cover.Cover.{Cover}
use Rattle.mv_cover.specs.Meets.{literal_at}
use Rattle.mv_cover.specs.Complement.{complement_of}
use Rattle.mv_cover.specs.Absorb.{left_of, IsLeftOf, default_beside, absorbed}
use Rattle.mv_composite.specs.declared.inner.Inner.{Inner}
use Rattle.mv_composite.specs.Composite.{default_meets, line_given, lines_given, spelled, composed}
use Rattle.mv_composite.specs.Wide.{cube_nets, fanins, default_asked, IsReaderWide, IsInnerWide, HasManyLines, HasManyFanins, IsTooWide}
use Rattle.mv_composite.specs.Wide.IsTooWide.{ByReader, ByInner, ByLines, ByFanins}

-- ---- the parts of a composite

-- where the net's default isn't asked for, the cubes outside its lines don't matter
same_line_given : (a b : List (List Lit)) (inner : Inner) (l : Line) → default_meets inner.cover.default (literal_at l.cube inner.net.0) ≡ false → line_given a inner l ≡ line_given b inner l
unfolding line_given
same_line_given a b inner l f = rw f refl

same_lines_given : (a b : List (List Lit)) (inner : Inner) (ls : List Line) → default_asked inner ls ≡ false → lines_given a inner ls ≡ lines_given b inner ls
same_lines_given a b inner [] f = refl
same_lines_given a b inner (l ∷ ls) f =
    let p = or_parts (default_meets inner.cover.default (literal_at l.cube inner.net.0)) (default_asked inner ls) f in
    λ i. same_line_given a b inner l p.0 i ++ same_lines_given a b inner ls p.1 i

pub given_by : (inner : Inner) (ls : List Line) (all used : List (List Lit)) → used ≡ (if default_asked inner ls then all else []) → lines_given used inner ls ≡ lines_given all inner ls
given_by inner ls all used e =
    elim (cases_Bool (default_asked inner ls)) [
      | inl t ↦ ap (λ o. lines_given o inner ls) (rw t at e)
      | inr f ↦ same_lines_given used all inner ls f
    ]

-- the lines that are left, and the default beside them, are the composite
pub composed_is : (counts : List ℕ) (inner : Inner) (reader t cover : Cover) (outside : List (List Lit)) (left : List Line) → t ≡ spelled counts inner reader → outside ≡ (if default_asked inner t.lines then complement_of counts inner.cover.lines else []) → IsLeftOf (lines_given outside inner t.lines) left → cover ≡ record { lines = left; default = default_beside left t.default } → cover ≡ composed counts inner reader
unfolding composed absorbed
composed_is counts inner reader t cover outside left e o is c =
    let all = complement_of counts inner.cover.lines in
    let lines : left ≡ left_of (lines_given all inner t.lines) = is.lines ∙ ap left_of (given_by inner t.lines all outside o) in
    c
    ∙ ((λ i. record { lines = lines i; default = default_beside (lines i) t.default })
    ∙ (λ i. record { lines = left_of (lines_given all inner (e i).lines); default = default_beside (left_of (lines_given all inner (e i).lines)) (e i).default }))

-- the same of the lists that the code has for the reader's lines and for the cubes outside the net's
pub composed_from : (counts : List ℕ) (inner : Inner) (reader t cover : Cover) (outside used : List (List Lit)) (seen lines left : List Line) → t ≡ spelled counts inner reader → seen ≡ t.lines → outside ≡ (if default_asked inner seen then complement_of counts inner.cover.lines else []) → used ≡ outside → lines ≡ t.lines → IsLeftOf (lines_given used inner lines) left → cover ≡ record { lines = left; default = default_beside left t.default } → cover ≡ composed counts inner reader
composed_from counts inner reader t cover outside used seen lines left e s o u l is c =
    composed_is counts inner reader t cover outside left e (o ∙ ap (λ (ls : List Line). if default_asked inner ls then complement_of counts inner.cover.lines else []) s)
    (subst (λ (ls : List Line). IsLeftOf (lines_given outside inner ls) left) l (subst (λ (cs : List (List Lit)). IsLeftOf (lines_given cs inner lines) left) u is)) c

-- ---- too wide or not

-- more lines are left than a composite may have
given_left : (counts : List ℕ) (inner : Inner) (reader t : Cover) (outside used : List (List Lit)) (seen lines : List Line) → t ≡ spelled counts inner reader → seen ≡ t.lines → outside ≡ (if default_asked inner seen then complement_of counts inner.cover.lines else []) → used ≡ outside → lines ≡ t.lines → left_of (lines_given used inner lines) ≡ (composed counts inner reader).lines
unfolding composed absorbed
given_left counts inner reader t outside used seen lines e s o u l =
    let all = complement_of counts inner.cover.lines in
    let asked : outside ≡ (if default_asked inner t.lines then all else []) = o ∙ ap (λ (ls : List Line). if default_asked inner ls then all else []) s in
    ap left_of ((λ i. lines_given (u i) inner (l i)) ∙ (given_by inner t.lines all outside asked ∙ (λ i. lines_given all inner (e i).lines)))

pub many_left : (counts : List ℕ) (inner : Inner) (reader t : Cover) (outside used : List (List Lit)) (seen lines : List Line) → t ≡ spelled counts inner reader → seen ≡ t.lines → outside ≡ (if default_asked inner seen then complement_of counts inner.cover.lines else []) → used ≡ outside → lines ≡ t.lines → HasManyLines (left_of (lines_given used inner lines)) → IsTooWide counts inner reader
many_left counts inner reader t outside used seen lines e s o u l many = ByLines (subst HasManyLines (given_left counts inner reader t outside used seen lines e s o u l) many)

-- a cover that is the composite has as many lines and fanins
pub many_lines : (counts : List ℕ) (inner : Inner) (reader cover : Cover) → cover ≡ composed counts inner reader → HasManyLines cover.lines → IsTooWide counts inner reader
many_lines counts inner reader cover e many = ByLines (subst (λ (c : Cover). HasManyLines c.lines) e many)

pub many_fanins : (counts : List ℕ) (inner : Inner) (reader cover : Cover) (lines : List Line) → cover ≡ composed counts inner reader → lines ≡ cover.lines → HasManyFanins lines → IsTooWide counts inner reader
many_fanins counts inner reader cover lines e l many = ByFanins (subst (λ (c : Cover). HasManyFanins c.lines) e (subst (λ (ls : List Line). HasManyFanins ls) l many))

pub not_too_wide : (counts : List ℕ) (inner : Inner) (reader t cover : Cover) (seen lines : List Line) → cover ≡ composed counts inner reader → t ≡ spelled counts inner reader → seen ≡ t.lines → lines ≡ cover.lines → (IsReaderWide counts inner reader → ⊥) → (IsInnerWide counts inner seen → ⊥) → (HasManyLines cover.lines → ⊥) → (HasManyFanins lines → ⊥) → IsTooWide counts inner reader → ⊥
not_too_wide counts inner reader t cover seen lines e f s l a b c d (ByReader w) = a w
not_too_wide counts inner reader t cover seen lines e f s l a b c d (ByInner w) = b (subst (λ (ls : List Line). IsInnerWide counts inner ls) (sym (s ∙ ap (λ (x : Cover). x.lines) f)) w)
not_too_wide counts inner reader t cover seen lines e f s l a b c d (ByLines w) = c (subst (λ (x : Cover). HasManyLines x.lines) (sym e) w)
not_too_wide counts inner reader t cover seen lines e f s l a b c d (ByFanins w) = d (subst (λ (ls : List Line). HasManyFanins ls) (sym (l ∙ ap (λ (x : Cover). x.lines) e)) w)

-- ---- fanins

-- a set keeps its keys as more are put in
inserting_grows : (ks xs : List ℕ) → length ks ≤ length (insert_all nat_eq ks xs)
inserting_grows ks [] = omega arith
inserting_grows ks (x ∷ xs) =
    let rest = inserting_grows (insert_key nat_eq ks x) xs in
    let one : length ks ≤ length (insert_key nat_eq ks x) = one_more in
    omega arith
  where
    one_more : length ks ≤ length (insert_key nat_eq ks x)
    one_more =
        elim (cases_Bool (list_any (nat_eq x) ks)) [
          | inl t ↦ rw t (omega arith)
          | inr f ↦ rw f (omega (arith, length-append ks (x ∷ [])))
        ]

-- the numbers of the nets of lines
abbrev pub line_nets : List Line → List ℕ
line_nets ls = flat_map (λ (l : Line). cube_nets l.cube) ls

-- the keys after the first i lines
pub record IsCounted (lines : List Line) (i : ℕ) (keys : List ℕ) : Type 0 where
  pub keys_are : keys ≡ insert_all nat_eq [] (line_nets (take i lines))
  pub few : length keys ≤ MAX_FANINS

-- the keys after one line more
pub counted_keys : (lines : List Line) (i : ℕ) (l : Line) (keys now : List ℕ) → i < length lines → l ≡ get_or lines i l → now ≡ insert_all nat_eq keys (cube_nets l.cube) → IsCounted lines i keys → now ≡ insert_all nat_eq [] (line_nets (take (i + 1) lines))
counted_keys lines i l keys now low e put so_far =
    let next : line_nets (take (i + 1) lines) ≡ line_nets (take i lines) ++ cube_nets l.cube =
    ap line_nets (take_more lines i l low)
    ∙ (flat_map-append (λ (m : Line). cube_nets m.cube) (take i lines) (get_or lines i l ∷ [])
    ∙ ap (λ zs. line_nets (take i lines) ++ zs) (append-nil (cube_nets (get_or lines i l).cube) ∙ ap (λ (m : Line). cube_nets m.cube) (sym e)))
    in
    put
    ∙ (ap (λ ks. insert_all nat_eq ks (cube_nets l.cube)) so_far.keys_are
    ∙ (sym (fold-append (insert_key nat_eq) [] (line_nets (take i lines)) (cube_nets l.cube)) ∙ ap (insert_all nat_eq []) (sym next)))

-- the keys of all lines are the fanins
all_keys : (lines : List Line) → insert_all nat_eq [] (line_nets lines) ≡ fanins lines
all_keys lines = keys-firsts nat_eq (λ a b. (unsigned_Decides a b).0) (line_nets lines)

-- once there are too many keys there are too many fanins
pub counted_many : (lines : List Line) (i : ℕ) (keys : List ℕ) → keys ≡ insert_all nat_eq [] (line_nets (take i lines)) → MAX_FANINS < length keys → HasManyFanins lines
counted_many lines i keys e many =
    let front = line_nets (take i lines) in
    let back = line_nets (drop i lines) in
    let whole : line_nets lines ≡ front ++ back =
    ap line_nets (sym (take-append-drop i lines)) ∙ flat_map-append (λ (m : Line). cube_nets m.cube) (take i lines) (drop i lines)
    in
    let grown : insert_all nat_eq [] (line_nets lines) ≡ insert_all nat_eq (insert_all nat_eq [] front) back = ap (insert_all nat_eq []) whole ∙ fold-append (insert_key nat_eq) [] front back in
    let more = inserting_grows (insert_all nat_eq [] front) back in
    let size : length (fanins lines) ≡ length (insert_all nat_eq (insert_all nat_eq [] front) back) = ap length (sym (all_keys lines) ∙ grown) in
    let begun : length keys ≡ length (insert_all nat_eq [] front) = ap length e in
    record { many = omega arith }

-- at the end there are few
pub counted_few : (lines : List Line) (i : ℕ) (keys : List ℕ) → length lines ≤ i → IsCounted lines i keys → HasManyFanins lines → ⊥
counted_few lines i keys end so_far many =
    let size : length keys ≡ length (fanins lines) = ap length (so_far.keys_are ∙ (ap (λ ls. insert_all nat_eq [] (line_nets ls)) (take_all i lines end) ∙ all_keys lines)) in
    let low = so_far.few in
    let high = many.many in
    omega arith
