-- What the code puts into cubes and tables behind a merge.
use Rattle.std.proofs.Common.{◌≡◌, ◌∙◌, ℕ, ◌+◌, ◌<◌, true, false, nat_eq, Option, List, [], ◌∷◌, ◌++◌, length, take, get_or, map, sym, ap, subst}
use Rattle.std.specs.List.{flat_map}
use Rattle.std.proofs.lemmas.Bool.{cond-true, cond-false}
use Rattle.std.proofs.lemmas.List.{append-nil, map-append, take_more}
use Rattle.std.proofs.lemmas.List.Concat.{flat_map-append}
use Rattle.mv_base.specs.Set.{full}
use Rattle.mv_base.specs.declared.number.NetId.{NetId}
use Rattle.mv_cover.specs.Absorb.{absorbed}
use Rattle.mv_cover.specs.Cubes.{IsCube}
use Rattle.mv_cover.specs.Literal.{Lit}
use Rattle.mv_cover.specs.declared.cover.Cover.{Cover}
use Rattle.mv_cover.specs.declared.line.Line.{Line}
use Rattle.mv_merging.specs.declared.merging.Merging.{Merging}
use Rattle.mv_merging.specs.Tables.{asked_of, literal_merged, cube_merged, some_empty, line_merged, output_merged, default_merged, reader_merged, own_merged}
use Rattle.mv_merging.specs.Values.{merged_set}
use Rattle.mv_merging.proofs.Readers.{merged_cube}

-- ---- lists made piece by piece

pub piece_more : {X Y : Type 0} (f : X → List Y) (xs : List X) (i : ℕ) (x : X) (made more : List Y) → i < length xs → x ≡ get_or xs i x
    → made ≡ flat_map f (take i xs) → more ≡ made ++ f x → more ≡ flat_map f (take (i + 1) xs)
piece_more f xs i x made more low is e put =
    put ∙ (ap (λ l. l ++ f x) e
    ∙ (ap (λ y. flat_map f (take i xs) ++ f y) is
    ∙ (ap (λ l. flat_map f (take i xs) ++ l) (sym (append-nil (f (get_or xs i x))))
    ∙ (sym (flat_map-append f (take i xs) (get_or xs i x ∷ [])) ∙ ap (flat_map f) (sym (take_more xs i x low))))))

pub one_more : {X Y : Type 0} (f : X → Y) (xs : List X) (i : ℕ) (x : X) (y : Y) (made more : List Y) → i < length xs → x ≡ get_or xs i x
    → y ≡ f x → made ≡ map f (take i xs) → more ≡ made ++ y ∷ [] → more ≡ map f (take (i + 1) xs)
one_more f xs i x y made more low is same e put =
    put ∙ ((λ k. e k ++ (same ∙ ap f is) k ∷ [])
    ∙ (sym (map-append f (take i xs) (get_or xs i x ∷ [])) ∙ ap (map f) (sym (take_more xs i x low))))

-- ---- literals

pub asked_full : (net : NetId) (k set own : ℕ) (ls : List Lit) → set ≡ own → nat_eq set (full k) ≡ true → ls ≡ ls ++ asked_of net k own
asked_full net k set own ls e h =
    sym (append-nil ls) ∙ ap (λ c. ls ++ c) (sym (cond-true (nat_eq own (full k)) [] (record { net = net; set = own } ∷ []) (ap (λ s. nat_eq s (full k)) (sym e) ∙ h)))

pub asked_put : (net : NetId) (k set own : ℕ) (new : Lit) (ls : List Lit) → set ≡ own → nat_eq set (full k) ≡ false → new.net ≡ net → new.set ≡ set → ls ++ new ∷ [] ≡ ls ++ asked_of net k own
asked_put net k set own new ls e h n s =
    (λ i. ls ++ record { net = n i; set = (s ∙ e) i } ∷ [])
    ∙ ap (λ c. ls ++ c) (sym (cond-false (nat_eq own (full k)) [] (record { net = net; set = own } ∷ []) (ap (λ s. nat_eq s (full k)) (sym e) ∙ h)))

pub literal_on : (m : Merging) (n : ℕ) (l : Lit) (ls more : List Lit) → nat_eq l.net.0 n ≡ true → more ≡ ls ++ asked_of l.net m.left (merged_set m l.set) → more ≡ ls ++ literal_merged m n l
literal_on m n l ls more t put = put ∙ ap (λ c. ls ++ c) (sym (cond-true (nat_eq l.net.0 n) (asked_of l.net m.left (merged_set m l.set)) (l ∷ []) t))

pub literal_off : (m : Merging) (n : ℕ) (l same : Lit) (ls more : List Lit) → nat_eq l.net.0 n ≡ false → same ≡ l → more ≡ ls ++ same ∷ [] → more ≡ ls ++ literal_merged m n l
literal_off m n l same ls more f e put =
    put ∙ (ap (λ k. ls ++ k ∷ []) e ∙ ap (λ c. ls ++ c) (sym (cond-false (nat_eq l.net.0 n) (asked_of l.net m.left (merged_set m l.set)) (l ∷ []) f)))

-- ---- lines

pub line_nothing : (m : Merging) (n : ℕ) (l : Line) (lits : List Lit) (ls : List Line) → lits ≡ cube_merged m n l.cube → some_empty lits ≡ true → ls ≡ ls ++ line_merged m n l
unfolding line_merged
line_nothing m n l lits ls e h =
    let cube = cube_merged m n l.cube in
    sym (append-nil ls) ∙ ap (λ c. ls ++ c) (sym (cond-true (some_empty cube) [] (record { cube = cube; out = l.out } ∷ []) (ap some_empty (sym e) ∙ h)))

pub line_put : (m : Merging) (n : ℕ) (l : Line) (lits cube : List Lit) (out : ℕ) (ls : List Line) → lits ≡ cube_merged m n l.cube → some_empty lits ≡ false → cube ≡ lits → out ≡ l.out
    → ls ++ record { cube = cube; out = out } ∷ [] ≡ ls ++ line_merged m n l
unfolding line_merged
line_put m n l lits cube out ls e h c o =
    let merged = cube_merged m n l.cube in
    (λ i. ls ++ record { cube = (c ∙ e) i; out = o i } ∷ [])
    ∙ ap (λ d. ls ++ d) (sym (cond-false (some_empty merged) [] (record { cube = merged; out = l.out } ∷ []) (ap some_empty (sym e) ∙ h)))

pub line_cube : (m : Merging) (n : ℕ) (cube lits own : List Lit) → own ≡ cube → IsCube cube → lits ≡ cube_merged m n own → some_empty lits ≡ false → IsCube lits
line_cube m n cube lits own o is e h =
    let same : lits ≡ cube_merged m n cube = e ∙ ap (cube_merged m n) o in
    subst IsCube (sym same) (merged_cube m n cube is (ap some_empty (sym same) ∙ h))

-- ---- covers

pub reader_is : (m : Merging) (n : ℕ) (c new : Cover) (lines : List Line) (default : Option ℕ) → lines ≡ flat_map (line_merged m n) c.lines → default ≡ c.default
    → new ≡ absorbed (record { lines = lines; default = default }) → new ≡ reader_merged m n c
unfolding reader_merged
reader_is m n c new lines default l d e = e ∙ (λ i. absorbed (record { lines = l i; default = d i }))

pub own_is : (m : Merging) (c new : Cover) (lines : List Line) (default : Option ℕ) → lines ≡ map (output_merged m) c.lines → default ≡ default_merged m c.default
    → new ≡ absorbed (record { lines = lines; default = default }) → new ≡ own_merged m c
unfolding own_merged
own_is m c new lines default l d e = e ∙ (λ i. absorbed (record { lines = l i; default = d i }))
