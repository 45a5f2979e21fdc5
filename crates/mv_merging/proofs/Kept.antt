-- The tables behind a merge are covers over nets that are as before but for the merged one, and read no net besides.
use Rattle.std.proofs.Common.{◌≡◌, ◌∙◌, ℕ, ◌<◌, ◌≤◌, Bool, true, false, ◌||◌, nat_eq, nat_lt, Option, All, List, [], ◌∷◌, ◌++◌, refl, sym, ap, subst, ⊎_elim, eqb-true, arith}
use Rattle.std.specs.List.{flat_map}
use Rattle.std.proofs.lemmas.Bool.{cases_Bool, cases_lt, cond-true, cond-false, eqb-false, false≢true, or_parts, or_cases, or_left, or_right, lt-ltb, ltb-true}
use Rattle.std.proofs.lemmas.List.Folds.{list_any-append}
use Rattle.mv_base.specs.Set.{has, empty, full, Within}
use Rattle.mv_base.specs.declared.number.NetId.{NetId}
use Rattle.mv_base.proofs.Sets.{has-full, same_set}
use Rattle.mv_cover.specs.Covers.{cube_reads, cover_reads}
use Rattle.mv_cover.specs.Lines.{IsOutput}
use Rattle.mv_cover.specs.Literal.{Lit}
use Rattle.mv_cover.specs.declared.cover.Cover.{Cover}
use Rattle.mv_cover.specs.declared.line.Line.{Line}
use Rattle.mv_net.specs.declared.parts.FlatNet.{FlatNet}
use Rattle.mv_net.specs.Nets.{slot, values_in}
use Rattle.mv_net.specs.Formed.{IsReadable, IsLiteral, AllLiterals, IsCover}
use Rattle.mv_net.proofs.Stays.{KeepsNet}
use Rattle.mv_composite.proofs.Cubes.{All-flat_map}
use Rattle.mv_merging.specs.declared.merging.Merging.{Merging}
use Rattle.mv_merging.specs.Tables.{asked_of, literal_merged, cube_merged, some_empty, line_merged, reader_merged}
use Rattle.mv_merging.specs.Values.{merged_set}
use Rattle.mv_merging.proofs.Sets.{merged_within, has-merged_past}
use Rattle.mv_merging.proofs.Shapes.{IsLineOver, cover_over, absorbed_cover, absorbed_reads}
use Rattle.mv_merging.proofs.Readers.{merged_cube, unless_all}

-- nets that are as the old ones but at n, where one is that can be read and has the values that are left, or more
pub record KeepsOthers (old : List (Option FlatNet)) (m : Merging) (n : ℕ) (new : List (Option FlatNet)) : Type 0 where
  pub others : (k : ℕ) → (k ≡ n → ⊥) → KeepsNet old new k
  pub readable : IsReadable new n
  pub enough : m.left ≤ values_in (slot new n)

-- ---- literals

-- a set behind a merge that isn't full for the values left isn't for more
not_full : (m : Merging) (set k : ℕ) → m.left ≤ k → (merged_set m set ≡ full m.left → ⊥) → merged_set m set ≡ full k → ⊥
not_full m set k enough not e =
    not (same_set (merged_set m set) (full m.left) (λ v.
    ⊎_elim
    (λ (low : v < m.left). let small : v < k = omega arith in ap (λ s. has s v) e ∙ (has-full k v ∙ (lt-ltb v k small ∙ sym (has-full m.left v ∙ lt-ltb v m.left low))))
    (λ (past : m.left ≤ v). has-merged_past m set v past ∙ sym (has-full m.left v ∙ not_less v m.left past))
    (cases_lt v m.left)))
  where
    not_less : (a b : ℕ) → b ≤ a → nat_lt a b ≡ false
    not_less a b h = ⊎_elim (λ (y : nat_lt a b ≡ true). let low = ltb-true a b y in absurd (omega arith)) (λ (f : nat_lt a b ≡ false). f) (cases_Bool (nat_lt a b))

module _ (old : List (Option FlatNet)) (m : Merging) (n : ℕ) (new : List (Option FlatNet)) (keeps : KeepsOthers old m n new) where
  literal_asked : (net : NetId) (set : ℕ) → net.0 ≡ n → some_empty (asked_of net m.left (merged_set m set)) ≡ false → AllLiterals new (asked_of net m.left (merged_set m set))
  literal_asked net set same some =
      let s = merged_set m set in
      let one : List Lit = record { net = net; set = s } ∷ [] in
      let P : List Lit → Type 0 = λ c. some_empty c ≡ false → AllLiterals new c in
      ⊎_elim
      (λ (t : nat_eq s (full m.left) ≡ true). subst P (sym (cond-true (nat_eq s (full m.left)) [] one t)) (λ h. tt))
      (λ (f : nat_eq s (full m.left) ≡ false).
      subst P (sym (cond-false (nat_eq s (full m.left)) [] one f))
      (λ h. (literal_there net set same (eqb-false s empty (or_parts (nat_eq s empty) false h).0) (eqb-false s (full m.left) f), tt)))
      (cases_Bool (nat_eq s (full m.left)))
      some
    where
      literal_there : (net : NetId) (set : ℕ) → net.0 ≡ n → (merged_set m set ≡ empty → ⊥) → (merged_set m set ≡ full m.left → ⊥) → IsLiteral new (record { net = net; set = merged_set m set })
      literal_there net set same some part =
          let k = values_in (slot new n) in
          let wide : Within (full m.left) (full k) = λ v h. has-full k v ∙ lt-ltb v k (below v h) in
          record {
            readable = subst (IsReadable new) (sym same) keeps.readable;
            set = record { some = some; within = λ v h. subst (λ j. has (full j) v ≡ true) (ap (λ i. values_in (slot new i)) (sym same)) (wide v (merged_within m set v h)) };
            not_full = λ e. not_full m set k keeps.enough part (e ∙ ap (λ i. full (values_in (slot new i))) same);
          }
        where
          below : (v : ℕ) → has (full m.left) v ≡ true → v < values_in (slot new n)
          below v h = let low = ltb-true v m.left (sym (has-full m.left v) ∙ h) in let enough = keeps.enough in omega arith

  pub literal_other : (l : Lit) → (l.net.0 ≡ n → ⊥) → IsLiteral old l → IsLiteral new l
  literal_other l ne is =
      let kept = keeps.others l.net.0 ne in
      record {
        readable = kept.readable is.readable;
        set = subst (λ k. IsOutput k l.set) (sym kept.values) is.set;
        not_full = λ e. is.not_full (e ∙ ap full kept.values);
      }

  literals_first : (l : Lit) → IsLiteral old l → some_empty (literal_merged m n l) ≡ false → AllLiterals new (literal_merged m n l)
  literals_first l is some =
      let P : List Lit → Type 0 = λ c. some_empty c ≡ false → AllLiterals new c in
      let asked = asked_of l.net m.left (merged_set m l.set) in
      ⊎_elim
      (λ (t : nat_eq l.net.0 n ≡ true). subst P (sym (cond-true (nat_eq l.net.0 n) asked (l ∷ []) t)) (literal_asked l.net l.set (eqb-true l.net.0 n t)))
      (λ (f : nat_eq l.net.0 n ≡ false). subst P (sym (cond-false (nat_eq l.net.0 n) asked (l ∷ []) f)) (λ h. (literal_other l (eqb-false l.net.0 n f) is, tt)))
      (cases_Bool (nat_eq l.net.0 n))
      some

  literals_joined : (a b : List Lit) → AllLiterals new a → AllLiterals new b → AllLiterals new (a ++ b)
  literals_joined [] b p q = q
  literals_joined (l ∷ a) b p q = (p.0, literals_joined a b p.1 q)

  literals_merged : (cube : List Lit) → AllLiterals old cube → some_empty (cube_merged m n cube) ≡ false → AllLiterals new (cube_merged m n cube)
  literals_merged [] all some = tt
  literals_merged (l ∷ ls) all some =
      let parts = or_parts (some_empty (literal_merged m n l)) (some_empty (cube_merged m n ls)) (sym (list_any-append (λ (k : Lit). nat_eq k.set empty) (literal_merged m n l) (cube_merged m n ls)) ∙ some) in
      literals_joined (literal_merged m n l) (cube_merged m n ls) (literals_first l all.0 parts.0) (literals_merged ls all.1 parts.1)

  -- ---- a cube that reads no net besides

  literal_reads : (l : Lit) (k : ℕ) → cube_reads (literal_merged m n l) k ≡ true → nat_eq l.net.0 k ≡ true
  literal_reads l k h =
      let set = merged_set m l.set in
      let P : List Lit → Type 0 = λ c. cube_reads c k ≡ true → nat_eq l.net.0 k ≡ true in
      let one : (j : Lit) → j.net.0 ≡ l.net.0 → P (j ∷ []) = λ j same h. ap (λ i. nat_eq i k) (sym same) ∙ first (nat_eq j.net.0 k) h in
      ⊎_elim
      (λ (t : nat_eq l.net.0 n ≡ true).
      subst P (sym (cond-true (nat_eq l.net.0 n) (asked_of l.net m.left set) (l ∷ []) t))
      (⊎_elim
      (λ (y : nat_eq set (full m.left) ≡ true). subst P (sym (cond-true (nat_eq set (full m.left)) [] (record { net = l.net; set = set } ∷ []) y)) (λ g. absurd (false≢true g)))
      (λ (f : nat_eq set (full m.left) ≡ false). subst P (sym (cond-false (nat_eq set (full m.left)) [] (record { net = l.net; set = set } ∷ []) f)) (one (record { net = l.net; set = set }) refl))
      (cases_Bool (nat_eq set (full m.left)))))
      (λ (f : nat_eq l.net.0 n ≡ false). subst P (sym (cond-false (nat_eq l.net.0 n) (asked_of l.net m.left set) (l ∷ []) f)) (one l refl))
      (cases_Bool (nat_eq l.net.0 n))
      h
    where
      first : (b : Bool) → (b || false) ≡ true → b ≡ true
      first true e = refl
      first false e = e

  cube_reads_only : (cube : List Lit) (k : ℕ) → cube_reads (cube_merged m n cube) k ≡ true → cube_reads cube k ≡ true
  cube_reads_only [] k h = h
  cube_reads_only (l ∷ ls) k h =
      ⊎_elim
      (λ (here : cube_reads (literal_merged m n l) k ≡ true). or_left (nat_eq l.net.0 k) (cube_reads ls k) (literal_reads l k here))
      (λ (rest : cube_reads (cube_merged m n ls) k ≡ true). or_right (nat_eq l.net.0 k) (cube_reads ls k) (cube_reads_only ls k rest))
      (or_cases (cube_reads (literal_merged m n l) k) (cube_reads (cube_merged m n ls) k) (sym (list_any-append (λ (j : Lit). nat_eq j.net.0 k) (literal_merged m n l) (cube_merged m n ls)) ∙ h))

  -- ---- a reader's table

  line_over : (values : ℕ) (reads : ℕ → Bool) (l : Line) → IsLineOver old values reads l → All (IsLineOver new values reads) (line_merged m n l)
  unfolding line_merged
  line_over values reads l is =
      unless_all (IsLineOver new values reads) (cube_merged m n l.cube) l.out
      (λ some. record {
        cube = merged_cube m n l.cube is.cube some;
        literals = literals_merged l.cube is.literals some;
        out = is.out;
        only = λ k h. is.only k (cube_reads_only l.cube k h);
      })

  lines_over : (values : ℕ) (c : Cover) → IsCover old values c → All (IsLineOver new values (cover_reads c)) (flat_map (line_merged m n) c.lines)
  lines_over values c is =
      All-flat_map (IsLineOver old values (cover_reads c)) (IsLineOver new values (cover_reads c)) (line_merged m n) (line_over values (cover_reads c)) c.lines (cover_over old values c is)

  pub reader_cover : (values : ℕ) (c : Cover) → IsCover old values c → IsCover new values (reader_merged m n c)
  unfolding reader_merged
  reader_cover values c is = absorbed_cover new values (cover_reads c) (record { lines = flat_map (line_merged m n) c.lines; default = c.default }) (lines_over values c is) is.default

  pub reader_reads_only : (values : ℕ) (c : Cover) → IsCover old values c → (k : ℕ) → cover_reads (reader_merged m n c) k ≡ true → cover_reads c k ≡ true
  unfolding reader_merged
  reader_reads_only values c is k h = absorbed_reads new values (cover_reads c) (record { lines = flat_map (line_merged m n) c.lines; default = c.default }) (lines_over values c is) k h
