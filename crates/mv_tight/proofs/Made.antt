-- A table made tight: from the old table to the lines that have grown, and from these to those that are left.
use Rattle.std.proofs.Common.{◌≡◌, ◌∙◌, ℕ, ◌+◌, ◌<◌, Bool, true, false, not, ◌&&◌, nat_eq, nat_lt, cond, List, [], ◌∷◌, ◌++◌, length, All, Option, Some, None, is_some, refl, sym, ap, subst, inl, inr, ⊎_elim, arith}
use Rattle.std.specs.List.{list_any}
use Rattle.std.proofs.lemmas.Bool.{cases_Bool, cases_eq, false≢true, or_cases, or_left, or_right, and_parts, and_from, eqb-true, lt-ltb, not-true, not_from_false}
use Rattle.std.proofs.lemmas.List.{length-append}
use Rattle.std.proofs.lemmas.Slice.Eq.{slice_eq-Decides}
use Rattle.std.specs.Cmp.Lexicographic.{pointwise}
use Rattle.mv_cover.specs.Equal.{line_eq}
use Rattle.mv_cover.specs.Keys.{line_eq-Decides}
use Rattle.std.proofs.lemmas.List.Elements.{All-cons, All-head, All-nil, All-tail}
use Rattle.mv_base.specs.Set.{has, empty}
use Rattle.mv_cover.specs.Absorb.{default_beside, some_bare}
use Rattle.mv_cover.specs.Covers.{allowed, cube_reads, cover_reads, lines_read, default_gives}
use Rattle.mv_cover.specs.Cubes.{matches, IsCube}
use Rattle.mv_cover.specs.Lines.{IsOutput, lines_differ}
use Rattle.mv_cover.specs.Literal.{Lit}
use Rattle.mv_cover.specs.declared.cover.Cover.{Cover}
use Rattle.mv_cover.specs.declared.line.Line.{Line}
use Rattle.mv_flex.specs.Checks.{chooses, default_chooses}
use Rattle.mv_flex.specs.Flex.{CoverInFlex, InFlex, IsOverFanins, IsPair, LineInFlex}
use Rattle.mv_flex.specs.Left.{AreLeft, IsLawful, IsLineInside}
use Rattle.mv_flex.proofs.Allowing.{allowed_by}
use Rattle.mv_flex.proofs.Checking.{allows_some, default_from, same_table, some_chosen}
use Rattle.mv_net.specs.Allowed.{net_allows, net_table_allows}
use Rattle.mv_meaning.proofs.Rewired.{cover_at}
use Rattle.mv_net.specs.Formed.{AllCubes, AllLines, AllLiterals, IsCover, IsLiteral, WellFormed}
use Rattle.mv_net.specs.Nets.{slot, table_in, table_reads, values_in, reads_in}
use Rattle.mv_net.specs.declared.parts.FlatNet.{FlatNet}
use Rattle.mv_net.specs.declared.parts.NetParts.{NetParts}
use Rattle.mv_net.specs.declared.window.Window.{Window}
use Rattle.mv_net.proofs.Local.{allowed-local}
use Rattle.mv_tight.proofs.Growth.{literals_all}
use Rattle.mv_tight.proofs.Lawful.{are_distinct, chosen_met, lawful_by, left_all, left_lawful, left_needed, left_some, line_chooses}
use Rattle.mv_tight.proofs.Some.{grown_matches, lines_within}
use Rattle.mv_tight.specs.Growing.{AreGrown}
use Rattle.mv_tight.specs.Tight.{AreSome, IsFullLine, IsGrownLine, IsMadeTight, IsNewTight, IsTight}

-- ---- the old table

allows_with : (g : Option FlatNet) (c : Cover) (x : ℕ → ℕ) (v : ℕ) → table_in g ≡ Some c → v < values_in g → allowed c x v ≡ true → net_allows g x v ≡ true
allows_with None c x v e low h = absurd (false≢true (ap is_some e))
allows_with (Some f) c x v e low h =
    and_from (nat_lt v f.values) (net_table_allows f.table x v) (lt-ltb v f.values low) (ap (λ t. net_table_allows t x v) e ∙ h)

-- each pair that the old table allows is in the flexibility: an assignment with it is its own replacement
pub old_inside : (nets : List (Option FlatNet)) (w : Window) (n : ℕ) (old : Cover) → table_in (slot nets n) ≡ Some old → CoverInFlex nets w n old
old_inside nets w n old table = record {
  each = λ at v pair h. record {
    pair = pair;
    replaced = λ x agrees same e.
        let here : allowed old x (x n) ≡ true =
        allowed-local old x at (x n) (λ m r. same m (ap (λ t. table_reads t m) table ∙ r)) ∙ ap (allowed old at) e ∙ h in
        record {
          given = x;
          agrees = record {
            inputs = agrees.inputs;
            tables = λ m y.
                ⊎_elim
                (λ (is : m ≡ n). subst (λ k. net_allows (slot nets k) x (x k) ≡ true) (sym is) (allows_with (slot nets n) old x (x n) table agrees.here here))
                (λ (other : m ≡ n → ⊥). agrees.tables m other y)
                (cases_eq m n);
          };
          inputs = λ m y. refl;
          outputs = λ m y. refl;
        };
  };
}

pub old_lawful : (nets : List (Option FlatNet)) (w : Window) (n : ℕ) (old : Cover) → table_in (slot nets n) ≡ Some old → IsLawful nets w n old old
old_lawful nets w n old table = record { inside = old_inside nets w n old table; keeps = record { each = λ at point some. some } }

-- a line of it: it reads fanins alone, and is within the flexibility
pub record IsOldLine (nets : List (Option FlatNet)) (w : Window) (n : ℕ) (l : Line) : Type 0 where
  pub over : IsOverFanins nets n (cube_reads l.cube)
  pub inside : LineInFlex nets w n l

lines_inside : (nets : List (Option FlatNet)) (w : Window) (n : ℕ) (ls : List Line) → ((at : ℕ → ℕ) (v : ℕ) → IsPair nets n at v → list_any (λ (l : Line). matches at l.cube && has l.out v) ls ≡ true → InFlex nets w n at v) → ((m : ℕ) → lines_read ls m ≡ true → reads_in nets n m ≡ true) → All (IsOldLine nets w n) ls
lines_inside nets w n [] gives over = All-nil (IsOldLine nets w n)
lines_inside nets w n (l ∷ ls) gives over =
    All-cons (IsOldLine nets w n) l ls
    (record {
      over = record { fanins = λ m h. over m (or_left (cube_reads l.cube m) (lines_read ls m) h) };
      inside = record {
        each = λ at v pair h o.
            gives at v pair
            (or_left (matches at l.cube && has l.out v) (list_any (λ (k : Line). matches at k.cube && has k.out v) ls) (and_from (matches at l.cube) (has l.out v) h o));
      };
    })
    (lines_inside nets w n ls
    (λ at v pair h. gives at v pair (or_right (matches at l.cube && has l.out v) (list_any (λ (k : Line). matches at k.cube && has k.out v) ls) h))
    (λ m h. over m (or_right (cube_reads l.cube m) (lines_read ls m) h)))

pub old_lines : (nets : List (Option FlatNet)) (w : Window) (n : ℕ) (old : Cover) → table_in (slot nets n) ≡ Some old → All (IsOldLine nets w n) old.lines
old_lines nets w n old table =
    lines_inside nets w n old.lines
    (λ at v pair h.
    (old_inside nets w n old table).each at v pair
    (allowed_by old at v ∙ or_left (list_any (λ (l : Line). matches at l.cube && has l.out v) old.lines) (not (list_any (λ (l : Line). matches at l.cube) old.lines) && default_gives old.default v) h))
    (λ m h. ap (λ t. table_reads t m) table ∙ h)

-- the lines of a cover by themselves
pub cover_literals : (nets : List (Option FlatNet)) (values : ℕ) (ls : List Line) → AllLines nets values ls → All (λ (l : Line). AllLiterals nets l.cube) ls
cover_literals nets values [] a = All-nil (λ (l : Line). AllLiterals nets l.cube)
cover_literals nets values (l ∷ ls) a = All-cons (λ (k : Line). AllLiterals nets k.cube) l ls a.0 (cover_literals nets values ls a.2)

-- ---- the lines that have grown

pub record IsWhole (nets : List (Option FlatNet)) (w : Window) (n values : ℕ) (l : Line) : Type 0 where
  pub formed : IsCube l.cube
  pub literals : All (IsLiteral nets) l.cube
  pub out : IsOutput values l.out
  pub inside : IsLineInside nets w n l
  pub full : IsFullLine nets w n l

whole_lines : (nets : List (Option FlatNet)) (w : Window) (n values : ℕ) (ls gs : List Line) → AreGrown nets w n ls gs → AllLines nets values ls → All (IsWhole nets w n values) gs
whole_lines nets w n values [] [] grown lines = All-nil (IsWhole nets w n values)
whole_lines nets w n values [] (g ∷ gs) grown lines = absurd grown
whole_lines nets w n values (l ∷ ls) [] grown lines = absurd grown
whole_lines nets w n values (l ∷ ls) (g ∷ gs) grown lines =
    let out : IsOutput values g.out = subst (IsOutput values) (sym grown.0.out) lines.1 in
    All-cons (IsWhole nets w n values) g gs
    (record {
      formed = grown.0.formed;
      literals = grown.0.literals;
      out = out;
      inside = record { inside = grown.0.inside; some = out.some };
      full = grown.0.full;
    })
    (whole_lines nets w n values ls gs grown.1 lines.2)

all_each : (P Q : Line → Type 0) → ((l : Line) → P l → Q l) → (ls : List Line) → All P ls → All Q ls
all_each P Q f [] a = All-nil Q
all_each P Q f (l ∷ ls) a = All-cons Q l ls (f l (All-head P l ls a)) (all_each P Q f ls (All-tail P l ls a))

grown_some : (nets : List (Option FlatNet)) (w : Window) (n : ℕ) (ls gs : List Line) → AreGrown nets w n ls gs → AreSome IsGrownLine ls gs
grown_some nets w n [] [] grown = tt
grown_some nets w n [] (g ∷ gs) grown = absurd grown
grown_some nets w n (l ∷ ls) [] grown = absurd grown
grown_some nets w n (l ∷ ls) (g ∷ gs) grown = inl (record { out = grown.0.out; cube = grown.0.cube }, grown_some nets w n ls gs grown.1)

grown_met : (nets : List (Option FlatNet)) (w : Window) (n : ℕ) (ls gs : List Line) → AreGrown nets w n ls gs → (at : ℕ → ℕ) → list_any (λ (l : Line). matches at l.cube) ls ≡ true → list_any (λ (l : Line). matches at l.cube) gs ≡ true
grown_met nets w n [] [] grown at h = h
grown_met nets w n [] (g ∷ gs) grown at h = absurd grown
grown_met nets w n (l ∷ ls) [] grown at h = absurd grown
grown_met nets w n (l ∷ ls) (g ∷ gs) grown at h =
    ⊎_elim
    (λ (here : matches at l.cube ≡ true). or_left (matches at g.cube) (list_any (λ (k : Line). matches at k.cube) gs) (grown_matches at l.cube g.cube grown.0.cube here))
    (λ (later : list_any (λ (k : Line). matches at k.cube) ls ≡ true).
    or_right (matches at g.cube) (list_any (λ (k : Line). matches at k.cube) gs) (grown_met nets w n ls gs grown.1 at later))
    (or_cases (matches at l.cube) (list_any (λ (k : Line). matches at k.cube) ls) h)

-- what the call on the flexibility wants of the grown cover
pub grown_over : (nets : List (Option FlatNet)) (w : Window) (n : ℕ) (old : Cover) (gs : List Line) → table_in (slot nets n) ≡ Some old → AreGrown nets w n old.lines gs → (m : ℕ) → lines_read gs m ≡ true → reads_in nets n m ≡ true
grown_over nets w n old gs table grown m h = ap (λ t. table_reads t m) table ∙ lines_within old.lines gs (grown_some nets w n old.lines gs grown) m h

pub grown_inside : (nets : List (Option FlatNet)) (w : Window) (n values : ℕ) (ls gs : List Line) → AreGrown nets w n ls gs → AllLines nets values ls → All (IsLineInside nets w n) gs
grown_inside nets w n values ls gs grown lines = all_each (IsWhole nets w n values) (IsLineInside nets w n) (λ l a. a.inside) gs (whole_lines nets w n values ls gs grown lines)

-- ---- the default that goes

bare_met : (ls : List Line) → some_bare ls ≡ true → (at : ℕ → ℕ) → list_any (λ (l : Line). matches at l.cube) ls ≡ true
bare_met [] bare at = absurd (false≢true bare)
bare_met (l ∷ ls) bare at =
    ⊎_elim
    (λ (here : nat_eq (length l.cube) 0 ≡ true). or_left (matches at l.cube) (list_any (λ (k : Line). matches at k.cube) ls) (empty_holds l.cube here))
    (λ (later : some_bare ls ≡ true). or_right (matches at l.cube) (list_any (λ (k : Line). matches at k.cube) ls) (bare_met ls later at))
    (or_cases (nat_eq (length l.cube) 0) (some_bare ls) bare)
  where
    empty_holds : (c : List Lit) → nat_eq (length c) 0 ≡ true → matches at c ≡ true
    empty_holds [] e = refl
    empty_holds (k ∷ ks) e = absurd (let none : length (k ∷ ks) ≡ 0 = eqb-true (length (k ∷ ks)) 0 e in omega (arith, none))

module _ (nets : List (Option FlatNet)) (w : Window) (n : ℕ) (old : Cover) where
  -- where lines match everywhere the default says nothing
  bare_lawful : (ls : List Line) (d : Option ℕ) → some_bare ls ≡ true → All (IsLineInside nets w n) ls → IsLawful nets w n old (record { lines = ls; default = d }) → IsLawful nets w n old (record { lines = ls; default = None })
  bare_lawful ls d bare inside lawful = record {
    inside = record {
      each = λ at v pair h.
          ⊎_elim
          (λ (line : list_any (λ (l : Line). matches at l.cube && has l.out v) ls ≡ true).
          lawful.inside.each at v pair
          (allowed_by (record { lines = ls; default = d }) at v
          ∙ or_left (list_any (λ (l : Line). matches at l.cube && has l.out v) ls) (not (list_any (λ (l : Line). matches at l.cube) ls) && default_gives d v) line))
          (λ (rest : (not (list_any (λ (l : Line). matches at l.cube) ls) && false) ≡ true).
          absurd (false≢true (and_parts (not (list_any (λ (l : Line). matches at l.cube) ls)) false rest).1))
          (or_cases (list_any (λ (l : Line). matches at l.cube && has l.out v) ls) (not (list_any (λ (l : Line). matches at l.cube) ls) && false)
          (sym (allowed_by (record { lines = ls; default = None }) at v) ∙ h));
    };
    keeps = record {
      each = λ at point some.
          allows_some (record { lines = ls; default = None }) at
          (or_left (list_any (λ (l : Line). matches at l.cube && not (nat_eq l.out empty)) ls) (not (list_any (λ (l : Line). matches at l.cube) ls) && false)
          (line_chooses nets w n ls at inside (bare_met ls bare at)));
    };
  }

  -- lines that are lawful without the old default are lawful with it
  none_lawful : (ls : List Line) → All (IsLineInside nets w n) old.lines → IsLawful nets w n old (record { lines = ls; default = None }) → IsLawful nets w n old (record { lines = ls; default = old.default })
  none_lawful ls inside lawful = record {
    inside = record {
      each = λ at v pair h.
          ⊎_elim
          (λ (line : list_any (λ (l : Line). matches at l.cube && has l.out v) ls ≡ true).
          lawful.inside.each at v pair
          (allowed_by (record { lines = ls; default = None }) at v
          ∙ or_left (list_any (λ (l : Line). matches at l.cube && has l.out v) ls) (not (list_any (λ (l : Line). matches at l.cube) ls) && false) line))
          (λ (rest : (not (list_any (λ (l : Line). matches at l.cube) ls) && default_gives old.default v) ≡ true).
          let both = and_parts (not (list_any (λ (l : Line). matches at l.cube) ls)) (default_gives old.default v) rest in
          absurd
          (false≢true
          (sym (not-true (list_any (λ (l : Line). matches at l.cube) ls) both.0)
          ∙ chosen_met at ls
          (no_default at (some_chosen (record { lines = ls; default = None }) at (lawful.keeps.each at pair.point (allows_some old at (old_chooses at v both.1))))))))
          (or_cases (list_any (λ (l : Line). matches at l.cube && has l.out v) ls) (not (list_any (λ (l : Line). matches at l.cube) ls) && default_gives old.default v)
          (sym (allowed_by (record { lines = ls; default = old.default }) at v) ∙ h));
    };
    keeps = record {
      each = λ at point some.
          allows_some (record { lines = ls; default = old.default }) at
          (or_left (list_any (λ (l : Line). matches at l.cube && not (nat_eq l.out empty)) ls) (not (list_any (λ (l : Line). matches at l.cube) ls) && default_chooses old.default)
          (no_default at (some_chosen (record { lines = ls; default = None }) at (lawful.keeps.each at point some))));
    };
  }
    where
      no_default : (at : ℕ → ℕ) → chooses (record { lines = ls; default = None }) at ≡ true → list_any (λ (l : Line). matches at l.cube && not (nat_eq l.out empty)) ls ≡ true
      no_default at h =
          ⊎_elim
          (λ (line : list_any (λ (l : Line). matches at l.cube && not (nat_eq l.out empty)) ls ≡ true). line)
          (λ (rest : (not (list_any (λ (l : Line). matches at l.cube) ls) && false) ≡ true).
          absurd (false≢true (and_parts (not (list_any (λ (l : Line). matches at l.cube) ls)) false rest).1))
          (or_cases (list_any (λ (l : Line). matches at l.cube && not (nat_eq l.out empty)) ls) (not (list_any (λ (l : Line). matches at l.cube) ls) && false) h)

      -- where the default gives a value the old table chooses everywhere
      old_chooses : (at : ℕ → ℕ) (v : ℕ) → default_gives old.default v ≡ true → chooses old at ≡ true
      old_chooses at v gives =
          ⊎_elim
          (λ (met : list_any (λ (l : Line). matches at l.cube) old.lines ≡ true).
          or_left (list_any (λ (l : Line). matches at l.cube && not (nat_eq l.out empty)) old.lines) (not (list_any (λ (l : Line). matches at l.cube) old.lines) && default_chooses old.default)
          (line_chooses nets w n old.lines at inside met))
          (λ (none : list_any (λ (l : Line). matches at l.cube) old.lines ≡ false).
          or_right (list_any (λ (l : Line). matches at l.cube && not (nat_eq l.out empty)) old.lines) (not (list_any (λ (l : Line). matches at l.cube) old.lines) && default_chooses old.default)
          (and_from (not (list_any (λ (l : Line). matches at l.cube) old.lines)) (default_chooses old.default) (not_from_false (list_any (λ (l : Line). matches at l.cube) old.lines) none)
          (default_from old.default v gives)))
          (cases_Bool (list_any (λ (l : Line). matches at l.cube) old.lines))

-- ---- the table that is made

-- the lines that are left, with the old default
pub record IsKept (nets : List (Option FlatNet)) (w : Window) (n : ℕ) (old : Cover) (left : List Line) : Type 0 where
  pub whole : All (IsWhole nets w n (values_in (slot nets n))) left
  pub lawful : IsLawful nets w n old (record { lines = left; default = old.default })
  pub needed : (f : List Line) (x : Line) (b : List Line) → left ≡ f ++ x ∷ b → IsLawful nets w n old (record { lines = f ++ b; default = old.default }) → ⊥
  pub some : AreSome IsGrownLine old.lines left
  pub old_inside : All (IsLineInside nets w n) old.lines
  pub differ : lines_differ left ≡ true

old_all : (nets : List (Option FlatNet)) (w : Window) (n values : ℕ) (ls : List Line) → All (IsOldLine nets w n) ls → AllLines nets values ls → All (IsLineInside nets w n) ls
old_all nets w n values [] a lines = All-nil (IsLineInside nets w n)
old_all nets w n values (l ∷ ls) a lines =
    All-cons (IsLineInside nets w n) l ls (record { inside = (All-head (IsOldLine nets w n) l ls a).inside; some = lines.1.some })
    (old_all nets w n values ls (All-tail (IsOldLine nets w n) l ls a) lines.2)

none_in_front : (f : List Line) (x : Line) (b : List Line) → [] ≡ f ++ x ∷ b → ⊥
none_in_front f x b e = let long : 0 ≡ length f + length (x ∷ b) = ap length e ∙ length-append f (x ∷ b) in omega (arith, long)

pub is_kept : (nets : List (Option FlatNet)) (w : Window) (n : ℕ) (old : Cover) (gs left : List Line) → table_in (slot nets n) ≡ Some old → IsCover nets (values_in (slot nets n)) old → AreGrown nets w n old.lines gs → AreLeft (λ lines. IsLawful nets w n old (record { lines = lines; default = old.default })) [] gs left → IsKept nets w n old left
is_kept nets w n old gs left table cover grown a =
    let values = values_in (slot nets n) in
    let inside = grown_inside nets w n values old.lines gs grown cover.lines in
    let lawful = lawful_by nets w n old old.default old.lines gs (grown_met nets w n old.lines gs grown) inside (old_lawful nets w n old table) in
    let left_is = left_lawful nets w n old old.default [] gs left lawful a in
    let needed =
    left_needed nets w n old old.default [] gs left inside (record { each = λ f x b e rest. none_in_front f x b e }) a in
    let some = left_some nets w n old old.default old.lines [] gs left grown a in
    record {
      whole = left_all nets w n old old.default (IsWhole nets w n values) [] gs left (whole_lines nets w n values old.lines gs grown cover.lines) a;
      lawful = left_is;
      needed = needed;
      some = subst (AreSome IsGrownLine old.lines) (sym some.is) some.some;
      old_inside = old_all nets w n values old.lines (old_lines nets w n old table) cover.lines;
      differ = are_distinct nets w n old old.default left (left_all nets w n old old.default (IsLineInside nets w n) [] gs left inside a) left_is needed [] left refl;
    }

all_cubes : (nets : List (Option FlatNet)) (w : Window) (n values : ℕ) (ls : List Line) → All (IsWhole nets w n values) ls → AllCubes ls
all_cubes nets w n values [] a = tt
all_cubes nets w n values (l ∷ ls) a = ((All-head (IsWhole nets w n values) l ls a).formed, all_cubes nets w n values ls (All-tail (IsWhole nets w n values) l ls a))

all_lines : (nets : List (Option FlatNet)) (w : Window) (n values : ℕ) (ls : List Line) → All (IsWhole nets w n values) ls → AllLines nets values ls
all_lines nets w n values [] a = tt
all_lines nets w n values (l ∷ ls) a =
    let is = All-head (IsWhole nets w n values) l ls a in
    (literals_all nets l.cube is.literals, is.out, all_lines nets w n values ls (All-tail (IsWhole nets w n values) l ls a))

-- the default is the old one where no line is without literals, and else none
kept_default : (left : List Line) (d : Option ℕ) → some_bare left ≡ false → default_beside left d ≡ d
kept_default left d f = λ i. cond (f i) None d

gone_default : (left : List Line) (d : Option ℕ) → some_bare left ≡ true → default_beside left d ≡ None
gone_default left d y = λ i. cond (y i) None d

tight_with : (nets : List (Option FlatNet)) (w : Window) (n : ℕ) (old : Cover) (left : List Line) → IsKept nets w n old left → IsTight nets w n old (record { lines = left; default = old.default })
tight_with nets w n old left kept = record {
  lawful = kept.lawful;
  full = all_each (IsWhole nets w n (values_in (slot nets n))) (IsFullLine nets w n) (λ l a. a.full) left kept.whole;
  needed = kept.needed;
}

tight_without : (nets : List (Option FlatNet)) (w : Window) (n : ℕ) (old : Cover) (left : List Line) → IsKept nets w n old left → some_bare left ≡ true → IsTight nets w n old (record { lines = left; default = None })
tight_without nets w n old left kept bare = record {
  lawful =
      bare_lawful nets w n old left old.default bare
      (all_each (IsWhole nets w n (values_in (slot nets n))) (IsLineInside nets w n) (λ l a. a.inside) left kept.whole) kept.lawful;
  full = all_each (IsWhole nets w n (values_in (slot nets n))) (IsFullLine nets w n) (λ l a. a.full) left kept.whole;
  needed = λ f x b e rest. kept.needed f x b e (none_lawful nets w n old (f ++ b) kept.old_inside rest);
}

none_out : (out : ℕ) → None ≡ Some out → ⊥
none_out out e = false≢true (ap is_some e)

pub made_new : (nets : List (Option FlatNet)) (w : Window) (n : ℕ) (old : Cover) (left : List Line) → IsCover nets (values_in (slot nets n)) old → IsKept nets w n old left → (left ≡ old.lines → ⊥) → IsNewTight nets w n old (record { lines = left; default = default_beside left old.default })
made_new nets w n old left cover kept changed = record {
  tight =
      ⊎_elim
      (λ (y : some_bare left ≡ true).
      subst (λ (d : Option ℕ). IsTight nets w n old (record { lines = left; default = d })) (sym (gone_default left old.default y)) (tight_without nets w n old left kept y))
      (λ (f : some_bare left ≡ false).
      subst (λ (d : Option ℕ). IsTight nets w n old (record { lines = left; default = d })) (sym (kept_default left old.default f)) (tight_with nets w n old left kept))
      (cases_Bool (some_bare left));
  grown = record {
    lines = kept.some;
    default =
        ⊎_elim
        (λ (y : some_bare left ≡ true). inr (gone_default left old.default y, y))
        (λ (f : some_bare left ≡ false). inl (kept_default left old.default f))
        (cases_Bool (some_bare left));
  };
  changed = λ e. changed (ap (λ (c : Cover). c.lines) e);
  cover = record {
    cubes = all_cubes nets w n (values_in (slot nets n)) left kept.whole;
    lines = all_lines nets w n (values_in (slot nets n)) left kept.whole;
    differ = kept.differ;
    default = λ out e.
        ⊎_elim
        (λ (y : some_bare left ≡ true). absurd (none_out out (sym (gone_default left old.default y) ∙ e)))
        (λ (f : some_bare left ≡ false). cover.default out (sym (kept_default left old.default f) ∙ e))
        (cases_Bool (some_bare left));
    met = λ y. gone_default left old.default y;
  };
}

pub made_same : (nets : List (Option FlatNet)) (w : Window) (n : ℕ) (old : Cover) (left : List Line) → IsKept nets w n old left → left ≡ old.lines → IsTight nets w n old old
made_same nets w n old left kept e =
    subst (λ (ls : List Line). IsTight nets w n old (record { lines = ls; default = old.default })) e (tight_with nets w n old left kept)

-- ---- from what the calls ensure

pub kept_from : (net : NetParts) (w : Window) (n : ℕ) (old : Cover) (gs left : List Line) (d : Option ℕ) → WellFormed net → table_in (slot net.nets n) ≡ Some old → AreGrown net.nets w n old.lines gs → d ≡ old.default → (IsOverFanins net.nets n (cover_reads (record { lines = gs; default = d })) → All (IsLineInside net.nets w n) gs → (o : Cover) → table_in (slot net.nets n) ≡ Some o → AreLeft (λ lines. IsLawful net.nets w n o (record { lines = lines; default = d })) [] gs left) → IsKept net.nets w n old left
kept_from net w n old gs left d formed table grown e says =
    let cover = cover_at net n old formed table in
    is_kept net.nets w n old gs left table cover grown
    (subst (λ (k : Option ℕ). AreLeft (λ lines. IsLawful net.nets w n old (record { lines = lines; default = k })) [] gs left) e
    (says (record { fanins = grown_over net.nets w n old gs table grown }) (grown_inside net.nets w n (values_in (slot net.nets n)) old.lines gs grown cover.lines) old table))

pub stays_made : (net : NetParts) (w : Window) (n : ℕ) (old o : Cover) (left : List Line) → table_in (slot net.nets n) ≡ Some old → table_in (slot net.nets n) ≡ Some o → IsKept net.nets w n old left → left ≡ old.lines → IsMadeTight net.nets w n o None
stays_made net w n old o left table other kept same =
    subst (λ (k : Cover). IsTight net.nets w n k k) (same_table old o (sym table ∙ other)) (made_same net.nets w n old left kept same)

pub new_made : (net : NetParts) (w : Window) (n : ℕ) (old o new : Cover) (left : List Line) → WellFormed net → table_in (slot net.nets n) ≡ Some old → table_in (slot net.nets n) ≡ Some o → IsKept net.nets w n old left → (left ≡ old.lines → ⊥) → new ≡ record { lines = left; default = default_beside left old.default } → IsMadeTight net.nets w n o (Some new)
new_made net w n old o new left formed table other kept changed e =
    subst (λ (k : Cover). IsNewTight net.nets w n o k) (sym e)
    (subst (λ (k : Cover). IsNewTight net.nets w n k (record { lines = left; default = default_beside left old.default })) (same_table old o (sym table ∙ other))
    (made_new net.nets w n old left (cover_at net n old formed table) kept changed))

-- the test of two lists of lines
pub same_lines : (xs ys left old : List Line) (r : Bool) → r ≡ pointwise line_eq xs ys → xs ≡ left → ys ≡ old → r ≡ true → left ≡ old
same_lines xs ys left old r test a b h = sym a ∙ (slice_eq-Decides line_eq-Decides xs ys r test).0 h ∙ b

pub other_lines : (xs ys left old : List Line) (r : Bool) → r ≡ pointwise line_eq xs ys → xs ≡ left → ys ≡ old → r ≡ false → left ≡ old → ⊥
other_lines xs ys left old r test a b f e = false≢true (sym f ∙ (slice_eq-Decides line_eq-Decides xs ys r test).1 (a ∙ e ∙ sym b))
