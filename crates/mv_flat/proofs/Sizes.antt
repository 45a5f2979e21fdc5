-- The size of a network with the covers of more tables, and which limits it passes.
use Rattle.std.proofs.Common.{◌≡◌, ℕ, ◌+◌, ◌<◌, ◌≤◌, Bool, cond, List, [], ◌∷◌, ◌++◌, length, take, drop, get_or, inl, inr, refl, sym, ◌∙◌, ap, subst, arith}
use Rattle.std.specs.Prelude.{count_by, Some, nat_lt}
use Rattle.std.specs.List.{flat_map}
use Rattle.std.proofs.lemmas.Bool.{ltb-false, le-ltb}
use Rattle.std.proofs.lemmas.Grind.{flat_map-append}
use Rattle.std.proofs.lemmas.List.{append-nil, length-append, take_more, take_all, take-append-drop, drop_more}
use Rattle.std.proofs.lemmas.List.Sums.{sum_by-append, sum_by-cons}
use Rattle.mv_base.specs.declared.limits.TheConstants.{MAX_FLAT_NETS, MAX_FLAT_LINES, MAX_FLAT_LITERALS}
use Rattle.mv_cover.specs.declared.cover.Cover.{Cover}
use Rattle.mv_cover.specs.declared.line.Line.{Line}
use Rattle.mv_cover.specs.Covers.{literal_count}
use Rattle.mv_cover.proofs.Counts.{literals-sum}
use Rattle.mv_design.specs.declared.design.Decl.{Decl}
use Rattle.mv_design.specs.declared.design.FileModel.{FileModel}
use Rattle.mv_design.specs.declared.table.FileTable.{FileTable}
use Rattle.mv_fault.specs.Tells.{when, first}
use Rattle.mv_fault.specs.declared.fault.Which.TheVariants.{Nets, FlatLines, FlatEntries}
use Rattle.mv_fault.specs.declared.flat.FlatFault.{FlatFault}
use Rattle.mv_fault.specs.declared.flat.FlatFault.TheVariants.{Limit, Memory}
use Rattle.mv_fault.proofs.Firsts.{append-nothing}
use Rattle.mv_fault.proofs.Nothing.{left-nothing, right-nothing, when-nothing}
use Rattle.mv_rows.specs.declared.table.FlatTable.{FlatTable}
use Rattle.mv_joint.specs.declared.joint.JointTable.{JointTable}
use Rattle.mv_flat.specs.declared.covers.TableCovers.{TableCovers}
use Rattle.mv_flat.specs.declared.covers.TableCovers.TheVariants.{Single, Joint}
use Rattle.mv_flat.specs.Covers.{MadeNet, made_mark, made_of, outputs_of, lines_of, IsMadeTable, IsTooWide}
use Rattle.mv_flat.specs.Numbers.{columns_at, mark_at, choice_at}
use Rattle.mv_flat.specs.Places.{net_places}
use Rattle.mv_flat.specs.declared.size.Size.{Size}
use Rattle.mv_flat.specs.Size.{gives_reset, size_faults, size_of, AreCovers, PassesNone, FitsLimits, IsPastLimit}
use Rattle.mv_flat.specs.Sized.{IsWithinSize, with_lines, with_net, with_nets, with_covers, AreSized, TellsLimit}

-- ---- sums

counted_both : {X : Type 0} (p : X → Bool) (xs ys : List X) → count_by p (xs ++ ys) ≡ count_by p xs + count_by p ys
counted_both p xs ys = sum_by-append (λ x. cond (p x) 1 0) xs ys

pub literals_both : (xs ys : List Line) → literal_count (xs ++ ys) ≡ literal_count xs + literal_count ys
literals_both xs ys =
    let weight : Line → ℕ = λ l. length l.cube in
    literals-sum (xs ++ ys) ∙ (sum_by-append weight xs ys ∙ sym (λ i. literals-sum xs i + literals-sum ys i))

-- one more table
pub size_more : (nets : ℕ) (ts : List FileTable) (all : List TableCovers) (t : FileTable) (covers : TableCovers)
    → with_covers (size_of nets ts all) t covers ≡ size_of nets (ts ++ t ∷ []) (all ++ covers ∷ [])
size_more nets ts all t covers = λ i. record { nets = of_nets i; lines = of_lines i; literals = of_literals i }
  where
    made : flat_map made_of (all ++ covers ∷ []) ≡ flat_map made_of all ++ made_of covers
    made = flat_map-append made_of all (covers ∷ []) ∙ ap (λ ms. flat_map made_of all ++ ms) (append-nil (made_of covers))

    more : flat_map lines_of (all ++ covers ∷ []) ≡ flat_map lines_of all ++ lines_of covers
    more = flat_map-append lines_of all (covers ∷ []) ∙ ap (λ ls. flat_map lines_of all ++ ls) (append-nil (lines_of covers))

    of_nets : nets + (count_by gives_reset ts + length (flat_map made_of all)) + cond (gives_reset t) 1 0 + length (made_of covers)
        ≡ nets + (count_by gives_reset (ts ++ t ∷ []) + length (flat_map made_of (all ++ covers ∷ [])))
    of_nets =
        let a = counted_both gives_reset ts (t ∷ []) in
        let b = ap length made ∙ length-append (flat_map made_of all) (made_of covers) in
        let c = sum_by-cons (λ x. cond (gives_reset x) 1 0) t [] in
        omega arith

    of_lines : length (flat_map lines_of all) + length (lines_of covers) ≡ length (flat_map lines_of (all ++ covers ∷ []))
    of_lines = sym (ap length more ∙ length-append (flat_map lines_of all) (lines_of covers))

    of_literals : literal_count (flat_map lines_of all) + literal_count (lines_of covers) ≡ literal_count (flat_map lines_of (all ++ covers ∷ []))
    of_literals = sym (ap literal_count more ∙ literals_both (flat_map lines_of all) (lines_of covers))

-- ---- the steps by which a table is counted

-- the lines of a net that is made
abbrev made_lines : MadeNet → List Line
made_lines made = made.cover.lines

-- the lines of an output's cover
abbrev pub cover_lines : Cover → List Line
cover_lines c = c.lines

-- the size with this many nets more, and with these lines
abbrev with_both : Size → ℕ → List Line → Size
with_both s n ls = record { nets = s.nets + n; lines = s.lines + length ls; literals = s.literals + literal_count ls }

nothing_more : (s : Size) → s ≡ with_both s 0 []
nothing_more s =
    let n : s.nets ≡ s.nets + 0 = omega arith in
    let l : s.lines ≡ s.lines + 0 = omega arith in
    let e : s.literals ≡ s.literals + 0 = omega arith in
    λ i. record { nets = n i; lines = l i; literals = e i }

both_more : (s : Size) (m n : ℕ) (xs ys : List Line) → with_both (with_both s m xs) n ys ≡ with_both s (m + n) (xs ++ ys)
both_more s m n xs ys =
    let a = length-append xs ys in
    let b = literals_both xs ys in
    let of_nets : s.nets + m + n ≡ s.nets + (m + n) = omega arith in
    let of_lines : s.lines + length xs + length ys ≡ s.lines + length (xs ++ ys) = omega arith in
    let of_literals : s.literals + literal_count xs + literal_count ys ≡ s.literals + literal_count (xs ++ ys) = omega arith in
    λ i. record { nets = of_nets i; lines = of_lines i; literals = of_literals i }

nets_counted : (s : Size) (mades : List MadeNet) → with_nets s mades ≡ with_both s (length mades) (flat_map made_lines mades)
nets_counted s [] = nothing_more s
nets_counted s (made ∷ more) =
    nets_counted (with_both s 1 made.cover.lines) more
    ∙ (both_more s 1 (length more) made.cover.lines (flat_map made_lines more)
    ∙ ap (λ n. with_both s n (flat_map made_lines (made ∷ more))) (let e : 1 + length more ≡ length (made ∷ more) = omega arith in e))

nets_both : (s : Size) (xs ys : List MadeNet) → with_nets s (xs ++ ys) ≡ with_nets (with_nets s xs) ys
nets_both s [] ys = refl
nets_both s (x ∷ xs) ys = nets_both (with_lines (with_net s) x.cover.lines) xs ys

lines_added : (s : Size) (ls : List Line) → with_lines s ls ≡ with_both s 0 ls
lines_added s ls = let n : s.nets ≡ s.nets + 0 = omega arith in λ i. record { nets = n i; lines = s.lines + length ls; literals = s.literals + literal_count ls }

pub lines_both : (s : Size) (xs ys : List Line) → with_lines (with_lines s xs) ys ≡ with_lines s (xs ++ ys)
lines_both s xs ys =
    let a = length-append xs ys in
    let b = literals_both xs ys in
    let of_lines : s.lines + length xs + length ys ≡ s.lines + length (xs ++ ys) = omega arith in
    let of_literals : s.literals + literal_count xs + literal_count ys ≡ s.literals + literal_count (xs ++ ys) = omega arith in
    λ i. record { nets = s.nets; lines = of_lines i; literals = of_literals i }

-- the lines of one output's cover more
pub outputs_more : (s : Size) (cs : List Cover) (i : ℕ) (c : Cover) (old new : Size) → i < length cs → c ≡ get_or cs i c
    → old ≡ with_lines s (flat_map cover_lines (take i cs)) → new ≡ with_lines old c.lines → new ≡ with_lines s (flat_map cover_lines (take (i + 1) cs))
outputs_more s cs i c old new low is before e =
    let here = flat_map cover_lines (take i cs) in
    let one : take (i + 1) cs ≡ take i cs ++ c ∷ [] = take_more cs i c low ∙ ap (λ x. take i cs ++ x ∷ []) (sym is) in
    let more : flat_map cover_lines (take (i + 1) cs) ≡ here ++ c.lines =
    ap (flat_map cover_lines) one ∙ (flat_map-append cover_lines (take i cs) (c ∷ []) ∙ ap (λ ls. here ++ ls) (append-nil c.lines))
    in
    e ∙ (ap (λ x. with_lines x c.lines) before ∙ (lines_both s here c.lines ∙ ap (with_lines s) (sym more)))

-- the size with a reset net more, if the table gives one
abbrev pub with_reset : Size → FileTable → Size
with_reset s t = record { nets = s.nets + cond (gives_reset t) 1 0; lines = s.lines; literals = s.literals }

-- the made nets, then the lines of the outputs
steps_counted : (s : Size) (t : FileTable) (covers : TableCovers)
    → with_lines (with_nets (with_reset s t) (made_of covers)) (flat_map cover_lines (outputs_of covers)) ≡ with_covers s t covers
steps_counted s t covers =
    let made = made_of covers in
    let outs = flat_map cover_lines (outputs_of covers) in
    let n : s.nets + cond (gives_reset t) 1 0 + (length made + 0) ≡ s.nets + cond (gives_reset t) 1 0 + length made = omega arith in
    ap (λ x. with_lines x outs) (nets_counted (with_reset s t) made)
    ∙ (lines_added (with_both (with_reset s t) (length made) (flat_map made_lines made)) outs
    ∙ (both_more (with_reset s t) (length made) 0 (flat_map made_lines made) outs
    ∙ (λ i. record { nets = n i; lines = s.lines + length (lines_of covers); literals = s.literals + literal_count (lines_of covers) })))

pub counted_single : (s size marked result : Size) (t : FileTable) (flat : FlatTable) → size ≡ with_reset s t → marked ≡ with_nets size (made_mark flat.mark)
    → result ≡ with_lines marked flat.cover.lines → result ≡ with_covers s t (Single flat)
counted_single s size marked result t flat a b c =
    let marks = sym (append-nil (made_mark flat.mark)) in
    let ls = sym (append-nil flat.cover.lines) in
    c
    ∙ (ap (λ x. with_lines x flat.cover.lines) (b ∙ ap (λ x. with_nets x (made_mark flat.mark)) a)
    ∙ ((λ i. with_lines (with_nets (with_reset s t) (marks i)) (ls i))
    ∙ steps_counted s t (Single flat)))

pub counted_joint : (s size marked chosen result : Size) (t : FileTable) (joint : JointTable) → size ≡ with_reset s t
    → marked ≡ with_nets size (made_mark joint.mark) → chosen ≡ with_lines (with_net marked) joint.choice.lines
    → result ≡ with_lines chosen (flat_map cover_lines joint.outputs) → result ≡ with_covers s t (Joint joint)
counted_joint s size marked chosen result t joint a b c d =
    let one : MadeNet = record { values = joint.values; cover = joint.choice } in
    let outs = flat_map cover_lines joint.outputs in
    d
    ∙ (ap (λ x. with_lines x outs) (c ∙ ap (λ x. with_lines (with_net x) joint.choice.lines) (b ∙ ap (λ x. with_nets x (made_mark joint.mark)) a))
    ∙ (ap (λ x. with_lines x outs) (sym (nets_both (with_reset s t) (made_mark joint.mark) (one ∷ []))) ∙ steps_counted s t (Joint joint)))

pub ruleset counted = (counted_single, counted_joint)

-- ---- limits

pub none_past : (s : Size) → IsWithinSize s → size_faults s ≡ []
none_past s w =
    let nets = when (nat_lt MAX_FLAT_NETS s.nets) (Limit Nets (MAX_FLAT_NETS + 1)) in
    let lines = when (nat_lt MAX_FLAT_LINES s.lines) (Limit FlatLines (MAX_FLAT_LINES + 1)) in
    let literals = when (nat_lt MAX_FLAT_LITERALS s.literals) (Limit FlatEntries (MAX_FLAT_LITERALS + 1)) in
    append-nothing nets (lines ++ literals) (ap (λ b. when b (Limit Nets (MAX_FLAT_NETS + 1))) (le-ltb MAX_FLAT_NETS s.nets w.nets))
    (append-nothing lines literals (ap (λ b. when b (Limit FlatLines (MAX_FLAT_LINES + 1))) (le-ltb MAX_FLAT_LINES s.lines w.lines))
    (ap (λ b. when b (Limit FlatEntries (MAX_FLAT_LITERALS + 1))) (le-ltb MAX_FLAT_LITERALS s.literals w.literals)))

pub within_limits : (s : Size) → size_faults s ≡ [] → IsWithinSize s
within_limits s e =
    let nets = when (nat_lt MAX_FLAT_NETS s.nets) (Limit Nets (MAX_FLAT_NETS + 1)) in
    let lines = when (nat_lt MAX_FLAT_LINES s.lines) (Limit FlatLines (MAX_FLAT_LINES + 1)) in
    let literals = when (nat_lt MAX_FLAT_LITERALS s.literals) (Limit FlatEntries (MAX_FLAT_LITERALS + 1)) in
    let behind : lines ++ literals ≡ [] = right-nothing nets (lines ++ literals) e in
    record {
      nets = ltb-false MAX_FLAT_NETS s.nets (when-nothing _ (Limit Nets (MAX_FLAT_NETS + 1)) (left-nothing nets (lines ++ literals) e));
      lines = ltb-false MAX_FLAT_LINES s.lines (when-nothing _ (Limit FlatLines (MAX_FLAT_LINES + 1)) (left-nothing lines literals behind));
      literals = ltb-false MAX_FLAT_LITERALS s.literals (when-nothing _ (Limit FlatEntries (MAX_FLAT_LITERALS + 1)) (right-nothing lines literals behind));
    }

-- a size with more behind it passes no fewer limits
pub within_front : (nets : ℕ) (ts us : List FileTable) (all others : List TableCovers) → IsWithinSize (size_of nets (ts ++ us) (all ++ others))
    → IsWithinSize (size_of nets ts all)
within_front nets ts us all others w =
    let a = counted_both gives_reset ts us in
    let b = ap length (flat_map-append made_of all others) ∙ length-append (flat_map made_of all) (flat_map made_of others) in
    let more = flat_map-append lines_of all others in
    let c = ap length more ∙ length-append (flat_map lines_of all) (flat_map lines_of others) in
    let d = ap literal_count more ∙ literals_both (flat_map lines_of all) (flat_map lines_of others) in
    let n = w.nets in
    let l = w.lines in
    let e = w.literals in
    record { nets = omega arith; lines = omega arith; literals = omega arith }

-- ---- covers

-- these are the covers of a table over nets with these numbers
abbrev pub HasCovers : List Decl → List (List ℕ) → FileTable → TableCovers → Type 0
HasCovers ds names t covers = IsMadeTable (columns_at ds names t) t (mark_at names t) (choice_at names t) covers

pub covers_more : (ds : List Decl) (names : List (List ℕ)) (ts : List FileTable) (all : List TableCovers) (t : FileTable) (covers : TableCovers)
    → AreCovers ds names ts all → HasCovers ds names t covers → AreCovers ds names (ts ++ t ∷ []) (all ++ covers ∷ [])
covers_more ds names [] [] t covers are made = (made, tt)
covers_more ds names [] (g ∷ all) t covers are made = absurd are
covers_more ds names (u ∷ ts) [] t covers are made = absurd are
covers_more ds names (u ∷ ts) (g ∷ all) t covers are made = (are.0, covers_more ds names ts all t covers are.1 made)

-- a table has no more covers than outputs
pub outputs_covered : (ds : List Decl) (names : List (List ℕ)) (t : FileTable) (covers : TableCovers) → 0 < length t.outputs → HasCovers ds names t covers
    → length (outputs_of covers) ≤ length t.outputs
outputs_covered ds names t (Single flat) some made = omega (arith, some)
outputs_covered ds names t (Joint joint) some made = let m = made.1.many in omega arith

-- ---- the tables, from the first on

pub sized_first : (nets : ℕ) (m : FileModel) (names : List (List ℕ)) (size : Size) → size ≡ size_of nets [] [] → IsWithinSize size → AreSized nets m names 0 size
sized_first nets m names size is within = record { covers = []; are = tt; is = is; within = within }

-- the first tables and one more
tables_more : (ts : List FileTable) (i : ℕ) (t : FileTable) → i < length ts → t ≡ get_or ts i t → take i ts ++ t ∷ [] ≡ take (i + 1) ts
tables_more ts i t low is = ap (λ x. take i ts ++ x ∷ []) is ∙ sym (take_more ts i t low)

pub sized_more : (nets : ℕ) (m : FileModel) (names : List (List ℕ)) (i : ℕ) (old size : Size) (t : FileTable) (covers : TableCovers)
    → AreSized nets m names i old → i < length m.tables → t ≡ get_or m.tables i t → HasCovers m.decls names t covers → size ≡ with_covers old t covers
    → IsWithinSize size → AreSized nets m names (i + 1) size
sized_more nets m names i old size t covers sized low is made size_is within =
    let all = sized.covers ++ covers ∷ [] in
    let P : List FileTable → Type 0 = λ ts. AreCovers m.decls names ts all in
    let more = tables_more m.tables i t low is in
    record {
      covers = all;
      are = subst P more (covers_more m.decls names (take i m.tables) sized.covers t covers sized.are made);
      is =
          size_is
          ∙ (ap (λ s. with_covers s t covers) sized.is
          ∙ (size_more nets (take i m.tables) sized.covers t covers ∙ ap (λ ts. size_of nets ts all) more));
      within = within;
    }

-- so far no limit is passed
so_far : (nets : ℕ) (m : FileModel) (names : List (List ℕ)) (i : ℕ) (size : Size) → names ≡ net_places m → AreSized nets m names i size → PassesNone nets m (take i m.tables)
so_far nets m names i size are sized =
    let P : List (List ℕ) → Type 0 = λ ns. AreCovers m.decls ns (take i m.tables) sized.covers in
    record { size = size; has = record { covers = sized.covers; are = subst P are sized.are; is = sized.is }; none = none_past size sized.within }

pub sized_last : (nets : ℕ) (m : FileModel) (names : List (List ℕ)) (i : ℕ) (size : Size) → names ≡ net_places m → length m.tables ≤ i → AreSized nets m names i size
    → FitsLimits nets m
sized_last nets m names i size are high sized =
    let P : List FileTable → Type 0 = PassesNone nets m in
    subst P (take_all i m.tables high) (so_far nets m names i size are sized)

-- ---- the limit that is passed first

-- the table behind the first ones
place_of_table : (ts : List FileTable) (i : ℕ) (t : FileTable) → i < length ts → t ≡ get_or ts i t → ts ≡ take i ts ++ t ∷ drop (i + 1) ts
place_of_table ts i t low is =
    sym (take-append-drop i ts) ∙ ap (λ us. take i ts ++ us) (drop_more ts i t low ∙ ap (λ x. x ∷ drop (i + 1) ts) (sym is))

-- the limit that is passed with one more table
pub past_limit : (nets : ℕ) (m : FileModel) (names : List (List ℕ)) (i : ℕ) (size : Size) (t : FileTable) (covers : TableCovers) (f : FlatFault)
    → names ≡ net_places m → AreSized nets m names i size → i < length m.tables → t ≡ get_or m.tables i t → HasCovers m.decls names t covers
    → first (size_faults (with_covers size t covers)) ≡ Some f → IsPastLimit nets m f
past_limit nets m names i size t covers f are sized low is made told =
    let all = sized.covers ++ covers ∷ [] in
    let P : List (List ℕ) → Type 0 = λ ns. AreCovers m.decls ns (take i m.tables ++ t ∷ []) all in
    record {
      before = take i m.tables;
      table = t;
      after = drop (i + 1) m.tables;
      place = place_of_table m.tables i t low is;
      within = so_far nets m names i size are sized;
      told = inr (record {
        size = with_covers size t covers;
        has = record {
          covers = all;
          are = subst P are (covers_more m.decls names (take i m.tables) sized.covers t covers sized.are made);
          is = ap (λ s. with_covers s t covers) sized.is ∙ size_more nets (take i m.tables) sized.covers t covers;
        };
        told = told;
      });
    }

-- the next table is too wide
pub past_wide : (nets : ℕ) (m : FileModel) (names : List (List ℕ)) (i : ℕ) (size : Size) (t : FileTable) (f : FlatFault) → names ≡ net_places m
    → AreSized nets m names i size → i < length m.tables → t ≡ get_or m.tables i t → IsTooWide (columns_at m.decls names t) t (mark_at names t) f
    → IsPastLimit nets m f
past_wide nets m names i size t f are sized low is wide =
    let P : List (List ℕ) → Type 0 = λ ns. IsTooWide (columns_at m.decls ns t) t (mark_at ns t) f in
    record {
      before = take i m.tables;
      table = t;
      after = drop (i + 1) m.tables;
      place = place_of_table m.tables i t low is;
      within = so_far nets m names i size are sized;
      told = inl (subst P are wide);
    }

-- ---- what is told

pub limit_told : (nets : ℕ) (m : FileModel) (f : FlatFault) → IsPastLimit nets m f → TellsLimit nets m f
limit_told nets m Memory h = tt
limit_told nets m _ h = h

pub memory_told : (nets : ℕ) (m : FileModel) (f : FlatFault) → f ≡ Memory → TellsLimit nets m f
memory_told nets m f e = let P : FlatFault → Type 0 = TellsLimit nets m in subst P (sym e) tt
