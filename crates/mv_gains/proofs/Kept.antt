-- The tables of a network are kept one after another, and where each literal stands.
use Rattle.std.proofs.Common.{◌≡◌, ◌∙◌, ℕ, ◌+◌, ◌<◌, ◌≤◌, ◌^◌, true, Option, Some, None, List, [], ◌∷◌, ◌++◌, length, map, take, get_or, All, Contains, inl, inr, refl, sym, ap, subst, arith}
use Rattle.std.proofs.Math.ListN.{get_or-append}
use Rattle.std.proofs.Math.Seq.{get_or-append_seam}
use Rattle.std.proofs.lemmas.Bool.{cases_Bool, cases_lt, false≢true}
use Rattle.std.proofs.lemmas.List.{length-map, length-append, length-take-le, map-append, get_or_default}
use Rattle.std.proofs.lemmas.List.Elements.{All-nil, All-cons, All-push, All-contains, All-get_or, All-weaker, All-more, Contains-append_left, Contains-push}
use Rattle.std.proofs.lemmas.Map.Views.{list_any-from_Contains}
use Rattle.std.specs.Cmp.{IsEquivalence, decided}
use Rattle.std.specs.List.{list_any}
use Rattle.mv_base.specs.declared.limits.TheConstants.{MAX_NETS}
use Rattle.mv_cover.specs.Literal.{Lit}
use Rattle.mv_cover.specs.Cubes.{IsCube}
use Rattle.mv_cover.specs.Covers.{literal_count}
use Rattle.mv_cover.specs.Equal.{lit_eq}
use Rattle.mv_cover.specs.Keys.{lit_eq-Decides}
use Rattle.mv_cover.specs.Lines.{lines_differ}
use Rattle.mv_cover.specs.declared.line.Line.{Line}
use Rattle.mv_cover.specs.declared.cover.Cover.{Cover}
use Rattle.mv_net.specs.declared.parts.FlatNet.{FlatNet}
use Rattle.mv_net.specs.declared.parts.NetParts.{NetParts}
use Rattle.mv_net.specs.Formed.{AllCubes, IsCover, IsNet, WellFormed}
use Rattle.indexmap.specs.IndexSet.{insert_all}
use Rattle.mv_kernels.proofs.Lists.{insert_all-keeps, insert_all-has}
use Rattle.mv_divide.specs.declared.part.Part.{Part}
use Rattle.mv_divide.specs.Tables.{parts_of}
use Rattle.mv_gains.specs.Gains.{lines_in, lines_at, covers_at}
use Rattle.mv_gains.specs.Holders.{IsNoted, Ascends, AreHolders}
use Rattle.mv_gains.specs.Tables.{HasLines, IsReady, HasLiteral, HasAllOf, AreKept, IsSavingAt, IsGainAt, IsPartsSaving, IsTablesGain, IsDivisor, IsOnlyGain}
use Rattle.mv_gains.proofs.Noting.{take_more}
use Rattle.mv_gains.proofs.Parts.{line_of, ready_parts}
use Rattle.mv_gains.proofs.Savings.{table_cases, gain_once}
use Rattle.mv_gains.proofs.Sums.{ascends_wider, ascends_push, gathered}

-- ---- what has a literal

pub holders_none : {X : Type 0} (Has : X → Type 0) (places : List ℕ) → places ≡ [] → AreHolders Has [] places
holders_none Has places e = record { ascending = subst (Ascends 0 0) (sym e) (omega arith); all = λ p d low has. absurd (omega arith) }

pub holders_push : {X : Type 0} (Has : X → Type 0) (xs : List X) (x : X) (l : Lit) (keys : List Lit) (old new : Lit → List ℕ) → IsNoted keys (length xs) old new → (Has x → Contains keys l) → AreHolders Has xs (old l) → AreHolders Has (xs ++ x ∷ []) (new l)
holders_push Has xs x l keys old new noted there a =
    let long : length (xs ++ x ∷ []) ≡ length xs + 1 = length-append xs (x ∷ []) in
    let last : (p : ℕ) → p < length (xs ++ x ∷ []) → length xs ≤ p → length xs ≡ p = λ p low past. omega (arith, long, low, past) in
    elim (cases_Bool (list_any (lit_eq l) keys)) [
      | inl t ↦
          let is : new l ≡ old l ++ length xs ∷ [] = rw (noted.each l, t) refl in
          subst (λ ps. AreHolders Has (xs ++ x ∷ []) ps) (sym is)
          (record {
            ascending = subst (λ n. Ascends 0 n (old l ++ length xs ∷ [])) (sym long) (ascends_push 0 (length xs) (old l) a.ascending);
            all = λ p d low has.
                elim (cases_lt p (length xs)) [
                  | inl before ↦
                      Contains-append_left (old l) (length xs ∷ []) p (a.all p d before (subst Has (get_or-append xs (x ∷ []) d p before) has))
                  | inr past ↦ subst (Contains (old l ++ length xs ∷ [])) (last p low past) (Contains-push (old l) (length xs))
                ];
          })
      | inr f ↦
          let is : new l ≡ old l = rw (noted.each l, f) refl in
          subst (λ ps. AreHolders Has (xs ++ x ∷ []) ps) (sym is)
          (record {
            ascending = ascends_wider 0 (length xs) (length (xs ++ x ∷ [])) (old l) (omega (arith, long)) a.ascending;
            all = λ p d low has.
                elim (cases_lt p (length xs)) [
                  | inl before ↦ a.all p d before (subst Has (get_or-append xs (x ∷ []) d p before) has)
                  | inr past ↦
                      let here : get_or (xs ++ x ∷ []) p d ≡ x = subst (λ q. get_or (xs ++ x ∷ []) q d ≡ x) (last p low past) (get_or-append_seam xs x [] d) in
                      absurd (false≢true (sym f ∙ list_any-from_Contains {eq = lit_eq} lit_eq-equiv l keys (there (subst Has here has))))
                ];
          })
    ]
  where
    lit_eq-equiv : IsEquivalence lit_eq
    lit_eq-equiv = decided lit_eq lit_eq-Decides

-- ---- tables

pub kept_none : (places : Lit → List ℕ) → ((l : Lit) → places l ≡ []) → AreKept [] places
kept_none places e = record { ready = All-nil IsReady; held = λ l. holders_none (HasLiteral l) (places l) (e l); few = omega arith }

kept_more : (tables : List (List Part)) (parts : List Part) (keys : List Lit) (old new : Lit → List ℕ) → AreKept tables old → IsNoted keys (length tables) old new → IsReady parts → ((l : Lit) → HasLiteral l parts → Contains keys l) → length tables + 1 ≤ MAX_NETS → AreKept (tables ++ parts ∷ []) new
kept_more tables parts keys old new a noted ready there few = record {
  ready = All-push IsReady tables parts a.ready ready;
  held = λ l. holders_push (HasLiteral l) tables parts l keys old new noted (there l) (a.held l);
  few = omega (arith, length-append tables (parts ∷ []), few);
}

literal_there : (lines : List Line) (keys : List Lit) → All (HasAllOf keys) lines → (l : Lit) → HasLiteral l (parts_of lines) → Contains keys l
literal_there lines keys all l h =
    let f = line_of lines h.part h.cube h.there h.held in
    let each = All-contains (HasAllOf keys) lines f.line all f.there in
    All-contains (Contains keys) f.line.cube l each (subst (λ (c : List Lit). Contains c l) f.is h.has)

-- one line's literals more
pub has_more : (lines : List Line) (i : ℕ) (line : Line) (lits old new : List Lit) → i < length lines → line ≡ get_or lines i line → lits ≡ line.cube → new ≡ insert_all lit_eq old lits → All (HasAllOf old) (take i lines) → All (HasAllOf new) (take (i + 1) lines)
has_more lines i line lits old new low at are put all =
    let kept : (x : Line) → HasAllOf old x → HasAllOf new x =
    λ x h. All-weaker (Contains old) (Contains new) (λ l c. subst (λ (ks : List Lit). Contains ks l) (sym put) (insert_all-keeps lit_eq old lits l c)) x.cube h in
    let put_in : All (Contains new) lits = subst (λ (ks : List Lit). All (Contains ks) lits) (sym put) (insert_all-has lit_eq (λ x y e. (lit_eq-Decides x y).0 e) old lits) in
    let here : HasAllOf new line = subst (λ (c : List Lit). All (Contains new) c) are put_in in
    All-more (HasAllOf new) lines i line low (All-weaker (HasAllOf old) (HasAllOf new) kept (take i lines) all) (subst (HasAllOf new) at here)

pub record TablesMore (nets : List (Option FlatNet)) (i : ℕ) (covers : List (List Part)) (places : Lit → List ℕ) : Type 0 where
  pub covers_are : covers ≡ map covers_at (take i nets)
  pub kept : AreKept covers places

pub tables_more : (nets : List (Option FlatNet)) (i : ℕ) (net : Option FlatNet) (lines : List Line) (keys : List Lit) (parts : List Part) (covers : List (List Part)) (old new : Lit → List ℕ) → i < length nets → net ≡ get_or nets i net → length nets ≤ MAX_NETS → All HasLines nets → lines ≡ lines_at net → literal_count lines ≤ 2 ^ 96 → All (HasAllOf keys) lines → parts ≡ parts_of lines → IsNoted keys i old new → covers ≡ map covers_at (take i nets) → AreKept covers old → TablesMore nets (i + 1) (covers ++ parts ∷ []) new
tables_more nets i net lines keys parts covers old new low at few has are small all made noted before a =
    let long : length covers ≡ i = ap length before ∙ (length-map (take i nets) covers_at ∙ length-take-le i nets (omega arith)) in
    let h : HasLines net = subst HasLines (sym at) (All-get_or HasLines nets i net low has) in
    let ready : IsReady parts =
    subst IsReady (sym made) (ready_parts lines (ap lines_differ are ∙ h.differ) (subst (λ (ls : List Line). All (λ (l : Line). IsCube l.cube) ls) (sym are) h.formed) small) in
    let there : (l : Lit) → HasLiteral l parts → Contains keys l = λ l g. literal_there lines keys all l (subst (HasLiteral l) made g) in
    record {
      covers_are =
          (λ j. before j ++ (made ∙ ap parts_of are) j ∷ []) ∙
          (sym (map-append covers_at (take i nets) (net ∷ [])) ∙ ap (map covers_at) (sym (take_more nets i net low at)));
      kept = kept_more covers parts keys old new a (subst (λ n. IsNoted keys n old new) (sym long) noted) ready there (omega (arith, long, low, few));
    }

-- ---- the lines of a well-formed network

cubes_all : (lines : List Line) → AllCubes lines → All (λ (l : Line). IsCube l.cube) lines
cubes_all [] a = All-nil (λ (l : Line). IsCube l.cube)
cubes_all (l ∷ ls) a = All-cons (λ (x : Line). IsCube x.cube) l ls a.0 (cubes_all ls a.1)

record Lines (lines : List Line) : Type 0 where
  differ : lines_differ lines ≡ true
  formed : All (λ (l : Line). IsCube l.cube) lines

lines_of_table : (nets : List (Option FlatNet)) (values : ℕ) (table : Option Cover) → ((c : Cover) → table ≡ Some c → IsCover nets values c) → Lines (lines_in table)
lines_of_table nets values None f = record { differ = refl; formed = All-nil (λ (l : Line). IsCube l.cube) }
lines_of_table nets values (Some c) f = let is = f c refl in record { differ = is.differ; formed = cubes_all c.lines is.cubes }

lines_of_net : (nets : List (Option FlatNet)) (f : Option FlatNet) → ((g : FlatNet) → f ≡ Some g → IsNet nets g) → HasLines f
lines_of_net nets None h = record { differ = refl; formed = All-nil (λ (l : Line). IsCube l.cube) }
lines_of_net nets (Some g) h = let a = lines_of_table nets g.values g.table (h g refl).cover in record { differ = a.differ; formed = a.formed }

pub all_lines_formed : (net : NetParts) → WellFormed net → All HasLines net.nets
all_lines_formed net formed k d low =
    lines_of_net net.nets (get_or net.nets k d) (λ g e. formed.nets k g (get_or_default net.nets k None d low ∙ e))

-- ---- gains

-- what dividing the tables that have the divisor's first literal saves is what dividing all of them does
pub gain_is : (tables : List (List Part)) (divisor : List (List Lit)) (places : List ℕ) (first : List Lit) (l : Lit) (gain : ℕ) → All IsReady tables → AreHolders (HasLiteral l) tables places → IsDivisor divisor → Contains divisor first → Contains first l → IsGainAt tables places divisor gain → IsOnlyGain tables divisor gain
gain_is tables divisor places first l gain ready held is i j sum =
    let all : IsTablesGain tables divisor gain =
    gathered (IsSavingAt tables divisor) (IsPartsSaving divisor) [] tables 0 places gain (subst (λ n. Ascends 0 n places) (omega arith) held.ascending)
    (λ p n low h. subst (λ q. IsSavingAt tables divisor q n) (omega arith) h)
    (λ p low.
    elim (table_cases divisor first l (get_or tables p []) i j) [
      | inl has ↦ inl (subst (Contains places) (omega arith) (held.all p [] low has))
      | inr none ↦ inr none
    ]) sum in
    record { is = all; only = λ g other. gain_once divisor tables g gain ready is other all }
