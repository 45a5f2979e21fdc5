-- Some value of the choice net is allowed, with the outputs that stand for it, where a table without `=` allows them.
use Rattle.std.proofs.Common.{◌≡◌, ℕ, zero, suc, ◌+◌, ◌<◌, ◌≤◌, Bool, true, false, not, ◌&&◌, ◌||◌, nat_eq, Option, Some, None, List, [], ◌∷◌, ◌++◌, length, get_or, drop, filter, map, refl, sym, ◌∙◌, ap, subst, arith, inl, inr, All}
use Rattle.std.specs.Prelude.{position, slice_index_or, slice_get}
use Rattle.std.specs.Option.{unwrap_or}
use Rattle.std.specs.List.{list_any, range_with_len}
use Rattle.std.proofs.Math.Bool.{and-true, and-false, or-false}
use Rattle.std.proofs.lemmas.Bool.{cases_Bool, false≢true, eq-eqb, ne_eqb, lt-ltb, false_from_ne_true, not_from_false}
use Rattle.std.proofs.lemmas.Cmp.{nat_eq_equiv}
use Rattle.std.proofs.lemmas.List.{drop_all, drop_more}
use Rattle.std.proofs.lemmas.List.Elements.{All-nil, All-cons, All-head, All-tail, All-filter, All-append, All-map}
use Rattle.std.proofs.lemmas.Map.Views.{any-filter_same}
use Rattle.std.proofs.lemmas.Option.{slice_get-get_or}
use Rattle.mv_base.specs.Firsts.{firsts_by}
use Rattle.mv_base.specs.Names.{among}
use Rattle.mv_base.specs.Set.{has, empty, one}
use Rattle.mv_base.specs.declared.number.NetId.{NetId}
use Rattle.mv_base.proofs.Sets.{has-one}
use Rattle.mv_base.proofs.NameLemmas.{IsPlace-from_among, among-at}
use Rattle.mv_cover.specs.Covers.{allowed}
use Rattle.mv_cover.specs.declared.cover.Cover.{Cover}
use Rattle.mv_design.specs.declared.table.Row.{Row}
use Rattle.mv_design.specs.Tables.{row_matches, row_holds, some_row_matches, some_row_holds, default_holds, table_allows}
use Rattle.mv_rows.specs.Cubes.{in_range}
use Rattle.mv_rows.proofs.Flat.{IsFlatTable_made}
use Rattle.mv_joint.specs.declared.split.PlainRow.{PlainRow}
use Rattle.mv_joint.specs.Plain.{PlainTable}
use Rattle.mv_joint.specs.OutRows.{same_outs, same_outs-Decides}
use Rattle.mv_joint.specs.Joint.{given, distinct, choice_count, choice_row, choice_default, choice_table, output_rows, output_table, choice_columns, IsCoverOf, AreOutputs}
use Rattle.mv_joint.specs.Meaning.{outputs_allow}
use Rattle.mv_joint.proofs.Anys.{any-map, any-and, any-either, one_is}
use Rattle.mv_joint.proofs.Splitting.{matches_at, holds_at}
use Rattle.mv_joint.proofs.PlainMeaning.{given_holds, plain_allows}
use Rattle.mv_joint.proofs.Tables.{output_unmarked, count_reaches}

-- ---- the first of each

pub any-firsts : (p : List ℕ → Bool) (ws : List (List ℕ)) → list_any p (firsts_by same_outs ws) ≡ list_any p ws
any-firsts p [] = refl
any-firsts p (w ∷ ws) =
    elim (cases_Bool (p w)) [
      | inl t ↦ rw t refl
      | inr f ↦
          rw f (any-filter_same p (λ (u : List ℕ). not (same_outs u w)) true
          (λ u t. not_from_false (same_outs u w) (false_from_ne_true (same_outs u w) (λ e. false≢true (sym f ∙ (ap p (sym ((same_outs-Decides u w).0 e)) ∙ t)))))
          (firsts_by same_outs ws)
          ∙ any-firsts p ws)
    ]

pub all-firsts : (P : List ℕ → Type 0) (ws : List (List ℕ)) → All P ws → All P (firsts_by same_outs ws)
all-firsts P [] all = all
all-firsts P (w ∷ ws) all =
    All-cons P w (filter (λ (u : List ℕ). not (same_outs u w)) (firsts_by same_outs ws)) (All-head P w ws all)
    (All-filter (λ (u : List ℕ). not (same_outs u w)) P (firsts_by same_outs ws) (all-firsts P ws (All-tail P w ws all)))

-- ---- the places of the rows of outputs

-- a row of outputs is among these
abbrev IsAmong : List (List ℕ) → List ℕ → Type 0
IsAmong all w = among w all ≡ true

all_among : (ws : List (List ℕ)) → All (IsAmong ws) ws
all_among ws k d low = among-at ws k (get_or ws k d) (slice_get-get_or ws k d low)

firsts_among : (ws : List (List ℕ)) → All (IsAmong (firsts_by same_outs ws)) ws
firsts_among ws k d low = any-firsts (same_outs (get_or ws k d)) ws ∙ all_among ws k d low

rows_among : (all : List (List ℕ)) (rows : List PlainRow) (rest : List (List ℕ)) → All (IsAmong all) (map (λ (r : PlainRow). r.outs) rows ++ rest) → All (λ (r : PlainRow). IsAmong all r.outs) rows
rows_among all [] rest h = All-nil _
rows_among all (r ∷ rows) rest h =
    All-cons (λ (q : PlainRow). IsAmong all q.outs) r rows (All-head (IsAmong all) r.outs (map (λ (q : PlainRow). q.outs) rows ++ rest) h)
    (rows_among all rows rest (All-tail (IsAmong all) r.outs (map (λ (q : PlainRow). q.outs) rows ++ rest) h))

rest_among : (all : List (List ℕ)) (rows : List PlainRow) (rest : List (List ℕ)) → All (IsAmong all) (map (λ (r : PlainRow). r.outs) rows ++ rest) → All (IsAmong all) rest
rest_among all [] rest h = h
rest_among all (r ∷ rows) rest h = rest_among all rows rest (All-tail (IsAmong all) r.outs (map (λ (q : PlainRow). q.outs) rows ++ rest) h)

-- what holds of the rows' outputs and of the default's holds of all
pub placed : (R : List ℕ → Type 0) (rows : List PlainRow) (d : Option (List ℕ)) → All (λ (r : PlainRow). R r.outs) rows → ((sets : List ℕ) → d ≡ Some sets → R sets) → All R (map (λ (r : PlainRow). r.outs) rows ++ given d)
placed R rows d all default = All-append R (map (λ (r : PlainRow). r.outs) rows) (given d) (All-map R (λ (r : PlainRow). r.outs) rows all) (last d default)
  where
    last : (d : Option (List ℕ)) → ((sets : List ℕ) → d ≡ Some sets → R sets) → All R (given d)
    last None h = All-nil R
    last (Some sets) h = All-cons R sets [] (h sets refl) (All-nil R)

-- the place of a row of outputs
abbrev pub place_in : List (List ℕ) → List ℕ → ℕ
place_in all outs = unwrap_or (position (same_outs outs) all) 0

-- it is a place where this row stands
pub record StandsAt (all : List (List ℕ)) (outs : List ℕ) : Type 0 where
  pub within : place_in all outs < length all
  pub there : get_or all (place_in all outs) [] ≡ outs

get_from : (ws : List (List ℕ)) (k : ℕ) (w : List ℕ) → k < length ws → slice_get ws k ≡ Some w → get_or ws k [] ≡ w
get_from ws k w low e = let same : Some (get_or ws k []) ≡ Some w = sym (slice_get-get_or ws k [] low) ∙ e in cc

stands : (all : List (List ℕ)) (outs : List ℕ) → IsAmong all outs → StandsAt all outs
stands all outs h =
    let p = IsPlace-from_among outs all h in
    let e : place_in all outs ≡ p.0 = ap (λ (o : Option ℕ). unwrap_or o 0) p.1.place in
    record {
      within = subst (λ (k : ℕ). k < length all) (sym e) p.1.within;
      there = ap (λ (k : ℕ). get_or all k []) e ∙ get_from all p.0 outs p.1.within p.1.found;
    }

-- ---- choosing a row

-- a test of values of the choice net that asks at the place of these outputs what they hold
pub record AsksAt (all : List (List ℕ)) (n : ℕ) (O : ℕ → Bool) (outs sets : List ℕ) : Type 0 where
  pub below : place_in all sets < n
  pub asks : O (place_in all sets) ≡ row_matches sets outs

turned : (m i o t : Bool) → i ≡ t → ((m && (i && true)) && o) ≡ (m && (t && o))
turned true true o t e = ap (λ b. b && o) e
turned true false o t e = ap (λ b. b && o) e
turned false i o t e = refl

choose-one : (all : List (List ℕ)) (n : ℕ) (O : ℕ → Bool) (outs sets : List ℕ) (m : Bool) → AsksAt all n O outs sets → list_any (λ v. (m && (has (one (place_in all sets)) v && true)) && O v) (range_with_len 0 n) ≡ (m && row_matches sets outs)
choose-one all n O outs sets m asks =
    let x = place_in all sets in
    ap (λ (p : ℕ → Bool). list_any p (range_with_len 0 n)) (λ i v. turned m (has (one x) v) (O v) (nat_eq x v) (has-one x v ∙ nat_eq_equiv.symm v x) i)
    ∙ (any-and m (λ v. nat_eq x v && O v) (range_with_len 0 n)
    ∙ ap (λ b. m && b) (one_is x n O asks.below ∙ asks.asks))

choose-rows : (all : List (List ℕ)) (n : ℕ) (O : ℕ → Bool) (values outs : List ℕ) (rows : List PlainRow) → All (λ (r : PlainRow). AsksAt all n O outs r.outs) rows → list_any (λ v. some_row_holds (map (choice_row all) rows) values (v ∷ []) && O v) (range_with_len 0 n) ≡ list_any (holds_at values outs) rows
choose-rows all n O values outs [] asks = any-and false O (range_with_len 0 n)
choose-rows all n O values outs (r ∷ rows) asks =
    let P : PlainRow → Type 0 = λ (q : PlainRow). AsksAt all n O outs q.outs in
    let first = choose-one all n O outs r.outs (row_matches r.ins values) (All-head P r rows asks) in
    let rest = choose-rows all n O values outs rows (All-tail P r rows asks) in
    any-either (λ v. row_holds (choice_row all r) values (v ∷ [])) (λ v. some_row_holds (map (choice_row all) rows) values (v ∷ [])) O (range_with_len 0 n)
    ∙ (λ i. first i || rest i)

nothing_chosen : (m : Bool) (O : ℕ → Bool) (xs : List ℕ) → list_any (λ v. (m && false) && O v) xs ≡ (m && false)
nothing_chosen m O xs = any-and (m && false) O xs ∙ (ap (λ b. b && list_any O xs) (and-false m) ∙ sym (and-false m))

choose-default : (all : List (List ℕ)) (n : ℕ) (O : ℕ → Bool) (values outs : List ℕ) (m : Bool) (d : Option (List ℕ)) → ((sets : List ℕ) → d ≡ Some sets → AsksAt all n O outs sets) → list_any (λ v. (m && default_holds (choice_default all d) values (v ∷ [])) && O v) (range_with_len 0 n) ≡ (m && given_holds d outs)
choose-default all n O values outs m None asks = nothing_chosen m O (range_with_len 0 n)
choose-default all n O values outs m (Some sets) asks = choose-one all n O outs sets m (asks sets refl)

-- the rows of outputs of a table stand at their places
pub record AreStanding (p : PlainTable) : Type 0 where
  pub rows : All (λ (r : PlainRow). StandsAt (distinct p) r.outs) p.rows
  pub default : (sets : List ℕ) → p.default ≡ Some sets → StandsAt (distinct p) sets

given_among : (all : List (List ℕ)) (d : Option (List ℕ)) (sets : List ℕ) → d ≡ Some sets → All (IsAmong all) (given d) → IsAmong all sets
given_among all None sets e h = absurd (cc)
given_among all (Some u) sets e h = let same : u ≡ sets = cc in subst (IsAmong all) same (All-head (IsAmong all) u [] h)

pub standing : (p : PlainTable) → AreStanding p
standing p =
    let all = distinct p in
    let among_all = firsts_among (map (λ (r : PlainRow). r.outs) p.rows ++ given p.default) in
    record {
      rows = λ k d low. stands all _ (rows_among all p.rows (given p.default) among_all k d low);
      default = λ sets e. stands all sets (given_among all p.default sets e (rest_among all p.rows (given p.default) among_all));
    }

pub choose-all : (p : PlainTable) (n : ℕ) (O : ℕ → Bool) (values outs : List ℕ) → ((sets : List ℕ) → StandsAt (distinct p) sets → AsksAt (distinct p) n O outs sets) → list_any (λ v. table_allows (choice_table p).rows (choice_table p).default values (v ∷ []) && O v) (range_with_len 0 n) ≡ plain_allows p values outs
unfolding table_allows
choose-all p n O values outs asks =
    let all = distinct p in
    let M = some_row_matches (map (choice_row all) p.rows) values in
    let rows : All (λ (r : PlainRow). AsksAt all n O outs r.outs) p.rows = λ k d low. asks _ ((standing p).rows k d low) in
    let default : (sets : List ℕ) → p.default ≡ Some sets → AsksAt all n O outs sets = λ sets e. asks sets ((standing p).default sets e) in
    let matches : M ≡ list_any (matches_at values) p.rows = any-map (λ (r : Row). row_matches r.ins values) (choice_row all) p.rows in
    any-either (λ v. some_row_holds (map (choice_row all) p.rows) values (v ∷ [])) (λ v. not M && default_holds (choice_default all p.default) values (v ∷ [])) O (range_with_len 0 n)
    ∙ ((λ i. choose-rows all n O values outs p.rows rows i || choose-default all n O values outs (not M) p.default default i)
    ∙ ap (λ b. list_any (holds_at values outs) p.rows || (not b && given_holds p.default outs)) matches)

-- ---- the outputs of a value

output-none : (j a x : ℕ) (all : List (List ℕ)) (outs : List ℕ) → x < a → some_row_holds (output_rows j a all) (x ∷ []) outs ≡ false
output-none j a x [] outs low = refl
output-none j a x (sets ∷ all) outs low =
    let other : has (one a) x ≡ false = has-one a x ∙ ne_eqb x a (λ e. absurd (omega arith)) in
    let rest = output-none j (a + 1) x all outs (omega arith) in
    rw other rest

output-one : (j a i x : ℕ) (all : List (List ℕ)) (o : ℕ) → x ≡ a + i → i < length all → some_row_holds (output_rows j a all) (x ∷ []) (o ∷ []) ≡ has (slice_index_or (get_or all i []) j empty) o
output-one j a i x [] o e low = absurd (omega arith)
output-one j a zero x (sets ∷ all) o e low =
    let same : has (one a) x ≡ true = has-one a x ∙ eq-eqb x a (omega (arith, e)) in
    let rest = output-none j (a + 1) x all (o ∷ []) (omega (arith, e)) in
    rw same (rw rest (or-false _ ∙ and-true _))
output-one j a (suc i) x (sets ∷ all) o e low =
    let other : has (one a) x ≡ false = has-one a x ∙ ne_eqb x a (λ f. absurd (omega (arith, e, f))) in
    let rest = output-one j (a + 1) i x all o (omega (arith, e)) (omega arith) in
    rw other rest

output-allowed : (all : List (List ℕ)) (mark choice : NetId) (j : ℕ) (c : Cover) (at : ℕ → ℕ) (o : ℕ) → IsCoverOf (choice_columns all choice) (output_table all j) mark c → at choice.0 < length all → allowed c at o ≡ has (slice_index_or (get_or all (at choice.0) []) j empty) o
unfolding table_allows
output-allowed all mark choice j c at o made low =
    let reach : length all ≤ choice_count all = count_reaches all in
    let range : in_range at (choice_columns all choice) ≡ true = and-true _ ∙ lt-ltb (at choice.0) (choice_count all) (omega (arith, reach, low)) in
    (IsFlatTable_made (choice_columns all choice) (output_table all j) mark (record { cover = c; mark = None }) (output_unmarked all choice j).table made).allows at range tt o
    ∙ (ap (λ b. some_row_holds (output_rows j 0 all) (at choice.0 ∷ []) (o ∷ []) || b) (and-false _)
    ∙ (or-false _ ∙ output-one j 0 (at choice.0) (at choice.0) all o (let e : at choice.0 ≡ 0 + at choice.0 = omega arith in e) low))

pub outputs-hold : (all : List (List ℕ)) (mark choice : NetId) (j : ℕ) (cs : List Cover) (at : ℕ → ℕ) (outs : List ℕ) → AreOutputs all mark choice j cs → at choice.0 < length all → length (get_or all (at choice.0) []) ≡ j + length cs → outputs_allow cs at outs ≡ row_matches (drop j (get_or all (at choice.0) [])) outs
outputs-hold all mark choice j [] at [] are low long = sym (ap (λ (s : List ℕ). row_matches s []) (drop_all j (get_or all (at choice.0) []) (omega (arith, long))))
outputs-hold all mark choice j [] at (o ∷ outs) are low long = sym (ap (λ (s : List ℕ). row_matches s (o ∷ outs)) (drop_all j (get_or all (at choice.0) []) (omega (arith, long))))
outputs-hold all mark choice j (c ∷ cs) at [] are low long =
    sym (ap (λ (s : List ℕ). row_matches s []) (drop_more (get_or all (at choice.0) []) j empty (omega (arith, long))))
outputs-hold all mark choice j (c ∷ cs) at (o ∷ outs) are low long =
    let sets = get_or all (at choice.0) [] in
    let here = output-allowed all mark choice j c at o are.0 low in
    let rest = outputs-hold all mark choice (j + 1) cs at outs are.1 low (omega (arith, long)) in
    (λ i. here i && rest i) ∙ sym (ap (λ (s : List ℕ). row_matches s (o ∷ outs)) (drop_more sets j empty (omega (arith, long))))
