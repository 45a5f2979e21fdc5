-- The columns of a table by number, with the counts of values of all nets that have numbers.
use Rattle.std.proofs.Common.{◌≡◌, ℕ, ◌+◌, ◌<◌, true, List, [], ◌∷◌, ◌++◌, length, get_or, map, take, sym, ◌∙◌, ap, arith}
use Rattle.std.proofs.lemmas.List.{get_or-map, map_more}
use Rattle.std.proofs.lemmas.List.Sums.{AllPass-from_list_all}
use Rattle.mv_base.specs.Names.{among}
use Rattle.mv_base.specs.declared.number.NetId.{NetId}
use Rattle.mv_design.specs.declared.design.Decl.{Decl}
use Rattle.mv_design.specs.Values.{count_of}
use Rattle.mv_rows.specs.declared.column.Column.{Column}
use Rattle.mv_acyclic.specs.Numbers.{net_in, number_in}
use Rattle.mv_acyclic.proofs.Listed.{IsNumber-among, name_at}
use Rattle.mv_flat.specs.Gathered.{counts_of}
use Rattle.mv_flat.specs.Numbers.{column_of}
use Rattle.mv_flat.specs.Placed.{are_known}

known_at : (names ws : List (List ℕ)) (i : ℕ) (w : List ℕ) → are_known names ws ≡ true → i < length ws → w ≡ get_or ws i w → among w names ≡ true
known_at names ws i w known low is = ap (λ u. among u names) is ∙ AllPass-from_list_all (λ u. among u names) ws known i w low

-- a net of a table has a number, so it has a count
pub has_count : (names ws : List (List ℕ)) (counts : List ℕ) (i : ℕ) (w : List ℕ) (number : NetId) → length counts ≡ length names → are_known names ws ≡ true
    → i < length ws → w ≡ get_or ws i w → number ≡ net_in names w → number.0 < length counts
has_count names ws counts i w number long known low is n =
    let k = (IsNumber-among names w (known_at names ws i w known low is)).within in
    let e : number.0 ≡ number_in names w = ap (λ x. x.0) n in
    omega (arith, long, k, e)

-- a count by number is that of the net
count_by_number : (ds : List Decl) (names : List (List ℕ)) (counts : List ℕ) (w : List ℕ) (d : ℕ) → counts ≡ counts_of ds names → among w names ≡ true
    → get_or counts (number_in names w) d ≡ count_of ds w
count_by_number ds names counts w d e known =
    ap (λ cs. get_or cs (number_in names w) d) e
    ∙ (get_or-map (count_of ds) names (number_in names w) [] d (IsNumber-among names w known).within ∙ ap (count_of ds) (name_at names w known))

-- one column more
pub column_more : (ds : List Decl) (names ws : List (List ℕ)) (counts : List ℕ) (i : ℕ) (w : List ℕ) (number : NetId) (d : ℕ) (old new : List Column)
    → counts ≡ counts_of ds names → are_known names ws ≡ true → i < length ws → w ≡ get_or ws i w → number ≡ net_in names w
    → old ≡ map (column_of ds names) (take i ws) → new ≡ old ++ record { net = number; count = get_or counts number.0 d } ∷ []
    → new ≡ map (column_of ds names) (take (i + 1) ws)
column_more ds names ws counts i w number d old new e known low is n o more =
    let value : get_or counts number.0 d ≡ count_of ds w =
    ap (λ (x : NetId). get_or counts x.0 d) n ∙ count_by_number ds names counts w d e (known_at names ws i w known low is) in
    more
    ∙ ((λ j. o j ++ record { net = n j; count = value j } ∷ [])
    ∙ (ap (λ u. map (column_of ds names) (take i ws) ++ column_of ds names u ∷ []) is ∙ sym (map_more (column_of ds names) ws i w low)))
