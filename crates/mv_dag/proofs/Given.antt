-- Which readers rows give, row by row and net by net.
use Rattle.std.proofs.Common.{◌≡◌, ◌∙◌, ℕ, ◌+◌, ◌<◌, Bool, true, false, ◌&&◌, ◌||◌, not, nat_eq, List, [], length, get_or, take, drop, refl, sym, ap, eqb-true}
use Rattle.std.specs.List.{list_any}
use Rattle.std.proofs.lemmas.Bool.{or_left, and_parts, and_from, false≢true}
use Rattle.std.proofs.lemmas.List.{take-append-drop}
use Rattle.std.proofs.lemmas.List.Folds.{list_any-append, list_any_more, list_any_at}
use Rattle.mv_base.specs.declared.number.NetId.{NetId}
use Rattle.mv_graph.specs.Nets.{has_id, row}
use Rattle.mv_graph.proofs.Nets.{has_id-more, has_id-at}
use Rattle.mv_dag.specs.declared.new_rows.NewRow.{NewRow}
use Rattle.mv_dag.specs.Readers.{is_edge, is_given_by, is_given}

-- what one of the first elements passes, one of all does
pub any-part : {X : Type 0} (p : X → Bool) (xs : List X) (k : ℕ) → list_any p (take k xs) ≡ true → list_any p xs ≡ true
any-part p xs k h =
    ap (list_any p) (sym (take-append-drop k xs)) ∙ (list_any-append p (take k xs) (drop k xs) ∙ or_left (list_any p (take k xs)) (list_any p (drop k xs)) h)

split_and : (a b c : Bool) → (a && (b || c)) ≡ ((a && b) || (a && c))
split_and true b c = refl
split_and false b c = refl

none_and : (a : Bool) → (a && false) ≡ false
none_and true = refl
none_and false = refl

-- ---- one row, net by net

pub given_by-none : (n i j : ℕ) → is_given_by n [] i j ≡ false
given_by-none n i j = none_and (nat_eq n i)

pub given_by-more : (n : ℕ) (ns : List NetId) (k : ℕ) (x d : NetId) → k < length ns → x ≡ get_or ns k d → (i j : ℕ) → is_given_by n (take (k + 1) ns) i j ≡ (is_given_by n (take k ns) i j || is_edge n x.0 i j)
given_by-more n ns k x d lt is i j = ap (λ b. nat_eq n i && b) (has_id-more ns k x d j lt is) ∙ split_and (nat_eq n i) (has_id (take k ns) j) (nat_eq x.0 j)

pub given_by-part : (n : ℕ) (ns : List NetId) (k : ℕ) → (i j : ℕ) → is_given_by n (take k ns) i j ≡ true → is_given_by n ns i j ≡ true
given_by-part n ns k i j h =
    let p = and_parts (nat_eq n i) (has_id (take k ns) j) h in
    and_from (nat_eq n i) (has_id ns j) p.0 (any-part (λ (m : NetId). nat_eq m.0 j) ns k p.1)

pub given_by-edge : (n : ℕ) (ns : List NetId) (k : ℕ) (x d : NetId) → k < length ns → x ≡ get_or ns k d → (i j : ℕ) → is_edge n x.0 i j ≡ true → is_given_by n ns i j ≡ true
given_by-edge n ns k x d lt is i j h =
    let p = and_parts (nat_eq n i) (nat_eq x.0 j) h in
    let stands : has_id ns x.0 ≡ true = ap (λ (y : NetId). has_id ns y.0) is ∙ has_id-at ns k d lt in
    and_from (nat_eq n i) (has_id ns j) p.0 (ap (has_id ns) (sym (eqb-true x.0 j p.1)) ∙ stands)

-- ---- rows, one by one

pub given-more : (rows : List NewRow) (k : ℕ) (r d : NewRow) → k < length rows → r ≡ get_or rows k d → (i j : ℕ) → is_given (take (k + 1) rows) i j ≡ (is_given (take k rows) i j || is_given_by r.net.0 r.fanins i j)
given-more rows k r d lt is i j =
    list_any_more (λ (s : NewRow). is_given_by s.net.0 s.fanins i j) rows k d lt
    ∙ ap (λ (s : NewRow). is_given (take k rows) i j || is_given_by s.net.0 s.fanins i j) (sym is)

pub given-part : (rows : List NewRow) (k : ℕ) → (i j : ℕ) → is_given (take k rows) i j ≡ true → is_given rows i j ≡ true
given-part rows k i j h = any-part (λ (s : NewRow). is_given_by s.net.0 s.fanins i j) rows k h

pub given-at_row : (rows : List NewRow) (k : ℕ) (r d : NewRow) → k < length rows → r ≡ get_or rows k d → (i j : ℕ) → is_given_by r.net.0 r.fanins i j ≡ true → is_given rows i j ≡ true
given-at_row rows k r d lt is i j h =
    list_any_at (λ (s : NewRow). is_given_by s.net.0 s.fanins i j) rows k d lt (ap (λ (s : NewRow). is_given_by s.net.0 s.fanins i j) (sym is) ∙ h)

-- ---- but for those that are kept

-- one of the row that is kept
pub pruned-kept : (n : ℕ) (kept ns : List NetId) (k : ℕ) (x d : NetId) → k < length ns → x ≡ get_or ns k d → has_id kept x.0 ≡ true → (i j : ℕ)
    → (is_given_by n (take (k + 1) ns) i j && not (has_id kept j)) ≡ (is_given_by n (take k ns) i j && not (has_id kept j))
pruned-kept n kept ns k x d lt is there i j =
    ap (λ b. b && not (has_id kept j)) (given_by-more n ns k x d lt is i j)
    ∙ only (is_given_by n (take k ns) i j) (is_edge n x.0 i j) (has_id kept j)
    (λ h. let p = and_parts (nat_eq n i) (nat_eq x.0 j) h in ap (has_id kept) (sym (eqb-true x.0 j p.1)) ∙ there)
  where
    only : (a b c : Bool) → (b ≡ true → c ≡ true) → ((a || b) && not c) ≡ (a && not c)
    only true b c f = refl
    only false false c f = refl
    only false true true f = refl
    only false true false f = absurd (false≢true (f refl))

-- one of the row that is not kept
pub pruned-more : (n : ℕ) (kept ns : List NetId) (k : ℕ) (x d : NetId) → k < length ns → x ≡ get_or ns k d → has_id kept x.0 ≡ false → (i j : ℕ)
    → (is_given_by n (take (k + 1) ns) i j && not (has_id kept j)) ≡ ((is_given_by n (take k ns) i j && not (has_id kept j)) || is_edge n x.0 i j)
pruned-more n kept ns k x d lt is out i j =
    ap (λ b. b && not (has_id kept j)) (given_by-more n ns k x d lt is i j)
    ∙ both (is_given_by n (take k ns) i j) (is_edge n x.0 i j) (has_id kept j)
    (λ h. let p = and_parts (nat_eq n i) (nat_eq x.0 j) h in ap (has_id kept) (sym (eqb-true x.0 j p.1)) ∙ out)
  where
    both : (a b c : Bool) → (b ≡ true → c ≡ false) → ((a || b) && not c) ≡ ((a && not c) || b)
    both true true true f = absurd (false≢true (sym (f refl)))
    both true true false f = refl
    both true false true f = refl
    both true false false f = refl
    both false false c f = refl
    both false true true f = absurd (false≢true (sym (f refl)))
    both false true false f = refl

-- one row more
pub pruned-row : (fanins : List (List NetId)) (rows : List NewRow) (k : ℕ) (r d : NewRow) (kept : List NetId) → k < length rows → r ≡ get_or rows k d → kept ≡ row fanins r.net.0 → (i j : ℕ)
    → (is_given (take (k + 1) rows) i j && not (has_id (row fanins i) j)) ≡ ((is_given (take k rows) i j && not (has_id (row fanins i) j)) || (is_given_by r.net.0 r.fanins i j && not (has_id kept j)))
pruned-row fanins rows k r d kept lt is own i j =
    ap (λ b. b && not (has_id (row fanins i) j)) (given-more rows k r d lt is i j)
    ∙ both (is_given (take k rows) i j) (is_given_by r.net.0 r.fanins i j) (has_id (row fanins i) j) (has_id kept j)
    (λ h. let p = and_parts (nat_eq r.net.0 i) (has_id r.fanins j) h in ap (λ m. has_id (row fanins m) j) (sym (eqb-true r.net.0 i p.0)) ∙ ap (λ l. has_id l j) (sym own))
  where
    both : (a b c d : Bool) → (b ≡ true → c ≡ d) → ((a || b) && not c) ≡ ((a && not c) || (b && not d))
    both true false true d f = refl
    both true false false d f = refl
    both true true true d f = rw (sym (f refl)) refl
    both true true false d f = refl
    both false false c d f = refl
    both false true c d f = ap not (f refl)
