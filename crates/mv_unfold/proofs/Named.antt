-- The names of all nets, gathered place by place.
use Rattle.std.proofs.Common.{◌≡◌, ℕ, zero, suc, ◌+◌, ◌-◌, ◌<◌, ◌≤◌, Bool, true, false, Some, None, List, [], ◌∷◌, ◌++◌, length, get_or, take, drop, refl, sym, ◌∙◌, ap, arith}
use Rattle.std.specs.Prelude.{nat_lt, nat_le, if◌then◌else◌}
use Rattle.std.proofs.lemmas.Bool.Decides.{nat_tests}
use Rattle.std.proofs.lemmas.List.{append_assoc, append-nil, length-append, drop_more, map-append}
use Rattle.std.specs.List.{flat_map}
use Rattle.mv_base.specs.Names.{among}
use Rattle.mv_base.specs.declared.limits.TheConstants.{MAX_FLAT_NETS}
use Rattle.mv_fault.specs.Tells.{when, first}
use Rattle.mv_fault.specs.declared.fault.Which.TheVariants.{Nets}
use Rattle.mv_fault.specs.declared.flat.FlatFault.{FlatFault}
use Rattle.mv_fault.specs.declared.flat.FlatFault.TheVariants.{NameClash, Limit}
use Rattle.mv_fault.proofs.Firsts.{first-append}
use Rattle.mv_acyclic.specs.Sound.{long_at}
use Rattle.mv_unfold.specs.Whole.{flat_name_faults, home_faults}
use Rattle.mv_unfold.specs.declared.spans.Span.{Span}
use Rattle.mv_unfold.specs.Locals.{cut}
use Rattle.mv_unfold.specs.Named.{home_fault, rest_faults, under}

-- ---- names in two parts

pub rest_faults-append : (most : ℕ) (seen us ws : List (List ℕ)) → rest_faults most seen (us ++ ws) ≡ rest_faults most seen us ++ rest_faults most (seen ++ us) ws
rest_faults-append most seen [] ws = ap (λ ns. rest_faults most ns ws) (sym (append-nil seen))
rest_faults-append most seen (u ∷ us) ws =
    ap (λ fs. home_fault most seen u ++ fs)
    (rest_faults-append most (seen ++ u ∷ []) us ws
    ∙ ap (λ ns. rest_faults most (seen ++ u ∷ []) us ++ rest_faults most ns ws) (append_assoc seen (u ∷ []) us))
    ∙ sym (append_assoc (home_fault most seen u) (rest_faults most (seen ++ u ∷ []) us) (rest_faults most (seen ++ u ∷ us) ws))

-- ---- the first fault

first-alike : {F : Type 0} (a b c : List F) → first b ≡ first c → first (a ++ b) ≡ first (a ++ c)
first-alike [] b c e = e
first-alike (f ∷ a) b c e = refl

none_first : {F : Type 0} (a : List F) → first a ≡ None → a ≡ []
none_first [] e = refl
none_first (f ∷ a) e = cc

-- the fault of one name too many
abbrev too_many : FlatFault
too_many = Limit Nets (MAX_FLAT_NETS + 1)

first_named : (most : ℕ) (seen ws : List (List ℕ)) → length seen ≤ most
    → first (flat_name_faults seen (take (most - length seen) ws) ++ when (nat_lt most (length seen + length ws)) too_many) ≡ first (rest_faults most seen ws)
first_named most seen [] low = none (most - length seen) (nat_lt most (length seen + 0)) (grind (arith, nat_tests))
  where
    none : (k : ℕ) (b : Bool) → b ≡ false → first (flat_name_faults seen (take k []) ++ when b too_many) ≡ None
    none zero b e = ap (λ c. first (when c too_many)) e
    none (suc k) b e = ap (λ c. first (when c too_many)) e
first_named most seen (w ∷ ws) low = split (nat_le most (length seen)) refl (first_named most (seen ++ w ∷ []) ws)
  where
    full : (k : ℕ) (b : Bool) → k ≡ 0 → b ≡ true → first (flat_name_faults seen (take k (w ∷ ws)) ++ when b too_many) ≡ Some too_many
    full zero b e h = ap (λ c. first (when c too_many)) h
    full (suc k) b e h = absurd (omega arith)

    next : (k n : ℕ) (b c : Bool) → n ≡ suc k → b ≡ c
        → first (flat_name_faults (seen ++ w ∷ []) (take k ws) ++ when c too_many) ≡ first (rest_faults most (seen ++ w ∷ []) ws)
        → first (flat_name_faults seen (take n (w ∷ ws)) ++ when b too_many)
        ≡ first ((long_at w ++ when (among w seen) (NameClash w)) ++ rest_faults most (seen ++ w ∷ []) ws)
    next k n b c e s h =
        let more = flat_name_faults (seen ++ w ∷ []) (take k ws) in
        let here = long_at w ++ when (among w seen) (NameClash w) in
        ap (λ i. first (flat_name_faults seen (take i (w ∷ ws)) ++ when b too_many)) e
        ∙ (ap (λ t. first ((long_at w ++ (when (among w seen) (NameClash w) ++ more)) ++ when t too_many)) s
        ∙ (ap (λ fs. first (fs ++ when c too_many)) (sym (append_assoc (long_at w) (when (among w seen) (NameClash w)) more))
        ∙ (ap first (append_assoc here more (when c too_many)) ∙ first-alike here (more ++ when c too_many) (rest_faults most (seen ++ w ∷ []) ws) h)))

    split : (b : Bool) → nat_le most (length seen) ≡ b
        → (length (seen ++ w ∷ []) ≤ most
        → first (flat_name_faults (seen ++ w ∷ []) (take (most - length (seen ++ w ∷ [])) ws) ++ when (nat_lt most (length (seen ++ w ∷ []) + length ws)) too_many)
        ≡ first (rest_faults most (seen ++ w ∷ []) ws))
        → first (flat_name_faults seen (take (most - length seen) (w ∷ ws)) ++ when (nat_lt most (length seen + length (w ∷ ws))) too_many)
        ≡ first ((if b then too_many ∷ [] else long_at w ++ when (among w seen) (NameClash w)) ++ rest_faults most (seen ++ w ∷ []) ws)
    split true e h = full (most - length seen) (nat_lt most (length seen + length (w ∷ ws))) (grind (arith, nat_tests)) (grind (arith, nat_tests))
    split false e h =
        let long : length (seen ++ w ∷ []) ≡ length seen + 1 = length-append seen (w ∷ []) in
        let low : length seen < most = grind (arith, nat_tests) in
        next (most - length (seen ++ w ∷ [])) (most - length seen) (nat_lt most (length seen + length (w ∷ ws)))
        (nat_lt most (length (seen ++ w ∷ []) + length ws)) (omega arith) (ap (nat_lt most) (omega arith)) (h (omega arith))

first_all : (most : ℕ) (ws : List (List ℕ)) → first (flat_name_faults [] (take most ws) ++ when (nat_lt most (length ws)) too_many) ≡ first (rest_faults most [] ws)
first_all most ws =
    let k : most ≡ most - length {A = List ℕ} [] = omega arith in
    let n : length ws ≡ length {A = List ℕ} [] + length ws = omega arith in
    ap (λ i. first (flat_name_faults [] (take i ws) ++ when (nat_lt most (length ws)) too_many)) k
    ∙ (ap (λ i. first (flat_name_faults [] (take (most - length {A = List ℕ} []) ws) ++ when (nat_lt most i) too_many)) n ∙ first_named most [] ws (omega arith))

pub first_home : (ws : List (List ℕ)) → first (home_faults ws) ≡ first (rest_faults MAX_FLAT_NETS [] ws)
unfolding home_faults
first_home ws = first_all MAX_FLAT_NETS ws

pub no_home_fault : (ws : List (List ℕ)) → rest_faults MAX_FLAT_NETS [] ws ≡ [] → home_faults ws ≡ []
no_home_fault ws e = none_first (home_faults ws) (first_home ws ∙ ap first e)

-- ---- a loop that gathers names

-- names so far, and those to come
pub record IsGathered (start all seen rest : List (List ℕ)) : Type 0 where
  pub faults : rest_faults MAX_FLAT_NETS seen rest ≡ rest_faults MAX_FLAT_NETS start all
  pub added : seen ++ rest ≡ start ++ all

-- the next of them have a fault
pub gathered_fault : (start all seen here rest : List (List ℕ)) (f : FlatFault) → IsGathered start all seen (here ++ rest)
    → first (rest_faults MAX_FLAT_NETS seen here) ≡ Some f → first (rest_faults MAX_FLAT_NETS start all) ≡ Some f
gathered_fault start all seen here rest f h e =
    ap first (sym h.faults ∙ rest_faults-append MAX_FLAT_NETS seen here rest)
    ∙ first-append f (rest_faults MAX_FLAT_NETS seen here) (rest_faults MAX_FLAT_NETS (seen ++ here) rest) e

-- the next of them are added
pub gathered_more : (start all seen here rest new : List (List ℕ)) → IsGathered start all seen (here ++ rest)
    → rest_faults MAX_FLAT_NETS seen here ≡ [] → new ≡ seen ++ here → IsGathered start all new rest
gathered_more start all seen here rest new h none is =
    record {
      faults =
          ap (λ ns. rest_faults MAX_FLAT_NETS ns rest) is
          ∙ (ap (λ fs. fs ++ rest_faults MAX_FLAT_NETS (seen ++ here) rest) (sym none)
          ∙ (sym (rest_faults-append MAX_FLAT_NETS seen here rest) ∙ h.faults));
      added = ap (λ ns. ns ++ rest) is ∙ (append_assoc seen here rest ∙ h.added);
    }

-- the nets of the spans from one on
pub spans_more : (path : List ℕ) (nets : List (List ℕ)) (spans : List Span) (i : ℕ) (z : Span) → i < length spans
    → under path (flat_map (cut nets) (drop i spans)) ≡ under path (cut nets (get_or spans i z)) ++ under path (flat_map (cut nets) (drop (i + 1) spans))
spans_more path nets spans i z lt =
    ap (λ ss. under path (flat_map (cut nets) ss)) (drop_more spans i z lt)
    ∙ map-append (λ net. path ++ net) (cut nets (get_or spans i z)) (flat_map (cut nets) (drop (i + 1) spans))
