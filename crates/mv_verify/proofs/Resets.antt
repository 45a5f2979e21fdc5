-- The reset values of latches: those of the latches with reset nets, and of the others.
use Rattle.std.proofs.Common.{◌≡◌, ◌∙◌, ℕ, suc, ◌+◌, ◌<◌, false, Option, Some, None, List, [], ◌∷◌, ◌++◌, length, map, get_or, drop, refl, sym, ap, append_assoc, add-one, arith}
use Rattle.std.proofs.Math.Seq.{drop-cons}
use Rattle.std.specs.List.{AllZip}
use Rattle.std.proofs.lemmas.Bool.{false≢true}
use Rattle.mv_base.specs.declared.number.NetId.{NetId}
use Rattle.mv_base.specs.Meaning.{LatchPort}
use Rattle.mv_net.specs.declared.parts.FlatNet.{FlatNet}
use Rattle.mv_net.specs.declared.parts.FlatLatch.{FlatLatch}
use Rattle.mv_net.specs.declared.parts.NetParts.{NetParts}
use Rattle.mv_net.specs.Nets.{slot, values_in, has_reset, latch_port_of}
use Rattle.mv_net.specs.Formed.{AllLatches, WellFormed, latch_resets, with_reset}
use Rattle.mv_net.specs.Allowed.{reset_gives, resets_give}
use Rattle.mv_net.proofs.Known.{values_some}
use Rattle.mv_verify.specs.Answers.{IsBareZero}
use Rattle.mv_verify.specs.Evidence.{first_reset, other_resets, spread, IsPushed}
use Rattle.mv_verify.proofs.Ports.{latch_held}
use Rattle.mv_verify.proofs.Looks.{values_alike}

-- the values of nets
abbrev pub at_all : (ℕ → ℕ) → List NetId → List ℕ
at_all at ns = map (λ (m : NetId). at m.0) ns

-- a value where there is a reset net
abbrev kept_first : Option NetId → ℕ → List ℕ → List ℕ
kept_first None v vs = vs
kept_first (Some n) v vs = v ∷ vs

-- the reset values of the latches with reset nets
abbrev pub kept : List FlatLatch → List ℕ → List ℕ
kept [] vs = []
kept (l ∷ ls) [] = []
kept (l ∷ ls) (v ∷ vs) = kept_first l.reset v (kept ls vs)

-- a reset value is one of the latch's, where there is no reset net
abbrev FreeOne : List (Option FlatNet) → NetId → Option NetId → ℕ → Type 0
FreeOne nets output None v = v < values_in (slot nets output.0)
FreeOne nets output (Some n) v = Unit {0}

abbrev pub AreFree : List (Option FlatNet) → List FlatLatch → List ℕ → Type 0
AreFree nets [] vs = Unit {0}
AreFree nets (l ∷ ls) [] = Unit {0}
AreFree nets (l ∷ ls) (v ∷ vs) = FreeOne nets l.output l.reset v × AreFree nets ls vs

-- ---- an assignment has them at the reset nets

pub resets_kept : (nets : List (Option FlatNet)) (at : ℕ → ℕ) (ls : List FlatLatch) (r : List ℕ) → resets_give nets at ls r → at_all at (latch_resets ls) ≡ kept ls r
resets_kept nets at [] r g = refl
resets_kept nets at (l ∷ ls) [] g = absurd g
resets_kept nets at (l ∷ ls) (v ∷ vs) g = by_reset l.reset g.0 (resets_kept nets at ls vs g.1)
  where
    by_reset : (o : Option NetId) → reset_gives nets at l.output o v → at_all at (latch_resets ls) ≡ kept ls vs → at_all at (with_reset o (latch_resets ls)) ≡ kept_first o v (kept ls vs)
    by_reset None g rest = rest
    by_reset (Some n) g rest = let first = sym g in λ i. first i ∷ rest i

pub resets_long : (nets : List (Option FlatNet)) (at : ℕ → ℕ) (ls : List FlatLatch) (r : List ℕ) → resets_give nets at ls r → length r ≡ length ls
resets_long nets at [] [] g = refl
resets_long nets at [] (v ∷ vs) g = absurd g
resets_long nets at (l ∷ ls) [] g = absurd g
resets_long nets at (l ∷ ls) (v ∷ vs) g = let rest = resets_long nets at ls vs g.1 in ap suc rest

pub resets_from : (nets : List (Option FlatNet)) (at : ℕ → ℕ) (ls : List FlatLatch) (r : List ℕ) → length r ≡ length ls → AreFree nets ls r → at_all at (latch_resets ls) ≡ kept ls r → resets_give nets at ls r
resets_from nets at [] [] long free e = tt
resets_from nets at [] (v ∷ vs) long free e = absurd (omega arith)
resets_from nets at (l ∷ ls) [] long free e = absurd (omega arith)
resets_from nets at (l ∷ ls) (v ∷ vs) long free e = by_reset l.reset free.0 (resets_from nets at ls vs (omega arith) free.1) e
  where
    by_reset : (o : Option NetId) → FreeOne nets l.output o v → (at_all at (latch_resets ls) ≡ kept ls vs → resets_give nets at ls vs) → at_all at (with_reset o (latch_resets ls)) ≡ kept_first o v (kept ls vs) → reset_gives nets at l.output o v × resets_give nets at ls vs
    by_reset None low rest e = (low, rest e)
    by_reset (Some n) low rest e =
        let here : v ≡ at n.0 = cc in
        let behind : at_all at (latch_resets ls) ≡ kept ls vs = cc in
        (here, rest behind)

-- ---- latches that look alike

-- the reset nets of one are as many as those of the other
pub resets_alike : (b a : List (Option FlatNet)) (bs as_ : List FlatLatch) → map (latch_port_of b) bs ≡ map (latch_port_of a) as_ → length (latch_resets bs) ≡ length (latch_resets as_)
resets_alike b a [] [] same = refl
resets_alike b a [] (m ∷ ms) same = cc
resets_alike b a (l ∷ ls) [] same = cc
resets_alike b a (l ∷ ls) (m ∷ ms) same =
    let first : latch_port_of b l ≡ latch_port_of a m = cc in
    let rest : map (latch_port_of b) ls ≡ map (latch_port_of a) ms = cc in
    by_reset l.reset m.reset (ap (λ (p : LatchPort). p.has_reset) first) (resets_alike b a ls ms rest)
  where
    by_reset : (o p : Option NetId) → has_reset o ≡ has_reset p → length (latch_resets ls) ≡ length (latch_resets ms) → length (with_reset o (latch_resets ls)) ≡ length (with_reset p (latch_resets ms))
    by_reset None None e long = long
    by_reset None (Some n) e long = absurd (false≢true e)
    by_reset (Some n) None e long = absurd (false≢true (sym e))
    by_reset (Some n) (Some k) e long = ap suc long

pub kept_alike : (b a : List (Option FlatNet)) (bs as_ : List FlatLatch) (r : List ℕ) → map (latch_port_of b) bs ≡ map (latch_port_of a) as_ → kept bs r ≡ kept as_ r
kept_alike b a [] [] r same = refl
kept_alike b a [] (m ∷ ms) r same = cc
kept_alike b a (l ∷ ls) [] r same = cc
kept_alike b a (l ∷ ls) (m ∷ ms) [] same = refl
kept_alike b a (l ∷ ls) (m ∷ ms) (v ∷ vs) same =
    let first : latch_port_of b l ≡ latch_port_of a m = cc in
    let rest : map (latch_port_of b) ls ≡ map (latch_port_of a) ms = cc in
    by_reset l.reset m.reset (ap (λ (p : LatchPort). p.has_reset) first) (kept_alike b a ls ms vs rest)
  where
    by_reset : (o p : Option NetId) → has_reset o ≡ has_reset p → kept ls vs ≡ kept ms vs → kept_first o v (kept ls vs) ≡ kept_first p v (kept ms vs)
    by_reset None None e others = others
    by_reset None (Some n) e others = absurd (false≢true e)
    by_reset (Some n) None e others = absurd (false≢true (sym e))
    by_reset (Some n) (Some k) e others = ap (λ l. v ∷ l) others

pub free_alike : (b a : NetParts) (at : ℕ → ℕ) (bs as_ : List FlatLatch) (r : List ℕ) → WellFormed b → WellFormed a → map (latch_port_of b.nets) bs ≡ map (latch_port_of a.nets) as_ → resets_give b.nets at bs r → AreFree a.nets as_ r
free_alike b a at bs [] r formed_b formed_a same g = tt
free_alike b a at bs (m ∷ ms) [] formed_b formed_a same g = tt
free_alike b a at [] (m ∷ ms) (v ∷ vs) formed_b formed_a same g = cc
free_alike b a at (l ∷ ls) (m ∷ ms) (v ∷ vs) formed_b formed_a same g =
    let first : latch_port_of b.nets l ≡ latch_port_of a.nets m = cc in
    let rest : map (latch_port_of b.nets) ls ≡ map (latch_port_of a.nets) ms = cc in
    let count = values_alike b a l.output.0 m.output.0 formed_b formed_a (ap (λ (p : LatchPort). p.values) first) in
    (by_reset l.reset m.reset (ap (λ (p : LatchPort). p.has_reset) first) count g.0, free_alike b a at ls ms vs formed_b formed_a rest g.1)
  where
    by_reset : (o p : Option NetId) → has_reset o ≡ has_reset p → values_in (slot b.nets l.output.0) ≡ values_in (slot a.nets m.output.0) → reset_gives b.nets at l.output o v → FreeOne a.nets m.output p v
    by_reset None None e count g = omega arith
    by_reset None (Some n) e count g = tt
    by_reset (Some n) None e count g = absurd (false≢true (sym e))
    by_reset (Some n) (Some k) e count g = tt

-- ---- spread over the latches

pub spread_long : (ls : List FlatLatch) (vs : List ℕ) → length (spread ls vs) ≡ length ls
spread_long [] vs = refl
spread_long (l ∷ ls) vs = ap suc (spread_long ls (other_resets l.reset vs))

-- the reset value of the latch at a place, and those behind it
pub spread_next : (ls : List FlatLatch) (k : ℕ) (l none : FlatLatch) (vs : List ℕ) → k < length ls → l ≡ get_or ls k none → spread (drop k ls) vs ≡ first_reset l.reset vs ∷ spread (drop (k + 1) ls) (other_resets l.reset vs)
spread_next ls k l none vs less is =
    let here : drop k ls ≡ l ∷ drop (k + 1) ls = drop-cons ls k none less ∙ ((λ j. sym is j ∷ drop (suc k) ls) ∙ ap (λ n. l ∷ drop n ls) (sym (add-one k))) in
    ap (λ xs. spread xs vs) here

-- so they go on
pub spread_more : (ls : List FlatLatch) (k : ℕ) (l none : FlatLatch) (vs others old new all : List ℕ) → k < length ls → l ≡ get_or ls k none → IsPushed l.reset vs others old new → old ++ spread (drop k ls) vs ≡ all → new ++ spread (drop (k + 1) ls) others ≡ all
spread_more ls k l none vs others old new all less is p e =
    let rest = spread (drop (k + 1) ls) others in
    let behind : spread (drop k ls) vs ≡ first_reset l.reset vs ∷ rest = spread_next ls k l none vs less is ∙ ap (λ us. first_reset l.reset vs ∷ spread (drop (k + 1) ls) us) p.behind in
    ap (λ us. us ++ rest) p.resets ∙ (append_assoc old (first_reset l.reset vs ∷ []) rest ∙ (ap (λ us. old ++ us) (sym behind) ∙ e))

pub kept_spread : (ls : List FlatLatch) (vs : List ℕ) → length vs ≡ length (latch_resets ls) → kept ls (spread ls vs) ≡ vs
kept_spread [] [] long = refl
kept_spread [] (v ∷ vs) long = absurd (omega arith)
kept_spread (l ∷ ls) vs long = by_reset (λ us. kept_spread ls us) l.reset vs long
  where
    by_reset : ((us : List ℕ) → length us ≡ length (latch_resets ls) → kept ls (spread ls us) ≡ us) → (o : Option NetId) (us : List ℕ) → length us ≡ length (with_reset o (latch_resets ls)) → kept_first o (first_reset o us) (kept ls (spread ls (other_resets o us))) ≡ us
    by_reset rest None us e = rest us e
    by_reset rest (Some n) [] e = absurd (omega arith)
    by_reset rest (Some n) (u ∷ us) e = ap (λ l. u ∷ l) (rest us (omega arith))

pub free_spread : (net : NetParts) (ls : List FlatLatch) (vs : List ℕ) → WellFormed net → AllLatches net.nets ls → AreFree net.nets ls (spread ls vs)
free_spread net [] vs formed all = tt
free_spread net (l ∷ ls) vs formed all = (by_reset l.reset (values_some net l.output.0 formed (latch_held net.nets ls l all)), free_spread net ls (other_resets l.reset vs) formed all.1)
  where
    by_reset : (o : Option NetId) → 0 < values_in (slot net.nets l.output.0) → FreeOne net.nets l.output o (first_reset o vs)
    by_reset None some = some
    by_reset (Some n) some = tt

pub spread_bare : (nets : List (Option FlatNet)) (ls : List FlatLatch) (vs : List ℕ) → AllZip IsBareZero (map (latch_port_of nets) ls) (spread ls vs)
spread_bare nets [] vs = tt
spread_bare nets (l ∷ ls) vs = (by_reset l.reset, spread_bare nets ls (other_resets l.reset vs))
  where
    by_reset : (o : Option NetId) → has_reset o ≡ false → first_reset o vs ≡ 0
    by_reset None e = refl
    by_reset (Some n) e = absurd (false≢true (sym e))
