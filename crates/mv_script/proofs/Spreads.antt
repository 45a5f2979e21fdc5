-- The parts of scripts that are put together from their end.
use Rattle.std.proofs.Common.{◌≡◌, ℕ, ◌+◌, ◌-◌, ◌<◌, List, [], ◌∷◌, ◌++◌, length, flat_map, reverse, refl, sym, ◌∙◌, ap, subst, append_assoc, arith}
use Rattle.std.proofs.lemmas.List.{append-nil, reverse-append}
use Rattle.mv_script.specs.declared.part.Braces.{Braces}
use Rattle.mv_script.specs.declared.part.Braces.TheVariants.{Repeat as RepeatBraces, Better as BetterBraces}
use Rattle.mv_script.specs.declared.part.Part.{Part}
use Rattle.mv_script.specs.declared.part.PartKind.{PartKind}
use Rattle.mv_script.specs.declared.part.PartKind.TheVariants.{Do, Open, Close}
use Rattle.mv_script.specs.declared.script.Script.{Script}
use Rattle.mv_script.specs.Scripts.{Items, End, items_of}
use Rattle.mv_script.specs.Parts.{parts_of, kinds, braced, spread, IsBalanced, CanStand, depth_behind, height_before}

-- ---- one part more

-- the parts behind an inner script
abbrev behind : List Script → List PartKind
behind scripts = flat_map (λ s. Close ∷ parts_of (items_of s)) scripts

-- a closing brace
pub spread_close : (inner : Script) (outer : List Script) → spread End (outer ++ inner ∷ []) ≡ Close ∷ spread (items_of inner) outer
spread_close inner outer = ap behind (reverse-append outer (inner ∷ []))

braced_parts : (braces : Braces) (inside rest : Items) → parts_of (braced braces inside rest) ≡ Open braces ∷ (parts_of inside ++ Close ∷ parts_of rest)
braced_parts (RepeatBraces times) inside rest = refl
braced_parts BetterBraces inside rest = refl

-- an opening brace
pub spread_open : (braces : Braces) (inner : Items) (rest : Script) (outer old : List Script) (script : Items) → old ≡ outer ++ rest ∷ [] → script ≡ braced braces inner (items_of rest) → spread script outer ≡ Open braces ∷ spread inner old
spread_open braces inner rest outer old script was e =
    let front : spread script outer ≡ (Open braces ∷ (parts_of inner ++ Close ∷ parts_of (items_of rest))) ++ behind (reverse outer) = ap (λ s. spread s outer) e ∙ ap (λ t. t ++ behind (reverse outer)) (braced_parts braces inner (items_of rest)) in
    let back : parts_of inner ++ behind (reverse old) ≡ parts_of inner ++ (Close ∷ parts_of (items_of rest) ++ behind (reverse outer)) = ap (λ t. parts_of inner ++ behind t) (ap reverse was ∙ reverse-append outer (rest ∷ [])) in
    front ∙ ap (λ t. Open braces ∷ t) (append_assoc (parts_of inner) (Close ∷ parts_of (items_of rest)) (behind (reverse outer)) ∙ sym back)

-- ---- how many braces are closed

balanced_once : (ks : List PartKind) (a b : ℕ) → IsBalanced ks a → IsBalanced ks b → a ≡ b
balanced_once [] a b h k = h ∙ sym k
balanced_once (Do c ∷ ks) a b h k = balanced_once ks a b h.1 k.1
balanced_once (Open braces ∷ ks) a b h k = let e = balanced_once ks (a + 1) (b + 1) h.1 k.1 in omega arith
balanced_once (Close ∷ ks) a b h k =
    let e = balanced_once ks (a - 1) (b - 1) h.1 k.1 in
    let x : 0 < a = h.0 in
    let y : 0 < b = k.0 in
    omega arith

-- what stands behind some first parts is balanced at some depth
pub record FromHere (ks : List PartKind) : Type 0 where
  pub depth : ℕ
  pub balanced : IsBalanced ks depth

balanced_behind : (front ks : List PartKind) (d : ℕ) → IsBalanced (front ++ ks) d → FromHere ks
balanced_behind [] ks d h = record { depth = d; balanced = h }
balanced_behind (k ∷ front) ks d h = balanced_behind front ks (depth_behind k d) h.1

-- a part before others that are balanced may stand there, and they are balanced with it
pub record StandsBefore (k : PartKind) (ks : List PartKind) (n : ℕ) : Type 0 where
  pub can : CanStand k n
  pub balanced : IsBalanced (k ∷ ks) (height_before k n)

stands : (k : PartKind) (ks : List PartKind) (n d : ℕ) → IsBalanced (k ∷ ks) d → IsBalanced ks n → StandsBefore k ks n
stands (Do c) ks n d h b = record { can = tt; balanced = (tt, b) }
stands (Open braces) ks n d h b =
    let e : d + 1 ≡ n = balanced_once ks (d + 1) n h.1 b in
    let same : n - 1 ≡ d = omega arith in
    record { can = omega arith; balanced = subst (λ m. IsBalanced (Open braces ∷ ks) m) (sym same) h }
stands Close ks n d h b =
    record { can = tt; balanced = (omega arith, subst (λ m. IsBalanced ks m) (omega arith) b) }

pub part_stands : (front : List PartKind) (k : PartKind) (ks : List PartKind) (n : ℕ) → IsBalanced (front ++ k ∷ ks) 0 → IsBalanced ks n → StandsBefore k ks n
part_stands front k ks n h b =
    let here = balanced_behind front (k ∷ ks) 0 h in
    stands k ks n here.depth here.balanced b

-- ---- all parts

kinds_push : (parts : List Part) (p : Part) → kinds (parts ++ p ∷ []) ≡ kinds parts ++ p.kind ∷ []
kinds_push [] p = refl
kinds_push (q ∷ parts) p = ap (λ t. q.kind ∷ t) (kinds_push parts p)

-- the parts left and those that were put together are all, with one part moved over
pub kinds_moved : (all old parts : List Part) (p : Part) (rest : List PartKind) → kinds old ++ rest ≡ kinds all → old ≡ parts ++ p ∷ [] → kinds parts ++ (p.kind ∷ rest) ≡ kinds all
kinds_moved all old parts p rest e was =
    sym (append_assoc (kinds parts) (p.kind ∷ []) rest) ∙ ap (λ t. t ++ rest) (sym (kinds_push parts p) ∙ ap kinds (sym was)) ∙ e

-- at the end no brace is left
nothing_outside : (outer : List Script) (inner : Items) → length outer ≡ 0 → spread inner outer ≡ parts_of inner
nothing_outside [] inner e = append-nil (parts_of inner)
nothing_outside (s ∷ outer) inner e = absurd (omega (arith, e))

pub all_put : (all left : List Part) (inner : Items) (outer : List Script) → left ≡ [] → kinds left ++ spread inner outer ≡ kinds all → IsBalanced (kinds all) 0 → IsBalanced (spread inner outer) (length outer) → parts_of inner ≡ kinds all
all_put all left inner outer none e whole here =
    let same : spread inner outer ≡ kinds all = ap (λ t. kinds t ++ spread inner outer) (sym none) ∙ e in
    let empty : length outer ≡ 0 = balanced_once (spread inner outer) (length outer) 0 here (subst (λ t. IsBalanced t 0) (sym same) whole) in
    sym (nothing_outside outer inner empty) ∙ same

-- the next part may stand before what was put together
pub next_stands : (all old parts : List Part) (p : Part) (inner : Items) (outer : List Script) → IsBalanced (kinds all) 0 → kinds old ++ spread inner outer ≡ kinds all → IsBalanced (spread inner outer) (length outer) → old ≡ parts ++ p ∷ [] → StandsBefore p.kind (spread inner outer) (length outer)
next_stands all old parts p inner outer whole e here was =
    part_stands (kinds parts) p.kind (spread inner outer) (length outer) (subst (λ t. IsBalanced t 0) (sym (kinds_moved all old parts p (spread inner outer) e was)) whole) here

-- and with it
pub record IsPut (all left : List Part) (inner : Items) (outer : List Script) : Type 0 where
  pub whole : kinds left ++ spread inner outer ≡ kinds all
  pub closed : IsBalanced (spread inner outer) (length outer)

pub next_put : (all old parts : List Part) (p : Part) (inner script : Items) (outer outer' : List Script) → IsBalanced (kinds all) 0 → kinds old ++ spread inner outer ≡ kinds all → IsBalanced (spread inner outer) (length outer) → old ≡ parts ++ p ∷ [] → spread script outer' ≡ p.kind ∷ spread inner outer → length outer' ≡ height_before p.kind (length outer) → IsPut all parts script outer'
next_put all old parts p inner script outer outer' whole e here was put high =
    let stands = next_stands all old parts p inner outer whole e here was in
    record {
      whole = ap (λ t. kinds parts ++ t) put ∙ kinds_moved all old parts p (spread inner outer) e was;
      closed = subst (λ t. IsBalanced t (length outer')) (sym put) (subst (λ n. IsBalanced (p.kind ∷ spread inner outer) n) (sym high) stands.balanced);
    }

pub ruleset spreads = (spread_close, spread_open)
