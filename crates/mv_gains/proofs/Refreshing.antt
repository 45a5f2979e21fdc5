-- What the candidates save is worked out, one after another.
use Rattle.std.proofs.Common.{◌≡◌, ◌∙◌, ℕ, ◌+◌, ◌<◌, Option, List, length, map, take, set, get_or, All, Contains, sym, ap, subst, arith, add-one}
use Rattle.std.proofs.Math.Seq.{take-suc-set}
use Rattle.std.proofs.lemmas.List.{map-set, set-get_or, length-map, get_or-map}
use Rattle.std.proofs.lemmas.List.Elements.{All-push, All-contains}
use Rattle.mv_cover.specs.Literal.{Lit}
use Rattle.mv_divide.specs.declared.part.Part.{Part}
use Rattle.mv_net.specs.declared.parts.FlatNet.{FlatNet}
use Rattle.mv_net.specs.declared.parts.NetParts.{NetParts}
use Rattle.mv_net.specs.Formed.{WellFormed}
use Rattle.mv_gains.specs.Candidates.{IsDivisorFor, StandsIn}
use Rattle.mv_gains.specs.declared.kernels.Candidate.{Candidate}
use Rattle.mv_gains.specs.Known.{AreHeld, IsKnown, standing}
use Rattle.mv_gains.proofs.Readers.{stands_held}

set_same : {X : Type 0} (xs : List X) (i : ℕ) (x : X) → i < length xs → x ≡ get_or xs i x → set xs i x ≡ xs
set_same xs i x low at = ap (set xs i) at ∙ set-get_or xs i x

same_standing : (a b : Candidate) → a.kernel ≡ b.kernel → a.table ≡ b.table → standing a ≡ standing b
same_standing a b k t = λ i. record { kernel = k i; table = t i }

-- the candidates stand as they did
pub standing_more : (first list : List Candidate) (i : ℕ) (old new : Candidate) → i < length list → old ≡ get_or list i old → new.kernel ≡ old.kernel → new.table ≡ old.table → map standing list ≡ map standing first → map standing (set list i new) ≡ map standing first
standing_more first list i old new low at kernel table same =
    map-set standing list i new ∙
    (ap (set (map standing list) i) (same_standing new old kernel table) ∙
    (set_same (map standing list) i (standing old) (omega (arith, low, length-map list standing))
    (ap standing at ∙ sym (get_or-map standing list i old (standing old) low)) ∙ same))

pub known_more : (tables : List (List Part)) (list : List Candidate) (i : ℕ) (new : Candidate) → i < length list → All (IsKnown tables) (take i list) → IsKnown tables new → All (IsKnown tables) (take (i + 1) (set list i new))
known_more tables list i new low known here =
    subst (All (IsKnown tables)) (sym (ap (λ k. take k (set list i new)) (add-one i) ∙ take-suc-set list i new low))
    (All-push (IsKnown tables) (take i list) new known here)

-- the first cube has literals, and their nets are held
pub record IsFirst (nets : List (Option FlatNet)) (first : List Lit) : Type 0 where
  pub some : 0 < length first
  pub held : All (AreHeld nets) first

pub first_is : (net : NetParts) (divisor : List (List Lit)) (first : List Lit) → WellFormed net → IsDivisorFor net.nets divisor → Contains divisor first → IsFirst net.nets first
first_is net divisor first formed d i = record {
  some = All-contains (λ (c : List Lit). 0 < length c) divisor first d.literals i;
  held = stands_held net first formed (All-contains (StandsIn net.nets) divisor first d.stand i);
}
