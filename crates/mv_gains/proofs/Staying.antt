-- What is known of candidates stays known where the table of none of the nets' readers changes.
use Rattle.std.proofs.Common.{◌≡◌, ℕ, zero, suc, ◌+◌, ◌-◌, ◌^◌, ◌<◌, List, [], ◌∷◌, ◌++◌, length, set, get_or, All, inl, inr, refl, sym, subst, arith}
use Rattle.std.proofs.Math.ListN.{get_or-append}
use Rattle.std.proofs.Math.Seq.{get_or-append_seam}
use Rattle.std.proofs.lemmas.Bool.{cases_eq, cases_lt}
use Rattle.std.proofs.lemmas.List.{length-append, get_or_past}
use Rattle.std.proofs.lemmas.List.Elements.{All-get_or}
use Rattle.mv_cover.specs.Literal.{Lit}
use Rattle.mv_divide.specs.declared.part.Part.{Part}
use Rattle.mv_saving.specs.Saving.{AreCubes}
use Rattle.mv_gains.specs.declared.kernels.Candidate.{Candidate}
use Rattle.mv_gains.specs.Gains.{IsSum}
use Rattle.mv_gains.specs.Known.{ArePartsOn, IsKnown, IsMarked, IsOn, IsRight, StaysRight, stamp_at}
use Rattle.mv_gains.specs.Tables.{IsPartsSaving, IsReady}
use Rattle.mv_gains.proofs.Savings.{parts_once, ready_cubes, table_cases}
use Rattle.mv_gains.proofs.Sums.{sum_push}

-- one of the list is put anew, with what it had
sum_set : {X : Type 0} (Is : X → ℕ → Type 0) (xs : List X) (n : ℕ) (y d : X) (total : ℕ) → n < length xs → ((m : ℕ) → Is (get_or xs n d) m → Is y m) → IsSum Is xs total → IsSum Is (set xs n y) total
sum_set Is [] n y d total low f s = absurd (omega arith)
sum_set Is (x ∷ xs) zero y d total low f s = record { first = s.first; is = f s.first s.is; rest = s.rest; others = s.others; sum = s.sum }
sum_set Is (x ∷ xs) (suc n) y d total low f s =
    record { first = s.first; is = s.is; rest = s.rest; others = sum_set Is xs n y d s.rest (omega arith) f s.others; sum = s.sum }

-- a table without a literal on the net saves nothing
saves_none : (divisor : List (List Lit)) (parts : List Part) (key : ℕ) → IsOn divisor key → (ArePartsOn parts key → ⊥) → IsPartsSaving divisor parts 0
saves_none divisor parts key on none =
    elim (table_cases divisor on.from on.is.from parts on.there on.is.there) [
      | inl has ↦
          absurd
          (none (record {
            from = has.part;
            there = has.there;
            is = record { from = has.cube; there = has.held; is = record { from = on.is.from; there = has.has; is = on.is.is } };
          }))
      | inr nothing ↦ nothing
    ]

-- the covers of a table are put anew, and the nets on which they have literals, before or now, are marked
pub stays_put : (now : ℕ) (tables : List (List Part)) (n : ℕ) (parts : List Part) (before mid after : List ℕ) → n < length tables → All IsReady tables → IsMarked now (ArePartsOn (get_or tables n [])) before mid → IsMarked now (ArePartsOn parts) mid after → StaysRight now tables before (set tables n parts) after
stays_put now tables n parts before mid after low ready one two = record { each = λ c r. record { past = r.past; known = λ fresh. known c r fresh } }
  where
    known : (c : Candidate) → IsRight tables before now c → stamp_at after c.key.0 < c.seen → IsKnown (set tables n parts) c
    known c r fresh =
        let key = c.key.0 in
        let early : stamp_at after key < now = omega (arith, fresh, r.past) in
        let same : stamp_at after key ≡ stamp_at mid key = elim (two.each key) [ inl e ↦ e | inr late ↦ absurd (omega (arith, late, early)) ] in
        let was : stamp_at mid key ≡ stamp_at before key = elim (one.each key) [ inl e ↦ e | inr late ↦ absurd (omega (arith, late, early, same)) ] in
        let k = r.known (omega (arith, fresh, same, was)) in
        let off : ArePartsOn (get_or tables n []) key → ⊥ = λ on. let late = one.all key on in absurd (omega (arith, late, early, same)) in
        let gone : ArePartsOn parts key → ⊥ = λ on. let late = two.all key on in absurd (omega (arith, late, early)) in
        let cubes : AreCubes c.kernel.cubes = record { formed = k.divisor.formed; distinct = k.divisor.distinct } in
        let old_none = saves_none c.kernel.cubes (get_or tables n []) key k.on off in
        let new_none = saves_none c.kernel.cubes parts key k.on gone in
        record {
          divisor = k.divisor;
          on = k.on;
          saved = record {
            gain = k.saved.gain;
            is =
                sum_set (IsPartsSaving c.kernel.cubes) tables n parts [] k.saved.gain low
                (λ m h.
                let none = parts_once c.kernel.cubes (get_or tables n []) m 0 (ready_cubes (get_or tables n []) (All-get_or IsReady tables n [] low ready)) cubes h old_none in
                subst (IsPartsSaving c.kernel.cubes parts) (sym none) new_none) k.saved.is;
            less = k.saved.less;
          };
        }

-- an empty table comes
pub stays_grown : (now : ℕ) (tables : List (List Part)) (before : List ℕ) → StaysRight now tables before (tables ++ [] ∷ []) (before ++ now ∷ [])
stays_grown now tables before = record { each = λ c r. record { past = r.past; known = λ fresh. known c r fresh } }
  where
    long : length (before ++ now ∷ []) ≡ length before + 1
    long = length-append before (now ∷ [])

    known : (c : Candidate) → IsRight tables before now c → stamp_at (before ++ now ∷ []) c.key.0 < c.seen → IsKnown (tables ++ [] ∷ []) c
    known c r fresh =
        let key = c.key.0 in
        let fresh_before : stamp_at before key < c.seen =
        elim (cases_lt key (length before)) [
          | inl low ↦ let e = get_or-append before (now ∷ []) (2 ^ 64 - 1) key low in omega (arith, e, fresh)
          | inr past ↦
              elim (cases_eq key (length before)) [
                | inl at ↦
                    let e : stamp_at (before ++ now ∷ []) key ≡ now = subst (λ k. stamp_at (before ++ now ∷ []) k ≡ now) (sym at) (get_or-append_seam before now [] (2 ^ 64 - 1)) in
                    absurd (omega (arith, e, fresh, r.past))
                | inr off ↦
                    let e : stamp_at (before ++ now ∷ []) key ≡ 2 ^ 64 - 1 = get_or_past (before ++ now ∷ []) key (2 ^ 64 - 1) (omega (arith, long, past, off)) in
                    let f : stamp_at before key ≡ 2 ^ 64 - 1 = get_or_past before key (2 ^ 64 - 1) past in
                    omega (arith, e, f, fresh)
              ]
        ] in
        let k = r.known fresh_before in
        record {
          divisor = k.divisor;
          on = k.on;
          saved = record {
            gain = k.saved.gain + 0;
            is = sum_push (IsPartsSaving c.kernel.cubes) tables [] k.saved.gain 0 k.saved.is refl;
            less = omega (arith, k.saved.less);
          };
        }

pub stays_then : (now : ℕ) (a b c : List (List Part)) (x y z : List ℕ) → StaysRight now a x b y → StaysRight now b y c z → StaysRight now a x c z
stays_then now a b c x y z p q = record { each = λ k r. q.each k (p.each k r) }
