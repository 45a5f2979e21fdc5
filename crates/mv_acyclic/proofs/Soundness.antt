-- What is told where something is above itself, or a latch above a reset value, and models that are sound.
use Rattle.std.proofs.Common.{◌≡◌, ◌⊎◌, ℕ, ◌<◌, true, List, ◌∷◌, ◌++◌, length, All, refl, sym, ◌∙◌, ap, subst, arith}
use Rattle.std.specs.Prelude.{Result, Ok, Err, IfErr}
use Rattle.std.proofs.lemmas.Bool.{or_cases, or_left, or_right}
use Rattle.std.proofs.lemmas.List.{get_or_at, length-append}
use Rattle.std.proofs.lemmas.List.Elements.{All-get_or, All-same}
use Rattle.mv_base.specs.Names.{among}
use Rattle.mv_base.proofs.NameLemmas.{same_word_refl, among-append}
use Rattle.mv_design.specs.declared.table.FileTable.{FileTable}
use Rattle.mv_design.specs.declared.design.FileModel.{FileModel}
use Rattle.mv_fault.specs.declared.flat.FlatFault.{FlatFault}
use Rattle.mv_fault.specs.declared.flat.FlatFault.TheVariants.{Cycle, ResetReadsLatch, Memory}
use Rattle.mv_graph.specs.Above.{IsAcyclic}
use Rattle.mv_acyclic.specs.Alone.{TellsAlone}
use Rattle.mv_acyclic.specs.Sound.{reads, StandsAlone, IsFirstReading, IsSoundModel, TellsAbove}

-- ---- names in parts of lists

pub in_left : (w : List ℕ) (us ws : List (List ℕ)) → among w us ≡ true → among w (us ++ ws) ≡ true
in_left w us ws e = among-append w us ws ∙ or_left _ _ e

pub in_right : (w : List ℕ) (us ws : List (List ℕ)) → among w ws ≡ true → among w (us ++ ws) ≡ true
in_right w us ws e = among-append w us ws ∙ or_right (among w us) _ e

pub in_either : (w : List ℕ) (us ws : List (List ℕ)) → among w (us ++ ws) ≡ true → (among w us ≡ true) ⊎ (among w ws ≡ true)
in_either w us ws e = or_cases _ _ (sym (among-append w us ws) ∙ e)

-- ---- what is told

fault_above : (order : List (List ℕ)) (m : FileModel) (f : FlatFault) → IsAcyclic (reads m) → TellsAlone m f → TellsAbove order m f
fault_above order m (ResetReadsLatch latch reached) a t = (a, t)
fault_above order m Memory a t = tt
fault_above order m _ a t = absurd t

-- where there is no cycle, what is told of the reset values is what is told
pub alone_told : {T : Type 0} (order : List (List ℕ)) (m : FileModel) (result : Result T FlatFault) → IsAcyclic (reads m)
    → IfErr result (λ f. TellsAlone m f) → IfErr result (λ f. TellsAbove order m f)
alone_told order m (Ok x) a t = tt
alone_told order m (Err f) a t = fault_above order m f a t

-- ---- a model of which something is told isn't sound

-- no reset table of a sound model has a latch above its reset value
pub stands_alone : (m : FileModel) (latch reached : List ℕ) → All (StandsAlone m) m.resets → IsFirstReading m latch reached → ⊥
stands_alone m latch reached all r =
    let listed : length r.before < length (r.before ++ r.reset ∷ r.after) = omega (arith, length-append r.before (r.reset ∷ r.after)) in
    let alone = All-get_or (StandsAlone m) _ (length r.before) r.reset listed
    (All-same (StandsAlone m) (r.before ++ r.reset ∷ r.after) m.resets (sym r.place) all) in
    let P : FileTable → Type 0 = StandsAlone m in
    subst P (get_or_at r.before r.reset r.after r.reset (length r.before) refl) alone reached
    (ap (among reached) r.listed ∙ in_right reached r.lower _ (or_left _ _ (same_word_refl reached))) r.above

-- a model of which something else than want of memory is told isn't sound
pub above-excludes : (order : List (List ℕ)) (m : FileModel) (f : FlatFault) → TellsAbove order m f → (f ≡ Memory → ⊥) → IsSoundModel m → ⊥
above-excludes order m (Cycle net) h n s = s.acyclic.none net h.cycle
above-excludes order m (ResetReadsLatch latch reached) h n s = stands_alone m latch reached s.alone h.1
above-excludes order m Memory h n s = n refl
above-excludes order m _ h n s = absurd h
