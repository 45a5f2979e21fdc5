-- A line that is told behind a text.
use Rattle.std.proofs.Common.{◌≡◌, ℕ, ◌≤◌, List, [], ◌++◌, Option, Some, None, inl, inr, subst, arith, ⊎_elim}
use Rattle.std.specs.Prelude.{IfSome}
use Rattle.mv_base.specs.Outside.{Written, Gained, GainedFront, GainedPart, Rose}
use Rattle.mv_base.proofs.Gains.{Gained-none, Gained-then}
use Rattle.mv_base.proofs.OutsideLemmas.{Rose-earlier}
use Rattle.mv_task.specs.Lines.{TellsLine, TellsBehind}

-- a part of a line stands behind what was gained before
front_behind : (o m n : Option (List ℕ)) (text line : List ℕ) → IfSome o (λ had. m ≡ Some (had ++ text)) → IfSome m (λ had. GainedFront had n line) → IfSome o (λ had. GainedFront (had ++ text) n line)
front_behind None m n text line g h = tt
front_behind (Some o) m n text line g h =
    let P : Option (List ℕ) → Type 0 = λ z. IfSome z (λ had. GainedFront had n line) in
    subst P g h

-- behind a text that was gained
pub TellsBehind-from : (notes mid notes' : Written) (text line : List ℕ) → Gained notes mid text → notes.faults ≤ mid.faults → TellsLine mid notes' line → TellsBehind notes notes' text line
TellsBehind-from notes mid notes' text line g later t = record {
  how =
      ⊎_elim
      (λ (all : Gained mid notes' line). inl (Gained-then notes mid notes' text line g all))
      (λ (part : GainedPart mid notes' line × Rose mid.faults notes'.faults).
      inr (front_behind notes.told mid.told notes'.told text line g part.0, Rose-earlier notes.faults mid.faults notes'.faults later part.1))
      t;
}

-- behind nothing
pub TellsBehind-nothing : (notes notes' : Written) (line : List ℕ) → TellsLine notes notes' line → TellsBehind notes notes' [] line
TellsBehind-nothing notes notes' line t = TellsBehind-from notes notes notes' [] line (Gained-none notes) (omega arith) t
