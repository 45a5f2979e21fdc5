-- A text on its way to a sink: what the sink took, and what is held back to come behind it.
use Rattle.std.specs.Prelude.{◌≡◌, ℕ, List, [], ◌++◌, Some, Result, IfSome, OnOk, OnErr}
use Rattle.mv_base.specs.declared.outside.Failed.{Failed}
use Rattle.mv_base.specs.Outside.{Written, GainedPart, HasCause}

-- a sink, and the bytes that are held back to come behind what it took
pub record Paged : Type 0 where
  pub sink : Written
  pub held : List ℕ

abbrev pub paged : Written → List ℕ → Paged
paged sink held = record { sink = sink; held = held }

-- a sink that had some bytes has taken more, and these with what is held now are what was held
-- before and the piece
pub record Took (had : List ℕ) (old new : Paged) (piece : List ℕ) : Type 0 where
  pub taken : List ℕ
  pub told : new.sink.told ≡ Some (had ++ taken)
  pub whole : taken ++ new.held ≡ old.held ++ piece

-- a call adds a piece to the text: at Ok it is held back or taken, behind all that was before it,
-- where the sink tells its bytes; else the sink took some first part of what was held and the
-- piece, its count of faults rose, and nothing is held any more
pub record AddsPiece (old new : Paged) (piece : List ℕ) (result : Result (Unit {0}) Failed)
    : Type 0 where
  pub ok : OnOk result (IfSome old.sink.told (λ had. Took had old new piece))
  pub part : OnErr result (GainedPart old.sink new.sink (old.held ++ piece))
  pub empty : OnErr result (new.held ≡ [])
  pub cause : HasCause old.sink.faults new.sink.faults result
