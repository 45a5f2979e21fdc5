-- Names in the whole that were found. For private functions.
use Rattle.std.specs.Prelude.{◌≡◌, ℕ, Option, Some, None, List, slice_index_or}
use Rattle.mv_unfold.specs.declared.recent.Found.{Found}

-- each name that was found is that of a place's net in the whole
pub record AreHomes (home : ℕ → List ℕ → List ℕ) (slots : List (Option Found)) : Type 0 where
  pub each : (k : ℕ) (f : Found) → slice_index_or slots k None ≡ Some f
      → f.home ≡ home f.place f.net
