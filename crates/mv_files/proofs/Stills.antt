-- Files that tell of themselves before and after a call, and what is so between the two.
use Rattle.std.proofs.Common.{Option, Some, None}
use Rattle.std.specs.Prelude.{IfSome}
use Rattle.mv_base.specs.Outside.{Held, Still}

module _ (P : Held → Held → Type 0) where
  -- something else is so too
  pub still_so : (Q : Held → Held → Type 0) (old new : Option Held) → ((b a : Held) → P b a → Q b a) → Still old new P → Still old new Q
  still_so Q None new f s = tt
  still_so Q (Some b) None f s = absurd s
  still_so Q (Some b) (Some a) f s = f b a s

  -- something is so of the files before
  pub still_before : (Q : Held → Type 0) (old new : Option Held) → ((b a : Held) → P b a → Q b) → Still old new P → IfSome old Q
  still_before Q None new f s = tt
  still_before Q (Some b) None f s = absurd s
  still_before Q (Some b) (Some a) f s = f b a s

  -- what is so of the files after tells of those before
  pub still_earlier : (Q R : Held → Type 0) (old new : Option Held) → ((b a : Held) → P b a → Q a → R b) → Still old new P → IfSome new Q → IfSome old R
  still_earlier Q R None new f s q = tt
  still_earlier Q R (Some b) None f s q = absurd s
  still_earlier Q R (Some b) (Some a) f s q = f b a s q

  -- and behind one call another one
  pub still_then : (Q R : Held → Held → Type 0) (a b c : Option Held) → ((x y z : Held) → P x y → Q y z → R x z) → Still a b P → Still b c Q → Still a c R
  still_then Q R None b c f p q = tt
  still_then Q R (Some x) None c f p q = absurd p
  still_then Q R (Some x) (Some y) None f p q = absurd q
  still_then Q R (Some x) (Some y) (Some z) f p q = f x y z p q
