-- Files that are read piece by piece, whether they tell their contents or not.
use Rattle.std.proofs.Common.{◌≡◌, ℕ, ◌+◌, ◌<◌, ◌≤◌, true, false, List, [], ◌++◌, length, take, Option, Some, None, Result, Ok, refl, sym, ◌∙◌, ap, subst, arith, append_assoc, length-append, ◌-◌}
use Rattle.std.specs.Prelude.{nat_lt, IsTrue, IfSome}
use Rattle.std.proofs.lemmas.Bool.{ltb-true, ltb-false}
use Rattle.std.proofs.lemmas.List.{length-take-le}
use Rattle.mv_base.specs.declared.outside.Failed.{Failed}
use Rattle.mv_base.specs.Outside.{Held, Stored, file_named, Still, Begins, Continues}
use Rattle.mv_files.specs.FileReading.{StaySame, Stay, Lacks}
use Rattle.mv_files.specs.Pieces.{Passed, Ended, Unsound, GotPiece, ReadOn}

-- a file is begun, and bytes are given, where the files tell of themselves
abbrev pub Starts : Option Held → Option Held → List ℕ → Result (Unit {0}) Failed → Type 0
Starts old new name result = Still old new (λ o n. Begins o n name result)

abbrev pub Gives : Option Held → Option Held → List ℕ → Result ℕ Failed → Type 0
Gives old new room result = Still old new (λ o n. Continues o n room result)

-- ---- nothing was read, and then one piece more

pub passed_nothing : (h : Option Held) → Passed h h []
passed_nothing None = tt
passed_nothing (Some h) = record { files = refl; current = refl; sound = λ s. s; passed = refl }

pub passed_more : (a b c : Option Held) (xs ys : List ℕ) → Passed a b xs → Passed b c ys → Passed a c (xs ++ ys)
passed_more None b c xs ys p q = tt
passed_more (Some a) None c xs ys p q = absurd p
passed_more (Some a) (Some b) None xs ys p q = absurd q
passed_more (Some a) (Some b) (Some c) xs ys p q =
    record {
      files = q.files ∙ p.files;
      current = q.current ∙ p.current;
      sound = λ s. q.sound (p.sound s);
      passed = p.passed ∙ (ap (λ r. xs ++ r) q.passed ∙ sym (append_assoc xs ys c.rest));
    }

-- ---- files that stay

same_passed : (a b : Option Held) (xs : List ℕ) → Passed a b xs → Still a b StaySame
same_passed None b xs p = tt
same_passed (Some a) None xs p = absurd p
same_passed (Some a) (Some b) xs p = record { files = p.files; sound = p.sound }

pub stay_passed : (a b : Stored) (xs : List ℕ) → Passed a.held b.held xs → a.faults ≤ b.faults → Stay a b
stay_passed a b xs p later = record { same = same_passed a.held b.held xs p; later = later }

pub stay_started : (old new : Option Held) (name : List ℕ) (result : Result (Unit {0}) Failed) → Starts old new name result → Still old new StaySame
stay_started None new name result s = tt
stay_started (Some o) None name result s = absurd s
stay_started (Some o) (Some n) name result s = record { files = s.files; sound = s.sound }

-- ---- failures

pub unsound_earlier : (a b : Option Held) → Still a b StaySame → Unsound b → Unsound a
unsound_earlier None b p u = tt
unsound_earlier (Some a) None p u = absurd p
unsound_earlier (Some a) (Some b) p u = λ s. u (p.sound s)

lacked : (old : Option Held) (name : List ℕ) → Unsound old → IfSome old (λ h. IsTrue h.sound → file_named name h.files ≡ None)
lacked None name u = tt
lacked (Some o) name u = λ t. absurd (u t)

pub lacks_unsound : (old : Stored) (name : List ℕ) → Unsound old.held → Lacks old name
lacks_unsound old name u = lacked old.held name u

-- ---- a piece

nothing_taken : (xs room rest : List ℕ) (n : ℕ) → xs ≡ take n room ++ rest → n ≡ 0 → xs ≡ [] → rest ≡ []
nothing_taken xs room rest n e z none =
    let P : ℕ → Type 0 = λ k. xs ≡ take k room ++ rest in sym (subst P z e) ∙ none

pub ended_given : (old new : Option Held) (room : List ℕ) (n : ℕ) → Gives old new room (Ok n) → n ≡ 0 → 0 < length room → Ended old new
ended_given None new room n s z h = tt
ended_given (Some o) None room n s z h = absurd s
ended_given (Some o) (Some new) room n s z h = nothing_taken o.rest room new.rest n s.given z (s.ended z h)

pub passed_given : (old new : Option Held) (room : List ℕ) (n : ℕ) → Gives old new room (Ok n) → Passed old new (take n room)
passed_given None new room n s = tt
passed_given (Some o) None room n s = absurd s
passed_given (Some o) (Some new) room n s =
    record { files = s.files; current = s.current; sound = s.sound; passed = s.given }

pub is_none : (n : ℕ) → nat_lt 0 n ≡ false → n ≡ 0
is_none n e = let h : n ≤ 0 = ltb-false 0 n e in omega arith

pub got_piece : (old new : Option Held) (room before after : List ℕ) (most n : ℕ) → Gives old new room (Ok n) → n ≤ length room → length room ≡ most → 0 < most → after ≡ before ++ take n room → GotPiece old new before after most (nat_lt 0 n)
got_piece old new room before after most n given fits long some added =
    let size : length (take n room) ≡ n = length-take-le n room fits in
    record {
      piece = take n room;
      added = added;
      few = omega arith;
      some = λ e. let h : 0 < n = ltb-true 0 n e in omega arith;
      ended = λ e. ended_given old new room n given (is_none n e) (omega arith);
      passed = passed_given old new room n given;
    }

-- ---- the whole file

pub ended_earlier : (a b c : Option Held) (xs : List ℕ) → Passed a b xs → Ended b c → Ended a c
ended_earlier None b c xs p q = tt
ended_earlier (Some a) None c xs p q = absurd p
ended_earlier (Some a) (Some b) None xs p q = absurd q
ended_earlier (Some a) (Some b) (Some c) xs p q = q

-- the state of the loop: so much was read since it began
pub record HasCome (before now : Option Held) (limit turn : ℕ) (bytes : List ℕ) : Type 0 where
  pub passed : Passed before now bytes
  pub far : turn ≤ length bytes
  pub near : length bytes ≤ limit + 1

-- a piece more was read behind them, or nothing was left
pub come_more : (a b c : Option Held) (limit turn most : ℕ) (old new : List ℕ) → HasCome a b limit turn old → GotPiece b c old new most true → most ≤ limit + 1 - length old → HasCome a c limit (turn + 1) new
come_more a b c limit turn most old new h g fits =
    let size : length new ≡ length old + length g.piece = ap length g.added ∙ length-append old g.piece in
    let some : 0 < length g.piece = g.some refl in
    record {
      passed = let P : List ℕ → Type 0 = λ x. Passed a c x in subst P (sym g.added) (passed_more a b c old g.piece h.passed g.passed);
      far = omega (arith, h.far);
      near = omega (arith, h.near, g.few);
    }

pub read_ended : (a b c : Option Held) (limit turn most : ℕ) (old new : List ℕ) → HasCome a b limit turn old → GotPiece b c old new most false → most ≤ limit + 1 - length old → ReadOn a c limit new
read_ended a b c limit turn most old new h g fits =
    let size : length new ≡ length old + length g.piece = ap length g.added ∙ length-append old g.piece in
    record {
      passed = let P : List ℕ → Type 0 = λ x. Passed a c x in subst P (sym g.added) (passed_more a b c old g.piece h.passed g.passed);
      few = omega (arith, h.near, g.few);
      ended = λ _. ended_earlier a b c old h.passed (g.ended refl);
    }
