-- One round more behind others, and where rounds end.
use Rattle.std.proofs.Common.{◌∙◌, ℕ, zero, suc, ◌+◌, ◌<◌, List, [], ◌++◌, refl, sym, ap, subst, append_assoc, add-one}
use Rattle.std.proofs.lemmas.List.{append-nil}
use Rattle.mv_entry.specs.Entries.{Entry}
use Rattle.mv_net.specs.declared.parts.NetParts.{NetParts}
use Rattle.mv_pass.specs.Courses.{Course, InTurn, Rounds}
use Rattle.mv_script_run.specs.Runs.{Gains, GainsNot, RunsBetter, StopsRepeat, StopsBetter}

push : (Round : Course) (n : ℕ) (a b c : NetParts) (xs ys : List Entry) → Rounds n Round a xs b → Round b ys c → Rounds (suc n) Round a (xs ++ ys) c
push Round zero a b c xs ys (none, same) round = record {
  mid = c;
  front = ys;
  rest = [];
  first = subst (λ m. Round m ys c) same round;
  second = (refl, refl);
  entries_are = ap (λ z. z ++ ys) none ∙ sym (append-nil ys);
}
push Round (suc n) a b c xs ys p round = record {
  mid = p.mid;
  front = p.front;
  rest = p.rest ++ ys;
  first = p.first;
  second = push Round n p.mid b c p.rest ys p.second round;
  entries_are = ap (λ z. z ++ ys) p.entries_are ∙ append_assoc p.front p.rest ys;
}

pub rounds_push : (Round : Course) (n : ℕ) (a b c : NetParts) (xs ys : List Entry) → Rounds n Round a xs b → Round b ys c → Rounds (n + 1) Round a (xs ++ ys) c
rounds_push Round n a b c xs ys p round = subst (λ m. Rounds m Round a (xs ++ ys) c) (sym (add-one n)) (push Round n a b c xs ys p round)

-- some rounds that each end with fewer literals than they began with
pub record HasGained (Round : Course) (old : NetParts) (entries : List Entry) (new : NetParts) : Type 0 where
  pub gained : ℕ
  pub rounds : Rounds gained (Gains Round) old entries new

module _ (Round Stops : Course) (a b c : NetParts) (xs ys : List Entry) where
  behind : (First Second : Course) → First a xs b → Second b ys c → InTurn First Second a (xs ++ ys) c
  behind First Second first second = record { mid = b; front = xs; rest = ys; first = first; second = second; entries_are = refl }

  pub gained_more : HasGained Round a xs b → Gains Round b ys c → HasGained Round a (xs ++ ys) c
  gained_more p g = record { gained = suc p.gained; rounds = push (Gains Round) p.gained a b c xs ys p.rounds g }

  pub gained_last : HasGained Round a xs b → GainsNot Round b ys c → RunsBetter Round a (xs ++ ys) c
  gained_last p g =
      record { gained = p.gained; rounds = behind (Rounds p.gained (Gains Round)) (GainsNot Round) p.rounds g }

  pub gained_stops : HasGained Round a xs b → Stops b ys c → StopsBetter Round Stops a (xs ++ ys) c
  gained_stops p s = record { gained = p.gained; rounds = behind (Rounds p.gained (Gains Round)) Stops p.rounds s }

  pub rounds_stop : (n times : ℕ) → n < times → Rounds n Round a xs b → Stops b ys c → StopsRepeat times Round Stops a (xs ++ ys) c
  rounds_stop n times fewer p s = record { whole = n; fewer = fewer; rounds = behind (Rounds n Round) Stops p s }
