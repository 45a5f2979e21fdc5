-- The parts of tokens, token by token.
use Rattle.std.proofs.Common.{◌≡◌, ℕ, Result, Ok, Err, Option, Some, None, List, [], ◌∷◌, ◌++◌, refl, sym, ◌∙◌, ap, append_assoc}
use Rattle.std.proofs.lemmas.List.{append-nil}
use Rattle.mv_script.specs.declared.fault.TextFault.{TextFault}
use Rattle.mv_script.specs.declared.part.Part.{Part}
use Rattle.mv_script.specs.declared.token.Token.{Token}
use Rattle.mv_script.specs.declared.turn.State.{State}
use Rattle.mv_script.specs.declared.turn.Turn.{Turn}
use Rattle.mv_script.specs.Reading.{turn_at, before, all_before, behind_part, after_turn, parts_from}

-- nothing before all is all
pub none_before : (r : Result (List Part) TextFault) → r ≡ all_before [] r
none_before (Ok parts) = refl
none_before (Err f) = refl

before_all : (front : List Part) (part : Option Part) (r : Result (List Part) TextFault) → all_before front (behind_part part r) ≡ all_before (front ++ before part []) r
before_all front None (Ok parts) = ap (λ t. Ok (t ++ parts)) (sym (append-nil front))
before_all front (Some part) (Ok parts) = ap Ok (sym (append_assoc front (part ∷ []) parts))
before_all front part (Err f) = refl

-- a token was read
pub read_on : (end : ℕ) (front : List Part) (s : State) (t : Token) (ts : List Token) (turn : Turn) → turn_at s t ≡ Ok turn → all_before front (parts_from end (t ∷ ts) s) ≡ all_before (front ++ before turn.part []) (parts_from end ts turn.state)
read_on end front s t ts turn e =
    ap (λ r. all_before front (after_turn r (parts_from end ts))) e ∙ before_all front turn.part (parts_from end ts turn.state)

-- a token is at fault
pub read_fault : (end : ℕ) (front : List Part) (s : State) (t : Token) (ts : List Token) (f : TextFault) → turn_at s t ≡ Err f → all_before front (parts_from end (t ∷ ts) s) ≡ Err f
read_fault end front s t ts f e = ap (λ r. all_before front (after_turn r (parts_from end ts))) e

pub ruleset reads = (none_before, read_on, read_fault)
