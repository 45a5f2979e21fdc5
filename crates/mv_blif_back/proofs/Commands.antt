-- What the lines of a text are, and what is said of a latch.
use Rattle.std.proofs.Common.{◌≡◌, ℕ, ◌<◌, zero, suc, Bool, true, false, not, ◌==◌, List, [], ◌∷◌, ◌++◌, map, codes, decimal, Option, Some, None, refl, ap, arith}
use Rattle.std.proofs.lemmas.Bool.{cond-false, cond-true, and_right, not-true}
use Rattle.std.proofs.lemmas.Fmt.{decimal_digit}
use Rattle.mv_base.specs.Names.{same_word, begins_with}
use Rattle.mv_cover.specs.Literal.{Lit}
use Rattle.mv_latch.specs.declared.latch.LatchKind.{LatchKind}
use Rattle.mv_latch.specs.declared.latch.LatchKind.TheVariants.{Fe, Re, Ah, Al, As}
use Rattle.mv_latch.specs.declared.latch.BlifLatch.{BlifLatch}
use Rattle.mv_line.specs.Words.{first_of}
use Rattle.mv_net.specs.declared.parts.FlatLatch.{FlatLatch}
use Rattle.mv_net.specs.declared.parts.NetParts.{NetParts}
use Rattle.mv_blif_line.specs.declared.command.Command.TheVariants.{Model, Inputs, Outputs, Names, Latch, Row, End}
use Rattle.mv_blif_line.specs.Commands.{command_of}
use Rattle.mv_blif_line.specs.Latches.{kind_of, init_of, kind_faults, init_faults, settings_faults, control_of, init_said, settings_of}
use Rattle.mv_blif_text.specs.BlifText.{plane_byte, row_words, digit_of, kind_word, control_word, kind_words}
use Rattle.mv_blif_back.specs.Said.{IsSaid}
use Rattle.mv_blif_back.proofs.Planes.{plane-byte, plane-pass}

pub command-model : command_of (codes ".model") ≡ Model
unfolding command_of
command-model = refl

pub command-inputs : command_of (codes ".inputs") ≡ Inputs
unfolding command_of
command-inputs = refl

pub command-outputs : command_of (codes ".outputs") ≡ Outputs
unfolding command_of
command-outputs = refl

pub command-names : command_of (codes ".names") ≡ Names
unfolding command_of
command-names = refl

pub command-latch : command_of (codes ".latch") ≡ Latch
unfolding command_of
command-latch = refl

pub command-end : command_of (codes ".end") ≡ End
unfolding command_of
command-end = refl

-- a word that doesn't begin with a full stop begins a row
row_command : (w : List ℕ) → begins_with 46 w ≡ false → command_of w ≡ Row
unfolding command_of
row_command w e = cond-true (not (begins_with 46 w)) _ _ (ap not e)

pub command-row : (fanins : List ℕ) (b : Bool) (cube : List Lit) → command_of (first_of (row_words fanins (digit_of b) cube)) ≡ Row
command-row [] true cube = row_command (codes "1") refl
command-row [] false cube = row_command (codes "0") refl
command-row (m ∷ ms) b cube =
    let other : not (plane_byte cube m == 46) ≡ true = plane-pass (λ c. not (c == 46)) refl refl refl (plane_byte cube m) (plane-byte cube m) in
    row_command (map (plane_byte cube) (m ∷ ms)) (and_right _ (plane_byte cube m == 46) (not-true _ other))

-- ---- what is said of a latch

kind_back : (k : LatchKind) → kind_of (kind_word k) ≡ Some k
unfolding kind_of
kind_back Fe = refl
kind_back Re = refl
kind_back Ah = refl
kind_back Al = refl
kind_back As = refl

init_back : (n : ℕ) → n < 4 → init_of (decimal n) ≡ Some n
unfolding init_of
init_back zero low = ap init_of (decimal_digit 0 (omega arith))
init_back (suc zero) low = ap init_of (decimal_digit 1 (omega arith))
init_back (suc (suc zero)) low = ap init_of (decimal_digit 2 (omega arith))
init_back (suc (suc (suc zero))) low = ap init_of (decimal_digit 3 (omega arith))
init_back (suc (suc (suc (suc n)))) low = absurd (omega (arith, low))

said_back : (n : ℕ) → n < 4 → init_said (decimal n) ≡ n
unfolding init_said
said_back n low = rw (init_back n low) refl

no_control : control_of (codes "NIL") ≡ None
unfolding control_of
no_control = refl

control_back : (o : Option (List ℕ)) → ((w : List ℕ) → o ≡ Some w → same_word w (codes "NIL") ≡ false) → control_of (control_word o) ≡ o
unfolding control_of
control_back None plain = no_control
control_back (Some w) plain = cond-false (same_word w (codes "NIL")) None (Some w) (plain w refl)

module _ (net : NetParts) (l : FlatLatch) (b : BlifLatch) (said : IsSaid net l b) where
  by_kind : (k : Option LatchKind) → b.kind ≡ k → settings_of (kind_words k b.control ++ decimal b.init ∷ []) ≡ record { kind = k; control = b.control; init = b.init }
  unfolding settings_of
  by_kind None e = rw (said_back b.init said.init, said.bare e) refl
  by_kind (Some k) e = rw (kind_back k, control_back b.control said.plain, said_back b.init said.init) refl

  -- it is read as it is written
  pub settings-back : settings_of (kind_words b.kind b.control ++ decimal b.init ∷ []) ≡ b
  settings-back = by_kind b.kind refl

  kind_none : (n : ℕ) (k : LatchKind) → kind_faults n (kind_word k) ≡ []
  unfolding kind_faults
  kind_none n k = rw (kind_back k) refl

  init_none : (n : ℕ) → init_faults n (decimal b.init) ≡ []
  unfolding init_faults
  init_none n = rw (init_back b.init said.init) refl

  kind_settings : (n : ℕ) (word : List ℕ) (k : Option LatchKind) → settings_faults n word (kind_words k b.control ++ decimal b.init ∷ []) ≡ []
  unfolding settings_faults
  kind_settings n word None = init_none n
  kind_settings n word (Some k) = rw (kind_none n k, init_none n) refl

  -- and has no fault
  pub settings-none : (n : ℕ) (word : List ℕ) → settings_faults n word (kind_words b.kind b.control ++ decimal b.init ∷ []) ≡ []
  settings-none n word = kind_settings n word b.kind
