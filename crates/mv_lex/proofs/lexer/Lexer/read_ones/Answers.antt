-- One word after the other is read.
use Rattle.std.proofs.Common.{◌≡◌, ◌∙◌, ◌-◌, ◌<◌, ◌≤◌, true, false, length, take, drop, refl, sym, ap, arith, ⊎_elim, length-drop}
use Rattle.std.proofs.lemmas.Bool.{cases_lt}
use Rattle.std.proofs.lemmas.List.{take_all}
use Rattle.std.proofs.Math.Seq.{drop-drop}
use Rattle.mv_lex.specs.Steps.{begins_one}
use Rattle.mv_lex.proofs.After.{HasRead-start}
use Rattle.mv_lex.proofs.Letters.{one_long, piece_more}
use Rattle.mv_lex.proofs.lexer.Lexer.read_ones.Goals as goal

pub loop-self-init : goal.loop-self-init
loop-self-init c = record {
  within = omega arith;
  read = λ lines. HasRead-start _ lines _ refl;
  between = c.requires;
}

pub loop-self-preserved : goal.loop-self-preserved
loop-self-preserved c =
    let bytes = c.args.bytes.now in
    let at = c.loop-self.at in
    let size = length-drop at bytes in
    let rest : take (length bytes - at) (drop at bytes) ≡ drop at bytes = take_all (length bytes - at) (drop at bytes) (omega arith) in
    let one : begins_one (drop at bytes) ≡ true = ap begins_one (sym rest) ∙ (sym c.begins_one.ensures ∙ c.loop-self-test.true) in
    let long = one_long (drop at bytes) one in
    record {
      within = omega (arith, long, size);
      read = λ lines. piece_more _ _ _ _ _ _ bytes at 2 (c.loop-self.invariant.read lines) (rw rest at (c.in_ok-read_one.ensures.ok lines));
      between = rw (rest, drop-drop 2 at bytes) at c.in_ok-read_one.ensures.between;
    }

pub returns-clause-some : goal.returns-clause-some
returns-clause-some c =
    λ one.
    let bytes = c.args.bytes.now in
    let at = c.loop-self.at in
    let size = length-drop at bytes in
    let rest : take (length bytes - at) (drop at bytes) ≡ drop at bytes = take_all (length bytes - at) (drop at bytes) (omega arith) in
    let ended : begins_one (drop at bytes) ≡ false = ap begins_one (sym rest) ∙ (sym c.begins_one.ensures ∙ c.loop-self-test.false) in
    ⊎_elim
    (λ (some : 0 < at). some)
    (λ (none : at ≤ 0).
    let start : drop at bytes ≡ bytes = ap (λ k. drop k bytes) {x = at} {y = 0} (omega arith) in
    cc)
    (cases_lt 0 at)
