-- Each law is a lemma.
use Rattle.mv_lines_back.proofs.Written.{lines_of-text, is_clean-text, lex_fault-text}
use Rattle.mv_lines_back.proofs.Apart.{text-apart}
use Rattle.mv_lines_back.proofs.laws.text_laws.Goals as goal

pub returns : goal.returns
returns c = record { lines = lines_of-text; clean = is_clean-text; faultless = lex_fault-text; apart = text-apart }
