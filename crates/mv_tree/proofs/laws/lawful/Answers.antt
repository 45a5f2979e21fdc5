-- Where each model of a design is lawful, so is the one model of a root and its instances.
use Rattle.mv_tree.proofs.Grammar.{follows_grammar, lawful}
use Rattle.mv_tree.proofs.Models.{lawful_models}
use Rattle.mv_tree.proofs.laws.lawful.Goals as goal

pub returns-clause-places : goal.returns-clause-places
returns-clause-places c = lawful_models

pub returns-clause-grammar : goal.returns-clause-grammar
returns-clause-grammar c = follows_grammar

pub returns-clause-whole : goal.returns-clause-whole
returns-clause-whole c = lawful
