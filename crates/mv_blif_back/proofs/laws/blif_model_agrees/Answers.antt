-- The laws are lemmas.
use Rattle.mv_blif_back.proofs.Agreeing.{inputs-same, outputs-same, states-same, next-same, tables-hold, tables-say}
use Rattle.mv_blif_back.proofs.laws.blif_model_agrees.Goals as goal

pub returns : goal.returns
returns c = record {
  ports =
      λ net bs value at formed alike. record {
        inputs = inputs-same net formed value at alike bs;
        outputs = outputs-same net formed value at alike bs;
        states = states-same net formed value at alike bs;
        next = next-same net formed value at alike bs;
      };
  holds = λ net bs value at formed alike few. (tables-hold net formed value at alike few bs, tables-say net formed value at alike few bs);
}
