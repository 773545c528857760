-- The two stores are the sums of the bytes before them: `sealed-by` of Blocks.
use Rattle.changes.proofs.Blocks.{sealed-by}
use Rattle.changes.proofs.seal.Goals as goal

pub returns : goal.returns
returns c = let sums = c.sums_of-s in
    sealed-by c.args.block.now sums.result.first sums.result.second c.requires sums.ensures.0
