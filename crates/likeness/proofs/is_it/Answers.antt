-- Both ways compute.
use Rattle.likeness.proofs.is_it.Goals as goal

pub returns-then-same : goal.returns-then-same
returns-then-same c =
    let test1 = c.if-same in
    rw test1.true
