-- The slot of Proxy-Info: `proxies-are`.
use Rattle.gateway.proofs.Reading.{proxies-are}
use Rattle.gateway.proofs.proxies_seen.Goals as goal

pub returns : goal.returns
returns c =
    let given = c.args in
    let pre-was = c.requires in
    proxies-are given.m.now given.index.now (pre-was)
