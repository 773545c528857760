-- The slot of Proxy-Info: `proxies-are`.
use Rattle.message.proofs.Listing.{proxies-are}
use Rattle.request.proofs.proxies_seen.Goals as goal

pub returns : goal.returns
returns c =
    proxies-are c.args.m.now c.args.index.now c.requires.2 c.requires.0 c.requires.1
