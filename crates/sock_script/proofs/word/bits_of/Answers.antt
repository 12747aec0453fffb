use Rattle.sock_script.proofs.SixteenBits.{bits_mark}
use Rattle.sock_script.proofs.word.bits_of.Goals as goal

pub returns : goal.returns
returns c = bits_mark c.args.lanes c.args.byte c.fits-lanes.0
