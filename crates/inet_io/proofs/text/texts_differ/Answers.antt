use Rattle.inet_io.proofs.EndTexts.{addr_text_injective, end_text_injective}
use Rattle.inet_io.proofs.text.texts_differ.Goals as goal

pub returns-clause-addrs : goal.returns-clause-addrs
returns-clause-addrs c = addr_text_injective

pub returns-clause-ends : goal.returns-clause-ends
returns-clause-ends c = end_text_injective
