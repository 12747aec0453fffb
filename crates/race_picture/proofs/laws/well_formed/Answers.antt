use Rattle.std.proofs.Common.{sym, subst}
use Rattle.record_reader.specs.Words.{pieces_of}
use Rattle.race_picture.specs.WellFormed.{IsDocument}
use Rattle.race_picture.proofs.Documents.{drawn_is}
use Rattle.race_picture.proofs.laws.well_formed.Goals as goal

pub returns : goal.returns
returns c = λ text verdict picture h.
    subst IsDocument (sym h.drawn) (drawn_is (pieces_of text) h.all verdict h.places)
