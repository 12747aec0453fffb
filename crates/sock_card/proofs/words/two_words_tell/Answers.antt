use Rattle.sock_card.proofs.words.two_words_tell.Goals as goal
use Rattle.sock_card.proofs.Most.{two_words}

pub returns : goal.returns
returns c = two_words
