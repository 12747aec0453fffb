use Rattle.std.proofs.Common.{rules, arith, refl}
use Rattle.reuseport_group.proofs.Uses.{stores_word, did, last_later, last_own, last_list}
use Rattle.reuseport_group.proofs.pass.Groups.store_count_as.Goals as goal

pub store-requires : goal.store-requires
store-requires g c = (search rules, search rules, stores_word _ _ _ _ _ _ _ 0 _ _ _ _ (search rules) c.requires.told.0 c.requires.told.1 c.word-word.ensures.is refl c.requires.group (omega arith) c.requires.few c.requires.part (λ _. c.requires.members))

pub returns-clause-later : goal.returns-clause-later
returns-clause-later g c = last_later _ _ _ _ _ (did 0 _ _ _ _ 0 _ _ _ 0 c.requires.told.0 c.requires.told.1 c.word-word.ensures.is (omega arith) c.store.ensures.2)

pub returns-clause-own : goal.returns-clause-own
returns-clause-own g c = last_own _ _ _ _ _ (did 0 _ _ _ _ 0 _ _ _ 0 c.requires.told.0 c.requires.told.1 c.word-word.ensures.is (omega arith) c.store.ensures.2)

pub returns-clause-stands : goal.returns-clause-stands
returns-clause-stands g c = last_list _ _ _ _ (did 0 _ _ _ _ 0 _ _ _ 0 c.requires.told.0 c.requires.told.1 c.word-word.ensures.is (omega arith) c.store.ensures.2)
