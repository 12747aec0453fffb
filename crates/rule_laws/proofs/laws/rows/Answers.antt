use Rattle.std.proofs.Common.{refl}
use Rattle.sock_card.specs.Conflict.{overlap, refuses}
use Rattle.sock_card.specs.Rank.{rank}
use Rattle.jhash_words.specs.Jhash.{jhash_1word, jhash_3words, started_mix, final_mix, mixed}
use Rattle.jhash_words.specs.Places.{tuple_hash, listen_hash}
use Rattle.flat_list.specs.Step.{step}
use Rattle.rule_laws.proofs.laws.rows.Goals as goal

pub returns : goal.returns
unfolding step overlap refuses rank tuple_hash listen_hash jhash_1word jhash_3words started_mix final_mix mixed
returns c = record { groups = refl; reserved = refl; bound = refl; in_use = refl; late = refl; source = refl; listener = refl; child = refl; tuple = refl; refused_handshakes = refl; wait_slot = refl; handshake = refl; handed_port = refl; upwards = refl; seed = (refl, refl) }
