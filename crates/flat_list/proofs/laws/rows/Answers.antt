use Rattle.std.proofs.Common.{refl}
use Rattle.sock_card.specs.Conflict.{overlap, refuses}
use Rattle.sock_card.specs.Rank.{rank}
use Rattle.jhash_words.specs.Jhash.{jhash_3words, started_mix, final_mix, mixed}
use Rattle.jhash_words.specs.Places.{tuple_hash}
use Rattle.flat_list.specs.Step.{step}
use Rattle.flat_list.proofs.laws.rows.Goals as goal

pub returns : goal.returns
unfolding step overlap refuses rank tuple_hash jhash_3words started_mix final_mix mixed
returns c = record { shared_address = refl; devices = refl; slots = refl; accepted = refl; handed_over = refl; not_handed_over = refl; four_tuple = refl; freed = refl; refusals = refl; four_ports = refl; binds = refl; connects = refl; shared_port = refl; listener = refl; late = refl; late_again = refl; reserved = refl; no_slot = refl; words = refl; closed = refl; child_stays = refl; child_lets_in = refl; user = refl; reused = refl; waited_for = refl; rank = refl; hash = refl; full_group = refl }
