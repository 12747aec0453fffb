use Rattle.std.proofs.Common.{refl}
use Rattle.sock_card.specs.Conflict.{overlap, refuses}
use Rattle.bind_buckets.specs.OwnerStep.{owner_step}
use Rattle.chain_book.specs.Homes.{home}
use Rattle.jhash_words.specs.Places.{tuple_hash, listen_hash}
use Rattle.jhash_words.specs.Jhash.{jhash_3words, jhash_1word, started_mix, final_mix, mixed}
use Rattle.flat_list.specs.Step.{step}
use Rattle.table_model.specs.Commands.{plan}
use Rattle.table_model.proofs.rows.worked_rows.Goals as goal

pub returns-clause-shared_address : goal.returns-clause-shared_address
unfolding step plan owner_step overlap refuses home tuple_hash listen_hash jhash_3words jhash_1word started_mix final_mix mixed
returns-clause-shared_address c = (refl, refl)

pub returns-clause-devices : goal.returns-clause-devices
unfolding step plan owner_step overlap refuses home tuple_hash listen_hash jhash_3words jhash_1word started_mix final_mix mixed
returns-clause-devices c = (refl, refl)

pub returns-clause-child_keeps : goal.returns-clause-child_keeps
unfolding step plan owner_step overlap refuses home tuple_hash listen_hash jhash_3words jhash_1word started_mix final_mix mixed
returns-clause-child_keeps c = (refl, refl)

pub returns-clause-child_shares : goal.returns-clause-child_shares
unfolding step plan owner_step overlap refuses home tuple_hash listen_hash jhash_3words jhash_1word started_mix final_mix mixed
returns-clause-child_shares c = (refl, refl)

pub returns-clause-four_tuple : goal.returns-clause-four_tuple
unfolding step plan owner_step overlap refuses home tuple_hash listen_hash jhash_3words jhash_1word started_mix final_mix mixed
returns-clause-four_tuple c = (refl, refl)

pub returns-clause-refusals : goal.returns-clause-refusals
unfolding step plan owner_step overlap refuses home tuple_hash listen_hash jhash_3words jhash_1word started_mix final_mix mixed
returns-clause-refusals c = (refl, refl)

pub returns-clause-four_ports : goal.returns-clause-four_ports
unfolding step plan owner_step overlap refuses home tuple_hash listen_hash jhash_3words jhash_1word started_mix final_mix mixed
returns-clause-four_ports c = (refl, refl)

pub returns-clause-binds : goal.returns-clause-binds
unfolding step plan owner_step overlap refuses home tuple_hash listen_hash jhash_3words jhash_1word started_mix final_mix mixed
returns-clause-binds c = (refl, refl)

pub returns-clause-connects : goal.returns-clause-connects
unfolding step plan owner_step overlap refuses home tuple_hash listen_hash jhash_3words jhash_1word started_mix final_mix mixed
returns-clause-connects c = (refl, refl)

pub returns-clause-shared_ports : goal.returns-clause-shared_ports
unfolding step plan owner_step overlap refuses home tuple_hash listen_hash jhash_3words jhash_1word started_mix final_mix mixed
returns-clause-shared_ports c = (refl, refl)

pub returns-clause-port_given_up : goal.returns-clause-port_given_up
unfolding step plan owner_step overlap refuses home tuple_hash listen_hash jhash_3words jhash_1word started_mix final_mix mixed
returns-clause-port_given_up c = (refl, refl)

pub returns-clause-drawn : goal.returns-clause-drawn
unfolding step plan owner_step overlap refuses home tuple_hash listen_hash jhash_3words jhash_1word started_mix final_mix mixed
returns-clause-drawn c = (refl, refl)

pub returns-clause-replaced : goal.returns-clause-replaced
unfolding step plan owner_step overlap refuses home tuple_hash listen_hash jhash_3words jhash_1word started_mix final_mix mixed
returns-clause-replaced c = (refl, refl)

pub returns-clause-reaped : goal.returns-clause-reaped
unfolding step plan owner_step overlap refuses home tuple_hash listen_hash jhash_3words jhash_1word started_mix final_mix mixed
returns-clause-reaped c = (refl, refl)

pub returns-clause-groups : goal.returns-clause-groups
unfolding step plan owner_step overlap refuses home tuple_hash listen_hash jhash_3words jhash_1word started_mix final_mix mixed
returns-clause-groups c = (refl, refl)

pub returns-clause-slot : goal.returns-clause-slot
unfolding step plan owner_step overlap refuses home tuple_hash listen_hash jhash_3words jhash_1word started_mix final_mix mixed
returns-clause-slot c = (refl, refl)

pub returns-clause-users : goal.returns-clause-users
unfolding step plan owner_step overlap refuses home tuple_hash listen_hash jhash_3words jhash_1word started_mix final_mix mixed
returns-clause-users c = (refl, refl)

pub returns-clause-one_too_many : goal.returns-clause-one_too_many
unfolding step plan owner_step overlap refuses home tuple_hash listen_hash jhash_3words jhash_1word started_mix final_mix mixed
returns-clause-one_too_many c = (refl, refl)

pub returns-clause-full_group : goal.returns-clause-full_group
unfolding step plan owner_step overlap refuses home tuple_hash listen_hash jhash_3words jhash_1word started_mix final_mix mixed
returns-clause-full_group c = (refl, refl)

pub returns-clause-full_bucket : goal.returns-clause-full_bucket
unfolding step plan owner_step overlap refuses home tuple_hash listen_hash jhash_3words jhash_1word started_mix final_mix mixed
returns-clause-full_bucket c = (refl, refl)

pub returns-clause-handed_over : goal.returns-clause-handed_over
unfolding step plan owner_step overlap refuses home tuple_hash listen_hash jhash_3words jhash_1word started_mix final_mix mixed
returns-clause-handed_over c = (refl, refl)

pub returns-clause-not_handed_over : goal.returns-clause-not_handed_over
unfolding step plan owner_step overlap refuses home tuple_hash listen_hash jhash_3words jhash_1word started_mix final_mix mixed
returns-clause-not_handed_over c = (refl, refl)

pub returns-clause-requests : goal.returns-clause-requests
unfolding step plan owner_step overlap refuses home tuple_hash listen_hash jhash_3words jhash_1word started_mix final_mix mixed
returns-clause-requests c = (refl, refl)

pub returns-clause-wait_requested : goal.returns-clause-wait_requested
unfolding step plan owner_step overlap refuses home tuple_hash listen_hash jhash_3words jhash_1word started_mix final_mix mixed
returns-clause-wait_requested c = (refl, refl)
