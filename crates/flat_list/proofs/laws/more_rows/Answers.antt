use Rattle.std.proofs.Common.{refl}
use Rattle.sock_card.specs.Conflict.{overlap, refuses}
use Rattle.sock_card.specs.Rank.{rank}
use Rattle.jhash_words.specs.Jhash.{jhash_3words, started_mix, final_mix, mixed}
use Rattle.jhash_words.specs.Places.{tuple_hash}
use Rattle.flat_list.specs.Step.{step}
use Rattle.flat_list.proofs.laws.more_rows.Goals as goal

pub returns : goal.returns
unfolding step overlap refuses rank tuple_hash jhash_3words started_mix final_mix mixed
returns c = record { refusals = refl; full_and_grouped = refl; sections = (refl, (refl, (refl, tt))); waits = refl; wait_taken = refl; requests = refl; wait_requested = refl; wait_shared = refl; searches = refl; kept_mark = refl; devices = refl; namespaces = refl; searches_apart = refl; buckets = (refl, refl) }
