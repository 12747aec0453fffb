-- `syn`, carried out on tables that mean a list.
use Rattle.std.proofs.Common.{◌≡◌, ℕ, ◌+◌, ◌^◌, ◌<◌, List, length, Some, refl}
use Rattle.sock_card.specs.declared.owner.Owner.{Owner}
use Rattle.chain_book.specs.declared.outcome.Replace.TheVariants as rules
use Rattle.chain_book.specs.Chains.{put, hashed}
use Rattle.flat_list.specs.declared.command.End.{End}
use Rattle.flat_list.specs.declared.socket.Socket.{Socket}
use Rattle.flat_list.specs.Connect as flat_connect
use Rattle.flat_list.specs.Flat.{Flat}
use Rattle.flat_list.specs.Owned.{request_owner, is_no_accept}
use Rattle.table_model.specs.Asking.{Asking}
use Rattle.table_model.specs.Tables.{Tables, Ended, run, with_chains}
use Rattle.table_model.specs.Own.{Own, with_label}
use Rattle.table_model.specs.Operations.{Did, syn_as, syn_hashed, request_in, request_card}
use Rattle.table_model.specs.Commands.{Replied, accept_reply}
use Rattle.table_model.specs.Means.{Means}
use Rattle.table_model.proofs.commands.Beside.{Refuses, fresh, comes_beside, replaced_ends, beside_ends}
use Rattle.table_model.proofs.commands.Carried.{Carried}
use Rattle.table_model.proofs.commands.Labelled.{new_name, given, unless, carried_unless, ends_unless}
use Rattle.table_model.proofs.commands.Newcomer.{arrives_portless}

module _ (n : ℕ) (own : Own) (t : Tables) (flat : Flat) (h : Means n own t flat) (l : Socket) (label : List ℕ) (from at : End) where
  abbrev request : ℕ → Owner
  request name = request_owner l.owner name 0 from at

  abbrev plan_as : ℕ → Asking Did
  plan_as name = syn_as flat.header.shape flat.header.seed (request name)

  refuses : (name : ℕ) → Refuses (syn_hashed flat.header.shape flat.header.seed (request name))
  refuses name = record { on_taken = λ holder. refl; on_full = λ owned held. refl }

  -- `syn` of a request of that name
  abbrev pub syn_of : ℕ → Asking Replied
  syn_of name = unless n own t flat h label (accept_reply (with_label own label)) (is_no_accept l.owner from at) (plan_as name)

  -- `syn` at an open socket, beside the list's
  pub syn_here : length own.labels + 1 < 2 ^ 56 → Carried n t (syn_of (new_name n own t flat h)) (flat_connect.syn (given n own t flat h label) (new_name n own t flat h) (Some l) from at)
  syn_here few =
      let name : ℕ = new_name n own t flat h in
      carried_unless n own t flat h label (accept_reply (with_label own label)) refl (is_no_accept l.owner from at) (plan_as name)
      (flat_connect.accept_as (given n own t flat h label) (flat_connect.request_of l name from at))
      (λ accepts.
      comes_beside n own t flat h label few (request name) refl refl (syn_hashed flat.header.shape flat.header.seed (request name)) (refuses name)
      (λ slot old is.
      arrives_portless n own t flat h.tables h.shape h.sound h.own_is (flat_connect.request_of l name from at) (fresh n own t flat h label few (request name) refl refl) refl slot old 0 rules.Always is refl))

  -- it comes to an end, whatever the request's name
  pub syn_here_ends : (name : ℕ) → (ended : Ended Replied) × (run t (syn_of name) ≡ Some ended)
  syn_here_ends name =
      ends_unless n own t flat h label (accept_reply (with_label own label)) (is_no_accept l.owner from at) (plan_as name)
      (λ accepts.
      beside_ends t (request name) (syn_hashed flat.header.shape flat.header.seed (request name)) (refuses name)
      (λ slot old.
      replaced_ends (with_chains t (hashed t.chains (request_card (request name)) (put slot old))) (request_in flat.header.shape flat.header.seed (request name) slot) old))
