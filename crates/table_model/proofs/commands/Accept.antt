-- `accept`, carried out on tables that mean a list.
use Rattle.std.proofs.Common.{◌≡◌, ℕ, ◌+◌, ◌^◌, ◌<◌, ◌==◌, true, false, ◌||◌, not, List, [], ◌∷◌, ◌++◌, length, Some, refl}
use Rattle.std.proofs.lemmas.Bool.{or_parts, not-false}
use Rattle.sock_card.specs.declared.owner.Owner.{Owner}
use Rattle.sock_card.specs.Conflict.{owner_key, is_listening}
use Rattle.bind_buckets.specs.declared.request.Request.{Request}
use Rattle.bind_buckets.specs.declared.request.Request.TheVariants as requests
use Rattle.bind_buckets.specs.declared.request.Answer.TheVariants as answers
use Rattle.bind_buckets.specs.BindHash.{asked_at}
use Rattle.chain_book.specs.declared.outcome.Replace.TheVariants as rules
use Rattle.chain_book.specs.Chains.{put, hashed}
use Rattle.flat_list.specs.declared.command.End.{End}
use Rattle.flat_list.specs.declared.socket.Socket.{Socket}
use Rattle.flat_list.specs.Connect as flat_connect
use Rattle.flat_list.specs.Flat.{Flat}
use Rattle.flat_list.specs.Owned.{child_owner, is_no_accept, is_no_end}
use Rattle.flat_list.specs.Sockets.{is_owner}
use Rattle.table_model.specs.Asking.{Asking}
use Rattle.table_model.specs.Tables.{Tables, Ended, run, with_buckets, with_chains}
use Rattle.table_model.specs.Own.{Own, with_label}
use Rattle.table_model.specs.Operations.{Did, accept_as, accept_hashed, full_in, full_card, full_done, when_done}
use Rattle.table_model.specs.Commands.{Replied, accept_reply}
use Rattle.table_model.specs.Means.{Means}
use Rattle.table_model.proofs.lists.Listed.{Listed}
use Rattle.table_model.proofs.questions.Asked.{with_sockets}
use Rattle.table_model.proofs.questions.Requests.{IsDone, inherit_asked}
use Rattle.table_model.proofs.questions.Run.{comes_asks}
use Rattle.table_model.proofs.questions.WhichGroup.{listener_owns}
use Rattle.table_model.proofs.commands.Beside.{Refuses, fresh, comes_beside, replaced_ends, beside_ends}
use Rattle.table_model.proofs.commands.Carried.{Carried}
use Rattle.table_model.proofs.commands.Labelled.{new_name, given, unless, carried_unless, ends_unless}
use Rattle.table_model.proofs.commands.Newcomer.{arrives_at}

-- who can accept listens, and so has a port
pub accepts_own : (l : Owner) (from at : End) → is_no_accept l from at ≡ false → is_owner l.state ≡ true
accepts_own l from at h =
    let one = or_parts (not (is_listening l.state) || not (at.port == l.port) || (at.addr == 0) || not ((l.addr == 0) || (l.addr == at.addr))) (is_no_end from) h in
    let two = or_parts (not (is_listening l.state) || not (at.port == l.port) || (at.addr == 0)) (not ((l.addr == 0) || (l.addr == at.addr))) one.0 in
    let three = or_parts (not (is_listening l.state) || not (at.port == l.port)) (at.addr == 0) two.0 in
    let four = or_parts (not (is_listening l.state)) (not (at.port == l.port)) three.0 in
    listener_owns l.state (not-false (is_listening l.state) four.0)

module _ (n : ℕ) (own : Own) (t : Tables) (flat : Flat) (h : Means n own t flat) (l : Socket) (listed : Listed l.owner.name flat.sockets l) (label : List ℕ) (from at : End) where
  abbrev child : ℕ → Owner
  child name = child_owner l.owner name 0 from at

  abbrev inherit : ℕ → Request
  inherit name = requests.Inherit l.owner.name name 0 at.addr from.addr from.port

  -- the child comes to its listener's port
  inherits : (name : ℕ) → is_no_accept l.owner from at ≡ false → IsDone t.buckets (owner_key l.owner) (inherit name) (with_sockets flat (flat.sockets ++ flat_connect.child_of l name from at ∷ []))
  inherits name accepts =
      inherit_asked t.buckets flat h.tables.owners h.shape.bind h.sound.names l.owner.name l listed (accepts_own l.owner from at accepts) name 0 at.addr from.addr from.port
      (flat_connect.child_of l name from at) refl

  abbrev plan_as : ℕ → Asking Did
  plan_as name = accept_as flat.header.shape flat.header.seed l.owner (child name)

  refuses : (name : ℕ) → Refuses (accept_hashed flat.header.shape flat.header.seed l.owner (child name))
  refuses name = record { on_taken = λ holder. refl; on_full = λ owned held. refl }

  -- `accept` of a child of that name
  abbrev pub accept_of : ℕ → Asking Replied
  accept_of name = unless n own t flat h label (accept_reply (with_label own label)) (is_no_accept l.owner from at) (plan_as name)

  -- `accept` of an open socket, beside the list's
  pub accept_here : length own.labels + 1 < 2 ^ 56 → Carried n t (accept_of (new_name n own t flat h)) (flat_connect.accept (given n own t flat h label) (new_name n own t flat h) (Some l) from at)
  accept_here few =
      let name : ℕ = new_name n own t flat h in
      carried_unless n own t flat h label (accept_reply (with_label own label)) refl (is_no_accept l.owner from at) (plan_as name)
      (flat_connect.accept_as (given n own t flat h label) (flat_connect.child_of l name from at))
      (λ accepts.
      comes_beside n own t flat h label few (child name) refl refl (accept_hashed flat.header.shape flat.header.seed l.owner (child name)) (refuses name)
      (λ slot old is.
      arrives_at n own t flat h.tables h.shape h.sound h.own_is (flat_connect.child_of l name from at) (fresh n own t flat h label few (child name) refl refl) refl slot old 0 rules.Always is
      (owner_key l.owner) (inherit name) (inherits name accepts)))

  -- it comes to an end, whatever the child's name
  pub accept_here_ends : (name : ℕ) → (ended : Ended Replied) × (run t (accept_of name) ≡ Some ended)
  accept_here_ends name =
      ends_unless n own t flat h label (accept_reply (with_label own label)) (is_no_accept l.owner from at) (plan_as name)
      (λ accepts.
      beside_ends t (child name) (accept_hashed flat.header.shape flat.header.seed l.owner (child name)) (refuses name)
      (λ slot old.
      let there : Tables = with_chains t (hashed t.chains (full_card (child name)) (put slot old)) in
      comes_asks there (owner_key l.owner) (inherit name) (when_done (full_done flat.header.shape flat.header.seed (child name) slot old)) answers.Done (λ e. Unit {0}) (inherits name accepts).answer
      (replaced_ends (with_buckets there (asked_at t.buckets (owner_key l.owner) (inherit name))) (full_in flat.header.shape flat.header.seed (child name) slot) old)))
