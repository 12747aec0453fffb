-- What each command's plan leaves of a section's own, and that no plan hashes a TIME_WAIT but that of `close`.
use Rattle.std.proofs.Common.{◌≡◌, ℕ, ◌+◌, ◌<◌, ◌≤◌, ◌==◌, Bool, true, false, cond, nat_lt, not, List, [], ◌∷◌, ◌++◌, length, map, filter, Option, None, Some, if◌then◌else◌, refl, sym, ap, ◌∙◌, subst, arith, ◌⊎◌, inl, inr, ⊎_elim, length-append}
use Rattle.std.proofs.lemmas.Bool.{true≢false, ltb-false, eq-eqb}
use Rattle.list_words.specs.Lists.{Each}
use Rattle.sock_card.specs.declared.owner.State.{State}
use Rattle.sock_card.specs.declared.card.Card.{Card}
use Rattle.sock_card.specs.declared.card.Kind.TheVariants as kinds
use Rattle.sock_card.specs.TimeWait.{is_time_wait_kind}
use Rattle.chain_book.specs.declared.book.Act.TheVariants as acts
use Rattle.chain_book.specs.declared.book.Change.{Change}
use Rattle.chain_book.specs.declared.outcome.Place.{Place}
use Rattle.flat_list.specs.declared.header.Header.{Header}
use Rattle.flat_list.specs.declared.command.End.{End}
use Rattle.flat_list.specs.declared.command.Reply.TheVariants as replies
use Rattle.flat_list.specs.declared.owned.Options.{Options}
use Rattle.flat_list.specs.Owned.{new_owner}
use Rattle.flat_list.specs.Sockets.{kind_of}
use Rattle.table_model.specs.Asking.{Asking, ends, and_then}
use Rattle.table_model.specs.Own.{Own, Mine, is_named, next_name, open_named, with_label, with_new, with_wait, with_socket, without}
use Rattle.table_model.specs.Means.{name_in}
use Rattle.table_model.specs.Operations as op
use Rattle.table_model.specs.Operations.{Did, done, refused}
use Rattle.table_model.specs.Commands as command
use Rattle.table_model.specs.Commands.{Replied}
use Rattle.table_model.proofs.commands.Asks.{FitsPort, AsksOnly, AnyDid, NamedBy, may_leave, then_asks, drop_asks, bind_asks, listen_asks, connect_asks, accept_asks, syn_asks, ack_asks}
use Rattle.table_model.proofs.parts.Own.{own_names}
use Rattle.race_book.specs.Among.{Among}
use Rattle.race_book.specs.Lives.{is_unhash}
use Rattle.race_book.proofs.Joined.{each_flat}
use Rattle.race_record.specs.Deeds.{Wish, Tried, Deed, hashed, kept_out, no_slot, inserted, added, reaped, changes_of, changes_in}
use Rattle.race_record.specs.Goes.{Goes, Grants, Admits, IsReapOf}
use Rattle.race_record.proofs.Asked.{Steps, all_so}

-- Lists

names_by : (p : Mine → Bool) (x : Mine) (xs : List Mine) (n : ℕ) (b : Bool) → Among (map name_in (cond b (x ∷ filter p xs) (filter p xs))) n → (Among (map name_in (filter p xs)) n → Among (map name_in xs) n) → Among (map name_in (x ∷ xs)) n
names_by p x xs n true (inl e) rest = inl e
names_by p x xs n true (inr h) rest = inr (rest h)
names_by p x xs n false h rest = inr (rest h)

-- names of some sockets are among those of all
names_left : (p : Mine → Bool) (xs : List Mine) (n : ℕ) → Among (map name_in (filter p xs)) n → Among (map name_in xs) n
names_left p [] n h = absurd h
names_left p (x ∷ xs) n h = names_by p x xs n (p x) h (names_left p xs n)

gone_by : (n : ℕ) (x : Mine) (ys : List Mine) (b : Bool) → (x.owner.name == n) ≡ b → (Among (map name_in ys) n → ⊥) → Among (map name_in (cond (not b) (x ∷ ys) ys)) n → ⊥
gone_by n x ys true e rest h = rest h
gone_by n x ys false e rest (inl q) = true≢false (sym (eq-eqb x.owner.name n (sym q)) ∙ e)
gone_by n x ys false e rest (inr h) = rest h

-- a name that is taken out is gone
pub name_gone : (n : ℕ) (xs : List Mine) → Among (map name_in (filter (λ m. not (is_named n m)) xs)) n → ⊥
name_gone n [] h = absurd h
name_gone n (x ∷ xs) h = gone_by n x (filter (λ m. not (is_named n m)) xs) (x.owner.name == n) refl (name_gone n xs) h

names_push : (xs : List Mine) (m : Mine) (n : ℕ) → Among (map name_in (xs ++ m ∷ [])) n → Among (map name_in xs) n ⊎ (n ≡ m.owner.name)
names_push [] m n (inl e) = inr e
names_push [] m n (inr h) = absurd h
names_push (x ∷ xs) m n (inl e) = inl (inl e)
names_push (x ∷ xs) m n (inr h) = ⊎_elim (λ z. inl (inr z)) inr (names_push xs m n h)

-- Hashes

-- the hash of a TIME_WAIT
pub record IsWait (c : Change) : Type 0 where
  pub hash : c.act ≡ acts.Hash
  pub kind : c.card.kind ≡ kinds.TimeWait

abbrev pub IsNoWait : Change → Type 0
IsNoWait c = IsWait c → ⊥

abbrev pub IsCalm : Card → Type 0
IsCalm card = is_time_wait_kind card.kind ≡ false

pub no_unhash : (u : Change) → u.act ≡ acts.Unhash → IsNoWait u
no_unhash u e w = true≢false (ap is_unhash (sym e ∙ w.hash))

no_other : (c : Change) (card : Card) → c.card ≡ card → IsCalm card → IsNoWait c
no_other c card e calm w = true≢false (sym (ap is_time_wait_kind (sym (ap (λ (x : Card). x.kind) e) ∙ w.kind)) ∙ calm)

abbrev IsCalmDeed : Deed → Type 0
IsCalmDeed deed = Each IsNoWait (changes_of deed)

granted : (wish : Wish) (tried : Tried) → IsCalm wish.card → Grants wish tried → IsCalmDeed (inserted wish tried)
granted wish (hashed c None) calm g = (no_other c wish.card g.card_is calm, tt)
granted wish (hashed c (Some u)) calm g = (no_other c wish.card g.0.card_is calm, (no_unhash u g.1.act, tt))
granted wish (kept_out name) calm g = tt
granted wish (no_slot number owned held) calm g = tt

admitted : (card : Card) (tried : Tried) → IsCalm card → Admits card tried → IsCalmDeed (added card tried)
admitted card (hashed c None) calm g = (no_other c card g.card_is calm, tt)
admitted card (hashed c (Some u)) calm g = absurd g
admitted card (kept_out name) calm g = absurd g
admitted card (no_slot number owned held) calm g = tt

unhashed : (card : Card) (unhash : Option Change) → IsReapOf card unhash → IsCalmDeed (reaped card unhash)
unhashed card None g = tt
unhashed card (Some u) g = (no_unhash u g.act, tt)

-- any card may leave its place
abbrev Leaves : Place → Card → Type 0
Leaves place card = Unit {0}

-- a plan that asks for no hash of a TIME_WAIT, and comes to what passes
abbrev pub AsksCalmly : {R : Type 0} → (R → Type 0) → Asking R → Type 0
AsksCalmly {R} Q p = AsksOnly FitsPort IsCalm Leaves Q p

pub calms : {R : Type 0} (Q : R → Type 0) (p : Asking R) → AsksCalmly Q p → (deeds : List Deed) (r : R) → Goes p deeds r → Each IsNoWait (changes_in deeds) × Q r
calms Q p h deeds r g =
    let steps : Steps FitsPort IsCalm Leaves IsCalmDeed = record {
      of_entry = λ key note f. tt;
      of_insert = granted;
      of_add = admitted;
      of_leave = λ place card u leaves is. (no_unhash u is.unhash.act, tt);
      of_reap = unhashed;
    } in
    let z = all_so FitsPort IsCalm Leaves IsCalmDeed steps Q p deeds r h g in
    (each_flat IsNoWait changes_of deeds z.0, z.1)

pub calm_drop : {R : Type 0} (Q : R → Type 0) (s : State) (m : Mine) (x : R) → Q x → AsksCalmly Q (op.drop_as s m x)
calm_drop Q s m x q = drop_asks IsCalm Leaves (λ card e. e) Q s m x (may_leave Leaves (λ place card. tt) m (kind_of s)) q

-- What a command leaves of the section's own

-- the section's number stays, its moment never falls, one label more is given at most, and no socket has a name but
-- an old one or that of the new label
pub record Grows (own next : Own) : Type 0 where
  pub number : next.number ≡ own.number
  pub moment : own.moment ≤ next.moment
  pub least : length own.labels ≤ length next.labels
  pub most : length next.labels ≤ length own.labels + 1
  pub names : (n : ℕ) → Among (map name_in next.sockets) n → Among (map name_in own.sockets) n ⊎ ((n ≡ next_name own) × (length own.labels < length next.labels))

-- and it waits for what it did
pub record Calm (own next : Own) : Type 0 where
  pub grows : Grows own next
  pub waits : next.waits ≡ own.waits

abbrev pub CalmBy : Own → Replied → Type 0
CalmBy own r = Calm own r.own

pub grows_self : (own : Own) → Grows own own
grows_self own = record { number = refl; moment = omega arith; least = omega arith; most = omega arith; names = λ n h. inl h }

pub calm_self : (own : Own) → Calm own own
calm_self own = record { grows = grows_self own; waits = refl }

-- the offsets don't matter
searched : (own : Own) (b : Bool) → Calm own (command.after_search b own)
searched own true = record { grows = record { number = refl; moment = omega arith; least = omega arith; most = omega arith; names = λ n h. inl h }; waits = refl }
searched own false = calm_self own

-- nor what one of the sockets has become
renewed : (own next : Own) (m : Mine) → Calm own next → Calm own (with_socket next m)
renewed own next m h = record {
  grows = record {
    number = h.grows.number;
    moment = h.grows.moment;
    least = h.grows.least;
    most = h.grows.most;
    names = λ n a. h.grows.names n (subst (λ (l : List ℕ). Among l n) (own_names m next.sockets) a);
  };
  waits = h.waits;
}

-- nor a TIME_WAIT more
pub waiting_more : (own next : Own) (m : Mine) → Grows own next → Grows own (with_wait next m)
waiting_more own next m g = record { number = g.number; moment = g.moment; least = g.least; most = g.most; names = g.names }

-- a socket less
pub fewer : (own : Own) (name : ℕ) → Calm own (without own name)
fewer own name = record {
  grows = record { number = refl; moment = omega arith; least = omega arith; most = omega arith; names = λ n h. inl (names_left (λ m. not (is_named name m)) own.sockets n h) };
  waits = refl;
}

-- a label more
labelled : (own : Own) (label : List ℕ) → Calm own (with_label own label)
labelled own label = record {
  grows = record {
    number = refl;
    moment = omega arith;
    least = omega (arith, length-append own.labels (label ∷ []));
    most = omega (arith, length-append own.labels (label ∷ []));
    names = λ n h. inl h;
  };
  waits = refl;
}

-- and its socket
pub with_its_socket : (own : Own) (label : List ℕ) (m : Mine) → m.owner.name ≡ next_name own → Calm own (with_new (with_label own label) m)
with_its_socket own label m is = record {
  grows = record {
    number = refl;
    moment = omega arith;
    least = omega (arith, length-append own.labels (label ∷ []));
    most = omega (arith, length-append own.labels (label ∷ []));
    names = λ n h. ⊎_elim inl (λ e. inr (e ∙ is, omega (arith, length-append own.labels (label ∷ [])))) (names_push own.sockets m n h);
  };
  waits = refl;
}

-- and its socket, with one of the others gone
handed_over : (own : Own) (label : List ℕ) (name : ℕ) (m : Mine) → m.owner.name ≡ next_name own → Calm own (with_new (without (with_label own label) name) m)
handed_over own label name m is = record {
  grows = record {
    number = refl;
    moment = omega arith;
    least = omega (arith, length-append own.labels (label ∷ []));
    most = omega (arith, length-append own.labels (label ∷ []));
    names = λ n h. ⊎_elim (λ a. inl (names_left (λ x. not (is_named name x)) own.sockets n a)) (λ e. inr (e ∙ is, omega (arith, length-append own.labels (label ∷ []))))
        (names_push (filter (λ x. not (is_named name x)) own.sockets) m n h);
  };
  waits = refl;
}

-- an operation, and what is made of its result
pub calm_then : {R : Type 0} (Q : R → Type 0) (own : Own) (p : Asking R) (reply : R → Replied) → AsksCalmly Q p → ((x : R) → Q x → CalmBy own (reply x)) → AsksCalmly (CalmBy own) (and_then p (λ x. ends (reply x)))
calm_then Q own p reply h same = then_asks FitsPort IsCalm Leaves Q (CalmBy own) p (λ x. ends (reply x)) h same

calm_bind : (own next : Own) → Calm own next → (d : Did) → CalmBy own (command.bind_reply next d)
calm_bind own next h (done m) = renewed own next m h
calm_bind own next h (refused end) = h

calm_connect : (own next : Own) → Calm own next → (d : Did) → CalmBy own (command.connect_reply next d)
calm_connect own next h (done m) = renewed own next m h
calm_connect own next h (refused end) = h

calm_accept : (own : Own) (label : List ℕ) (d : Did) → NamedBy (next_name own) d → CalmBy own (command.accept_reply (with_label own label) d)
calm_accept own label (done m) h = with_its_socket own label m h
calm_accept own label (refused end) h = labelled own label

calm_ack : (own : Own) (label : List ℕ) (name : ℕ) (d : Did) → NamedBy (next_name own) d → CalmBy own (command.ack_reply (with_label own label) name d)
calm_ack own label name (done m) h = handed_over own label name m h
calm_ack own label name (refused end) h = labelled own label

pub calm_at : (own : Own) (moment : ℕ) (b : Bool) → nat_lt moment own.moment ≡ b → AsksCalmly (CalmBy own) (if b then command.replies_at_once own replies.Einval else command.replies_at_once (record own { moment = moment }) replies.Ok)
calm_at own moment true e = calm_self own
calm_at own moment false e = record {
  grows = record { number = refl; moment = omega (arith, ltb-false moment own.moment e); least = omega arith; most = omega arith; names = λ n h. inl h };
  waits = refl;
}

pub calm_socket : (own : Own) (label : List ℕ) (options : Options) → AsksCalmly (CalmBy own) (command.socket_command own label options)
calm_socket own label options = with_its_socket own label (op.plain (new_owner (next_name own) own.mark options)) refl

pub calm_bind_command : (own : Own) (o : Option Mine) (end : End) → AsksCalmly (CalmBy own) (command.bind_command own o end)
calm_bind_command own None end = calm_self own
calm_bind_command own (Some m) end = calm_then AnyDid own _ _ (bind_asks IsCalm Leaves (λ card e. e) m.owner.state m end _) (λ x q. calm_bind own _ (searched own _) x)

pub calm_drop_command : (own : Own) (o : Option Mine) → AsksCalmly (CalmBy own) (command.drop_command own o)
calm_drop_command own None = calm_self own
calm_drop_command own (Some m) = calm_drop (CalmBy own) m.owner.state m _ (fewer own m.owner.name)

module _ (header : Header) where
  pub calm_listen_command : (own : Own) (o : Option Mine) → AsksCalmly (CalmBy own) (command.listen_command header own o)
  calm_listen_command own None = calm_self own
  calm_listen_command own (Some m) =
      calm_then AnyDid own _ _ (listen_asks IsCalm Leaves (λ card e. e) header.shape header.seed m.owner.state m _) (λ x q. calm_bind own _ (searched own _) x)

  pub calm_connect_command : (own : Own) (o : Option Mine) (from : Option ℕ) (to : End) → AsksCalmly (CalmBy own) (command.connect_command header own o from to)
  calm_connect_command own None from to = calm_self own
  calm_connect_command own (Some m) from to =
      calm_then AnyDid own _ _ (connect_asks IsCalm Leaves (λ card e. e) header.shape header.seed m.owner.state m.owner _ to own.moment _ _) (λ x q. calm_connect own _ (searched own _) x)

  pub calm_accept_command : (own : Own) (label : List ℕ) (o : Option Mine) (from at : End) → AsksCalmly (CalmBy own) (command.accept_command header (with_label own label) (next_name own) o from at)
  calm_accept_command own label None from at = labelled own label
  calm_accept_command own label (Some l) from at =
      calm_then (NamedBy (next_name own)) own _ _ (accept_asks IsCalm Leaves (λ card e. e) header.shape header.seed l (next_name own) own.mark from at) (calm_accept own label)

  pub calm_syn_command : (own : Own) (label : List ℕ) (o : Option Mine) (from at : End) → AsksCalmly (CalmBy own) (command.syn_command header (with_label own label) (next_name own) o from at)
  calm_syn_command own label None from at = labelled own label
  calm_syn_command own label (Some l) from at =
      calm_then (NamedBy (next_name own)) own _ _ (syn_asks IsCalm Leaves (λ card e. e) header.shape header.seed l (next_name own) own.mark from at) (calm_accept own label)

  pub calm_ack_command : (own : Own) (label : List ℕ) (o : Option Mine) → AsksCalmly (CalmBy own) (command.ack_command header (with_label own label) (next_name own) o)
  calm_ack_command own label None = labelled own label
  calm_ack_command own label (Some r) =
      calm_then (NamedBy (next_name own)) own _ _
      (ack_asks IsCalm Leaves (λ card e. e) header.shape header.seed r.owner.state r (open_named (with_label own label) r.owner.origin) (next_name own) own.mark
      (may_leave Leaves (λ place card. tt) r (kind_of r.owner.state)))
      (calm_ack own label r.owner.name)
