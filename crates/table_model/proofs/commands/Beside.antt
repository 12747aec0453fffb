-- A newcomer beside a listener, under a label that was given: what `accept` and `syn` come to beside the list's.
use Rattle.std.proofs.Common.{◌≡◌, ◌≢◌, ℕ, ◌+◌, ◌/◌, ◌^◌, ◌<◌, Bool, true, false, not, cond, List, length, Option, Some, None, refl, sym, subst}
use Rattle.std.proofs.lemmas.Bool.{eq-eqb}
use Rattle.list_words.specs.Lists.{Each}
use Rattle.list_words.proofs.EachLemmas.{each_filter}
use Rattle.sock_card.specs.declared.owner.Owner.{Owner}
use Rattle.sock_card.specs.Conflict.{bind_key}
use Rattle.bind_buckets.specs.declared.request.Request.{Request}
use Rattle.bind_buckets.specs.declared.request.Request.TheVariants as requests
use Rattle.bind_buckets.specs.BindHash.{asked_at, answer_at}
use Rattle.chain_book.specs.declared.outcome.Hashed.{Hashed}
use Rattle.chain_book.specs.declared.outcome.Replace.TheVariants as rules
use Rattle.chain_book.specs.Chains.{Outcome as ChainOutcome, put, taken, full, insert_outcome, hashed}
use Rattle.flat_list.specs.declared.command.Reply.TheVariants as replies
use Rattle.flat_list.specs.declared.socket.Socket.{Socket}
use Rattle.flat_list.specs.Connect as flat_connect
use Rattle.flat_list.specs.Flat.{Flat}
use Rattle.flat_list.specs.Outcome.{Outcome, unchanged, added, no_slot, has_slot as has_room}
use Rattle.flat_list.specs.Sections.{with_given}
use Rattle.flat_list.specs.Sockets.{has_twin, waits_at, without_waiting, is_open_in}
use Rattle.flat_list.specs.Sound.{NamesDiffer}
use Rattle.table_model.specs.declared.operation.OpEnd.TheVariants as errors
use Rattle.table_model.specs.Asking.{Asking, ends, inserts}
use Rattle.table_model.specs.Tables.{Tables, Ended, with_buckets, with_chains}
use Rattle.table_model.specs.Own.{Own, Mine, with_label}
use Rattle.table_model.specs.Operations.{Did, done, refused, then_replaced}
use Rattle.table_model.specs.Commands.{accept_reply}
use Rattle.table_model.specs.Means.{Means, StandsAs}
use Rattle.table_model.proofs.parts.Claims.{claim_card, claimed_in, IsClaim, claim_open}
use Rattle.table_model.proofs.parts.NewSocket.{own_new}
use Rattle.table_model.proofs.parts.OwnConnected.{own_replaced}
use Rattle.table_model.proofs.questions.Asked.{with_sockets}
use Rattle.table_model.proofs.questions.Run.{Comes, comes_ends, comes_inserts, comes_asks}
use Rattle.table_model.proofs.questions.Taken.{twin_same}
use Rattle.table_model.proofs.commands.Comes.{HasCome, Came}
use Rattle.table_model.proofs.commands.Labelled.{new_name, fresh_name, new_section, fresh_wait, given, labelled, refused_means, GoodBy}
use Rattle.table_model.proofs.commands.Newcomer.{newcomer_attempt, accepted_list}
use Rattle.table_model.proofs.commands.SocketAndAt.{sections_kept}

-- what is done where its card was put in a slot, and else its refusals
pub record Refuses (then_ : ChainOutcome → Asking Did) : Type 0 where
  pub on_taken : (holder : ℕ) → then_ (taken holder) ≡ ends (refused (errors.Taken holder))
  pub on_full : (owned held : ℕ) → then_ (full owned held) ≡ ends (refused (errors.Full owned held))

module _ (n : ℕ) (own : Own) (t : Tables) (flat : Flat) (h : Means n own t flat) (label : List ℕ) (few : length own.labels + 1 < 2 ^ 56)
    (a : Owner) (named : a.name ≡ new_name n own t flat h) (claims : IsClaim a) where
  -- the newcomer
  abbrev pub new : Socket
  new = record { owner = a; stamp = 0; named = true }

  -- no socket has its name
  pub fresh : Each (λ (x : Socket). NamesDiffer x new) flat.sockets
  fresh = subst (λ (k : ℕ). Each (λ (x : Socket). x.owner.name ≢ k) flat.sockets) (sym named) (fresh_name n own t flat h few)

  -- the list with it
  abbrev pub beside_list : List Socket
  beside_list = accepted_list n own t flat h.tables h.shape h.sound h.own_is new fresh claims

  abbrev given_so : Flat
  given_so = given n own t flat h label

  abbrev Good_so : Outcome → Ended Did → Type 0
  Good_so = GoodBy n own t flat h label (accept_reply (with_label own label))

  abbrev out_as : Bool → Bool → Outcome
  out_as twin room =
      cond twin (unchanged given_so replies.Eaddrnotavail)
      (cond (not room) (no_slot given_so) (added (flat_connect.replacing given_so a) new replies.Ok))

  abbrev twin : Bool
  twin = has_twin a flat.sockets

  abbrev P : Ended Did → Type 0
  P = Good_so (out_as twin (has_room flat))

  good_as : (k room : Bool) → twin ≡ k → has_room flat ≡ room → (e : Ended Did) → Good_so (out_as k room) e → P e
  good_as k room q r e g = subst (λ (b : Bool). Good_so (out_as b (has_room flat)) e) (sym q) (subst (λ (b : Bool). Good_so (out_as k b) e) (sym r) g)

  of_section : is_open_in n new ≡ true
  of_section = eq-eqb _ n (subst (λ (k : ℕ). k / 2 ^ 56 ≡ n) (sym named) (new_section n own t flat h few))

  came_good : (e : Ended Did) → HasCome own flat a beside_list e → Good_so (out_as false true) e
  came_good e c =
      let m : Mine = claimed_in flat.header.shape flat.header.seed a c.0 in
      let came : Came e.tables own (with_sockets flat beside_list) m = c.2 in
      subst (λ (d : Did). Good_so (out_as false true) (record { tables = e.tables; result = d })) (sym c.1) (
        refl,
        λ sound. record {
          shape = h.shape;
          sound = sound;
          tables = sections_kept e.tables (with_sockets flat beside_list) (with_given flat.header n label flat.sections) came.tables;
          own_is = own_new n (with_label own label) e.tables e.tables (with_sockets given_so (without_waiting a flat.sockets)) new m
              (own_replaced n (with_label own label) t e.tables given_so (labelled n own t flat h label) h.sound.names h.sound.tuples h.sound.awake came.others a) refl of_section (claim_open a claims)
              (each_filter (λ (x : Socket). NamesDiffer x new) (λ y. not (waits_at a y)) flat.sockets fresh)
              (subst (λ (k : ℕ). Each (λ (w : Mine). w.owner.name ≢ k) own.waits) (sym named) (fresh_wait n own t flat h))
              (subst (StandsAs e.tables.chains m) (sym claims) came.stands) came.others;
        },
      )

  module _ (then_ : ChainOutcome → Asking Did) (refuses : Refuses then_)
      (arrival : (slot : ℕ) (old : Option Hashed) → insert_outcome t.chains (claim_card a) 0 rules.Always ≡ put slot old
      → Comes (with_chains t (hashed t.chains (claim_card a) (put slot old))) (then_ (put slot old)) (HasCome own flat a beside_list)) where
    on_taken : (holder : ℕ) → twin ≡ true → Comes t (then_ (taken holder)) P
    on_taken holder k =
        let end : Did = refused (errors.Taken holder) in
        subst (λ (p : Asking Did). Comes t p P) (sym (refuses.on_taken holder))
        (comes_ends t end P (good_as true (has_room flat) k refl (record { tables = t; result = end }) (refl, refused_means n own t flat h label)))

    on_full : twin ≡ false → has_room flat ≡ false → Comes t (then_ (full flat.header.shape.slots 0)) P
    on_full k room =
        let end : Did = refused (errors.Full flat.header.shape.slots 0) in
        subst (λ (p : Asking Did). Comes t p P) (sym (refuses.on_full flat.header.shape.slots 0))
        (comes_ends t end P (good_as false false k room (record { tables = t; result = end }) (refl, refused_means n own t flat h label)))

    -- it comes, or is refused, as in the list
    pub comes_beside : Comes t (inserts (claim_card a) 0 rules.Always then_) (Good_so (flat_connect.accept_as given_so new))
    comes_beside =
        newcomer_attempt n own t flat h.tables h.shape h.sound h.own_is new fresh claims 0 rules.Always twin (twin_same t.chains flat 0 a h.tables.chains) then_ P
        arrival on_taken on_full (λ e k room c. good_as false true k room e (came_good e c))

-- whatever a plan comes to, it comes to an end
abbrev pub EndsSo : Tables → Asking Did → Type 0
EndsSo t p = Comes t p (λ e. Unit {0})

-- it ends once what was replaced has left
pub replaced_ends : (t : Tables) (m : Mine) (old : Option Hashed) → EndsSo t (then_replaced old (ends (done m)))
replaced_ends t m None = comes_ends t (done m) (λ e. Unit {0}) tt
replaced_ends t m (Some x) =
    let request : Request = requests.RemoveWaiting x.card.name in
    let key : ℕ = bind_key x.card.lport x.card.net in
    comes_asks t key request (λ answer. ends (done m)) (answer_at t.buckets key request) (λ e. Unit {0}) refl
    (comes_ends (with_buckets t (asked_at t.buckets key request)) (done m) (λ e. Unit {0}) tt)

module _ (t : Tables) (a : Owner) (then_ : ChainOutcome → Asking Did) (refuses : Refuses then_)
    (arrival : (slot : ℕ) (old : Option Hashed) → EndsSo (with_chains t (hashed t.chains (claim_card a) (put slot old))) (then_ (put slot old))) where
  ends_by : (o : ChainOutcome) → EndsSo (with_chains t (hashed t.chains (claim_card a) o)) (then_ o)
  ends_by (put slot old) = arrival slot old
  ends_by (taken holder) = subst (EndsSo t) (sym (refuses.on_taken holder)) (comes_ends t (refused (errors.Taken holder)) (λ e. Unit {0}) tt)
  ends_by (full owned held) = subst (EndsSo t) (sym (refuses.on_full owned held)) (comes_ends t (refused (errors.Full owned held)) (λ e. Unit {0}) tt)

  -- a newcomer's plan comes to an end, where it does once its card was put in a slot
  pub beside_ends : EndsSo t (inserts (claim_card a) 0 rules.Always then_)
  beside_ends =
      let outcome : ChainOutcome = insert_outcome t.chains (claim_card a) 0 rules.Always in
      comes_inserts t (claim_card a) 0 rules.Always then_ outcome (λ e. Unit {0}) refl (ends_by outcome)
