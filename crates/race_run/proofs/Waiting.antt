-- What one step leaves of the TIME_WAITs for which its section waits.
use Rattle.std.proofs.Common.{◌≡◌, ℕ, ◌+◌, Bool, true, false, nat_lt, not, List, [], ◌∷◌, ◌++◌, map, filter, find, Option, None, Some, append-nil, refl, sym, ap, ◌∙◌, subst, arith, ◌⊎◌, inl, inr, option_and_then}
use Rattle.std.proofs.lemmas.Bool.{true≢false}
use Rattle.list_words.specs.Lists.{Each}
use Rattle.list_words.proofs.EachLemmas.{each_weaken, each_found}
use Rattle.sock_card.specs.declared.owner.State.{State}
use Rattle.sock_card.specs.declared.owner.State.TheVariants as states
use Rattle.sock_card.specs.declared.card.Card.{Card}
use Rattle.sock_card.specs.declared.card.Kind.TheVariants as kinds
use Rattle.bind_buckets.specs.declared.request.Answer.{Answer}
use Rattle.bind_buckets.specs.declared.request.Answer.TheVariants as answers_
use Rattle.chain_book.specs.declared.book.Change.{Change}
use Rattle.chain_book.specs.Chains.{put, full}
use Rattle.flat_list.specs.declared.header.Header.{Header}
use Rattle.flat_list.specs.declared.command.Command.{Command}
use Rattle.flat_list.specs.declared.command.Command.TheVariants as commands
use Rattle.flat_list.specs.declared.command.Reply.{Reply}
use Rattle.flat_list.specs.declared.command.Reply.TheVariants as replies
use Rattle.table_model.specs.Asking.{Asking, ends, and_then}
use Rattle.table_model.specs.Own.{Own, Mine, is_named, is_over, card_of, open_socket, name_of, with_wait, without}
use Rattle.table_model.specs.Means.{name_in}
use Rattle.table_model.specs.Operations as op
use Rattle.table_model.specs.Operations.{Closed, gone, waiting, no_slot as closed_without}
use Rattle.table_model.specs.Commands as command
use Rattle.table_model.specs.Commands.{Replied, answers, plan}
use Rattle.race_book.specs.Among.{Among}
use Rattle.race_book.proofs.AmongLemmas.{keeps}
use Rattle.race_book.proofs.Endings.{each_of}
use Rattle.race_record.specs.Deeds.{Deed, hashed, kept_out, no_slot, entered, inserted, added, left, reaped, changes_in}
use Rattle.race_record.specs.Goes.{Goes, IsReapOf}
use Rattle.race_record.proofs.Turns.{goes_apart, InTwo}
use Rattle.race_run.proofs.Plans

-- a socket of that name is open
abbrev pub Open : Own → ℕ → Type 0
Open own n = Among (map name_in own.sockets) n

-- the TIME_WAIT's hash: the section waits for it, which was open and is no more
pub record Rests (own next : Own) (h : Change) : Type 0 where
  pub wait : Mine
  pub there : Among next.waits wait
  pub card : h.card ≡ card_of kinds.TimeWait wait
  pub stamp : wait.extra ≡ own.moment
  pub was : Open own h.card.name
  pub gone : Open next h.card.name → ⊥

-- the TIME_WAIT of that card was sought
pub record Seeks (deeds : List Deed) (card : Card) : Type 0 where
  pub found : Option Change
  pub there : Among deeds (reaped card found)
  pub is : IsReapOf card found

abbrev pub is_reap : Command → Bool
is_reap commands.Reap = true
is_reap _ = false

pub record Turn (own next : Own) (reaping : Bool) (deeds : List Deed) : Type 0 where
  pub grows : Plans.Grows own next
  pub hashes : (h : Change) → Among (changes_in deeds) h → Plans.IsWait h → Rests own next h
  pub once : (g h : Change) → Among (changes_in deeds) g → Among (changes_in deeds) h → Plans.IsWait g → Plans.IsWait h → g ≡ h
  pub kept : (w : Mine) → Among own.waits w → Among next.waits w ⊎ Seeks deeds (card_of kinds.TimeWait w)
  pub reaps : reaping ≡ true → (w : Mine) → Among own.waits w → is_over own.moment w ≡ true → Seeks deeds (card_of kinds.TimeWait w)

-- where none was hashed, and the section waits for what it did
calm_turn : (own next : Own) (reaping : Bool) (deeds : List Deed) → reaping ≡ false → Each Plans.IsNoWait (changes_in deeds) × Plans.Calm own next → Turn own next reaping deeds
calm_turn own next reaping deeds e z = record {
  grows = z.1.grows;
  hashes = λ h a w. absurd (each_of Plans.IsNoWait (changes_in deeds) z.0 h a w);
  once = λ g h a b w. absurd (each_of Plans.IsNoWait (changes_in deeds) z.0 g a w);
  kept = λ w a. inl (subst (λ l. Among l w) (sym z.1.waits) a);
  reaps = λ t. absurd (true≢false (sym t ∙ e));
}

-- Reaping

seeks_more : (d : Deed) (deeds : List Deed) (card : Card) → Seeks deeds card → Seeks (d ∷ deeds) card
seeks_more d deeds card s = record { found = s.found; there = inr s.there; is = s.is }

abbrev SeeksEach : List Mine → List Deed → Type 0
SeeksEach ws deeds = Each (λ w. Seeks deeds (card_of kinds.TimeWait w)) ws × Each Plans.IsNoWait (changes_in deeds)

one_more : (w : Mine) (ws : List Mine) (d : Deed) (deeds : List Deed) → Seeks (d ∷ deeds) (card_of kinds.TimeWait w) → Each Plans.IsNoWait (changes_in (d ∷ deeds)) → SeeksEach ws deeds → SeeksEach (w ∷ ws) (d ∷ deeds)
one_more w ws d deeds s n z =
    ((s, each_weaken (λ v. Seeks deeds (card_of kinds.TimeWait v)) (λ v. Seeks (d ∷ deeds) (card_of kinds.TimeWait v)) ws (λ v. seeks_more d deeds (card_of kinds.TimeWait v)) z.0), n)

seek_each : (ws : List Mine) (count : ℕ) (deeds : List Deed) (r : ℕ) → Goes (op.reap_each ws count) deeds r → SeeksEach ws deeds
seek_each [] count [] r g = (tt, tt)
seek_each [] count (d ∷ deeds) r g = absurd g
seek_each (w ∷ ws) count (reaped c None ∷ deeds) r g =
    let z = seek_each ws count deeds r g.2 in
    one_more w ws (reaped c None) deeds (record { found = None; there = inl (ap (λ k. reaped k None) (sym g.0)); is = tt }) z.1 z
seek_each (w ∷ ws) count (reaped c (Some u) ∷ entered p note ∷ deeds) r g =
    let z = seek_each ws (count + 1) deeds r g.2.2 in
    let y : SeeksEach ws (entered p note ∷ deeds) = (each_weaken (λ v. Seeks deeds (card_of kinds.TimeWait v)) (λ v. Seeks (entered p note ∷ deeds) (card_of kinds.TimeWait v)) ws (λ v. seeks_more (entered p note) deeds (card_of kinds.TimeWait v)) z.0, z.1) in
    one_more w ws (reaped c (Some u)) (entered p note ∷ deeds) (record { found = Some u; there = inl (ap (λ k. reaped k (Some u)) (sym g.0)); is = g.1 }) (Plans.no_unhash u g.1.act, z.1) y
seek_each (w ∷ ws) count (reaped c (Some u) ∷ []) r g = absurd g.2
seek_each (w ∷ ws) count (reaped c (Some u) ∷ inserted wish tried ∷ deeds) r g = absurd g.2
seek_each (w ∷ ws) count (reaped c (Some u) ∷ added card tried ∷ deeds) r g = absurd g.2
seek_each (w ∷ ws) count (reaped c (Some u) ∷ left x ∷ deeds) r g = absurd g.2
seek_each (w ∷ ws) count (reaped c (Some u) ∷ reaped card x ∷ deeds) r g = absurd g.2
seek_each (w ∷ ws) count deeds r g = absurd g

module _ (own next : Own) where
  over_or_kept : (w : Mine) → Among own.waits w → next.waits ≡ op.kept_waits own.waits own.moment → (b : Bool) → is_over own.moment w ≡ b → (deeds : List Deed) → SeeksEach (filter (is_over own.moment) own.waits) deeds
      → Among next.waits w ⊎ Seeks deeds (card_of kinds.TimeWait w)
  over_or_kept w a e true t deeds z = inr (each_of (λ v. Seeks deeds (card_of kinds.TimeWait v)) (filter (is_over own.moment) own.waits) z.0 w (keeps (is_over own.moment) own.waits w t a))
  over_or_kept w a e false t deeds z = inl (subst (λ l. Among l w) (sym e) (keeps (λ v. not (is_over own.moment v)) own.waits w (ap not t) a))

  reaped_turn : (deeds first rest : List Deed) (count : ℕ) (r : Replied) → deeds ≡ first ++ rest → SeeksEach (filter (is_over own.moment) own.waits) first → Goes (ends (answers (record own { waits = op.kept_waits own.waits own.moment }) (replies.Count count))) rest r
      → r.own ≡ next → Turn own next true deeds
  reaped_turn deeds first (d ∷ rest) count r j z e is = absurd e
  reaped_turn deeds first [] count r j z e is =
      let y : SeeksEach (filter (is_over own.moment) own.waits) deeds = subst (SeeksEach (filter (is_over own.moment) own.waits)) (sym (j ∙ append-nil first)) z in
      let to : next ≡ record own { waits = op.kept_waits own.waits own.moment } = sym is ∙ ap (λ (x : Replied). x.own) e in
      record {
        grows = subst (Plans.Grows own) (sym to) (record { number = refl; moment = omega arith; least = omega arith; most = omega arith; names = λ n h. inl h });
        hashes = λ h a w. absurd (each_of Plans.IsNoWait (changes_in deeds) y.1 h a w);
        once = λ g h a b w. absurd (each_of Plans.IsNoWait (changes_in deeds) y.1 g a w);
        kept = λ w a. over_or_kept w a (ap (λ (x : Own). x.waits) to) (is_over own.moment w) refl deeds y;
        reaps = λ t w a o. each_of (λ v. Seeks deeds (card_of kinds.TimeWait v)) (filter (is_over own.moment) own.waits) y.0 w (keeps (is_over own.moment) own.waits w o a);
      }

  reap_turn : (deeds : List Deed) (reply : Reply) → Goes (command.reap_command own) deeds (answers next reply) → Turn own next true deeds
  reap_turn deeds reply g =
      let then_ : ℕ → Asking Replied = λ count. ends (answers (record own { waits = op.kept_waits own.waits own.moment }) (replies.Count count)) in
      let two : InTwo then_ (op.reap own.waits own.moment) deeds (answers next reply) = goes_apart then_ (op.reap own.waits own.moment) deeds (answers next reply) g in
      reaped_turn deeds two.first two.rest two.did (answers next reply) two.joined (seek_each (filter (is_over own.moment) own.waits) 0 two.first two.did two.goes) two.then_ refl

-- Closing

abbrev IsOwn : Own → Replied → Type 0
IsOwn own r = r.own ≡ own

-- after the first of two plans has ended
done_then : (Q : Replied → Type 0) (x : Closed) (next : Closed → Asking Replied) (a : Answer) → Plans.AsksCalmly Q (next x) → Plans.AsksCalmly Q (and_then (op.when_done (ends x) a) next)
done_then Q x next answers_.Done h = h
done_then Q x next (answers_.Group g) h = tt
done_then Q x next (answers_.InUse n) h = tt
done_then Q x next answers_.GroupFull h = tt
done_then Q x next answers_.GroupsFull h = tt
done_then Q x next (answers_.Strange n) h = tt
done_then Q x next (answers_.NotFree n) h = tt

abbrev is_gone : Closed → Type 0
is_gone c = c ≡ gone

module _ (header : Header) (own : Own) (m : Mine) where
  abbrev name : ℕ
  name = m.owner.name

  abbrev w : Mine
  w = op.wait_of m own.moment

  abbrev then_ : Closed → Asking Replied
  then_ closed = ends (command.close_reply own name closed)

  -- once the TIME_WAIT was hashed in that slot
  abbrev waited : ℕ → Mine
  waited slot = op.waits_in header.shape header.seed w slot

  after_hash : (slot : ℕ) → Plans.AsksCalmly (IsOwn (with_wait (without own name) (waited slot))) (and_then (op.close_hashed header.shape header.seed m w (put slot None)) then_)
  after_hash slot = (tt, (tt, λ answer. done_then (IsOwn (with_wait (without own name) (waited slot))) (waiting (waited slot)) then_ answer refl))

  after_none : (owned held : ℕ) → Plans.AsksCalmly (Plans.CalmBy own) (and_then (op.close_hashed header.shape header.seed m w (full owned held)) then_)
  after_none owned held = (tt, (tt, λ answer. done_then (Plans.CalmBy own) (closed_without owned held) then_ answer (Plans.fewer own name)))

  it_or_none : (h c : Change) (rest : List Change) → Each Plans.IsNoWait rest → Among (h ∷ rest) c → Plans.IsWait c → c ≡ h
  it_or_none h c rest z (inl e) i = e
  it_or_none h c rest z (inr a) i = absurd (each_of Plans.IsNoWait rest z c a i)

  among_push : {A : Type 0} (l : List A) (a : A) → Among (l ++ a ∷ []) a
  among_push [] a = inl refl
  among_push (x ∷ xs) a = inr (among_push xs a)

  among_more : {A : Type 0} (l : List A) (a b : A) → Among l b → Among (l ++ a ∷ []) b
  among_more [] a b h = absurd h
  among_more (x ∷ xs) a b (inl e) = inl e
  among_more (x ∷ xs) a b (inr h) = inr (among_more xs a b h)

  hashed_turn : (h : Change) (rest : List Deed) (next : Own) (card : Card) → Open own name → card ≡ card_of kinds.TimeWait w → h.card ≡ card → Each Plans.IsNoWait (changes_in rest) → next ≡ with_wait (without own name) (waited h.slot)
      → Turn own next false (added card (hashed h None) ∷ rest)
  hashed_turn h rest next card was is at none to =
      let named : h.card.name ≡ name = ap (λ (x : Card). x.name) (at ∙ is) in
      let rests : Rests own (with_wait (without own name) (waited h.slot)) h = record {
        wait = waited h.slot;
        there = among_push own.waits (waited h.slot);
        card = at ∙ is;
        stamp = refl;
        was = subst (Open own) (sym named) was;
        gone = λ o. Plans.name_gone name own.sockets (subst (Open (without own name)) named o);
      } in
      record {
        grows = subst (Plans.Grows own) (sym to) (Plans.waiting_more own (without own name) (waited h.slot) (Plans.fewer own name).grows);
        hashes = λ c a i. subst (Rests own next) (sym (it_or_none h c (changes_in rest) none a i)) (subst (λ (o : Own). Rests own o h) (sym to) rests);
        once = λ c d a b i j. it_or_none h c (changes_in rest) none a i ∙ sym (it_or_none h d (changes_in rest) none b j);
        kept = λ v a. inl (subst (λ (o : Own). Among o.waits v) (sym to) (among_more own.waits (waited h.slot) v a));
        reaps = λ t. absurd (true≢false (sym t));
      }

  full_turn : (deeds : List Deed) (next : Own) (reply : Reply) → Open own name → Goes (and_then (op.close_full header.shape header.seed m w) then_) deeds (answers next reply) → Turn own next false deeds
  full_turn [] next reply was g = absurd g
  full_turn (added c (hashed h None) ∷ rest) next reply was g =
      let plan : Asking Replied = and_then (op.close_hashed header.shape header.seed m w (put h.slot None)) then_ in
      let z = Plans.calms (IsOwn (with_wait (without own name) (waited h.slot))) plan (after_hash h.slot) rest (answers next reply) g.2 in
      hashed_turn h rest next c was g.0 (g.1.card_is ∙ sym g.0) z.0 z.1
  full_turn (added c (hashed h (Some u)) ∷ rest) next reply was g = absurd g.1
  full_turn (added c (kept_out n) ∷ rest) next reply was g = absurd g.1
  full_turn (added c (no_slot number owned held) ∷ rest) next reply was g =
      let plan : Asking Replied = and_then (op.close_hashed header.shape header.seed m w (full owned held)) then_ in
      calm_turn own next false (added c (no_slot number owned held) ∷ rest) refl (Plans.calms (Plans.CalmBy own) plan (after_none owned held) rest (answers next reply) g.2)
  full_turn (entered p note ∷ rest) next reply was g = absurd g
  full_turn (inserted wish tried ∷ rest) next reply was g = absurd g
  full_turn (left u ∷ rest) next reply was g = absurd g
  full_turn (reaped c u ∷ rest) next reply was g = absurd g

  gone_own : (c : Closed) → is_gone c → Plans.CalmBy own (command.close_reply own name c)
  gone_own c e = subst (λ x. Plans.CalmBy own (command.close_reply own name x)) (sym e) (Plans.fewer own name)

  dropped_turn : (s : State) (deeds : List Deed) (next : Own) (reply : Reply) → Goes (and_then (op.drop_as s m gone) then_) deeds (answers next reply) → Turn own next false deeds
  dropped_turn s deeds next reply g =
      calm_turn own next false deeds refl
      (Plans.calms (Plans.CalmBy own) (and_then (op.drop_as s m gone) then_)
      (Plans.calm_then is_gone own (op.drop_as s m gone) (command.close_reply own name) (Plans.calm_drop is_gone s m gone refl) gone_own) deeds (answers next reply) g)

  close_turn : (s : State) (deeds : List Deed) (next : Own) (reply : Reply) → Open own name → Goes (and_then (op.close_as header.shape header.seed s m own.moment) then_) deeds (answers next reply) → Turn own next false deeds
  close_turn states.Full deeds next reply was g = full_turn deeds next reply was g
  close_turn states.Unbound deeds next reply was g = dropped_turn states.Unbound deeds next reply g
  close_turn states.Bound deeds next reply was g = dropped_turn states.Bound deeds next reply g
  close_turn states.Listening deeds next reply was g = dropped_turn states.Listening deeds next reply g
  close_turn states.Request deeds next reply was g = dropped_turn states.Request deeds next reply g
  close_turn states.TimeWait deeds next reply was g = dropped_turn states.TimeWait deeds next reply g

-- what a label names is open
all_open : (xs : List Mine) → Each (λ (m : Mine). Among (map name_in xs) m.owner.name) xs
all_open [] = tt
all_open (x ∷ xs) = (inl refl, each_weaken (λ (m : Mine). Among (map name_in xs) m.owner.name) (λ m. Among (map name_in (x ∷ xs)) m.owner.name) xs (λ m a. inr a) (all_open xs))

found_open : (xs : List Mine) (o : Option ℕ) (m : Mine) → option_and_then (λ n. find (is_named n) xs) o ≡ Some m → Among (map name_in xs) m.owner.name
found_open xs None m e = absurd (cc)
found_open xs (Some n) m e = each_found (λ (x : Mine). Among (map name_in xs) x.owner.name) (is_named n) xs m (all_open xs) e

module _ (header : Header) (own next : Own) (deeds : List Deed) (reply : Reply) where
  calmly : (p : Asking Replied) → Plans.AsksCalmly (Plans.CalmBy own) p → Goes p deeds (answers next reply) → Turn own next false deeds
  calmly p h g = calm_turn own next false deeds refl (Plans.calms (Plans.CalmBy own) p h deeds (answers next reply) g)

  closing : (o : Option Mine) → ((m : Mine) → o ≡ Some m → Open own m.owner.name) → Goes (command.close_command header own o) deeds (answers next reply) → Turn own next false deeds
  closing None h g = calmly (command.replies_at_once own replies.Ebadf) (Plans.calm_self own) g
  closing (Some m) h g = close_turn header own m m.owner.state deeds next reply (h m refl) g

  -- each step
  pub turn : (c : Command) → Goes (plan header own c) deeds (answers next reply) → Turn own next (is_reap c) deeds
  unfolding plan
  turn (commands.Socket label options) g = calmly (command.socket_command own label options) (Plans.calm_socket own label options) g
  turn (commands.Bind label end) g = calmly _ (Plans.calm_bind_command own _ end) g
  turn (commands.Listen label) g = calmly _ (Plans.calm_listen_command header own _) g
  turn (commands.Connect label from to) g = calmly _ (Plans.calm_connect_command header own _ from to) g
  turn (commands.Accept listener label from at) g = calmly _ (Plans.calm_accept_command header own label _ from at) g
  turn (commands.Syn listener label from at) g = calmly _ (Plans.calm_syn_command header own label _ from at) g
  turn (commands.Ack request label) g = calmly _ (Plans.calm_ack_command header own label _) g
  turn (commands.Close label) g = closing (open_socket own label) (λ m. found_open own.sockets (name_of own label) m) g
  turn (commands.Drop label) g = calmly _ (Plans.calm_drop_command own _) g
  turn (commands.At moment) g = calmly _ (Plans.calm_at own moment (nat_lt moment own.moment) refl) g
  turn commands.Reap g = reap_turn own next deeds reply g
  turn (commands.Look query) g = absurd g
  turn (commands.Packets count) g = absurd g
  turn commands.Dump g = calmly (ends (answers own replies.Ok)) (Plans.calm_self own) g
