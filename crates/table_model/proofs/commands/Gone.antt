-- A socket of a section's own is gone from the tables, as from the list.
use Rattle.std.proofs.Common.{◌≡◌, ◌≢◌, ℕ, ◌+◌, ◌/◌, ◌%◌, ◌^◌, ◌<◌, ◌≤◌, Bool, true, false, ◌&&◌, not, cond, List, [], ◌∷◌, length, Option, Some, None, refl, ap, sym, ◌∙◌, subst, arith}
use Rattle.std.specs.List.{list_any}
use Rattle.std.proofs.lemmas.Bool.{eq-eqb, both_ways, cond-true, cond-false, lt-ltb}
use Rattle.list_words.specs.Lists.{Each, Pairs, total}
use Rattle.list_words.proofs.EachLemmas.{each_weaken, each_of_all}
use Rattle.sock_card.specs.declared.card.Card.{Card}
use Rattle.sock_card.specs.declared.card.Kind.{Kind}
use Rattle.sock_card.specs.declared.card.Kind.TheVariants as kinds
use Rattle.sock_card.specs.declared.owner.Owner.{Owner}
use Rattle.sock_card.specs.declared.owner.State.{State}
use Rattle.sock_card.specs.declared.owner.State.TheVariants as states
use Rattle.sock_card.specs.Conflict.{owner_key, is_listening}
use Rattle.bind_buckets.specs.declared.request.Request.TheVariants as requests
use Rattle.chain_book.specs.declared.outcome.Hashed.{Hashed}
use Rattle.chain_book.specs.Chains.{Chains, unhashed}
use Rattle.flat_list.specs.declared.socket.Socket.{Socket}
use Rattle.flat_list.specs.Flat.{Flat}
use Rattle.flat_list.specs.Groups.{Group, has_member, leave, leave_group, left_by, has_members}
use Rattle.flat_list.specs.Look.{extra_as}
use Rattle.flat_list.specs.Owned.{card_as}
use Rattle.flat_list.specs.Sockets.{has_name, is_owner, kind_of, without, is_open_in}
use Rattle.flat_list.specs.Sound.{is_sharing, IsSound, IsGroupOf}
use Rattle.table_model.specs.Tables.{Tables, with_chains}
use Rattle.bind_buckets.specs.BindHash.{asked_at}
use Rattle.table_model.specs.Own as own_words
use Rattle.table_model.specs.Own.{Own, Mine}
use Rattle.table_model.specs.Means.{ChainsMean, OwnMeans, Means, StandsAs, owns, stands_in_some}
use Rattle.table_model.proofs.lists.Passing.{Only, total_each}
use Rattle.table_model.proofs.parts.Buckets.{owners_kept}
use Rattle.table_model.proofs.parts.Chains.{holds, weighing}
use Rattle.table_model.proofs.parts.Cards.{card_weight, weigh_as, cards_weigh, only_named}
use Rattle.table_model.proofs.parts.Places.{stands_test, StandsThere, stands_there, left_means, stand_unhashed}
use Rattle.table_model.proofs.parts.MemberPlaces.{some_unhashed}
use Rattle.table_model.proofs.lists.Listed.{Listed, without_weighs}
use Rattle.table_model.proofs.questions.Requests.{remove_means}
use Rattle.table_model.proofs.commands.Carried.{cards_kept}
use Rattle.table_model.proofs.parts.GroupCards.{extra_of, extra_left}
use Rattle.table_model.proofs.parts.Groups.{groups_stay, others_grouped}
use Rattle.table_model.proofs.parts.FreePlace.{HasSome}
use Rattle.table_model.proofs.questions.WhichGroup.{in_no_group}
use Rattle.table_model.proofs.parts.OwnGoes.{each_keep_if, own_gone, section_is}
use Rattle.table_model.proofs.questions.GroupRequests.{removed_means, no_name_left}

weigh_extra : (f : Card → ℕ) (k : Option Kind) (o : Owner) (e e' : Kind → ℕ) → ((kind : Kind) → e' kind ≡ e kind) → weigh_as f k o e' ≡ weigh_as f k o e
weigh_extra f None o e e' h = refl
weigh_extra f (Some kind) o e e' h = ap (λ x. f (card_as kind o x)) (h kind)

extra_same : (groups groups' : List Group) (s : Socket) → extra_of s.owner.name groups' ≡ extra_of s.owner.name groups → (kind : Kind) → extra_as kind groups' s ≡ extra_as kind groups s
extra_same groups groups' s h kinds.Listen = h
extra_same groups groups' s h kinds.Full = refl
extra_same groups groups' s h kinds.TimeWait = refl
extra_same groups groups' s h kinds.Request = refl

-- a card of a socket whose group is the same weighs the same
pub weight_same : (groups groups' : List Group) (f : Card → ℕ) (s : Socket) → extra_of s.owner.name groups' ≡ extra_of s.owner.name groups → card_weight groups' f s ≡ card_weight groups f s
weight_same groups groups' f s h =
    weigh_extra f (kind_of s.owner.state) s.owner (λ kind. extra_as kind groups s) (λ kind. extra_as kind groups' s) (extra_same groups groups' s h)

-- without a socket, the cards weigh less by its own
pub weighs_less : (flat : Flat) (sound : IsSound flat) (name : ℕ) (s : Socket) → Listed name flat.sockets s
    → (f : Card → ℕ) → weighing (record flat { sockets = without name flat.sockets; groups = leave name flat.groups }) f + card_weight flat.groups f s ≡ weighing flat f
weighs_less flat sound name s at f =
    let groups : List Group = leave name flat.groups in
    let differ : Each (λ (g : Group). Pairs (λ a b. a ≢ b) g.members) flat.groups = each_weaken (IsGroupOf flat.header.shape.bind flat.sockets) (λ (g : Group). Pairs (λ a b. a ≢ b) g.members) flat.groups (λ g h. h.differ) sound.grouped.each in
    let same : total (card_weight groups f) (without name flat.sockets) ≡ total (card_weight flat.groups f) (without name flat.sockets) =
    total_each (card_weight groups f) (card_weight flat.groups f) (without name flat.sockets)
    (each_keep_if (λ (x : Socket). card_weight groups f x ≡ card_weight flat.groups f x) (λ x. not (has_name name x)) flat.sockets
    (each_of_all (λ (x : Socket). not (has_name name x) ≡ true → card_weight groups f x ≡ card_weight flat.groups f x) flat.sockets
    (λ x e. weight_same flat.groups groups f x (extra_left name x.owner.name flat.groups differ (λ q. both_ways (not (has_name name x)) (ap not (eq-eqb x.owner.name name (sym q))) e))))) in
    omega (
      arith,
      cards_weigh groups f (without name flat.sockets),
      same,
      without_weighs name (card_weight flat.groups f) s flat.sockets sound.names at,
      cards_weigh flat.groups f flat.sockets,
    )

-- who stands elsewhere stays, as a section's own card is unhashed
pub stays_unhashed : (c : Chains) (flat : Flat) (mean : ChainsMean c flat) (m : Mine) (kind : Kind) → StandsAs c m (Some kind) → (y : Mine) (k : Option Kind) → m.owner.name ≢ y.owner.name → StandsAs c y k → StandsAs (unhashed c m.place) y k
stays_unhashed c flat mean m kind st y k d sy =
    let there = stands_there c m kind st in
    let x : Hashed = there.0 in
    let is : StandsThere c m x = there.1 in
    subst (λ (slot : ℕ). StandsAs (unhashed c (record { bucket = m.place.bucket; slot = slot })) y k) is.slot
    (stand_unhashed c flat.header.shape flat.header.seed (weighing flat) (holds c flat mean) m.place.bucket (stands_test m) x is.found y (λ e. d (sym is.name ∙ e)) k sy)

-- and so do members of other names
pub words_unhashed : (c : Chains) (flat : Flat) (mean : ChainsMean c flat) (m : Mine) (kind : Kind) → StandsAs c m (Some kind) → (w : ℕ) → w % 2 ^ 64 ≢ m.owner.name → stands_in_some w c.rows ≡ true → stands_in_some w (unhashed c m.place).rows ≡ true
words_unhashed c flat mean m kind st w d sw =
    let there = stands_there c m kind st in
    let x : Hashed = there.0 in
    let is : StandsThere c m x = there.1 in
    subst (λ (slot : ℕ). stands_in_some w (unhashed c (record { bucket = m.place.bucket; slot = slot })).rows ≡ true) is.slot
    (some_unhashed c flat.header.shape flat.header.seed (weighing flat) (holds c flat mean) m.place.bucket (stands_test m) x is.found w (λ e. d (sym e ∙ is.name)) sw)

kept_group : (name : ℕ) (g : Group) (gs : List Group) → has_member name g ≡ false → HasSome g → leave name gs ≡ gs → leave name (g ∷ gs) ≡ g ∷ gs
kept_group name g gs none some later =
    let same : leave_group name g ≡ g = cond-false (has_member name g) (record g { members = left_by name g.members }) g none in
    ap (λ (x : Group). cond (has_members x) (x ∷ leave name gs) (leave name gs)) same
    ∙ (cond-true (has_members g) (g ∷ leave name gs) (leave name gs) (lt-ltb 0 (length g.members) some) ∙ ap (λ l. g ∷ l) later)

-- who is in no group leaves none
leave_none : (name : ℕ) (groups : List Group) → Each (λ g. has_member name g ≡ false) groups → Each HasSome groups → leave name groups ≡ groups
leave_none name [] none some = refl
leave_none name (g ∷ groups) none some = kept_group name g groups none.0 some.0 (leave_none name groups none.1 some.1)

not_listening : (st : State) → is_owner st ≡ false → is_listening st ≡ false
not_listening states.Unbound h = refl
not_listening states.Bound h = absurd (cc)
not_listening states.Listening h = absurd (cc)
not_listening states.Full h = absurd (cc)
not_listening states.TimeWait h = absurd (cc)
not_listening states.Request h = refl

module _ (n : ℕ) (own : Own) (t : Tables) (flat : Flat) (h : Means n own t flat) (near : n ≤ 255) (s : Socket) (at : Listed s.owner.name flat.sockets s) (mine : is_open_in n s ≡ true) where
  abbrev name : ℕ
  name = s.owner.name

  abbrev left : Flat
  left = record flat { sockets = without name flat.sockets; groups = leave name flat.groups }

  small : name < 2 ^ 64
  small = let section : name / 2 ^ 56 ≡ n = section_is n own t flat h.own_is h.sound s at mine in omega (arith, section, near)

  gone : list_any (has_name name) left.sockets ≡ false
  gone = no_name_left name flat.sockets

  -- chains that the socket has left
  pub record HasLeft (chains : Chains) : Type 0 where
    pub means : ChainsMean chains left
    pub others : (y : Mine) (k : Option Kind) → name ≢ y.owner.name → StandsAs t.chains y k → StandsAs chains y k
    pub words : (w : ℕ) → w % 2 ^ 64 ≢ name → stands_in_some w t.chains.rows ≡ true → stands_in_some w chains.rows ≡ true

  -- its card is unhashed
  pub left_unhashed : (m : Mine) (kind : Kind) → m.owner ≡ s.owner → StandsAs t.chains m (Some kind) → HasLeft (unhashed t.chains m.place)
  left_unhashed m kind same st =
      let named : m.owner.name ≡ name = ap (λ (o : Owner). o.name) same in
      record {
        means =
            left_means t.chains flat left m kind s h.tables.chains refl st
            (subst (λ (k : ℕ). Only (has_name k) s flat.sockets) (sym named) (only_named (has_name name) flat.sockets s name at refl h.sound.names))
            (weighs_less flat h.sound name s at);
        others = λ y k d sy. stays_unhashed t.chains flat h.tables.chains m kind st y k (λ e. d (sym named ∙ e)) sy;
        words = λ w d sw. words_unhashed t.chains flat h.tables.chains m kind st w (λ e. d (e ∙ named)) sw;
      }

  -- or it has none
  pub left_unhashed_none : kind_of s.owner.state ≡ None → HasLeft t.chains
  left_unhashed_none none = record {
    means = cards_kept t.chains flat left refl
        (λ f.
        let less = weighs_less flat h.sound name s at f in
        omega (arith, less, ap (λ (k : Option Kind). weigh_as f k s.owner (λ kind. extra_as kind flat.groups s)) none)) h.tables.chains;
    others = λ y k d sy. sy;
    words = λ w d sw. sw;
  }

  abbrev own' : Own
  own' = own_words.without own name

  own_left : (t' : Tables) → ((y : Mine) (k : Option Kind) → name ≢ y.owner.name → StandsAs t.chains y k → StandsAs t'.chains y k) → OwnMeans n own' t' left
  own_left t' keeps =
      own_gone n own t flat h.own_is h.sound s at mine t' (leave name flat.groups)
      (each_weaken (λ (x : Mine). StandsAs t.chains x (kind_of x.owner.state)) (λ (x : Mine). name ≢ x.owner.name → StandsAs t'.chains x (kind_of x.owner.state)) own.sockets
      (λ x st d. keeps x (kind_of x.owner.state) d st) h.own_is.stand)

  -- the socket leaves its port, and is gone
  pub leaves_port : is_owner s.owner.state ≡ true → (chains : Chains) → HasLeft chains → IsSound left
      → Means n own' (record { buckets = asked_at t.buckets (owner_key s.owner) (requests.Remove name); chains = chains }) left
  leaves_port owner chains has sound =
      let om = remove_means t.buckets flat h.tables.owners h.shape.bind h.sound.names name s at owner in
      let t' : Tables = record { buckets = asked_at t.buckets (owner_key s.owner) (requests.Remove name); chains = chains } in
      record {
        shape = h.shape;
        sound = sound;
        tables = record {
          owners = record { count = om.count; owners = om.owners; keys = om.keys };
          chains = has.means;
          groups = removed_means t flat h.tables.owners h.tables.groups h.shape.bind h.sound name s at owner small chains left refl sound gone (λ w g d sw. has.words w d sw);
        };
        own_is = own_left t' has.others;
      }

  -- where it has no port, it is gone at once
  pub leaves_nothing : is_owner s.owner.state ≡ false → (chains : Chains) → HasLeft chains → IsSound left → Means n own' (with_chains t chains) left
  leaves_nothing unbound chains has sound =
      let sharing : is_sharing s ≡ false = ap (λ (b : Bool). b && s.owner.reuseport) (not_listening s.owner.state unbound) in
      let ungrouped : Each (λ (g : Group). has_member name g ≡ false) flat.groups = in_no_group flat h.sound (has_name name) s at sharing in
      let none_leave : leave name flat.groups ≡ flat.groups = leave_none name flat.groups ungrouped
      (each_weaken (IsGroupOf flat.header.shape.bind flat.sockets) HasSome flat.groups (λ g x. x.some) h.sound.grouped.each) in
      record {
        shape = h.shape;
        sound = sound;
        tables = record {
          owners = owners_kept t.buckets flat h.tables.owners h.shape.bind left refl
              (λ f. omega (arith, without_weighs name (owns f) s flat.sockets h.sound.names at, ap (λ (b : Bool). cond {A = ℕ} b (f s.owner) 0) unbound));
          chains = has.means;
          groups = groups_stay t (with_chains t chains) flat left h.tables.groups refl none_leave (λ w g st. has.words w (others_grouped name flat.groups ungrouped (w % 2 ^ 64) g) st);
        };
        own_is = own_left (with_chains t chains) has.others;
      }
