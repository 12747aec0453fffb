-- `socket` and `at`, carried out on tables that mean a list.
use Rattle.std.proofs.Common.{◌≡◌, ◌≢◌, ℕ, ◌+◌, ◌/◌, ◌^◌, ◌<◌, Bool, true, false, cond, ltb, List, [], ◌∷◌, ◌++◌, length, refl, ap, sym, ◌∙◌, subst, arith}
use Rattle.std.proofs.lemmas.List.{length-append}
use Rattle.std.proofs.lemmas.Bool.{eq-eqb}
use Rattle.list_words.proofs.EachLemmas.{each_weaken}
use Rattle.list_words.proofs.TotalLemmas.{total-append}
use Rattle.flat_list.specs.declared.command.Reply.TheVariants as replies
use Rattle.flat_list.specs.declared.owned.Options.{Options}
use Rattle.flat_list.specs.declared.socket.Socket.{Socket}
use Rattle.flat_list.specs.Flat.{Flat}
use Rattle.flat_list.specs.Outcome.{unchanged}
use Rattle.flat_list.specs.Owned.{new_owner}
use Rattle.flat_list.specs.Sections.{Section, name_at, next_name, with_given, with_moment}
use Rattle.flat_list.specs.Sound.{IsSound, NamesDiffer}
use Rattle.flat_list.specs.Step.{socket, new_socket, at as at_moment}
use Rattle.table_model.specs.Tables.{Tables}
use Rattle.table_model.specs.Own.{Own, Mine, with_label, with_new}
use Rattle.table_model.specs.Own as own_words
use Rattle.table_model.specs.Operations.{plain}
use Rattle.table_model.specs.Commands.{socket_command, at_command, replies_at_once, answers}
use Rattle.flat_list.specs.Sockets.{is_open_in}
use Rattle.table_model.specs.Means.{TablesMean, Means, IsNameOf}
use Rattle.table_model.proofs.questions.Asked.{with_sockets}
use Rattle.table_model.proofs.parts.Sections.{with_sections, own_label, own_moment, same_labels, same_moment}
use Rattle.table_model.proofs.parts.NewSocket.{own_new, pairs_last, given_before}
use Rattle.table_model.proofs.commands.Carried.{Carried, groups_kept, cards_kept}
use Rattle.table_model.proofs.parts.Cards.{card_weight, cards_weigh}

-- tables don't mean anything of sections
pub sections_kept : (t : Tables) (flat : Flat) (sections : List Section) → TablesMean t flat → TablesMean t (with_sections flat sections)
sections_kept t flat sections h = record {
  owners = record { count = h.owners.count; owners = h.owners.owners; keys = h.owners.keys };
  chains = cards_kept t.chains flat (with_sections flat sections) refl (λ f. refl) h.chains;
  groups = groups_kept t t.buckets flat (with_sections flat sections) refl refl h.groups;
}

module _ (n : ℕ) (own : Own) (t : Tables) (flat : Flat) (h : Means n own t flat) where
  at_by : (moment : ℕ) (b : Bool)
      → Carried n t (cond b (replies_at_once own replies.Einval) (replies_at_once (record own { moment = moment }) replies.Ok))
      (cond b (unchanged flat replies.Einval) (unchanged (with_sections flat (with_moment flat.header n moment flat.sections)) replies.Ok))
  at_by moment true = record { ended = record { tables = t; result = answers own replies.Einval }; runs = refl; reply = refl; means = λ sound. h }
  at_by moment false = record {
    ended = record { tables = t; result = answers (record own { moment = moment }) replies.Ok };
    runs = refl;
    reply = refl;
    means = λ sound. record {
      shape = h.shape;
      sound = sound;
      tables = sections_kept t flat (with_moment flat.header n moment flat.sections) h.tables;
      own_is = own_moment n own t flat h.own_is moment;
    };
  }

  -- `at`
  pub at_mine : (moment : ℕ) → Carried n t (at_command own moment) (at_moment flat n moment)
  at_mine moment =
      subst (λ (k : ℕ). Carried n t (at_command own moment) (cond (ltb moment k) (unchanged flat replies.Einval) (unchanged (with_sections flat (with_moment flat.header n moment flat.sections)) replies.Ok)))
      (sym (same_moment n own t flat h.own_is)) (at_by moment (ltb moment own.moment))

  -- `socket`
  module _ (label : List ℕ) (options : Options) (few : length own.labels + 1 < 2 ^ 56) where
    abbrev name : ℕ
    name = name_at n (length own.labels)

    abbrev new : Socket
    new = new_socket name options

    abbrev given : Flat
    given = with_sections flat (with_given flat.header n label flat.sections)

    abbrev after : Flat
    after = with_sockets given (given.sockets ++ new ∷ [])

    one_more : length (own.labels ++ label ∷ []) ≡ length own.labels + 1
    one_more = omega (arith, length-append own.labels (label ∷ []))

    of_section : is_open_in n new ≡ true
    of_section = eq-eqb (name / 2 ^ 56) n (omega (arith, few))

    socket_tables : TablesMean t after
    socket_tables =
        let m : TablesMean t given = sections_kept t flat (with_given flat.header n label flat.sections) h.tables in
        record {
          owners = record {
            count = m.owners.count;
            owners = λ f. m.owners.owners f ∙ sym (total-append _ flat.sockets (new ∷ []) ∙ omega arith);
            keys = m.owners.keys;
          };
          chains = cards_kept t.chains given after refl
              (λ f. omega (arith, cards_weigh flat.groups f (flat.sockets ++ new ∷ []), cards_weigh flat.groups f flat.sockets, total-append (card_weight flat.groups f) flat.sockets (new ∷ []))) m.chains;
          groups = groups_kept t t.buckets given after refl refl m.groups;
        }

    socket_means : IsSound after → Means n (with_new (with_label own label) (plain (new_owner name 0 options))) t after
    socket_means sound = record {
      shape = h.shape;
      sound = sound;
      tables = socket_tables;
      own_is = own_new n (with_label own label) t t given new (plain (new_owner name 0 options)) (own_label n own t flat h.own_is label one_more) refl of_section refl
          (pairs_last NamesDiffer flat.sockets new sound.names)
          (each_weaken (λ (w : Mine). IsNameOf n (length own.labels) w.owner.name) (λ (w : Mine). w.owner.name ≢ name) own.waits (λ w g. given_before n (length own.labels) w.owner.name g) h.own_is.given)
          tt h.own_is.stand;
    }

    abbrev socket_as : ℕ → ℕ → ℕ → Type 0
    socket_as mark k j =
        Carried n t (replies_at_once (with_new (with_label own label) (plain (new_owner k mark options))) replies.Ok)
        (record { flat = with_sections (with_sockets flat (flat.sockets ++ new_socket j options ∷ [])) (with_given flat.header n label flat.sections); reply = replies.Ok })

    socket_here : socket_as 0 name name
    socket_here = record {
      ended = record { tables = t; result = answers (with_new (with_label own label) (plain (new_owner name 0 options))) replies.Ok };
      runs = refl;
      reply = refl;
      means = socket_means;
    }

    -- one more socket, and one more label
    pub socket_mine : Carried n t (socket_command own label options) (socket flat n label options)
    socket_mine =
        let own_name : own_words.next_name own ≡ name = ap (λ (k : ℕ). name_at k (length own.labels)) h.own_is.number in
        let flat_name : next_name n flat.sections ≡ name = ap (λ (l : List (List ℕ)). name_at n (length l)) (same_labels n own t flat h.own_is) in
        subst (λ (k : ℕ). socket_as own.mark k (next_name n flat.sections)) (sym own_name)
        (subst (socket_as own.mark name) (sym flat_name) (subst (λ (mark : ℕ). socket_as mark name name) (sym h.own_is.unmarked) socket_here))
