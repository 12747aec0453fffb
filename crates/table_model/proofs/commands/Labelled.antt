-- A command under a label that it gives: that label's name, and what is left where it is refused.
use Rattle.std.proofs.Common.{◌≡◌, ◌≢◌, ℕ, ◌+◌, ◌/◌, ◌%◌, ◌^◌, ◌<◌, Bool, true, false, cond, List, [], ◌∷◌, ◌++◌, length, Some, refl, ap, sym, ◌∙◌, subst, arith}
use Rattle.std.proofs.lemmas.List.{length-append}
use Rattle.list_words.specs.Lists.{Each}
use Rattle.list_words.proofs.EachLemmas.{each_weaken}
use Rattle.flat_list.specs.declared.command.Reply.TheVariants as replies
use Rattle.flat_list.specs.declared.socket.Socket.{Socket}
use Rattle.flat_list.specs.Flat.{Flat}
use Rattle.flat_list.specs.Outcome.{Outcome, unchanged}
use Rattle.flat_list.specs.Sections.{name_at, next_name, with_given, labels_of}
use Rattle.flat_list.specs.Sound.{IsSound, IsGiven}
use Rattle.table_model.specs.declared.operation.OpEnd.TheVariants as errors
use Rattle.table_model.specs.Asking.{Asking, ends, and_then}
use Rattle.table_model.specs.Tables.{Tables, Ended, run}
use Rattle.table_model.specs.Own as own_words
use Rattle.table_model.specs.Own.{Own, Mine, with_label}
use Rattle.table_model.specs.Operations.{Did, refused}
use Rattle.table_model.specs.Commands.{Replied, answers}
use Rattle.table_model.specs.Means.{OwnMeans, Means, IsNameOf}
use Rattle.table_model.proofs.parts.NewSocket.{given_before}
use Rattle.table_model.proofs.parts.Sections.{with_sections, same_labels, own_label}
use Rattle.table_model.proofs.questions.Run.{Comes, comes_ends, comes_then}
use Rattle.table_model.proofs.commands.Carried.{Carried}
use Rattle.table_model.proofs.commands.Connect.{Good, carried}
use Rattle.table_model.proofs.commands.SocketAndAt.{sections_kept}

module _ (n : ℕ) (own : Own) (t : Tables) (flat : Flat) (h : Means n own t flat) where
  -- the name of the next label
  abbrev pub new_name : ℕ
  new_name = name_at n (length own.labels)

  -- to the section and to the list it is the same
  own_name : own_words.next_name own ≡ new_name
  own_name = ap (λ (k : ℕ). name_at k (length own.labels)) h.own_is.number

  flat_name : next_name n flat.sections ≡ new_name
  flat_name = ap (λ (l : List (List ℕ)). name_at n (length l)) (same_labels n own t flat h.own_is)

  -- so what is carried out under that name is carried out under the section's and the list's
  pub under_name : (plan : ℕ → Asking Replied) (out : ℕ → Outcome) → Carried n t (plan new_name) (out new_name) → Carried n t (plan (own_words.next_name own)) (out (next_name n flat.sections))
  under_name plan out c =
      subst (λ (j : ℕ). Carried n t (plan j) (out (next_name n flat.sections))) (sym own_name) (subst (λ (k : ℕ). Carried n t (plan new_name) (out k)) (sym flat_name) c)

  module _ (few : length own.labels + 1 < 2 ^ 56) where
    is_new : (s : Socket) → IsGiven flat.sections s → s.owner.name ≢ new_name
    is_new s given = λ e.
        let section : s.owner.name / 2 ^ 56 ≡ n = omega (arith, e, few) in
        let place : s.owner.name % 2 ^ 56 ≡ length own.labels + 1 = omega (arith, e, few) in
        let count : length (labels_of (s.owner.name / 2 ^ 56) flat.sections) ≡ length own.labels = ap (λ (k : ℕ). length (labels_of k flat.sections)) section ∙ ap (λ (l : List (List ℕ)). length l) (same_labels n own t flat h.own_is) in
        absurd (omega (arith, given.last, place, count))

    -- it is the name of no socket in the list
    pub fresh_name : Each (λ (x : Socket). x.owner.name ≢ new_name) flat.sockets
    fresh_name = each_weaken (IsGiven flat.sections) (λ (x : Socket). x.owner.name ≢ new_name) flat.sockets is_new h.sound.given

    -- of section n
    pub new_section : new_name / 2 ^ 56 ≡ n
    new_section = omega (arith, few)

  -- and of none that the section left in TIME_WAIT
  pub fresh_wait : Each (λ (w : Mine). w.owner.name ≢ new_name) own.waits
  fresh_wait =
      each_weaken (λ (w : Mine). IsNameOf n (length own.labels) w.owner.name) (λ (w : Mine). w.owner.name ≢ new_name) own.waits
      (λ w g. given_before n (length own.labels) w.owner.name g) h.own_is.given

  module _ (label : List ℕ) where
    -- the list and the section with one label more
    abbrev pub given : Flat
    given = with_sections flat (with_given flat.header n label flat.sections)

    pub one_more : length (own.labels ++ label ∷ []) ≡ length own.labels + 1
    one_more = omega (arith, length-append own.labels (label ∷ []))

    pub labelled : OwnMeans n (with_label own label) t given
    labelled = own_label n own t flat h.own_is label one_more

    -- a label was given, and nothing else
    pub refused_means : IsSound given → Means n (with_label own label) t given
    refused_means sound = record { shape = h.shape; sound = sound; tables = sections_kept t flat (with_given flat.header n label flat.sections) h.tables; own_is = labelled }

    -- where a label that the command names names no open socket
    pub no_such_socket : Carried n t (ends (answers (with_label own label) replies.Ebadf)) (unchanged given replies.Ebadf)
    no_such_socket = record { ended = record { tables = t; result = answers (with_label own label) replies.Ebadf }; runs = refl; reply = refl; means = refused_means }

    -- an operation, with its reply
    module _ (reply : Did → Replied) where
      -- its end is good, once it is replied to
      abbrev pub GoodBy : Outcome → Ended Did → Type 0
      GoodBy out e = Good n out (record { tables = e.tables; result = reply e.result })

      -- the operation, unless EINVAL refuses it
      abbrev pub unless : Bool → Asking Did → Asking Replied
      unless invalid p = and_then (cond invalid (ends (refused errors.Inval)) p) (λ did. ends (reply did))

      -- it is carried out
      pub carried_unless : reply (refused errors.Inval) ≡ answers (with_label own label) replies.Einval → (invalid : Bool) (p : Asking Did) (out : Outcome) → (invalid ≡ false → Comes t p (GoodBy out))
          → Carried n t (unless invalid p) (cond invalid (unchanged given replies.Einval) out)
      carried_unless refusal true p out c = record {
        ended = record { tables = t; result = reply (refused errors.Inval) };
        runs = refl;
        reply = ap (λ (r : Replied). r.reply) refusal;
        means = λ sound. subst (λ (r : Replied). Means n r.own t given) (sym refusal) (refused_means sound);
      }
      carried_unless refusal false p out c =
          carried n t (and_then p (λ did. ends (reply did))) out
          (comes_then t p (λ did. ends (reply did)) (GoodBy out) (Good n out) (c refl) (λ e good. comes_ends e.tables (reply e.result) (Good n out) good))

      -- it comes to an end
      pub ends_unless : (invalid : Bool) (p : Asking Did) → (invalid ≡ false → Comes t p (λ e. Unit {0})) → (ended : Ended Replied) × (run t (unless invalid p) ≡ Some ended)
      ends_unless true p c = (record { tables = t; result = reply (refused errors.Inval) }, refl)
      ends_unless false p c =
          let whole : Comes t (and_then p (λ did. ends (reply did))) (λ e. Unit {0}) =
          comes_then t p (λ did. ends (reply did)) (λ e. Unit {0}) (λ e. Unit {0}) (c refl) (λ e x. comes_ends e.tables (reply e.result) (λ e. Unit {0}) tt) in
          (whole.0, whole.1)
