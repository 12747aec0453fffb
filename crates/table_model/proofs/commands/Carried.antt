-- A command's plan carried out on tables that mean a list: what it comes to, beside what the list comes to.
use Rattle.std.proofs.Common.{◌≡◌, ℕ, ◌+◌, ◌*◌, true, List, [], length, map, get_or, Option, Some, refl, ap, sym, ◌∙◌, subst, arith}
use Rattle.std.specs.Prelude.{option_and_then}
use Rattle.std.proofs.Math.ListN.{get_or-map}
use Rattle.std.proofs.lemmas.List.{length-map}
use Rattle.list_words.specs.Lists.{Each, total}
use Rattle.list_words.proofs.EachLemmas.{each_map, some_same, each_unmap}
use Rattle.sock_card.specs.declared.card.Card.{Card}
use Rattle.bind_buckets.specs.Journal.{Standing}
use Rattle.chain_book.specs.Chains.{Chains, insert_outcome, add_outcome, hashed, unhashed, waiting}
use Rattle.flat_list.specs.declared.header.Header.{Header}
use Rattle.flat_list.specs.declared.command.Command.{Command}
use Rattle.flat_list.specs.Flat.{Flat}
use Rattle.flat_list.specs.Look.{cards_of}
use Rattle.flat_list.specs.Outcome.{Outcome}
use Rattle.flat_list.specs.Sound.{IsSound}
use Rattle.flat_list.specs.Step.{step}
use Rattle.table_model.specs.Asking.{Asking, ends, asks, inserts, adds, unhashes, reaps, impossible, and_then}
use Rattle.table_model.specs.Tables.{Tables, Ended, with_buckets, with_chains, reaped, was_found, run}
use Rattle.bind_buckets.specs.BindHash.{asked_at, answer_at, untouched}
use Rattle.table_model.specs.Own.{Own}
use Rattle.table_model.specs.Commands.{Replied}
use Rattle.table_model.specs.Means.{ChainsMean, GroupsMean, OwnMeans, Means, Refines, names_in, members_of, stands_in_some}
use Rattle.table_model.proofs.questions.Asked.{groups_in}
use Rattle.table_model.proofs.parts.Chains.{cards_count}

module _ {R S : Type 0} (next : R → Asking S) where
  -- what is next, on the tables that one plan left
  abbrev pub goes_on : Option (Ended R) → Option (Ended S)
  goes_on o = option_and_then (λ (e : Ended R). run e.tables (next e.result)) o

  -- one plan, and then the next
  pub run_and_then : (t : Tables) (p : Asking R) → run t (and_then p next) ≡ goes_on (run t p)
  run_and_then t (ends r) = refl
  run_and_then t (asks port request then_) = run_and_then (with_buckets t (asked_at t.buckets port request)) (then_ (answer_at t.buckets port request))
  run_and_then t (inserts card moment rule then_) =
      run_and_then (with_chains t (hashed t.chains card (insert_outcome t.chains card moment rule))) (then_ (insert_outcome t.chains card moment rule))
  run_and_then t (adds card then_) = run_and_then (with_chains t (hashed t.chains card (add_outcome t.chains))) (then_ (add_outcome t.chains))
  run_and_then t (unhashes place card then_) = run_and_then (with_chains t (unhashed t.chains place)) then_
  run_and_then t (reaps card then_) = run_and_then (with_chains t (reaped t.chains card (waiting t.chains card))) (then_ (was_found (waiting t.chains card)))
  run_and_then t impossible = refl

-- the plan ends; its reply is the list's, and what it leaves means what the list leaves, where that is sound
pub record Carried (n : ℕ) (t : Tables) (plan : Asking Replied) (out : Outcome) : Type 0 where
  pub ended : Ended Replied
  pub runs : run t plan ≡ Some ended
  pub reply : ended.result.reply ≡ out.reply
  pub means : IsSound out.flat → Means n ended.result.own ended.tables out.flat

-- so it refines the list's step
pub refines : (n : ℕ) (t : Tables) (plan : Asking Replied) (flat : Flat) (command : Command) (ended : Ended Replied) → Carried n t plan (step flat n command)
    → IsSound (step flat n command).flat → run t plan ≡ Some ended → Refines n ended flat command
refines n t plan flat command ended c sound is =
    let same : c.ended ≡ ended = some_same c.ended ended (sym c.runs ∙ is) in
    subst (λ (e : Ended Replied). Refines n e flat command) same (record { reply = c.reply; means = c.means sound })

-- buckets with the groups that they had
pub groups_kept : (t : Tables) (buckets : List Standing) (flat flat' : Flat) → map groups_in buckets ≡ map groups_in t.buckets → flat'.groups ≡ flat.groups
    → GroupsMean t flat → GroupsMean (with_buckets t buckets) flat'
groups_kept t buckets flat flat' is same h =
    let count : length buckets ≡ length t.buckets = sym (length-map buckets groups_in) ∙ (ap (λ (l : List (List (List ℕ))). length l) is ∙ length-map t.buckets groups_in) in
    record {
      members = λ number place near eight.
          let there : (get_or buckets number untouched).held.groups ≡ (get_or t.buckets number untouched).held.groups =
          sym (get_or-map groups_in buckets number untouched) ∙ (ap (λ (l : List (List (List ℕ))). get_or l number (groups_in untouched)) is ∙ get_or-map groups_in t.buckets number untouched) in
          ap (λ (l : List (List ℕ)). names_in (get_or l place [])) there
          ∙ (h.members number place (omega (arith, near, count)) eight ∙ ap (members_of (8 * number + place)) (sym same));
      places =
          each_unmap (λ (l : List (List ℕ)). length l ≡ 8) groups_in buckets
          (subst (Each (λ (l : List (List ℕ)). length l ≡ 8)) (sym is) (each_map (λ (l : List (List ℕ)). length l ≡ 8) groups_in t.buckets h.places));
      stand =
          each_unmap (λ (l : List (List ℕ)). Each (λ members. Each (λ m. stands_in_some m t.chains.rows ≡ true) members) l) groups_in buckets
          (subst (Each (λ (l : List (List ℕ)). Each (λ members. Each (λ m. stands_in_some m t.chains.rows ≡ true) members) l)) (sym is)
          (each_map (λ (l : List (List ℕ)). Each (λ members. Each (λ m. stands_in_some m t.chains.rows ≡ true) members) l) groups_in t.buckets h.stand));
    }

-- a list with the same cards
pub cards_kept : (chains : Chains) (flat flat' : Flat) → flat'.header ≡ flat.header
    → ((f : Card → ℕ) → total f (cards_of flat'.groups flat'.sockets) ≡ total f (cards_of flat.groups flat.sockets)) → ChainsMean chains flat → ChainsMean chains flat'
cards_kept chains flat flat' head same h = record {
  shape = h.shape ∙ sym (ap (λ (x : Header). x.shape) head);
  seed = h.seed ∙ sym (ap (λ (x : Header). x.seed) head);
  count = h.count;
  cards = λ f. h.cards f ∙ sym (same f);
  homes = h.homes;
  slots = h.slots ∙ sym (ap (λ (x : Header). x.shape.slots) head);
  alone = h.alone;
  used = h.used ∙ (sym (cards_count flat.groups flat.sockets) ∙ (sym (same (λ (c : Card). 1)) ∙ cards_count flat'.groups flat'.sockets));
  next = h.next;
}

-- what a section knows of itself stays, as buckets change
pub own_kept : (n : ℕ) (own : Own) (t : Tables) (buckets : List Standing) (flat : Flat) → OwnMeans n own t flat → OwnMeans n own (with_buckets t buckets) flat
own_kept n own t buckets flat h = record {
  number = h.number;
  unmarked = h.unmarked;
  section = h.section;
  range = h.range;
  offset = h.offset;
  sockets = h.sockets;
  stand = h.stand;
  waits = h.waits;
  names = h.names;
  given = h.given;
}
