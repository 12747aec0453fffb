-- A section with a new socket.
use Rattle.std.proofs.Common.{◌≡◌, ◌+◌, ◌^◌, ◌<◌, ℕ, List, [], ◌∷◌, length, length-append, Some, refl, sym, ap, subst, arith}
use Rattle.flat_list.specs.declared.header.Header.{Header}
use Rattle.flat_list.specs.declared.owned.Options.{Options}
use Rattle.flat_list.specs.declared.command.Reply.TheVariants as replies
use Rattle.flat_list.specs.Owned.{new_owner}
use Rattle.flat_list.specs.Sections.{name_at}
use Rattle.flat_list.proofs.GivenNames.{section_in_name}
use Rattle.port_search.proofs.TurnSearch.{gave_none}
use Rattle.table_model.specs.Asking.{ends}
use Rattle.table_model.specs.Own.{Own, Mine, Offsets, with_label, next_name}
use Rattle.table_model.specs.Operations.{plain}
use Rattle.table_model.specs.Commands.{answers, socket_command}
use Rattle.sock_ops.specs.declared.tables.Tables.{Tables}
use Rattle.sock_ops.specs.declared.tables.Worker.{Worker}
use Rattle.sock_ops.specs.Stands.{turned, chained}
use Rattle.sock_ops.proofs.Goes.{does_none}
use Rattle.section_machine.specs.Carried.{Carries}
use Rattle.section_machine.specs.Places.{Labelled, with_given, with_place, own_of}
use Rattle.section_machine.specs.Sections.{Kept, kept}
use Rattle.section_machine.specs.Standing.{roll_of, IsSection, IsUngiven}
use Rattle.section_machine.proofs.Newcomers.{newborn}
use Rattle.section_machine.proofs.Owns.{socket_given}
use Rattle.section_machine.proofs.Rolls.{socket_more}
use Rattle.section_machine.proofs.Settled.{ends_at_once}

-- the name of the next label was given to none
pub next_ungiven : (own : Own) → IsUngiven (roll_of own) (next_name own)
next_ungiven own = omega arith

pub next_rises : (own : Own) (label : List ℕ) → next_name own < next_name (with_label own label)
next_rises own label = omega (arith, length-append own.labels (label ∷ []))

-- a new socket
pub made : (t : Tables) (k : Kept) (header : Header) (l l1 l2 : Labelled) (moment : ℕ) (o : Offsets) (waits : List Mine) (label : List ℕ) (options : Options) (w : Worker) → kept header (own_of l moment o waits) ≡ k
    → length l.places ≡ length l.labels → l1 ≡ with_given l label → l2 ≡ with_place l1 (length l.labels) (Some (plain (new_owner (name_at l.number (length l.labels)) l.mark options))) → length k.own.labels + 1 < 2 ^ 56 → IsSection t k w
    → Carries t k (socket_command k.own label options) (kept header (own_of l2 moment o waits)) w w replies.Ok
made t k header l l1 l2 moment o waits label options w view count given is few section =
    let own = own_of l moment o waits in
    let name = name_at l.number (length l.labels) in
    let m : Mine = plain (new_owner name l.mark options) in
    let was : IsSection t (kept header own) w = subst (λ (x : Kept). IsSection t x w) (sym view) section in
    let room : length l.labels + 1 < 2 ^ 56 = subst (λ (x : Kept). length x.own.labels + 1 < 2 ^ 56) (sym view) few in
    let un = next_ungiven own in
    let its_section = section_in_name l.number (length l.labels) room in
    let more = next_rises own label in
    let next = next_name (with_label own label) in
    let new = newborn t (roll_of own) (turned w) (chained t w) next m was.tells its_section more (was.unspoken name un) refl in
    let now = socket_more t (roll_of own) (turned w) (turned w) (chained t w) (chained t w) [] [] (record { gave = gave_none (turned w); does = does_none (chained t w) }) was.tells
    (record { all = was.stand; unspoken = was.unspoken }) next name un more 0 tt tt m refl new in
    let same = socket_given l l1 l2 label m moment o waits count given is in
    subst (λ (x : Kept). Carries t x (socket_command x.own label options) (kept header (own_of l2 moment o waits)) w w replies.Ok) view
    (ends_at_once t (kept header own) (socket_command own label options) (kept header (own_of l2 moment o waits)) w replies.Ok
    (ap (λ (x : Own). ends (answers x replies.Ok)) same)
    (subst (λ (x : Own). IsSection t (kept header x) w) same
    (record {
      tables = record { shape = was.tables.shape; seed = was.tables.seed; buckets = was.tables.buckets };
      ready = was.ready;
      number = was.number;
      tells = was.tells;
      stand = now.all;
      unspoken = now.unspoken;
    })))
