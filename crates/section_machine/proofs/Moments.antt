-- A section at another moment, and with another mark.
use Rattle.std.proofs.Common.{◌≡◌, ◌≤◌, ℕ, List, cond, ap, ◌∙◌, subst, sym}
use Rattle.std.proofs.lemmas.Bool.{le-ltb}
use Rattle.flat_list.specs.declared.header.Header.{Header}
use Rattle.flat_list.specs.declared.command.Reply.TheVariants as replies
use Rattle.table_model.specs.Asking.{ends}
use Rattle.table_model.specs.Own.{Mine, Offsets}
use Rattle.table_model.specs.Commands.{answers, at_command}
use Rattle.sock_ops.specs.declared.tables.Tables.{Tables}
use Rattle.sock_ops.specs.declared.tables.Worker.{Worker}
use Rattle.section_machine.specs.Carried.{Carries}
use Rattle.section_machine.specs.Places.{Labelled, own_of, with_mark as labels_with}
use Rattle.section_machine.specs.Sections.{Kept, kept, with_mark}
use Rattle.section_machine.specs.Standing.{IsSection, StaysSection}
use Rattle.section_machine.proofs.Settled.{ends_at_once}

-- its sockets stand as they did
at_moment : (t : Tables) (header : Header) (l : Labelled) (moment then_ : ℕ) (o : Offsets) (waits : List Mine) (w : Worker) → IsSection t (kept header (own_of l moment o waits)) w → IsSection t (kept header (own_of l then_ o waits)) w
at_moment t header l moment then_ o waits w s =
    record {
      tables = record { shape = s.tables.shape; seed = s.tables.seed; buckets = s.tables.buckets };
      ready = s.ready;
      number = s.number;
      tells = s.tells;
      stand = s.stand;
      unspoken = s.unspoken;
    }

pub later : (t : Tables) (k : Kept) (header : Header) (l : Labelled) (moment then_ : ℕ) (o : Offsets) (waits : List Mine) (w : Worker) → kept header (own_of l moment o waits) ≡ k → moment ≤ then_ → IsSection t k w
    → Carries t k (at_command k.own then_) (kept header (own_of l then_ o waits)) w w replies.Ok
later t k header l moment then_ o waits w view le section =
    subst (λ (x : Kept). Carries t x (at_command x.own then_) (kept header (own_of l then_ o waits)) w w replies.Ok) view
    (ends_at_once t (kept header (own_of l moment o waits)) (at_command (own_of l moment o waits) then_) (kept header (own_of l then_ o waits)) w replies.Ok
    (ap (λ b. cond b (ends (answers (own_of l moment o waits) replies.Einval)) (ends (answers (own_of l then_ o waits) replies.Ok))) (le-ltb then_ moment le))
    (at_moment t header l moment then_ o waits w (subst (λ (x : Kept). IsSection t x w) (sym view) section)))

-- sockets to come get another mark, and those that are there stand as they did
pub marked : (k : Kept) (mark : ℕ) → StaysSection k (with_mark k mark)
marked k mark t w s =
    record {
      tables = record { shape = s.tables.shape; seed = s.tables.seed; buckets = s.tables.buckets };
      ready = s.ready;
      number = s.number;
      tells = s.tells;
      stand = s.stand;
      unspoken = s.unspoken;
    }

pub mark_set : (k : Kept) (header : Header) (l l1 : Labelled) (mark moment : ℕ) (o : Offsets) (waits : List Mine) → kept header (own_of l moment o waits) ≡ k → l1 ≡ labels_with l mark
    → kept header (own_of l1 moment o waits) ≡ with_mark k mark
mark_set k header l l1 mark moment o waits view is =
    ap (λ (x : Labelled). kept header (own_of x moment o waits)) is ∙ ap (λ (x : Kept). with_mark x mark) view
