-- A command of a worker that is alone: its reply is the list's, and the worker is alone still.
use Rattle.std.proofs.Common.{◌≡◌, ℕ, ◌+◌, ◌<◌, ◌≤◌, ◌^◌, false, List, [], ◌∷◌, ◌++◌, length, map, Some, Result, Ok, Err, IfOk, OnOk, refl, sym, ap, ◌∙◌, subst}
use Rattle.std.specs.declared.alloc.AllocError.{AllocError}
use Rattle.turn_table.specs.declared.note.Placed.{Placed}
use Rattle.bind_buckets.specs.declared.request.Entry.{Entry}
use Rattle.bind_buckets.specs.Turned.{IsAlone, AreLawful}
use Rattle.flat_list.specs.declared.header.Header.{Header}
use Rattle.flat_list.specs.declared.command.Command.{Command}
use Rattle.flat_list.specs.declared.command.Query.{Query}
use Rattle.flat_list.specs.declared.command.Reply.{Reply}
use Rattle.flat_list.specs.declared.kept.Form.{Form}
use Rattle.flat_list.specs.declared.kept.Form.TheVariants as forms
use Rattle.flat_list.specs.Kept.{kept_command}
use Rattle.reuseport_group.specs.Passes as lists
use Rattle.sock_script.specs.Steps.{takes_items}
use Rattle.table_rule.specs.declared.view.ReadView.{ReadView}
use Rattle.table_model.specs.Asking.{ends}
use Rattle.table_model.specs.Commands.{answers, plan}
use Rattle.table_model.specs.Goes.{tables_by}
use Rattle.table_model.specs.Means.{is_lookup}
use Rattle.table_model.specs.Own.{Own}
use Rattle.table_model.specs.Tables.{run}
use Rattle.table_model.proofs.commands.Alone.{goes_alone}
use Rattle.table_model.proofs.commands.Laws.{plans_refine}
use Rattle.race_record.specs.Deeds.{Deed, entered, inserted, added, left, reaped, entries_in}
use Rattle.race_record.specs.Laws.{told_of}
use Rattle.race_record.proofs.Leads.{goes_leads, tells_entries}
use Rattle.sock_ops.specs.Made.{AllLeave, Made}
use Rattle.sock_ops.specs.Sides.{Side, chains_by}
use Rattle.section_machine.specs.Sections.{Did, Kept}
use Rattle.section_machine.specs.Standing.{IsSection}
use Rattle.sock_ops.specs.declared.tables.Tables.{Tables}
use Rattle.sock_ops.specs.declared.tables.Worker.{Worker}
use Rattle.sock_ops.specs.Groups.{KeepsLists, ListsArePublished}
use Rattle.sock_ops.specs.Stands.{IsReady, buckets_of, chained, turned}
use Rattle.race_run.specs.Sole.{IsSole, tables_of}
use Rattle.race_run.specs.Steps.{IsRunning, RefinesEach}

-- Deeds and counts

record IsQuiet (c d : Side) : Type 0 where
  holds : d.view.slot.holds ≡ c.view.slot.holds
  read : d.view.read ≡ c.view.read

-- deeds hold no count, and look nothing up
quiet : (deeds : List Deed) (c d : Side) → AllLeave deeds c d → IsQuiet c d
quiet [] c d l = record { holds = ap (λ (e : Side). e.view.slot.holds) (sym l); read = ap (λ (e : Side). e.view.read) (sym l) }
quiet (deed ∷ deeds) c d l =
    let one = quiet_one deed c l.0 l.1 in
    let rest = quiet deeds l.0 d l.2 in
    record { holds = rest.holds ∙ one.holds; read = rest.read ∙ one.read }
  where
    of_made : (x : Deed) (a b : Side) → Made x a b → IsQuiet a b
    of_made x a b m = record { holds = m.holds; read = m.read }

    quiet_one : (x : Deed) (a b : Side) → Rattle.sock_ops.specs.Made.Leaves x a b → IsQuiet a b
    quiet_one (entered port note) a b m = record { holds = ap (λ (e : Side). e.view.slot.holds) (sym m); read = ap (λ (e : Side). e.view.read) (sym m) }
    quiet_one (inserted wish tried) a b m = of_made (inserted wish tried) a b m
    quiet_one (added card tried) a b m = of_made (added card tried) a b m
    quiet_one (left u) a b m = of_made (left u) a b m
    quiet_one (reaped card u) a b m = of_made (reaped card u) a b m

module _ (t : Tables) (k : Kept) (w u : Worker) (command : Command) (next : Own) (reply : Reply) (section : IsSection t k w) (sole : IsSole t w)
    (did : Did k.header k.own command (turned w) (turned u) (chained t w) (chained t u) next reply) (ready : IsReady t u)
  where
    abbrev count : ℕ
    count = buckets_of t

    buckets : k.header.shape.bind ≡ count
    buckets = sym section.tables.buckets

    some : 1 ≤ count
    some = ready.idle.some

    alone : IsAlone (turned u)
    alone = (did.gave.caller ∙ sole.turns.0, did.gave.splits ∙ sole.turns.1)

    abbrev told : List Rattle.table_model.specs.Goes.Told
    told = map (told_of count) did.deeds

    given : (turned u).mine ≡ (turned w).mine ++ Rattle.table_model.specs.Goes.entries_in told
    given = did.gave.mine ∙ ap (λ n. (turned w).mine ++ entries_in n did.deeds) buckets ∙ ap (λ (es : List (Placed Entry)). (turned w).mine ++ es) (tells_entries count did.deeds)

    lawful : AreLawful count ((turned w).mine ++ Rattle.table_model.specs.Goes.entries_in told)
    lawful = subst (AreLawful count) given (ready.idle.knows alone)

    -- the plan comes to that on its tables
    comes : run (tables_of t w) (plan k.header k.own command) ≡ Some (record { tables = tables_of t u; result = answers next reply })
    comes =
        goes_alone count some (turned w).mine (chains_by (chained t w)) (chains_by (chained t u)) (plan k.header k.own command) told (ends (answers next reply)) lawful
        ((did.does.alone sole.chains).0 count) (goes_leads count (plan k.header k.own command) did.deeds (answers next reply) did.goes)
        ∙ ap (λ (g : List (Placed Entry)). run (tables_by count g (chains_by (chained t u))) (ends (answers next reply))) (sym given)

    pub command_refines : length k.own.labels + 1 < 2 ^ 56 → is_lookup command ≡ false → RefinesEach k (tables_of t w) command (tables_of t u) next reply
    command_refines room asks_none flat header means =
        plans_refine k.own.number k.own (tables_of t w) flat command (record { tables = tables_of t u; result = answers next reply }) section.number room asks_none means
        (ap (λ (h : Header). run (tables_of t w) (plan h k.own command)) header ∙ comes)

    pub command_leaves : lists.IsSole u.groups → ListsArePublished t u → IsSole t u
    command_leaves groups listed =
        let q = quiet did.deeds (chained t w) (chained t u) did.does.leaves in
        let n = sole.nothing in
        record {
          ready = ready;
          turns = alone;
          chains = (did.does.alone sole.chains).1;
          nothing = record {
            holds = q.holds ∙ n.holds;
            kept = ap (λ (r : ReadView). r.kept) q.read ∙ n.kept;
            reader = ap (λ (r : ReadView). r.reader) q.read ∙ n.reader;
          };
          groups = groups;
          listed = listed;
        }

-- What a step answers

-- a command that is no lookup and takes no items asks for no lookup
pub kept_no_lookup : (form : Form) → takes_items (kept_command form) ≡ false → ((query : Query) → form ≡ forms.Look query → ⊥) → is_lookup (kept_command form) ≡ false
kept_no_lookup (forms.Look query) none other = absurd (other query refl)
kept_no_lookup (forms.Packets n) none other = none
kept_no_lookup _ none other = refl

module _ (t : Tables) (k l : Kept) (w u : Worker) (command : Command) (running : IsRunning t k w) (ready : IsReady t u) where
  abbrev Does : Reply → Type 0
  Does reply = Did k.header k.own command (turned w) (turned u) (chained t w) (chained t u) l.own reply

  pub step_leaves : (r : Result Reply AllocError) → IfOk r Does → IsSection t l u → KeepsLists t w u → OnOk r (IsRunning t l u)
  step_leaves (Ok reply) did section lists =
      let s = running.sole in
      record {
        section = section;
        sole = command_leaves t k w u command l.own reply running.section s did ready (lists.sole s.groups) (lists.listed s.turns s.listed);
      }
  step_leaves (Err e) did section lists = tt

  pub step_refines : (r : Result Reply AllocError) → IfOk r Does → length k.own.labels + 1 < 2 ^ 56 → is_lookup command ≡ false
      → IfOk r (RefinesEach k (tables_of t w) command (tables_of t u) l.own)
  step_refines (Ok reply) did room none = command_refines t k w u command l.own reply running.section running.sole did ready room none
  step_refines (Err e) did room none = tt
