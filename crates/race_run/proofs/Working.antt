-- A job, by the script.
use Rattle.std.proofs.Common.{◌≡◌, ℕ, zero, suc, ◌+◌, ◌<◌, ◌≤◌, ◌^◌, List, [], ◌∷◌, length, map, get_or, sym, ap, ◌∙◌, subst, arith}
use Rattle.std.proofs.lemmas.List.{length-map}
use Rattle.capture_reader.specs.declared.packet.Item.{Item}
use Rattle.flat_list.specs.Script.{Script}
use Rattle.flat_list.specs.declared.command.Command.{Command}
use Rattle.flat_list.specs.declared.header.Header.{Header}
use Rattle.sock_ops.specs.declared.tables.Tables.{Tables}
use Rattle.tickets.specs.declared.pass.TicketPass.{TicketPass}
use Rattle.tickets.specs.declared.pass.Tickets.{Tickets}
use Rattle.race_run.specs.declared.looker.Look.{Look}
use Rattle.race_run.specs.declared.jobs.Job.{Job}
use Rattle.race_run.specs.Jobs.{IsOver, said_by}
use Rattle.race_run.specs.Lookers.{item_of}
use Rattle.race_run.specs.Shares.{HasDrawnNothing, HasTold}
use Rattle.race_run.specs.Races.{SectionDone}
use Rattle.race_run.specs.Workers.{part_of}
use Rattle.race_run.specs.Scripts.{IsForRace, LooksNothingUp}
use Rattle.race_run.specs.Works.{HasRun, HasShared, IsWorked}
use Rattle.race_run.proofs.Running.{each_get}

pub get_map : {A B : Type 0} (f : A → B) (xs : List A) (i : ℕ) (x : A) (e : B) → i < length xs → x ≡ get_or xs i x → get_or (map f xs) i e ≡ f x
get_map f [] i x e l is = absurd (omega (arith, l))
get_map f (y ∷ ys) zero x e l is = ap f (sym is)
get_map f (y ∷ ys) (suc i) x e l is = get_map f ys i x e (omega (arith, l)) is

-- the commands at a place
pub commands_at : {A : Type 0} (f : A → List Command) (script : Script) (xs : List A) (i : ℕ) (x : A) → map f xs ≡ script.sections → i < length xs → x ≡ get_or xs i x → f x ≡ get_or script.sections i []
commands_at f script xs i x all l is = sym (ap (λ (l : List (List Command)). get_or l i []) (sym all) ∙ get_map f xs i x [] l is)

pub count_is : {A : Type 0} (f : A → List Command) (script : Script) (xs : List A) → map f xs ≡ script.sections → length xs ≡ length script.sections
count_is f script xs all = sym (length-map xs f) ∙ ap (λ (l : List (List Command)). length l) all

pub few_in : (script : Script) (i : ℕ) (commands : List Command) → IsForRace script → i < length script.sections → commands ≡ get_or script.sections i [] → length commands < 2 ^ 24
few_in script i commands fits l is = subst (λ (cs : List Command). length cs < 2 ^ 24) (sym is) (each_get (λ (cs : List Command). length cs < 2 ^ 24) script.sections i [] fits.small.commands l)

pub looks_in : (script : Script) (i : ℕ) (commands : List Command) → IsForRace script → i < length script.sections → commands ≡ get_or script.sections i [] → LooksNothingUp commands
looks_in script i commands fits l is = subst LooksNothingUp (sym is) (each_get LooksNothingUp script.sections i [] fits.looks l)

module _ (script : Script) (passes : ℕ) (all : List Item) (t : Tables) (q : Tickets) (n : ℕ) (j : Job) (over : IsOver t q j) where
  pub worked_section : n < length script.sections → HasRun script.header (n + 1) (get_or script.sections n []) j → IsWorked script passes all t q n j
  worked_section l run = record { over = over; section = λ l. run; looker = λ le. absurd (omega (arith, l, le)) }

  pub worked_looker : length script.sections ≤ n → HasShared script.header passes all j → IsWorked script passes all t q n j
  worked_looker le share = record { over = over; section = λ l. absurd (omega (arith, l, le)); looker = λ le. share }

-- who drew nothing has reported nothing
pub told_none : (q : Tickets) (p : TicketPass) (told : List Look) → HasDrawnNothing q p → told ≡ [] → HasTold q p told
told_none q p told h e = record { table = h.table; part = h.part; drawn = h.drawn ∙ ap (map item_of) (sym e) }

pub ran : (given header : Header) (n : ℕ) (commands all : List Command) (j : Job) → given ≡ header → commands ≡ all → SectionDone given n commands (part_of j.worker) (said_by j) → j.told.items ≡ [] → HasRun header n all j
ran given header n commands all j is same done told =
    record { done = subst (λ (h : Header). SectionDone h n all (part_of j.worker) (said_by j)) is (subst (λ (l : List Command). SectionDone given n l (part_of j.worker) (said_by j)) same done); told = told }
